use Rattle.std.proofs.Common.{◌≡◌, take}
use Rattle.std.specs.List.{All}
use Rattle.affc_rows.specs.Vocabulary.{opposite}
use Rattle.affc_eliminate.proofs.opposites.opposite_place.Given as goal

abbrev pub invariant-loop-n : goal.invariant-loop-n
invariant-loop-n l = All (λ k. k.row ≡ opposite l.row → ⊥) (take l.n l.rows)
