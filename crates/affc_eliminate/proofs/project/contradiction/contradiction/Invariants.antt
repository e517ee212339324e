use Rattle.std.proofs.Common.{take}
use Rattle.std.specs.List.{All}
use Rattle.affc_eliminate.specs.project.States.{IsContradiction}
use Rattle.affc_eliminate.proofs.project.contradiction.contradiction.Given as goal

abbrev pub invariant-loop-place : goal.invariant-loop-place
invariant-loop-place l = All (λ k. IsContradiction k.row → ⊥) (take l.place l.live)
