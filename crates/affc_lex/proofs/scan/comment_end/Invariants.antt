use Rattle.std.proofs.Common.{◌≡◌, codes, drop}
use Rattle.affc_lex.specs.Bytes.{begins}
use Rattle.affc_lex.specs.Reading.{first_place}
use Rattle.affc_lex.proofs.Places.{ahead}
use Rattle.affc_lex.proofs.scan.comment_end.Given as goal

abbrev pub invariant-loop-at : goal.invariant-loop-at
invariant-loop-at l = first_place (begins (codes "*/")) l.inside ≡ ahead l.at (first_place (begins (codes "*/")) (drop l.at l.inside))
