use Rattle.std.proofs.Common.{◌≡◌, drop}
use Rattle.affc_lex.specs.Lexes.{is_refused}
use Rattle.affc_lex.specs.Reading.{first_place}
use Rattle.affc_lex.proofs.Places.{ahead}
use Rattle.affc_lex.proofs.scan.first_refused.Given as goal

abbrev pub invariant-loop-at : goal.invariant-loop-at
invariant-loop-at l = first_place is_refused l.text ≡ ahead l.at (first_place is_refused (drop l.at l.text))
