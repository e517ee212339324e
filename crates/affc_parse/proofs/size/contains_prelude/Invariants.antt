use Rattle.std.proofs.Common.{◌≡◌, drop}
use Rattle.affc_lex.specs.Bytes.{contains}
use Rattle.affc_lex.specs.Pieces.{prelude}
use Rattle.affc_parse.proofs.size.contains_prelude.Given as goal

abbrev pub invariant-loop-at : goal.invariant-loop-at
invariant-loop-at l = contains prelude l.text ≡ contains prelude (drop l.at l.text)
