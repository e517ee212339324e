use Rattle.std.proofs.Common.{◌≡◌, drop}
use Rattle.std.specs.List.{list_all}
use Rattle.affc_cprint.specs.Forms as spec
use Rattle.affc_wellnamed.specs.Plain.{is_plain}
use Rattle.affc_wellnamed.proofs.plain.+statements.Given as goal

abbrev pub invariant-stmts_plain-loop-s : goal.invariant-stmts_plain-loop-s
invariant-stmts_plain-loop-s l = list_all (spec.stmt_passes is_plain) (drop l.s-index l.body) ≡ list_all (spec.stmt_passes is_plain) l.body
