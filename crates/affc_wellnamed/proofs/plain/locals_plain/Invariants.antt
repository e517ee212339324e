use Rattle.std.proofs.Common.{◌≡◌, drop}
use Rattle.std.specs.List.{list_all}
use Rattle.affc_cprint.specs.Forms as spec
use Rattle.affc_wellnamed.specs.Plain.{is_plain}
use Rattle.affc_wellnamed.proofs.plain.locals_plain.Given as goal

abbrev pub invariant-loop-local : goal.invariant-loop-local
invariant-loop-local l = list_all (spec.local_passes is_plain) (drop l.local-index l.locals) ≡ list_all (spec.local_passes is_plain) l.locals
