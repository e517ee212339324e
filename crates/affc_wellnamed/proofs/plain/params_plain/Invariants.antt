use Rattle.std.proofs.Common.{◌≡◌, drop}
use Rattle.std.specs.List.{list_all}
use Rattle.affc_cprint.specs.Forms as spec
use Rattle.affc_wellnamed.specs.Plain.{is_plain}
use Rattle.affc_wellnamed.proofs.plain.params_plain.Given as goal

abbrev pub invariant-loop-param : goal.invariant-loop-param
invariant-loop-param l = list_all (spec.param_passes is_plain) (drop l.param-index l.params) ≡ list_all (spec.param_passes is_plain) l.params
