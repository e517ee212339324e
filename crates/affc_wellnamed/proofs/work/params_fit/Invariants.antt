use Rattle.std.proofs.Common.{◌≡◌, drop}
use Rattle.std.specs.List.{list_all}
use Rattle.affc_wellnamed.specs.Work.{param_fits}
use Rattle.affc_wellnamed.proofs.work.params_fit.Given as goal

abbrev pub invariant-loop-param : goal.invariant-loop-param
invariant-loop-param l = list_all param_fits (drop l.param-index l.params) ≡ list_all param_fits l.params
