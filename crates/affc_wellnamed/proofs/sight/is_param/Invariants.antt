use Rattle.std.proofs.Common.{◌≡◌, drop}
use Rattle.std.specs.List.{list_any}
use Rattle.affc_lex.specs.Bytes.{same}
use Rattle.affc_wellnamed.specs.Known.{param_name}
use Rattle.affc_wellnamed.proofs.sight.is_param.Given as goal

abbrev pub invariant-loop-param : goal.invariant-loop-param
invariant-loop-param l = list_any (λ q. same (param_name q) l.name) (drop l.param-index l.params) ≡ list_any (λ q. same (param_name q) l.name) l.params
