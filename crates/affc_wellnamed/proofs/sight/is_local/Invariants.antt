use Rattle.std.proofs.Common.{◌≡◌, drop}
use Rattle.std.specs.List.{list_any}
use Rattle.affc_lex.specs.Bytes.{same}
use Rattle.affc_wellnamed.proofs.sight.is_local.Given as goal

abbrev pub invariant-loop-local : goal.invariant-loop-local
invariant-loop-local l = list_any (λ x. same x.name l.name) (drop l.local-index l.locals) ≡ list_any (λ x. same x.name l.name) l.locals
