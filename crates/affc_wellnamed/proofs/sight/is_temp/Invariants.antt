use Rattle.std.proofs.Common.{◌≡◌, drop}
use Rattle.std.specs.List.{list_any}
use Rattle.affc_lex.specs.Bytes.{same}
use Rattle.affc_wellnamed.proofs.sight.is_temp.Given as goal

abbrev pub invariant-loop-temp : goal.invariant-loop-temp
invariant-loop-temp l = list_any (λ d. same d.name l.name) (drop l.temp-index l.temps) ≡ list_any (λ d. same d.name l.name) l.temps
