use Rattle.std.proofs.Common.{ap, ◌∙◌}
use Rattle.affc_wellnamed.specs.Known.{temp_known}
use Rattle.affc_wellnamed.proofs.known.temp_behind.Goals as goal

pub returns : goal.returns
returns c = c.temp_known.ensures ∙ ap (λ k. temp_known k c.args.temp.now) (c.behind-sight.ensures c.args.prelude)
