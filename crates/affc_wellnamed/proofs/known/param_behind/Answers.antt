use Rattle.std.proofs.Common.{ap, ◌∙◌}
use Rattle.affc_wellnamed.specs.Known.{param_known}
use Rattle.affc_wellnamed.proofs.known.param_behind.Goals as goal

pub returns : goal.returns
returns c = c.param_known.ensures ∙ ap (λ k. param_known k c.args.param.now) (c.behind-sight.ensures c.args.prelude)
