use Rattle.std.proofs.Common.{ap, ◌∙◌}
use Rattle.affc_names.specs.Visible.{without}
use Rattle.affc_names.proofs.Statements.{one_without}
use Rattle.affc_names.proofs.statement.forget.Goals as goal

pub loop-gone-preserved : goal.loop-gone-preserved
loop-gone-preserved c = c.forget_last.ensures ∙ ap (without 1) c.loop-gone.invariant ∙ one_without c.loop-gone.gone c.args.scope.now
