use Rattle.std.proofs.Common.{◌≡◌}
use Rattle.affc_names.specs.Visible.{without}
use Rattle.affc_names.proofs.statement.forget.Given as goal

abbrev pub invariant-loop-gone : goal.invariant-loop-gone
invariant-loop-gone l = l.scope ≡ without l.gone l.fn.scope
