use Rattle.std.proofs.Common.{◌≡◌}
use Rattle.affc_certify.proofs.written.Written.add.Given as goal

abbrev pub invariant-loop-row : goal.invariant-loop-row
invariant-loop-row l = l.self.system.columns ≡ l.initial.self.system.columns
