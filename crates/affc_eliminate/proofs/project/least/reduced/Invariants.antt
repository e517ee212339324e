use Rattle.std.proofs.Common.{take}
use Rattle.affc_eliminate.specs.project.States.{AreReduced}
use Rattle.affc_eliminate.proofs.project.least.reduced.Given as goal

abbrev pub invariant-loop-kept : goal.invariant-loop-kept
invariant-loop-kept l = AreReduced l.keep (take l.kept-index l.live) l.rows.items
