use Rattle.std.proofs.Common.{◌+◌, ◌*◌}
use Rattle.affc_syntax.specs.draft.Drafts.{ix}
use Rattle.affc_limits.proofs.PartLaws.{nodes}
use Rattle.affc_limits.proofs.parts.+formed.Given as goal

abbrev pub decreases-formed : goal.decreases-formed
decreases-formed l = 2 * nodes (ix l.e.now)

abbrev pub decreases-both_formed : goal.decreases-both_formed
decreases-both_formed l = 2 * (nodes (ix l.left.now) + nodes (ix l.right.now)) + 1
