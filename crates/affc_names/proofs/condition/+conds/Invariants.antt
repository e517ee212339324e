use Rattle.std.proofs.Common.{◌≡◌, ◌+◌, ◌*◌, Ok, map, take}
use Rattle.affc_grammar.specs.Names as names
use Rattle.affc_syntax.specs.draft.Drafts as seen
use Rattle.affc_names.specs.Stored as stored
use Rattle.affc_names.proofs.Conditions.{cond_weight, conds_weight}
use Rattle.affc_names.proofs.condition.+conds.Given as goal

abbrev pub decreases-cond_tree : goal.decreases-cond_tree
decreases-cond_tree l = 2 * cond_weight (seen.cond l.draft.now)

abbrev pub decreases-cond_trees : goal.decreases-cond_trees
decreases-cond_trees l = 2 * conds_weight (seen.conds_of (map seen.cond l.drafts.now)) + 1

abbrev pub invariant-cond_trees-loop-draft : goal.invariant-cond_trees-loop-draft
invariant-cond_trees-loop-draft l = names.conds_tree l.scope (stored.conds (seen.conds_of (map seen.cond (take l.draft-index l.drafts)))) ≡ Ok l.trees
