use Rattle.std.proofs.Common.{◌≡◌, ◌+◌, ◌*◌, Ok, map, take}
use Rattle.affc_grammar.specs.Names as names
use Rattle.affc_syntax.specs.draft.Drafts as seen
use Rattle.affc_names.specs.Stored as stored
use Rattle.affc_names.proofs.Statements.{weight, weights}
use Rattle.affc_names.proofs.statement.+stmts.Given as goal

abbrev pub decreases-stmt_tree : goal.decreases-stmt_tree
decreases-stmt_tree l = 3 * weight (seen.stmt l.draft.now)

abbrev pub decreases-for_tree : goal.decreases-for_tree
decreases-for_tree l = 3 * weights (seen.stmts_of (map seen.stmt l.body.now)) + 2

abbrev pub decreases-if_tree : goal.decreases-if_tree
decreases-if_tree l = 3 * (weights (seen.stmts_of (map seen.stmt l.body.now)) + weights (seen.stmts_of (map seen.stmt l.other.now))) + 2

abbrev pub decreases-block_tree : goal.decreases-block_tree
decreases-block_tree l = 3 * weights (seen.stmts_of (map seen.stmt l.body.now)) + 2

abbrev pub decreases-stmts_tree : goal.decreases-stmts_tree
decreases-stmts_tree l = 3 * weights (seen.stmts_of (map seen.stmt l.drafts.now)) + 1

abbrev pub invariant-stmts_tree-loop-draft : goal.invariant-stmts_tree-loop-draft
invariant-stmts_tree-loop-draft l = record {
  tree : names.stmts_tree l.fn.scope (stored.stmts (seen.stmts_of (map seen.stmt (take l.draft-index l.drafts)))) ≡ Ok l.stmts;
  same : l.scope ≡ l.fn.scope;
}
