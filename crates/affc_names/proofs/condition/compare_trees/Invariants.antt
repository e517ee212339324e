use Rattle.std.proofs.Common.{◌≡◌, Ok, map, take}
use Rattle.affc_grammar.specs.Names as names
use Rattle.affc_syntax.specs.draft.Drafts as drafts
use Rattle.affc_names.specs.Stored as stored
use Rattle.affc_names.proofs.condition.compare_trees.Given as goal

abbrev pub invariant-loop-draft : goal.invariant-loop-draft
invariant-loop-draft l = names.each (names.compare_tree l.scope) (map stored.compare (map drafts.compare (take l.draft-index l.drafts))) ≡ Ok l.trees
