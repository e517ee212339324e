use Rattle.affc_check.proofs.list.trees.+add_none.Given as goal

abbrev pub decreases-add_none : goal.decreases-add_none
decreases-add_none l = l.loads
