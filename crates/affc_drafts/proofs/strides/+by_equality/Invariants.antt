use Rattle.affc_drafts.proofs.strides.+by_equality.Given as goal

abbrev pub decreases-by_equality : goal.decreases-by_equality
decreases-by_equality l = l.times
