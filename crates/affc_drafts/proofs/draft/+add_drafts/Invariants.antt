use Rattle.affc_drafts.proofs.draft.+add_drafts.Given as goal

abbrev pub decreases-add_drafts : goal.decreases-add_drafts
decreases-add_drafts l = l.left
