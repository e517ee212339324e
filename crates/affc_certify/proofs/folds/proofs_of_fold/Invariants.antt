use Rattle.affc_certify.proofs.folds.proofs_of_fold.Given as goal

abbrev pub ghost-list_fold : goal.ghost-list_fold
ghost-list_fold g a = g.under
