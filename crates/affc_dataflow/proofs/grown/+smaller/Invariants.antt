use Rattle.affc_dataflow.proofs.grown.+smaller.Given as goal

abbrev pub decreases-smaller : goal.decreases-smaller
decreases-smaller l = l.times
