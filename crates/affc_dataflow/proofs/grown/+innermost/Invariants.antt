use Rattle.affc_dataflow.proofs.grown.+innermost.Given as goal

abbrev pub decreases-innermost : goal.decreases-innermost
decreases-innermost l = l.steps
