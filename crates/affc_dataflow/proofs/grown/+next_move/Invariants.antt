use Rattle.affc_dataflow.proofs.grown.+next_move.Given as goal

abbrev pub decreases-next_move : goal.decreases-next_move
decreases-next_move l = l.turns
