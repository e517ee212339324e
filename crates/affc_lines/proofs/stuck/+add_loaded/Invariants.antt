use Rattle.affc_lines.proofs.stuck.+add_loaded.Given as goal

abbrev pub decreases-add_loaded : goal.decreases-add_loaded
decreases-add_loaded l = goal.size-add_loaded l
