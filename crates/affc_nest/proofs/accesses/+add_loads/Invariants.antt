use Rattle.affc_nest.proofs.accesses.+add_loads.Given as goal

abbrev pub decreases-add_loads : goal.decreases-add_loads
decreases-add_loads l = goal.size-add_loads l
