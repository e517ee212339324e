use Rattle.affc_split.proofs.ExampleProofs as x
use Rattle.affc_split.proofs.examples.budgets.Goals as goal

pub returns-clause-a_unit_is_one : goal.returns-clause-a_unit_is_one
returns-clause-a_unit_is_one c = x.a_unit_is_one

pub returns-clause-a_leaf_costs_one_unit : goal.returns-clause-a_leaf_costs_one_unit
returns-clause-a_leaf_costs_one_unit c = x.a_leaf_costs_one_unit

pub returns-clause-a_part_of_five : goal.returns-clause-a_part_of_five
returns-clause-a_part_of_five c = x.a_part_of_five
