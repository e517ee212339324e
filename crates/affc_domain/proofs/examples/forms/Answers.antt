use Rattle.affc_domain.proofs.ExampleProofs as x
use Rattle.affc_domain.proofs.examples.forms.Goals as goal

pub returns : goal.returns
returns c = record { units_of_columns = x.units_of_columns; forms_of_sums = x.forms_of_sums; which_are_affine = x.which_are_affine; small_forms = x.small_forms; small_in_each_part = x.small_in_each_part; names_in_sight = x.names_in_sight }
