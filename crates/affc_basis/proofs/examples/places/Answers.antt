use Rattle.affc_basis.proofs.ExampleProofs as x
use Rattle.affc_basis.proofs.examples.places.Goals as goal

pub returns : goal.returns
returns c = record { place_of_four = x.place_of_four; of_the_blur = x.places_of_the_blur; by_second_fold = x.place_by_second_fold; own_moduli = x.rows_have_their_moduli }
