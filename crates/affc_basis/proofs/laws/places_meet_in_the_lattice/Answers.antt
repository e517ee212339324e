use Rattle.affc_basis.proofs.FoldPlaces.{places_meet_in_the_lattice}
use Rattle.affc_basis.proofs.laws.places_meet_in_the_lattice.Goals as goal

pub returns : goal.returns
returns c = record { law = places_meet_in_the_lattice }
