use Rattle.affc_accept.proofs.ExampleProofs as x
use Rattle.affc_accept.proofs.examples.bases.Goals as goal

pub returns : goal.returns
returns c = record { given_is_kept = x.given_is_kept; whole_is_kept = x.whole_is_kept; other_modulus_is_not = x.other_modulus_is_not; other_basis_is_not = x.other_basis_is_not; none_is_given = x.none_is_given }
