use Rattle.affc_basis.proofs.ListedBases.{listed_bases}
use Rattle.affc_basis.proofs.laws.listed_are_bases.Goals as goal

pub returns : goal.returns
returns c = record { law = listed_bases }
