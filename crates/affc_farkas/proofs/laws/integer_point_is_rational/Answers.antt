use Rattle.affc_farkas.proofs.Rationals.{integer_point}
use Rattle.affc_farkas.proofs.laws.integer_point_is_rational.Goals as goal

pub returns : goal.returns
returns c = integer_point
