use Rattle.affc_system.proofs.SystemLemmas.{point_of_more_rows, point_of_fewer_rows}
use Rattle.affc_system.proofs.laws.point_of_more_rows.Goals as goal

pub returns : goal.returns
returns c = λ system more point. (λ p. point_of_fewer_rows system more point p, λ p. point_of_more_rows system more point p.0 p.1)
