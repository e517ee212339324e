use Rattle.affc_io.proofs.Grown.{grown-part, front-take, front-within}
use Rattle.affc_io.proofs.sink.pieces_join.Goals as goal

pub returns-clause-parts : goal.returns-clause-parts
returns-clause-parts c = grown-part

pub returns-clause-front : goal.returns-clause-front
returns-clause-front c = front-take

pub returns-clause-front_within : goal.returns-clause-front_within
returns-clause-front_within c = front-within
