use Rattle.affc_parse.proofs.Refusals.{answered}
use Rattle.affc_parse.proofs.laws.programs_are_answered.Goals as goal

pub returns : goal.returns
returns c = answered
