use Rattle.affc_interp.proofs.Agrees.{runs_cut}
use Rattle.affc_interp.proofs.laws.runs_are_cut_at_their_limit.Goals as goal

pub returns : goal.returns
returns c = runs_cut
