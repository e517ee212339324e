use Rattle.affc_ast.proofs.Readings.{is_whole}
use Rattle.affc_ast.proofs.laws.readings_agree.Goals as goal

pub returns : goal.returns
returns c = is_whole
