use Rattle.affc_lines.proofs.Touched.{array_touched}
use Rattle.affc_lines.proofs.stuck.arrays_are_touched.Goals as goal

pub returns : goal.returns
returns c = array_touched
