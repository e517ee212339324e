use Rattle.affc_farkas.proofs.Sound.{sound_system}
use Rattle.affc_farkas.proofs.laws.valid_proof_refutes_points.Goals as goal

pub returns : goal.returns
returns c = sound_system
