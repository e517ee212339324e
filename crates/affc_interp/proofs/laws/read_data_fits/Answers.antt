use Rattle.affc_interp.proofs.Starts.{data_fits}
use Rattle.affc_interp.proofs.laws.read_data_fits.Goals as goal

pub returns : goal.returns
returns c = data_fits
