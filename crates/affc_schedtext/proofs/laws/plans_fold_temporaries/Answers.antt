use Rattle.affc_schedtext.proofs.FoldedArrays.{different_arrays, each_in}
use Rattle.affc_schedtext.proofs.laws.plans_fold_temporaries.Goals as goal

pub returns : goal.returns
returns c = record { different = different_arrays; each = each_in }
