use Rattle.affc_moduli.proofs.Suited.{all_above_zero}
use Rattle.affc_moduli.proofs.enough.is_positive.Goals as goal

pub returns-clause-positive : goal.returns-clause-positive
returns-clause-positive c =
    all_above_zero c.args.context.now c.in-Ok.nothing c.args.modulus.now c.columns.result c.is_below.result c.in-Ok.ensures.value c.requires.modulus c.is_below.ensures.below
