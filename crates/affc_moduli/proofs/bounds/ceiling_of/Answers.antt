use Rattle.affc_moduli.proofs.AskedLemmas.{bounded_above}
use Rattle.affc_moduli.proofs.bounds.ceiling_of.Goals as goal

pub returns-clause-bounded : goal.returns-clause-bounded
returns-clause-bounded c =
    bounded_above c.args.region.now c.args.form.now c.in-Some.bound.most c.within_distances.result.most c.requires.askable.bounded c.in-Some.ensures.bounded c.within_distances.ensures.above
