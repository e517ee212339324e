use Rattle.affc_moduli.proofs.AskedLemmas.{far}
use Rattle.affc_moduli.proofs.row.unasked.Goals as goal

pub bounded-requires-clause-far : goal.bounded-requires-clause-far
bounded-requires-clause-far c = far c.args.asked.now c.requires.asked c.bound_of-bound.result.most c.bound_of-bound.ensures
