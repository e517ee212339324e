use Rattle.affc_moduli.specs.Slices.{AreChanged}
use Rattle.affc_moduli.specs.Reduced.{IsReduced}
use Rattle.affc_moduli.proofs.reduced.reduce_all.Given as goal

abbrev pub invariant-loop-i : goal.invariant-loop-i
invariant-loop-i l = AreChanged (λ k. IsReduced) l.i l.initial.regions l.regions
