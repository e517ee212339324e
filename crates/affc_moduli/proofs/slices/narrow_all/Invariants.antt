use Rattle.affc_moduli.specs.Slices.{AreChanged, IsNarrowedAt}
use Rattle.affc_moduli.proofs.slices.narrow_all.Given as goal

abbrev pub invariant-loop-i : goal.invariant-loop-i
invariant-loop-i l = AreChanged (IsNarrowedAt l.fs l.gs) l.i l.initial.regions l.regions
