use Rattle.std.proofs.Common.{arith}
use Rattle.std.proofs.lemmas.Grind.{common_steps}
use Rattle.affc_io.proofs.Grown.{grown-next}
use Rattle.affc_io.proofs.put.put_all.Goals as goal

pub loop-written-preserved : goal.loop-written-preserved
loop-written-preserved g c = record {
  within = grind (arith, common_steps, c.in-Ok.ensures.bound);
  counts = record { faults = omega arith; shortages = omega arith };
  taken = grown-next _ _ _ _ _ _ c.loop-written.invariant.taken c.in-Ok.ensures.taken;
}
