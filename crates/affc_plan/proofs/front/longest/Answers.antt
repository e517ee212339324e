use Rattle.std.proofs.Common.{subst, arith}
use Rattle.affc_plan.specs.Fronts.{IsTried}
use Rattle.affc_plan.proofs.FrontLaws.{none_more}
use Rattle.affc_plan.proofs.front.longest.Goals as goal

pub loop-to-preserved : goal.loop-to-preserved
loop-to-preserved c =
    let tried = subst (IsTried c.args.text.now c.loop-to.to) c.in-Shorter.is c.in_ok-tokens.ensures in
    record {
      within = let h = c.loop-to.invariant.within in let k = tried.0 in omega (arith, h, k);
      none = none_more c.args.text.now c.in-Shorter.at c.loop-to.to c.args.place tried.1 c.loop-to.invariant.none;
    }
