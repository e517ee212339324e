use Rattle.std.proofs.Common.{◌∙◌, subst, sym, arith}
use Rattle.std.specs.Prelude.{IsNone}
use Rattle.affc_sched.specs.Pairs.{asked_of}
use Rattle.affc_legal.proofs.AnsweredLemmas.{answered_next}
use Rattle.affc_legal.proofs.settling.settle.Goals as goal

pub loop-pair-preserved : goal.loop-pair-preserved
loop-pair-preserved c =
    let one = c.loop-pair.invariant.later in
    let two = c.in_ok-here.ensures.later in
    record {
      answered =
          answered_next c.args.nest.now (asked_of c.args.nest.now c.args.schedule.now) c.as_slice-pair-items.result.now c.loop-pair.pair-index c.pair-item.result
          c.args.out.now.items c.loop-pair.out.items c.settle_pair.new.out.items c.loop-pair.found c.in_ok-here.here c.nearer-found.result
          c.loop-pair-test.true c.pair-item.is c.loop-pair.invariant.answered c.in_ok-here.ensures.answered c.nearer-found.ensures.first;
      later = record { limit = two.limit ∙ one.limit; grows = omega (arith, one.grows, two.grows); uncounted = λ n. two.uncounted (subst IsNone (sym one.limit) n) ∙ one.uncounted n };
    }
