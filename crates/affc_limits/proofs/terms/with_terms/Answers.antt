use Rattle.affc_limits.specs.Terms.{coefficient}
use Rattle.affc_limits.proofs.TermLaws.{more_turn}
use Rattle.affc_limits.proofs.terms.with_terms.Goals as goal

pub loop-term-preserved : goal.loop-term-preserved
loop-term-preserved c = record {
  sums = λ w.
      more_turn w c.args.scale.now (coefficient w c.loop-term.terms) c.loop-term.more c.pop.new.self c.in-Some.term c.in_ok-number.number (coefficient w c.in_ok-terms.terms) _
      c.in-Some.ensures c.in_ok-number.ensures (c.in_ok-terms.ensures.sums w) (c.loop-term.invariant.sums w);
  apart = λ a. c.in_ok-terms.ensures.apart (c.loop-term.invariant.apart a);
}
