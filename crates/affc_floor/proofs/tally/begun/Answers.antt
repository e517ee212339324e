use Rattle.std.proofs.Common.{rules, ◌≡◌, ℕ, ◌+◌, ◌<◌, ◌≤◌, length, get_or, refl, sym, ap, subst, ◌∙◌, arith}
use Rattle.std.proofs.lemmas.Grind.{get_or_default_zero}
use Rattle.affc_floor.specs.declared.span.Span.{Span}
use Rattle.affc_floor.proofs.Tallies.{one_more-by, at_most, from_within}
use Rattle.affc_floor.proofs.tally.begun.Goals as goal

abbrev no_span : Span
no_span = record { from = 0; until = 0 }

pub overflow_add-index_mut : goal.overflow_add-index_mut
overflow_add-index_mut c =
    let k : ℕ = c.loop-span.span-index in
    let s : Span = get_or c.args.spans.now k no_span in
    let j = from_within c.args.instants c.args.spans.now k no_span c.requires c.loop-span-test.true in
    let few : get_or c.loop-span.counts.items s.from 0 ≤ k =
    at_most (λ s. s.from) c.args.instants c.args.spans.now c.loop-span.counts.items k s.from c.loop-span.invariant.reached j c.loop-span.invariant.tally in
    let there : s.from < length c.loop-span.counts.items = subst (λ n. s.from < n) (sym c.loop-span.invariant.tally.long) j in
    let is : c.index_mut.result.now ≡ get_or c.loop-span.counts.items s.from 0 = c.index_mut.ensures.value ∙ get_or_default_zero c.loop-span.counts.items s.from c.index_mut.result.now there in
    let low : k < length c.args.spans.now = c.loop-span-test.true in
    search (rules, few, is, low)

pub loop-span-preserved : goal.loop-span-preserved
loop-span-preserved c =
    let k : ℕ = c.loop-span.span-index in
    let s : Span = get_or c.args.spans.now k no_span in
    let j = from_within c.args.instants c.args.spans.now k no_span c.requires c.loop-span-test.true in
    let there : s.from < length c.loop-span.counts.items = subst (λ n. s.from < n) (sym c.loop-span.invariant.tally.long) j in
    let is : c.index_mut.result.now ≡ get_or c.loop-span.counts.items s.from 0 = c.index_mut.ensures.value ∙ get_or_default_zero c.loop-span.counts.items s.from c.index_mut.result.now there in
    let low : k < length c.args.spans.now = c.loop-span-test.true in
    record {
      tally = one_more-by (λ s. s.from) c.args.instants c.args.spans.now c.loop-span.counts.items k s.from (c.index_mut.result.now + 1) no_span
          low refl j (ap (λ n. n + 1) is) c.loop-span.invariant.tally;
      reached = omega arith;
    }
