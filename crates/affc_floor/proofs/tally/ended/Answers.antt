use Rattle.std.proofs.Common.{rules, ◌≡◌, ℕ, ◌<◌, ◌≤◌, length, get_or, sym, subst, ◌∙◌}
use Rattle.std.proofs.lemmas.Grind.{get_or_default_zero}
use Rattle.affc_floor.specs.declared.span.Span.{Span}
use Rattle.affc_floor.proofs.Tallies.{at_most}
use Rattle.affc_floor.proofs.tally.ended.Goals as goal

abbrev no_span : Span
no_span = record { from = 0; until = 0 }

pub overflow_add-index_mut : goal.overflow_add-index_mut
overflow_add-index_mut c =
    let k : ℕ = c.loop-span.span-index in
    let s : Span = get_or c.args.spans.now k no_span in
    let j : s.until < c.args.instants = c.if-span-instants.true in
    let few : get_or c.loop-span.counts.items s.until 0 ≤ k =
    at_most (λ s. s.until) c.args.instants c.args.spans.now c.loop-span.counts.items k s.until c.loop-span.invariant.reached j c.loop-span.invariant.tally in
    let there : s.until < length c.loop-span.counts.items = subst (λ n. s.until < n) (sym c.loop-span.invariant.tally.long) j in
    let is : c.index_mut.result.now ≡ get_or c.loop-span.counts.items s.until 0 = c.index_mut.ensures.value ∙ get_or_default_zero c.loop-span.counts.items s.until c.index_mut.result.now there in
    let low : k < length c.args.spans.now = c.loop-span-test.true in
    search (rules, few, is, low)
