use Rattle.std.proofs.Common.{ap, sym, ◌∙◌}
use Rattle.affc_grammar.specs.Limits.{least}
use Rattle.affc_limits.specs.Shape.{passed_from, nothing, counts_behind}
use Rattle.affc_syntax.specs.draft.Symbols.{seen}
use Rattle.std.proofs.Common.{map}
use Rattle.affc_limits.proofs.Counting.{turn, stop, grows}
use Rattle.affc_limits.proofs.shape.shape_fault.Goals as goal

pub returns-in-Some : goal.returns-in-Some
returns-in-Some c =
    let here = stop c.limits-limits.result c.loop-at.at c.loop-at.counts c.counts_behind-counts.result c.args.symbols.now c.index-symbols-at.result c.loop-at-test.true (c.counts_behind-counts.ensures ∙ ap (λ s. counts_behind c.loop-at.counts (seen s)) c.index-symbols-at.is) c.in-Some.which c.in-Some.ensures in
    sym here ∙ ap least (sym c.loop-at.invariant.passed) ∙ ap (λ limits. least (passed_from limits 0 nothing (map seen c.args.symbols.now))) c.limits-limits.ensures

pub loop-at-preserved : goal.loop-at-preserved
loop-at-preserved c =
    let i = c.loop-at.invariant in
    let few = grows c.loop-at.counts c.counts_behind-counts.result c.args.symbols.now c.loop-at.at c.index-symbols-at.result c.loop-at.at (c.counts_behind-counts.ensures ∙ ap (λ s. counts_behind c.loop-at.counts (seen s)) c.index-symbols-at.is) i.tokens i.run i.brackets i.items in
    record {
      tokens = few.tokens;
      run = few.run;
      brackets = few.brackets;
      items = few.items;
      passed = i.passed ∙ turn c.limits-limits.result c.loop-at.at c.loop-at.counts c.counts_behind-counts.result c.args.symbols.now c.index-symbols-at.result c.loop-at-test.true (c.counts_behind-counts.ensures ∙ ap (λ s. counts_behind c.loop-at.counts (seen s)) c.index-symbols-at.is) c.in_default.ensures;
    }
