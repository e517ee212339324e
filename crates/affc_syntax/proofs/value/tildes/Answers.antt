use Rattle.std.proofs.Common.{drop, map, codes, sym, ◌∙◌, arith}
use Rattle.affc_grammar.specs.Reading.{this_mark}
use Rattle.affc_syntax.specs.draft.Symbols.{seen}
use Rattle.affc_syntax.proofs.Readers.{past_shorter}
use Rattle.affc_syntax.proofs.ValueReads.{tildes_on, tildes_end}
use Rattle.affc_syntax.proofs.value.tildes.Goals as goal

pub loop-behind-preserved : goal.loop-behind-preserved
loop-behind-preserved c = (
  sym (tildes_on c.loop-behind.count _ _ c.in-Some.ensures.rest) ∙ c.loop-behind.invariant.0,
  omega (arith, c.loop-behind.invariant.1, past_shorter (this_mark (codes "~")) (drop c.loop-behind.next (map seen c.args.symbols.now)) tt (drop c.in-Some.behind (map seen c.args.symbols.now)) c.in-Some.ensures.rest),
)

pub returns : goal.returns
returns c = sym c.loop-behind.invariant.0 ∙ tildes_end c.loop-behind.count _ c.in_default.ensures.rest
