use Rattle.std.proofs.Common.{drop, map, sym, ◌∙◌, arith}
use Rattle.affc_syntax.specs.draft.Symbols.{seen}
use Rattle.affc_text.proofs.TextReads.{call_here, call_later, no_call_left}
use Rattle.affc_text.proofs.lines.has_call.Goals as goal

pub returns-then-begins_call : goal.returns-then-begins_call
returns-then-begins_call c = sym (call_here c.loop-left.left c.loop-left.at (map seen c.args.symbols.now) c.loop-left-test.true c.if-begins_call.ensures) ∙ c.loop-left.invariant

pub loop-left-preserved : goal.loop-left-preserved
loop-left-preserved c = call_later c.loop-left.left c.loop-left.at (map seen c.args.symbols.now) c.loop-left-test.true c.if-begins_call.ensures ∙ c.loop-left.invariant

pub returns-after-loop-left : goal.returns-after-loop-left
returns-after-loop-left c = sym (no_call_left c.loop-left.left (drop c.loop-left.at (map seen c.args.symbols.now)) (omega (arith, c.loop-left-test.false))) ∙ c.loop-left.invariant
