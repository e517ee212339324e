use Rattle.std.proofs.Common.{◌-◌, length, drop, map, sym, ◌∙◌, arith}
use Rattle.std.proofs.lemmas.Result.{err_from_is_err_and}
use Rattle.affc_syntax.specs.draft.Drafts.{value}
use Rattle.affc_syntax.specs.draft.Symbols.{seen}
use Rattle.affc_syntax.specs.ValueReading.{primary, value_inside}
use Rattle.affc_syntax.proofs.ValueReads.{level_at, level_on, no_shifts, operations_err, operations_on, operations_end, operations_less}
use Rattle.affc_syntax.proofs.value.+value.Goals as goal

pub value_level-loop-op-init : goal.value_level-loop-op-init
value_level-loop-op-init t c =
    sym (level_on (primary c.args.prelude (length c.args.symbols.now) c.args.room (value_inside c.args.prelude (length c.args.symbols.now) c.args.room)) c.args.level (drop c.args.next (map seen c.args.symbols.now)) (value c.in_ok-a.a) (drop c.in_ok-a.next (map seen c.args.symbols.now)) (omega (arith, c.if-level-eq0.false)) c.in_ok-a.ensures
    ∙ no_shifts c.args.level (level_at c.args.prelude (length c.args.symbols.now) c.args.room (c.args.level - 1)) (value c.in_ok-a.a) (drop c.in_ok-a.next (map seen c.args.symbols.now)) c.if-level-eq-SHIFTS.false)

pub value_level-returns-in_err-right : goal.value_level-returns-in_err-right
value_level-returns-in_err-right t c =
    let p = err_from_is_err_and c.from_residual-in_err-right.result c.from_residual-in_err-right.ensures.1 in
    rw (p.1, p.2, ← c.loop-op.invariant) (operations_err c.args.prelude (length c.args.symbols.now) c.args.room c.args.level c.args.symbols.now (value c.loop-op.left) c.loop-op.next c.in-Some.behind c.in-Some.op c.in-Some.ensures.rest _ c.in_err-right.ensures)

pub value_level-loop-op-smaller : goal.value_level-loop-op-smaller
value_level-loop-op-smaller t c = operations_less c.args.prelude (length c.args.symbols.now) c.args.room c.args.level c.args.symbols.now (value c.loop-op.left) c.loop-op.next c.in-Some.behind c.in-Some.op c.in-Some.ensures.rest (value c.in_ok-right.right) c.in_ok-right.rest c.in_ok-right.ensures

pub value_level-loop-op-preserved : goal.value_level-loop-op-preserved
value_level-loop-op-preserved t c = sym (operations_on c.args.prelude (length c.args.symbols.now) c.args.room c.args.level c.args.symbols.now (value c.loop-op.left) c.loop-op.next c.in-Some.behind c.in-Some.op c.in-Some.ensures.rest (value c.in_ok-right.right) (value c.in_ok-left.left) c.in_ok-right.rest c.in_ok-right.ensures c.in_ok-left.ensures) ∙ c.loop-op.invariant

pub value_level-returns : goal.value_level-returns
value_level-returns t c = sym c.loop-op.invariant ∙ operations_end c.args.prelude (length c.args.symbols.now) c.args.room c.args.level (value c.loop-op.left) _ c.in_default.ensures.rest
