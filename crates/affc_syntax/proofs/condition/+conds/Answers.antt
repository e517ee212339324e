use Rattle.std.proofs.Common.{length, drop, map, sym, subst, ◌∙◌, arith}
use Rattle.std.proofs.lemmas.Result.{err_from_is_err_and}
use Rattle.affc_syntax.specs.draft.Drafts.{cond}
use Rattle.affc_syntax.specs.draft.Symbols.{seen}
use Rattle.affc_syntax.specs.CondReading.{mixed_seen}
use Rattle.affc_syntax.specs.Readers.{Gives}
use Rattle.affc_syntax.proofs.CondReads.{mixed_on, ands_err, ands_on, ands_end, ands_less, ors_err, ors_on, ors_end, ors_less}
use Rattle.affc_syntax.proofs.condition.+conds.Goals as goal

pub more_ands-returns-in_err-longer : goal.more_ands-returns-in_err-longer
more_ands-returns-in_err-longer t c =
    let p = err_from_is_err_and c.from_residual.result c.from_residual.ensures.1 in
    rw (p.1, p.2, ← c.loop-behind.invariant) (ands_err c.args.prelude c.args.wide (length c.args.symbols.now) c.args.room c.args.symbols.now (cond c.loop-behind.left) c.loop-behind.next c.in-Some.behind c.in-Some.ensures.rest _ c.in_err-longer.ensures)

pub more_ands-loop-behind-smaller : goal.more_ands-loop-behind-smaller
more_ands-loop-behind-smaller t c = ands_less c.args.prelude c.args.wide (length c.args.symbols.now) c.args.room c.args.symbols.now (cond c.loop-behind.left) c.loop-behind.next c.in-Some.behind c.in-Some.ensures.rest (cond c.in_ok-longer.longer) c.in_ok-longer.rest c.in_ok-longer.ensures

pub more_ands-loop-behind-preserved : goal.more_ands-loop-behind-preserved
more_ands-loop-behind-preserved t c = sym (ands_on c.args.prelude c.args.wide (length c.args.symbols.now) c.args.room c.args.symbols.now (cond c.loop-behind.left) c.loop-behind.next c.in-Some.behind c.in-Some.ensures.rest (cond c.in_ok-longer.longer) c.in_ok-longer.rest c.in_ok-longer.ensures) ∙ c.loop-behind.invariant

pub more_ands-returns : goal.more_ands-returns
more_ands-returns t c = sym c.loop-behind.invariant ∙ ands_end c.args.prelude c.args.wide (length c.args.symbols.now) c.args.room (cond c.loop-behind.left) _ c.in_default.ensures.rest

pub more_ors-returns-in_err-longer : goal.more_ors-returns-in_err-longer
more_ors-returns-in_err-longer t c =
    let p = err_from_is_err_and c.from_residual.result c.from_residual.ensures.1 in
    rw (p.1, p.2, ← c.loop-behind.invariant) (ors_err c.args.prelude c.args.wide (length c.args.symbols.now) c.args.room c.args.symbols.now (cond c.loop-behind.left) c.loop-behind.next c.in-Some.behind c.in-Some.ensures.rest _ c.in_err-longer.ensures)

pub more_ors-loop-behind-smaller : goal.more_ors-loop-behind-smaller
more_ors-loop-behind-smaller t c = ors_less c.args.prelude c.args.wide (length c.args.symbols.now) c.args.room c.args.symbols.now (cond c.loop-behind.left) c.loop-behind.next c.in-Some.behind c.in-Some.ensures.rest (cond c.in_ok-longer.longer) c.in_ok-longer.rest c.in_ok-longer.ensures

pub more_ors-loop-behind-preserved : goal.more_ors-loop-behind-preserved
more_ors-loop-behind-preserved t c = sym (ors_on c.args.prelude c.args.wide (length c.args.symbols.now) c.args.room c.args.symbols.now (cond c.loop-behind.left) c.loop-behind.next c.in-Some.behind c.in-Some.ensures.rest (cond c.in_ok-longer.longer) c.in_ok-longer.rest c.in_ok-longer.ensures) ∙ c.loop-behind.invariant

pub more_ors-returns : goal.more_ors-returns
more_ors-returns t c = sym c.loop-behind.invariant ∙ ors_end c.args.prelude c.args.wide (length c.args.symbols.now) c.args.room (cond c.loop-behind.left) _ c.in_default.ensures.rest

pub mixed_inside-returns : goal.mixed_inside-returns
mixed_inside-returns t c =
    subst (Gives (map seen c.args.symbols.now) mixed_seen c.behind_half.result)
    (sym (mixed_on c.args.prelude c.args.wide (length c.args.symbols.now) c.args.room (drop c.args.next (map seen c.args.symbols.now)) (mixed_seen c.in_ok-m.m) (drop c.in_ok-m.next (map seen c.args.symbols.now)) (omega (arith, c.if-room-eq0.false)) c.in_ok-m.ensures))
    c.behind_half.ensures
