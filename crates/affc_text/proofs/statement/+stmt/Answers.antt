use Rattle.std.proofs.Common.{drop, map, Ok, ap, sym, ◌∙◌}
use Rattle.std.proofs.lemmas.Result.{err_from_is_err_and}
use Rattle.affc_text.specs.Parts.{first_seen, heads_seen, turn_seen, block_seen, stmts}
use Rattle.affc_syntax.specs.draft.Drafts.{stmt}
use Rattle.affc_syntax.specs.draft.Symbols.{seen}
use Rattle.affc_text.proofs.StmtReads.{heads_err, heads_on, heads_done, heads_less, heads_end, stmts_err, stmts_on, stmts_less, stmts_end, items_err, items_on, items_less, items_end}
use Rattle.affc_text.proofs.statement.+stmt.Goals as goal

pub stmts-returns-in_err-longer : goal.stmts-returns-in_err-longer
stmts-returns-in_err-longer t c =
    let p = err_from_is_err_and c.from_residual.result c.from_residual.ensures.1 in
    rw (p.1, p.2, ← c.loop-first.invariant) (stmts_err c.args.prelude c.args.room c.args.symbols.now c.loop-first.next c.in-Some.behind (first_seen c.in-Some.first) c.in-Some.ensures (stmts c.loop-first.stmts) _ c.in_err-longer.ensures)

pub stmts-loop-first-smaller : goal.stmts-loop-first-smaller
stmts-loop-first-smaller t c = stmts_less c.args.prelude c.args.room c.args.symbols.now c.loop-first.next c.in-Some.behind (first_seen c.in-Some.first) c.in-Some.ensures (stmts c.loop-first.stmts) (stmts c.in_ok-longer.longer) c.in_ok-longer.rest c.in_ok-longer.ensures

pub stmts-loop-first-preserved : goal.stmts-loop-first-preserved
stmts-loop-first-preserved t c = sym (stmts_on c.args.prelude c.args.room c.args.symbols.now c.loop-first.next c.in-Some.behind (first_seen c.in-Some.first) c.in-Some.ensures (stmts c.loop-first.stmts) (stmts c.in_ok-longer.longer) c.in_ok-longer.rest c.in_ok-longer.ensures) ∙ c.loop-first.invariant

pub stmts-returns : goal.stmts-returns
stmts-returns t c = sym c.loop-first.invariant ∙ stmts_end c.args.prelude c.args.room c.args.symbols.now c.loop-first.next c.in_default.ensures (stmts c.loop-first.stmts)

pub items-returns-in_err-longer : goal.items-returns-in_err-longer
items-returns-in_err-longer t c =
    let p = err_from_is_err_and c.from_residual.result c.from_residual.ensures.1 in
    rw (p.1, p.2, ← c.loop-first.invariant) (items_err c.args.prelude c.args.room c.args.symbols.now c.loop-first.next c.in-Some.behind (first_seen c.in-Some.first) c.in-Some.ensures (block_seen c.loop-first.block) _ c.in_err-longer.ensures)

pub items-loop-first-smaller : goal.items-loop-first-smaller
items-loop-first-smaller t c = items_less c.args.prelude c.args.room c.args.symbols.now c.loop-first.next c.in-Some.behind (first_seen c.in-Some.first) c.in-Some.ensures (block_seen c.loop-first.block) (block_seen c.in_ok-longer.longer) c.in_ok-longer.rest c.in_ok-longer.ensures

pub items-loop-first-preserved : goal.items-loop-first-preserved
items-loop-first-preserved t c = sym (items_on c.args.prelude c.args.room c.args.symbols.now c.loop-first.next c.in-Some.behind (first_seen c.in-Some.first) c.in-Some.ensures (block_seen c.loop-first.block) (block_seen c.in_ok-longer.longer) c.in_ok-longer.rest c.in_ok-longer.ensures) ∙ c.loop-first.invariant

pub items-returns : goal.items-returns
items-returns t c = sym c.loop-first.invariant ∙ items_end c.args.prelude c.args.room c.args.symbols.now c.loop-first.next c.in_default.ensures (block_seen c.loop-first.block)

pub under_heads-returns-in_err-turn : goal.under_heads-returns-in_err-turn
under_heads-returns-in_err-turn t c =
    let p = err_from_is_err_and c.from_residual.result c.from_residual.ensures.1 in
    rw (p.1, p.2, ← c.loop-first.invariant) (heads_err c.args.prelude c.args.room c.args.symbols.now c.loop-first.next c.in-Some.behind (first_seen c.in-Some.first) c.in-Some.ensures (heads_seen c.loop-first.heads) _ c.in_err-turn.ensures)

pub under_heads-loop-first-smaller : goal.under_heads-loop-first-smaller
under_heads-loop-first-smaller t c =
    heads_less c.args.prelude c.args.room c.args.symbols.now c.loop-first.next c.in-Some.behind (first_seen c.in-Some.first) c.in-Some.ensures (heads_seen c.loop-first.heads) (heads_seen c.in-Going.longer) c.in_ok-turn.rest
    (c.in_ok-turn.ensures ∙ ap (λ x. Ok (turn_seen x, drop c.in_ok-turn.rest (map seen c.args.symbols.now))) c.in-Going.is)

pub under_heads-loop-first-preserved : goal.under_heads-loop-first-preserved
under_heads-loop-first-preserved t c =
    sym (heads_on c.args.prelude c.args.room c.args.symbols.now c.loop-first.next c.in-Some.behind (first_seen c.in-Some.first) c.in-Some.ensures (heads_seen c.loop-first.heads) (heads_seen c.in-Going.longer) c.in_ok-turn.rest
    (c.in_ok-turn.ensures ∙ ap (λ x. Ok (turn_seen x, drop c.in_ok-turn.rest (map seen c.args.symbols.now))) c.in-Going.is))
    ∙ c.loop-first.invariant

pub under_heads-returns-in-Done : goal.under_heads-returns-in-Done
under_heads-returns-in-Done t c =
    sym c.loop-first.invariant
    ∙ heads_done c.args.prelude c.args.room c.args.symbols.now c.loop-first.next c.in-Some.behind (first_seen c.in-Some.first) c.in-Some.ensures (heads_seen c.loop-first.heads) (map stmt c.in-Done.read) c.in_ok-turn.rest
    (c.in_ok-turn.ensures ∙ ap (λ x. Ok (turn_seen x, drop c.in_ok-turn.rest (map seen c.args.symbols.now))) c.in-Done.is)

pub under_heads-returns : goal.under_heads-returns
under_heads-returns t c = sym c.loop-first.invariant ∙ heads_end c.args.prelude c.args.room c.args.symbols.now c.loop-first.next c.in_default.ensures (heads_seen c.loop-first.heads)
