use Rattle.std.proofs.Common.{length, map, sym, ◌∙◌}
use Rattle.std.proofs.lemmas.Result.{err_from_is_err_and}
use Rattle.affc_syntax.specs.draft.Symbols.{seen}
use Rattle.affc_text.specs.Parts.{inside_seen, first_seen}
use Rattle.affc_grammar.specs.Reading.{first_of}
use Rattle.affc_syntax.proofs.Readers.{past_shorter, loop_on, loop_end, loop_stop, less_left}
use Rattle.affc_text.specs.TextReading.{inside_more}
use Rattle.affc_text.proofs.TextReads.{inside_more_left}
use Rattle.affc_text.proofs.function.inner.Goals as goal

pub returns-in_err-longer : goal.returns-in_err-longer
returns-in_err-longer c =
    let p = err_from_is_err_and c.from_residual.result c.from_residual.ensures.1 in
    rw (p.1, p.2, ← c.loop-first.invariant) (loop_stop first_of (inside_more c.args.prelude (length c.args.symbols.now) c.args.room) (inside_more_left c.args.prelude (length c.args.symbols.now) c.args.room) (map seen c.args.symbols.now) (inside_seen c.loop-first.inside) _ (first_seen c.in-Some.first) _ _ c.in-Some.ensures c.in_err-longer.ensures)

pub loop-first-smaller : goal.loop-first-smaller
loop-first-smaller c =
    less_left c.args.symbols.now c.loop-first.next c.in-Some.behind c.in_ok-longer.rest (past_shorter first_of _ (first_seen c.in-Some.first) _ c.in-Some.ensures)
    (inside_more_left c.args.prelude (length c.args.symbols.now) c.args.room (first_seen c.in-Some.first) (inside_seen c.loop-first.inside) _ (inside_seen c.in_ok-longer.longer) _ c.in_ok-longer.ensures)

pub loop-first-preserved : goal.loop-first-preserved
loop-first-preserved c = sym (loop_on first_of (inside_more c.args.prelude (length c.args.symbols.now) c.args.room) (inside_more_left c.args.prelude (length c.args.symbols.now) c.args.room) (inside_seen c.loop-first.inside) _ (first_seen c.in-Some.first) _ (inside_seen c.in_ok-longer.longer) _ c.in-Some.ensures c.in_ok-longer.ensures) ∙ c.loop-first.invariant

pub returns : goal.returns
returns c = sym c.loop-first.invariant ∙ loop_end first_of (inside_more c.args.prelude (length c.args.symbols.now) c.args.room) (inside_more_left c.args.prelude (length c.args.symbols.now) c.args.room) (inside_seen c.loop-first.inside) _ c.in_default.ensures
