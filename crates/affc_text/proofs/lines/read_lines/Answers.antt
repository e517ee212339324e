use Rattle.std.proofs.Common.{length, map, sym, ◌∙◌}
use Rattle.std.proofs.lemmas.Result.{err_from_is_err_and}
use Rattle.affc_syntax.specs.draft.Symbols.{seen}
use Rattle.affc_text.specs.Parts.{lines_seen}
use Rattle.affc_grammar.specs.Reading.{hash}
use Rattle.affc_syntax.proofs.Readers.{past_shorter, loop_on, loop_end, loop_stop, less_left}
use Rattle.affc_text.specs.TextReading.{line_more}
use Rattle.affc_text.proofs.TextReads.{line_more_left}
use Rattle.affc_text.proofs.lines.read_lines.Goals as goal

pub returns-in_err-longer : goal.returns-in_err-longer
returns-in_err-longer c =
    let p = err_from_is_err_and c.from_residual.result c.from_residual.ensures.1 in
    rw (p.1, p.2, ← c.loop-behind.invariant) (loop_stop hash (line_more (length c.args.symbols.now) c.args.room) (line_more_left (length c.args.symbols.now) c.args.room) (map seen c.args.symbols.now) (lines_seen c.loop-behind.lines) _ tt _ _ c.in-Some.ensures c.in_err-longer.ensures)

pub loop-behind-smaller : goal.loop-behind-smaller
loop-behind-smaller c =
    less_left c.args.symbols.now c.loop-behind.next c.in-Some.behind c.in_ok-longer.rest (past_shorter hash _ tt _ c.in-Some.ensures)
    (line_more_left (length c.args.symbols.now) c.args.room tt (lines_seen c.loop-behind.lines) _ (lines_seen c.in_ok-longer.longer) _ c.in_ok-longer.ensures)

pub loop-behind-preserved : goal.loop-behind-preserved
loop-behind-preserved c = sym (loop_on hash (line_more (length c.args.symbols.now) c.args.room) (line_more_left (length c.args.symbols.now) c.args.room) (lines_seen c.loop-behind.lines) _ tt _ (lines_seen c.in_ok-longer.longer) _ c.in-Some.ensures c.in_ok-longer.ensures) ∙ c.loop-behind.invariant

pub returns : goal.returns
returns c = sym c.loop-behind.invariant ∙ loop_end hash (line_more (length c.args.symbols.now) c.args.room) (line_more_left (length c.args.symbols.now) c.args.room) (lines_seen c.loop-behind.lines) _ c.in_default.ensures
