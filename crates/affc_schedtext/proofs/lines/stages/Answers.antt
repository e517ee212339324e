use Rattle.std.proofs.Common.{length, drop, map, codes, Ok, ap, sym, ◌∙◌}
use Rattle.std.proofs.lemmas.Result.{err_from_is_err_and}
use Rattle.affc_syntax.specs.draft.Symbols.{seen}
use Rattle.affc_grammar.specs.Reader.{going}
use Rattle.affc_grammar.specs.Reading.{this_mark}
use Rattle.affc_syntax.proofs.Readers.{past_shorter, less_left}
use Rattle.affc_schedtext.specs.Drafting.{stage_more}
use Rattle.affc_schedtext.specs.Seen.{draft_seen, stage_seen, turn_seen}
use Rattle.affc_schedtext.proofs.Shrinks.{stage_more_left}
use Rattle.affc_schedtext.proofs.Untils.{until_on, until_whole, until_end, until_stop}
use Rattle.affc_schedtext.proofs.lines.stages.Goals as goal

pub returns-in_err-turn : goal.returns-in_err-turn
returns-in_err-turn c =
    let p = err_from_is_err_and c.from_residual.result c.from_residual.ensures.1 in
    rw (p.1, p.2, ← c.loop-behind.invariant) (until_stop (this_mark (codes ";")) (stage_more c.args.outline.now (length c.args.symbols.now) c.args.room) (stage_more_left c.args.outline.now (length c.args.symbols.now) c.args.room) (map seen c.args.symbols.now) (stage_seen c.loop-behind.stage) _ tt _ _ c.in-Some.ensures.rest c.in_err-turn.ensures)

pub loop-behind-smaller : goal.loop-behind-smaller
loop-behind-smaller c =
    less_left c.args.symbols.now c.loop-behind.next c.in-Some.behind c.in_ok-turn.rest (past_shorter (this_mark (codes ";")) _ tt _ c.in-Some.ensures.rest)
    (stage_more_left c.args.outline.now (length c.args.symbols.now) c.args.room tt (stage_seen c.loop-behind.stage) _ (going (stage_seen c.in-Going.longer)) _
    (c.in_ok-turn.ensures ∙ ap (λ x. Ok (turn_seen x, drop c.in_ok-turn.rest (map seen c.args.symbols.now))) c.in-Going.is))

pub loop-behind-preserved : goal.loop-behind-preserved
loop-behind-preserved c =
    sym (until_on (this_mark (codes ";")) (stage_more c.args.outline.now (length c.args.symbols.now) c.args.room) (stage_more_left c.args.outline.now (length c.args.symbols.now) c.args.room) (stage_seen c.loop-behind.stage) _ tt _ (stage_seen c.in-Going.longer) _ c.in-Some.ensures.rest
    (c.in_ok-turn.ensures ∙ ap (λ x. Ok (turn_seen x, drop c.in_ok-turn.rest (map seen c.args.symbols.now))) c.in-Going.is))
    ∙ c.loop-behind.invariant

pub returns-in-Done : goal.returns-in-Done
returns-in-Done c =
    sym c.loop-behind.invariant
    ∙ until_whole (this_mark (codes ";")) (stage_more c.args.outline.now (length c.args.symbols.now) c.args.room) (stage_more_left c.args.outline.now (length c.args.symbols.now) c.args.room) (stage_seen c.loop-behind.stage) _ tt _ (draft_seen c.in-Done.draft) _ c.in-Some.ensures.rest
    (c.in_ok-turn.ensures ∙ ap (λ x. Ok (turn_seen x, drop c.in_ok-turn.rest (map seen c.args.symbols.now))) c.in-Done.is)

pub returns : goal.returns
returns c = sym c.loop-behind.invariant ∙ until_end (this_mark (codes ";")) (stage_more c.args.outline.now (length c.args.symbols.now) c.args.room) (stage_more_left c.args.outline.now (length c.args.symbols.now) c.args.room) (stage_seen c.loop-behind.stage) _ c.in_default.ensures.rest
