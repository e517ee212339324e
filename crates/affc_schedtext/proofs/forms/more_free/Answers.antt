use Rattle.affc_schedtext.specs.Seen.{scope_seen}
use Rattle.std.proofs.Common.{length, map, codes, sym, ◌∙◌}
use Rattle.std.proofs.lemmas.Result.{err_from_is_err_and}
use Rattle.affc_syntax.specs.draft.Symbols.{seen}
use Rattle.affc_schedtext.specs.Terms.{term}
use Rattle.affc_grammar.specs.Reading.{this_mark}
use Rattle.affc_syntax.proofs.Readers.{past_shorter, loop_on, loop_end, loop_stop, less_left}
use Rattle.affc_schedtext.specs.Drafting.{free_more}
use Rattle.affc_schedtext.proofs.Shrinks.{free_more_left}
use Rattle.affc_schedtext.proofs.forms.more_free.Goals as goal

pub returns-in_err-longer : goal.returns-in_err-longer
returns-in_err-longer c =
    let p = err_from_is_err_and c.from_residual.result c.from_residual.ensures.1 in
    rw (p.1, p.2, ← c.loop-behind.invariant) (loop_stop (this_mark (codes ",")) (free_more (length c.args.symbols.now) c.args.room (scope_seen c.args.scope)) (free_more_left (length c.args.symbols.now) c.args.room (scope_seen c.args.scope)) (map seen c.args.symbols.now) (map term c.loop-behind.forms) _ tt _ _ c.in-Some.ensures.rest c.in_err-longer.ensures)

pub loop-behind-smaller : goal.loop-behind-smaller
loop-behind-smaller c =
    less_left c.args.symbols.now c.loop-behind.next c.in-Some.behind c.in_ok-longer.rest (past_shorter (this_mark (codes ",")) _ tt _ c.in-Some.ensures.rest)
    (free_more_left (length c.args.symbols.now) c.args.room (scope_seen c.args.scope) tt (map term c.loop-behind.forms) _ (map term c.in_ok-longer.longer) _ c.in_ok-longer.ensures)

pub loop-behind-preserved : goal.loop-behind-preserved
loop-behind-preserved c = sym (loop_on (this_mark (codes ",")) (free_more (length c.args.symbols.now) c.args.room (scope_seen c.args.scope)) (free_more_left (length c.args.symbols.now) c.args.room (scope_seen c.args.scope)) (map term c.loop-behind.forms) _ tt _ (map term c.in_ok-longer.longer) _ c.in-Some.ensures.rest c.in_ok-longer.ensures) ∙ c.loop-behind.invariant

pub returns : goal.returns
returns c = sym c.loop-behind.invariant ∙ loop_end (this_mark (codes ",")) (free_more (length c.args.symbols.now) c.args.room (scope_seen c.args.scope)) (free_more_left (length c.args.symbols.now) c.args.room (scope_seen c.args.scope)) (map term c.loop-behind.forms) _ c.in_default.ensures.rest
