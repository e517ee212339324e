use Rattle.std.proofs.Common.{◌∙◌}
use Rattle.affc_loopends.proofs.Remaining.{implied_left, printable_asked}
use Rattle.affc_loopends.proofs.left.judge.Goals as goal

pub ask-requires-clause-others : goal.ask-requires-clause-others
ask-requires-clause-others c = printable_asked c.args.columns c.args.rows.now c.in_ok-others.others.items c.as_slice.result.now c.args.beside.now c.args.place c.index-rows-place.result c.requires.place c.in_ok-others.ensures
    (c.as_slice.ensures.value ∙ c.in_ok-add_copies.ensures) c.requires.rows c.requires.beside

pub returns-in-Implied : goal.returns-in-Implied
returns-in-Implied c = λ yes. implied_left c.args.columns c.args.rows.now c.in_ok-others.others.items c.as_slice.result.now c.args.beside.now c.args.place c.index-rows-place.result c.requires.place c.in_ok-others.ensures
    (c.as_slice.ensures.value ∙ c.in_ok-add_copies.ensures) c.index-rows-place.is (rw c.in-Implied.is at c.in_ok-ask.ensures)
