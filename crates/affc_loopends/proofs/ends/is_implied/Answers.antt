use Rattle.std.proofs.Common.{◌∙◌}
use Rattle.affc_loopends.proofs.Asked.{implied_all, made_question, wide_question}
use Rattle.affc_loopends.proofs.ends.is_implied.Goals as goal

pub returns-in-Ok-Implied-clause-yes : goal.returns-in-Ok-Implied-clause-yes
returns-in-Ok-Implied-clause-yes c = λ yes. implied_all c.args.columns c.args.rows.now c.as_slice.result.now c.args.place c.index-rows-place.result c.requires.place (c.as_slice.ensures.value ∙ c.in-Ok.ensures) c.index-rows-place.is
    (rw c.in-Ok-Implied.field-0-is at c.in-Ok-Implied.ensures)

pub returns-in-Ok-Made-clause-stop : goal.returns-in-Ok-Made-clause-stop
returns-in-Ok-Made-clause-stop c = λ system column ranges width ends.
    let h = rw c.in-Ok-Made.field-0-is at c.in-Ok-Made.ensures in
    made_question system column c.args.columns c.args.rows.now c.as_slice.result.now c.args.place c.index-rows-place.result c.in-Ok-Made.asked c.requires.nine c.requires.place (c.as_slice.ensures.value ∙ c.in-Ok.ensures) c.index-rows-place.is width ends
    h.0 c.in-Ok-Made.made.items h.1 h.2

pub returns-in-Ok-Wide-clause-stop : goal.returns-in-Ok-Wide-clause-stop
returns-in-Ok-Wide-clause-stop c = λ system column ranges width ends.
    let h = rw c.in-Ok-Wide.field-0-is at c.in-Ok-Wide.ensures in
    wide_question system column c.args.columns c.args.rows.now c.as_slice.result.now c.args.place c.index-rows-place.result c.in-Ok-Wide.asked c.requires.nine c.requires.place (c.as_slice.ensures.value ∙ c.in-Ok.ensures) c.index-rows-place.is width ends
    h.0 c.in-Ok-Wide.made.items c.in-Ok-Wide.next h.1
