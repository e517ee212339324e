use Rattle.std.proofs.Common.{subst, true≢false, sym, ◌∙◌, ◌++◌, ◌∷◌, []}
use Rattle.std.specs.List.{All}
use Rattle.affc_system.specs.Systems.{Meets}
use Rattle.affc_loopends.specs.Whys.{below_zero}
use Rattle.affc_loopends.proofs.Asked.{apart, implied, projected_of}
use Rattle.affc_loopends.proofs.questions.ask.Goals as goal

pub returns-then-are_met : goal.returns-then-are_met
returns-then-are_met c =
    apart c.args.columns (c.args.others.now ++ below_zero c.args.row.now ∷ []) c.in-Rows.made.items c.in-Rows.rows.items
    (projected_of c.args.columns c.args.others.now c.args.row.now c.in_ok-asked.asked _ _ c.in_ok-asked.ensures c.in-Rows.is c.in_ok-rows.ensures).0
    (subst (All (Meets [])) c.as_slice.ensures.value (c.are_met.ensures.0 c.if-are_met.true))

pub returns-in-Rows : goal.returns-in-Rows
returns-in-Rows c =
    implied c.args.columns c.args.others.now c.args.row.now c.in-Rows.made.items c.in-Rows.rows.items
    (projected_of c.args.columns c.args.others.now c.args.row.now c.in_ok-asked.asked _ _ c.in_ok-asked.ensures c.in-Rows.is c.in_ok-rows.ensures).0
    (λ m. true≢false (sym (c.are_met.ensures.1 (subst (All (Meets [])) (sym c.as_slice.ensures.value) m)) ∙ c.if-are_met.false))
