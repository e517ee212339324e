use Rattle.affc_questions.proofs.DistanceLemmas.{context_fit}
use Rattle.affc_questions.proofs.context.context_rows.Goals as goal

pub returns-clause-fit : goal.returns-clause-fit
returns-clause-fit c =
    context_fit c.args.nest.now c.requires c.columns.result c.ranges-2.result.now c.new-rows.result c.add_box.new.out c.rows-2.result.now c.add_copies.new.out c.columns.ensures.value c.ranges-2.ensures.ranges c.new-rows.ensures c.in_ok-add_box.ensures
    c.in_ok-add_copies.ensures c.rows-2.ensures.fit
