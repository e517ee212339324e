use Rattle.affc_questions.proofs.DistanceLemmas.{one_rows_fit}
use Rattle.affc_questions.proofs.context.one_system.Goals as goal

pub returns-clause-rows : goal.returns-clause-rows
returns-clause-rows c =
    one_rows_fit c.args.nest.now.context.columns c.columns-columns.result c.args.modulus.now c.in_ok-one.one c.new-rows.result c.add_equal_rows.new.out c.new.result c.requires.modulus c.columns-columns.ensures.value c.in_ok-one.ensures.value c.new-rows.ensures c.in_ok-add_equal_rows.ensures
    c.new.ensures
