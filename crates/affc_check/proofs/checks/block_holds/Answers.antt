use Rattle.std.proofs.Common.{map, subst}
use Rattle.affc_products.specs.Blocks.{block_questions}
use Rattle.affc_products.specs.Steps.{IsStep}
use Rattle.affc_check.specs.list.Items.{Question}
use Rattle.affc_check.specs.Steps.{Leaves}
use Rattle.affc_check.proofs.CheckLemmas.{block_within, block_fails, questions_leave}
use Rattle.affc_check.proofs.checks.block_holds.Goals as goal

pub returns-in-Passed-clause-holds : goal.returns-in-Passed-clause-holds
returns-in-Passed-clause-holds c = λ rest e.
    let b = c.args.block.now in
    let qs = block_questions b in
    subst (Leaves (map Question qs) c.args.proofs.now) e (questions_leave qs c.args.proofs.now c.in-Passed.rest.now (block_within b) (subst (IsStep qs c.args.proofs.now) c.in-Passed.is c.in_ok-rest.ensures))

pub returns-in-Failed-clause-unproved : goal.returns-in-Failed-clause-unproved
returns-in-Failed-clause-unproved c = λ n e.
    let b = c.args.block.now in
    block_fails b c.args.proofs.now c.in-Failed.number n (subst (IsStep (block_questions b) c.args.proofs.now) c.in-Failed.is c.in_ok-rest.ensures) e
