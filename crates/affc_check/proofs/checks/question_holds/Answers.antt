use Rattle.std.proofs.Common.{◌-◌, length, take, drop}
use Rattle.affc_domain.proofs.Lists.{first_and_rest}
use Rattle.affc_check.proofs.list.ListingLemmas.{none_below}
use Rattle.affc_check.proofs.CheckLemmas.{fails_without, fails_with}
use Rattle.affc_check.proofs.checks.question_holds.Goals as goal

pub returns-in-empty-clause-unproved : goal.returns-in-empty-clause-unproved
returns-in-empty-clause-unproved c = λ n e. fails_without c.args.question.now c.args.proofs.now n (none_below c.args.proofs.now c.in-empty.len_below) e

pub returns-else-is_proved-clause-unproved : goal.returns-else-is_proved-clause-unproved
returns-else-is_proved-clause-unproved c = λ n e.
    let ps = c.args.proofs.now in
    fails_with c.args.question.now c.proof-item.result ps (take (length ps - 1) (drop 1 ps)) n (first_and_rest ps c.proof-item.result c.in-len1-up.len_at_least c.proof-item.is)
    (λ h. let t = c.is_proved.ensures.1 h in let f = c.if-is_proved.false in absurd (cc)) e
