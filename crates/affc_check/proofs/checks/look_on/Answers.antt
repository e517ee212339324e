use Rattle.std.proofs.Common.{refl, sym, subst}
use Rattle.affc_check.specs.list.Held.{listed_said}
use Rattle.affc_check.specs.Steps.{Leaves, IsHolding, IsUnproved, IsUnmet}
use Rattle.affc_check.proofs.LookLemmas.{leaves_behind, so_many, question_behind, point_behind}
use Rattle.affc_check.proofs.checks.look_on.Goals as goal

pub returns-in_ok-next-in-Holds : goal.returns-in_ok-next-in-Holds
returns-in_ok-next-in-Holds c = λ before proofs h n.
    let items = listed_said c.args.listed.now in
    let rest = c.args.rest.now in
    let more = c.in-Holds.more.now in
    let holds : Leaves items rest more = c.in_ok-more.ensures.holds more (subst (λ o. IsHolding o more) (sym c.in-Holds.is) refl) in
    (leaves_behind before items proofs rest more h holds, so_many before items c.args.number c.count.result c.in_ok-next-in-Holds.next n c.count.ensures c.in_ok-next-in-Holds.ensures)

pub returns-in_ok-failed-in-Unproved : goal.returns-in_ok-failed-in-Unproved
returns-in_ok-failed-in-Unproved c = λ before proofs h n.
    let at = c.in-Unproved.at in
    question_behind before (listed_said c.args.listed.now) proofs c.args.rest.now c.args.number at c.in_ok-failed-in-Unproved.failed h n c.in_ok-failed-in-Unproved.ensures
    (c.in_ok-more.ensures.unproved at (subst (λ o. IsUnproved o at) (sym c.in-Unproved.is) refl))

pub returns-in_ok-failed-in-Unmet : goal.returns-in_ok-failed-in-Unmet
returns-in_ok-failed-in-Unmet c = λ before proofs h n.
    let at = c.in-Unmet.at in
    point_behind before (listed_said c.args.listed.now) proofs c.args.rest.now c.args.number at c.in_ok-failed-in-Unmet.failed h n c.in_ok-failed-in-Unmet.ensures
    (c.in_ok-more.ensures.unmet at (subst (λ o. IsUnmet o at) (sym c.in-Unmet.is) refl))
