use Rattle.std.proofs.Common.{true≢false, Some, sym, subst, ◌∙◌}
use Rattle.affc_latest.specs.Stores.{IsLaterOf}
use Rattle.affc_latest.proofs.LaterLemmas.{first_is_later, second_is_later}
use Rattle.affc_latest.proofs.later.later.Goals as goal

pub returns-then-earlier-clause-later : goal.returns-then-earlier-clause-later
returns-then-earlier-clause-later c =
    subst (λ o. IsLaterOf c.args.nest.now c.args.p.now o c.args.second (Some c.in-Some-second.w)) (sym c.in-Some.is)
    (subst (λ o. IsLaterOf c.args.nest.now c.args.p.now (Some c.in-Some.u) o (Some c.in-Some-second.w)) (sym c.in-Some-second.is)
    (second_is_later c.args.nest.now c.args.p.now c.requires.params c.in-Some.u c.in-Some-second.w (c.in_ok-earlier-in-Some-second.ensures.0 c.if-earlier.true)))

pub returns-else-earlier-clause-later : goal.returns-else-earlier-clause-later
returns-else-earlier-clause-later c =
    subst (λ o. IsLaterOf c.args.nest.now c.args.p.now o c.args.second (Some c.in-Some.u)) (sym c.in-Some.is)
    (subst (λ o. IsLaterOf c.args.nest.now c.args.p.now (Some c.in-Some.u) o (Some c.in-Some.u)) (sym c.in-Some-second.is)
    (first_is_later c.args.nest.now c.args.p.now c.requires.params c.in-Some.u c.in-Some-second.w (λ m. true≢false (sym (c.in_ok-earlier-in-Some-second.ensures.1 m) ∙ c.if-earlier.false))))
