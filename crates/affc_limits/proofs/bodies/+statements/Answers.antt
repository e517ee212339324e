use Rattle.std.proofs.Common.{◌≡◌, map, refl, ap, ◌∙◌}
use Rattle.affc_syntax.specs.draft.Drafts.{stmt}
use Rattle.affc_limits.specs.Bodies.{both, under_if, under_for, all_bodies}
use Rattle.affc_limits.proofs.BodyLaws.{inside_is, of_for, of_if, of_block, of_all}
use Rattle.affc_limits.proofs.bodies.+statements.Goals as goal

pub bodies_of_all-returns : goal.bodies_of_all-returns
bodies_of_all-returns t c =
    inside_is c.args.left c.loop-item.inside c.args.body.now c.args.body.now c.loop-item.item-index c.loop-item-test.false c.loop-item.invariant refl
    ∙ of_all c.args.left (map stmt c.args.body.now)

pub bodies_of-returns-in-For : goal.bodies_of-returns-in-For
bodies_of-returns-in-For t c =
    c.under_for.ensures
    ∙ ap (under_for c.args.left c.in-For.head.at) (c.bodies_of_all-inside.ensures ∙ (λ i. all_bodies (c.saturating_sub.ensures i) (map stmt (c.as_slice.ensures i))))
    ∙ of_for c.args.left c.args.s.now c.in-For.head c.in-For.body c.in-For.is

pub bodies_of-returns-in-If : goal.bodies_of-returns-in-If
bodies_of-returns-in-If t c =
    let inside : c.bodies_of_all-inside-in-If.result ≡ all_bodies c.args.left (map stmt c.in-If.body) = c.bodies_of_all-inside-in-If.ensures ∙ ap (λ l. all_bodies c.args.left (map stmt l)) c.as_slice-in-If.ensures in
    let behind : c.bodies_of_all-behind.result ≡ all_bodies c.args.left (map stmt c.in-If.other) = c.bodies_of_all-behind.ensures ∙ ap (λ l. all_bodies c.args.left (map stmt l)) c.as_slice-in-If-2.ensures in
    c.under_if.ensures
    ∙ ap (under_if c.in-If.at) (c.both.ensures ∙ (λ i. both (inside i) (behind i)))
    ∙ of_if c.args.left c.args.s.now c.in-If.at c.in-If.cond c.in-If.body c.in-If.other c.in-If.is

pub bodies_of-returns-in-Block : goal.bodies_of-returns-in-Block
bodies_of-returns-in-Block t c =
    c.bodies_of_all.ensures
    ∙ ap (λ l. all_bodies c.args.left (map stmt l)) c.as_slice-in-Block.ensures
    ∙ of_block c.args.left c.args.s.now c.in-Block.locals c.in-Block.body c.in-Block.is
