-- All plans of a schedule run the instances in one order, with times of one length.
use Rattle.std.proofs.Common.{◌≡◌, ℕ, ℤ, List, Option, Some, None, refl, sym, ap, subst, ◌∙◌}
use Rattle.affc_ast.specs.declared.tree.Program.{Program}
use Rattle.affc_trace.specs.declared.schedule.Schedule.{Schedule}
use Rattle.affc_trace.specs.declared.schedule.Schedule.TheVariants as order
use Rattle.affc_trace.specs.Target.{target}
use Rattle.affc_nest.specs.declared.nest.Nest.{Nest}
use Rattle.affc_schedtext.specs.declared.plan.Plan.{Plan}
use Rattle.affc_schedtext.specs.Answers.{draft_of, IsScheduleOfOrder}
use Rattle.affc_schedtext.specs.Draft.{OrderDraft, source, time, Draft}
use Rattle.affc_schedtext.specs.declared.outline.Outline.{Outline}
use Rattle.affc_schedtext.specs.Outline.{outline}
use Rattle.affc_schedtext.proofs.Agree.{plans_order}
use Rattle.affc_schedtext.proofs.Excludes.{same_draft}
use Rattle.affc_bounds.specs.threshold.Thresholds.{components_of, threshold}
use Rattle.affc_driver.specs.Plans.{HasPlan}

pub one_target : (program : Program) (schedule : Option (List ℕ)) (a b : Plan) → HasPlan program schedule a → HasPlan program schedule b
    → (p : List ℤ) → target program a.schedule p ≡ target program b.schedule p
one_target program None a b h k p = ap (λ (x : Plan). target program x.schedule p) (h ∙ sym k)
one_target program (Some text) a b h k p = plans_order text program a b h k p

order_length : (o : Outline) (d : OrderDraft) (a b : Schedule) → IsScheduleOfOrder o d a → IsScheduleOfOrder o d b → components_of a ≡ components_of b
order_length o source order.Source order.Source f g = refl
order_length o source (order.Time n ms) b f g = absurd f
order_length o source order.Source (order.Time n ms) f g = absurd g
order_length o (time at n lines) order.Source b f g = absurd f
order_length o (time at n lines) (order.Time m ms) order.Source f g = absurd g
order_length o (time at n lines) (order.Time m ms) (order.Time l ns) f g = f.0 ∙ sym g.0

one_length : (program : Program) (schedule : Option (List ℕ)) (a b : Plan) → HasPlan program schedule a → HasPlan program schedule b → components_of a.schedule ≡ components_of b.schedule
one_length program None a b h k = ap (λ (x : Plan). components_of x.schedule) (h ∙ sym k)
one_length program (Some text) a b h k =
    let o = outline program in
    let mine = h.keeps.spells in
    order_length o (draft_of mine).order a.schedule b.schedule h.schedule
    (subst (λ (d : Draft). IsScheduleOfOrder o d.order b.schedule) (same_draft text o k.keeps.spells mine) k.schedule)

same_threshold : (nest : Nest) (a b : Schedule) → components_of a ≡ components_of b → threshold nest a ≡ threshold nest b
same_threshold nest a b e = rw e refl

-- they have one threshold
pub one_threshold : (nest : Nest) (program : Program) (schedule : Option (List ℕ)) (a b : Plan) → HasPlan program schedule a → HasPlan program schedule b → threshold nest a.schedule ≡ threshold nest b.schedule
one_threshold nest program schedule a b h k = same_threshold nest a.schedule b.schedule (one_length program schedule a b h k)
