use Rattle.std.proofs.Common.{flat_map, ◌∷◌, [], length, sym, ap, subst, ◌∙◌}
use Rattle.std.proofs.lemmas.Result.{on_ok_weaker, IfErr-weaker}
use Rattle.affc_certvalue.specs.fold.Limits.{IsMarkWithin, IsLeastWithin}
use Rattle.affc_conflicts.specs.Questions.{greater_question}
use Rattle.affc_check.specs.list.Certs.{least_said}
use Rattle.affc_check.specs.list.Held.{listed_said, context_item}
use Rattle.affc_check.specs.list.Items.{Question, LeastShown, mark_items}
use Rattle.affc_check.specs.list.Limits.{AnyPasses}
use Rattle.affc_check.specs.list.Listed.{AreListed}
use Rattle.affc_check.specs.list.Walks.{clash_systems}
use Rattle.affc_check.proofs.list.ShownLemmas.{mark_listed, greater_passes}
use Rattle.affc_check.proofs.list.shown.add_mark.Goals as goal

pub greater_question-requires-clause-p : goal.greater_question-requires-clause-p
greater_question-requires-clause-p c =
    let columns = c.args.along.now.nest.now.context.columns in
    let m : IsLeastWithin columns c.in-Some.least = subst (IsMarkWithin columns) c.in-Some.is c.requires.mark in
    ap length c.as_slice-p.ensures ∙ m.each

pub returns-in_ok-greater-in-Some-clause-ok : goal.returns-in_ok-greater-in-Some-clause-ok
returns-in_ok-greater-in-Some-clause-ok c =
    let a = c.args.along.now in
    let nest = a.nest.now in
    let least = c.in-Some.least in
    let l : LeastShown = record { p = least.p; pair = least.pair } in
    let old = flat_map listed_said c.args.out.now.items in
    let second = flat_map listed_said c.add_point-in-Some.new.out.items in
    let new = flat_map listed_said c.add_long.new.out.items in
    let x = c.in_ok-context_shown-in-Some.field-0 in
    let y = c.in_ok-need_shown-in-Some.field-0 in
    let greater = c.in_ok-greater-in-Some.ensures ∙ ap (greater_question nest.context nest.params a.modulus.now) c.as_slice-p.ensures in
    on_ok_weaker c.add_long.result
    (λ h. subst (λ o. AreListed old new (mark_items nest a.rows.now a.k a.row.now a.modulus.now (clash_systems a.systems.now) (least_said o))) (sym c.in-Some.is)
    (mark_listed nest a.rows.now a.k a.row.now a.modulus.now (clash_systems a.systems.now) l old (flat_map listed_said c.add_point.new.out.items) second new x.system y.system x.point y.point
    (c.in_ok-context_shown-in-Some.ensures ∙ ap (context_item nest) c.as_slice-p.ensures) c.in_ok-need_shown-in-Some.ensures c.in_ok-add_point-in-Some.ensures c.in_ok-add_point-in-Some-2.ensures
    (subst (λ q. AreListed second new (Question q ∷ [])) greater h)))
    c.add_long.ensures.ok

pub returns-in_ok-greater-in-Some-clause-past : goal.returns-in_ok-greater-in-Some-clause-past
returns-in_ok-greater-in-Some-clause-past c =
    let a = c.args.along.now in
    let nest = a.nest.now in
    let least = c.in-Some.least in
    let l : LeastShown = record { p = least.p; pair = least.pair } in
    let greater = c.in_ok-greater-in-Some.ensures ∙ ap (greater_question nest.context nest.params a.modulus.now) c.as_slice-p.ensures in
    IfErr-weaker c.add_long.result _ _
    (λ e h q. subst (λ o. AnyPasses (mark_items nest a.rows.now a.k a.row.now a.modulus.now (clash_systems a.systems.now) (least_said o))) (sym c.in-Some.is)
    (greater_passes nest a.rows.now a.k a.row.now a.modulus.now (clash_systems a.systems.now) l (subst (λ s. AnyPasses (Question s ∷ [])) greater (h q))))
    c.add_long.ensures.past
