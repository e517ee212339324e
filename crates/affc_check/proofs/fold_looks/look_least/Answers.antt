use Rattle.std.proofs.Common.{flat_map, ◌++◌, List, sym, ap, subst, ◌∙◌}
use Rattle.std.proofs.lemmas.Result.{err_from_is_err_and}
use Rattle.affc_order.proofs.CodeLemmas.{is_nest}
use Rattle.affc_nest.specs.Asked.{IsNest}
use Rattle.affc_nest.specs.declared.nest.Nest.{Nest}
use Rattle.affc_basis.specs.Moduli.{IsModulus}
use Rattle.affc_sched.specs.Touched.{Each}
use Rattle.affc_certvalue.specs.fold.Limits.{IsMarkWithin}
use Rattle.affc_questions.specs.Asked.{IsAlong}
use Rattle.affc_life.specs.declared.clash.ClashProduct.{ClashProduct}
use Rattle.affc_check.specs.Looked.{AreLooked}
use Rattle.affc_check.specs.Walked.{clashes_in}
use Rattle.affc_check.specs.list.Certs.{least_said}
use Rattle.affc_check.specs.list.Held.{listed_said}
use Rattle.affc_check.specs.list.Items.{Item, mark_items}
use Rattle.affc_check.specs.list.Limits.{AnyPasses}
use Rattle.affc_check.specs.list.Walks.{clash_systems}
use Rattle.affc_check.proofs.KeptLemmas.{same_mark_items}
use Rattle.affc_check.proofs.LookLemmas.{looks_same}
use Rattle.affc_check.proofs.WalkedLemmas.{each_along}
use Rattle.affc_check.proofs.fold_looks.look_least.Goals as goal

pub add_mark-requires-clause-nested : goal.add_mark-requires-clause-nested
add_mark-requires-clause-nested c =
    subst IsNest (sym c.requires.nest) (is_nest c.args.of.now.nest.now c.args.of.now.schedule.now c.requires.setting.asked.scheduled)

pub add_mark-requires-clause-along : goal.add_mark-requires-clause-along
add_mark-requires-clause-along c =
    let a = c.args.along.now in
    let kept = c.in_ok-kept.kept in
    let same = c.in_ok-kept.ensures (clashes_in c.args.of.now c.args.array) c.requires.sought in
    subst (λ (ps : List ClashProduct). Each (IsAlong a.rows.now a.row.now a.modulus.now) (clash_systems ps)) (sym c.as_slice.ensures.value)
    (each_along a.rows.now a.row.now a.modulus.now (clash_systems kept.products.items) (λ s i. c.requires.along s (same.among s i)))

pub add_mark-requires-clause-modulus : goal.add_mark-requires-clause-modulus
add_mark-requires-clause-modulus c = subst (λ (n : Nest). IsModulus n.context.columns c.args.along.now.modulus.now) (sym c.requires.nest) c.requires.modulus

pub add_mark-requires-clause-mark : goal.add_mark-requires-clause-mark
add_mark-requires-clause-mark c =
    let same = c.in_ok-kept.ensures (clashes_in c.args.of.now c.args.array) c.requires.sought in
    subst (λ (n : Nest). IsMarkWithin n.context.columns c.in_ok-kept.kept.least) (sym c.requires.nest)
    (subst (IsMarkWithin c.args.of.now.nest.now.context.columns) (sym same.is) (same.within c.args.of.now.nest.now.context.columns c.requires.mark))

pub returns-in_err-add_mark-clause-past : goal.returns-in_err-add_mark-clause-past
returns-in_err-add_mark-clause-past c =
    let a = c.args.along.now in
    let nest = c.args.of.now.nest.now in
    let kept = c.in_ok-kept.kept in
    let cs = clashes_in c.args.of.now c.args.array in
    let same = c.in_ok-kept.ensures cs c.requires.sought in
    let p = err_from_is_err_and c.from_residual-in_err-add_mark.result c.from_residual-in_err-add_mark.ensures.1 in
    rw (p.1, p.2)
    (λ l ss e.
    subst AnyPasses
    (ap (λ (n : Nest). mark_items n a.rows.now a.k a.row.now a.modulus.now (clash_systems c.as_slice.result.now) (least_said kept.least)) c.requires.nest
    ∙ ap (λ (ps : List ClashProduct). mark_items nest a.rows.now a.k a.row.now a.modulus.now (clash_systems ps) (least_said kept.least)) c.as_slice.ensures.value
    ∙ same_mark_items nest a.rows.now a.k a.row.now a.modulus.now cs ss e c.args.least.now kept same)
    (c.in_err-add_mark.ensures.past l))

pub returns-clause-ok : goal.returns-clause-ok
returns-clause-ok c = λ ss e.
    let a = c.args.along.now in
    let nest = c.args.of.now.nest.now in
    let kept = c.in_ok-kept.kept in
    let cs = clashes_in c.args.of.now c.args.array in
    let same = c.in_ok-kept.ensures cs c.requires.sought in
    let listed = c.in_ok-add_mark.ensures.ok in
    let items : List Item = mark_items a.nest.now a.rows.now a.k a.row.now a.modulus.now (clash_systems c.as_slice.result.now) (least_said kept.least) in
    let is = ap (λ (n : Nest). mark_items n a.rows.now a.k a.row.now a.modulus.now (clash_systems c.as_slice.result.now) (least_said kept.least)) c.requires.nest
    ∙ ap (λ (ps : List ClashProduct). mark_items nest a.rows.now a.k a.row.now a.modulus.now (clash_systems ps) (least_said kept.least)) c.as_slice.ensures.value
    ∙ same_mark_items nest a.rows.now a.k a.row.now a.modulus.now cs ss e c.args.least.now kept same in
    subst (AreLooked c.args.looked c.in_ok-after.after) is
    (record {
      looks = looks_same c.args.looked c.in_ok-after.after (flat_map listed_said c.as_slice-2.result.now) items
          (ap (flat_map listed_said) c.as_slice-2.ensures.value ∙ listed.put ∙ ap (λ xs. flat_map listed_said xs ++ items) c.new-listed.ensures.items) c.in_ok-after.ensures;
      within = listed.within;
    })
