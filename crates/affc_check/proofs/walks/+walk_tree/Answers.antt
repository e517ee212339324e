use Rattle.std.proofs.Common.{◌≡◌, ℤ, FitsSigned, w64, rules, sym, ap, subst, ◌∙◌}
use Rattle.std.proofs.lemmas.Int.{to_z-of_z}
use Rattle.std.proofs.lemmas.Result.{err_from_is_err_and, IfOk-weaker, IfErr-weaker}
use Rattle.affc_quast.specs.Leaves.{negated}
use Rattle.affc_quast.specs.Seen.{seen}
use Rattle.affc_quast.specs.Trees.{Source}
use Rattle.affc_quast.specs.declared.leaves.Leaf.{Leaf}
use Rattle.affc_life.specs.Paths.{with_row, IsDivided}
use Rattle.affc_life.proofs.PathLemmas.{on_walks, off_walks, rest_walks, on_less, off_less, rest_less, rest_flat}
use Rattle.affc_check.specs.Walked.{Walked, Breaks, leaf_clashes, IsWalked}
use Rattle.affc_check.proofs.WalkedLemmas.{source_end, test_walked, on_breaks, off_breaks}
use Rattle.affc_check.proofs.walks.+walk_tree.Goals as goal

pub walk_tree-requires : goal.walk_tree-requires
walk_tree-requires t c =
    let r = c.requires in
    let path : Leaf = c.args.path.now in
    let f = c.in-Test.form in
    let on = seen c.in-Test.yes.value in
    let off = seen c.in-Test.no.value in
    let tree = seen c.args.tree.now in
    let sub = seen c.deref.result.now in
    let is : c.deref.result.now ≡ c.in-Test.yes.value = search rules in
    let P = IsWalked c.args.asked.now c.args.of.now in (
      on_less P path c.add_copy.new.path f on off tree sub (ap seen c.in-Test.is) t (ap seen is) c.decreases,
      (r.scheduled, (r.loaded, on_walks P path c.add_copy.new.path f on off tree sub (ap seen c.in-Test.is) c.in_ok-add_copy-in-Test.ensures (ap seen is) (r.open, (r.shaped, (r.fits, (r.room, r.leaves)))))),
    )

pub returns-in_err-half-in-Test-clause-past : goal.returns-in_err-half-in-Test-clause-past
returns-in_err-half-in-Test-clause-past t c =
    let is : c.deref.result.now ≡ c.in-Test.yes.value = search rules in
    let F = leaf_clashes c.args.asked.now c.args.of.now in
    let p = err_from_is_err_and c.from_residual-in_err-half-in-Test.result c.from_residual-in_err-half-in-Test.ensures.1 in
    rw (p.1, p.2)
    (λ l. on_breaks c.args.asked.now.along F c.args.path.now c.add_copy.new.path c.in-Test.form (seen c.in-Test.yes.value) (seen c.in-Test.no.value) (seen c.args.tree.now) (seen c.deref.result.now) (ap seen c.in-Test.is) c.in_ok-add_copy-in-Test.ensures (ap seen is)
    (c.in_err-half-in-Test.ensures.past l))

pub walk_tree-requires-in-Test : goal.walk_tree-requires-in-Test
walk_tree-requires-in-Test t c =
    let r = c.requires in
    let path : Leaf = c.args.path.now in
    let f = c.in-Test.form in
    let on = seen c.in-Test.yes.value in
    let off = seen c.in-Test.no.value in
    let tree = seen c.args.tree.now in
    let sub = seen c.deref-in-Test.result.now in
    let is : c.deref-in-Test.result.now ≡ c.in-Test.no.value = search rules in
    let back : c.drop_row.new.path ≡ path = c.drop_row.ensures path f (c.in_ok-half-in-Test.ensures.kept ∙ c.in_ok-add_copy-in-Test.ensures) in
    let turned : c.add_row.new.path ≡ with_row path (negated f) = c.in_ok-add_row-in-Test.ensures ∙ ap (λ q. with_row q c.in_ok-off-in-Test.off) back ∙ ap (λ q. with_row path q) c.in_ok-off-in-Test.ensures in
    let P = IsWalked c.args.asked.now c.args.of.now in (
      off_less P path c.add_row.new.path f on off tree sub (ap seen c.in-Test.is) t (ap seen is) c.decreases,
      (r.scheduled, (r.loaded, off_walks P path c.add_row.new.path f on off tree sub (ap seen c.in-Test.is) turned (ap seen is) (r.open, (r.shaped, (r.fits, (r.room, r.leaves)))))),
    )

pub returns-in_err-whole-in-Test-clause-past : goal.returns-in_err-whole-in-Test-clause-past
returns-in_err-whole-in-Test-clause-past t c =
    let path : Leaf = c.args.path.now in
    let f = c.in-Test.form in
    let yes_is : c.deref.result.now ≡ c.in-Test.yes.value = search rules in
    let no_is : c.deref-in-Test.result.now ≡ c.in-Test.no.value = search rules in
    let back : c.drop_row.new.path ≡ path = c.drop_row.ensures path f (c.in_ok-half-in-Test.ensures.kept ∙ c.in_ok-add_copy-in-Test.ensures) in
    let turned : c.add_row.new.path ≡ with_row path (negated f) = c.in_ok-add_row-in-Test.ensures ∙ ap (λ q. with_row q c.in_ok-off-in-Test.off) back ∙ ap (λ q. with_row path q) c.in_ok-off-in-Test.ensures in
    let F = leaf_clashes c.args.asked.now c.args.of.now in
    let p = err_from_is_err_and c.from_residual-in_err-whole-in-Test.result c.from_residual-in_err-whole-in-Test.ensures.1 in
    rw (p.1, p.2)
    (λ l. off_breaks c.args.asked.now.along F path c.add_copy.new.path c.add_row.new.path f (seen c.in-Test.yes.value) (seen c.in-Test.no.value) (seen c.args.tree.now) (seen c.deref.result.now) (seen c.deref-in-Test.result.now) (ap seen c.in-Test.is)
    c.in_ok-add_copy-in-Test.ensures turned (ap seen yes_is) (ap seen no_is) (c.in_err-whole-in-Test.ensures.past l))

pub returns-in_ok-whole-in-Test-clause-ok : goal.returns-in_ok-whole-in-Test-clause-ok
returns-in_ok-whole-in-Test-clause-ok t c =
    let path : Leaf = c.args.path.now in
    let f = c.in-Test.form in
    let yes_is : c.deref.result.now ≡ c.in-Test.yes.value = search rules in
    let no_is : c.deref-in-Test.result.now ≡ c.in-Test.no.value = search rules in
    let back : c.drop_row.new.path ≡ path = c.drop_row.ensures path f (c.in_ok-half-in-Test.ensures.kept ∙ c.in_ok-add_copy-in-Test.ensures) in
    let turned : c.add_row.new.path ≡ with_row path (negated f) = c.in_ok-add_row-in-Test.ensures ∙ ap (λ q. with_row q c.in_ok-off-in-Test.off) back ∙ ap (λ q. with_row path q) c.in_ok-off-in-Test.ensures in
    let F = leaf_clashes c.args.asked.now c.args.of.now in
    test_walked c.args.asked.now.along F path c.add_copy.new.path c.add_row.new.path f (seen c.in-Test.yes.value) (seen c.in-Test.no.value) (seen c.args.tree.now) (seen c.deref.result.now) (seen c.deref-in-Test.result.now) (ap seen c.in-Test.is)
    c.in_ok-add_copy-in-Test.ensures turned (ap seen yes_is) (ap seen no_is) c.args.carried c.in_ok-half-in-Test.half c.in_ok-whole-in-Test.whole c.in_ok-half-in-Test.ensures.ok c.in_ok-whole-in-Test.ensures.ok

pub walk_tree-requires-in-Div : goal.walk_tree-requires-in-Div
walk_tree-requires-in-Div t c =
    let r = c.requires in
    let path : Leaf = c.args.path.now in
    let f = c.in-Div.form in
    let by : ℤ = c.in-Div.by in
    let fit : FitsSigned w64 c.in-Div.by = search rules in
    let is : c.deref-in-Div.result.now ≡ c.in-Div.rest.value = search rules in
    let divided : IsDivided path f by c.divide.new.path = simp to_z-of_z at c.in_ok-divide-in-Div.ensures in
    let P = IsWalked c.args.asked.now c.args.of.now in (
      rest_less path c.divide.new.path f by (seen c.in-Div.rest.value) (seen c.args.tree.now) (seen c.deref-in-Div.result.now) (ap seen c.in-Div.is) (ap seen is) t c.decreases,
      (r.scheduled, (r.loaded, rest_walks path c.divide.new.path f by (seen c.in-Div.rest.value) (seen c.args.tree.now) (seen c.deref-in-Div.result.now) (ap seen c.in-Div.is) (ap seen is) P divided (r.open, (r.shaped, (r.fits, (r.room, r.leaves)))))),
    )

pub returns-in_err-whole-in-Div-clause-past : goal.returns-in_err-whole-in-Div-clause-past
returns-in_err-whole-in-Div-clause-past t c =
    let path : Leaf = c.args.path.now in
    let f = c.in-Div.form in
    let by : ℤ = c.in-Div.by in
    let fit : FitsSigned w64 c.in-Div.by = search rules in
    let is : c.deref-in-Div.result.now ≡ c.in-Div.rest.value = search rules in
    let divided : IsDivided path f by c.divide.new.path = simp to_z-of_z at c.in_ok-divide-in-Div.ensures in
    let F = leaf_clashes c.args.asked.now c.args.of.now in
    let p = err_from_is_err_and c.from_residual-in_err-whole-in-Div.result c.from_residual-in_err-whole-in-Div.ensures.1 in
    rw (p.1, p.2)
    (λ l. subst (Breaks c.args.asked.now.along) (rest_flat F path c.divide.new.path f by (seen c.in-Div.rest.value) (seen c.args.tree.now) (seen c.deref-in-Div.result.now) (ap seen c.in-Div.is) (ap seen is) divided) (c.in_err-whole-in-Div.ensures.past l))

pub returns-in_ok-whole-in-Div-clause-ok : goal.returns-in_ok-whole-in-Div-clause-ok
returns-in_ok-whole-in-Div-clause-ok t c =
    let path : Leaf = c.args.path.now in
    let f = c.in-Div.form in
    let by : ℤ = c.in-Div.by in
    let fit : FitsSigned w64 c.in-Div.by = search rules in
    let is : c.deref-in-Div.result.now ≡ c.in-Div.rest.value = search rules in
    let divided : IsDivided path f by c.divide.new.path = simp to_z-of_z at c.in_ok-divide-in-Div.ensures in
    let F = leaf_clashes c.args.asked.now c.args.of.now in
    subst (Walked c.args.asked.now.along c.args.carried c.in_ok-whole-in-Div.whole) (rest_flat F path c.divide.new.path f by (seen c.in-Div.rest.value) (seen c.args.tree.now) (seen c.deref-in-Div.result.now) (ap seen c.in-Div.is) (ap seen is) divided) c.in_ok-whole-in-Div.ensures.ok

pub returns-in_ok-forms-in-Source-clause-ok : goal.returns-in_ok-forms-in-Source-clause-ok
returns-in_ok-forms-in-Source-clause-ok t c =
    let F = leaf_clashes c.args.asked.now c.args.of.now in
    let forms = c.in_ok-forms-in-Source.ensures ∙ c.as_slice.ensures in
    IfOk-weaker c.walk_end.result _ _
    (λ new h. subst (Walked c.args.asked.now.along c.args.carried new)
    (source_end F c.args.path.now c.in-Source.part c.in_ok-forms-in-Source.forms (seen c.args.tree.now) (ap seen c.in-Source.is ∙ ap (Source c.in-Source.part) (sym forms))) h) c.walk_end.ensures.ok

pub returns-in_ok-forms-in-Source-clause-past : goal.returns-in_ok-forms-in-Source-clause-past
returns-in_ok-forms-in-Source-clause-past t c =
    let F = leaf_clashes c.args.asked.now c.args.of.now in
    let forms = c.in_ok-forms-in-Source.ensures ∙ c.as_slice.ensures in
    IfErr-weaker c.walk_end.result _ _
    (λ e h l. subst (Breaks c.args.asked.now.along)
    (source_end F c.args.path.now c.in-Source.part c.in_ok-forms-in-Source.forms (seen c.args.tree.now) (ap seen c.in-Source.is ∙ ap (Source c.in-Source.part) (sym forms))) (h l)) c.walk_end.ensures.past
