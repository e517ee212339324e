use Rattle.std.proofs.Common.{◌≡◌, ◌+◌, ℤ, FitsSigned, w64, rules, length, ap, subst, ◌∙◌}
use Rattle.std.proofs.lemmas.Int.{to_z-of_z}
use Rattle.std.proofs.lemmas.Result.{err_from_is_err_and}
use Rattle.affc_quast.specs.Leaves.{negated}
use Rattle.affc_quast.specs.Seen.{seen}
use Rattle.affc_quast.specs.declared.leaves.Leaf.{Leaf}
use Rattle.affc_life.specs.Asked.{IsPath}
use Rattle.affc_check.specs.Looked.{AreLooked}
use Rattle.affc_life.specs.Paths.{with_row, IsDivided}
use Rattle.affc_check.specs.list.Limits.{AnyPasses}
use Rattle.affc_check.specs.list.Walks.{leaf_items}
use Rattle.affc_life.proofs.PathLemmas.{on_walks, off_walks, rest_walks, on_less, off_less, rest_less, rest_flat}
use Rattle.affc_check.proofs.PathLemmas.{test_looked, on_passes, off_passes}
use Rattle.affc_check.proofs.looks.+look_tree.Goals as goal

pub look_tree-requires : goal.look_tree-requires
look_tree-requires t c =
    let r = c.requires in
    let path : Leaf = c.args.path.now in
    let f = c.in-Test.form in
    let on = seen c.in-Test.yes.value in
    let off = seen c.in-Test.no.value in
    let tree = seen c.args.tree.now in
    let sub = seen c.deref.result.now in
    let is : c.deref.result.now ≡ c.in-Test.yes.value = search rules in
    let P = IsPath c.args.nest.now (length c.args.nest.now.params + length c.args.of.now.reader.now.loops) in (
      on_less P path c.add_copy.new.path f on off tree sub (ap seen c.in-Test.is) t (ap seen is) c.decreases,
      (r.nested, (r.loaded, on_walks P path c.add_copy.new.path f on off tree sub (ap seen c.in-Test.is) c.in_ok-add_copy-in-Test.ensures (ap seen is) (r.open, (r.shaped, (r.fits, (r.room, r.paths)))))),
    )

pub returns-in_err-half-in-Test-clause-past : goal.returns-in_err-half-in-Test-clause-past
returns-in_err-half-in-Test-clause-past t c =
    let is : c.deref.result.now ≡ c.in-Test.yes.value = search rules in
    let F = leaf_items c.args.nest.now c.args.of.now.reader.now c.args.of.now.load.now in
    let p = err_from_is_err_and c.from_residual-in_err-half-in-Test.result c.from_residual-in_err-half-in-Test.ensures.1 in
    rw (p.1, p.2)
    (λ l. on_passes F c.args.path.now c.add_copy.new.path c.in-Test.form (seen c.in-Test.yes.value) (seen c.in-Test.no.value) (seen c.args.tree.now) (seen c.deref.result.now) (ap seen c.in-Test.is) c.in_ok-add_copy-in-Test.ensures (ap seen is)
    (c.in_err-half-in-Test.ensures.past l))

pub look_tree-requires-in-Test : goal.look_tree-requires-in-Test
look_tree-requires-in-Test t c =
    let r = c.requires in
    let path : Leaf = c.args.path.now in
    let f = c.in-Test.form in
    let on = seen c.in-Test.yes.value in
    let off = seen c.in-Test.no.value in
    let tree = seen c.args.tree.now in
    let sub = seen c.deref-in-Test.result.now in
    let is : c.deref-in-Test.result.now ≡ c.in-Test.no.value = search rules in
    let back : c.drop_row.new.path ≡ path = c.drop_row.ensures path f (c.in_ok-half-in-Test.ensures.kept ∙ c.in_ok-add_copy-in-Test.ensures) in
    let turned : c.add_row.new.path ≡ with_row path (negated f) = c.in_ok-add_row-in-Test.ensures ∙ ap (λ q. with_row q c.in_ok-off-in-Test.off) back ∙ ap (λ q. with_row path q) c.in_ok-off-in-Test.ensures in
    let P = IsPath c.args.nest.now (length c.args.nest.now.params + length c.args.of.now.reader.now.loops) in (
      off_less P path c.add_row.new.path f on off tree sub (ap seen c.in-Test.is) t (ap seen is) c.decreases,
      (r.nested, (r.loaded, off_walks P path c.add_row.new.path f on off tree sub (ap seen c.in-Test.is) turned (ap seen is) (r.open, (r.shaped, (r.fits, (r.room, r.paths)))))),
    )

pub returns-in_err-whole-in-Test-clause-past : goal.returns-in_err-whole-in-Test-clause-past
returns-in_err-whole-in-Test-clause-past t c =
    let path : Leaf = c.args.path.now in
    let f = c.in-Test.form in
    let yes_is : c.deref.result.now ≡ c.in-Test.yes.value = search rules in
    let no_is : c.deref-in-Test.result.now ≡ c.in-Test.no.value = search rules in
    let back : c.drop_row.new.path ≡ path = c.drop_row.ensures path f (c.in_ok-half-in-Test.ensures.kept ∙ c.in_ok-add_copy-in-Test.ensures) in
    let turned : c.add_row.new.path ≡ with_row path (negated f) = c.in_ok-add_row-in-Test.ensures ∙ ap (λ q. with_row q c.in_ok-off-in-Test.off) back ∙ ap (λ q. with_row path q) c.in_ok-off-in-Test.ensures in
    let F = leaf_items c.args.nest.now c.args.of.now.reader.now c.args.of.now.load.now in
    let p = err_from_is_err_and c.from_residual-in_err-whole-in-Test.result c.from_residual-in_err-whole-in-Test.ensures.1 in
    rw (p.1, p.2)
    (λ l. off_passes F path c.add_copy.new.path c.add_row.new.path f (seen c.in-Test.yes.value) (seen c.in-Test.no.value) (seen c.args.tree.now) (seen c.deref.result.now) (seen c.deref-in-Test.result.now) (ap seen c.in-Test.is)
    c.in_ok-add_copy-in-Test.ensures turned (ap seen yes_is) (ap seen no_is) (c.in_err-whole-in-Test.ensures.past l))

pub returns-in_ok-whole-in-Test-clause-ok : goal.returns-in_ok-whole-in-Test-clause-ok
returns-in_ok-whole-in-Test-clause-ok t c =
    let path : Leaf = c.args.path.now in
    let f = c.in-Test.form in
    let yes_is : c.deref.result.now ≡ c.in-Test.yes.value = search rules in
    let no_is : c.deref-in-Test.result.now ≡ c.in-Test.no.value = search rules in
    let back : c.drop_row.new.path ≡ path = c.drop_row.ensures path f (c.in_ok-half-in-Test.ensures.kept ∙ c.in_ok-add_copy-in-Test.ensures) in
    let turned : c.add_row.new.path ≡ with_row path (negated f) = c.in_ok-add_row-in-Test.ensures ∙ ap (λ q. with_row q c.in_ok-off-in-Test.off) back ∙ ap (λ q. with_row path q) c.in_ok-off-in-Test.ensures in
    let F = leaf_items c.args.nest.now c.args.of.now.reader.now c.args.of.now.load.now in
    test_looked F path c.add_copy.new.path c.add_row.new.path f (seen c.in-Test.yes.value) (seen c.in-Test.no.value) (seen c.args.tree.now) (seen c.deref.result.now) (seen c.deref-in-Test.result.now) (ap seen c.in-Test.is)
    c.in_ok-add_copy-in-Test.ensures turned (ap seen yes_is) (ap seen no_is) c.args.looked c.in_ok-half-in-Test.half c.in_ok-whole-in-Test.whole c.in_ok-half-in-Test.ensures.ok c.in_ok-whole-in-Test.ensures.ok

pub look_tree-requires-in-Div : goal.look_tree-requires-in-Div
look_tree-requires-in-Div t c =
    let r = c.requires in
    let path : Leaf = c.args.path.now in
    let f = c.in-Div.form in
    let by : ℤ = c.in-Div.by in
    let fit : FitsSigned w64 c.in-Div.by = search rules in
    let is : c.deref-in-Div.result.now ≡ c.in-Div.rest.value = search rules in
    let divided : IsDivided path f by c.divide.new.path = simp to_z-of_z at c.in_ok-divide-in-Div.ensures in
    let P = IsPath c.args.nest.now (length c.args.nest.now.params + length c.args.of.now.reader.now.loops) in (
      rest_less path c.divide.new.path f by (seen c.in-Div.rest.value) (seen c.args.tree.now) (seen c.deref-in-Div.result.now) (ap seen c.in-Div.is) (ap seen is) t c.decreases,
      (r.nested, (r.loaded, rest_walks path c.divide.new.path f by (seen c.in-Div.rest.value) (seen c.args.tree.now) (seen c.deref-in-Div.result.now) (ap seen c.in-Div.is) (ap seen is) P divided (r.open, (r.shaped, (r.fits, (r.room, r.paths)))))),
    )

pub returns-in_err-whole-in-Div-clause-past : goal.returns-in_err-whole-in-Div-clause-past
returns-in_err-whole-in-Div-clause-past t c =
    let path : Leaf = c.args.path.now in
    let f = c.in-Div.form in
    let by : ℤ = c.in-Div.by in
    let fit : FitsSigned w64 c.in-Div.by = search rules in
    let is : c.deref-in-Div.result.now ≡ c.in-Div.rest.value = search rules in
    let divided : IsDivided path f by c.divide.new.path = simp to_z-of_z at c.in_ok-divide-in-Div.ensures in
    let F = leaf_items c.args.nest.now c.args.of.now.reader.now c.args.of.now.load.now in
    let p = err_from_is_err_and c.from_residual-in_err-whole-in-Div.result c.from_residual-in_err-whole-in-Div.ensures.1 in
    rw (p.1, p.2)
    (λ l. subst AnyPasses (rest_flat F path c.divide.new.path f by (seen c.in-Div.rest.value) (seen c.args.tree.now) (seen c.deref-in-Div.result.now) (ap seen c.in-Div.is) (ap seen is) divided) (c.in_err-whole-in-Div.ensures.past l))

pub returns-in_ok-whole-in-Div-clause-ok : goal.returns-in_ok-whole-in-Div-clause-ok
returns-in_ok-whole-in-Div-clause-ok t c =
    let path : Leaf = c.args.path.now in
    let f = c.in-Div.form in
    let by : ℤ = c.in-Div.by in
    let fit : FitsSigned w64 c.in-Div.by = search rules in
    let is : c.deref-in-Div.result.now ≡ c.in-Div.rest.value = search rules in
    let divided : IsDivided path f by c.divide.new.path = simp to_z-of_z at c.in_ok-divide-in-Div.ensures in
    let F = leaf_items c.args.nest.now c.args.of.now.reader.now c.args.of.now.load.now in
    subst (AreLooked c.args.looked c.in_ok-whole-in-Div.whole) (rest_flat F path c.divide.new.path f by (seen c.in-Div.rest.value) (seen c.args.tree.now) (seen c.deref-in-Div.result.now) (ap seen c.in-Div.is) (ap seen is) divided) c.in_ok-whole-in-Div.ensures.ok
