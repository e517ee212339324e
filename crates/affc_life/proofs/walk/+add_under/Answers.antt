use Rattle.std.proofs.Common.{◌≡◌, ◌+◌, ◌++◌, ℤ, FitsSigned, w64, rules, flat_map, length, ap, ◌∙◌}
use Rattle.std.proofs.lemmas.Int.{to_z-of_z}
use Rattle.affc_quast.specs.Leaves.{negated}
use Rattle.affc_quast.specs.Seen.{seen}
use Rattle.affc_quast.specs.declared.leaves.Leaf.{Leaf}
use Rattle.affc_life.specs.Asked.{IsPath}
use Rattle.affc_life.specs.Drafts.{drafted, walk_of, clashes_of_leaf}
use Rattle.affc_life.specs.Paths.{with_row, leaves_under, IsDivided}
use Rattle.affc_life.proofs.PathLemmas.{on_walks, off_walks, rest_walks, on_less, off_less, rest_less, test_flat, rest_flat, both_put}
use Rattle.affc_life.proofs.walk.+add_under.Goals as goal

pub add_under-requires : goal.add_under-requires
add_under-requires t c =
    let r = c.requires in
    let path : Leaf = c.args.path.now in
    let f = c.in-Test.form in
    let on = seen c.in-Test.yes.value in
    let off = seen c.in-Test.no.value in
    let tree = seen c.args.tree.now in
    let sub = seen c.deref.result.now in
    let is : c.deref.result.now ≡ c.in-Test.yes.value = search rules in
    let P = IsPath c.args.asked.now.nest.now (length c.args.asked.now.nest.now.params + length c.args.reader.now.loops) in (
      on_less P path c.add_copy.new.path f on off tree sub (ap seen c.in-Test.is) t (ap seen is) c.decreases,
      (r.scheduled, (r.reads, (r.load, on_walks P path c.add_copy.new.path f on off tree sub (ap seen c.in-Test.is) c.in_ok-add_copy-in-Test.ensures (ap seen is) (r.open, (r.shaped, (r.fits, (r.room, r.paths))))))),
    )

pub add_under-requires-in-Test : goal.add_under-requires-in-Test
add_under-requires-in-Test t c =
    let r = c.requires in
    let path : Leaf = c.args.path.now in
    let f = c.in-Test.form in
    let on = seen c.in-Test.yes.value in
    let off = seen c.in-Test.no.value in
    let tree = seen c.args.tree.now in
    let sub = seen c.deref-in-Test.result.now in
    let is : c.deref-in-Test.result.now ≡ c.in-Test.no.value = search rules in
    let back : c.drop_row.new.path ≡ path = c.drop_row.ensures path f (c.in_ok-add_under-in-Test.ensures.kept ∙ c.in_ok-add_copy-in-Test.ensures) in
    let turned : c.add_row.new.path ≡ with_row path (negated f) = c.in_ok-add_row-in-Test.ensures ∙ ap (λ q. with_row q c.in_ok-off-in-Test.off) back ∙ ap (λ q. with_row path q) c.in_ok-off-in-Test.ensures in
    let P = IsPath c.args.asked.now.nest.now (length c.args.asked.now.nest.now.params + length c.args.reader.now.loops) in (
      off_less P path c.add_row.new.path f on off tree sub (ap seen c.in-Test.is) t (ap seen is) c.decreases,
      (r.scheduled, (r.reads, (r.load, off_walks P path c.add_row.new.path f on off tree sub (ap seen c.in-Test.is) turned (ap seen is) (r.open, (r.shaped, (r.fits, (r.room, r.paths))))))),
    )

pub returns-in_ok-add_under-in-Test-2-clause-made : goal.returns-in_ok-add_under-in-Test-2-clause-made
returns-in_ok-add_under-in-Test-2-clause-made t c =
    let path : Leaf = c.args.path.now in
    let f = c.in-Test.form in
    let first = seen c.deref.result.now in
    let second = seen c.deref-in-Test.result.now in
    let yes_is : c.deref.result.now ≡ c.in-Test.yes.value = search rules in
    let no_is : c.deref-in-Test.result.now ≡ c.in-Test.no.value = search rules in
    let back : c.drop_row.new.path ≡ path = c.drop_row.ensures path f (c.in_ok-add_under-in-Test.ensures.kept ∙ c.in_ok-add_copy-in-Test.ensures) in
    let turned : c.add_row.new.path ≡ with_row path (negated f) = c.in_ok-add_row-in-Test.ensures ∙ ap (λ q. with_row q c.in_ok-off-in-Test.off) back ∙ ap (λ q. with_row path q) c.in_ok-off-in-Test.ensures in
    let F = clashes_of_leaf c.args.asked.now.nest.now (walk_of c.args.asked.now) c.args.reader.now c.args.load.now in
    both_put (flat_map drafted c.args.out.now.items) (flat_map drafted c.add_under.new.out.items) (flat_map drafted c.add_under-in-Test.new.out.items) (flat_map F (leaves_under c.add_copy.new.path first)) (flat_map F (leaves_under c.add_row.new.path second))
    (flat_map F (leaves_under path (seen c.args.tree.now))) c.in_ok-add_under-in-Test.ensures.made c.in_ok-add_under-in-Test-2.ensures.made
    (test_flat F path c.add_copy.new.path c.add_row.new.path f (seen c.in-Test.yes.value) (seen c.in-Test.no.value) (seen c.args.tree.now) first second (ap seen c.in-Test.is) c.in_ok-add_copy-in-Test.ensures turned (ap seen yes_is) (ap seen no_is))

pub add_under-requires-in-Div : goal.add_under-requires-in-Div
add_under-requires-in-Div t c =
    let r = c.requires in
    let path : Leaf = c.args.path.now in
    let f = c.in-Div.form in
    let by : ℤ = c.in-Div.by in
    let fit : FitsSigned w64 c.in-Div.by = search rules in
    let is : c.deref-in-Div.result.now ≡ c.in-Div.rest.value = search rules in
    let divided : IsDivided path f by c.divide.new.path = simp to_z-of_z at c.in_ok-divide-in-Div.ensures in
    let P = IsPath c.args.asked.now.nest.now (length c.args.asked.now.nest.now.params + length c.args.reader.now.loops) in (
      rest_less path c.divide.new.path f by (seen c.in-Div.rest.value) (seen c.args.tree.now) (seen c.deref-in-Div.result.now) (ap seen c.in-Div.is) (ap seen is) t c.decreases,
      (r.scheduled, (r.reads, (r.load, rest_walks path c.divide.new.path f by (seen c.in-Div.rest.value) (seen c.args.tree.now) (seen c.deref-in-Div.result.now) (ap seen c.in-Div.is) (ap seen is) P divided (r.open, (r.shaped, (r.fits, (r.room, r.paths))))))),
    )

pub returns-in_ok-add_under-in-Div-clause-made : goal.returns-in_ok-add_under-in-Div-clause-made
returns-in_ok-add_under-in-Div-clause-made t c =
    let path : Leaf = c.args.path.now in
    let f = c.in-Div.form in
    let by : ℤ = c.in-Div.by in
    let fit : FitsSigned w64 c.in-Div.by = search rules in
    let is : c.deref-in-Div.result.now ≡ c.in-Div.rest.value = search rules in
    let divided : IsDivided path f by c.divide.new.path = simp to_z-of_z at c.in_ok-divide-in-Div.ensures in
    let F = clashes_of_leaf c.args.asked.now.nest.now (walk_of c.args.asked.now) c.args.reader.now c.args.load.now in
    c.in_ok-add_under-in-Div.ensures.made
    ∙ ap (λ l. flat_map drafted c.args.out.now.items ++ l) (rest_flat F path c.divide.new.path f by (seen c.in-Div.rest.value) (seen c.args.tree.now) (seen c.deref-in-Div.result.now) (ap seen c.in-Div.is) (ap seen is) divided)
