use Rattle.std.proofs.Common.{flat_map, map, ◌++◌, Some, sym, ap, subst, ◌∙◌}
use Rattle.std.proofs.lemmas.Result.{err_from_is_err_and}
use Rattle.affc_conflicts.specs.Questions.{distance_questions}
use Rattle.affc_trace.proofs.Members.{to_map}
use Rattle.affc_life.specs.Clashes.{clash_of}
use Rattle.affc_check.specs.Walked.{along_items}
use Rattle.affc_check.specs.list.Held.{listed_said}
use Rattle.affc_check.specs.list.Items.{Question}
use Rattle.affc_check.specs.list.Limits.{AnyPasses}
use Rattle.affc_check.specs.list.Walks.{clash_systems}
use Rattle.affc_check.proofs.LookLemmas.{looks_same}
use Rattle.affc_check.proofs.WalkedLemmas.{each_along, along_are}
use Rattle.affc_check.proofs.list.ProductLemmas.{bases_along}
use Rattle.affc_check.proofs.walks.look_along.Goals as goal

pub add_distances-requires : goal.add_distances-requires
add_distances-requires c =
    let a = c.args.along.now in
    let ps = c.args.products.now in
    bases_along a.rows.now a.row.now a.modulus.now ps (each_along a.rows.now a.row.now a.modulus.now (clash_systems ps) (λ s i. c.requires s (to_map clash_of (clash_systems ps) s i)))

pub returns-in_err-add_distances-clause-past : goal.returns-in_err-add_distances-clause-past
returns-in_err-add_distances-clause-past c =
    let p = err_from_is_err_and c.from_residual.result c.from_residual.ensures.1 in
    rw (p.1, p.2) (λ l. subst AnyPasses (along_are c.args.along.now (clash_systems c.args.products.now)) (c.in_err-add_distances.ensures.past l))

pub returns-clause-ok : goal.returns-clause-ok
returns-clause-ok c =
    let a = c.args.along.now in
    let ss = clash_systems c.args.products.now in
    let items = map Question (distance_questions a.rows.now a.k a.row.now a.modulus.now ss) in
    let listed = c.in_ok-add_distances.ensures.ok in
    let is = along_are a ss in
    record {
      looks = looks_same c.args.looked c.in_ok-after.after (flat_map listed_said c.as_slice.result.now) (along_items (Some a) (map clash_of ss))
          (ap (flat_map listed_said) c.as_slice.ensures.value ∙ listed.put ∙ ap (λ xs. flat_map listed_said xs ++ items) c.new-listed.ensures.items ∙ is) c.in_ok-after.ensures;
      within = λ h. listed.within (subst AnyPasses (sym is) h);
    }
