use Rattle.std.proofs.Common.{map, refl, sym, subst, inr}
use Rattle.std.proofs.lemmas.Result.{err_from_is_err_and}
use Rattle.affc_life.specs.Clashes.{clash_of}
use Rattle.affc_life.specs.declared.clash.ClashProduct.{ClashProduct}
use Rattle.std.specs.Prelude.{List}
use Rattle.affc_check.specs.Looked.{AreLooked}
use Rattle.affc_check.specs.Walked.{along_items, AreAlong}
use Rattle.affc_check.specs.list.Limits.{AnyPasses}
use Rattle.affc_check.specs.list.Walks.{clash_systems}
use Rattle.affc_check.proofs.walks.take_products.Goals as goal

pub look_distances-requires : goal.look_distances-requires
look_distances-requires c = subst (λ (ps : List ClashProduct). AreAlong c.args.along.now (map clash_of (clash_systems ps))) (sym c.as_slice.ensures.value) c.requires.along

pub returns-in_err-looked-clause-past : goal.returns-in_err-looked-clause-past
returns-in_err-looked-clause-past c =
    let p = err_from_is_err_and c.from_residual.result c.from_residual.ensures.1 in
    rw (p.1, p.2)
    (λ l. inr (subst (λ (ps : List ClashProduct). AnyPasses (along_items c.args.along.now (map clash_of (clash_systems ps)))) c.as_slice.ensures.value (c.in_err-looked.ensures.past l)))

pub returns-clause-ok : goal.returns-clause-ok
returns-clause-ok c = record {
  looked = subst (λ (ps : List ClashProduct). AreLooked c.args.carried.looked c.in_ok-looked.looked (along_items c.args.along.now (map clash_of (clash_systems ps)))) c.as_slice.ensures.value c.in_ok-looked.ensures.ok;
  sought = c.in_ok-sought.ensures;
  systems = clash_systems c.args.products.items;
  are = refl;
  fits = c.requires.fits;
}
