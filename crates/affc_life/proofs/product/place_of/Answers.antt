use Rattle.std.proofs.Common.{◌≡◌, ◌+◌, ℕ, length, flat_map, drop, refl, sym, ap, subst, arith, ◌∙◌}
use Rattle.std.specs.List.{All}
use Rattle.std.proofs.lemmas.List.{drop_all}
use Rattle.affc_system.specs.Systems.{IsRow}
use Rattle.affc_products.specs.Blocks.{choices}
use Rattle.affc_life.specs.Products.{systems_in}
use Rattle.affc_life.specs.Sought.{IsSought}
use Rattle.affc_life.proofs.SoughtLemmas.{sought_here, sought_later, counted_later, choice_fits}
use Rattle.affc_life.proofs.product.place_of.Goals as goal

first_count : (n l : ℕ) → n + l ≡ l + n
first_count n l = omega arith

pub loop-product-init : goal.loop-product-init
loop-product-init c = (refl, first_count c.args.number (length (flat_map systems_in c.args.products.now)))

pub returns-in-Choice : goal.returns-in-Choice
returns-in-Choice c =
    let p = c.product-item.result in
    let sought = subst (IsSought (choices c.as_slice.result.now) c.loop-product.left) c.in-Choice.is c.in_ok-rows.ensures in (
      c.loop-product.invariant.0 ∙ sought_here c.args.products.now c.loop-product.product-index p c.loop-product-test.true c.product-item.is c.as_slice.result.now c.loop-product.left c.in-Choice.rows c.as_slice.ensures sought,
      choice_fits p.base.system.columns c.as_slice.result.now c.loop-product.left c.in-Choice.rows (subst (All (All (All (IsRow p.base.system.columns)))) (sym c.as_slice.ensures) p.fit) sought,
    )

pub loop-product-preserved : goal.loop-product-preserved
loop-product-preserved c =
    let p = c.product-item.result in
    let sought = subst (IsSought (choices c.as_slice.result.now) c.loop-product.left) c.in-Past.is c.in_ok-rows.ensures in (
      c.loop-product.invariant.0 ∙ sought_later c.args.products.now c.loop-product.product-index p c.loop-product-test.true c.product-item.is c.as_slice.result.now c.loop-product.left c.in-Past.further c.as_slice.ensures sought,
      counted_later c.args.products.now c.loop-product.product-index p c.loop-product-test.true c.product-item.is c.as_slice.result.now c.args.number c.loop-product.left c.in-Past.further c.as_slice.ensures sought c.loop-product.invariant.1,
    )

pub returns : goal.returns
returns c =
    let ps = c.args.products.now in
    let i = c.loop-product.product-index in
    let none = ap (λ qs. length (flat_map systems_in qs)) (drop_all i ps c.loop-product-test.false) in
    whole c.args.number (length (flat_map systems_in (drop i ps))) (length (flat_map systems_in ps)) c.loop-product.left none c.loop-product.invariant.1
  where
    whole : (n d l k : ℕ) → d ≡ 0 → n + d ≡ l + k → n ≡ l + k
    whole n d l k e h = omega (arith, e, h)
