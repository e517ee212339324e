-- Each example computes; a chain's systems have no point.
use Rattle.std.proofs.Common.{◌≡◌, ℕ, zero, suc, max, ◌≤◌, ℤ, pos, negsuc, ◌+ℤ◌, ◌*ℤ◌, ◌≤ℤ◌, List, [], ◌∷◌, refl, sym, subst, inl, inr, arith}
use Rattle.std.specs.Prelude.{unsigned_abs}
use Rattle.std.proofs.lemmas.Int.{ints}
use Rattle.std.proofs.lemmas.List.Elements.{All-nil}
use denote.Hole.Carrier.{hidden}
use Rattle.affc_ast.specs.declared.tree.Ix.TheBlock.{shape-the_row-Ix-0, hidden-the_row-Ix-0}
use Rattle.affc_ast.specs.declared.tree.Val.TheBlock.{shape-the_row-Val-0, hidden-the_row-Val-0}
use Rattle.affc_ast.specs.declared.tree.Stmt.TheBlock.{shape-the_row-Stmt-0, hidden-the_row-Stmt-0}
use Rattle.affc_system.specs.Systems.{HasNoPoint}
use Rattle.affc_rows.specs.Forms.{Affine}
use Rattle.affc_trace.specs.Law.{IsIn}
use Rattle.affc_nest.proofs.DomainLemmas.{from_all}
use Rattle.affc_quast.specs.Limits.{Shaped, FitsTree, widest}
use Rattle.affc_quast.specs.Trees.{depth_of}
use Rattle.affc_life.specs.Asked.{NamesParts}
use Rattle.affc_life.specs.Clashes.{Clash}
use Rattle.affc_life.specs.Examples.{form, BlurHasTwelve, BlurHasSix, OthersHaveNone, MiddleClashes, BothOrders, NeverLoaded, AcrossArrays, AcrossOrders, chain_front, chain_orders, chain_clash, ChainClashes, OwnStoreIsNone, HalvedClashes, LivesToLastLoad, OwnStoreAlone, deep, in_turn, DepthsOfTrees, DimensionsInTurn, RowsInTurn, LastOneIsNoLoad, NoneOfTheDead}

pub blur_has_twelve : BlurHasTwelve
unfolding shape-the_row-Ix-0 hidden-the_row-Ix-0 shape-the_row-Val-0 hidden-the_row-Val-0 shape-the_row-Stmt-0 hidden-the_row-Stmt-0 hidden
blur_has_twelve = refl

pub blur_has_six : BlurHasSix
unfolding shape-the_row-Ix-0 hidden-the_row-Ix-0 shape-the_row-Val-0 hidden-the_row-Val-0 shape-the_row-Stmt-0 hidden-the_row-Stmt-0 hidden
blur_has_six = refl

pub others_have_none : OthersHaveNone
unfolding shape-the_row-Ix-0 hidden-the_row-Ix-0 shape-the_row-Val-0 hidden-the_row-Val-0 shape-the_row-Stmt-0 hidden-the_row-Stmt-0 hidden
others_have_none = (refl, refl)

pub middle_clashes : MiddleClashes
unfolding shape-the_row-Ix-0 hidden-the_row-Ix-0 shape-the_row-Val-0 hidden-the_row-Val-0 shape-the_row-Stmt-0 hidden-the_row-Stmt-0 hidden
middle_clashes = refl

pub chain_clashes : ChainClashes
chain_clashes = refl

pub halved_clashes : HalvedClashes
halved_clashes = refl

pub both_orders : BothOrders
both_orders = refl

pub never_loaded : NeverLoaded
never_loaded = refl

pub across_arrays : AcrossArrays
across_arrays = refl

pub across_orders : AcrossOrders
across_orders = refl

pub dimensions_in_turn : DimensionsInTurn
dimensions_in_turn = (refl, refl)

pub rows_in_turn : RowsInTurn
rows_in_turn = refl

pub lives_to_last_load : LivesToLastLoad
lives_to_last_load = refl

pub own_store_alone : OwnStoreAlone
own_store_alone = refl

shaped_deep : (n : ℕ) → Shaped 0 (deep n)
shaped_deep zero = tt
shaped_deep (suc n) = (refl, shaped_deep n, tt)

named_deep : (n : ℕ) → NamesParts in_turn (deep n)
named_deep zero = tt
named_deep (suc n) = (named_deep n, tt)

fits_deep : (n : ℕ) → FitsTree widest (deep n)
fits_deep zero = tt
fits_deep (suc n) = (record { coefs_fit = All-nil (λ c. unsigned_abs c ≤ widest.coefs); constant_fits = omega arith }, fits_deep n, tt)

one_more : (m n : ℕ) → m ≡ n → suc (max m 0) ≡ suc n
one_more m n e = omega (arith, e)

depth_deep : (n : ℕ) → depth_of (deep n) ≡ n
depth_deep zero = refl
depth_deep (suc n) = one_more (depth_of (deep n)) n (depth_deep n)

no_deeper : (d : ℕ) → d ≡ 401 → d ≤ 400 → ⊥
no_deeper d e h = omega arith

as_deep : (d : ℕ) → d ≡ 400 → d ≤ 400
as_deep d e = omega arith

pub depths_of_trees : DepthsOfTrees
depths_of_trees = (
  record { shaped = shaped_deep 400; named = named_deep 400; fits = fits_deep 400; short = as_deep (depth_of (deep 400)) (depth_deep 400) },
  λ keeps. no_deeper (depth_of (deep 401)) (depth_deep 401) keeps.short,
)

pub last_one_is_no_load : LastOneIsNoLoad
last_one_is_no_load = refl

pub none_of_the_dead : NoneOfTheDead
none_of_the_dead = refl

-- i - 1 < j and j < i
no_room : (n i j : ℤ) → pos 0 ≤ℤ (((pos 0 *ℤ n) +ℤ ((negsuc 0 *ℤ i) +ℤ ((pos 1 *ℤ j) +ℤ pos 0))) +ℤ pos 0) → pos 0 ≤ℤ (((pos 0 *ℤ n) +ℤ ((pos 1 *ℤ i) +ℤ ((negsuc 0 *ℤ j) +ℤ pos 0))) +ℤ negsuc 0) → ⊥
no_room n i j h g = omega (arith, ints, h, g)

none_there : (rows : List Affine) → HasNoPoint (chain_clash (chain_orders rows)).system
none_there rows [] is = absurd (omega (arith, is.width))
none_there rows (n ∷ []) is = absurd (omega (arith, is.width))
none_there rows (n ∷ i ∷ []) is = absurd (omega (arith, is.width))
none_there rows (n ∷ i ∷ j ∷ more) is =
    let m = from_all (n ∷ i ∷ j ∷ more) (chain_front (chain_orders rows)) is.meets in
    no_room n i j m.1.1.1.1.1.1.1.0 m.1.1.1.1.1.1.1.1.0

pub own_store_is_none : OwnStoreIsNone
own_store_is_none c i = chosen (subst (IsIn c) chain_clashes i)
  where
    chosen : IsIn c (chain_clash (chain_orders (form (pos 0 ∷ negsuc 0 ∷ pos 1 ∷ []) (pos 0) ∷ [])) ∷ chain_clash (chain_orders (form (pos 0 ∷ pos 1 ∷ negsuc 0 ∷ []) (negsuc 1) ∷ [])) ∷ []) → HasNoPoint c.system
    chosen (inl e) = subst (λ (c : Clash). HasNoPoint c.system) (sym e) (none_there (form (pos 0 ∷ negsuc 0 ∷ pos 1 ∷ []) (pos 0) ∷ []))
    chosen (inr (inl e)) = subst (λ (c : Clash). HasNoPoint c.system) (sym e) (none_there (form (pos 0 ∷ pos 1 ∷ negsuc 0 ∷ []) (negsuc 1) ∷ []))
    chosen (inr (inr n)) = absurd n
