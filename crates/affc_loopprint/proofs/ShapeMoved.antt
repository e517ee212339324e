-- Where more names stand in sight, the moved expression is printed with as many tokens and brackets.
use Rattle.std.proofs.Common.{◌≡◌, ℕ, Bool, true, List, [], ◌∷◌, map, refl, ap, ◌∙◌}
use Rattle.affc_ast.specs.declared.tree.Cond.{Cond}
use Rattle.affc_ast.specs.declared.tree.Ix.{Ix}
use Rattle.affc_ast.specs.declared.tree.Ix.TheVariants as c
use Rattle.affc_ast.specs.declared.tree.Ix.TheOpen.{Ix-F}
use Rattle.affc_ast.specs.declared.tree.Ix.TheBlock.{more_of-Ix, end_of-Ix}
use Rattle.affc_ast.specs.declared.tree.Val.{Val}
use Rattle.affc_ast.specs.declared.tree.Val.TheVariants as v
use Rattle.affc_ast.specs.declared.tree.Val.TheBlock.{more_of-Val, end_of-Val}
use Rattle.affc_cprint.specs.declared.brackets.Place.TheVariants.{Whole, RightOfSum, UnderMinus}
use Rattle.affc_cprint.specs.declared.brackets.Level.TheVariants.{Primary, Shifted}
use Rattle.affc_cprint.specs.Places.{divides}
use Rattle.affc_wellnamed.specs.declared.shape.Extent.{Extent}
use Rattle.affc_wellnamed.specs.declared.shape.IxExtent.{IxExtent}
use Rattle.affc_wellnamed.specs.declared.shape.ValExtent.{ValExtent}
use Rattle.affc_wellnamed.specs.Shape.{beside, and_tokens, bracketed, placed, negated, sum, product, choice, quotient, ix_step, ix_extent, whole, dims_behind, alone, remainder_extent, cond_step, cond_extent, at_level, binary, val_step, val_extent}
use Rattle.affc_loops.specs.Trees.{moved, moved_cond, moved_value}
use Rattle.affc_ast.proofs.Steps.{neg_here, floord_here, ceild_here, add_here, sub_here, mul_here, min_here, max_here, mod_here, not_here, bin_here, shift_here}
use Rattle.affc_loopprint.proofs.Conditions.{moved_same}

pub two : {A B C : Type 0} (f : A → B → C) (x x' : A) (y y' : B) → x ≡ x' → y ≡ y' → f x y ≡ f x' y'
two f x x' y y' p q = ap (λ z. f z y) p ∙ ap (f x') q

module _ (prelude : Bool) (first more : ℕ) where
  abbrev extent : Ix → IxExtent
  extent = ix_extent prelude

  abbrev to_new : Ix → Ix
  to_new = moved first more

  abbrev step : Ix-F IxExtent → IxExtent
  step = ix_step prelude

  pub moved_extent : (e : Ix) → extent (to_new e) ≡ extent e
  moved_extent (c.Lit n) = refl
  moved_extent (c.Name x) = refl
  moved_extent (c.Neg' s (more_of-Ix a end_of-Ix)) = neg_here step (to_new a) ∙ ap (λ z. negated (placed UnderMinus z)) (moved_extent a)
  moved_extent (c.Floord' s (more_of-Ix a end_of-Ix) n) = floord_here step (to_new a) n ∙ ap (quotient (divides prelude n)) (moved_extent a)
  moved_extent (c.Ceild' s (more_of-Ix a end_of-Ix) n) = ceild_here step (to_new a) n ∙ ap (quotient (divides prelude n)) (moved_extent a)
  moved_extent (c.Add' s (more_of-Ix a end_of-Ix) t (more_of-Ix b end_of-Ix)) = add_here step (to_new a) (to_new b) ∙ two sum _ _ _ _ (moved_extent a) (moved_extent b)
  moved_extent (c.Sub' s (more_of-Ix a end_of-Ix) t (more_of-Ix b end_of-Ix)) = sub_here step (to_new a) (to_new b) ∙ two sum _ _ _ _ (moved_extent a) (moved_extent b)
  moved_extent (c.Mul' s (more_of-Ix a end_of-Ix) t (more_of-Ix b end_of-Ix)) = mul_here step (to_new a) (to_new b) ∙ two product _ _ _ _ (moved_extent a) (moved_extent b)
  moved_extent (c.Min' s (more_of-Ix a end_of-Ix) t (more_of-Ix b end_of-Ix)) = min_here step (to_new a) (to_new b) ∙ two (choice prelude) _ _ _ _ (moved_extent a) (moved_extent b)
  moved_extent (c.Max' s (more_of-Ix a end_of-Ix) t (more_of-Ix b end_of-Ix)) = max_here step (to_new a) (to_new b) ∙ two (choice prelude) _ _ _ _ (moved_extent a) (moved_extent b)
  moved_extent (c.Mod' s (more_of-Ix a end_of-Ix) t (more_of-Ix b end_of-Ix)) = mod_here step (to_new a) (to_new b) ∙ two (choice prelude) _ _ _ _ (moved_extent a) (moved_extent b)

  pub moved_dims : (a : Extent) (es : List Ix) → dims_behind prelude a (map to_new es) ≡ dims_behind prelude a es
  moved_dims a [] = refl
  moved_dims a (e ∷ es) = ap (λ z. dims_behind prelude (beside a (bracketed (placed Whole z))) (map to_new es)) (moved_extent e) ∙ moved_dims (beside a (bracketed (whole prelude e))) es

  pub moved_cond_extent : (d : Cond) → cond_extent prelude (moved_cond first more d) ≡ cond_extent prelude d
  moved_cond_extent d =
      moved_same (cond_step prelude) first more
      (λ rel left right. two (λ x y. alone (and_tokens 1 (beside (placed Whole x) (placed Whole y)))) _ _ _ _ (moved_extent left) (moved_extent right))
      (λ value by so. ap (λ z. remainder_extent (divides true by) (placed RightOfSum z)) (moved_extent value)) d

  abbrev to_new_value : Val → Val
  to_new_value = moved_value first more

  pub moved_val : (e : Val) → val_extent prelude (to_new_value e) ≡ val_extent prelude e
  moved_val (v.Load array subs) = ap {B = ValExtent} (λ z. record { extent = z; level = 0 }) (moved_dims (record { tokens = 1; depth = 0 }) subs)
  moved_val (v.Const n) = refl
  moved_val (v.Cast e) = ap {B = ValExtent} (λ z. record { extent = and_tokens 3 (bracketed (placed Whole z)); level = 0 }) (moved_extent e)
  moved_val (v.Not' s (more_of-Val a end_of-Val)) = not_here (val_step prelude) (to_new_value a) ∙ ap {B = ValExtent} (λ z. record { extent = and_tokens 1 (at_level Primary z); level = 0 }) (moved_val a)
  moved_val (v.Bin' op s (more_of-Val a end_of-Val) t (more_of-Val b end_of-Val)) = bin_here (val_step prelude) op (to_new_value a) (to_new_value b) ∙ two (binary op) _ _ _ _ (moved_val a) (moved_val b)
  moved_val (v.Shift' left s (more_of-Val a end_of-Val) by) = shift_here (val_step prelude) left (to_new_value a) by ∙ ap {B = ValExtent} (λ z. record { extent = and_tokens 2 (at_level Shifted z); level = 3 }) (moved_val a)
