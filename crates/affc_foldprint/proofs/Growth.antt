-- With folds an expression is printed with few tokens and brackets more.
use Rattle.std.proofs.Common.{◌≡◌, ℕ, suc, ◌+◌, ◌*◌, ◌^◌, ◌-◌, ◌≤◌, pos, Bool, true, false, ◌&&◌, IsTrue, if◌then◌else◌, nat_lt, List, [], ◌∷◌, ◌++◌, length, get_or, map, Option, Some, None, refl, sym, subst, arith, length-append}
use Rattle.std.specs.Prelude.{slice_get, nat_eq}
use Rattle.std.proofs.lemmas.Bool.{eqb-true}
use Rattle.affc_rows.specs.Forms.{Affine, composed_form}
use Rattle.affc_ast.specs.declared.tree.ArrayId.{ArrayId}
use Rattle.affc_ast.specs.declared.tree.Ix.{Ix}
use Rattle.affc_ast.specs.declared.tree.Ix.TheVariants.{Lit, Mod}
use Rattle.affc_ast.specs.declared.tree.Program.{Program}
use Rattle.affc_ast.specs.declared.tree.Val.{Val}
use Rattle.affc_ast.specs.declared.tree.Val.TheVariants as v
use Rattle.affc_ast.specs.declared.tree.Val.TheBlock.{more_of-Val, end_of-Val}
use Rattle.affc_ast.proofs.Steps.{mod_here, not_here, bin_here, shift_here}
use Rattle.affc_trace.specs.Target.{numbers_in}
use Rattle.affc_domain.specs.Accesses.{accesses_in}
use Rattle.affc_domain.specs.Affine.{form_of}
use Rattle.affc_domain.specs.Plain.{IsPlain, all_plain, plain_value}
use Rattle.affc_domain.proofs.Lists.{both_true}
use Rattle.affc_cprint.specs.declared.brackets.Level.{Level}
use Rattle.affc_cprint.specs.declared.brackets.Level.TheVariants.{Primary, Shifted}
use Rattle.affc_cprint.specs.declared.brackets.Place.TheVariants.{Whole}
use Rattle.affc_cprint.specs.Levels.{number_of, op_left, op_right}
use Rattle.affc_wellnamed.specs.declared.shape.Extent.{Extent}
use Rattle.affc_wellnamed.specs.declared.shape.ValExtent.{ValExtent}
use Rattle.affc_wellnamed.specs.Shape.{beside, and_tokens, bracketed, bracketed_if, placed, choice, ix_step, ix_extent, whole, dims_behind, at_level, binary, val_step, val_extent}
use Rattle.affc_wellnamed.proofs.ShapeParts.{larger_is}
use Rattle.affc_loopprint.proofs.reprint.Rows.{Under, under_more, under_both, under_tokens, under_brackets}
use Rattle.affc_loopprint.proofs.ShapeForms.{form_few}
use Rattle.affc_basis.specs.declared.fold.Fold.{Fold}
use Rattle.affc_basis.specs.FoldLists.{AreFoldsIn}
use Rattle.affc_basis.specs.Folds.{forms_of}
use Rattle.affc_foldloops.specs.Refolds.{Subscripts, refold_value}
use Rattle.affc_rewrite.specs.Rewrite.{is_one, is_unit, same_form, printed, component, components_from, subscripts_by, extent_forms, fold_at_work, folded_subscripts, KeepLimits}
use Rattle.affc_rewrite.specs.Sizes.{IsPrintable}
use Rattle.affc_rewrite.proofs.Foldings.{few_rows}
use Rattle.affc_foldprint.proofs.Components.{few_first, moduli_are, rows_are}

-- at most so many tokens more, and three brackets
pub record More (t : ℕ) (f e : Extent) : Type 0 where
  pub few : f.tokens ≤ e.tokens + t
  pub shallow : f.depth ≤ e.depth + 3

pub more_self : (t : ℕ) (e : Extent) → More t e e
more_self t e = record { few = omega arith; shallow = omega arith }

pub more_less : (t u : ℕ) (f e : Extent) → t ≤ u → More t f e → More u f e
more_less t u f e l h = let a = h.few in record { few = omega (arith, a, l); shallow = h.shallow }

pub more_beside : (t u : ℕ) (f e g d : Extent) → More t f e → More u g d → More (t + u) (beside f g) (beside e d)
more_beside t u f e g d h k =
    let a = h.few in let b = h.shallow in let c = k.few in let x = k.shallow in
    let y = larger_is f.depth g.depth in let z = larger_is e.depth d.depth in
    record { few = omega (arith, a, c); shallow = omega (arith, b, x, y, z) }

pub more_tokens : (n t : ℕ) (f e : Extent) → More t f e → More t (and_tokens n f) (and_tokens n e)
more_tokens n t f e h = let a = h.few in record { few = omega (arith, a); shallow = h.shallow }

pub more_brackets : (t : ℕ) (f e : Extent) → More t f e → More t (bracketed f) (bracketed e)
more_brackets t f e h = let a = h.few in let b = h.shallow in record { few = omega (arith, a); shallow = omega (arith, b) }

pub more_if : (b : Bool) (t : ℕ) (f e : Extent) → More t f e → More t (bracketed_if b f) (bracketed_if b e)
more_if true t f e h = more_brackets t f e h
more_if false t f e h = h

-- ---- Components

module _ (prelude : Bool) where
  -- a remainder, which is a call behind the prelude, and stands for one token without it
  pub remainder_few : (a b : Ix) → Under 0 98 1 (whole true a) → Under 0 26 1 (whole true b) → Under 0 130 3 (bracketed (whole prelude (Mod a b)))
  remainder_few a b f g = subst (λ z. Under 0 130 3 (bracketed (placed Whole z))) (sym (mod_here (ix_step prelude) a b)) (by prelude)
    where
      by : (p : Bool) → Under 0 130 3 (bracketed (placed Whole (choice p (ix_extent p a) (ix_extent p b))))
      by true = under_more 0 130 3 0 130 3 _ (omega arith) (omega arith) (under_brackets 0 128 2 _ (under_tokens 1 0 127 2 _ (under_brackets 0 125 1 _ (under_tokens 1 0 124 1 _ (under_both 0 98 1 0 26 1 (whole true a) (whole true b) f g)))))
      by false = record { few = omega arith; shallow = omega arith }

  pub printed_few : (n first : ℕ) (f : Affine) → n ≤ 16 → IsPrintable n f → Under 0 98 1 (whole true (printed first f))
  printed_few n first f l is = let w = is.width in under_more 0 (6 * length f.coefs + 2) 1 0 98 1 _ (omega (arith, w, l)) (omega arith) (form_few first first f)

  pub modulus_few : (n first : ℕ) (f : Affine) → n ≤ 4 → IsPrintable n f → Under 0 26 1 (whole true (printed first f))
  modulus_few n first f l is = let w = is.width in under_more 0 (6 * length f.coefs + 2) 1 0 26 1 _ (omega (arith, w, l)) (omega arith) (form_few first first f)

  under_is_more : (t : ℕ) (f e : Extent) → Under 0 t 3 f → More t f e
  under_is_more t f e u = let a = u.few in let b = u.shallow in record { few = omega (arith, a); shallow = omega (arith, b) }

  component_more : (first n k : ℕ) (gs : List Affine) (row b extent : Affine) (own : Ix) → n ≤ 16 → first ≤ 4 → IsPrintable n (composed_form row gs) → IsPrintable first b
      → More 130 (bracketed (whole prelude (component first gs k row b extent own))) (bracketed (whole prelude own))
  component_more first n k gs row b extent own short few r m = by (is_one b) (is_unit k row && same_form b extent)
    where
      by : (t u : Bool) → More 130 (bracketed (whole prelude (if t then Lit (pos 0) else (if u then own else Mod (printed first (composed_form row gs)) (printed first b))))) (bracketed (whole prelude own))
      by true u = record { few = omega arith; shallow = omega arith }
      by false true = more_self 130 (bracketed (whole prelude own))
      by false false = under_is_more 130 _ _ (remainder_few (printed first (composed_form row gs)) (printed first b) (printed_few n first (composed_form row gs) short r) (modulus_few first first b few m))

  -- behind a shape that is no greater than numbers may be
  dims_more : (t : ℕ) (f e : Extent) (es : List Ix) → f.tokens ≤ 2 ^ 64 - 1 → More t f e → More t f (dims_behind prelude e es)
  dims_more t f e [] l h = h
  dims_more t f e (x ∷ es) l h =
      let a = h.few in let b = h.shallow in
      let y = larger_is e.depth (bracketed (whole prelude x)).depth in
      dims_more t f (beside e (bracketed (whole prelude x))) es l (record { few = omega (arith, a, l); shallow = omega (arith, b, y) })

  components_more : (first n k t : ℕ) (gs rows moduli extents : List Affine) (own : List Ix) (f e : Extent) → n ≤ 16 → first ≤ 4
      → ((i : ℕ) (row : Affine) → slice_get rows i ≡ Some row → IsPrintable n (composed_form row gs)) → ((j : ℕ) (b : Affine) → slice_get moduli j ≡ Some b → IsPrintable first b)
      → f.tokens ≤ 2 ^ 64 - 1 → More t f e → More (t + 130 * length own) (dims_behind prelude f (components_from first gs k rows moduli extents own)) (dims_behind prelude e own)
  components_more first n k t gs [] moduli extents own f e short few r m l h = more_less t (t + 130 * length own) f _ (omega arith) (dims_more t f e own l h)
  components_more first n k t gs (row ∷ rows) [] extents own f e short few r m l h = more_less t (t + 130 * length own) f _ (omega arith) (dims_more t f e own l h)
  components_more first n k t gs (row ∷ rows) (b ∷ moduli) [] own f e short few r m l h = more_less t (t + 130 * length own) f _ (omega arith) (dims_more t f e own l h)
  components_more first n k t gs (row ∷ rows) (b ∷ moduli) (extent ∷ extents) [] f e short few r m l h = more_less t (t + 130 * 0) f e (omega arith) h
  components_more first n k t gs (row ∷ rows) (b ∷ moduli) (extent ∷ extents) (x ∷ own) f e short few r m l h =
      let y = component first gs k row b extent x in
      let here = component_more first n k gs row b extent x short few (r 0 row refl) (m 0 b refl) in
      more_less (t + 130 + 130 * length own) (t + 130 * length (x ∷ own)) _ _ (omega arith)
      (components_more first n (suc k) (t + 130) gs rows moduli extents own (beside f (bracketed (whole prelude y))) (beside e (bracketed (whole prelude x))) short few (λ i z q. r (suc i) z q) (λ j z q. m (suc j) z q)
      (omega arith) (more_beside t 130 f e (bracketed (whole prelude y)) (bracketed (whole prelude x)) h here))

  -- ---- Accesses and values

  -- the same level, at most so many tokens more
  pub record ValueMore (t : ℕ) (w x : ValExtent) : Type 0 where
    pub level : w.level ≡ x.level
    pub extent : More t w.extent x.extent

  value_less : (t u : ℕ) (w x : ValExtent) → t ≤ u → ValueMore t w x → ValueMore u w x
  value_less t u w x l h = record { level = h.level; extent = more_less t u w.extent x.extent l h.extent }

  pub level_more : (level : Level) (t : ℕ) (w x : ValExtent) → ValueMore t w x → More t (at_level level w) (at_level level x)
  level_more level t w x h =
      subst (λ l. More t (bracketed_if (nat_lt (number_of level) l) w.extent) (at_level level x)) (sym h.level)
      (more_if (nat_lt (number_of level) x.level) t w.extent x.extent h.extent)

  module _ (source : Program) (folds : List (ArrayId × Fold)) (plain : IsPlain source) (are : AreFoldsIn source folds) (limits : KeepLimits source folds) where
    abbrev fresh : Subscripts
    fresh = folded_subscripts source folds

    pub access_more : (n : ℕ) (array : ArrayId) (subs : List Ix) (e : Extent) → n ≤ 16 → IsTrue (all_plain n subs) → e.tokens ≤ 2 ^ 64 - 1
        → More 520 (dims_behind prelude e (fresh n array subs)) (dims_behind prelude e subs)
    access_more n array subs e short h l = by (fold_at_work source folds array.0) refl
      where
        extents : List Affine
        extents = get_or (extent_forms source) array.0 []

        parameters : ℕ
        parameters = numbers_in source.params

        by : (o : Option Fold) → fold_at_work source folds array.0 ≡ o → More 520 (dims_behind prelude e (subscripts_by o parameters n extents subs)) (dims_behind prelude e subs)
        by None q = more_self 520 (dims_behind prelude e subs)
        by (Some fold) q = by_count (nat_eq (length subs) (length fold.basis.rows)) refl
          where
            by_count : (t : Bool) → nat_eq (length subs) (length fold.basis.rows) ≡ t
                → More 520 (dims_behind prelude e (if t then components_from parameters (map (form_of n 0) subs) 0 fold.basis.rows (forms_of fold.moduli) extents subs else subs)) (dims_behind prelude e subs)
            by_count false f = more_self 520 (dims_behind prelude e subs)
            by_count true f =
                let long : length subs ≡ length fold.basis.rows = eqb-true (length subs) (length fold.basis.rows) f in
                let few = few_rows fold in
                more_less (0 + 130 * length subs) 520 _ _ (omega (arith, long, few))
                (components_more parameters n 0 0 (map (form_of n 0) subs) fold.basis.rows (forms_of fold.moduli) extents subs e e short (few_first source folds plain are limits)
                (rows_are source folds plain are limits n fold subs short h long) (moduli_are source folds plain are limits array.0 fold q) l (more_self 0 e))

    -- for each load
    pub value_more : (n : ℕ) (e : Val) → n ≤ 16 → IsTrue (plain_value e n) → ValueMore (520 * length (accesses_in e)) (val_extent prelude (refold_value fresh n e)) (val_extent prelude e)
    value_more n (v.Load array subs) short h = record { level = refl; extent = access_more n array subs (record { tokens = 1; depth = 0 }) short h (omega arith) }
    value_more n (v.Const k) short h = record { level = refl; extent = more_self _ _ }
    value_more n (v.Cast x) short h = record { level = refl; extent = more_self _ _ }
    value_more n (v.Not' s (more_of-Val a end_of-Val)) short h =
        let q = value_more n a short h in
        subst (λ z. ValueMore (520 * length (accesses_in a)) z (record { extent = and_tokens 1 (at_level Primary (val_extent prelude a)); level = 0 })) (sym (not_here (val_step prelude) (refold_value fresh n a)))
        (record { level = refl; extent = more_tokens 1 _ _ _ (level_more Primary _ _ _ q) })
    value_more n (v.Bin' op s (more_of-Val a end_of-Val) t (more_of-Val b end_of-Val)) short h =
        let p = both_true (plain_value a n) (plain_value b n) h in
        let q = value_more n a short p.0 in
        let r = value_more n b short p.1 in
        let l = length-append (accesses_in a) (accesses_in b) in
        subst (λ z. ValueMore (520 * length (accesses_in a ++ accesses_in b)) z (binary op (val_extent prelude a) (val_extent prelude b))) (sym (bin_here (val_step prelude) op (refold_value fresh n a) (refold_value fresh n b)))
        (value_less (520 * length (accesses_in a) + 520 * length (accesses_in b)) _ _ _ (omega (arith, l))
        (record { level = refl; extent = more_tokens 1 _ _ _ (more_beside _ _ _ _ _ _ (level_more (op_left op) _ _ _ q) (level_more (op_right op) _ _ _ r)) }))
    value_more n (v.Shift' left s (more_of-Val a end_of-Val) by) short h =
        let q = value_more n a short h in
        subst (λ z. ValueMore (520 * length (accesses_in a)) z (record { extent = and_tokens 2 (at_level Shifted (val_extent prelude a)); level = 3 })) (sym (shift_here (val_step prelude) left (refold_value fresh n a) by))
        (record { level = refl; extent = more_tokens 2 _ _ _ (level_more Shifted _ _ _ q) })
