-- Folds in order of their arrays, and how they are found.
use Rattle.std.proofs.Common.{◌≡◌, ◌≢◌, ℕ, zero, suc, ◌+◌, ◌<◌, ◌≤◌, Bool, true, false, if◌then◌else◌, List, [], ◌∷◌, Option, Some, None, take, drop, length, refl, sym, ap, subst, ◌∙◌, inl, inr, arith}
use Rattle.std.specs.Prelude.{nat_eq, slice_index_or, is_some, not, IfSome}
use Rattle.std.specs.List.{AllWithin}
use Rattle.std.proofs.lemmas.Bool.{eqb-true}
use Rattle.std.proofs.lemmas.Bool.Decides.{eqb_tells}
use Rattle.std.proofs.lemmas.List.{get_or_default, append-nil, take-append-drop}
use Rattle.affc_ast.specs.declared.tree.ArrayId.{ArrayId}
use Rattle.affc_basis.specs.declared.fold.Fold.{Fold}
use Rattle.affc_basis.specs.Folds.{fold_of}
use Rattle.affc_trace.specs.Law.{IsIn}
use Rattle.affc_nest.specs.declared.nest.Nest.{Nest}
use Rattle.affc_certify.specs.Certified.{IsFoldShownOf, IsWholeFold, Shows}
use Rattle.affc_certify.specs.Rising.{AreFrom, Continues}

abbrev pub Folds : Type 0
Folds = List (ArrayId × Fold)

-- ---- In order

pub from_less : (m n : ℕ) (fs : Folds) → m ≤ n → AreFrom n fs → AreFrom m fs
from_less m n [] l h = tt
from_less m n (f ∷ fs) l h = (at_least f.0.0 h.0, h.1)
  where
    at_least : (k : ℕ) → n ≤ k → m ≤ k
    at_least k g = omega (arith, l, g)

pub all_from_none : (end : ℕ) (fs : Folds) → Continues 0 fs end → AreFrom 0 fs
all_from_none end fs h = subst (AreFrom 0) (append-nil fs) (h [] tt)

-- ---- The fold of an array

pub not_before : (f : ArrayId × Fold) (fs : Folds) (array : ℕ) → f.0.0 < array → fold_of (f ∷ fs) array ≡ fold_of fs array
not_before f fs array l = by_test (nat_eq f.0.0 array) refl
  where
    apart : (k : ℕ) → k < array → k ≡ array → ⊥
    apart k g e = omega (arith, g, e)

    by_test : (t : Bool) → nat_eq f.0.0 array ≡ t → (if t then Some f.1 else fold_of fs array) ≡ fold_of fs array
    by_test true e = absurd (apart f.0.0 l (eqb-true f.0.0 array e))
    by_test false e = refl

pub none_behind : (array : ℕ) (fs : Folds) → AreFrom (suc array) fs → fold_of fs array ≡ None
none_behind array [] h = refl
none_behind array (f ∷ fs) h = by_test (nat_eq f.0.0 array) refl (none_behind array fs (from_less (suc array) (suc f.0.0) fs (behind f.0.0 h.0) h.1))
  where
    apart : (k : ℕ) → suc array ≤ k → k ≡ array → ⊥
    apart k g e = omega (arith, g, e)

    behind : (k : ℕ) → suc array ≤ k → suc array ≤ suc k
    behind k g = omega (arith, g)

    by_test : (t : Bool) → nat_eq f.0.0 array ≡ t → fold_of fs array ≡ None → (if t then Some f.1 else fold_of fs array) ≡ None
    by_test true e rest = absurd (apart f.0.0 h.0 (eqb-true f.0.0 array e))
    by_test false e rest = rest

pub other_first : (array : ℕ) (f : ArrayId × Fold) (fs : Folds) → AreFrom array (f ∷ fs) → (f.0.0 ≡ array → ⊥) → fold_of (f ∷ fs) array ≡ None
other_first array f fs h apart = none_behind array (f ∷ fs) (behind f.0.0 h.0 apart, h.1)
  where
    behind : (k : ℕ) → array ≤ k → (k ≡ array → ⊥) → suc array ≤ k
    behind k g a = omega (arith, g, a)

pub not_first : (array : ℕ) (fs : Folds) (d : ArrayId × Fold) → 1 ≤ length fs → AreFrom array fs → ((slice_index_or fs 0 d).0.0 ≡ array → ⊥) → fold_of fs array ≡ None
not_first array [] d l h apart = absurd (omega (arith, l))
not_first array (f ∷ fs) d l h apart = other_first array f fs h apart

-- ---- What is shown of it

pub shown_whole : (nest : Nest) (array : ℕ) (fs : Folds) (shown : Fold) → fold_of fs array ≡ None → IsWholeFold nest array shown → IsFoldShownOf nest array (fold_of fs array) shown
shown_whole nest array fs shown e h = subst (λ o. IsFoldShownOf nest array o shown) (sym e) h

-- ---- All of them

-- these are shown so far
abbrev pub AreShown : Nest → (folds shown : Folds) → (count : ℕ) → Type 0
AreShown nest folds shown count = AllWithin (λ (s : ArrayId × Fold). IsFoldShownOf nest s.0.0 (fold_of folds s.0.0) s.1) shown 0 count

pub rising_at : (end : Option ℕ) (fs : Folds) → IfSome end (λ e. Continues 0 fs e) → (t : Bool) → is_some end ≡ not t → t ≡ false → AreFrom 0 fs
rising_at None fs h t e f = let no : false ≡ true = e ∙ ap not f in absurd (cc)
rising_at (Some end) fs h t e f = all_from_none end fs h

pub begun : (nest : Nest) (folds shown : Folds) → AreShown nest folds shown 0
begun nest folds shown = λ k d l g. absurd (omega (arith, g))

-- what is kept at each step
pub record StillShown (nest : Nest) (folds rest shown : Folds) (next count : ℕ) : Type 0 where
  pub from : AreFrom 0 rest
  pub same : (a : ℕ) → next ≤ a → fold_of rest a ≡ fold_of folds a
  pub so_far : AreShown nest folds shown count

here : (shown : Folds) (i k : ℕ) (x d : ArrayId × Fold) → x ≡ slice_index_or shown i x → i < length shown → k ≡ i → slice_index_or shown k d ≡ x
here shown i k x d is in' e = ap (λ n. slice_index_or shown n d) e ∙ get_or_default shown i d x in' ∙ sym is

module _ (nest : Nest) (folds old rest shown : Folds) (i next behind : ℕ) (x : ArrayId × Fold) (is : x ≡ slice_index_or shown i x) (in' : i < length shown) (not_less : next ≤ x.0.0) (e : behind ≡ x.0.0 + 1)
    (same : (a : ℕ) → next ≤ a → fold_of old a ≡ fold_of folds a) (before : AreShown nest folds shown i) (from : AreFrom x.0.0 rest)
    (kept : (a : ℕ) → x.0.0 ≤ a → fold_of rest a ≡ fold_of old a) (now : IsFoldShownOf nest x.0.0 (fold_of rest x.0.0) x.1) where
  same_fold : (a : ℕ) → x.0.0 ≤ a → fold_of rest a ≡ fold_of folds a
  same_fold a l = kept a l ∙ same a (far x.0.0 not_less l)
    where
      far : (n : ℕ) → next ≤ n → n ≤ a → next ≤ a
      far n g h = omega (arith, g, h)

  this_one : IsFoldShownOf nest x.0.0 (fold_of folds x.0.0) x.1
  this_one = subst (λ o. IsFoldShownOf nest x.0.0 o x.1) (same_fold x.0.0 (own x.0.0)) now
    where
      own : (n : ℕ) → n ≤ n
      own n = omega arith

  all_to : (k : ℕ) (d : ArrayId × Fold) → 0 ≤ k → k < i + 1 → IsFoldShownOf nest (slice_index_or shown k d).0.0 (fold_of folds (slice_index_or shown k d).0.0) (slice_index_or shown k d).1
  all_to k d l g = elim (eqb_tells k i) [
    | inl t ↦ subst (λ (s : ArrayId × Fold). IsFoldShownOf nest s.0.0 (fold_of folds s.0.0) s.1) (sym (here shown i k x d is in' t.1)) this_one
    | inr t ↦ before k d l (let apart = t.1 in omega (arith, g, apart))
  ]

  pub one_more : StillShown nest folds rest shown behind (i + 1)
  one_more = record {
    from = from_less 0 x.0.0 rest (any x.0.0) from;
    same = λ a l. same_fold a (before_that a x.0.0 e l);
    so_far = all_to;
  }
    where
      any : (n : ℕ) → 0 ≤ n
      any n = omega arith

      before_that : (a n : ℕ) → behind ≡ n + 1 → behind ≤ a → n ≤ a
      before_that a n f l = omega (arith, f, l)

-- at the end all are
find : (P : ArrayId × Fold → Type 0) (shown : Folds) → ((k : ℕ) (d : ArrayId × Fold) → k < length shown → P (slice_index_or shown k d)) → (s : ArrayId × Fold) → IsIn s shown → P s
find P [] h s i = absurd i
find P (x ∷ shown) h s (inl e) = subst P (sym e) (h 0 x (omega arith))
find P (x ∷ shown) h s (inr i) = find P shown (λ k d l. h (suc k) d (omega (arith, l))) s i

pub all_shown : (nest : Nest) (folds shown : Folds) (count : ℕ) → length shown ≤ count → AreShown nest folds shown count → Shows nest folds shown
all_shown nest folds shown count l h array fold i =
    find (λ (s : ArrayId × Fold). IsFoldShownOf nest s.0.0 (fold_of folds s.0.0) s.1) shown (λ k d g. h k d (omega arith) (omega (arith, g, l))) (array, fold) i
