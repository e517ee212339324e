-- The blur's temporary has one dimension, and its subscripts are below N + 2.
use Rattle.std.proofs.Common.{◌≡◌, ℕ, zero, suc, ◌+◌, ◌≤◌, Bool, true, false, ℤ, pos, ◌≤ℤ◌, ◌<ℤ◌, if◌then◌else◌, List, [], ◌∷◌, length, get_or, refl, sym, ap, subst, ◌∙◌, inl, inr, arith, lit≤, Some, None}
use Rattle.std.specs.Prelude.{slice_get, nat_eq}
use Rattle.std.proofs.lemmas.Int.{ints}
use Rattle.std.proofs.lemmas.Bool.{eqb-true}
use Rattle.std.proofs.lemmas.Option.{same_Some, none-some}
use denote.Hole.Carrier.{hidden}
use Rattle.affc_ast.specs.declared.tree.Ix.TheBlock.{shape-the_row-Ix-0, hidden-the_row-Ix-0}
use Rattle.affc_ast.specs.declared.tree.Val.TheBlock.{shape-the_row-Val-0, hidden-the_row-Val-0}
use Rattle.affc_ast.specs.declared.tree.Stmt.TheBlock.{shape-the_row-Stmt-0, hidden-the_row-Stmt-0}
use Rattle.std.proofs.lemmas.List.Elements.{All-nil, All-cons, All-head}
use Rattle.affc_rows.specs.Forms.{HaveColumns, value}
use Rattle.affc_ast.specs.declared.tree.ArrayId.{ArrayId}
use Rattle.affc_ast.specs.declared.tree.Decl.{Decl}
use Rattle.affc_trace.specs.Law.{IsIn}
use Rattle.affc_trace.specs.Examples.{blur, two, S0, S1}
use Rattle.affc_trace.specs.Orders.{Touches}
use Rattle.affc_trace.specs.Effects.{effect}
use Rattle.affc_basis.specs.declared.fold.Fold.{Fold}
use Rattle.affc_basis.specs.FoldLists.{IsFoldIn}
use Rattle.affc_basis.specs.Folds.{fold_of}
use Rattle.affc_basis.specs.Examples.{number, by_modulus, onto, folds, with_iterator, two_dimensions, FoldsOfTheBlur, ListsOfFolds, one_more, two_more, BlurLiesWithin}
use Rattle.affc_basis.specs.Laws.{AreFoldsOf, IsWithinExtents, LiesWithin}

-- ---- the fold

only_fold : (array : ℕ) (fold : Fold) → fold_of folds array ≡ Some fold → (2 ≡ array) × (onto 3 ≡ fold)
only_fold array fold e = by_test (nat_eq 2 array) refl e
  where
    by_test : (t : Bool) → nat_eq 2 array ≡ t → (if t then Some (onto 3) else None) ≡ Some fold → (2 ≡ array) × (onto 3 ≡ fold)
    by_test true e f = (eqb-true 2 array e, same_Some (onto 3) fold f)
    by_test false e f = absurd (none-some fold f)

two_is_not_zero : ◌≡◌ {A = ℕ} 2 0 → ⊥
two_is_not_zero e = omega arith

two_is_not_one : ◌≡◌ {A = ℕ} 2 1 → ⊥
two_is_not_one e = omega arith

one_dimension : (p : List ℤ) (k : ℕ) (is x : List ℤ) → Touches (effect blur p) (record { statement = k; iterators = is }) (2, x) → length x ≡ 1
unfolding shape-the_row-Ix-0 hidden-the_row-Ix-0 shape-the_row-Val-0 hidden-the_row-Val-0 shape-the_row-Stmt-0 hidden-the_row-Stmt-0 hidden
one_dimension p zero is x (inl (inl e)) = ap (λ z. length z.1) e
one_dimension p zero is x (inl (inr i)) = absurd i
one_dimension p zero is x (inr e) = ap (λ z. length z.1) e
one_dimension p (suc zero) is x (inl (inl e)) = ap (λ z. length z.1) e
one_dimension p (suc zero) is x (inl (inr (inl e))) = ap (λ z. length z.1) e
one_dimension p (suc zero) is x (inl (inr (inr (inl e)))) = ap (λ z. length z.1) e
one_dimension p (suc zero) is x (inl (inr (inr (inr i)))) = absurd i
one_dimension p (suc zero) is x (inr e) = ap (λ z. length z.1) e
one_dimension p (suc (suc k)) is x (inl i) = absurd i
one_dimension p (suc (suc k)) is x (inr e) = absurd (two_is_not_zero (ap (λ z. z.0) e))

are_folds : AreFoldsOf blur folds
unfolding shape-the_row-Ix-0 hidden-the_row-Ix-0 shape-the_row-Val-0 hidden-the_row-Val-0 shape-the_row-Stmt-0 hidden-the_row-Stmt-0 hidden
are_folds = record {
  temporary = λ array fold e. subst (λ a. 2 ≤ a) (only_fold array fold e).0 (lit≤ tt);
  dimensions = λ array fold e p here b x i touched.
      let only = only_fold array fold e in
      subst (λ f. length x ≡ length f.basis.rows) only.1
      (one_dimension p b.statement b.iterators x (subst (λ a. Touches (effect blur p) b (a, x)) (sym only.0) touched));
}

not_temporary : ◌≤◌ 2 1 → ⊥
not_temporary h = omega arith

pub folds_of_the_blur : FoldsOfTheBlur
unfolding shape-the_row-Ix-0 hidden-the_row-Ix-0 shape-the_row-Val-0 hidden-the_row-Val-0 shape-the_row-Stmt-0 hidden-the_row-Stmt-0 hidden
folds_of_the_blur = (are_folds, λ proper. not_temporary (proper.temporary 1 (onto 3) refl))

-- ---- the extent, at N = 2

abbrev Inside : List ℤ → Type 0
Inside x = IsWithinExtents two (two_more ∷ []) x

below_four : (n : ℕ) (v : ℤ) → v ≡ pos 4 → n ≤ 3 → (pos 0 ≤ℤ pos n) × (pos n <ℤ v)
below_four n v e h = (omega (arith, ints), omega (arith, ints))

inside : (n : ℕ) → n ≤ 3 → (x : List ℤ) → x ≡ pos n ∷ [] → Inside x
inside n h x e zero extent at =
    subst (λ f. (pos 0 ≤ℤ get_or x 0 (pos 0)) × (get_or x 0 (pos 0) <ℤ value f two)) (same_Some two_more extent at)
    (subst (λ l. (pos 0 ≤ℤ get_or l 0 (pos 0)) × (get_or l 0 (pos 0) <ℤ value two_more two)) (sym e) (below_four n (value two_more two) refl h))
inside n h x e (suc k) extent at = absurd (none-some extent at)

by_first : (i : ℕ) → i ≤ 3 → (x : List ℤ) → Touches (effect blur two) (S0 i) (2, x) → Inside x
unfolding shape-the_row-Ix-0 hidden-the_row-Ix-0 shape-the_row-Val-0 hidden-the_row-Val-0 shape-the_row-Stmt-0 hidden-the_row-Stmt-0 hidden
by_first i h x (inl (inl e)) = absurd (two_is_not_zero (ap (λ z. z.0) e))
by_first i h x (inl (inr j)) = absurd j
by_first i h x (inr e) = inside i h x (ap (λ z. z.1) e)

by_second : (i : ℕ) → i ≤ 1 → (x : List ℤ) → Touches (effect blur two) (S1 i) (2, x) → Inside x
unfolding shape-the_row-Ix-0 hidden-the_row-Ix-0 shape-the_row-Val-0 hidden-the_row-Val-0 shape-the_row-Stmt-0 hidden-the_row-Stmt-0 hidden
by_second i h x (inl (inl e)) = inside i (omega arith) x (ap (λ z. z.1) e)
by_second i h x (inl (inr (inl e))) = inside (i + 1) (omega arith) x (ap (λ z. z.1) e)
by_second i h x (inl (inr (inr (inl e)))) = inside (i + 2) (omega arith) x (ap (λ z. z.1) e)
by_second i h x (inl (inr (inr (inr j)))) = absurd j
by_second i h x (inr e) = absurd (two_is_not_one (ap (λ z. z.0) e))

lies_within : LiesWithin blur two 2 (two_more ∷ [])
unfolding shape-the_row-Ix-0 hidden-the_row-Ix-0 shape-the_row-Val-0 hidden-the_row-Val-0 shape-the_row-Stmt-0 hidden-the_row-Stmt-0 hidden
lies_within b x (inl e) touched = by_first 0 (lit≤ tt) x (subst (λ c. Touches (effect blur two) c (2, x)) e touched)
lies_within b x (inr (inl e)) touched = by_first 1 (lit≤ tt) x (subst (λ c. Touches (effect blur two) c (2, x)) e touched)
lies_within b x (inr (inr (inl e))) touched = by_first 2 (lit≤ tt) x (subst (λ c. Touches (effect blur two) c (2, x)) e touched)
lies_within b x (inr (inr (inr (inl e)))) touched = by_first 3 (lit≤ tt) x (subst (λ c. Touches (effect blur two) c (2, x)) e touched)
lies_within b x (inr (inr (inr (inr (inl e))))) touched = by_second 0 (lit≤ tt) x (subst (λ c. Touches (effect blur two) c (2, x)) e touched)
lies_within b x (inr (inr (inr (inr (inr (inl e)))))) touched = by_second 1 (lit≤ tt) x (subst (λ c. Touches (effect blur two) c (2, x)) e touched)
lies_within b x (inr (inr (inr (inr (inr (inr i)))))) touched = absurd i

three_is_past : (v : ℤ) → v ≡ pos 3 → pos 3 <ℤ v → ⊥
three_is_past v e h = omega (arith, ints)

pub blur_lies_within : BlurLiesWithin
unfolding shape-the_row-Ix-0 hidden-the_row-Ix-0 shape-the_row-Val-0 hidden-the_row-Val-0 shape-the_row-Stmt-0 hidden-the_row-Stmt-0 hidden
blur_lies_within = (
  lies_within,
  λ within. three_is_past (value one_more two) refl (within (S0 3) (pos 3 ∷ []) (inr (inr (inr (inl refl)))) (inr refl) 0 one_more refl).1,
)

-- ---- lists of folds

no_number : (n : ℕ) → 1 ≡ 2 + n → ⊥
no_number n e = omega arith

next_number : (n : ℕ) → 3 ≡ 2 + n → n ≡ 1
next_number n e = omega arith

two_are_not_one : ◌≡◌ {A = ℕ} 2 1 → ⊥
two_are_not_one e = omega arith

one_column_each : HaveColumns 1 (number 3 ∷ [])
one_column_each = All-cons (λ f. length f.coefs ≡ 1) (number 3) [] refl (All-nil (λ f. length f.coefs ≡ 1))

blur_fold : (a : ArrayId) (fold : Fold) → IsIn (a, fold) folds → IsFoldIn blur a.0 fold
unfolding shape-the_row-Ix-0 hidden-the_row-Ix-0 shape-the_row-Val-0 hidden-the_row-Val-0 shape-the_row-Stmt-0 hidden-the_row-Stmt-0 hidden
blur_fold a fold (inl e) =
    subst (λ (f : ArrayId × Fold). IsFoldIn blur f.0.0 f.1) (sym e) (record { number = 0; decl = _; stands = refl; behind = refl; rows = refl; moduli = one_column_each })
blur_fold a fold (inr i) = absurd i

two_extents : (n : ℕ) (d : Decl) → slice_get two_dimensions.temps n ≡ Some d → length d.extents ≡ 2
two_extents zero d e = sym (ap (λ (d : Decl). length d.extents) (same_Some _ d e))
two_extents (suc n) d e = absurd (none-some d e)

pub lists_of_folds : ListsOfFolds
unfolding shape-the_row-Ix-0 hidden-the_row-Ix-0 shape-the_row-Val-0 hidden-the_row-Val-0 shape-the_row-Stmt-0 hidden-the_row-Stmt-0 hidden
lists_of_folds = (
  record { different = (λ i. i, tt); each = blur_fold },
  record { different = tt; each = λ a fold i. absurd i },
  λ h. h.different.0 (inl refl),
  λ h. (let f = h.each (record { 0 = 1 }) (onto 3) (inl refl) in no_number f.number f.behind),
  λ h. (let f = h.each (record { 0 = 3 }) (onto 3) (inl refl) in none-some f.decl (sym (ap (slice_get blur.temps) (next_number f.number f.behind)) ∙ f.stands)),
  λ h. (let f = h.each (record { 0 = 2 }) (by_modulus with_iterator) (inl refl) in two_are_not_one (All-head (λ g. length g.coefs ≡ 1) with_iterator [] f.moduli)),
  λ h. (let f = h.each (record { 0 = 2 }) (onto 3) (inl refl) in two_are_not_one (sym (f.rows ∙ two_extents f.number f.decl f.stands))),
)
