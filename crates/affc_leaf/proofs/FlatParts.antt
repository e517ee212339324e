-- A part of a box in two, by the values of a form.
use Rattle.std.proofs.Common.{◌≡◌, ℕ, List, [], ◌∷◌, ◌++◌, length, ℤ, pos, ◌+ℤ◌, ◌-ℤ◌, ◌≤ℤ◌, ◌<ℤ◌, neg_ℤ, sym, subst, ◌∙◌, arith, append_assoc}
use Rattle.std.proofs.lemmas.Int.{ints, by_lt_z}
use Rattle.std.proofs.lemmas.List.Elements.{All-push}
use Rattle.affc_rows.specs.Forms.{Affine, dot, value}
use Rattle.affc_system.specs.Systems.{Rows, IsRow, Meets}
use Rattle.affc_farkas.specs.Proofs.{IsValid, low_row, high_row}
use Rattle.affc_farkas.specs.declared.proof.Proof.{Proof, Leaf, Cut', Split'}
use Rattle.affc_simplex.specs.declared.bounds.Bound.{Bound}
use Rattle.affc_leaf.specs.BoxCuts.{IsEmptyWith}
use Rattle.affc_leaf.proofs.BoxCuts.{dot-neg}

above_meets : (d c at : ℤ) → at <ℤ (d +ℤ c) → pos 0 ≤ℤ (d +ℤ ((c -ℤ at) -ℤ pos 1))
above_meets d c at h = omega (arith, ints)

below_meets : (n d c at : ℤ) → n ≡ neg_ℤ d → (d +ℤ c) ≤ℤ at → pos 0 ≤ℤ (n +ℤ (at -ℤ c))
below_meets n d c at e h = omega (arith, ints)

-- a part has no point where the parts in which the form is at most a value and above it have none
split_empty_with : (system : Rows) (bs : List Bound) (next : ℕ) (part : List Affine) (form : Affine) (at : ℤ) (p : _) (low : Proof) (q : _) (high : Proof) → length bs ≡ system.columns
    → form.constant ≡ pos 0 → IsRow system.columns (low_row form at) → IsRow system.columns (high_row form at)
    → IsEmptyWith system bs next (part ++ low_row form at ∷ []) low → IsEmptyWith system bs next (part ++ high_row form at ∷ []) high
    → IsEmptyWith system bs next part (Split' form at p low q high)
split_empty_with system bs next part form at p low q high w zero f g a b = record {
  none = λ x inside point more.
      let e : length form.coefs ≡ length x = g.width ∙ sym point.width in
      by_lt_z at (value form x)
      (λ above. b.none x inside point (All-push (Meets x) part (high_row form at) more (above_meets (dot form.coefs x) form.constant at above)))
      (λ below. a.none x inside point (All-push (Meets x) part (low_row form at) more (below_meets _ (dot form.coefs x) form.constant at (dot-neg form.coefs x e) below)));
  valid = λ rows placed. (
    f,
    g,
    subst (λ l. IsValid system.columns low l) (sym (append_assoc rows part (low_row form at ∷ []))) (a.valid rows placed),
    subst (λ l. IsValid system.columns high l) (sym (append_assoc rows part (high_row form at ∷ []))) (b.valid rows placed),
  );
  plain = (zero, a.plain, b.plain);
}

-- the proof is a split at a value of this form, above these two
abbrev pub IsSplitOf : Affine → ℤ → Proof → Proof → Proof → Type 0
IsSplitOf form at low high (Leaf by) = ⊥
IsSplitOf form at low high (Cut' by g row p rest) = ⊥
IsSplitOf form at low high (Split' f k p l q h) = (f ≡ form) × (k ≡ at) × (l ≡ low) × (h ≡ high)

pub split_answer : (system : Rows) (bs : List Bound) (next : ℕ) (part : List Affine) (form : Affine) (at : ℤ) (low high whole : Proof) → length bs ≡ system.columns
    → form.constant ≡ pos 0 → IsRow system.columns (low_row form at) → IsRow system.columns (high_row form at)
    → IsEmptyWith system bs next (part ++ low_row form at ∷ []) low → IsEmptyWith system bs next (part ++ high_row form at ∷ []) high
    → IsSplitOf form at low high whole → IsEmptyWith system bs next part whole
split_answer system bs next part form at low high (Leaf by) w zero f g a b s = absurd s
split_answer system bs next part form at low high (Cut' by d row p rest) w zero f g a b s = absurd s
split_answer system bs next part form at low high (Split' h k p l q u) w zero f g a b s =
    subst (λ z. IsEmptyWith system bs next part (Split' z k p l q u)) (sym s.0)
    (subst (λ z. IsEmptyWith system bs next part (Split' form z p l q u)) (sym s.1)
    (subst (λ z. IsEmptyWith system bs next part (Split' form at p z q u)) (sym s.2)
    (subst (λ z. IsEmptyWith system bs next part (Split' form at p low q z)) (sym s.3)
    (split_empty_with system bs next part form at p low q high w zero f g a b))))
