-- A modulus as a form over more columns.
use Rattle.std.proofs.Common.{◌≡◌, ℕ, zero, suc, ◌+◌, ◌-◌, ◌*◌, ◌^◌, ◌<◌, ◌≤◌, List, [], ◌∷◌, length, take, replicate, ℤ, pos, negsuc, ◌+ℤ◌, ◌-ℤ◌, refl, sym, ap, subst, ◌∙◌, arith, lit≤, ◌⊎◌, inl, inr}
use Rattle.std.specs.Prelude.{unsigned_abs, slice_get, get_or}
use Rattle.std.specs.List.{All}
use Rattle.std.proofs.lemmas.List.{length-append, length-replicate}
use Rattle.std.proofs.lemmas.List.Elements.{All-append, All-replicate, All-weaker}
use Rattle.affc_rows.specs.Vocabulary.{padded}
use Rattle.affc_rows.specs.Forms.{Affine, value, mixed, mixed_form, mixed_form_magnitudes, TooWide}
use Rattle.affc_rows.proofs.ValueLemmas.{length-mixed}
use Rattle.affc_domain.proofs.FormLemmas.{dot_zeros}
use Rattle.affc_conflicts.proofs.differences.Mixtures.{mixed_within, entry_within, value_minus}
use Rattle.affc_split.specs.maximum.Regions.{IsMeasure}
use Rattle.affc_basis.specs.Moduli.{IsModulus}
use Rattle.affc_conflicts.proofs.Distances.{dot-widened}
use Rattle.affc_moduli.specs.Enough.{IsBelow, AreBelow, AreBelowBefore, IsComparable, AreComparable}
use Rattle.affc_moduli.proofs.Fits.{form_fits}
use Rattle.affc_split.specs.declared.maximum.region.Region.{Region}
use Rattle.std.proofs.lemmas.Option.{same_Some, slice_get_read, slice_get_within}

value-padded : (columns : ℕ) (b : Affine) (z : List ℤ) → value (padded columns b) z ≡ value b (take (length b.coefs) z)
value-padded columns b z = ap (λ v. v +ℤ b.constant) (dot-widened b.coefs (columns - length b.coefs) z)

width_of : (columns : ℕ) (b : Affine) → length b.coefs ≤ columns → length (padded columns b).coefs ≡ columns
width_of columns b h =
    let l = length-append b.coefs (replicate (columns - length b.coefs) (pos 0)) in
    let r = length-replicate (columns - length b.coefs) (pos 0) in
    omega arith

coefs_of : (columns : ℕ) (b : Affine) → All (λ c. unsigned_abs c ≤ 2 ^ 30) b.coefs → All (λ c. unsigned_abs c ≤ 2 ^ 30) (padded columns b).coefs
coefs_of columns b h = All-append (λ c. unsigned_abs c ≤ 2 ^ 30) b.coefs (replicate (columns - length b.coefs) (pos 0)) h (All-replicate (λ c. unsigned_abs c ≤ 2 ^ 30) (columns - length b.coefs) (pos 0) (lit≤ tt))

module _ (columns : ℕ) (f b : Affine) (width : length f.coefs ≡ columns) (coefs : All (λ c. unsigned_abs c ≤ 2 ^ 27) f.coefs) (constant : unsigned_abs f.constant ≤ 2 ^ 35)
    (modulus : IsModulus (length b.coefs) b) (within : length b.coefs ≤ columns) where
  pub less_fits : TooWide (mixed_form_magnitudes (pos 1) f (negsuc 0) (padded columns b)) → ⊥
  less_fits w = form_fits 1 f (padded columns b) (negsuc 0) (2 ^ 27) (2 ^ 30) (2 ^ 35) (2 ^ 55) (lit≤ tt) (lit≤ tt) (lit≤ tt) coefs (coefs_of columns b modulus.coefs_fit) constant modulus.constant_fits w

  same : length f.coefs ≡ length (padded columns b).coefs
  same = width ∙ sym (width_of columns b within)

  pub less_measure : (g : Affine) → g ≡ mixed_form (pos 1) f (negsuc 0) (padded columns b) → IsMeasure columns g
  less_measure g e = subst (IsMeasure columns) (sym e) (record {
    width = length-mixed (pos 1) f.coefs (negsuc 0) (padded columns b).coefs same ∙ width;
    coefs_fit = All-weaker (λ v. unsigned_abs v ≤ 2 ^ 27 + 1 * 2 ^ 30) (λ v. unsigned_abs v ≤ 2 ^ 40) (λ v l. omega arith) (mixed (pos 1) f.coefs (negsuc 0) (padded columns b).coefs)
        (mixed_within 1 f.coefs (padded columns b).coefs (negsuc 0) (2 ^ 27) (2 ^ 30) (lit≤ tt) coefs (coefs_of columns b modulus.coefs_fit));
    constant_fits = let l = entry_within 1 f.constant (negsuc 0) b.constant (2 ^ 35) (2 ^ 55) (lit≤ tt) constant modulus.constant_fits in omega arith;
  })

  pub less_value : (g : Affine) → g ≡ mixed_form (pos 1) f (negsuc 0) (padded columns b) → (z : List ℤ) → length z ≡ columns → value g z ≡ value f z -ℤ value b (take (length b.coefs) z)
  less_value g e z len = ap (λ u. value u z) e ∙ value_minus f (padded columns b) z same (width ∙ sym len) ∙ ap (λ v. value f z -ℤ v) (value-padded columns b z)

-- ---- comparisons of several forms

pub comparable_at : (parameters : ℕ) (regions : List Region) (fs : List Affine) (i : ℕ) (r : Region) (f : Affine) → AreComparable parameters regions fs → i < length regions → length fs ≡ length regions
    → r ≡ get_or regions i r → f ≡ get_or fs i f → IsComparable parameters r f
comparable_at parameters regions fs i r f ready h e a b = ready i r f (slice_get_read regions (length regions) i r refl h a) (slice_get_read fs (length regions) i f (sym e) h b)

pub before_or_at : (j k : ℕ) → j < k + 1 → (j < k) ⊎ (j ≡ k)
before_or_at zero zero h = inr refl
before_or_at zero (suc k) h = inl (omega arith)
before_or_at (suc j) zero h = absurd (omega arith)
before_or_at (suc j) (suc k) h = elim (before_or_at j k (omega arith)) [ inl l ↦ inl (omega arith) | inr e ↦ inr (ap suc e) ]

pub below_more : (n : ℕ) (regions : List Region) (fs : List Affine) (b : Affine) (r : Region) (f : Affine) → n < length regions → length fs ≡ length regions → r ≡ get_or regions n r → f ≡ get_or fs n f
    → IsBelow r f b → AreBelowBefore n regions fs b → AreBelowBefore (n + 1) regions fs b
below_more n regions fs b r f h len ar af this before i q g l at_q at_g = elim (before_or_at i n l) [
  | inl m ↦ before i q g m at_q at_g
  | inr e ↦
      let at_r = slice_get_read regions (length regions) n r refl h ar in
      let at_f = slice_get_read fs (length regions) n f (sym len) h af in
      let same_r : r ≡ q = same_Some r q (sym at_r ∙ ap (slice_get regions) (sym e) ∙ at_q) in
      let same_f : f ≡ g = same_Some f g (sym at_f ∙ ap (slice_get fs) (sym e) ∙ at_g) in
      subst (λ w. IsBelow q w b) same_f (subst (λ w. IsBelow w f b) same_r this)
]

pub below_all : (n : ℕ) (regions : List Region) (fs : List Affine) (b : Affine) → length regions ≤ n → AreBelowBefore n regions fs b → AreBelow regions fs b
below_all n regions fs b h before i r f at_r at_f = before i r f (let k = slice_get_within regions i r at_r in omega arith) at_r at_f
