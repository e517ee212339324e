-- Two opposite rows.
use Rattle.std.proofs.Common.{◌≡◌, ◌≢◌, ◌⊎◌, ◌↔◌, ℕ, zero, suc, ◌+◌, ◌<◌, ◌≤◌, Bool, to_z, of_z, List, [], ◌∷◌, length, map, ℤ, pos, negsuc, neg_ℤ, ◌<ℤ◌, refl, sym, ap, subst, ◌∙◌, inl, inr, arith}
use Rattle.std.specs.List.{All, Contains}
use Rattle.std.specs.Prelude.{IsTrue, FitsSigned}
use Rattle.std.specs.Int.{w128}
use Rattle.std.proofs.lemmas.Int.{ints, to_z-of_z}
use Rattle.std.proofs.lemmas.Bool.{cases_lt}
use Rattle.std.proofs.lemmas.List.{length-map}
use Rattle.std.proofs.lemmas.List.Elements.{All-contains, All-map}
use Rattle.affc_rows.specs.Forms.{Affine, HaveColumns}
use Rattle.affc_farkas.specs.Multiples.{entry_of}
use Rattle.affc_rows.specs.Vocabulary.{opposite}
use Rattle.affc_eliminate.specs.Mixtures.{forms_of}
use Rattle.affc_eliminate.specs.Steps.{HasOpposite}
use Rattle.affc_eliminate.specs.Works.{IsAt}
use Rattle.affc_eliminate.specs.declared.kept.Kept.{Kept}
use Rattle.affc_eliminate.proofs.Exactness.{opposite_entry}
use Rattle.affc_eliminate.proofs.Values.{entry_last}
use Rattle.affc_eliminate.proofs.Sums.{same_form}
use Rattle.affc_eliminate.proofs.Rooms.{neg_neg}
use Rattle.affc_eliminate.proofs.Added.{same_at}
use Rattle.affc_eliminate.proofs.Ends.{row_with_form}

back_list : (cs : List ℤ) → map neg_ℤ (map neg_ℤ cs) ≡ cs
back_list [] = refl
back_list (c ∷ cs) = ap (λ z. z ∷ map neg_ℤ (map neg_ℤ cs)) (neg_neg c) ∙ ap (λ zs. c ∷ zs) (back_list cs)

back : (f : Affine) → opposite (opposite f) ≡ f
back f =
    let form : List ℤ → ℤ → Affine = λ cs k. record { coefs = cs; constant = k } in
    ap (λ cs. form cs (neg_ℤ (neg_ℤ f.constant))) (back_list f.coefs) ∙ ap (λ k. form f.coefs k) (neg_neg f.constant)

-- no positive row of the first rows has its opposite among all
abbrev pub HaveNone : List Kept → ℕ → ℕ → Type 0
HaveNone rows column i = (a : ℕ) (k : Kept) → a < i → IsAt rows a k → pos 0 <ℤ entry_of k.row column → All (λ q. q.row ≡ opposite k.row → ⊥) rows

either : (z : ℤ) → z ≢ pos 0 → (pos 0 <ℤ z) ⊎ (z <ℤ pos 0)
either (pos zero) h = absurd (h refl)
either (pos (suc n)) h = inl (omega (arith, ints))
either (negsuc n) h = inr (omega (arith, ints))

turned_up : (z : ℤ) → z <ℤ pos 0 → pos 0 <ℤ neg_ℤ z
turned_up z h = omega (arith, ints)

no_two : (rows : List Kept) (column : ℕ) (f g : Affine) → HaveNone rows column (length rows) → Contains (forms_of rows) f → Contains (forms_of rows) g → g ≡ opposite f → pos 0 <ℤ entry_of f column → ⊥
no_two rows column f g none inf ing e up =
    let a = row_with_form rows f inf in
    let b = row_with_form rows g ing in
    let ca = a.1 in
    All-contains (λ q. q.row ≡ opposite a.0.row → ⊥) rows b.0 (none ca.0 a.0 ca.1 (ca.1, ca.2) (subst (λ (q : Affine). pos 0 <ℤ entry_of q column) (sym a.2) up)) b.1
    (b.2 ∙ e ∙ ap opposite (sym a.2))

pub no_opposite : (rows : List Kept) (column n : ℕ) → HaveColumns n (forms_of rows) → column < n → HaveNone rows column (length rows) → HasOpposite column (forms_of rows) → ⊥
no_opposite rows column n w lt none h =
    let f = h.0 in
    let inside : column < length f.coefs = subst (λ m. column < m) (sym (All-contains (λ g. length g.coefs ≡ n) (forms_of rows) f w h.1)) lt in
    elim (either (entry_of f column) h.3) [
      | inl up ↦ no_two rows column f (opposite f) none h.1 h.2 refl up
      | inr down ↦ no_two rows column (opposite f) f none h.2 h.1 (sym (back f)) (subst (λ z. pos 0 <ℤ z) (sym (opposite_entry f column inside)) (turned_up (entry_of f column) down))
    ]

-- one row more
pub none_more : (rows : List Kept) (column i : ℕ) (k : Kept) → IsAt rows i k → (pos 0 <ℤ entry_of k.row column → All (λ q. q.row ≡ opposite k.row → ⊥) rows)
    → HaveNone rows column i → HaveNone rows column (i + 1)
none_more rows column i k at h none a q lt qa up = elim (cases_lt a i) [
  | inl m ↦ none a q m qa up
  | inr m ↦
      let e : a ≡ i = omega arith in
      let same = same_at rows a i q k qa at e in
      subst (λ (z : Kept). All (λ r. r.row ≡ opposite z.row → ⊥) rows) (sym same) (h (subst (λ (z : Kept). pos 0 <ℤ entry_of z.row column) same up))
]

under : (a n i : ℕ) → a < n → n ≤ i → a < i
under a n i h k = omega arith

-- ... of all of them
pub none_of_all : (rows : List Kept) (column n i : ℕ) → All (λ k. length k.row.coefs ≡ n) rows → column < n → length rows ≤ i → HaveNone rows column i → HasOpposite column (forms_of rows) → ⊥
none_of_all rows column n i w lt done none =
    no_opposite rows column n (All-map (λ f. length f.coefs ≡ n) (λ (k : Kept). k.row) rows w) lt (λ a k m at up. none a k (under a (length rows) i m done) at up)

pub none_yet : (rows : List Kept) (column : ℕ) → HaveNone rows column 0
none_yet rows column a k lt = absurd (omega arith)
