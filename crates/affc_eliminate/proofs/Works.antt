-- One row more, or one pair more, of an elimination.
use Rattle.std.proofs.Common.{◌≡◌, ◌≢◌, ◌⊎◌, ℕ, ◌+◌, ◌<◌, ◌≤◌, Bool, false, List, [], ◌∷◌, ◌++◌, length, ℤ, pos, ◌<ℤ◌, refl, sym, subst, ◌∙◌, inl, inr, arith}
use Rattle.std.specs.List.{All, Contains}
use Rattle.std.proofs.lemmas.Bool.{cases_lt}
use Rattle.std.proofs.lemmas.List.Elements.{All-nil, All-cons, All-push, All-weaker, All-contains, Contains-append_left, Contains-push}
use Rattle.affc_rows.specs.Forms.{Affine, HaveColumns}
use Rattle.affc_farkas.specs.Multiples.{entry_of, multiple_sum}
use Rattle.affc_farkas.specs.declared.pair.Pair.{Pair}
use Rattle.affc_eliminate.specs.Points.{IsTrivial}
use Rattle.affc_eliminate.specs.Mixtures.{forms_of, AreOfOneBase, IsMixture, IsWide}
use Rattle.affc_eliminate.specs.Steps.{AreReady, IsNext, none, more, IsTooWide}
use Rattle.affc_eliminate.specs.Sieves.{AreAdmitted}
use Rattle.affc_eliminate.specs.Works.{IsAt, IsCovered, pair_of, IsWork, AreFlatDone}
use Rattle.affc_eliminate.specs.declared.kept.Kept.{Kept}
use Rattle.affc_eliminate.proofs.Sieves.{two_none}
use Rattle.affc_eliminate.proofs.Added.{each_form, contains_at, same_at, place_by_number, added_numbers, added_width}

-- ---- The start

pub work_start : (Answers : Affine → Affine → Bool → Type 0) (rows : List Kept) (column free : ℕ) → IsWork Answers rows column free [] []
work_start Answers rows column free = record {
  added = [];
  add_each = none;
  named = All-nil (λ k. All (λ p. p.0 < 1024) k.from);
  covered = All-nil (λ k. IsCovered rows [] k.row);
  from = All-nil (λ k. (Contains rows k × (entry_of k.row column ≡ pos 0)) ⊎ Contains [] k);
  apart = two_none (λ k q. Answers k.row q.row false × (k.number ≢ q.number));
  not_trivial = All-nil (λ k. IsTrivial k.row → ⊥);
}

no_place : (a : ℕ) → a < 0 → ⊥
no_place a h = absurd (omega arith)

pub flats_start : (rows : List Kept) (column free : ℕ) → AreFlatDone rows column free 0 []
flats_start rows column free = record {
  covered = λ a f lt. absurd (no_place a lt);
  earlier = All-nil (λ q. (free ≤ q.number) ⊎ ((a : ℕ) × (a < 0) × IsAt rows a q));
}

-- ---- Widths

pub kept_widths : (Answers : Affine → Affine → Bool → Type 0) (rows : List Kept) (column free n : ℕ) (kept : List Kept) (made : List Pair) → HaveColumns n (forms_of rows)
    → IsWork Answers rows column free kept made → All (λ k. length k.row.coefs ≡ n) kept
kept_widths Answers rows column free n kept made w h =
    All-weaker (λ k. (Contains rows k × (entry_of k.row column ≡ pos 0)) ⊎ Contains h.added k) (λ k. length k.row.coefs ≡ n)
    (λ k c. elim c [
      | inl i ↦ each_form (λ f. length f.coefs ≡ n) rows k w i.0
      | inr i ↦ All-contains (λ q. length q.row.coefs ≡ n) h.added k (added_width rows column free n h.add_each w) i
    ]) kept h.from

pub widths_beside : (Answers : Affine → Affine → Bool → Type 0) (rows : List Kept) (column free n : ℕ) (kept : List Kept) (made : List Pair) (row : Affine) → HaveColumns n (forms_of rows)
    → IsWork Answers rows column free kept made → length row.coefs ≡ n → All (λ k. length k.row.coefs ≡ length row.coefs) kept
widths_beside Answers rows column free n kept made row w h e =
    All-weaker (λ k. length k.row.coefs ≡ n) (λ k. length k.row.coefs ≡ length row.coefs) (λ k l. l ∙ sym e) kept (kept_widths Answers rows column free n kept made w h)

-- ---- What is covered stays covered

covered_more : (Answers : Affine → Affine → Bool → Type 0) (rows old : List Kept) (k : Kept) (new : List Kept) (row : Affine)
    → ((x : List ℤ) → HaveColumns (length x) (forms_of rows) → length x ≡ length k.row.coefs) → AreAdmitted Answers old k new → IsCovered rows old row → IsCovered rows new row
covered_more Answers rows old k new row w a c x d h one met = c x d h one (a.met x d (w x h) one met).0

covered_new : (Answers : Affine → Affine → Bool → Type 0) (rows old : List Kept) (k : Kept) (new : List Kept)
    → ((x : List ℤ) → HaveColumns (length x) (forms_of rows) → length x ≡ length k.row.coefs) → AreAdmitted Answers old k new → IsCovered rows new k.row
covered_new Answers rows old k new w a x d h one met = (a.met x d (w x h) one met).1

row_width : (rows : List Kept) (k : Kept) → Contains rows k → (x : List ℤ) → HaveColumns (length x) (forms_of rows) → length x ≡ length k.row.coefs
row_width rows k c x h = sym (each_form (λ f. length f.coefs ≡ length x) rows k h c)

-- ---- A row that is 0 in the column

no_flat_number : (q f free : ℕ) → free ≤ q → f < free → q ≢ f
no_flat_number q f free h k e = absurd (omega arith)

no_earlier_place : (a i : ℕ) → a < i → a ≡ i → ⊥
no_earlier_place a i h e = absurd (omega arith)

one_later : (a i : ℕ) → a < i → a < i + 1
one_later a i h = omega arith

just_here : (i : ℕ) → i < i + 1
just_here i = omega arith

-- none of the kept rows has the number of the row at a place that isn't done
other_numbers : (rows : List Kept) (column free i : ℕ) (f : Kept) (kept : List Kept) → AreReady rows column free → AreFlatDone rows column free i kept → IsAt rows i f → All (λ q. q.number ≢ f.number) kept
other_numbers rows column free i f kept ready flats at =
    All-weaker (λ q. (free ≤ q.number) ⊎ ((a : ℕ) × (a < i) × IsAt rows a q)) (λ q. q.number ≢ f.number)
    (λ q c. elim c [
      | inl h ↦ no_flat_number q.number f.number free h (All-contains (λ k. k.number < free) rows f ready.below (contains_at rows i f at))
      | inr h ↦ λ e. no_earlier_place h.0 i h.1 (place_by_number rows h.0 i q f ready.numbered h.2 at e)
    ]) kept flats.earlier

pub work_flat : (Answers : Affine → Affine → Bool → Type 0) (rows : List Kept) (column free i : ℕ) (f : Kept) (kept new : List Kept) (made : List Pair) → AreReady rows column free
    → IsWork Answers rows column free kept made → AreFlatDone rows column free i kept → IsAt rows i f → entry_of f.row column ≡ pos 0 → AreAdmitted Answers kept f new
    → IsWork Answers rows column free new made
work_flat Answers rows column free i f kept new made ready work flats at flat a =
    let w = row_width rows f (contains_at rows i f at) in
    record {
      added = work.added;
      add_each = work.add_each;
      named = work.named;
      covered = All-weaker (λ k. IsCovered rows kept k.row) (λ k. IsCovered rows new k.row) (λ k c. covered_more Answers rows kept f new k.row w a c) work.added work.covered;
      from = All-weaker (λ k. Contains kept k ⊎ (k ≡ f)) (λ k. (Contains rows k × (entry_of k.row column ≡ pos 0)) ⊎ Contains work.added k)
          (λ k c. elim c [
            | inl h ↦ All-contains (λ q. (Contains rows q × (entry_of q.row column ≡ pos 0)) ⊎ Contains work.added q) kept k work.from h
            | inr h ↦ subst (λ q. (Contains rows q × (entry_of q.row column ≡ pos 0)) ⊎ Contains work.added q) (sym h) (inl (contains_at rows i f at, flat))
          ]) new a.among;
      apart = a.apart work.apart (other_numbers rows column free i f kept ready flats at);
      not_trivial = a.not_trivial work.not_trivial;
    }

pub flats_more : (Answers : Affine → Affine → Bool → Type 0) (rows : List Kept) (column free i : ℕ) (f : Kept) (kept new : List Kept)
    → AreFlatDone rows column free i kept → IsAt rows i f → AreAdmitted Answers kept f new → AreFlatDone rows column free (i + 1) new
flats_more Answers rows column free i f kept new flats at a =
    let w = row_width rows f (contains_at rows i f at) in
    record {
      covered = λ b g lt bg zero. elim (cases_lt b i) [
        | inl h ↦ covered_more Answers rows kept f new g.row w a (flats.covered b g h bg zero)
        | inr h ↦ let e : b ≡ i = omega arith in subst (λ q. IsCovered rows new q.row) (sym (same_at rows b i g f bg at e)) (covered_new Answers rows kept f new w a)
      ];
      earlier = All-weaker (λ k. Contains kept k ⊎ (k ≡ f)) (λ q. (free ≤ q.number) ⊎ ((b : ℕ) × (b < i + 1) × IsAt rows b q))
          (λ k c. elim c [
            | inl h ↦ elim (All-contains (λ q. (free ≤ q.number) ⊎ ((b : ℕ) × (b < i) × IsAt rows b q)) kept k flats.earlier h) [
              | inl m ↦ inl m
              | inr m ↦ inr (m.0, one_later m.0 i m.1, m.2)
            ]
            | inr h ↦ subst (λ q. (free ≤ q.number) ⊎ ((b : ℕ) × (b < i + 1) × IsAt rows b q)) (sym h) (inr (i, just_here i, at))
          ]) new a.among;
    }

-- a row that isn't 0 in the column is none of these
pub flats_skip : (rows : List Kept) (column free i : ℕ) (f : Kept) (kept : List Kept) → AreFlatDone rows column free i kept → IsAt rows i f → (entry_of f.row column ≡ pos 0 → ⊥) → AreFlatDone rows column free (i + 1) kept
flats_skip rows column free i f kept flats at ne = record {
  covered = λ b g lt bg zero. elim (cases_lt b i) [
    | inl h ↦ flats.covered b g h bg zero
    | inr h ↦ let e : b ≡ i = omega arith in absurd (ne (subst (λ q. entry_of q.row column ≡ pos 0) (same_at rows b i g f bg at e) zero))
  ];
  earlier = All-weaker (λ q. (free ≤ q.number) ⊎ ((b : ℕ) × (b < i) × IsAt rows b q)) (λ q. (free ≤ q.number) ⊎ ((b : ℕ) × (b < i + 1) × IsAt rows b q))
      (λ q c. elim c [ inl m ↦ inl m | inr m ↦ inr (m.0, one_later m.0 i m.1, m.2) ]) kept flats.earlier;
}

-- ---- A pair

pub next_pair : (rows : List Kept) (column : ℕ) (made : List Pair) (f g : Kept) → Contains rows f → Contains rows g → pos 0 <ℤ entry_of f.row column → entry_of g.row column <ℤ pos 0
    → All (λ q. q ≢ pair_of column f g) made → IsNext rows column made (pair_of column f g) f g
next_pair rows column made f g cf cg pf ng other = record { first_in = cf; second_in = cg; names = refl; positive = pf; negative = ng; other = other }

pub of_one_base : (rows : List Kept) (column free : ℕ) (f g : Kept) → AreReady rows column free → Contains rows f → Contains rows g → AreOfOneBase column f g
of_one_base rows column free f g ready cf cg =
    let s = ready.sums in
    let two : (P : Kept → Type 0) → All P rows → All P (f ∷ g ∷ []) = λ P h. All-cons P f (g ∷ []) (All-contains P rows f h cf) (All-cons P g [] (All-contains P rows g h cg) (All-nil P)) in
    record {
      columns = ready.columns;
      column_in = ready.column_in;
      base = ready.base;
      sums = record {
        few = s.few;
        widths = s.widths;
        sums = two (λ k. k.row ≡ multiple_sum ready.columns ready.base k.from) s.sums;
        named = two (λ k. All (λ p. p.0 < 1024) k.from) s.named;
      };
    }

mixture_width : (rows : List Kept) (column : ℕ) (f g n : Kept) → Contains rows f → IsMixture column f g n → (x : List ℤ) → HaveColumns (length x) (forms_of rows) → length x ≡ length n.row.coefs
mixture_width rows column f g n cf m x h = row_width rows f cf x h ∙ sym m.rows.width

other_number : (q free made k : ℕ) → q < free + made → k ≡ free + made → q ≢ k
other_number q free made k h e w = absurd (omega arith)

given_number : (q free made k : ℕ) → q < free → k ≡ free + made → q ≢ k
given_number q free made k h e w = absurd (omega arith)

new_number : (free made k : ℕ) → k ≡ free + made → free ≤ k
new_number free made k e = omega arith

pub work_pair : (Answers : Affine → Affine → Bool → Type 0) (rows : List Kept) (column free : ℕ) (f g n : Kept) (kept new : List Kept) (made : List Pair) → AreReady rows column free
    → IsWork Answers rows column free kept made → IsNext rows column made (pair_of column f g) f g → IsMixture column f g n → All (λ p. p.0 < 1024) n.from → n.number ≡ free + length made
    → AreAdmitted Answers kept n new → IsWork Answers rows column free new (made ++ pair_of column f g ∷ [])
work_pair Answers rows column free f g n kept new made ready work next m named number a =
    let w = mixture_width rows column f g n next.first_in m in
    let added = work.added ++ n ∷ [] in
    record {
      added = added;
      add_each = more made work.added (pair_of column f g) f g n work.add_each next m number;
      named = All-push (λ k. All (λ p. p.0 < 1024) k.from) work.added n work.named named;
      covered = All-push (λ k. IsCovered rows new k.row) work.added n
          (All-weaker (λ k. IsCovered rows kept k.row) (λ k. IsCovered rows new k.row) (λ k c. covered_more Answers rows kept n new k.row w a c) work.added work.covered)
          (covered_new Answers rows kept n new w a);
      from = All-weaker (λ k. Contains kept k ⊎ (k ≡ n)) (λ k. (Contains rows k × (entry_of k.row column ≡ pos 0)) ⊎ Contains added k)
          (λ k c. elim c [
            | inl h ↦ elim (All-contains (λ q. (Contains rows q × (entry_of q.row column ≡ pos 0)) ⊎ Contains work.added q) kept k work.from h) [
              | inl i ↦ inl i
              | inr i ↦ inr (Contains-append_left work.added (n ∷ []) k i)
            ]
            | inr h ↦ inr (subst (Contains added) (sym h) (Contains-push work.added n))
          ]) new a.among;
      apart = a.apart work.apart
          (All-weaker (λ k. (Contains rows k × (entry_of k.row column ≡ pos 0)) ⊎ Contains work.added k) (λ q. q.number ≢ n.number)
          (λ q c. elim c [
            | inl i ↦ given_number q.number free (length made) n.number (All-contains (λ k. k.number < free) rows q ready.below i.0) number
            | inr i ↦ other_number q.number free (length made) n.number (All-contains (λ k. (free ≤ k.number) × (k.number < free + length made)) work.added q (added_numbers rows column free work.add_each) i).1 number
          ]) kept work.from);
      not_trivial = a.not_trivial work.not_trivial;
    }

pub flats_stay : (Answers : Affine → Affine → Bool → Type 0) (rows : List Kept) (column free i : ℕ) (f g n : Kept) (kept new : List Kept) (made : ℕ) → Contains rows f → IsMixture column f g n
    → n.number ≡ free + made → AreAdmitted Answers kept n new → AreFlatDone rows column free i kept → AreFlatDone rows column free i new
flats_stay Answers rows column free i f g n kept new made cf m number a flats =
    let w = mixture_width rows column f g n cf m in
    record {
      covered = λ b h lt bh zero. covered_more Answers rows kept n new h.row w a (flats.covered b h lt bh zero);
      earlier = All-weaker (λ k. Contains kept k ⊎ (k ≡ n)) (λ q. (free ≤ q.number) ⊎ ((b : ℕ) × (b < i) × IsAt rows b q))
          (λ k c. elim c [
            | inl h ↦ All-contains (λ q. (free ≤ q.number) ⊎ ((b : ℕ) × (b < i) × IsAt rows b q)) kept k flats.earlier h
            | inr h ↦ inl (subst (λ q. free ≤ q.number) (sym h) (new_number free made n.number number))
          ]) new a.among;
    }

pub work_wide : (Answers : Affine → Affine → Bool → Type 0) (rows : List Kept) (column free : ℕ) (f g : Kept) (kept : List Kept) (made : List Pair)
    → IsWork Answers rows column free kept made → IsNext rows column made (pair_of column f g) f g → IsWide column f g → IsTooWide rows column free made (pair_of column f g)
work_wide Answers rows column free f g kept made work next wide = record { added = work.added; add_each = work.add_each; first = f; second = g; is_next = next; wide = wide }
