-- The system's rows as the first state of a projection.
use Rattle.std.proofs.Common.{◌≡◌, ℕ, zero, suc, ◌+◌, ◌<◌, ◌≤◌, List, [], ◌∷◌, ◌++◌, length, set, get_or, replicate, ℤ, pos, ◌+ℤ◌, ◌*ℤ◌, refl, sym, ap, subst, ◌∙◌, inl, inr, arith}
use Rattle.std.specs.List.{All}
use Rattle.std.proofs.lemmas.Int.{ints}
use Rattle.std.proofs.lemmas.Bool.{cases_lt, cases_eq}
use Rattle.std.proofs.lemmas.List.{ext_get_or, get_or-map, length-map, length-set, get_or-set_same, get_or-set_other, length-replicate, get_or-replicate, get_or_append_left, get_or_push, get_or_default, length_push}
use Rattle.std.proofs.lemmas.List.Elements.{All-nil, All-cons}
use Rattle.affc_rows.specs.Forms.{Affine, HaveColumns}
use Rattle.affc_rows.proofs.IntLemmas.{one-mul}
use Rattle.affc_farkas.specs.Multiples.{zero_row, row_at, multiple_sum, entry_of}
use Rattle.affc_farkas.specs.Eliminations.{own, owns, none}
use Rattle.affc_farkas.proofs.Tables.{length-owns}
use Rattle.affc_eliminate.specs.Mixtures.{forms_of, weight_of}
use Rattle.affc_eliminate.specs.declared.kept.Kept.{Kept}
use Rattle.affc_eliminate.proofs.Sums.{single_here, single_apart, sum_width, sum_entry, same_form}
use Rattle.affc_eliminate.specs.project.States.{dense, AreZero, IsState, IsInput, AreInputs}
use Rattle.affc_eliminate.proofs.project.Denses.{dense_length, dense_at}

-- ---- The weights of one row

owns_at : (count m i : ℕ) → i < m → get_or (owns count m) i [] ≡ own count i
owns_at count zero i lt = absurd (omega arith)
owns_at count (suc m) i lt = elim (cases_lt i m) [
  | inl h ↦ get_or_append_left (owns count m) (own count m ∷ []) [] i (subst (λ n. i < n) (sym (length-owns count m)) h) ∙ owns_at count m i h
  | inr h ↦ let e : m ≡ i = omega arith in get_or_push (owns count m) (own count m) [] i (length-owns count m ∙ e) ∙ ap (own count) e
]

plus_zero : (a b : ℕ) → a ≡ b → a + 0 ≡ b
plus_zero a b e = omega arith

own_weight : (i k : ℕ) → i ≡ k → weight_of ((i, 1) ∷ []) k ≡ 1
own_weight i k e = plus_zero _ 1 (single_here i 1 k e)

other_weight : (i k : ℕ) → (i ≡ k → ⊥) → weight_of ((i, 1) ∷ []) k ≡ 0
other_weight i k e = plus_zero _ 0 (single_apart i 1 k e)

own_dense : (count i : ℕ) → i < count → own count i ≡ dense count 0 ((i, 1) ∷ [])
own_dense count i lt =
    let zeros : List ℕ = replicate count 0 in
    let z : length zeros ≡ count = length-replicate count 0 in
    let l : length (set zeros i 1) ≡ count = length-set zeros i 1 ∙ z in
    ext_get_or 0 (set zeros i 1) (dense count 0 ((i, 1) ∷ [])) (l ∙ sym (dense_length count 0 ((i, 1) ∷ []))) (λ k kl.
    let kl' : k < count = subst (λ n. k < n) l kl in
    elim (cases_eq k i) [
      | inl e ↦ ap (λ m. get_or (set zeros i 1) m 0) e ∙ get_or-set_same zeros i 1 0 (subst (λ n. i < n) (sym z) lt) ∙ sym (dense_at count ((i, 1) ∷ []) k kl' ∙ own_weight i k (sym e))
      | inr ne ↦ get_or-set_other zeros i k 1 0 ne ∙ get_or-replicate count k 0 0 kl' ∙ sym (dense_at count ((i, 1) ∷ []) k kl' ∙ other_weight i k (λ e. ne (sym e)))
    ])

-- ---- The row as its own sum

plus_nothing : (a b : ℤ) → a ≡ b → a +ℤ pos 0 ≡ b
plus_nothing a b e = omega (arith, ints)

own_sum : (columns : ℕ) (rows : List Affine) (i : ℕ) (row : Affine) → i < length rows → HaveColumns columns rows → row ≡ get_or rows i row → row ≡ multiple_sum columns rows ((i, 1) ∷ [])
own_sum columns rows i row lt w e =
    let by = (i, 1) ∷ [] in
    let rw : length row.coefs ≡ columns = ap (λ (f : Affine). length f.coefs) e ∙ w i row lt in
    same_form row (multiple_sum columns rows by) (rw ∙ sym (sum_width columns rows by w)) (λ j le.
    sym (sum_entry columns rows by j w (subst (λ n. j ≤ n) rw le)
    ∙ plus_nothing (pos 1 *ℤ entry_of (row_at columns rows i) j) (entry_of row j)
    (one-mul (entry_of (row_at columns rows i) j) ∙ ap (λ (f : Affine). entry_of f j) (get_or_default rows i (zero_row columns) row lt ∙ sym e))))

-- ---- All rows

small_number : (i n : ℕ) → i < n → n ≤ 1024 → i < 1024
small_number i n h k = omega arith

apart_from : (i n k : ℕ) → i < n → n ≤ k → i ≡ k → ⊥
apart_from i n k h le e = absurd (omega arith)

pub forms_of_inputs : (rows : List Affine) (live : List Kept) → AreInputs rows live → forms_of live ≡ rows
forms_of_inputs rows live h =
    let some : Kept = record { row = zero_row 0; from = []; number = 0 } in
    let l = length-map live (λ (k : Kept). k.row) in
    ext_get_or (zero_row 0) (forms_of live) rows (l ∙ h.long) (λ i lt.
    let lt' : i < length live = subst (λ n. i < n) l lt in
    let k = get_or live i some in
    get_or-map (λ (q : Kept). q.row) live i some (zero_row 0) lt' ∙ (h.each i some lt').row ∙ get_or_default rows i k.row (zero_row 0) (subst (λ n. i < n) h.long lt'))

pub state_of_inputs : (columns : ℕ) (rows : List Affine) (live : List Kept) → length rows ≤ 1024 → HaveColumns columns rows → AreInputs rows live → IsState columns rows [] live
state_of_inputs columns rows live few w h =
    let N = length rows in
    let inside : (i : ℕ) → i < length live → i < N = λ i lt. subst (λ n. i < n) h.long lt in
    record {
      table = owns N N;
      is_table = none;
      sums = record {
        few = few;
        widths = w;
        sums = λ i d lt.
            let k = h.each i d lt in
            let q = get_or live i d in
            own_sum columns rows i q.row (inside i lt) w k.row ∙ ap (multiple_sum columns rows) (sym k.from);
        named = λ i d lt.
            let k = h.each i d lt in
            subst (All (λ p. p.0 < 1024)) (sym k.from) (All-cons (λ p. p.0 < 1024) (i, 1) [] (small_number i N (inside i lt) few) (All-nil (λ p. p.0 < 1024)));
      };
      inside = λ i d lt.
          let k = h.each i d lt in
          let il = inside i lt in
          record {
            there = subst (λ n. n < length (owns N N)) (sym k.number) (subst (λ n. i < n) (sym (length-owns N N)) il);
            same = ap (λ n. get_or (owns N N) n []) k.number ∙ owns_at N N i il ∙ own_dense N i il ∙ ap (dense N 0) (sym k.from);
            within = λ j ge. ap (λ by. weight_of by j) k.from ∙ other_weight i j (apart_from i N j il ge);
          };
      numbered = λ i j d il jl ne e. ne (sym (h.each i d il).number ∙ e ∙ (h.each j d jl).number);
      cancelled = All-nil (λ q. (q.column < columns) × AreZero q.column live);
    }

-- ---- The loop over the rows

-- so many rows are there
pub record AreFirst (rows : List Affine) (count : ℕ) (live : List Kept) : Type 0 where
  pub long : length live ≡ count
  pub each : (i : ℕ) (d : Kept) → i < length live → IsInput rows i (get_or live i d)

no_place : (i : ℕ) → i < 0 → ⊥
no_place i h = absurd (omega arith)

pub first_none : (rows : List Affine) → AreFirst rows 0 []
first_none rows = record { long = refl; each = λ i d lt. absurd (no_place i lt) }

at_last : (i n m : ℕ) → i < m → m ≡ n + 1 → (i < n → ⊥) → n ≡ i
at_last i n m lt e h = elim (cases_lt i n) [ inl l ↦ absurd (h l) | inr ge ↦ omega arith ]

pub first_more : (rows : List Affine) (count : ℕ) (old new : List Kept) (k : Kept) → new ≡ old ++ k ∷ [] → IsInput rows count k → AreFirst rows count old → AreFirst rows (count + 1) new
first_more rows count old new k is h a = subst (AreFirst rows (count + 1)) (sym is) (record {
  long = length_push old k ∙ ap (λ n. n + 1) a.long;
  each = λ i d lt. elim (cases_lt i (length old)) [
    | inl l ↦ subst (IsInput rows i) (sym (get_or_append_left old (k ∷ []) d i l)) (a.each i d l)
    | inr ge ↦
        let e : length old ≡ i = at_last i (length old) (length (old ++ k ∷ [])) lt (length_push old k) (λ l. not_both i (length old) l ge) in
        subst (IsInput rows i) (sym (get_or_push old k d i e)) (subst (λ n. IsInput rows n k) (sym a.long ∙ e) h)
  ];
})
  where
    not_both : (i n : ℕ) → i < n → n ≤ i → ⊥
    not_both i n l ge = absurd (omega arith)
