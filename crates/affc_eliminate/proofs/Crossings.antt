-- The pairs of each positive row with each negative one, place by place.
use Rattle.std.proofs.Common.{◌≡◌, ◌≢◌, ◌⊎◌, ℕ, ◌+◌, ◌*◌, ◌<◌, ◌≤◌, Bool, List, [], ◌∷◌, ◌++◌, length, ℤ, pos, ◌<ℤ◌, refl, sym, ap, subst, ◌∙◌, inl, inr, arith}
use Rattle.std.specs.List.{All, Contains}
use Rattle.std.proofs.lemmas.Int.{ints}
use Rattle.std.proofs.lemmas.Bool.{cases_lt}
use Rattle.std.proofs.lemmas.List.{length_push}
use Rattle.std.proofs.lemmas.List.Elements.{All-nil, All-push, All-weaker, Contains-append_left, Contains-push}
use Rattle.affc_rows.specs.Forms.{Affine}
use Rattle.affc_farkas.specs.Multiples.{entry_of}
use Rattle.affc_farkas.specs.declared.pair.Pair.{Pair}
use Rattle.affc_eliminate.specs.Steps.{AreReady, AreNumbered}
use Rattle.affc_eliminate.specs.Sieves.{AreAdmitted}
use Rattle.affc_eliminate.specs.Works.{IsAt, pair_of, IsWork, AreFlatDone, IsGrown, IsBefore, ArePairs, IsCrossing}
use Rattle.affc_eliminate.specs.declared.kept.Kept.{Kept}
use Rattle.affc_eliminate.specs.declared.work.Work.{Work}
use Rattle.affc_eliminate.proofs.Added.{place_by_number, same_at}
use Rattle.affc_eliminate.proofs.Works.{work_start, flats_start, work_flat, flats_more, flats_skip}

-- the pair of the rows at two earlier places
abbrev pub IsEarlier : List Kept → ℕ → ℕ → ℕ → Pair → Type 0
IsEarlier rows column i j q = (a b : ℕ) × (f g : Kept) × IsBefore a b i j × IsAt rows a f × IsAt rows b g × (q ≡ pair_of column f g)

none_before : (a b : ℕ) → IsBefore a b 0 0 → ⊥
none_before a b h = elim h [ inl k ↦ absurd (omega arith) | inr k ↦ let l = k.1 in absurd (omega arith) ]

pub pairs_start : (rows : List Kept) (column : ℕ) → ArePairs rows column 0 0 []
pairs_start rows column = record {
  all = λ a b f g h. absurd (none_before a b h);
  earlier = All-nil (IsEarlier rows column 0 0);
  few = omega arith;
}

-- one place more is an earlier one, or this one
before_or_here : (a b i j : ℕ) → IsBefore a b i (j + 1) → IsBefore a b i j ⊎ ((a ≡ i) × (b ≡ j))
before_or_here a b i j h = elim h [
  | inl k ↦ inl (inl k)
  | inr k ↦ let l = k.1 in elim (cases_lt b j) [ inl m ↦ inl (inr (k.0, m)) | inr m ↦ inr (k.0, omega arith) ]
]

still_before : (a b i j : ℕ) → IsBefore a b i j → IsBefore a b i (j + 1)
still_before a b i j h = elim h [ inl k ↦ inl k | inr k ↦ let l = k.1 in inr (k.0, omega arith) ]

earlier_more : (rows : List Kept) (column i j k l : ℕ) → ((a b : ℕ) → IsBefore a b i j → IsBefore a b k l) → (made : List Pair) → All (IsEarlier rows column i j) made → All (IsEarlier rows column k l) made
earlier_more rows column i j k l f made h = All-weaker (IsEarlier rows column i j) (IsEarlier rows column k l) (λ q e. (e.0, e.1, e.2, e.3, f e.0 e.1 e.4, e.5, e.6, e.7)) made h

-- the second row isn't negative
pub pairs_skip : (rows : List Kept) (column i j : ℕ) (g : Kept) (made : List Pair) → IsAt rows j g → (entry_of g.row column <ℤ pos 0 → ⊥) → ArePairs rows column i j made → ArePairs rows column i (j + 1) made
pairs_skip rows column i j g made at nope h = record {
  all = λ a b f k before fa kb pf nk. elim (before_or_here a b i j before) [
    | inl e ↦ h.all a b f k e fa kb pf nk
    | inr e ↦ absurd (nope (subst (λ (q : Kept). entry_of q.row column <ℤ pos 0) (same_at rows b j k g kb at e.1) nk))
  ];
  earlier = earlier_more rows column i j i (j + 1) (λ a b e. still_before a b i j e) made h.earlier;
  few = let n = h.few in omega arith;
}

here : (i j : ℕ) → IsBefore i j i (j + 1)
here i j = inr (refl, omega arith)

pub pairs_make : (rows : List Kept) (column i j : ℕ) (f g : Kept) (made : List Pair) → IsAt rows i f → IsAt rows j g → ArePairs rows column i j made
    → ArePairs rows column i (j + 1) (made ++ pair_of column f g ∷ [])
pairs_make rows column i j f g made fi gj h = record {
  all = λ a b e k before ea kb pe nk. elim (before_or_here a b i j before) [
    | inl m ↦ Contains-append_left made (pair_of column f g ∷ []) (pair_of column e k) (h.all a b e k m ea kb pe nk)
    | inr m ↦ subst (Contains (made ++ pair_of column f g ∷ []))
        (ap (λ (q : Kept). pair_of column q g) (sym (same_at rows a i e f ea fi m.0)) ∙ ap (λ (q : Kept). pair_of column e q) (sym (same_at rows b j k g kb gj m.1)))
        (Contains-push made (pair_of column f g))
  ];
  earlier = All-push (IsEarlier rows column i (j + 1)) made (pair_of column f g) (earlier_more rows column i j i (j + 1) (λ a b e. still_before a b i j e) made h.earlier) (i, j, f, g, here i j, fi, gj, refl);
  few = let n = h.few in let l = length_push made (pair_of column f g) in omega arith;
}

-- the first row is done
next_row : (a b i n : ℕ) → IsBefore a b i n → IsBefore a b (i + 1) 0
next_row a b i n h = elim h [ inl k ↦ inl (omega arith) | inr k ↦ let e = k.0 in inl (omega arith) ]

row_before : (a b i n : ℕ) → b < n → IsBefore a b (i + 1) 0 → IsBefore a b i n
row_before a b i n lt h = elim h [
  | inl k ↦ elim (cases_lt a i) [ inl m ↦ inl m | inr m ↦ inr (omega arith, lt) ]
  | inr k ↦ let m = k.1 in absurd (omega arith)
]

row_few : (made i n : ℕ) → made ≤ i * 8192 + n → n ≤ 8192 → made ≤ (i + 1) * 8192 + 0
row_few made i n h k = omega arith

pub pairs_row : (rows : List Kept) (column i : ℕ) (made : List Pair) → length rows ≤ 8192 → ArePairs rows column i (length rows) made → ArePairs rows column (i + 1) 0 made
pairs_row rows column i made few h = record {
  all = λ a b f g before fa gb pf ng. h.all a b f g (row_before a b i (length rows) gb.0 before) fa gb pf ng;
  earlier = earlier_more rows column i (length rows) (i + 1) 0 (λ a b e. next_row a b i (length rows) e) made h.earlier;
  few = row_few (length made) i (length rows) h.few few;
}

row_or_here : (a b i : ℕ) → IsBefore a b (i + 1) 0 → IsBefore a b i 0 ⊎ (a ≡ i)
row_or_here a b i h = elim h [
  | inl k ↦ elim (cases_lt a i) [ inl m ↦ inl (inl m) | inr m ↦ inr (omega arith) ]
  | inr k ↦ let m = k.1 in absurd (omega arith)
]

-- the first row isn't positive
pub pairs_not : (rows : List Kept) (column i : ℕ) (f : Kept) (made : List Pair) → IsAt rows i f → (pos 0 <ℤ entry_of f.row column → ⊥) → ArePairs rows column i 0 made → ArePairs rows column (i + 1) 0 made
pairs_not rows column i f made at nope h = record {
  all = λ a b e k before ea kb pe nk. elim (row_or_here a b i before) [
    | inl m ↦ h.all a b e k m ea kb pe nk
    | inr m ↦ absurd (nope (subst (λ (q : Kept). pos 0 <ℤ entry_of q.row column) (same_at rows a i e f ea at m) pe))
  ];
  earlier = earlier_more rows column i 0 (i + 1) 0 (λ a b e. next_row a b i 0 e) made h.earlier;
  few = row_few (length made) i 0 h.few (omega arith);
}

not_here : (i j : ℕ) → IsBefore i j i j → ⊥
not_here i j h = elim h [ inl k ↦ absurd (omega arith) | inr k ↦ let m = k.1 in absurd (omega arith) ]

-- the pair of these places isn't made yet
pub pairs_fresh : (rows : List Kept) (column i j : ℕ) (f g : Kept) (made : List Pair) → AreNumbered rows → IsAt rows i f → IsAt rows j g → ArePairs rows column i j made → All (λ q. q ≢ pair_of column f g) made
pairs_fresh rows column i j f g made numbered fi gj h =
    All-weaker (IsEarlier rows column i j) (λ q. q ≢ pair_of column f g) (λ q e same.
    let names = sym e.7 ∙ same in
    let first = place_by_number rows e.0 i e.2 f numbered e.5 fi (ap (λ (p : Pair). p.first) names) in
    let second = place_by_number rows e.1 j e.3 g numbered e.6 gj (ap (λ (p : Pair). p.second) names) in
    not_here i j (subst (λ m. IsBefore m j i j) first (subst (λ m. IsBefore e.0 m i j) second e.4))) made h.earlier

many : (made i j n : ℕ) → made ≤ i * 8192 + j → i < n → j < n → n ≤ 8192 → made < 8192 * 8192
many made i j n h k l m = omega arith

pub pairs_few : (rows : List Kept) (column i j : ℕ) (made : List Pair) → ArePairs rows column i j made → i < length rows → j < length rows → length rows ≤ 8192 → length made < 8192 * 8192
pairs_few rows column i j made h k l m = many (length made) i j (length rows) h.few k l m

-- ---- The state

pub crossing_start : (Answers : Affine → Affine → Bool → Type 0) (rows : List Kept) (column free : ℕ) (state : Work) → state.kept.items ≡ [] → state.made.items ≡ [] → IsCrossing Answers rows column free 0 0 state
crossing_start Answers rows column free state k m = record {
  work = subst (λ xs. IsWork Answers rows column free xs state.made.items) (sym k) (subst (IsWork Answers rows column free []) (sym m) (work_start Answers rows column free));
  flats = subst (AreFlatDone rows column free 0) (sym k) (flats_start rows column free);
  pairs = subst (ArePairs rows column 0 0) (sym m) (pairs_start rows column);
}

pub crossing_pair : (Answers : Affine → Affine → Bool → Type 0) (rows : List Kept) (column free i j : ℕ) (f g : Kept) (old new : Work) → IsAt rows i f → IsAt rows j g
    → IsCrossing Answers rows column free i j old → IsGrown Answers rows column free f g old new → IsCrossing Answers rows column free i (j + 1) new
crossing_pair Answers rows column free i j f g old new fi gj c grown = record {
  work = grown.work;
  flats = grown.flats i c.flats;
  pairs = subst (ArePairs rows column i (j + 1)) (sym grown.made) (pairs_make rows column i j f g old.made.items fi gj c.pairs);
}

pub crossing_skip : (Answers : Affine → Affine → Bool → Type 0) (rows : List Kept) (column free i j : ℕ) (g : Kept) (state : Work) → IsAt rows j g → (entry_of g.row column <ℤ pos 0 → ⊥)
    → IsCrossing Answers rows column free i j state → IsCrossing Answers rows column free i (j + 1) state
crossing_skip Answers rows column free i j g state at nope c = record { work = c.work; flats = c.flats; pairs = pairs_skip rows column i j g state.made.items at nope c.pairs }

not_zero_up : (z : ℤ) → pos 0 <ℤ z → z ≡ pos 0 → ⊥
not_zero_up z h e = absurd (omega (arith, ints))

not_zero_down : (z : ℤ) → z <ℤ pos 0 → z ≡ pos 0 → ⊥
not_zero_down z h e = absurd (omega (arith, ints))

not_both : (z : ℤ) → z <ℤ pos 0 → pos 0 <ℤ z → ⊥
not_both z h e = absurd (omega (arith, ints))

not_above : (z : ℤ) → z ≡ pos 0 → pos 0 <ℤ z → ⊥
not_above z h e = absurd (omega (arith, ints))

-- the row at the place is 0 in the column and stays
pub crossing_flat : (Answers : Affine → Affine → Bool → Type 0) (rows : List Kept) (column free i : ℕ) (f : Kept) (old new : Work) → AreReady rows column free → IsAt rows i f → entry_of f.row column ≡ pos 0
    → IsCrossing Answers rows column free i 0 old → AreAdmitted Answers old.kept.items f new.kept.items → new.made.items ≡ old.made.items → IsCrossing Answers rows column free (i + 1) 0 new
crossing_flat Answers rows column free i f old new ready at flat c a same = record {
  work = subst (IsWork Answers rows column free new.kept.items) (sym same) (work_flat Answers rows column free i f old.kept.items new.kept.items old.made.items ready c.work c.flats at flat a);
  flats = flats_more Answers rows column free i f old.kept.items new.kept.items c.flats at a;
  pairs = subst (ArePairs rows column (i + 1) 0) (sym same) (pairs_not rows column i f old.made.items at (λ h. not_above (entry_of f.row column) flat h) c.pairs);
}

-- ... is positive, and all its pairs are made
pub crossing_row : (Answers : Affine → Affine → Bool → Type 0) (rows : List Kept) (column free i : ℕ) (f : Kept) (state : Work) → length rows ≤ 8192 → IsAt rows i f → pos 0 <ℤ entry_of f.row column
    → IsCrossing Answers rows column free i (length rows) state → IsCrossing Answers rows column free (i + 1) 0 state
crossing_row Answers rows column free i f state few at up c = record {
  work = c.work;
  flats = flats_skip rows column free i f state.kept.items c.flats at (λ e. not_zero_up (entry_of f.row column) up e);
  pairs = pairs_row rows column i state.made.items few c.pairs;
}

-- ... is negative
pub crossing_not : (Answers : Affine → Affine → Bool → Type 0) (rows : List Kept) (column free i : ℕ) (f : Kept) (state : Work) → IsAt rows i f → entry_of f.row column <ℤ pos 0
    → IsCrossing Answers rows column free i 0 state → IsCrossing Answers rows column free (i + 1) 0 state
crossing_not Answers rows column free i f state at down c = record {
  work = c.work;
  flats = flats_skip rows column free i f state.kept.items c.flats at (λ e. not_zero_down (entry_of f.row column) down e);
  pairs = pairs_not rows column i f state.made.items at (λ h. not_both (entry_of f.row column) down h) c.pairs;
}
