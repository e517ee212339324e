-- The pairs of each row with one of two opposite rows, place by place.
use Rattle.std.proofs.Common.{◌≡◌, ◌≢◌, ◌⊎◌, ℕ, ◌+◌, ◌<◌, ◌≤◌, Bool, List, [], ◌∷◌, ◌++◌, length, ℤ, pos, ◌<ℤ◌, refl, sym, ap, subst, ◌∙◌, inl, inr, arith}
use Rattle.std.specs.List.{All, Contains}
use Rattle.std.proofs.lemmas.Int.{ints}
use Rattle.std.proofs.lemmas.Bool.{cases_lt}
use Rattle.std.proofs.lemmas.List.{length_push}
use Rattle.std.proofs.lemmas.List.Elements.{All-nil, All-push, All-weaker, Contains-append_left, Contains-push}
use Rattle.affc_rows.specs.Forms.{Affine}
use Rattle.affc_farkas.specs.Multiples.{entry_of}
use Rattle.affc_farkas.specs.declared.pair.Pair.{Pair}
use Rattle.affc_eliminate.specs.Steps.{AreReady, AreNumbered}
use Rattle.affc_eliminate.specs.Sieves.{AreAdmitted}
use Rattle.affc_eliminate.specs.Works.{IsAt, pair_of, IsWork, AreFlatDone, IsGrown, IsReplaced, AreReplaced, IsReplacing}
use Rattle.affc_eliminate.specs.declared.kept.Kept.{Kept}
use Rattle.affc_eliminate.specs.declared.work.Work.{Work}
use Rattle.affc_eliminate.proofs.Added.{place_by_number, same_at}
use Rattle.affc_eliminate.proofs.Works.{work_start, flats_start, work_flat, flats_more, flats_skip}

none_below : (a : ℕ) → a < 0 → ⊥
none_below a h = absurd (omega arith)

pub replaced_start : (rows : List Kept) (column p n : ℕ) → AreReplaced rows column p n 0 []
replaced_start rows column p n = record {
  positive = λ a f second lt. absurd (none_below a lt);
  negative = λ a f first lt. absurd (none_below a lt);
  earlier = All-nil (IsReplaced rows column p n 0);
  few = omega arith;
}

below_or_here : (a i : ℕ) → a < i + 1 → (a < i) ⊎ (a ≡ i)
below_or_here a i h = elim (cases_lt a i) [ inl k ↦ inl k | inr k ↦ inr (omega arith) ]

later : (a i : ℕ) → a < i → a < i + 1
later a i h = omega arith

just : (i : ℕ) → i < i + 1
just i = omega arith

replaced_later : (rows : List Kept) (column p n i : ℕ) (q : Pair) → IsReplaced rows column p n i q → IsReplaced rows column p n (i + 1) q
replaced_later rows column p n i q h = record {
  place = h.place;
  row = h.row;
  first = h.first;
  second = h.second;
  below = later h.place i h.below;
  not_first = h.not_first;
  not_second = h.not_second;
  at = h.at;
  first_at = h.first_at;
  second_at = h.second_at;
  is = h.is;
}

all_later : (rows : List Kept) (column p n i : ℕ) (made : List Pair) → All (IsReplaced rows column p n i) made → All (IsReplaced rows column p n (i + 1)) made
all_later rows column p n i made h = All-weaker (IsReplaced rows column p n i) (IsReplaced rows column p n (i + 1)) (λ q r. replaced_later rows column p n i q r) made h

-- a place at which nothing is to be made
replaced_skip : (rows : List Kept) (column p n i : ℕ) (made : List Pair)
    → ((f : Kept) → IsAt rows i f → i ≢ p → i ≢ n → pos 0 <ℤ entry_of f.row column → ⊥) → ((f : Kept) → IsAt rows i f → i ≢ p → i ≢ n → entry_of f.row column <ℤ pos 0 → ⊥)
    → AreReplaced rows column p n i made → AreReplaced rows column p n (i + 1) made
replaced_skip rows column p n i made up down h = record {
  positive = λ a f second lt np nn fa sn pf. elim (below_or_here a i lt) [
    | inl m ↦ h.positive a f second m np nn fa sn pf
    | inr m ↦ absurd (up f (subst (λ b. IsAt rows b f) m fa) (λ e. np (m ∙ e)) (λ e. nn (m ∙ e)) pf)
  ];
  negative = λ a g first lt np nn ga fp ng. elim (below_or_here a i lt) [
    | inl m ↦ h.negative a g first m np nn ga fp ng
    | inr m ↦ absurd (down g (subst (λ b. IsAt rows b g) m ga) (λ e. np (m ∙ e)) (λ e. nn (m ∙ e)) ng)
  ];
  earlier = all_later rows column p n i made h.earlier;
  few = let k = h.few in omega arith;
}

not_above : (z : ℤ) → z ≡ pos 0 → pos 0 <ℤ z → ⊥
not_above z h e = absurd (omega (arith, ints))

not_below : (z : ℤ) → z ≡ pos 0 → z <ℤ pos 0 → ⊥
not_below z h e = absurd (omega (arith, ints))

not_both : (z : ℤ) → z <ℤ pos 0 → pos 0 <ℤ z → ⊥
not_both z h e = absurd (omega (arith, ints))

pub replaced_flat : (rows : List Kept) (column p n i : ℕ) (f : Kept) (made : List Pair) → IsAt rows i f → entry_of f.row column ≡ pos 0 → AreReplaced rows column p n i made → AreReplaced rows column p n (i + 1) made
replaced_flat rows column p n i f made at flat h =
    let zero : (g : Kept) → IsAt rows i g → entry_of g.row column ≡ pos 0 = λ g ga. subst (λ (q : Kept). entry_of q.row column ≡ pos 0) (same_at rows i i f g at ga refl) flat in
    replaced_skip rows column p n i made (λ g ga np nn up. not_above (entry_of g.row column) (zero g ga) up) (λ g ga np nn down. not_below (entry_of g.row column) (zero g ga) down) h

pub replaced_two : (rows : List Kept) (column p n i : ℕ) (made : List Pair) → (i ≡ p) ⊎ (i ≡ n) → AreReplaced rows column p n i made → AreReplaced rows column p n (i + 1) made
replaced_two rows column p n i made two h =
    let none : i ≢ p → i ≢ n → ⊥ = λ np nn. elim two [ inl e ↦ np e | inr e ↦ nn e ] in
    replaced_skip rows column p n i made (λ g ga np nn up. none np nn) (λ g ga np nn down. none np nn) h

more_few : (made new i : ℕ) → made ≤ i → new ≡ made + 1 → new ≤ i + 1
more_few made new i h e = omega arith

pub replaced_positive : (rows : List Kept) (column p n i : ℕ) (f first second : Kept) (made : List Pair) → IsAt rows i f → IsAt rows p first → IsAt rows n second → i ≢ p → i ≢ n → pos 0 <ℤ entry_of f.row column
    → AreReplaced rows column p n i made → AreReplaced rows column p n (i + 1) (made ++ pair_of column f second ∷ [])
replaced_positive rows column p n i f first second made at fp sn np nn up h = record {
  positive = λ a g s lt ap' an ga sa pg. elim (below_or_here a i lt) [
    | inl m ↦ Contains-append_left made (pair_of column f second ∷ []) (pair_of column g s) (h.positive a g s m ap' an ga sa pg)
    | inr m ↦ subst (Contains (made ++ pair_of column f second ∷ []))
        (ap (λ (q : Kept). pair_of column q second) (sym (same_at rows a i g f ga at m)) ∙ ap (λ (q : Kept). pair_of column g q) (sym (same_at rows n n s second sa sn refl)))
        (Contains-push made (pair_of column f second))
  ];
  negative = λ a g e lt ap' an ga ea ng. elim (below_or_here a i lt) [
    | inl m ↦ Contains-append_left made (pair_of column f second ∷ []) (pair_of column e g) (h.negative a g e m ap' an ga ea ng)
    | inr m ↦ absurd (not_both (entry_of f.row column) (subst (λ (q : Kept). entry_of q.row column <ℤ pos 0) (same_at rows a i g f ga at m) ng) up)
  ];
  earlier = All-push (IsReplaced rows column p n (i + 1)) made (pair_of column f second) (all_later rows column p n i made h.earlier) (record {
    place = i;
    row = f;
    first = first;
    second = second;
    below = just i;
    not_first = np;
    not_second = nn;
    at = at;
    first_at = fp;
    second_at = sn;
    is = inl refl;
  });
  few = more_few (length made) (length (made ++ pair_of column f second ∷ [])) i h.few (length_push made (pair_of column f second));
}

pub replaced_negative : (rows : List Kept) (column p n i : ℕ) (g first second : Kept) (made : List Pair) → IsAt rows i g → IsAt rows p first → IsAt rows n second → i ≢ p → i ≢ n → entry_of g.row column <ℤ pos 0
    → AreReplaced rows column p n i made → AreReplaced rows column p n (i + 1) (made ++ pair_of column first g ∷ [])
replaced_negative rows column p n i g first second made at fp sn np nn down h = record {
  positive = λ a f s lt ap' an fa sa pf. elim (below_or_here a i lt) [
    | inl m ↦ Contains-append_left made (pair_of column first g ∷ []) (pair_of column f s) (h.positive a f s m ap' an fa sa pf)
    | inr m ↦ absurd (not_both (entry_of g.row column) down (subst (λ (q : Kept). pos 0 <ℤ entry_of q.row column) (same_at rows a i f g fa at m) pf))
  ];
  negative = λ a k e lt ap' an ka ea nk. elim (below_or_here a i lt) [
    | inl m ↦ Contains-append_left made (pair_of column first g ∷ []) (pair_of column e k) (h.negative a k e m ap' an ka ea nk)
    | inr m ↦ subst (Contains (made ++ pair_of column first g ∷ []))
        (ap (λ (q : Kept). pair_of column q g) (sym (same_at rows p p e first ea fp refl)) ∙ ap (λ (q : Kept). pair_of column e q) (sym (same_at rows a i k g ka at m)))
        (Contains-push made (pair_of column first g))
  ];
  earlier = All-push (IsReplaced rows column p n (i + 1)) made (pair_of column first g) (all_later rows column p n i made h.earlier) (record {
    place = i;
    row = g;
    first = first;
    second = second;
    below = just i;
    not_first = np;
    not_second = nn;
    at = at;
    first_at = fp;
    second_at = sn;
    is = inr refl;
  });
  few = more_few (length made) (length (made ++ pair_of column first g ∷ [])) i h.few (length_push made (pair_of column first g));
}

-- ---- The pair of a place isn't made yet

not_less : (a i : ℕ) → a < i → a ≡ i → ⊥
not_less a i h e = absurd (omega arith)

first_same : (column : ℕ) (q : Pair) (a b c d : Kept) → q ≡ pair_of column a b → q ≡ pair_of column c d → a.number ≡ c.number
first_same column q a b c d e k = ap (λ (z : Pair). z.first) (sym e ∙ k)

second_same : (column : ℕ) (q : Pair) (a b c d : Kept) → q ≡ pair_of column a b → q ≡ pair_of column c d → b.number ≡ d.number
second_same column q a b c d e k = ap (λ (z : Pair). z.second) (sym e ∙ k)

pub positive_fresh : (rows : List Kept) (column p n i : ℕ) (f second : Kept) (made : List Pair) → AreNumbered rows → IsAt rows i f → i ≢ p → AreReplaced rows column p n i made → All (λ q. q ≢ pair_of column f second) made
positive_fresh rows column p n i f second made numbered at np h =
    All-weaker (IsReplaced rows column p n i) (λ q. q ≢ pair_of column f second) (λ q r same. elim r.is [
      | inl e ↦ not_less r.place i r.below (place_by_number rows r.place i r.row f numbered r.at at (first_same column q r.row r.second f second e same))
      | inr e ↦ np (sym (place_by_number rows p i r.first f numbered r.first_at at (first_same column q r.first r.row f second e same)))
    ]) made h.earlier

pub negative_fresh : (rows : List Kept) (column p n i : ℕ) (g first : Kept) (made : List Pair) → AreNumbered rows → IsAt rows i g → i ≢ n → AreReplaced rows column p n i made → All (λ q. q ≢ pair_of column first g) made
negative_fresh rows column p n i g first made numbered at nn h =
    All-weaker (IsReplaced rows column p n i) (λ q. q ≢ pair_of column first g) (λ q r same. elim r.is [
      | inl e ↦ nn (sym (place_by_number rows n i r.second g numbered r.second_at at (second_same column q r.row r.second first g e same)))
      | inr e ↦ not_less r.place i r.below (place_by_number rows r.place i r.row g numbered r.at at (second_same column q r.first r.row first g e same))
    ]) made h.earlier

-- ---- The state

pub replacing_start : (Answers : Affine → Affine → Bool → Type 0) (rows : List Kept) (column free p n : ℕ) (state : Work) → state.kept.items ≡ [] → state.made.items ≡ [] → IsReplacing Answers rows column free p n 0 state
replacing_start Answers rows column free p n state k m = record {
  work = subst (λ xs. IsWork Answers rows column free xs state.made.items) (sym k) (subst (IsWork Answers rows column free []) (sym m) (work_start Answers rows column free));
  flats = subst (AreFlatDone rows column free 0) (sym k) (flats_start rows column free);
  pairs = subst (AreReplaced rows column p n 0) (sym m) (replaced_start rows column p n);
  few = let e = ap length k in omega arith;
}

one_few : (old new i : ℕ) → old ≤ i → new ≤ old + 1 → new ≤ i + 1
one_few old new i h k = omega arith

pub replacing_flat : (Answers : Affine → Affine → Bool → Type 0) (rows : List Kept) (column free p n i : ℕ) (f : Kept) (old new : Work) → AreReady rows column free → IsAt rows i f → entry_of f.row column ≡ pos 0
    → IsReplacing Answers rows column free p n i old → AreAdmitted Answers old.kept.items f new.kept.items → new.made.items ≡ old.made.items → IsReplacing Answers rows column free p n (i + 1) new
replacing_flat Answers rows column free p n i f old new ready at flat c a same = record {
  work = subst (IsWork Answers rows column free new.kept.items) (sym same) (work_flat Answers rows column free i f old.kept.items new.kept.items old.made.items ready c.work c.flats at flat a);
  flats = flats_more Answers rows column free i f old.kept.items new.kept.items c.flats at a;
  pairs = subst (AreReplaced rows column p n (i + 1)) (sym same) (replaced_flat rows column p n i f old.made.items at flat c.pairs);
  few = one_few (length old.kept.items) (length new.kept.items) i c.few a.few;
}

weaker : (a i : ℕ) → a ≤ i → a ≤ i + 1
weaker a i h = omega arith

pub replacing_two : (Answers : Affine → Affine → Bool → Type 0) (rows : List Kept) (column free p n i : ℕ) (f : Kept) (state : Work) → IsAt rows i f → (entry_of f.row column ≡ pos 0 → ⊥) → (i ≡ p) ⊎ (i ≡ n)
    → IsReplacing Answers rows column free p n i state → IsReplacing Answers rows column free p n (i + 1) state
replacing_two Answers rows column free p n i f state at ne two c = record {
  work = c.work;
  flats = flats_skip rows column free i f state.kept.items c.flats at ne;
  pairs = replaced_two rows column p n i state.made.items two c.pairs;
  few = weaker (length state.kept.items) i c.few;
}

not_zero_up : (z : ℤ) → pos 0 <ℤ z → z ≡ pos 0 → ⊥
not_zero_up z h e = absurd (omega (arith, ints))

not_zero_down : (z : ℤ) → z <ℤ pos 0 → z ≡ pos 0 → ⊥
not_zero_down z h e = absurd (omega (arith, ints))

pub replacing_positive : (Answers : Affine → Affine → Bool → Type 0) (rows : List Kept) (column free p n i : ℕ) (f first second : Kept) (old new : Work) → IsAt rows i f → IsAt rows p first → IsAt rows n second
    → i ≢ p → i ≢ n → pos 0 <ℤ entry_of f.row column → IsReplacing Answers rows column free p n i old → IsGrown Answers rows column free f second old new
    → IsReplacing Answers rows column free p n (i + 1) new
replacing_positive Answers rows column free p n i f first second old new at fp sn np nn up c grown = record {
  work = grown.work;
  flats = flats_skip rows column free i f new.kept.items (grown.flats i c.flats) at (λ e. not_zero_up (entry_of f.row column) up e);
  pairs = subst (AreReplaced rows column p n (i + 1)) (sym grown.made) (replaced_positive rows column p n i f first second old.made.items at fp sn np nn up c.pairs);
  few = one_few (length old.kept.items) (length new.kept.items) i c.few grown.few;
}

pub replacing_negative : (Answers : Affine → Affine → Bool → Type 0) (rows : List Kept) (column free p n i : ℕ) (g first second : Kept) (old new : Work) → IsAt rows i g → IsAt rows p first → IsAt rows n second
    → i ≢ p → i ≢ n → entry_of g.row column <ℤ pos 0 → IsReplacing Answers rows column free p n i old → IsGrown Answers rows column free first g old new
    → IsReplacing Answers rows column free p n (i + 1) new
replacing_negative Answers rows column free p n i g first second old new at fp sn np nn down c grown = record {
  work = grown.work;
  flats = flats_skip rows column free i g new.kept.items (grown.flats i c.flats) at (λ e. not_zero_down (entry_of g.row column) down e);
  pairs = subst (AreReplaced rows column p n (i + 1)) (sym grown.made) (replaced_negative rows column p n i g first second old.made.items at fp sn np nn down c.pairs);
  few = one_few (length old.kept.items) (length new.kept.items) i c.few grown.few;
}
