-- The end of an elimination: what its state gives.
use Rattle.std.proofs.Common.{◌≡◌, ◌⊎◌, cond, ℕ, zero, suc, ◌<◌, ◌≤◌, Bool, true, false, List, [], ◌∷◌, ◌++◌, length, get_or, ℤ, pos, negsuc, neg_ℤ, ◌≤ℤ◌, ◌<ℤ◌, refl, sym, ap, subst, ◌∙◌, inl, inr, arith}
use Rattle.std.specs.List.{All, Contains}
use Rattle.std.proofs.lemmas.Int.{ints}
use Rattle.std.proofs.lemmas.Bool.{cases_eq, cases_Bool}
use Rattle.std.proofs.lemmas.List.Elements.{All-nil, All-cons, All-append, All-map, All-weaker, All-contains, All-contains_itself, Contains-append_left, Contains-append_right}
use Rattle.affc_rows.specs.Forms.{Affine, HaveColumns}
use Rattle.affc_farkas.specs.Multiples.{entry_of, multiple_sum}
use Rattle.affc_farkas.specs.Rational.{scaled_value}
use Rattle.affc_farkas.specs.declared.pair.Pair.{Pair}
use Rattle.affc_eliminate.specs.Points.{HoldAt, Extends}
use Rattle.affc_rows.specs.Vocabulary.{opposite}
use Rattle.affc_eliminate.specs.Laws.{IsCombination, IsCombined, IsFrom, AreRowsOf}
use Rattle.affc_eliminate.specs.Mixtures.{forms_of}
use Rattle.affc_eliminate.specs.Steps.{AreNumbered, HasOpposite, AreReady, AddEach, AreEliminated}
use Rattle.affc_eliminate.specs.Works.{IsAt, IsCovered, pair_of, IsWork, AreFlatDone, IsCrossing, AreOpposite, IsReplacing}
use Rattle.affc_eliminate.specs.declared.kept.Kept.{Kept}
use Rattle.affc_eliminate.specs.declared.work.Work.{Work}
use Rattle.affc_eliminate.proofs.Exactness.{holds_down, step_is_exact, substitution_is_exact, opposite_entry}
use Rattle.affc_eliminate.proofs.Sieves.{held_rows, numbered_from, screened_from}
use Rattle.affc_eliminate.proofs.Added.{contains_form, each_form, same_at, contains_at, added_all, row_of_pair, mixture_of_pair, added_zero, added_sums}

-- ---- The forms that are 0 in a column

is_zero : ℤ → Bool
is_zero (pos zero) = true
is_zero (pos (suc n)) = false
is_zero (negsuc n) = false

zero_true : (z : ℤ) → z ≡ pos 0 → is_zero z ≡ true
unfolding is_zero
zero_true (pos zero) e = refl
zero_true (pos (suc n)) e = absurd (omega (arith, ints))
zero_true (negsuc n) e = absurd (omega (arith, ints))

true_zero : (z : ℤ) → is_zero z ≡ true → z ≡ pos 0
unfolding is_zero
true_zero (pos zero) e = refl
true_zero (pos (suc n)) e = cc
true_zero (negsuc n) e = cc

abbrev flat_forms : ℕ → List Affine → List Affine
flat_forms column [] = []
flat_forms column (f ∷ fs) = cond (is_zero (entry_of f column)) (f ∷ flat_forms column fs) (flat_forms column fs)

in_tail : (g : Affine) (gs : List Affine) (f : Affine) → Contains gs f → Contains (g ∷ gs) f
in_tail g gs f c = let lt = c.1 in (suc c.0, omega arith, c.2)

in_head : (g : Affine) (gs : List Affine) (f : Affine) → g ≡ f → Contains (g ∷ gs) f
in_head g gs f e = (0, omega arith, e)

kept_form : (column : ℕ) (g : Affine) (gs : List Affine) → is_zero (entry_of g column) ≡ true → flat_forms column (g ∷ gs) ≡ g ∷ flat_forms column gs
kept_form column g gs t = ap (λ b. cond b (g ∷ flat_forms column gs) (flat_forms column gs)) t

left_form : (column : ℕ) (g : Affine) (gs : List Affine) → is_zero (entry_of g column) ≡ false → flat_forms column (g ∷ gs) ≡ flat_forms column gs
left_form column g gs t = ap (λ b. cond b (g ∷ flat_forms column gs) (flat_forms column gs)) t

flat_in : (column : ℕ) (forms : List Affine) (f : Affine) (k : ℕ) → k < length forms → get_or forms k f ≡ f → entry_of f column ≡ pos 0 → Contains (flat_forms column forms) f
flat_in column [] f k lt e z = absurd (omega arith)
flat_in column (g ∷ gs) f zero lt e z =
    subst (λ xs. Contains xs f) (sym (kept_form column g gs (zero_true (entry_of g column) (ap (λ (q : Affine). entry_of q column) e ∙ z)))) (in_head g (flat_forms column gs) f e)
flat_in column (g ∷ gs) f (suc k) lt e z =
    let rest = flat_in column gs f k (omega arith) e z in
    elim (cases_Bool (is_zero (entry_of g column))) [
      | inl t ↦ subst (λ xs. Contains xs f) (sym (kept_form column g gs t)) (in_tail g (flat_forms column gs) f rest)
      | inr t ↦ subst (λ xs. Contains xs f) (sym (left_form column g gs t)) rest
    ]

flat_from : (column : ℕ) (forms : List Affine) → All (λ f. Contains forms f × (entry_of f column ≡ pos 0)) (flat_forms column forms)
flat_from column [] = All-nil (λ f. Contains [] f × (entry_of f column ≡ pos 0))
flat_from column (g ∷ gs) =
    let P = λ (f : Affine). Contains (g ∷ gs) f × (entry_of f column ≡ pos 0) in
    let rest : All P (flat_forms column gs) = All-weaker (λ f. Contains gs f × (entry_of f column ≡ pos 0)) P (λ f p. (in_tail g gs f p.0, p.1)) (flat_forms column gs) (flat_from column gs) in
    elim (cases_Bool (is_zero (entry_of g column))) [
      | inl t ↦ subst (All P) (sym (kept_form column g gs t)) (All-cons P g (flat_forms column gs) (in_head g gs g refl, true_zero (entry_of g column) t) rest)
      | inr t ↦ subst (All P) (sym (left_form column g gs t)) rest
    ]

-- ---- Rows by their forms

row_at_form : (rows : List Kept) (f : Affine) (i : ℕ) → i < length (forms_of rows) → get_or (forms_of rows) i f ≡ f → (k : Kept) × Contains rows k × (k.row ≡ f)
row_at_form [] f i lt e = absurd (omega arith)
row_at_form (k ∷ ks) f zero lt e = (k, (0, omega arith, refl), e)
row_at_form (k ∷ ks) f (suc i) lt e =
    let r = row_at_form ks f i (omega arith) e in
    let c = r.1 in
    let l : c.0 < length ks = c.1 in
    (r.0, (suc c.0, omega arith, c.2), r.2)

pub row_with_form : (rows : List Kept) (f : Affine) → Contains (forms_of rows) f → (k : Kept) × Contains rows k × (k.row ≡ f)
row_with_form rows f c = row_at_form rows f c.0 c.1 c.2

-- ---- All rows that come of the step: those that are 0 in the column, and those that were added

abbrev come_of : ℕ → List Kept → List Kept → List Affine
come_of column rows added = flat_forms column (forms_of rows) ++ forms_of added

are_rows_of : (rows : List Kept) (column free n : ℕ) (made : List Pair) (added : List Kept) → HaveColumns n (forms_of rows) → column < n → AddEach rows column free made added
    → AreRowsOf column n (forms_of rows) (come_of column rows added)
are_rows_of rows column free n made added w lt t =
    let F = forms_of rows in record {
      widths = w;
      column_in = lt;
      from = All-append (IsFrom column F) (flat_forms column F) (forms_of added)
          (All-weaker (λ f. Contains F f × (entry_of f column ≡ pos 0)) (IsFrom column F) (λ f p. inl p) (flat_forms column F) (flat_from column F))
          (All-map (IsFrom column F) (λ (k : Kept). k.row) added
          (added_all rows column free (λ k. IsFrom column F k.row) (λ f g k cf cg m. inr (f.row, g.row, contains_form rows f cf, contains_form rows g cg, m.rows)) t));
      flat = All-weaker (Contains F) (λ f. entry_of f column ≡ pos 0 → Contains (come_of column rows added) f)
          (λ f c z. Contains-append_left (flat_forms column F) (forms_of added) f (flat_in column F f c.0 c.1 c.2 z)) F (All-contains_itself F);
    }

at_own_place : (rows : List Kept) (k : Kept) (c : Contains rows k) → IsAt rows c.0 k
at_own_place rows k c = (c.1, c.2)

-- where the kept rows hold, all these do
all_hold : (Answers : Affine → Affine → Bool → Type 0) (rows : List Kept) (column free : ℕ) (kept : List Kept) (made : List Pair) (work : IsWork Answers rows column free kept made)
    → AreFlatDone rows column free (length rows) kept → (x : List ℤ) (d : ℤ) → HaveColumns (length x) (forms_of rows) → pos 1 ≤ℤ d → HoldAt x d (forms_of kept) → HoldAt x d (come_of column rows work.added)
all_hold Answers rows column free kept made work flats x d w one h =
    let F = forms_of rows in
    All-append (λ f. pos 0 ≤ℤ scaled_value f x d) (flat_forms column F) (forms_of work.added)
    (All-weaker (λ f. Contains F f × (entry_of f column ≡ pos 0)) (λ f. pos 0 ≤ℤ scaled_value f x d)
    (λ f p.
    let r = row_with_form rows f p.0 in
    let c = r.1 in
    subst (λ g. pos 0 ≤ℤ scaled_value g x d) r.2
    (flats.covered c.0 r.0 c.1 (at_own_place rows r.0 c) (ap (λ (g : Affine). entry_of g column) r.2 ∙ p.1) x d w one h)) (flat_forms column F) (flat_from column F))
    (held_rows x d work.added (All-weaker (λ k. IsCovered rows kept k.row) (λ k. pos 0 ≤ℤ scaled_value k.row x d) (λ k c. c x d w one h) work.added work.covered))

-- where the point extends, the kept rows hold
kept_hold : (Answers : Affine → Affine → Bool → Type 0) (rows : List Kept) (column free : ℕ) (kept : List Kept) (made : List Pair) → IsWork Answers rows column free kept made
    → (x : List ℤ) (d : ℤ) → HaveColumns (length x) (forms_of rows) → column < length x → Extends column x d (forms_of rows) → HoldAt x d (forms_of kept)
kept_hold Answers rows column free kept made work x d w lt e =
    let F = forms_of rows in
    let from_added = added_all rows column free (λ k. IsFrom column F k.row) (λ f g k cf cg m. inr (f.row, g.row, contains_form rows f cf, contains_form rows g cg, m.rows)) work.add_each in
    held_rows x d kept (All-weaker (λ k. (Contains rows k × (entry_of k.row column ≡ pos 0)) ⊎ Contains work.added k) (λ k. pos 0 ≤ℤ scaled_value k.row x d)
    (λ k c.
    let from : IsFrom column F k.row = elim c [
      | inl i ↦ inl (contains_form rows k i.0, i.1)
      | inr i ↦ All-contains (λ q. IsFrom column F q.row) work.added k from_added i
    ] in
    holds_down column (length x) F k.row x d w lt refl from e) kept work.from)

-- a combination that was made
combined_of : (rows : List Kept) (column free : ℕ) (made : List Pair) (added : List Kept) (a b : Kept) (f g : Affine) → AreNumbered rows → AddEach rows column free made added
    → Contains rows a → Contains rows b → Contains made (pair_of column a b) → a.row ≡ f → b.row ≡ g → IsCombined column (come_of column rows added) f g
combined_of rows column free made added a b f g numbered t ca cb c ef eg =
    let m = mixture_of_pair rows column added a b numbered ca cb (row_of_pair rows column free (pair_of column a b) t c) in (
      m.0.row,
      Contains-append_right (flat_forms column (forms_of rows)) (forms_of added) m.0.row (contains_form added m.0 m.1),
      subst (λ u. IsCombination column u g m.0.row) ef (subst (λ v. IsCombination column a.row v m.0.row) eg m.2.rows),
    )

-- ---- Each positive row with each negative one

crossing_extends : (Answers : Affine → Affine → Bool → Type 0) (rows : List Kept) (column free : ℕ) (state : Work) → AreReady rows column free → IsCrossing Answers rows column free (length rows) 0 state
    → (x : List ℤ) (d : ℤ) → HaveColumns (length x) (forms_of rows) → column < length x → pos 1 ≤ℤ d → HoldAt x d (forms_of state.kept.items) → Extends column x d (forms_of rows)
crossing_extends Answers rows column free state ready c x d w lt one h =
    let F = forms_of rows in
    let t = c.work.add_each in
    (step_is_exact column (length x) F (come_of column rows c.work.added) x d (are_rows_of rows column free (length x) state.made.items c.work.added w lt t)
    (λ f g inf ing above below.
    let a = row_with_form rows f inf in
    let b = row_with_form rows g ing in
    let ca = a.1 in
    let cb = b.1 in
    combined_of rows column free state.made.items c.work.added a.0 b.0 f g ready.numbered t ca cb
    (c.pairs.all ca.0 cb.0 a.0 b.0 (inl ca.1) (at_own_place rows a.0 ca) (at_own_place rows b.0 cb) (subst (λ (q : Affine). pos 0 <ℤ entry_of q column) (sym a.2) above) (subst (λ (q : Affine). entry_of q column <ℤ pos 0) (sym b.2) below))
    a.2 b.2) refl one).0
    (all_hold Answers rows column free state.kept.items state.made.items c.work c.flats x d w one h)

-- ---- Each row with one of two opposite ones

negated_up : (z : ℤ) → pos 0 <ℤ z → neg_ℤ z <ℤ pos 0
negated_up z h = omega (arith, ints)

not_both : (z : ℤ) → z <ℤ pos 0 → pos 0 <ℤ z → ⊥
not_both z h e = absurd (omega (arith, ints))

replacing_extends : (Answers : Affine → Affine → Bool → Type 0) (rows : List Kept) (column free p n : ℕ) (state : Work) → AreReady rows column free → (two : AreOpposite rows column p n)
    → IsReplacing Answers rows column free p n (length rows) state
    → (x : List ℤ) (d : ℤ) → HaveColumns (length x) (forms_of rows) → column < length x → pos 1 ≤ℤ d → HoldAt x d (forms_of state.kept.items) → Extends column x d (forms_of rows)
replacing_extends Answers rows column free p n state ready two c x d w lt one h =
    let F = forms_of rows in
    let t = c.work.add_each in
    let new = come_of column rows c.work.added in
    let first_in = contains_at rows p two.first two.first_at in
    let second_in = contains_at rows n two.second two.second_at in
    let inside : column < length two.first.row.coefs = subst (λ m. column < m) (sym (each_form (λ f. length f.coefs ≡ length x) rows two.first w first_in)) lt in
    let down : entry_of two.second.row column <ℤ pos 0 =
    subst (λ z. z <ℤ pos 0) (sym (ap (λ (f : Affine). entry_of f column) two.opposite ∙ opposite_entry two.first.row column inside)) (negated_up (entry_of two.first.row column) two.positive) in
    (substitution_is_exact column (length x) F new two.first.row x d (are_rows_of rows column free (length x) state.made.items c.work.added w lt t)
    (contains_form rows two.first first_in) (subst (Contains F) two.opposite (contains_form rows two.second second_in)) two.positive
    (λ f inf above.
    let a = row_with_form rows f inf in
    let ca = a.1 in
    let up : pos 0 <ℤ entry_of a.0.row column = subst (λ (q : Affine). pos 0 <ℤ entry_of q column) (sym a.2) above in
    elim (cases_eq ca.0 p) [
      | inl e ↦ inl (sym a.2 ∙ ap (λ (q : Kept). q.row) (same_at rows ca.0 p a.0 two.first (at_own_place rows a.0 ca) two.first_at e))
      | inr np ↦ elim (cases_eq ca.0 n) [
        | inl e ↦ absurd (not_both (entry_of two.second.row column) down (subst (λ (q : Kept). pos 0 <ℤ entry_of q.row column) (same_at rows ca.0 n a.0 two.second (at_own_place rows a.0 ca) two.second_at e) up))
        | inr nn ↦ inr (combined_of rows column free state.made.items c.work.added a.0 two.second f (opposite two.first.row) ready.numbered t ca second_in
            (c.pairs.positive ca.0 a.0 two.second ca.1 np nn (at_own_place rows a.0 ca) two.second_at up) a.2 two.opposite)
      ]
    ])
    (λ g ing below.
    let b = row_with_form rows g ing in
    let cb = b.1 in
    let low : entry_of b.0.row column <ℤ pos 0 = subst (λ (q : Affine). entry_of q column <ℤ pos 0) (sym b.2) below in
    elim (cases_eq cb.0 n) [
      | inl e ↦ inl (sym b.2 ∙ ap (λ (q : Kept). q.row) (same_at rows cb.0 n b.0 two.second (at_own_place rows b.0 cb) two.second_at e) ∙ two.opposite)
      | inr nn ↦ elim (cases_eq cb.0 p) [
        | inl e ↦ absurd (not_both (entry_of b.0.row column) low (subst (λ (q : Kept). pos 0 <ℤ entry_of q.row column) (sym (same_at rows cb.0 p b.0 two.first (at_own_place rows b.0 cb) two.first_at e)) two.positive))
        | inr np ↦ inr (combined_of rows column free state.made.items c.work.added two.first b.0 two.first.row g ready.numbered t first_in cb
            (c.pairs.negative cb.0 b.0 two.first cb.1 np nn (at_own_place rows b.0 cb) two.first_at low) refl b.2)
      ]
    ]) refl one).0
    (all_hold Answers rows column free state.kept.items state.made.items c.work c.flats x d w one h)

-- ---- The whole

work_ends : (Answers : Affine → Affine → Bool → Type 0) (rows : List Kept) (column free : ℕ) (kept : List Kept) (made : List Pair) → AreReady rows column free → IsWork Answers rows column free kept made
    → ((x : List ℤ) (d : ℤ) → HaveColumns (length x) (forms_of rows) → column < length x → pos 1 ≤ℤ d → HoldAt x d (forms_of kept) → Extends column x d (forms_of rows))
    → (HasOpposite column (forms_of rows) → length kept ≤ length rows) → AreEliminated Answers rows column free kept made
work_ends Answers rows column free kept made ready work back few =
    let zero = added_zero rows column free ready.columns work.add_each ready.widths ready.column_in in
    record {
      added = work.added;
      add_each = work.add_each;
      given_or_added = All-weaker (λ k. (Contains rows k × (entry_of k.row column ≡ pos 0)) ⊎ Contains work.added k) (λ k. Contains rows k ⊎ Contains work.added k)
          (λ k c. elim c [ inl i ↦ inl i.0 | inr i ↦ inr i ]) kept work.from;
      numbered = numbered_from Answers kept work.apart;
      zero = All-weaker (λ k. (Contains rows k × (entry_of k.row column ≡ pos 0)) ⊎ Contains work.added k) (λ k. entry_of k.row column ≡ pos 0)
          (λ k c. elim c [ inl i ↦ i.1 | inr i ↦ All-contains (λ q. entry_of q.row column ≡ pos 0) work.added k zero i ]) kept work.from;
      sums = λ columns base s.
          let a = added_sums rows column free columns base work.add_each s work.named in
          let each : (P : Kept → Type 0) → All P rows → All P work.added → All P kept = λ P h k.
          All-weaker (λ q. (Contains rows q × (entry_of q.row column ≡ pos 0)) ⊎ Contains work.added q) P (λ q c. elim c [ inl i ↦ All-contains P rows q h i.0 | inr i ↦ All-contains P work.added q k i ]) kept work.from in
          record {
            few = s.few;
            widths = s.widths;
            sums = each (λ k. k.row ≡ multiple_sum columns base k.from) s.sums a.sums;
            named = each (λ k. All (λ p. p.0 < 1024) k.from) s.named work.named;
          };
      same_points = λ x d w lt one. (back x d w lt one, λ e. kept_hold Answers rows column free kept made work x d w lt e);
      screened = screened_from Answers kept work.apart;
      not_more = few;
      not_trivial = work.not_trivial;
    }

pub crossing_ends : (Answers : Affine → Affine → Bool → Type 0) (rows : List Kept) (column free : ℕ) (state : Work) → AreReady rows column free → IsCrossing Answers rows column free (length rows) 0 state
    → (HasOpposite column (forms_of rows) → ⊥) → AreEliminated Answers rows column free state.kept.items state.made.items
crossing_ends Answers rows column free state ready c nope =
    work_ends Answers rows column free state.kept.items state.made.items ready c.work (crossing_extends Answers rows column free state ready c) (λ h. absurd (nope h))

pub replacing_ends : (Answers : Affine → Affine → Bool → Type 0) (rows : List Kept) (column free p n : ℕ) (state : Work) → AreReady rows column free → AreOpposite rows column p n
    → IsReplacing Answers rows column free p n (length rows) state → AreEliminated Answers rows column free state.kept.items state.made.items
replacing_ends Answers rows column free p n state ready two c =
    work_ends Answers rows column free state.kept.items state.made.items ready c.work (replacing_extends Answers rows column free p n state ready two c) (λ h. c.few)
