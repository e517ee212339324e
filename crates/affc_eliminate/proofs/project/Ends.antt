-- The loop over the columns, and the rows at its end.
use Rattle.std.proofs.Common.{◌≡◌, ◌⊎◌, ℕ, ◌+◌, ◌-◌, ◌<◌, ◌≤◌, List, [], ◌∷◌, ◌++◌, length, get_or, ℤ, pos, refl, sym, ap, subst, ◌∙◌, inl, inr, arith}
use Rattle.std.specs.Prelude.{◌↔◌}
use Rattle.std.specs.List.{All, Contains, remove}
use Rattle.std.proofs.lemmas.Bool.{cases_lt, cases_eq}
use Rattle.std.proofs.lemmas.List.{get_or_default}
use Rattle.std.proofs.lemmas.List.Edits.{length-remove, get_or-remove_below, get_or-remove_above}
use Rattle.std.proofs.lemmas.List.Elements.{All-nil, All-push, All-weaker, All-contains, Contains-get_or, Contains-push, Contains-append_left}
use Rattle.affc_rows.specs.Forms.{Affine, HaveColumns}
use Rattle.affc_system.specs.Systems.{Meets}
use Rattle.affc_farkas.specs.Multiples.{entry_of}
use Rattle.affc_farkas.specs.Eliminations.{combined, coefficient}
use Rattle.affc_farkas.specs.declared.pair.Pair.{Pair}
use Rattle.affc_eliminate.specs.Mixtures.{forms_of}
use Rattle.affc_eliminate.specs.declared.kept.Kept.{Kept}
use Rattle.affc_eliminate.proofs.Values.{entry_last}
use Rattle.affc_eliminate.specs.project.Projections.{ExtendsWhole, IsRowOfTable, AreProjected, AreFrom}
use Rattle.affc_eliminate.specs.project.States.{IsIn, AreZero, IsState, IsContradiction, HasContradiction, IsCancelled, AreInputs, AreLeft, IsDone, IsLeast, AreReduced}
use Rattle.affc_eliminate.specs.declared.project.work.Work.{Work}
use Rattle.affc_eliminate.proofs.project.Tables.{live_width, live_entry}
use Rattle.affc_eliminate.proofs.project.Points.{same_first, both_ways, itself}
use Rattle.affc_eliminate.proofs.project.Contradictions.{no_point, both_none, state_alone, zero_alone, itself_alone}
use Rattle.affc_eliminate.proofs.project.Inputs.{forms_of_inputs, state_of_inputs}

-- ---- Columns that are still to be cancelled

shorter_below : (n m k i : ℕ) → k < i → i < n → m + 1 ≡ n → k < m
shorter_below n m k i h l e = omega arith

shorter_above : (n m k i : ℕ) → i ≤ k → (k ≡ i → ⊥) → k < n → m + 1 ≡ n → k - 1 < m
shorter_above n m k i h ne l e = elim (cases_eq k i) [ inl s ↦ absurd (ne s) | inr d ↦ omega arith ]

not_before : (k i : ℕ) → i ≤ k → (k ≡ i → ⊥) → i ≤ k - 1
not_before k i h ne = elim (cases_lt i k) [ inl lt ↦ omega arith | inr ge ↦ absurd (ne (omega arith)) ]

back_again : (k i : ℕ) → i ≤ k → (k ≡ i → ⊥) → (k - 1) + 1 ≡ k
back_again k i h ne = elim (cases_lt i k) [ inl lt ↦ omega arith | inr ge ↦ absurd (ne (omega arith)) ]

-- each element but the one at a place
still_in : (xs : List ℕ) (i x j : ℕ) → i < length xs → x ≡ get_or xs i x → Contains xs j → (j ≡ x) ⊎ Contains (remove xs i) j
still_in xs i x j lt e c = elim (cases_eq c.0 i) [
  | inl same ↦ inl (sym c.2 ∙ ap (λ n. get_or xs n j) same ∙ get_or_default xs i j x lt ∙ sym e)
  | inr ne ↦ elim (cases_lt c.0 i) [
    | inl below ↦ inr (c.0, shorter_below (length xs) (length (remove xs i)) c.0 i below lt (length-remove xs i lt), get_or-remove_below xs i j c.0 below lt ∙ c.2)
    | inr ge ↦ inr (
      c.0 - 1,
      shorter_above (length xs) (length (remove xs i)) c.0 i ge ne c.1 (length-remove xs i lt),
      get_or-remove_above xs i j (c.0 - 1) (not_before c.0 i ge ne) lt ∙ ap (λ n. get_or xs n j) (back_again c.0 i ge ne) ∙ c.2,
    )
  ]
]

longer : (n m k : ℕ) → k < m → m + 1 ≡ n → k < n
longer n m k h e = omega arith

one_later : (n m k : ℕ) → k < m → m + 1 ≡ n → k + 1 < n
one_later n m k h e = omega arith

all_still : (P : ℕ → Type 0) (xs : List ℕ) (i : ℕ) → i < length xs → All P xs → All P (remove xs i)
all_still P xs i lt h = λ k d kl. elim (cases_lt k i) [
  | inl below ↦ subst P (sym (get_or-remove_below xs i d k below lt)) (h k d (longer (length xs) (length (remove xs i)) k kl (length-remove xs i lt)))
  | inr ge ↦ subst P (sym (get_or-remove_above xs i d k ge lt)) (h (k + 1) d (one_later (length xs) (length (remove xs i)) k kl (length-remove xs i lt)))
]

just_here : (n : ℕ) → n < n + 1
just_here n = omega arith

one_more : (k n : ℕ) → k < n → k < n + 1
one_more k n h = omega arith

no_further : (j n : ℕ) → j < n + 1 → n ≤ j → n ≡ j
no_further j n h k = omega arith

-- one column more
pub columns_more : (first column : ℕ) (old new : List ℕ) → first ≤ column → new ≡ old ++ column ∷ [] → All (λ c. (first ≤ c) × (c < column)) old → ((j : ℕ) → first ≤ j → j < column → Contains old j)
    → All (λ c. (first ≤ c) × (c < column + 1)) new × ((j : ℕ) → first ≤ j → j < column + 1 → Contains new j)
columns_more first column old new le is inside all = (
  subst (All (λ c. (first ≤ c) × (c < column + 1))) (sym is)
      (All-push (λ c. (first ≤ c) × (c < column + 1)) old column (All-weaker (λ c. (first ≤ c) × (c < column)) (λ c. (first ≤ c) × (c < column + 1)) (λ c h. (h.0, one_more c column h.1)) old inside) (le, just_here column)),
  (λ j from lt. subst (λ ns. Contains ns j) (sym is) (elim (cases_lt j column) [
    | inl below ↦ Contains-append_left old (column ∷ []) j (all j from below)
    | inr ge ↦ subst (Contains (old ++ column ∷ [])) (no_further j column lt ge) (Contains-push old column)
  ])),
)

-- ---- The loop

-- some columns are still to be cancelled
pub record IsRun (columns : ℕ) (rows : List Affine) (keep : ℕ) (left : List ℕ) (made : List Pair) (live : List Kept) : Type 0 where
  pub state : IsState columns rows made live
  pub few : (length made < 4096) ⊎ HasContradiction live
  pub beyond : AreFrom keep made
  pub left_over : AreLeft columns keep left live
  pub same_points : (whole : List ℤ) → length whole ≡ keep → ExtendsWhole columns (forms_of live) whole ↔ ExtendsWhole columns rows whole

none_made : 0 < 4096
none_made = omega arith

pub run_start : (columns : ℕ) (rows : List Affine) (keep : ℕ) (left : List ℕ) (live : List Kept) → length rows ≤ 1024 → HaveColumns columns rows → AreInputs rows live
    → All (λ c. (keep ≤ c) × (c < columns)) left → ((j : ℕ) → keep ≤ j → j < columns → Contains left j) → IsRun columns rows keep left [] live
run_start columns rows keep left live few w h inside all = record {
  state = state_of_inputs columns rows live few w h;
  few = inl none_made;
  beyond = All-nil (λ p. keep ≤ p.column);
  left_over = record { inside = inside; others = λ j le lt. inl (all j le lt) };
  same_points = λ whole l. subst (λ fs. ExtendsWhole columns fs whole ↔ ExtendsWhole columns rows whole) (sym (forms_of_inputs rows live h)) (itself (ExtendsWhole columns rows whole));
}

pub run_more : (columns : ℕ) (rows : List Affine) (keep : ℕ) (left next : List ℕ) (place column : ℕ) (made : List Pair) (live : List Kept) (new : Work) → place < length left → column ≡ get_or left place column → next ≡ remove left place
    → IsRun columns rows keep left made live → IsCancelled columns rows column made live new → IsRun columns rows keep next new.made.items new.live.items
run_more columns rows keep left next place column made live new lt e is h c =
    let here : (keep ≤ column) × (column < columns) = subst (λ n. (keep ≤ n) × (n < columns)) (sym e) (h.left_over.inside place column lt) in
    record {
      state = c.state;
      few = c.few;
      beyond = c.beyond keep here.0 h.beyond;
      left_over = record {
        inside = subst (All (λ n. (keep ≤ n) × (n < columns))) (sym is) (all_still (λ n. (keep ≤ n) × (n < columns)) left place lt h.left_over.inside);
        others = λ j le jl. elim (h.left_over.others j le jl) [
          | inl still ↦ elim (still_in left place column j lt e still) [
            | inl same ↦ inr (subst (λ n. AreZero n new.live.items) (sym same) c.zero)
            | inr other ↦ inl (subst (λ ns. Contains ns j) (sym is) other)
          ]
          | inr zeros ↦ inr (c.still j jl zeros)
        ];
      };
      same_points = λ whole l. both_ways (ExtendsWhole columns (forms_of new.live.items) whole) (ExtendsWhole columns (forms_of live) whole) (ExtendsWhole columns rows whole)
          (c.same_points whole (subst (λ n. n ≤ column) (sym l) here.0)) (h.same_points whole l);
    }

pub no_items : (xs : List ℕ) → length xs ≡ 0 → xs ≡ []
no_items [] e = refl
no_items (x ∷ xs) e = absurd (omega arith)

no_element : (j : ℕ) → Contains [] j → ⊥
no_element j c = let h = c.1 in absurd (omega arith)

pub run_end : (columns : ℕ) (rows : List Affine) (keep : ℕ) (left : List ℕ) (made : List Pair) (live : List Kept) → left ≡ [] → IsRun columns rows keep left made live → IsDone columns rows keep made live
run_end columns rows keep left made live e h = record {
  state = h.state;
  beyond = h.beyond;
  zeros = λ j le lt. elim (h.left_over.others j le lt) [ inl still ↦ absurd (no_element j (subst (λ ns. Contains ns j) e still)) | inr zeros ↦ zeros ];
  same_points = h.same_points;
}

-- a row that no point meets ends the loop, alone
pub run_over : (columns : ℕ) (rows : List Affine) (keep : ℕ) (left : List ℕ) (made : List Pair) (live last : List Kept) (k : Kept) → IsRun columns rows keep left made live → Contains live k → IsContradiction k.row → last ≡ k ∷ []
    → IsDone columns rows keep made last
run_over columns rows keep left made live last k h c i e = subst (IsDone columns rows keep made) (sym e) (record {
  state = state_alone columns rows made live k h.state c;
  beyond = h.beyond;
  zeros = λ j le lt. zero_alone columns rows made live k j h.state c i lt;
  same_points = λ whole l. both_none (ExtendsWhole columns (forms_of (k ∷ [])) whole) (ExtendsWhole columns rows whole)
      (λ e. no_point columns (k ∷ []) (k, itself_alone k, i) e.point)
      (λ e. no_point columns live (k, c, i) ((h.same_points whole l).1 e).point);
})

pub run_few : (columns : ℕ) (rows : List Affine) (keep : ℕ) (left : List ℕ) (made : List Pair) (live : List Kept) → IsRun columns rows keep left made live → All (λ k. IsContradiction k.row → ⊥) live → length made < 4096
run_few columns rows keep left made live h none = elim h.few [ inl few ↦ few | inr some ↦ absurd (All-contains (λ q. IsContradiction q.row → ⊥) live some.0 none some.1 some.2) ]

-- the columns that are left are columns of the rows
lt_le : (a b : ℕ) → a < b → a ≤ b
lt_le a b h = omega arith

pub run_widths : (columns : ℕ) (rows : List Affine) (keep : ℕ) (left : List ℕ) (made : List Pair) (live : List Kept) → IsRun columns rows keep left made live → All (λ c. All (λ k. c < length k.row.coefs) live) left
run_widths columns rows keep left made live h =
    All-weaker (λ c. (keep ≤ c) × (c < columns)) (λ c. All (λ k. c < length k.row.coefs) live)
    (λ c b i d lt. subst (λ n. c < n) (sym (live_width columns rows made live (get_or live i d) h.state (Contains-get_or live i d lt))) b.1) left h.left_over.inside

-- ---- The end

pub done_widths : (columns : ℕ) (rows : List Affine) (keep : ℕ) (made : List Pair) (live : List Kept) → keep ≤ columns → IsDone columns rows keep made live → All (λ k. keep ≤ length k.row.coefs) live
done_widths columns rows keep made live le h = λ i d lt. subst (λ n. keep ≤ n) (sym (live_width columns rows made live (get_or live i d) h.state (Contains-get_or live i d lt))) le

weaker : (j n k : ℕ) → j < n → n ≤ k → j ≤ k
weaker j n k h le = omega arith

same_le : (n : ℕ) → n ≤ n
same_le n = omega arith

row_of_table : (columns : ℕ) (rows : List Affine) (keep : ℕ) (made : List Pair) (live : List Kept) (k : Kept) (f : Affine) (h : IsDone columns rows keep made live) → keep ≤ columns → Contains live k → IsLeast keep k.row f
    → IsRowOfTable keep columns rows h.state.table f
row_of_table columns rows keep made live k f h le c least =
    let inside = All-contains (IsIn (length rows) h.state.table) live k h.state.inside c in
    let at : (j : ℕ) → j ≤ columns → coefficient rows h.state.table k.number j ≡ entry_of k.row j = λ j jl. ap (λ ws. combined rows ws j) inside.same ∙ live_entry columns rows made live k j h.state c jl in
    record {
      number = k.number;
      there = inside.there;
      zeros = λ j ge lt. at j (lt_le j columns lt) ∙ All-contains (λ q. entry_of q.row j ≡ pos 0) live k (h.zeros j ge lt) c;
      terms = record {
        divisor = least.divisor;
        positive = least.positive;
        width = least.width;
        coefs = λ j lt. at j (weaker j keep columns lt le) ∙ least.coefs j lt;
        last = at columns (same_le columns) ∙ entry_last k.row columns (live_width columns rows made live k h.state c) ∙ least.last;
        least = least.least;
      };
    }

pub projected : (columns : ℕ) (rows : List Affine) (keep : ℕ) (made : List Pair) (live : List Kept) (reduced : List Affine) → keep ≤ columns → IsDone columns rows keep made live → AreReduced keep live reduced
    → AreProjected columns rows keep made reduced
projected columns rows keep made live reduced le h r = record {
  table = h.state.table;
  is_table = h.state.is_table;
  rows_of_table = All-weaker (λ f. (k : Kept) × Contains live k × IsLeast keep k.row f) (IsRowOfTable keep columns rows h.state.table)
      (λ f c. row_of_table columns rows keep made live c.0 f h le c.1 c.2) reduced r.from;
  same_points = λ whole l. both_ways (All (Meets whole) reduced) (ExtendsWhole columns (forms_of live) whole) (ExtendsWhole columns rows whole)
      (same_first columns keep live reduced le (λ i d lt. live_width columns rows made live (get_or live i d) h.state (Contains-get_or live i d lt)) h.zeros r whole l) (h.same_points whole l);
}
