-- One column less.
use Rattle.std.proofs.Common.{◌≡◌, ◌⊎◌, ℕ, ◌+◌, ◌^◌, ◌<◌, ◌≤◌, Bool, true, false, ◌||◌, List, [], ◌∷◌, ◌++◌, length, take, map, get_or, ℤ, pos, ◌+ℤ◌, ◌*ℤ◌, sym, ap, subst, ◌∙◌, inl, inr, arith, eqb}
use Rattle.std.specs.List.{All, Contains, list_any}
use Rattle.std.proofs.lemmas.Int.{ints}
use Rattle.std.proofs.lemmas.Bool.{cases_eq, ne_eqb, false≢true}
use Rattle.std.proofs.lemmas.List.{get_or-map, length-map, length-take-le}
use Rattle.std.proofs.lemmas.List.Elements.{All-head, All-tail, All-append, All-weaker, All-contains, All-take, All-map, Contains-get_or}
use Rattle.std.proofs.lemmas.Map.Keys.{IsDistinct-from_apart}
use Rattle.std.proofs.lemmas.Map.Steps.{length-le_from_distinct_below}
use lib.IntN.{*ℤ-zero}
use Rattle.affc_rows.specs.Forms.{Affine}
use Rattle.affc_farkas.specs.Multiples.{entry_of}
use Rattle.affc_farkas.specs.Eliminations.{IsElimination}
use Rattle.affc_farkas.specs.declared.pair.Pair.{Pair}
use Rattle.affc_farkas.proofs.Tables.{table_length}
use Rattle.affc_eliminate.specs.Mixtures.{forms_of}
use Rattle.affc_eliminate.specs.Steps.{AreReady, AreEliminated, AreNumbered, AddEach}
use Rattle.affc_eliminate.specs.declared.kept.Kept.{Kept}
use Rattle.affc_eliminate.proofs.Added.{added_all}
use Rattle.affc_eliminate.proofs.Exactness.{factor_of_zero}
use Rattle.affc_eliminate.specs.project.Projections.{AreFrom}
use Rattle.affc_eliminate.specs.project.States.{IsIn, AreZero, IsState, HasContradiction, IsCancelled}
use Rattle.affc_eliminate.specs.declared.project.work.Work.{Work}
use Rattle.affc_eliminate.proofs.project.Tables.{weights_of, live_width, table_of_step, step_columns, live_in, added_in, first_pairs}
use Rattle.affc_eliminate.proofs.project.Wides.{still_from}
use Rattle.affc_eliminate.proofs.project.Points.{points_of_step}

-- ---- Rows with different numbers are few

one_of : (m : ℕ) (xs : List ℕ) (q : ℕ) → All (λ x. x < m) xs → list_any (eqb q) xs ≡ true → q < m
one_of m [] q h e = absurd (false≢true e)
one_of m (x ∷ xs) q h e = elim (cases_eq q x) [
  | inl s ↦ subst (λ z. z < m) (sym s) (All-head (λ z. z < m) x xs h)
  | inr d ↦ one_of m xs q (All-tail (λ z. z < m) x xs h) (sym (ap (λ b. b || list_any (eqb q) xs) (ne_eqb q x d)) ∙ e)
]

some : Kept
some = record { row = record { coefs = []; constant = pos 0 }; from = []; number = 0 }

not_same : (i j : ℕ) → i < j → i ≡ j → ⊥
not_same i j h e = absurd (omega arith)

earlier_in : (i j n : ℕ) → i < j → j < n → i < n
earlier_in i j n h k = omega arith

numbers_apart : (live : List Kept) → AreNumbered live → (i j d : ℕ) → i < j → j < length (map (λ (k : Kept). k.number) live)
    → eqb (get_or (map (λ (k : Kept). k.number) live) i d) (get_or (map (λ (k : Kept). k.number) live) j d) ≡ false
numbers_apart live h i j d lt jl' =
    let jl : j < length live = subst (λ n. j < n) (length-map live (λ (k : Kept). k.number)) jl' in
    let il = earlier_in i j (length live) lt jl in
    let at : (n : ℕ) → n < length live → get_or (map (λ (k : Kept). k.number) live) n d ≡ (get_or live n some).number = λ n nl. get_or-map (λ (k : Kept). k.number) live n some d nl in
    ap (λ z. eqb z (get_or (map (λ (k : Kept). k.number) live) j d)) (at i il) ∙ ap (λ z. eqb (get_or live i some).number z) (at j jl)
    ∙ ne_eqb (get_or live i some).number (get_or live j some).number (h i j some il jl (not_same i j lt))

pub few_rows : (m : ℕ) (live : List Kept) → AreNumbered live → All (λ k. k.number < m) live → length live ≤ m
few_rows m live h below =
    let ns = map (λ (k : Kept). k.number) live in
    subst (λ n. n ≤ m) (length-map live (λ (k : Kept). k.number))
    (length-le_from_distinct_below ns m (IsDistinct-from_apart eqb ns (numbers_apart live h)) (λ q e. one_of m ns q (All-map (λ x. x < m) (λ (k : Kept). k.number) live below) e))

-- ---- A step may be asked for

few_enough : (n r p : ℕ) → n ≤ r + p → r ≤ 1024 → p < 4096 → n ≤ 8192
few_enough n r p h k l = omega arith

small_enough : (r p : ℕ) → r ≤ 1024 → p < 4096 → r + p ≤ 2 ^ 31
small_enough r p k l = omega arith

pub is_ready : (columns : ℕ) (rows : List Affine) (column : ℕ) (made : List Pair) (live : List Kept) → column < columns → length made < 4096 → IsState columns rows made live → AreReady live column (length rows + length made)
is_ready columns rows column made live lt few h =
    let N = length rows in
    let below : All (λ k. k.number < N + length made) live = All-weaker (IsIn N h.table) (λ k. k.number < N + length made) (λ k i. subst (λ n. k.number < n) (table_length columns rows h.is_table) i.there) live h.inside in
    record {
      columns = columns;
      widths = All-map (λ f. length f.coefs ≡ columns) (λ (k : Kept). k.row) live (λ i d l. live_width columns rows made live (get_or live i d) h (Contains-get_or live i d l));
      column_in = lt;
      few = few_enough (length live) N (length made) (few_rows (N + length made) live h.numbered below) h.sums.few few;
      numbered = h.numbered;
      below = below;
      free_small = small_enough N (length made) h.sums.few few;
      base = rows;
      sums = h.sums;
    }

-- ---- What is left

no_sum : (d s t : ℕ) (r f g : ℤ) → 1 ≤ d → pos d *ℤ r ≡ (pos s *ℤ f) +ℤ (pos t *ℤ g) → f ≡ pos 0 → g ≡ pos 0 → r ≡ pos 0
no_sum d s t r f g one e ef eg =
    factor_of_zero d r one (e ∙ ap (λ z. (pos s *ℤ z) +ℤ (pos t *ℤ g)) ef ∙ ap (λ z. (pos s *ℤ pos 0) +ℤ (pos t *ℤ z)) eg ∙ two_nothings (pos s *ℤ pos 0) (pos t *ℤ pos 0) (*ℤ-zero (pos s)) (*ℤ-zero (pos t)))
  where
    two_nothings : (a b : ℤ) → a ≡ pos 0 → b ≡ pos 0 → a +ℤ b ≡ pos 0
    two_nothings a b ea eb = omega (arith, ints)

lt_le : (a b : ℕ) → a < b → a ≤ b
lt_le a b h = omega arith

-- what holds of the given and of the added rows holds of those that are left
among : (P : Kept → Type 0) (live added new : List Kept) → All P live → All P added → All (λ k. Contains live k ⊎ Contains added k) new → All P new
among P live added new h a from = All-weaker (λ k. Contains live k ⊎ Contains added k) P (λ k c. elim c [ inl l ↦ All-contains P live k h l | inr d ↦ All-contains P added k a d ]) new from

-- a column that is 0 in the rows stays so
still_zero : (columns : ℕ) (rows : List Affine) (column free : ℕ) (made : List Pair) (live : List Kept) (j : ℕ) → IsState columns rows made live → j < columns → AreZero j live → {ps : List Pair} {added : List Kept}
    → AddEach live column free ps added → AreZero j added
still_zero columns rows column free made live j h lt zeros t = added_all live column free (λ k. entry_of k.row j ≡ pos 0)
    (λ first second new cf cs m. no_sum m.rows.divisor m.rows.s m.rows.t (entry_of new.row j) (entry_of first.row j) (entry_of second.row j) m.rows.positive
    (m.rows.entries j (subst (λ n. j ≤ n) (sym (live_width columns rows made live first h cf)) (lt_le j columns lt)))
    (All-contains (λ k. entry_of k.row j ≡ pos 0) live first zeros cf) (All-contains (λ k. entry_of k.row j ≡ pos 0) live second zeros cs)) t

pub state_of_step : (Answers : Affine → Affine → Bool → Type 0) (columns : ℕ) (rows : List Affine) (column : ℕ) (made more : List Pair) (live new : List Kept) → column < columns → IsState columns rows made live
    → AreEliminated Answers live column (length rows + length made) new more → IsState columns rows (made ++ more) new
state_of_step Answers columns rows column made ps live new lt h e =
    let N = length rows in
    let free = N + length made in
    let after = map (weights_of N) e.added in
    let T = h.table ++ after in
    record {
      table = T;
      is_table = table_of_step columns rows column free made live h lt e.add_each;
      sums = e.sums columns rows h.sums;
      inside = among (IsIn N T) live e.added new (live_in columns rows made live after h) (added_in columns rows column free made live h (table_length columns rows h.is_table) e.add_each) e.given_or_added;
      numbered = e.numbered;
      cancelled = All-append (λ q. (q.column < columns) × AreZero q.column new) made ps
          (All-weaker (λ q. (q.column < columns) × AreZero q.column live) (λ q. (q.column < columns) × AreZero q.column new)
          (λ q z. (z.0, among (λ k. entry_of k.row q.column ≡ pos 0) live e.added new z.1 (still_zero columns rows column free made live q.column h z.0 z.1 e.add_each) e.given_or_added)) made h.cancelled)
          (All-weaker (λ q. q.column ≡ column) (λ q. (q.column < columns) × AreZero q.column new)
          (λ q s. (subst (λ z. z < columns) (sym s) lt, subst (λ z. AreZero z new) (sym s) e.zero)) ps (step_columns live column free e.add_each));
    }

pub cancelled : (Answers : Affine → Affine → Bool → Type 0) (columns : ℕ) (rows : List Affine) (column free : ℕ) (made more : List Pair) (live : List Kept) (new : Work) → column < columns → free ≡ length rows + length made
    → IsState columns rows made live → AreEliminated Answers live column free new.live.items more → new.made.items ≡ made ++ more → (length new.made.items < 4096) ⊎ HasContradiction new.live.items → IsCancelled columns rows column made live new
cancelled Answers columns rows column free made more live new lt same h e' is few =
    let start = length rows + length made in
    let e = subst (λ z. AreEliminated Answers live column z new.live.items more) same e' in
    record {
      state = subst (λ ms. IsState columns rows ms new.live.items) (sym is) (state_of_step Answers columns rows column made more live new.live.items lt h e);
      few = few;
      zero = e.zero;
      still = λ j jl zeros. among (λ k. entry_of k.row j ≡ pos 0) live e.added new.live.items zeros (still_zero columns rows column start made live j h jl zeros e.add_each) e.given_or_added;
      beyond = λ keep le from. subst (AreFrom keep) (sym is) (still_from keep column live start made le from e.add_each);
      same_points = points_of_step columns column (forms_of live) (forms_of new.live.items)
          (All-map (λ f. length f.coefs ≡ columns) (λ (k : Kept). k.row) live (λ i d l. live_width columns rows made live (get_or live i d) h (Contains-get_or live i d l)))
          lt e.same_points;
    }

-- ---- Too many pairs

pub too_many : (columns : ℕ) (rows : List Affine) (column free : ℕ) (made more all : List Pair) (live : List Kept) → column < columns → IsState columns rows made live → {added : List Kept} → AddEach live column free more added
    → all ≡ made ++ more → 4096 ≤ length all → (keep : ℕ) → keep ≤ column → AreFrom keep made → IsElimination columns rows (take 4096 all) × (length (take 4096 all) ≡ 4096) × AreFrom keep (take 4096 all)
too_many columns rows column free made more all live lt h t is many keep le from =
    let front = first_pairs columns rows 4096 (table_of_step columns rows column free made live h lt t) in (
      subst (λ ms. IsElimination columns rows (take 4096 ms)) (sym is) (record { table = front.0; is_table = front.1 }),
      length-take-le 4096 all many,
      All-take (λ p. keep ≤ p.column) 4096 all (subst (AreFrom keep) (sym is) (still_from keep column live free made le from t)),
    )
