-- The pairs of a step after those of an elimination, with the table of weights.
use Rattle.std.proofs.Common.{◌≡◌, ◌≢◌, ℕ, ◌+◌, ◌<◌, ◌≤◌, List, [], ◌∷◌, ◌++◌, length, take, map, get_or, ℤ, pos, ◌<ℤ◌, refl, sym, ap, subst, ◌∙◌, inl, inr, arith, append_assoc}
use Rattle.std.specs.List.{All, Contains}
use Rattle.std.proofs.lemmas.Int.{ints}
use Rattle.std.proofs.lemmas.Bool.{cases_lt}
use Rattle.std.proofs.lemmas.List.{append-nil, get_or_append_left, get_or_push, map_push, length-append, length_push, length-map, take-append-le, take_all}
use Rattle.std.proofs.lemmas.List.Elements.{All-nil, All-push, All-append, All-weaker, All-contains}
use Rattle.affc_rows.specs.Forms.{Affine}
use Rattle.affc_farkas.specs.Multiples.{multiple_sum, entry_of}
use Rattle.affc_farkas.specs.Eliminations.{combined, coefficient, owns, IsAdded, IsTable}
use Rattle.affc_farkas.specs.Eliminations as farkas
use Rattle.affc_farkas.specs.declared.pair.Pair.{Pair}
use Rattle.affc_eliminate.specs.Mixtures.{weight_of}
use Rattle.affc_eliminate.specs.Steps.{IsNext, AddEach, none, more}
use Rattle.affc_eliminate.specs.declared.kept.Kept.{Kept}
use Rattle.affc_eliminate.proofs.Sums.{sum_width}
use Rattle.affc_eliminate.specs.project.States.{dense, IsIn, AreZero, IsState}
use Rattle.affc_eliminate.proofs.project.Denses.{combined_dense, dense_added, mixture_within}

-- the weights of a row
abbrev pub weights_of : ℕ → Kept → List ℕ
weights_of n k = dense n 0 k.from

-- all pairs of a step are of its column
pub step_columns : (live : List Kept) (column free : ℕ) {ps : List Pair} {added : List Kept} → AddEach live column free ps added → All (λ q. q.column ≡ column) ps
step_columns live column free none = All-nil (λ q. q.column ≡ column)
step_columns live column free (more ps added p first second new t n m e) = All-push (λ q. q.column ≡ column) ps p (step_columns live column free t) (ap (λ (q : Pair). q.column) n.names)

lt_le : (a b : ℕ) → a < b → a ≤ b
lt_le a b h = omega arith

-- what is known of a row that is left
pub live_within : (columns : ℕ) (rows : List Affine) (made : List Pair) (live : List Kept) (k : Kept) (h : IsState columns rows made live) → Contains live k → (i : ℕ) → length rows ≤ i → weight_of k.from i ≡ 0
live_within columns rows made live k h c = (All-contains (IsIn (length rows) h.table) live k h.inside c).within

pub live_entry : (columns : ℕ) (rows : List Affine) (made : List Pair) (live : List Kept) (k : Kept) (j : ℕ) (h : IsState columns rows made live) → Contains live k → j ≤ columns
    → combined rows (weights_of (length rows) k) j ≡ entry_of k.row j
live_entry columns rows made live k j h c le =
    combined_dense columns rows k.from k.row j h.sums.widths h.sums.few (All-contains (λ q. All (λ p. p.0 < 1024) q.from) live k h.sums.named c) (live_within columns rows made live k h c)
    (All-contains (λ q. q.row ≡ multiple_sum columns rows q.from) live k h.sums.sums c) le

pub live_width : (columns : ℕ) (rows : List Affine) (made : List Pair) (live : List Kept) (k : Kept) → IsState columns rows made live → Contains live k → length k.row.coefs ≡ columns
live_width columns rows made live k h c =
    ap (λ (f : Affine). length f.coefs) (All-contains (λ q. q.row ≡ multiple_sum columns rows q.from) live k h.sums.sums c) ∙ sum_width columns rows k.from h.sums.widths

-- its weights and coefficients, in a table that begins with the state's
pub live_weights : (columns : ℕ) (rows : List Affine) (made : List Pair) (live : List Kept) (after : List (List ℕ)) (k : Kept) (h : IsState columns rows made live) → Contains live k
    → get_or (h.table ++ after) k.number [] ≡ weights_of (length rows) k
live_weights columns rows made live after k h c =
    let i = All-contains (IsIn (length rows) h.table) live k h.inside c in
    get_or_append_left h.table after [] k.number i.there ∙ i.same

pub live_coefficient : (columns : ℕ) (rows : List Affine) (made : List Pair) (live : List Kept) (after : List (List ℕ)) (k : Kept) (j : ℕ) (h : IsState columns rows made live) → Contains live k → j ≤ columns
    → coefficient rows (h.table ++ after) k.number j ≡ entry_of k.row j
live_coefficient columns rows made live after k j h c le =
    ap (λ ws. combined rows ws j) (live_weights columns rows made live after k h c) ∙ live_entry columns rows made live k j h c le

there_more : (k t a n : ℕ) → k < t → n ≡ t + a → k < n
there_more k t a n h e = omega arith

live_there : (columns : ℕ) (rows : List Affine) (made : List Pair) (live : List Kept) (after : List (List ℕ)) (k : Kept) (h : IsState columns rows made live) → Contains live k → k.number < length (h.table ++ after)
live_there columns rows made live after k h c =
    there_more k.number (length h.table) (length after) (length (h.table ++ after)) (All-contains (IsIn (length rows) h.table) live k h.inside c).there (length-append h.table after)

not_zero_up : (z : ℤ) → z ≡ pos 0 → pos 0 <ℤ z → ⊥
not_zero_up z e h = absurd (omega (arith, ints))

-- a column that was cancelled isn't the one in which a row is positive
other_column : (columns : ℕ) (column : ℕ) (live : List Kept) (first : Kept) (q : Pair) → AreZero q.column live → Contains live first → pos 0 <ℤ entry_of first.row column → q.column ≡ column → ⊥
other_column columns column live first q clear c up e =
    not_zero_up (entry_of first.row column) (ap (entry_of first.row) (sym e) ∙ All-contains (λ k. entry_of k.row q.column ≡ pos 0) live first clear c) up

-- one pair more is next
pub step_next : (columns : ℕ) (rows : List Affine) (column : ℕ) (made ps : List Pair) (live : List Kept) (after : List (List ℕ)) (p : Pair) (first second : Kept) (h : IsState columns rows made live) → column < columns
    → All (λ q. q.column ≡ column) ps → IsNext live column ps p first second → farkas.IsNext columns rows (made ++ ps) (h.table ++ after) p
step_next columns rows column made ps live after p first second h lt same n =
    let le = lt_le column columns lt in
    let T = h.table ++ after in
    let pf : p.first ≡ first.number = ap (λ (q : Pair). q.first) n.names in
    let pg : p.second ≡ second.number = ap (λ (q : Pair). q.second) n.names in
    let pc : p.column ≡ column = ap (λ (q : Pair). q.column) n.names in
    record {
      first_there = subst (λ z. z < length T) (sym pf) (live_there columns rows made live after first h n.first_in);
      second_there = subst (λ z. z < length T) (sym pg) (live_there columns rows made live after second h n.second_in);
      column_there = subst (λ z. z < columns) (sym pc) lt;
      positive = subst (λ z. pos 0 <ℤ coefficient rows T z p.column) (sym pf) (subst (λ z. pos 0 <ℤ coefficient rows T first.number z) (sym pc)
          (subst (λ z. pos 0 <ℤ z) (sym (live_coefficient columns rows made live after first column h n.first_in le)) n.positive));
      negative = subst (λ z. coefficient rows T z p.column <ℤ pos 0) (sym pg) (subst (λ z. coefficient rows T second.number z <ℤ pos 0) (sym pc)
          (subst (λ z. z <ℤ pos 0) (sym (live_coefficient columns rows made live after second column h n.second_in le)) n.negative));
      cancelled = All-append (λ q. q.column ≢ p.column → (coefficient rows T p.first q.column ≡ pos 0) × (coefficient rows T p.second q.column ≡ pos 0)) made ps
          (All-weaker (λ q. (q.column < columns) × AreZero q.column live) (λ q. q.column ≢ p.column → (coefficient rows T p.first q.column ≡ pos 0) × (coefficient rows T p.second q.column ≡ pos 0))
          (λ q z ne. (
            ap (λ k. coefficient rows T k q.column) pf ∙ live_coefficient columns rows made live after first q.column h n.first_in (lt_le q.column columns z.0) ∙ All-contains (λ k. entry_of k.row q.column ≡ pos 0) live first z.1 n.first_in,
            ap (λ k. coefficient rows T k q.column) pg ∙ live_coefficient columns rows made live after second q.column h n.second_in (lt_le q.column columns z.0) ∙ All-contains (λ k. entry_of k.row q.column ≡ pos 0) live second z.1 n.second_in,
          )) made h.cancelled)
          (All-weaker (λ q. q.column ≡ column) (λ q. q.column ≢ p.column → (coefficient rows T p.first q.column ≡ pos 0) × (coefficient rows T p.second q.column ≡ pos 0)) (λ q e ne. absurd (ne (e ∙ sym pc))) ps same);
      other = All-append (λ q. q ≢ p) made ps
          (All-weaker (λ q. (q.column < columns) × AreZero q.column live) (λ q. q ≢ p) (λ q z e. other_column columns column live first q z.1 n.first_in n.positive (ap (λ (r : Pair). r.column) e ∙ pc)) made h.cancelled) n.other;
    }

-- the rows that a pair names, by their weights
pub first_weights : (columns : ℕ) (rows : List Affine) (column : ℕ) (made ps : List Pair) (live : List Kept) (after : List (List ℕ)) (p : Pair) (first second : Kept) (h : IsState columns rows made live)
    → IsNext live column ps p first second → get_or (h.table ++ after) p.first [] ≡ weights_of (length rows) first
first_weights columns rows column made ps live after p first second h n = ap (λ k. get_or (h.table ++ after) k []) (ap (λ (q : Pair). q.first) n.names) ∙ live_weights columns rows made live after first h n.first_in

pub second_weights : (columns : ℕ) (rows : List Affine) (column : ℕ) (made ps : List Pair) (live : List Kept) (after : List (List ℕ)) (p : Pair) (first second : Kept) (h : IsState columns rows made live)
    → IsNext live column ps p first second → get_or (h.table ++ after) p.second [] ≡ weights_of (length rows) second
second_weights columns rows column made ps live after p first second h n = ap (λ k. get_or (h.table ++ after) k []) (ap (λ (q : Pair). q.second) n.names) ∙ live_weights columns rows made live after second h n.second_in

-- the pairs of a step after those that were made are an elimination, whose table has the weights of the added rows
pub table_of_step : (columns : ℕ) (rows : List Affine) (column free : ℕ) (made : List Pair) (live : List Kept) (h : IsState columns rows made live) → column < columns → {ps : List Pair} {added : List Kept}
    → AddEach live column free ps added → IsTable columns rows (made ++ ps) (h.table ++ map (weights_of (length rows)) added)
table_of_step columns rows column free made live h lt none =
    subst (λ ms. IsTable columns rows ms (h.table ++ [])) (sym (append-nil made)) (subst (IsTable columns rows made) (sym (append-nil h.table)) h.is_table)
table_of_step columns rows column free made live h lt (more ps added p first second new t n m e) =
    let N = length rows in
    let after = map (weights_of N) added in
    let T = h.table ++ after in
    let rest = table_of_step columns rows column free made live h lt t in
    let next = step_next columns rows column made ps live after p first second h lt (step_columns live column free t) n in
    let pc : p.column ≡ column = ap (λ (q : Pair). q.column) n.names in
    let wf = first_weights columns rows column made ps live after p first second h n in
    let ws = second_weights columns rows column made ps live after p first second h n in
    let le = lt_le column columns lt in
    let plain = dense_added columns rows column first second new (live_entry columns rows made live first column h n.first_in le) (live_entry columns rows made live second column h n.second_in le)
    (live_within columns rows made live first h n.first_in) (live_within columns rows made live second h n.second_in) m in
    let added_is : IsAdded rows p.column (get_or T p.first []) (get_or T p.second []) (weights_of N new) =
    subst (λ z. IsAdded rows z (get_or T p.first []) (get_or T p.second []) (weights_of N new)) (sym pc)
    (subst (λ z. IsAdded rows column z (get_or T p.second []) (weights_of N new)) (sym wf) (subst (λ z. IsAdded rows column (weights_of N first) z (weights_of N new)) (sym ws) plain)) in
    subst (λ ms. IsTable columns rows ms (h.table ++ map (weights_of N) (added ++ new ∷ []))) (append_assoc made ps (p ∷ []))
    (subst (IsTable columns rows ((made ++ ps) ++ p ∷ [])) (append_assoc h.table after (weights_of N new ∷ []) ∙ ap (λ xs. h.table ++ xs) (sym (map_push (weights_of N) added new)))
    (farkas.more (made ++ ps) T p (weights_of N new) rest next added_is))

-- ---- The added rows stand in the table

in_more : (count : ℕ) (table after : List (List ℕ)) (k : Kept) → IsIn count table k → IsIn count (table ++ after) k
in_more count table after k i = record {
  there = there_more k.number (length table) (length after) (length (table ++ after)) i.there (length-append table after);
  same = get_or_append_left table after [] k.number i.there ∙ i.same;
  within = i.within;
}

pub live_in : (columns : ℕ) (rows : List Affine) (made : List Pair) (live : List Kept) (after : List (List ℕ)) (h : IsState columns rows made live) → All (IsIn (length rows) (h.table ++ after)) live
live_in columns rows made live after h = All-weaker (IsIn (length rows) h.table) (IsIn (length rows) (h.table ++ after)) (λ k i. in_more (length rows) h.table after k i) live h.inside

last_there : (k n m : ℕ) → k ≡ n → m ≡ n + 1 → k < m
last_there k n m e f = omega arith

added_length : (live : List Kept) (column free : ℕ) {ps : List Pair} {added : List Kept} → AddEach live column free ps added → length added ≡ length ps
added_length live column free none = refl
added_length live column free (more ps added p first second new t n m e) = length_push added new ∙ ap (λ z. z + 1) (added_length live column free t) ∙ sym (length_push ps p)

pub added_in : (columns : ℕ) (rows : List Affine) (column free : ℕ) (made : List Pair) (live : List Kept) (h : IsState columns rows made live) → length h.table ≡ free → {ps : List Pair} {added : List Kept}
    → AddEach live column free ps added → All (IsIn (length rows) (h.table ++ map (weights_of (length rows)) added)) added
added_in columns rows column free made live h l none = All-nil (IsIn (length rows) (h.table ++ []))
added_in columns rows column free made live h l (more ps added p first second new t n m e) =
    let N = length rows in
    let T = h.table ++ map (weights_of N) added in
    let whole : T ++ weights_of N new ∷ [] ≡ h.table ++ map (weights_of N) (added ++ new ∷ []) =
    append_assoc h.table (map (weights_of N) added) (weights_of N new ∷ []) ∙ ap (λ xs. h.table ++ xs) (sym (map_push (weights_of N) added new)) in
    let lt : length T ≡ new.number = length-append h.table (map (weights_of N) added) ∙ ap (λ z. z + length (map (weights_of N) added)) l
    ∙ ap (λ z. free + z) (length-map added (weights_of N) ∙ added_length live column free t) ∙ sym e in
    subst (λ table. All (IsIn N table) (added ++ new ∷ [])) whole
    (All-push (IsIn N (T ++ weights_of N new ∷ [])) added new
    (All-weaker (IsIn N T) (IsIn N (T ++ weights_of N new ∷ [])) (λ k i. in_more N T (weights_of N new ∷ []) k i) added (added_in columns rows column free made live h l t))
    (record {
      there = last_there new.number (length T) (length (T ++ weights_of N new ∷ [])) (sym lt) (length_push T (weights_of N new));
      same = get_or_push T (weights_of N new) [] new.number lt;
      within = mixture_within column N first second new m (live_within columns rows made live first h n.first_in) (live_within columns rows made live second h n.second_in);
    }))

-- ---- The first pairs

one_more : (m n : ℕ) → m < n → m + 1 ≤ n
one_more m n h = omega arith

-- the first pairs of an elimination are one
pub first_pairs : (columns : ℕ) (rows : List Affine) (n : ℕ) {made : List Pair} {table : List (List ℕ)} → IsTable columns rows made table → (front : List (List ℕ)) × IsTable columns rows (take n made) front
first_pairs columns rows n farkas.none = (owns (length rows) (length rows), subst (λ ms. IsTable columns rows ms (owns (length rows) (length rows))) (sym (take_all n [] (omega arith))) farkas.none)
first_pairs columns rows n (farkas.more made table p weights t next added) = elim (cases_lt (length made) n) [
  | inl lt ↦ (table ++ weights ∷ [], subst (λ ms. IsTable columns rows ms (table ++ weights ∷ [])) (sym (take_all n (made ++ p ∷ []) (subst (λ z. z ≤ n) (sym (length_push made p)) (one_more (length made) n lt)))) (farkas.more made table p weights t next added))
  | inr le ↦
      let rest = first_pairs columns rows n t in
      (rest.0, subst (λ ms. IsTable columns rows ms rest.0) (sym (take-append-le n made (p ∷ []) le)) rest.1)
]
