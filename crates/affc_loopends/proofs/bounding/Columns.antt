-- A column is cancelled by pairs of all rows that are positive in it with all that are negative.
use Rattle.std.proofs.Common.{◌≡◌, ◌≢◌, ℕ, suc, ◌+◌, ◌<◌, ◌≤◌, List, [], ◌∷◌, ◌++◌, length, get_or, pos, ◌<ℤ◌, refl, sym, ap, subst, ◌∙◌, inl, inr, arith}
use Rattle.std.specs.Prelude.{◌⊎◌}
use Rattle.std.specs.List.{All, Contains}
use Rattle.std.proofs.lemmas.Bool.{cases_eq}
use Rattle.std.proofs.lemmas.List.{get_or_default, get_or_append_left, length_push}
use Rattle.std.proofs.lemmas.List.Elements.{All-push, All-weaker, All-contains, All-contains_itself, Contains-append_left, Contains-push}
use Rattle.affc_rows.specs.Forms.{Affine}
use Rattle.affc_farkas.specs.Eliminations.{combined, coefficient, IsAdded, IsNext, IsTable, more}
use Rattle.affc_farkas.specs.declared.pair.Pair.{Pair}
use Rattle.affc_loopends.proofs.bounding.Lists.{all_or_one, walk}
use Rattle.affc_loopends.proofs.bounding.Mixes.{IsMixed, HasMixture, mixture}
use Rattle.affc_loopends.proofs.bounding.Numbers.{le_itself, le_from_lt, above_or_not, below_or_not}

-- the weights stand in the table at this number
abbrev pub StandAt : List (List ℕ) → ℕ → List ℕ → Type 0
StandAt table n ws = (n < length table) × (get_or table n [] ≡ ws)

-- the weights of the pair's two rows, and those of the row that it added
pub record IsMade (columns : ℕ) (rows : List Affine) (column : ℕ) (table added : List (List ℕ)) (q : Pair) : Type 0 where
  pub first : List ℕ
  pub second : List ℕ
  pub new : List ℕ
  pub first_at : StandAt table q.first first
  pub second_at : StandAt table q.second second
  pub new_in : Contains added new
  pub mixed : IsMixed columns rows column first second new

-- the weights are those of a row that cancels the column between two that are left
pub record IsBetween (columns : ℕ) (rows : List Affine) (column : ℕ) (live : List (List ℕ)) (w : List ℕ) : Type 0 where
  pub first : List ℕ
  pub second : List ℕ
  pub first_in : Contains live first
  pub second_in : Contains live second
  pub mixed : IsMixed columns rows column first second w

-- the pairs that were made, and the weights of the rows that were added for the column; every pair of the column has its row among those
pub record Work (columns : ℕ) (rows : List Affine) (column : ℕ) (live : List (List ℕ)) : Type 0 where
  pub made : List Pair
  pub table : List (List ℕ)
  pub added : List (List ℕ)
  pub is_table : IsTable columns rows made table
  pub later : All (λ q. (column ≤ q.column) × (q.column < columns)) made
  pub long : All (λ w. length w ≡ length rows) table
  pub live_in : All (Contains table) live
  pub added_in : All (Contains table) added
  pub between : All (IsBetween columns rows column live) added
  pub covered : All (λ q. q.column ≡ column → IsMade columns rows column table added q) made
  pub few : length live + length added ≤ length rows + length made

-- ---- Pairs that were made

abbrev pair : ℕ → ℕ → ℕ → Pair
pair a b c = record { first = a; second = b; column = c }

all_same : (q p : Pair) → q.first ≡ p.first → q.second ≡ p.second → q.column ≡ p.column → q ≡ p
all_same q p e f g = ap (λ a. pair a q.second q.column) e ∙ ap (λ b. pair p.first b q.column) f ∙ ap (λ c. pair p.first p.second c) g

same_pair : (q p : Pair) → (q ≢ p) ⊎ (q ≡ p)
same_pair q p = elim (cases_eq q.first p.first) [
  | inr d ↦ inl (λ e. d (ap (λ (r : Pair). r.first) e))
  | inl e ↦ elim (cases_eq q.second p.second) [
    | inr d ↦ inl (λ e'. d (ap (λ (r : Pair). r.second) e'))
    | inl f ↦ elim (cases_eq q.column p.column) [
      | inr d ↦ inl (λ e'. d (ap (λ (r : Pair). r.column) e'))
      | inl g ↦ inr (all_same q p e f g)
    ]
  ]
]

known : (made : List Pair) (p : Pair) → All (λ q. q ≢ p) made ⊎ Contains made p
known made p = elim (all_or_one (λ q. q ≢ p) (λ q. q ≡ p) (λ q. same_pair q p) made) [
  | inl none ↦ inl none
  | inr one ↦ inr (subst (Contains made) one.2 one.1)
]

-- ---- Tables that grow

more_below : (n t m : ℕ) → n < t → m ≡ t + 1 → n < m
more_below n t m h e = omega arith

stand_more : (table : List (List ℕ)) (w : List ℕ) (n : ℕ) (ws : List ℕ) → StandAt table n ws → StandAt (table ++ w ∷ []) n ws
stand_more table w n ws h = (more_below n (length table) (length (table ++ w ∷ [])) h.0 (length_push table w), get_or_append_left table (w ∷ []) [] n h.0 ∙ h.1)

pub stands : (table : List (List ℕ)) (ws : List ℕ) (c : Contains table ws) → StandAt table c.0 ws
stands table ws c = (c.1, get_or_default table c.0 [] ws c.1 ∙ c.2)

in_more : (table : List (List ℕ)) (w : List ℕ) (ws : List (List ℕ)) → All (Contains table) ws → All (Contains (table ++ w ∷ [])) ws
in_more table w ws h = All-weaker (Contains table) (Contains (table ++ w ∷ [])) (λ x c. Contains-append_left table (w ∷ []) x c) ws h

one_each : (l a r m n k : ℕ) → l + a ≤ r + m → n ≡ a + 1 → k ≡ m + 1 → l + n ≤ r + k
one_each l a r m n k h e f = omega arith

not_that : (c k : ℕ) → c ≤ k → k ≢ c → suc c ≤ k
not_that c k le ne = elim (cases_eq k c) [ inl e ↦ absurd (ne e) | inr d ↦ omega arith ]

-- ---- One pair more

-- no row that was added is lost
abbrev Grows : (columns : ℕ) (rows : List Affine) (column : ℕ) (live : List (List ℕ)) → Work columns rows column live → Work columns rows column live → Type 0
Grows columns rows column live v w = (x : List ℕ) → Contains v.added x → Contains w.added x

-- the row between two is among those that were added, if the first is positive and the second negative
abbrev pub IsDone : (columns : ℕ) (rows : List Affine) (column : ℕ) (live : List (List ℕ)) → Work columns rows column live → (f g : List ℕ) → Type 0
IsDone columns rows column live v f g = pos 0 <ℤ combined rows f column → combined rows g column <ℤ pos 0 → (w : List ℕ) × Contains v.added w × IsMixed columns rows column f g w

still_made : (columns : ℕ) (rows : List Affine) (column : ℕ) (table added : List (List ℕ)) (w : List ℕ) (q : Pair) → IsMade columns rows column table added q → IsMade columns rows column (table ++ w ∷ []) (added ++ w ∷ []) q
still_made columns rows column table added w q h = record {
  first = h.first;
  second = h.second;
  new = h.new;
  first_at = stand_more table w q.first h.first h.first_at;
  second_at = stand_more table w q.second h.second h.second_at;
  new_in = Contains-append_left added (w ∷ []) h.new h.new_in;
  mixed = h.mixed;
}

module _ (columns : ℕ) (rows : List Affine) (column : ℕ) (inside : column < columns) (live : List (List ℕ)) (zeros : (j : ℕ) → suc column ≤ j → j < columns → All (λ w. combined rows w j ≡ pos 0) live) (v : Work columns rows column live)
    (f g : List ℕ) (cf : Contains live f) (cg : Contains live g) (up : pos 0 <ℤ combined rows f column) (down : combined rows g column <ℤ pos 0) where
  f_in : Contains v.table f
  f_in = All-contains (Contains v.table) live f v.live_in cf

  g_in : Contains v.table g
  g_in = All-contains (Contains v.table) live g v.live_in cg

  abbrev the_pair : Pair
  the_pair = record { first = f_in.0; second = g_in.0; column = column }

  is_next : All (λ q. q ≢ the_pair) v.made → IsNext columns rows v.made v.table the_pair
  is_next other =
      let ef = (stands v.table f f_in).1 in
      let eg = (stands v.table g g_in).1 in
      record {
        first_there = f_in.1;
        second_there = g_in.1;
        column_there = inside;
        positive = subst (λ ws. pos 0 <ℤ combined rows ws column) (sym ef) up;
        negative = subst (λ ws. combined rows ws column <ℤ pos 0) (sym eg) down;
        cancelled = All-weaker (λ q. (column ≤ q.column) × (q.column < columns))
            (λ q. q.column ≢ column → (coefficient rows v.table f_in.0 q.column ≡ pos 0) × (coefficient rows v.table g_in.0 q.column ≡ pos 0))
            (λ q h ne.
            let zero = zeros q.column (not_that column q.column h.0 ne) h.1 in (
              ap (λ ws. combined rows ws q.column) ef ∙ All-contains (λ w. combined rows w q.column ≡ pos 0) live f zero cf,
              ap (λ ws. combined rows ws q.column) eg ∙ All-contains (λ w. combined rows w q.column ≡ pos 0) live g zero cg,
            ))
            v.made v.later;
        other = other;
      }

  the_mixture : HasMixture columns rows column f g
  the_mixture = mixture columns rows column f g (le_from_lt column columns inside)
      (All-contains (λ w. length w ≡ length rows) v.table f v.long f_in) (All-contains (λ w. length w ≡ length rows) v.table g v.long g_in) up down

  pushed : All (λ q. q ≢ the_pair) v.made → Work columns rows column live
  pushed other =
      let ef = (stands v.table f f_in).1 in
      let eg = (stands v.table g g_in).1 in
      let m = the_mixture in
      let w = m.weights in
      let table = v.table ++ w ∷ [] in
      let added = v.added ++ w ∷ [] in
      let is_added : IsAdded rows column (get_or v.table f_in.0 []) (get_or v.table g_in.0 []) w =
      subst (λ ws. IsAdded rows column ws (get_or v.table g_in.0 []) w) (sym ef) (subst (λ ws. IsAdded rows column f ws w) (sym eg) m.added) in
      record {
        made = v.made ++ the_pair ∷ [];
        table = table;
        added = added;
        is_table = more v.made v.table the_pair w v.is_table (is_next other) is_added;
        later = All-push (λ q. (column ≤ q.column) × (q.column < columns)) v.made the_pair v.later (le_itself column, inside);
        long = All-push (λ ws. length ws ≡ length rows) v.table w v.long m.long;
        live_in = in_more v.table w live v.live_in;
        added_in = All-push (Contains table) v.added w (in_more v.table w v.added v.added_in) (Contains-push v.table w);
        between = All-push (IsBetween columns rows column live) v.added w v.between (record { first = f; second = g; first_in = cf; second_in = cg; mixed = m.mixed });
        covered = All-push (λ q. q.column ≡ column → IsMade columns rows column table added q) v.made the_pair
            (All-weaker (λ q. q.column ≡ column → IsMade columns rows column v.table v.added q) (λ q. q.column ≡ column → IsMade columns rows column table added q)
            (λ q h e. still_made columns rows column v.table v.added w q (h e)) v.made v.covered)
            (λ e. record {
              first = f;
              second = g;
              new = w;
              first_at = stand_more v.table w f_in.0 f (stands v.table f f_in);
              second_at = stand_more v.table w g_in.0 g (stands v.table g g_in);
              new_in = Contains-push v.added w;
              mixed = m.mixed;
            });
        few = one_each (length live) (length v.added) (length rows) (length v.made) (length added) (length (v.made ++ the_pair ∷ [])) v.few (length_push v.added w) (length_push v.made the_pair);
      }

  new_pair : All (λ q. q ≢ the_pair) v.made → (w : Work columns rows column live) × Grows columns rows column live v w × IsDone columns rows column live w f g
  unfolding pushed
  new_pair other =
      let w = the_mixture.weights in
      (pushed other, (λ x c. Contains-append_left v.added (w ∷ []) x c), (λ u d. (w, Contains-push v.added w, the_mixture.mixed)))

  old_pair : Contains v.made the_pair → (w : Work columns rows column live) × Grows columns rows column live v w × IsDone columns rows column live w f g
  old_pair c =
      let h = All-contains (λ q. q.column ≡ column → IsMade columns rows column v.table v.added q) v.made the_pair v.covered c refl in
      let ef : h.first ≡ f = sym h.first_at.1 ∙ (stands v.table f f_in).1 in
      let eg : h.second ≡ g = sym h.second_at.1 ∙ (stands v.table g g_in).1 in
      let mixed : IsMixed columns rows column f g h.new = subst (λ ws. IsMixed columns rows column ws g h.new) ef (subst (λ ws. IsMixed columns rows column h.first ws h.new) eg h.mixed) in
      (v, (λ x d. d), (λ u d. (h.new, h.new_in, mixed)))

  a_pair : (w : Work columns rows column live) × Grows columns rows column live v w × IsDone columns rows column live w f g
  a_pair = elim (known v.made the_pair) [ inl other ↦ new_pair other | inr c ↦ old_pair c ]

-- ---- All pairs

module _ (columns : ℕ) (rows : List Affine) (column : ℕ) (inside : column < columns) (live : List (List ℕ)) (zeros : (j : ℕ) → suc column ≤ j → j < columns → All (λ w. combined rows w j ≡ pos 0) live) where
  one_pair : (v : Work columns rows column live) (f g : List ℕ) → Contains live f → Contains live g → (w : Work columns rows column live) × Grows columns rows column live v w × IsDone columns rows column live w f g
  one_pair v f g cf cg = elim (above_or_not (combined rows f column)) [
    | inr flat ↦ (v, (λ x d. d), (λ up down. absurd (flat up)))
    | inl up ↦ elim (below_or_not (combined rows g column)) [
      | inr flat ↦ (v, (λ x d. d), (λ u down. absurd (flat down)))
      | inl down ↦ a_pair columns rows column inside live zeros v f g cf cg up down
    ]
  ]

  all_seconds : (v : Work columns rows column live) (f : List ℕ) → Contains live f → (w : Work columns rows column live) × Grows columns rows column live v w × All (IsDone columns rows column live w f) live
  all_seconds v f cf =
      walk (Grows columns rows column live) (λ v x d. d) (λ u v w h k x d. k x (h x d)) (Contains live) (λ w g. IsDone columns rows column live w f g)
      (λ v w g h k up down. let d = k up down in (d.0, h d.0 d.1, d.2)) (λ v g cg. one_pair v f g cf cg) live v (All-contains_itself live)

  pub all_pairs : (v : Work columns rows column live) → (w : Work columns rows column live) × Grows columns rows column live v w × All (λ f. All (IsDone columns rows column live w f) live) live
  all_pairs v =
      walk (Grows columns rows column live) (λ v x d. d) (λ u v w h k x d. k x (h x d)) (Contains live) (λ w f. All (IsDone columns rows column live w f) live)
      (λ v w f h k. All-weaker (IsDone columns rows column live v f) (IsDone columns rows column live w f) (λ g k' up down. let d = k' up down in (d.0, h d.0 d.1, d.2)) live k) all_seconds live v (All-contains_itself live)
