-- The rows that are left once all later columns are cancelled: they say what the system says of the columns before.
use Rattle.std.proofs.Common.{◌≡◌, ℕ, zero, suc, ◌+◌, ◌-◌, ◌<◌, ◌≤◌, List, [], ◌∷◌, ◌++◌, length, map, take, get_or, ℤ, pos, ◌<ℤ◌, refl, sym, ap, subst, ◌∙◌, inl, inr, arith}
use Rattle.std.specs.Prelude.{◌⊎◌, ◌↔◌}
use Rattle.std.specs.List.{All, Contains}
use Rattle.std.proofs.lemmas.Bool.{cases_eq}
use Rattle.std.proofs.lemmas.List.{length-append, length-set, length-replicate, get_or-map, map_push, take_more, take_all}
use Rattle.std.proofs.lemmas.List.Elements.{All-nil, All-push, All-append, All-map, All-weaker, All-contains, All-contains_itself, Contains-append_left, Contains-append_right}
use Rattle.affc_rows.specs.Forms.{Affine, HaveColumns}
use Rattle.affc_farkas.specs.Multiples.{entry_of, zero_row}
use Rattle.affc_farkas.specs.Eliminations.{combined, own, owns, IsTable, none}
use Rattle.affc_farkas.specs.declared.pair.Pair.{Pair}
use Rattle.affc_farkas.proofs.Tables.{length-owns}
use Rattle.affc_eliminate.specs.Laws.{IsCombined, IsFrom, AreRowsOf}
use Rattle.affc_eliminate.proofs.Exactness.{step_is_exact}
use Rattle.affc_eliminate.proofs.Sums.{same_form}
use Rattle.affc_eliminate.specs.project.Projections.{ExtendsWhole}
use Rattle.affc_eliminate.proofs.project.Points.{points_of_step, both_ways, itself}
use Rattle.affc_loopends.proofs.bounding.Lists.{image_in, of_image, pick, ArePicked}
use Rattle.affc_loopends.proofs.bounding.Sums.{sum_of, sum_wide, sum_entry, combined_own}
use Rattle.affc_loopends.proofs.bounding.Mixes.{mixed_flat, mixed_zero}
use Rattle.affc_loopends.proofs.bounding.Columns.{Work, IsBetween, IsMade, IsDone, all_pairs}
use Rattle.affc_loopends.proofs.bounding.Numbers.{le_from_lt, one_more, zero_or_not}

-- the rows with these weights
abbrev pub rows_of : (columns : ℕ) → List Affine → List (List ℕ) → List Affine
rows_of columns rows live = map (sum_of columns rows) live

-- pairs that cancel every column from `first` on, and the weights of the rows that are left
pub record Left (columns : ℕ) (rows : List Affine) (first : ℕ) : Type 0 where
  pub made : List Pair
  pub table : List (List ℕ)
  pub live : List (List ℕ)
  pub is_table : IsTable columns rows made table
  pub later : All (λ q. (first ≤ q.column) × (q.column < columns)) made
  pub long : All (λ w. length w ≡ length rows) table
  pub live_in : All (Contains table) live
  pub few : length live ≤ length rows + length made
  pub zeros : (j : ℕ) → first ≤ j → j < columns → All (λ w. combined rows w j ≡ pos 0) live
  pub same_points : (whole : List ℤ) → length whole ≤ first → ExtendsWhole columns (rows_of columns rows live) whole ↔ ExtendsWhole columns rows whole

-- ---- All columns are left

still_there : (m n : ℕ) → suc m ≤ n → (m < n) × (m ≤ n)
still_there m n h = (omega arith, omega arith)

next_number : (m : ℕ) → m + 1 ≡ suc m
next_number m = omega arith

own_row : (columns : ℕ) (rows : List Affine) (i : ℕ) (d : Affine) → HaveColumns columns rows → i < length rows → sum_of columns rows (own (length rows) i) ≡ get_or rows i d
own_row columns rows i d w lt =
    let ws = own (length rows) i in
    same_form (sum_of columns rows ws) (get_or rows i d) (sum_wide columns rows ws ∙ sym (w i d lt)) (λ j le.
    sum_entry columns rows ws j (subst (λ n. j ≤ n) (sum_wide columns rows ws) le) ∙ combined_own rows i j lt ∙ get_or-map (λ r. entry_of r j) rows i d (pos 0) lt)

own_rows : (columns : ℕ) (rows : List Affine) (m : ℕ) → HaveColumns columns rows → m ≤ length rows → rows_of columns rows (owns (length rows) m) ≡ take m rows
own_rows columns rows zero w le = refl
own_rows columns rows (suc m) w le =
    let h = still_there m (length rows) le in
    let d = zero_row columns in
    map_push (sum_of columns rows) (owns (length rows) m) (own (length rows) m)
    ∙ ap (λ xs. xs ++ sum_of columns rows (own (length rows) m) ∷ []) (own_rows columns rows m w h.1)
    ∙ ap (λ r. take m rows ++ r ∷ []) (own_row columns rows m d w h.0)
    ∙ sym (take_more rows m d h.0) ∙ ap (λ n. take n rows) (next_number m)

own_long : (n m : ℕ) → All (λ w. length w ≡ n) (owns n m)
own_long n zero = All-nil (λ w. length w ≡ n)
own_long n (suc m) = All-push (λ w. length w ≡ n) (owns n m) (own n m) (own_long n m) (length-set _ m 1 ∙ length-replicate n 0)

as_many : (n m : ℕ) → n ≡ m → n ≤ m + 0
as_many n m e = omega arith

not_both : (j n : ℕ) → n ≤ j → j < n → ⊥
not_both j n h k = absurd (omega arith)

pub all_left : (columns : ℕ) (rows : List Affine) → HaveColumns columns rows → Left columns rows columns
all_left columns rows w =
    let N = length rows in
    let same : rows_of columns rows (owns N N) ≡ rows = own_rows columns rows N w (omega arith) ∙ take_all N rows (omega arith) in
    record {
      made = [];
      table = owns N N;
      live = owns N N;
      is_table = none;
      later = All-nil (λ q. (columns ≤ q.column) × (q.column < columns));
      long = own_long N N;
      live_in = All-contains_itself (owns N N);
      few = as_many (length (owns N N)) N (length-owns N N);
      zeros = λ j ge lt. absurd (not_both j columns ge lt);
      same_points = λ whole le. subst (λ rs. ExtendsWhole columns rs whole ↔ ExtendsWhole columns rows whole) (sym same) (itself (ExtendsWhole columns rows whole));
    }

-- ---- One column less

at_or_above : (c j : ℕ) → c ≤ j → (j ≡ c) ⊎ (suc c ≤ j)
at_or_above c j le = elim (cases_eq j c) [ inl e ↦ inl e | inr ne ↦ inr (omega arith) ]

sum_few : (f l a r m n : ℕ) → n ≡ f + a → f ≤ l → l + a ≤ r + m → n ≤ r + m
sum_few f l a r m n e h k = omega arith

-- the rows that are left of these, once pairs of all of them are made, are those that are 0 in the column and those that were added
module _ (columns : ℕ) (rows : List Affine) (column : ℕ) (inside : column < columns) (live : List (List ℕ)) (zeros : (j : ℕ) → suc column ≤ j → j < columns → All (λ w. combined rows w j ≡ pos 0) live) (w : Work columns rows column live)
    (done : All (λ f. All (IsDone columns rows column live w f) live) live) (flats : List (List ℕ)) (picked : ArePicked (λ x. combined rows x column ≡ pos 0) live flats) where
  added_zeros : (j : ℕ) → column ≤ j → j < columns → All (λ x. combined rows x j ≡ pos 0) w.added
  added_zeros j ge lt = All-weaker (IsBetween columns rows column live) (λ x. combined rows x j ≡ pos 0)
      (λ x b. elim (at_or_above column j ge) [
        | inl e ↦ ap (combined rows x) e ∙ mixed_flat columns rows column b.first b.second x inside b.mixed
        | inr above ↦ mixed_zero columns rows column b.first b.second x j (le_from_lt j columns lt) b.mixed
            (All-contains (λ y. combined rows y j ≡ pos 0) live b.first (zeros j above lt) b.first_in) (All-contains (λ y. combined rows y j ≡ pos 0) live b.second (zeros j above lt) b.second_in)
      ]) w.added w.between

  flat_zeros : (j : ℕ) → column ≤ j → j < columns → All (λ x. combined rows x j ≡ pos 0) flats
  flat_zeros j ge lt = All-weaker (λ x. Contains live x × (combined rows x column ≡ pos 0)) (λ x. combined rows x j ≡ pos 0)
      (λ x c. elim (at_or_above column j ge) [
        | inl e ↦ ap (combined rows x) e ∙ c.1
        | inr above ↦ All-contains (λ y. combined rows y j ≡ pos 0) live x (zeros j above lt) c.0
      ]) flats picked.each

  new_zeros : (j : ℕ) → column ≤ j → j < columns → All (λ x. combined rows x j ≡ pos 0) (flats ++ w.added)
  new_zeros j ge lt = All-append (λ x. combined rows x j ≡ pos 0) flats w.added (flat_zeros j ge lt) (added_zeros j ge lt)

  entry : (x : List ℕ) → entry_of (sum_of columns rows x) column ≡ combined rows x column
  entry x = sum_entry columns rows x column (le_from_lt column columns inside)

  in_new : (x : List ℕ) → Contains (flats ++ w.added) x → Contains (rows_of columns rows (flats ++ w.added)) (sum_of columns rows x)
  in_new x c = image_in (sum_of columns rows) (flats ++ w.added) x c

  is_from : All (IsFrom column (rows_of columns rows live)) (rows_of columns rows (flats ++ w.added))
  is_from =
      let old = rows_of columns rows live in
      let P : List ℕ → Type 0 = λ x. IsFrom column old (sum_of columns rows x) in
      All-map (IsFrom column old) (sum_of columns rows) (flats ++ w.added) (All-append P flats w.added
      (All-weaker (λ x. Contains live x × (combined rows x column ≡ pos 0)) P (λ x c. inl (image_in (sum_of columns rows) live x c.0, entry x ∙ c.1)) flats picked.each)
      (All-weaker (IsBetween columns rows column live) P
      (λ x b. inr (sum_of columns rows b.first, sum_of columns rows b.second, image_in (sum_of columns rows) live b.first b.first_in, image_in (sum_of columns rows) live b.second b.second_in, b.mixed)) w.added w.between))

  are_rows : (width : ℕ) → HaveColumns width (rows_of columns rows live) → column < width → AreRowsOf column width (rows_of columns rows live) (rows_of columns rows (flats ++ w.added))
  are_rows width wide lt = record {
    widths = wide;
    column_in = lt;
    from = is_from;
    flat = All-map (λ f. entry_of f column ≡ pos 0 → Contains (rows_of columns rows (flats ++ w.added)) f) (sum_of columns rows) live
        (All-weaker (λ x. combined rows x column ≡ pos 0 → Contains flats x) (λ x. entry_of (sum_of columns rows x) column ≡ pos 0 → Contains (rows_of columns rows (flats ++ w.added)) (sum_of columns rows x))
        (λ x f e. in_new x (Contains-append_left flats w.added x (f (sym (entry x) ∙ e)))) live picked.all);
  }

  are_combined : (f g : Affine) → Contains (rows_of columns rows live) f → Contains (rows_of columns rows live) g → pos 0 <ℤ entry_of f column → entry_of g column <ℤ pos 0
      → IsCombined column (rows_of columns rows (flats ++ w.added)) f g
  are_combined f g cf cg up down =
      let a = of_image (sum_of columns rows) live f cf in
      let b = of_image (sum_of columns rows) live g cg in
      let up' : pos 0 <ℤ combined rows a.0 column = subst (λ z. pos 0 <ℤ z) (ap (λ r. entry_of r column) (sym a.2) ∙ entry a.0) up in
      let down' : combined rows b.0 column <ℤ pos 0 = subst (λ z. z <ℤ pos 0) (ap (λ r. entry_of r column) (sym b.2) ∙ entry b.0) down in
      let all = All-contains (λ x. All (IsDone columns rows column live w x) live) live a.0 done a.1 in
      let d = All-contains (IsDone columns rows column live w a.0) live b.0 all b.1 up' down' in
      let c : Contains (flats ++ w.added) d.0 = Contains-append_right flats w.added d.0 d.1 in
      subst (λ r. IsCombined column (rows_of columns rows (flats ++ w.added)) r g) a.2 (subst (λ r. IsCombined column (rows_of columns rows (flats ++ w.added)) (sum_of columns rows a.0) r) b.2 (sum_of columns rows d.0, in_new d.0 c, d.2))

  step_points : (whole : List ℤ) → length whole ≤ column → ExtendsWhole columns (rows_of columns rows (flats ++ w.added)) whole ↔ ExtendsWhole columns (rows_of columns rows live) whole
  step_points =
      let old = rows_of columns rows live in
      let new = rows_of columns rows (flats ++ w.added) in
      let wide : HaveColumns columns old = All-map (λ f. length f.coefs ≡ columns) (sum_of columns rows) live (λ i d lt. sum_wide columns rows (get_or live i d)) in
      points_of_step columns column old new wide inside (λ x d wd lt one. step_is_exact column (length x) old new x d (are_rows (length x) wd lt) are_combined refl one)

  pub next_left : ((whole : List ℤ) → length whole ≤ suc column → ExtendsWhole columns (rows_of columns rows live) whole ↔ ExtendsWhole columns rows whole) → Left columns rows column
  next_left same = record {
    made = w.made;
    table = w.table;
    live = flats ++ w.added;
    is_table = w.is_table;
    later = w.later;
    long = w.long;
    live_in = All-append (Contains w.table) flats w.added
        (All-weaker (λ x. Contains live x × (combined rows x column ≡ pos 0)) (Contains w.table) (λ x c. All-contains (Contains w.table) live x w.live_in c.0) flats picked.each) w.added_in;
    few = sum_few (length flats) (length live) (length w.added) (length rows) (length w.made) (length (flats ++ w.added)) (length-append flats w.added) picked.few w.few;
    zeros = new_zeros;
    same_points = λ whole le.
        both_ways (ExtendsWhole columns (rows_of columns rows (flats ++ w.added)) whole) (ExtendsWhole columns (rows_of columns rows live) whole) (ExtendsWhole columns rows whole)
        (step_points whole le) (same whole (one_more (length whole) column le));
  }

-- no pair is of the column yet
start : (columns : ℕ) (rows : List Affine) (column : ℕ) (v : Left columns rows (suc column)) → Work columns rows column v.live
start columns rows column v = record {
  made = v.made;
  table = v.table;
  added = [];
  is_table = v.is_table;
  later = All-weaker (λ q. (suc column ≤ q.column) × (q.column < columns)) (λ q. (column ≤ q.column) × (q.column < columns)) (λ q h. (sooner q.column column h.0, h.1)) v.made v.later;
  long = v.long;
  live_in = v.live_in;
  added_in = All-nil (Contains v.table);
  between = All-nil (IsBetween columns rows column v.live);
  covered = All-weaker (λ q. (suc column ≤ q.column) × (q.column < columns)) (λ q. q.column ≡ column → IsMade columns rows column v.table [] q) (λ q h e. absurd (not_same q.column column h.0 e)) v.made v.later;
  few = with_none (length v.live) (length rows + length v.made) v.few;
}
  where
    sooner : (k c : ℕ) → suc c ≤ k → c ≤ k
    sooner k c h = omega arith

    not_same : (k c : ℕ) → suc c ≤ k → k ≡ c → ⊥
    not_same k c h e = absurd (omega arith)

    with_none : (n m : ℕ) → n ≤ m → n + 0 ≤ m
    with_none n m h = omega arith

one_less : (columns : ℕ) (rows : List Affine) (column : ℕ) → column < columns → Left columns rows (suc column) → Left columns rows column
one_less columns rows column inside v =
    let d = all_pairs columns rows column inside v.live v.zeros (start columns rows column v) in
    let p = pick (λ x. combined rows x column ≡ pos 0) (λ x. zero_or_not (combined rows x column)) v.live in
    next_left columns rows column inside v.live v.zeros d.0 d.2 p.0 p.1 v.same_points

-- ---- As many as are wanted

fewer : (columns : ℕ) (rows : List Affine) → HaveColumns columns rows → (n first : ℕ) → first + n ≡ columns → Left columns rows first
fewer columns rows w zero first e = subst (Left columns rows) (last first columns e) (all_left columns rows w)
  where
    last : (a b : ℕ) → a + 0 ≡ b → b ≡ a
    last a b e = omega arith
fewer columns rows w (suc n) first e = one_less columns rows first (below first n columns e) (fewer columns rows w n (suc first) (moved first n columns e))
  where
    below : (a n b : ℕ) → a + suc n ≡ b → a < b
    below a n b e = omega arith

    moved : (a n b : ℕ) → a + suc n ≡ b → suc a + n ≡ b
    moved a n b e = omega arith

pub left_at : (columns : ℕ) (rows : List Affine) (first : ℕ) → HaveColumns columns rows → first ≤ columns → Left columns rows first
left_at columns rows first w le = fewer columns rows w (columns - first) first (rest first columns le)
  where
    rest : (a b : ℕ) → a ≤ b → a + (b - a) ≡ b
    rest a b h = omega arith
