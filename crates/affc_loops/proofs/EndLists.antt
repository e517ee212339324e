-- Loops between ends by rows keep within ranges, and hold the times at which the rows hold.
use Rattle.std.proofs.Common.{◌≡◌, ℕ, suc, ◌+◌, ◌^◌, ◌<◌, ◌≤◌, ℤ, pos, negsuc, ◌≤ℤ◌, List, [], ◌∷◌, ◌++◌, length, map, take, refl, sym, ap, subst, ◌∙◌, arith}
use Rattle.std.specs.Prelude.{unsigned_abs}
use Rattle.std.specs.Int.{int_max, int_min}
use Rattle.std.specs.List.{All}
use Rattle.std.proofs.lemmas.Int.{ints}
use Rattle.std.proofs.lemmas.List.Elements.{All-nil, All-cons, All-head, All-tail}
use Rattle.affc_rows.specs.Forms.{Affine}
use Rattle.affc_system.specs.Boxes.{InBox}
use Rattle.affc_system.specs.Systems.{Meets}
use Rattle.affc_ast.specs.declared.tree.Ix.{Ix}
use Rattle.affc_ast.specs.declared.tree.Ix.TheVariants.{Min, Max}
use Rattle.affc_ast.specs.Fits.{whole}
use Rattle.affc_trace.proofs.LastStores.{push_append}
use Rattle.affc_trace.proofs.Runs.{length_append}
use Rattle.affc_domain.proofs.RangeLemmas.{box_push}
use Rattle.affc_safe.specs.Overflow.{IsReadable}
use Rattle.affc_loops.specs.Between.{LiesBetween, IsTurn, RunWithin}
use Rattle.affc_loops.specs.Ends.{least_by, greatest_by, lower_end, upper_end, Sides, ends_from, both_ends, IsRow, BoundsBelow, BoundsAbove, AreSidesFrom, HoldFrom, MeetAlong}
use Rattle.affc_loops.specs.Limits.{IsSmall}
use Rattle.affc_loops.specs.Trees.{number}
use Rattle.affc_loops.proofs.EndTrees.{whole_min, whole_max, reads_min, reads_max}
use Rattle.affc_loops.proofs.FormReads.{reads_number}
use Rattle.affc_loops.proofs.FormTrees.{number_is}
use Rattle.affc_loops.proofs.Joined.{joined_with_all, joined_with_last, joined_with_parts}
use Rattle.affc_loops.proofs.RowEnds.{least_holds, greatest_holds, least_met, greatest_met, least_reads, greatest_reads}
use Rattle.affc_loops.proofs.TimeRanges.{min_below, min_below_too, max_above, max_above_too}

-- ---- numbers

min_within : (a b x : ℤ) → x ≤ℤ a → x ≤ℤ b → x ≤ℤ int_min a b
min_within a b x h k = first_of (omega (arith, ints), grind (arith, ints, h, k))

max_within : (a b x : ℤ) → a ≤ℤ x → b ≤ℤ x → int_max a b ≤ℤ x
max_within a b x h k = first_of (omega (arith, ints), grind (arith, ints, h, k))

min_parts : (a b x : ℤ) → x ≤ℤ int_min a b → (x ≤ℤ a) × (x ≤ℤ b)
min_parts a b x h = (first_of (omega (arith, ints), grind (arith, ints, h)), first_of (omega (arith, ints), grind (arith, ints, h)))

max_parts : (a b x : ℤ) → int_max a b ≤ℤ x → (a ≤ℤ x) × (b ≤ℤ x)
max_parts a b x h = (first_of (omega (arith, ints), grind (arith, ints, h)), first_of (omega (arith, ints), grind (arith, ints, h)))

-- ---- ranges within ranges

-- each range has its ends in order, and lies within the other one
abbrev pub Nested : (box ranges : List (ℤ × ℤ)) → Type 0
Nested [] [] = Unit {0}
Nested [] (r ∷ rs) = ⊥
Nested (b ∷ bs) [] = ⊥
Nested (b ∷ bs) (r ∷ rs) = (r.0 ≤ℤ b.0) × (b.0 ≤ℤ b.1) × (b.1 ≤ℤ r.1) × Nested bs rs

low_small : (r0 r1 b0 b1 : ℤ) → unsigned_abs r0 < 2 ^ 62 → unsigned_abs r1 < 2 ^ 62 → r0 ≤ℤ b0 → b0 ≤ℤ b1 → b1 ≤ℤ r1 → (unsigned_abs b0 < 2 ^ 63) × (unsigned_abs b1 < 2 ^ 63)
low_small r0 r1 b0 b1 a b l m h = (between r0 r1 b0 a b l (through b0 b1 r1 m h), between r0 r1 b1 a b (through r0 b0 b1 l m) h)
  where
    through : (x y z : ℤ) → x ≤ℤ y → y ≤ℤ z → x ≤ℤ z
    through x y z h k = omega (arith, ints)

    between : (r0 r1 x : ℤ) → unsigned_abs r0 < 2 ^ 62 → unsigned_abs r1 < 2 ^ 62 → r0 ≤ℤ x → x ≤ℤ r1 → unsigned_abs x < 2 ^ 63
    between r0 (pos m) (pos n) a b l h = omega (arith, ints)
    between r0 (negsuc m) (pos n) a b l h = absurd (omega (arith, ints))
    between (pos m) r1 (negsuc n) a b l h = absurd (omega (arith, ints))
    between (negsuc m) r1 (negsuc n) a b l h = omega (arith, ints)

-- ---- ends that keep within ranges

-- at each point of the ranges both ends are read, the lower one is not below the range, and the upper one not above it
abbrev pub Keeps : (ranges : List (ℤ × ℤ)) → (ends : List (Ix × Ix)) → (names : List ℤ) → Type 0
Keeps [] [] names = Unit {0}
Keeps [] (e ∷ es) names = ⊥
Keeps (r ∷ rs) [] names = ⊥
Keeps (r ∷ rs) (e ∷ es) names =
    IsReadable e.0 names
    × IsReadable e.1 names
    × (r.0 ≤ℤ whole e.0 names)
    × (whole e.1 names ≤ℤ r.1)
    × ((x : ℤ) → r.0 ≤ℤ x → x ≤ℤ r.1 → Keeps rs es (names ++ x ∷ []))

through : (a b c : ℤ) → a ≤ℤ b → b ≤ℤ c → a ≤ℤ c
through a b c h k = omega (arith, ints)

pub keeps_run : (ranges : List (ℤ × ℤ)) (ends : List (Ix × Ix)) (names : List ℤ) → Keeps ranges ends names → RunWithin ranges ends names
keeps_run [] [] names k = tt
keeps_run [] (e ∷ es) names k = absurd k
keeps_run (r ∷ rs) [] names k = absurd k
keeps_run (r ∷ rs) (e ∷ es) names k = (
  k.0,
  k.1,
  λ x l h.
      let a = through r.0 _ x k.2 l in
      let b = through x _ r.1 h k.3 in
      (a, b, keeps_run rs es (names ++ x ∷ []) (k.4 x a b)),
)

pub keeps_both : (ranges : List (ℤ × ℤ)) (as' bs : List (Ix × Ix)) (names : List ℤ) → Keeps ranges as' names → Keeps ranges bs names → Keeps ranges (both_ends as' bs) names
keeps_both [] [] [] names k m = tt
keeps_both [] [] (b ∷ bs) names k m = absurd m
keeps_both [] (a ∷ as') bs names k m = absurd k
keeps_both (r ∷ rs) [] bs names k m = absurd k
keeps_both (r ∷ rs) (a ∷ as') [] names k m = absurd m
keeps_both (r ∷ rs) (a ∷ as') (b ∷ bs) names k m = (
  reads_min a.0 b.0 names k.0 m.0,
  reads_max a.1 b.1 names k.1 m.1,
  subst (λ z. r.0 ≤ℤ z) (sym (whole_min a.0 b.0 names)) (min_within _ _ r.0 k.2 m.2),
  subst (λ z. z ≤ℤ r.1) (sym (whole_max a.1 b.1 names)) (max_within _ _ r.1 k.3 m.3),
  λ x l h. keeps_both rs as' bs (names ++ x ∷ []) (k.4 x l h) (m.4 x l h),
)

-- ---- the rows of one end

module _ (first column : ℕ) (names : List ℤ) (at : column ≡ length names) (few : first ≤ column) (ranges : List (ℤ × ℤ)) where
  few_here : first ≤ length names
  few_here = subst (λ k. first ≤ k) at few

  row_here : (row : Affine) → IsRow column ranges row → IsRow (length names) ranges row
  row_here row r = subst (λ k. IsRow k ranges row) at r

  below_here : (row : Affine) → BoundsBelow column row → BoundsBelow (length names) row
  below_here row b = subst (λ k. BoundsBelow k row) at b

  above_here : (row : Affine) → BoundsAbove column row → BoundsAbove (length names) row
  above_here row b = subst (λ k. BoundsAbove k row) at b

  -- at a number x of the column
  module _ (x : ℤ) where
    lowers_hold : (rows : List Affine) → All (IsRow column ranges) rows → All (BoundsBelow column) rows → All (Meets (names ++ x ∷ [])) rows
        → All (λ e. whole e names ≤ℤ x) (map (least_by first column) rows)
    lowers_hold [] w b m = All-nil (λ e. whole e names ≤ℤ x)
    lowers_hold (row ∷ rows) w b m =
        All-cons (λ e. whole e names ≤ℤ x) (least_by first column row) (map (least_by first column) rows)
        (subst (λ k. whole (least_by first k row) names ≤ℤ x) (sym at)
        (least_holds first row names few_here (row_here row (All-head (IsRow column ranges) row rows w)).width x (below_here row (All-head (BoundsBelow column) row rows b)) (All-head (Meets (names ++ x ∷ [])) row rows m)))
        (lowers_hold rows (All-tail (IsRow column ranges) row rows w) (All-tail (BoundsBelow column) row rows b) (All-tail (Meets (names ++ x ∷ [])) row rows m))

    uppers_hold : (rows : List Affine) → All (IsRow column ranges) rows → All (BoundsAbove column) rows → All (Meets (names ++ x ∷ [])) rows
        → All (λ e. x ≤ℤ whole e names) (map (greatest_by first column) rows)
    uppers_hold [] w b m = All-nil (λ e. x ≤ℤ whole e names)
    uppers_hold (row ∷ rows) w b m =
        All-cons (λ e. x ≤ℤ whole e names) (greatest_by first column row) (map (greatest_by first column) rows)
        (subst (λ k. x ≤ℤ whole (greatest_by first k row) names) (sym at)
        (greatest_holds first row names few_here (row_here row (All-head (IsRow column ranges) row rows w)).width x (above_here row (All-head (BoundsAbove column) row rows b)) (All-head (Meets (names ++ x ∷ [])) row rows m)))
        (uppers_hold rows (All-tail (IsRow column ranges) row rows w) (All-tail (BoundsAbove column) row rows b) (All-tail (Meets (names ++ x ∷ [])) row rows m))

    pub lower_holds : (rows : List Affine) (low : ℤ) → All (IsRow column ranges) rows → All (BoundsBelow column) rows → All (Meets (names ++ x ∷ [])) rows → low ≤ℤ x
        → whole (lower_end first column rows low) names ≤ℤ x
    lower_holds rows low w b m l =
        joined_with_all Max (λ e. whole e names ≤ℤ x) (λ a b h k. subst (λ z. z ≤ℤ x) (sym (whole_max a b names)) (max_within _ _ x h k)) (map (least_by first column) rows) (number low) (lowers_hold rows w b m)
        (subst (λ z. z ≤ℤ x) (sym (number_is low names)) l)

    pub upper_holds : (rows : List Affine) (high : ℤ) → All (IsRow column ranges) rows → All (BoundsAbove column) rows → All (Meets (names ++ x ∷ [])) rows → x ≤ℤ high
        → x ≤ℤ whole (upper_end first column rows high) names
    upper_holds rows high w b m l =
        joined_with_all Min (λ e. x ≤ℤ whole e names) (λ a b h k. subst (λ z. x ≤ℤ z) (sym (whole_min a b names)) (min_within _ _ x h k)) (map (greatest_by first column) rows) (number high) (uppers_hold rows w b m)
        (subst (λ z. x ≤ℤ z) (sym (number_is high names)) l)

    -- and back
    lowers_met : (rows : List Affine) → All (IsRow column ranges) rows → All (BoundsBelow column) rows → All (λ e. whole e names ≤ℤ x) (map (least_by first column) rows) → All (Meets (names ++ x ∷ [])) rows
    lowers_met [] w b h = All-nil (Meets (names ++ x ∷ []))
    lowers_met (row ∷ rows) w b h =
        All-cons (Meets (names ++ x ∷ [])) row rows
        (least_met first row names few_here (row_here row (All-head (IsRow column ranges) row rows w)).width x (below_here row (All-head (BoundsBelow column) row rows b))
        (subst (λ k. whole (least_by first k row) names ≤ℤ x) at (All-head (λ e. whole e names ≤ℤ x) (least_by first column row) (map (least_by first column) rows) h)))
        (lowers_met rows (All-tail (IsRow column ranges) row rows w) (All-tail (BoundsBelow column) row rows b) (All-tail (λ e. whole e names ≤ℤ x) (least_by first column row) (map (least_by first column) rows) h))

    uppers_met : (rows : List Affine) → All (IsRow column ranges) rows → All (BoundsAbove column) rows → All (λ e. x ≤ℤ whole e names) (map (greatest_by first column) rows) → All (Meets (names ++ x ∷ [])) rows
    uppers_met [] w b h = All-nil (Meets (names ++ x ∷ []))
    uppers_met (row ∷ rows) w b h =
        All-cons (Meets (names ++ x ∷ [])) row rows
        (greatest_met first row names few_here (row_here row (All-head (IsRow column ranges) row rows w)).width x (above_here row (All-head (BoundsAbove column) row rows b))
        (subst (λ k. x ≤ℤ whole (greatest_by first k row) names) at (All-head (λ e. x ≤ℤ whole e names) (greatest_by first column row) (map (greatest_by first column) rows) h)))
        (uppers_met rows (All-tail (IsRow column ranges) row rows w) (All-tail (BoundsAbove column) row rows b) (All-tail (λ e. x ≤ℤ whole e names) (greatest_by first column row) (map (greatest_by first column) rows) h))

    pub lower_met : (rows : List Affine) (low : ℤ) → All (IsRow column ranges) rows → All (BoundsBelow column) rows → whole (lower_end first column rows low) names ≤ℤ x → All (Meets (names ++ x ∷ [])) rows
    lower_met rows low w b h =
        lowers_met rows w b
        (joined_with_parts Max (λ e. whole e names ≤ℤ x) (λ a b k. max_parts _ _ x (subst (λ z. z ≤ℤ x) (whole_max a b names) k)) (map (least_by first column) rows) (number low) h)

    pub upper_met : (rows : List Affine) (high : ℤ) → All (IsRow column ranges) rows → All (BoundsAbove column) rows → x ≤ℤ whole (upper_end first column rows high) names → All (Meets (names ++ x ∷ [])) rows
    upper_met rows high w b h =
        uppers_met rows w b
        (joined_with_parts Min (λ e. x ≤ℤ whole e names) (λ a b k. min_parts _ _ x (subst (λ z. x ≤ℤ z) (whole_min a b names) k)) (map (greatest_by first column) rows) (number high) h)

  -- the range's own number stands last, so that no end passes it
  pub lower_kept : (rows : List Affine) (low : ℤ) → low ≤ℤ whole (lower_end first column rows low) names
  lower_kept rows low =
      joined_with_last Max (λ e. low ≤ℤ whole e names) (λ a b k. subst (λ z. low ≤ℤ z) (sym (whole_max a b names)) (max_above_too _ _ low k)) (map (least_by first column) rows) (number low)
      (subst (λ z. low ≤ℤ z) (sym (number_is low names)) (same low))
    where
      same : (z : ℤ) → z ≤ℤ z
      same z = omega (arith, ints)

  pub upper_kept : (rows : List Affine) (high : ℤ) → whole (upper_end first column rows high) names ≤ℤ high
  upper_kept rows high =
      joined_with_last Min (λ e. whole e names ≤ℤ high) (λ a b k. subst (λ z. z ≤ℤ high) (sym (whole_min a b names)) (min_below_too _ _ high k)) (map (greatest_by first column) rows) (number high)
      (subst (λ z. z ≤ℤ high) (sym (number_is high names)) (same high))
    where
      same : (z : ℤ) → z ≤ℤ z
      same z = omega (arith, ints)

  -- where the names lie in the first of the ranges
  module _ (before after : List (ℤ × ℤ)) (are : ranges ≡ before ++ after) (inside : InBox before names) where
    row_there : (row : Affine) → IsRow column ranges row → IsRow (length names) (before ++ after) row
    row_there row r = subst (λ rs. IsRow (length names) rs row) are (row_here row r)

    lowers_read : (rows : List Affine) → All (IsRow column ranges) rows → All (BoundsBelow column) rows → All (λ e. IsReadable e names) (map (least_by first column) rows)
    lowers_read [] w b = All-nil (λ e. IsReadable e names)
    lowers_read (row ∷ rows) w b =
        All-cons (λ e. IsReadable e names) (least_by first column row) (map (least_by first column) rows)
        (subst (λ k. IsReadable (least_by first k row) names) (sym at)
        (least_reads first row names few_here before after inside (row_there row (All-head (IsRow column ranges) row rows w)) (below_here row (All-head (BoundsBelow column) row rows b))))
        (lowers_read rows (All-tail (IsRow column ranges) row rows w) (All-tail (BoundsBelow column) row rows b))

    uppers_read : (rows : List Affine) → All (IsRow column ranges) rows → All (BoundsAbove column) rows → All (λ e. IsReadable e names) (map (greatest_by first column) rows)
    uppers_read [] w b = All-nil (λ e. IsReadable e names)
    uppers_read (row ∷ rows) w b =
        All-cons (λ e. IsReadable e names) (greatest_by first column row) (map (greatest_by first column) rows)
        (subst (λ k. IsReadable (greatest_by first k row) names) (sym at)
        (greatest_reads first row names few_here before after inside (row_there row (All-head (IsRow column ranges) row rows w)) (above_here row (All-head (BoundsAbove column) row rows b))))
        (uppers_read rows (All-tail (IsRow column ranges) row rows w) (All-tail (BoundsAbove column) row rows b))

    pub lower_reads : (rows : List Affine) (low : ℤ) → All (IsRow column ranges) rows → All (BoundsBelow column) rows → unsigned_abs low < 2 ^ 63 → IsReadable (lower_end first column rows low) names
    lower_reads rows low w b l =
        joined_with_all Max (λ e. IsReadable e names) (λ a b h k. reads_max a b names h k) (map (least_by first column) rows) (number low) (lowers_read rows w b) (reads_number low names l)

    pub upper_reads : (rows : List Affine) (high : ℤ) → All (IsRow column ranges) rows → All (BoundsAbove column) rows → unsigned_abs high < 2 ^ 63 → IsReadable (upper_end first column rows high) names
    upper_reads rows high w b l =
        joined_with_all Min (λ e. IsReadable e names) (λ a b h k. reads_min a b names h k) (map (greatest_by first column) rows) (number high) (uppers_read rows w b) (reads_number high names l)

-- ---- the ends of one statement

next_column : (column : ℕ) (names : List ℤ) (x : ℤ) → column ≡ length names → suc column ≡ length (names ++ x ∷ [])
next_column column names x e = let l : length (names ++ x ∷ []) ≡ length names + 1 = length_append names (x ∷ []) in omega arith

pub keeps_from : (first column : ℕ) (sides : List Sides) (box rest before : List (ℤ × ℤ)) (names : List ℤ) (ranges : List (ℤ × ℤ)) → column ≡ length names → first ≤ column
    → ranges ≡ before ++ rest → InBox before names → AreSidesFrom column ranges sides → length sides ≡ length rest → Nested box rest → All IsSmall rest
    → Keeps rest (ends_from first column sides box) names
keeps_from first column [] [] [] before names ranges at few are inside s l n small = tt
keeps_from first column [] box (r ∷ rest) before names ranges at few are inside s l n small = absurd (omega arith)
keeps_from first column (s ∷ ss) box [] before names ranges at few are inside q l n small = absurd (omega arith)
keeps_from first column [] (b ∷ box) [] before names ranges at few are inside s l n small = absurd n
keeps_from first column (s ∷ ss) [] (r ∷ rest) before names ranges at few are inside q l n small = absurd n
keeps_from first column (s ∷ ss) (b ∷ box) (r ∷ rest) before names ranges at few are inside q l n small =
    let own : IsSmall r = small 0 r (omega arith) in
    let ends = low_small r.0 r.1 b.0 b.1 own.0 own.1 n.0 n.1 n.2 in (
      lower_reads first column names at few ranges before (r ∷ rest) are inside s.0 b.0 (q.0).lower (q.0).below ends.0,
      upper_reads first column names at few ranges before (r ∷ rest) are inside s.1 b.1 (q.0).upper (q.0).above ends.1,
      through r.0 b.0 _ n.0 (lower_kept first column names at few ranges s.0 b.0),
      through _ b.1 r.1 (upper_kept first column names at few ranges s.1 b.1) n.2,
      λ x low high.
          keeps_from first (suc column) ss box rest (before ++ r ∷ []) (names ++ x ∷ []) ranges (next_column column names x at) (omega arith) (are ∙ sym (push_append before r rest)) (box_push before names r x inside low high)
          q.1 (omega arith) n.3 (λ i y m. small (suc i) y (omega arith)),
    )

take_next : (names : List ℤ) (x : ℤ) (t : List ℤ) → take (suc (length names)) (names ++ x ∷ t) ≡ names ++ x ∷ []
take_next [] x t = refl
take_next (y ∷ names) x t = ap (λ l. y ∷ l) (take_next names x t)

pub lies_from : (first column : ℕ) (sides : List Sides) (box : List (ℤ × ℤ)) (names t : List ℤ) (ranges : List (ℤ × ℤ)) → column ≡ length names → first ≤ column
    → AreSidesFrom column ranges sides → length sides ≡ length box → HoldFrom column sides (names ++ t) → InBox box t → LiesBetween (ends_from first column sides box) names t
lies_from first column [] [] names [] ranges at few s l h b = tt
lies_from first column [] [] names (x ∷ t) ranges at few s l h b = absurd b
lies_from first column [] (r ∷ box) names t ranges at few s l h b = absurd (omega arith)
lies_from first column (s ∷ ss) [] names t ranges at few q l h b = absurd (omega arith)
lies_from first column (s ∷ ss) (r ∷ box) names [] ranges at few q l h b = absurd b
lies_from first column (s ∷ ss) (r ∷ box) names (x ∷ t) ranges at few q l h b =
    let here : take (suc column) (names ++ x ∷ t) ≡ names ++ x ∷ [] = ap (λ k. take (suc k) (names ++ x ∷ t)) at ∙ take_next names x t in (
      lower_holds first column names at few ranges x s.0 r.0 (q.0).lower (q.0).below (subst (λ point. All (Meets point) s.0) here h.0) b.0,
      upper_holds first column names at few ranges x s.1 r.1 (q.0).upper (q.0).above (subst (λ point. All (Meets point) s.1) here h.1) b.1,
      lies_from first (suc column) ss box (names ++ x ∷ []) t ranges (next_column column names x at) (omega arith) q.1 (omega arith)
          (subst (HoldFrom (suc column) ss) (sym (push_append names x t)) h.2) b.2,
    )

-- each turn meets the rows
pub turns_from : (first column : ℕ) (sides : List Sides) (box : List (ℤ × ℤ)) (names ts : List ℤ) (ranges : List (ℤ × ℤ)) → column ≡ length names → first ≤ column
    → AreSidesFrom column ranges sides → IsTurn (ends_from first column sides box) names ts → MeetAlong sides names ts
turns_from first column sides box names [] ranges at few s h = tt
turns_from first column [] box names (x ∷ ts) ranges at few s h = absurd h
turns_from first column (s ∷ ss) [] names (x ∷ ts) ranges at few q h = absurd h
turns_from first column (s ∷ ss) (r ∷ box) names (x ∷ ts) ranges at few q h = (
  lower_met first column names at few ranges x s.0 r.0 (q.0).lower (q.0).below h.0,
  upper_met first column names at few ranges x s.1 r.1 (q.0).upper (q.0).above h.1,
  turns_from first (suc column) ss box (names ++ x ∷ []) ts ranges (next_column column names x at) (omega arith) q.1 h.2,
)

-- ---- the ends of two

pub both_long : (as' bs : List (Ix × Ix)) → length as' ≡ length bs → length (both_ends as' bs) ≡ length as'
both_long [] bs l = refl
both_long (a ∷ as') [] l = absurd (omega arith)
both_long (a ∷ as') (b ∷ bs) l = ap suc (both_long as' bs (omega arith))

pub lies_first : (as' bs : List (Ix × Ix)) (names t : List ℤ) → length as' ≡ length bs → LiesBetween as' names t → LiesBetween (both_ends as' bs) names t
lies_first [] bs names t l h = h
lies_first (a ∷ as') [] names t l h = absurd (omega arith)
lies_first (a ∷ as') (b ∷ bs) names [] l h = absurd h
lies_first (a ∷ as') (b ∷ bs) names (x ∷ t) l h = (
  subst (λ z. z ≤ℤ x) (sym (whole_min a.0 b.0 names)) (min_below _ _ x h.0),
  subst (λ z. x ≤ℤ z) (sym (whole_max a.1 b.1 names)) (max_above _ _ x h.1),
  lies_first as' bs (names ++ x ∷ []) t (omega arith) h.2,
)

pub lies_second : (as' bs : List (Ix × Ix)) (names t : List ℤ) → length as' ≡ length bs → LiesBetween bs names t → LiesBetween (both_ends as' bs) names t
lies_second [] [] names t l h = h
lies_second [] (b ∷ bs) names t l h = absurd (omega arith)
lies_second (a ∷ as') [] names t l h = absurd (omega arith)
lies_second (a ∷ as') (b ∷ bs) names [] l h = absurd h
lies_second (a ∷ as') (b ∷ bs) names (x ∷ t) l h = (
  subst (λ z. z ≤ℤ x) (sym (whole_min a.0 b.0 names)) (min_below_too _ _ x h.0),
  subst (λ z. x ≤ℤ z) (sym (whole_max a.1 b.1 names)) (max_above_too _ _ x h.1),
  lies_second as' bs (names ++ x ∷ []) t (omega arith) h.2,
)

pub from_long : (first column : ℕ) (sides : List Sides) (box : List (ℤ × ℤ)) → length sides ≡ length box → length (ends_from first column sides box) ≡ length box
from_long first column [] [] l = refl
from_long first column [] (r ∷ box) l = absurd (omega arith)
from_long first column (s ∷ ss) [] l = absurd (omega arith)
from_long first column (s ∷ ss) (r ∷ box) l = ap suc (from_long first (suc column) ss box (omega arith))
