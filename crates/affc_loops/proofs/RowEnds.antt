-- The number that a row allows: its value, and that it is read.
use Rattle.std.proofs.Common.{◌≡◌, ℕ, suc, ◌+◌, ◌-◌, ◌*◌, ◌^◌, ◌<◌, ◌≤◌, ℤ, pos, negsuc, ◌+ℤ◌, ◌*ℤ◌, ◌≤ℤ◌, ◌<ℤ◌, neg_ℤ, List, [], ◌∷◌, ◌++◌, length, get_or, map, take, drop, min, max, refl, sym, ap, subst, ◌∙◌, arith, length-take, length-drop}
use Rattle.std.specs.Prelude.{unsigned_abs}
use Rattle.std.proofs.Common.{mul-le-mul_left}
use Rattle.std.proofs.lemmas.Int.{ints}
use Rattle.std.proofs.lemmas.List.{take-append-drop}
use Rattle.affc_rows.specs.Forms.{Affine, dot, dot_magnitude, value, magnitude}
use Rattle.affc_rows.proofs.IntLemmas.{neg-mul}
use Rattle.affc_system.specs.Boxes.{InBox, reach, box_magnitude}
use Rattle.affc_system.specs.Systems.{Meets}
use Rattle.affc_ast.specs.Fits.{whole}
use Rattle.affc_trace.proofs.LastStores.{append_nil}
use Rattle.affc_domain.proofs.Lists.{neg_size}
use Rattle.affc_safe.specs.Overflow.{IsReadable}
use Rattle.affc_loops.specs.Ends.{rest_of, opposite, last_of, least_by, greatest_by, IsRow, BoundsBelow, BoundsAbove}
use Rattle.affc_loops.specs.Trees.{form_tree}
use Rattle.affc_loops.proofs.EndTrees.{reads_up, reads_down, up_is, down_is, up_back, down_back}
use Rattle.affc_loops.proofs.FormReads.{form_reads}
use Rattle.affc_loops.proofs.FormTrees.{form_is}

-- ---- a form over the names in sight

module _ (f : Affine) (names : List ℤ) (first : ℕ) (few : first ≤ length names) (wide : length f.coefs ≡ length names) where
  abbrev front : List ℤ
  front = take first names

  abbrev back : List ℤ
  back = drop first names

  together : front ++ back ≡ names
  together = take-append-drop first names

  same_names : front ++ ([] ++ (back ++ [])) ≡ names
  same_names = ap (λ m. front ++ m) (append_nil back) ∙ together

  front_long : first ≡ length front
  front_long = let l : length (take first names) ≡ min first (length names) = length-take first names in omega arith

  from_long : first ≡ length (front ++ [])
  from_long = front_long ∙ ap length (sym (append_nil front))

  its_width : length f.coefs ≡ length front + length back
  its_width =
      let l : length (drop first names) ≡ length names - first = length-drop first names in
      let k : first ≡ length front = front_long in
      omega arith

  pub tree_is : whole (form_tree first first f) names ≡ value f names
  tree_is =
      ap (whole (form_tree first first f)) (sym same_names)
      ∙ form_is f front [] back [] first first front_long from_long its_width
      ∙ ap (value f) together

  pub tree_reads : magnitude f names < 2 ^ 63 → IsReadable (form_tree first first f) names
  tree_reads h =
      subst (IsReadable (form_tree first first f)) same_names
      (form_reads f front [] back [] first first front_long from_long its_width (subst (λ m. magnitude f m < 2 ^ 63) (sym together) h))

-- ---- opposites

neg_sum : (a b : ℤ) → neg_ℤ a +ℤ neg_ℤ b ≡ neg_ℤ (a +ℤ b)
neg_sum a b = omega (arith, ints)

pub dot_opposite : (cs xs : List ℤ) → dot (map neg_ℤ cs) xs ≡ neg_ℤ (dot cs xs)
dot_opposite [] xs = refl
dot_opposite (c ∷ cs) [] = refl
dot_opposite (c ∷ cs) (x ∷ xs) =
    ap (λ z. z +ℤ dot (map neg_ℤ cs) xs) (neg-mul c x)
    ∙ ap (λ z. neg_ℤ (c *ℤ x) +ℤ z) (dot_opposite cs xs)
    ∙ neg_sum (c *ℤ x) (dot cs xs)

opposite_value : (f : Affine) (xs : List ℤ) → value (opposite f) xs ≡ neg_ℤ (value f xs)
opposite_value f xs = ap (λ z. z +ℤ neg_ℤ f.constant) (dot_opposite f.coefs xs) ∙ neg_sum (dot f.coefs xs) f.constant

dot_opposite_size : (cs xs : List ℤ) → dot_magnitude (map neg_ℤ cs) xs ≡ dot_magnitude cs xs
dot_opposite_size [] xs = refl
dot_opposite_size (c ∷ cs) [] = refl
dot_opposite_size (c ∷ cs) (x ∷ xs) =
    ap (λ n. n * unsigned_abs x + dot_magnitude (map neg_ℤ cs) xs) (neg_size c)
    ∙ ap (λ n. unsigned_abs c * unsigned_abs x + n) (dot_opposite_size cs xs)

opposite_size : (f : Affine) (xs : List ℤ) → magnitude (opposite f) xs ≡ magnitude f xs
opposite_size f xs = ap (λ n. n + unsigned_abs (neg_ℤ f.constant)) (dot_opposite_size f.coefs xs) ∙ ap (λ n. dot_magnitude f.coefs xs + n) (neg_size f.constant)

opposite_long : (cs : List ℤ) → length (map neg_ℤ cs) ≡ length cs
opposite_long [] = refl
opposite_long (c ∷ cs) = ap suc (opposite_long cs)

-- ---- a row and its last column

alone : (c x : ℤ) → (c *ℤ x) +ℤ pos 0 ≡ pos 0 +ℤ (c *ℤ x)
alone c x = omega (arith, ints)

grouped : (a b d c : ℤ) → b ≡ d +ℤ c → a +ℤ b ≡ (a +ℤ d) +ℤ c
grouped a b d c e = omega (arith, ints)

last_value : (cs names : List ℤ) (x : ℤ) → length cs ≡ suc (length names) → dot cs (names ++ x ∷ []) ≡ dot (take (length names) cs) names +ℤ (get_or cs (length names) (pos 0) *ℤ x)
last_value [] names x l = absurd (omega arith)
last_value (c ∷ []) [] x l = alone c x
last_value (c ∷ d ∷ cs) [] x l = absurd (omega arith)
last_value (c ∷ cs) (y ∷ names) x l = grouped (c *ℤ y) _ (dot (take (length names) cs) names) _ (last_value cs names x (omega arith))

aside : (a b c k : ℤ) → a ≡ b +ℤ c → a +ℤ k ≡ (b +ℤ k) +ℤ c
aside a b c k e = omega (arith, ints)

pub row_value : (row : Affine) (names : List ℤ) (x : ℤ) → length row.coefs ≡ suc (length names)
    → value row (names ++ x ∷ []) ≡ value (rest_of (length names) row) names +ℤ (last_of (length names) row *ℤ x)
row_value row names x l = aside _ _ _ row.constant (last_value row.coefs names x l)

rest_long : (row : Affine) (column : ℕ) → length row.coefs ≡ suc column → length (rest_of column row).coefs ≡ column
rest_long row column l = let t : length (take column row.coefs) ≡ min column (length row.coefs) = length-take column row.coefs in omega arith

-- ---- its size over a box

in_reach : (r : ℤ × ℤ) (x : ℤ) → r.0 ≤ℤ x → x ≤ℤ r.1 → unsigned_abs x ≤ reach r
in_reach (a, b) x l h = by a b x l h
  where
    by : (a b x : ℤ) → a ≤ℤ x → x ≤ℤ b → unsigned_abs x ≤ max (unsigned_abs a) (unsigned_abs b)
    by a (pos m) (pos n) l h = omega (arith, ints)
    by a (negsuc m) (pos n) l h = absurd (omega (arith, ints))
    by (pos m) b (negsuc n) l h = absurd (omega (arith, ints))
    by (negsuc m) b (negsuc n) l h = omega (arith, ints)

sum_le : (a b c d : ℕ) → a ≤ b → c ≤ d → a + c ≤ b + d
sum_le a b c d h k = omega arith

none_most : (n : ℕ) → 0 ≤ n
none_most n = omega arith

prefix_size : (cs names : List ℤ) (done rest : List (ℤ × ℤ)) → InBox done names → dot_magnitude (take (length names) cs) names ≤ box_magnitude cs (done ++ rest)
prefix_size [] [] done rest b = none_most _
prefix_size [] (y ∷ names) done rest b = none_most _
prefix_size (c ∷ cs) [] done rest b = none_most _
prefix_size (c ∷ cs) (y ∷ names) [] rest b = absurd b
prefix_size (c ∷ cs) (y ∷ names) (r ∷ done) rest b =
    sum_le _ _ _ _ (mul-le-mul_left (unsigned_abs c) (in_reach r y b.0 b.1)) (prefix_size cs names done rest b.2)

rest_size : (row : Affine) (names : List ℤ) (done rest : List (ℤ × ℤ)) → InBox done names → IsRow (length names) (done ++ rest) row → magnitude (rest_of (length names) row) names < 2 ^ 63
rest_size row names done rest b r =
    let p : dot_magnitude (take (length names) row.coefs) names ≤ box_magnitude row.coefs (done ++ rest) = prefix_size row.coefs names done rest b in
    let s : box_magnitude row.coefs (done ++ rest) + unsigned_abs row.constant ≤ 2 ^ 62 = r.small in
    omega arith

-- ---- the numbers that it allows

module _ (first : ℕ) (row : Affine) (names : List ℤ) (few : first ≤ length names) where
  module _ (width : length row.coefs ≡ suc (length names)) where
    abbrev rest : Affine
    rest = rest_of (length names) row

    rest_width : length rest.coefs ≡ length names
    rest_width = rest_long row (length names) width

    opposite_width : length (opposite rest).coefs ≡ length names
    opposite_width = opposite_long rest.coefs ∙ rest_width

    -- at a number x where the row is at least 0
    over : (v t c : ℤ) → t ≡ neg_ℤ v → pos 0 ≤ℤ (v +ℤ c) → t ≤ℤ c
    over v t c e h = omega (arith, ints)

    under : (v t c d : ℤ) → t ≡ v → d ≡ neg_ℤ c → pos 0 ≤ℤ (v +ℤ c) → d ≤ℤ t
    under v t c d e f h = omega (arith, ints)

    risen : (c : ℤ) → c <ℤ pos 0 → pos 0 <ℤ neg_ℤ c
    risen c h = omega (arith, ints)

    pub least_holds : (x : ℤ) → BoundsBelow (length names) row → Meets (names ++ x ∷ []) row → whole (least_by first (length names) row) names ≤ℤ x
    least_holds x below meets =
        up_is (form_tree first first (opposite rest)) (last_of (length names) row) names x below
        (over (value rest names) _ (last_of (length names) row *ℤ x) (tree_is (opposite rest) names first few opposite_width ∙ opposite_value rest names)
        (subst (λ z. pos 0 ≤ℤ z) (row_value row names x width) meets))

    pub greatest_holds : (x : ℤ) → BoundsAbove (length names) row → Meets (names ++ x ∷ []) row → x ≤ℤ whole (greatest_by first (length names) row) names
    greatest_holds x above meets =
        down_is (form_tree first first rest) (neg_ℤ (last_of (length names) row)) names x (risen _ above)
        (under (value rest names) _ (last_of (length names) row *ℤ x) _ (tree_is rest names first few rest_width) (neg-mul (last_of (length names) row) x)
        (subst (λ z. pos 0 ≤ℤ z) (row_value row names x width) meets))

    -- and back
    over_back : (v t c : ℤ) → t ≡ neg_ℤ v → t ≤ℤ c → pos 0 ≤ℤ (v +ℤ c)
    over_back v t c e h = omega (arith, ints)

    under_back : (v t c d : ℤ) → t ≡ v → d ≡ neg_ℤ c → d ≤ℤ t → pos 0 ≤ℤ (v +ℤ c)
    under_back v t c d e f h = omega (arith, ints)

    pub least_met : (x : ℤ) → BoundsBelow (length names) row → whole (least_by first (length names) row) names ≤ℤ x → Meets (names ++ x ∷ []) row
    least_met x below h =
        subst (λ z. pos 0 ≤ℤ z) (sym (row_value row names x width))
        (over_back (value rest names) _ (last_of (length names) row *ℤ x) (tree_is (opposite rest) names first few opposite_width ∙ opposite_value rest names)
        (up_back (form_tree first first (opposite rest)) (last_of (length names) row) names x below h))

    pub greatest_met : (x : ℤ) → BoundsAbove (length names) row → x ≤ℤ whole (greatest_by first (length names) row) names → Meets (names ++ x ∷ []) row
    greatest_met x above h =
        subst (λ z. pos 0 ≤ℤ z) (sym (row_value row names x width))
        (under_back (value rest names) _ (last_of (length names) row *ℤ x) _ (tree_is rest names first few rest_width) (neg-mul (last_of (length names) row) x)
        (down_back (form_tree first first rest) (neg_ℤ (last_of (length names) row)) names x (risen _ above) h))

  module _ (before after : List (ℤ × ℤ)) (inside : InBox before names) (is_row : IsRow (length names) (before ++ after) row) where
    size : magnitude (rest is_row.width) names < 2 ^ 63
    size = rest_size row names before after inside is_row

    pub least_reads : BoundsBelow (length names) row → IsReadable (least_by first (length names) row) names
    least_reads below =
        reads_up (form_tree first first (opposite (rest is_row.width))) (last_of (length names) row) names below
        (tree_reads (opposite (rest is_row.width)) names first few (opposite_width is_row.width) (subst (λ n. n < 2 ^ 63) (sym (opposite_size (rest is_row.width) names)) size))

    pub greatest_reads : BoundsAbove (length names) row → IsReadable (greatest_by first (length names) row) names
    greatest_reads above =
        reads_down (form_tree first first (rest is_row.width)) (neg_ℤ (last_of (length names) row)) names (risen is_row.width _ above)
        (tree_reads (rest is_row.width) names first few (rest_width is_row.width) size)
