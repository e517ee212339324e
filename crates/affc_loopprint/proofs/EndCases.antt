-- What holds of the ends of loops by rows, by the kinds of expressions of which they are made.
use Rattle.std.proofs.Common.{◌≡◌, inl, inr, ℕ, zero, suc, ◌+◌, ◌*◌, ◌^◌, ◌≤◌, ℤ, pos, negsuc, ◌<ℤ◌, neg_ℤ, unsigned_abs, List, [], ◌∷◌, ◌++◌, length, get_or, map, take, min, refl, sym, ap, ◌∙◌, arith, length-append, length-take}
use Rattle.std.specs.List.{All}
use Rattle.std.proofs.Math.Nat.{mul-suc}
use Rattle.std.proofs.lemmas.Int.{ints}
use Rattle.std.proofs.lemmas.List.{length-map}
use Rattle.std.proofs.lemmas.List.Elements.{All-nil, All-cons, All-head, All-tail, All-append, All-map, All-take}
use Rattle.affc_rows.specs.Forms.{Affine}
use Rattle.affc_ast.specs.declared.tree.Ix.{Ix}
use Rattle.affc_ast.specs.declared.tree.Ix.TheVariants.{Min, Max, Floord, Ceild}
use Rattle.affc_trace.specs.Law.{IsIn}
use Rattle.affc_domain.proofs.Lists.{neg_size}
use Rattle.affc_loops.specs.Ends.{rest_of, opposite, last_of, rounded_up, rounded_down, least_by, greatest_by, joined, joined_with, lower_end, upper_end, Sides, ends_from, both_ends, each_ends, all_ends, BoundsBelow, BoundsAbove}
use Rattle.affc_loops.specs.Loops.{Scheduled, times_of}
use Rattle.affc_loops.specs.Trees.{number, form_tree}
use Rattle.affc_loops.proofs.EndLists.{both_long, from_long}
use Rattle.affc_loops.proofs.Joined.{joined_all}
use Rattle.affc_loops.proofs.Sizes.{Within}
use Rattle.affc_loopprint.specs.Rows.{IsPrintable, ArePrintableFrom, ArePrintableOfEach}
use Rattle.affc_loopprint.proofs.Sums.{AreNarrow}

-- the kinds of which ends are made, at a column: a form over the names before it, and an expression that joins so many operands, so deep
pub record EndCases (first : ℕ) (F : (column : ℕ) → Ix → Type 0) (P : (operands deep column : ℕ) → Ix → Type 0) : Type 0 where
  pub range_end : (column : ℕ) (z : ℤ) → unsigned_abs z ≤ 2 ^ 62 → P 1 0 column (number z)
  pub form : (column : ℕ) (f : Affine) → first ≤ column → length f.coefs ≡ column → AreNarrow f.coefs → unsigned_abs f.constant ≤ 2 ^ 62 → F column (form_tree first first f)
  pub form_alone : (column : ℕ) (e : Ix) → F column e → P 1 0 column e
  pub up : (column by : ℕ) (e : Ix) → suc by ≤ 2 ^ 62 → F column e → P 1 0 column (Ceild e (pos (suc by)))
  pub down : (column by : ℕ) (e : Ix) → suc by ≤ 2 ^ 62 → F column e → P 1 0 column (Floord e (pos (suc by)))
  pub least : (m n d column : ℕ) (a b : Ix) → P m d column a → P n d column b → P (m + n) (suc d) column (Min a b)
  pub greatest : (m n d column : ℕ) (a b : Ix) → P m d column a → P n d column b → P (m + n) (suc d) column (Max a b)
  pub more : (m n d k column : ℕ) (e : Ix) → m ≤ n → d ≤ k → P m d column e → P n k column e

-- ---- Joined operands

module _ {A : Type 0} (op : A → A → A) (P : (operands deep : ℕ) → A → Type 0)
    (both : (m n d : ℕ) (a b : A) → P m d a → P n d b → P (m + n) (suc d) (op a b)) (more : (m n d k : ℕ) (a : A) → m ≤ n → d ≤ k → P m d a → P n k a) where
  joined_so : (each low m d : ℕ) (x : A) (ys : List A) → low ≤ d → P m d x → All (P each low) ys → P (m + each * length ys) (d + length ys) (joined op x ys)
  joined_so each low m d x [] l h s = more m (m + each * 0) d (d + 0) x (omega arith) (omega arith) h
  joined_so each low m d x (y ∷ ys) l h s =
      let e : each * suc (length ys) ≡ each * length ys + each = mul-suc each (length ys) in
      let next : P (m + each) (suc d) (op x y) = both m each d x y h (more each each low d y (omega arith) l (All-head (P each low) y ys s)) in
      more (m + each + each * length ys) (m + each * suc (length ys)) (suc d + length ys) (d + suc (length ys)) (joined op (op x y) ys) (omega (arith, e)) (omega arith)
      (joined_so each low (m + each) (suc d) (op x y) ys (omega (arith, l)) next (All-tail (P each low) y ys s))

  -- of at most nine
  nine_so : (xs : List A) (last : A) → length xs ≤ 8 → All (P 1 0) xs → P 1 0 last → P 9 8 (joined_with op xs last)
  nine_so [] last l s h = more 1 9 0 8 last (omega arith) (omega arith) h
  nine_so (x ∷ xs) last l s h =
      let e : length (xs ++ last ∷ []) ≡ length xs + 1 = length-append xs (last ∷ []) in
      more (1 + 1 * length (xs ++ last ∷ [])) 9 (0 + length (xs ++ last ∷ [])) 8 (joined op x (xs ++ last ∷ [])) (omega (arith, e, l)) (omega (arith, e, l))
      (joined_so 1 0 1 0 x (xs ++ last ∷ []) (omega arith) (All-head (P 1 0) x xs s)
      (All-append (P 1 0) xs (last ∷ []) (All-tail (P 1 0) x xs s) (All-cons (P 1 0) last [] h (All-nil (P 1 0)))))

-- ---- A row

neg_narrow : (c : ℤ) → unsigned_abs c ≤ 2 ^ 62 → unsigned_abs (neg_ℤ c) ≤ 2 ^ 62
neg_narrow c h = let e = neg_size c in omega (arith, e, h)

module _ (column : ℕ) (row : Affine) (p : IsPrintable column row) where
  rest_narrow : AreNarrow (take column row.coefs)
  rest_narrow = All-take (λ c. unsigned_abs c ≤ 2 ^ 62) column row.coefs (λ i d l. let w : unsigned_abs (get_or row.coefs i d) ≤ 2 ^ 40 = p.coefs i d l in omega (arith, w))

  opposite_narrow : AreNarrow (map neg_ℤ (take column row.coefs))
  opposite_narrow = All-map (λ c. unsigned_abs c ≤ 2 ^ 62) neg_ℤ (take column row.coefs) (λ i d l. neg_narrow (get_or (take column row.coefs) i d) (rest_narrow i d l))

  constant_narrow : unsigned_abs row.constant ≤ 2 ^ 62
  constant_narrow = let w = p.constant in omega (arith, w)

  last_narrow : unsigned_abs (last_of column row) ≤ 2 ^ 62
  last_narrow =
      let l = p.width in
      let w : unsigned_abs (last_of column row) ≤ 2 ^ 40 = p.coefs column (pos 0) (omega (arith, l)) in
      omega (arith, w)

  rest_wide : length (take column row.coefs) ≡ column
  rest_wide =
      let l = p.width in
      let t : length (take column row.coefs) ≡ min column (length row.coefs) = length-take column row.coefs in
      omega (arith, l, t)

-- ---- One after the other

-- both ends of each component, of which the first has this column
abbrev pub EndsFrom : (P : (column : ℕ) → Ix → Type 0) → (column : ℕ) → List (Ix × Ix) → Type 0
EndsFrom P column [] = Unit {0}
EndsFrom P column (e ∷ es) = P column e.0 × P column e.1 × EndsFrom P (suc column) es

-- ---- How many there are

module _ (first components : ℕ) (params : List (ℤ × ℤ)) where
  each_count : (es : List Scheduled) (rows : List (List Sides)) → ArePrintableOfEach first components es rows → length (each_ends first params es rows) ≡ length es
  each_count [] rows p = refl
  each_count (e ∷ es) [] p = absurd p
  each_count (e ∷ es) (ss ∷ rows) p = ap suc (each_count es rows p.2)

  abbrev AllLong : List Scheduled → Type 0
  AllLong es = (e : Scheduled) → IsIn e es → length (times_of params e) ≡ components

  each_long : (es : List Scheduled) (rows : List (List Sides)) → ArePrintableOfEach first components es rows → AllLong es → All (λ ends. length ends ≡ components) (each_ends first params es rows)
  each_long [] rows p l = All-nil (λ ends. length ends ≡ components)
  each_long (e ∷ es) [] p l = absurd p
  each_long (e ∷ es) (ss ∷ rows) p l =
      All-cons (λ ends. length ends ≡ components) (ends_from first first ss (times_of params e)) (each_ends first params es rows)
      (from_long first first ss (times_of params e) (p.0 ∙ sym (l e (inl refl))) ∙ l e (inl refl)) (each_long es rows p.2 (λ f i. l f (inr i)))

  -- one for each component, where there are statements
  pub ends_long : (es : List Scheduled) (rows : List (List Sides)) → ArePrintableOfEach first components es rows → AllLong es
      → (e : Scheduled) → IsIn e es → length (all_ends (each_ends first params es rows)) ≡ components
  ends_long [] rows p l f i = absurd i
  ends_long (e ∷ es) [] p l f i = absurd p
  ends_long (e ∷ es) (ss ∷ rows) p l f i =
      let own = ends_from first first ss (times_of params e) in
      joined_all both_ends (λ ends. length ends ≡ components) (λ as' bs k m. both_long as' bs (k ∙ sym m) ∙ k) own (each_ends first params es rows)
      (from_long first first ss (times_of params e) (p.0 ∙ sym (l e (inl refl))) ∙ l e (inl refl)) (each_long es rows p.2 (λ g j. l g (inr j)))

  pub ends_low : (es : List Scheduled) (rows : List (List Sides)) → ArePrintableOfEach first components es rows → AllLong es → length (all_ends (each_ends first params es rows)) ≤ components
  ends_low [] rows p l = omega arith
  ends_low (e ∷ es) rows p l = let k = ends_long (e ∷ es) rows p l e (inl refl) in omega (arith, k)

-- ---- What holds of all

module _ (first : ℕ) (F : ℕ → Ix → Type 0) (P : ℕ → ℕ → ℕ → Ix → Type 0) (c : EndCases first F P) where
  up_has : (column : ℕ) (e : Ix) (by : ℤ) → pos 0 <ℤ by → unsigned_abs by ≤ 2 ^ 62 → F column e → P 1 0 column (rounded_up e by)
  up_has column e (pos zero) h w f = absurd (omega (arith, ints, h))
  up_has column e (pos (suc zero)) h w f = c.form_alone column e f
  up_has column e (pos (suc (suc n))) h w f = c.up column (suc n) e w f
  up_has column e (negsuc n) h w f = absurd (omega (arith, ints, h))

  down_has : (column : ℕ) (e : Ix) (by : ℤ) → pos 0 <ℤ by → unsigned_abs by ≤ 2 ^ 62 → F column e → P 1 0 column (rounded_down e by)
  down_has column e (pos zero) h w f = absurd (omega (arith, ints, h))
  down_has column e (pos (suc zero)) h w f = c.form_alone column e f
  down_has column e (pos (suc (suc n))) h w f = c.down column (suc n) e w f
  down_has column e (negsuc n) h w f = absurd (omega (arith, ints, h))

  risen : (z : ℤ) → z <ℤ pos 0 → pos 0 <ℤ neg_ℤ z
  risen z h = omega (arith, ints)

  least_has : (column : ℕ) (row : Affine) → first ≤ column → IsPrintable column row → BoundsBelow column row → P 1 0 column (least_by first column row)
  least_has column row l p below =
      let f = opposite (rest_of column row) in
      let wide : length f.coefs ≡ column = length-map (take column row.coefs) neg_ℤ ∙ rest_wide column row p in
      up_has column (form_tree first first f) (last_of column row) below (last_narrow column row p)
      (c.form column f l wide (opposite_narrow column row p) (neg_narrow row.constant (constant_narrow column row p)))

  greatest_has : (column : ℕ) (row : Affine) → first ≤ column → IsPrintable column row → BoundsAbove column row → P 1 0 column (greatest_by first column row)
  greatest_has column row l p above =
      let f = rest_of column row in
      down_has column (form_tree first first f) (neg_ℤ (last_of column row)) (risen (last_of column row) above) (neg_narrow (last_of column row) (last_narrow column row p))
      (c.form column f l (rest_wide column row p) (rest_narrow column row p) (constant_narrow column row p))

  -- the ends of one statement

  lower_has : (column : ℕ) (rows : List Affine) (low : ℤ) → first ≤ column → length rows ≤ 8 → All (IsPrintable column) rows → All (BoundsBelow column) rows → unsigned_abs low ≤ 2 ^ 62
      → P 9 8 column (lower_end first column rows low)
  lower_has column rows low l few p b w =
      let long : length (map (least_by first column) rows) ≡ length rows = length-map rows (least_by first column) in
      nine_so Max (λ m d. P m d column) (λ m n d. c.greatest m n d column) (λ m n d k. c.more m n d k column)
      (map (least_by first column) rows) (number low) (omega (arith, long, few))
      (All-map (P 1 0 column) (least_by first column) rows (λ i d h. least_has column (get_or rows i d) l (p i d h) (b i d h))) (c.range_end column low w)

  upper_has : (column : ℕ) (rows : List Affine) (high : ℤ) → first ≤ column → length rows ≤ 8 → All (IsPrintable column) rows → All (BoundsAbove column) rows → unsigned_abs high ≤ 2 ^ 62
      → P 9 8 column (upper_end first column rows high)
  upper_has column rows high l few p b w =
      let long : length (map (greatest_by first column) rows) ≡ length rows = length-map rows (greatest_by first column) in
      nine_so Min (λ m d. P m d column) (λ m n d. c.least m n d column) (λ m n d k. c.more m n d k column)
      (map (greatest_by first column) rows) (number high) (omega (arith, long, few))
      (All-map (P 1 0 column) (greatest_by first column) rows (λ i d h. greatest_has column (get_or rows i d) l (p i d h) (b i d h))) (c.range_end column high w)

  from_has : (column : ℕ) (sides : List Sides) (ranges : List (ℤ × ℤ)) → first ≤ column → ArePrintableFrom column sides → All (Within (2 ^ 62)) ranges
      → EndsFrom (P 9 8) column (ends_from first column sides ranges)
  from_has column [] ranges l p w = tt
  from_has column (s ∷ ss) [] l p w = tt
  from_has column (s ∷ ss) (r ∷ ranges) l p w =
      let own = p.0 in
      let e : Within (2 ^ 62) r = w 0 r (omega arith) in (
        lower_has column s.0 r.0 l own.few_lower own.lower own.below e.0,
        upper_has column s.1 r.1 l own.few_upper own.upper own.above e.1,
        from_has (suc column) ss ranges (omega (arith, l)) p.1 (λ i y m. w (suc i) y (omega (arith, m))),
      )

  -- the ends of all statements

  both_have : (m n d column : ℕ) (as' bs : List (Ix × Ix)) → EndsFrom (P m d) column as' → EndsFrom (P n d) column bs → EndsFrom (P (m + n) (suc d)) column (both_ends as' bs)
  both_have m n d column [] bs h k = tt
  both_have m n d column (a ∷ as') [] h k = tt
  both_have m n d column (a ∷ as') (b ∷ bs) h k = (c.least m n d column a.0 b.0 h.0 k.0, c.greatest m n d column a.1 b.1 h.1 k.1, both_have m n d (suc column) as' bs h.2 k.2)

  more_have : (m n d k column : ℕ) (es : List (Ix × Ix)) → m ≤ n → d ≤ k → EndsFrom (P m d) column es → EndsFrom (P n k) column es
  more_have m n d k column [] a b h = tt
  more_have m n d k column (e ∷ es) a b h = (c.more m n d k column e.0 a b h.0, c.more m n d k column e.1 a b h.1, more_have m n d k (suc column) es a b h.2)

  each_have : (components : ℕ) (params : List (ℤ × ℤ)) (es : List Scheduled) (rows : List (List Sides)) → ArePrintableOfEach first components es rows
      → ((e : Scheduled) → IsIn e es → All (Within (2 ^ 62)) (times_of params e)) → All (EndsFrom (P 9 8) first) (each_ends first params es rows)
  each_have n params [] rows p w = All-nil (EndsFrom (P 9 8) first)
  each_have n params (e ∷ es) [] p w = absurd p
  each_have n params (e ∷ es) (ss ∷ rows) p w =
      All-cons (EndsFrom (P 9 8) first) (ends_from first first ss (times_of params e)) (each_ends first params es rows)
      (from_has first ss (times_of params e) (omega arith) p.1 (w e (inl refl))) (each_have n params es rows p.2 (λ f i. w f (inr i)))

  -- at most 64 statements
  pub all_have : (components : ℕ) (params : List (ℤ × ℤ)) (es : List Scheduled) (rows : List (List Sides)) → ArePrintableOfEach first components es rows → length es ≤ 64
      → ((e : Scheduled) → IsIn e es → All (Within (2 ^ 62)) (times_of params e)) → EndsFrom (P 576 71) first (all_ends (each_ends first params es rows))
  all_have n params [] rows p few w = tt
  all_have n params (e ∷ es) [] p few w = absurd p
  all_have n params (e ∷ es) (ss ∷ rows) p few w =
      let own = ends_from first first ss (times_of params e) in
      let others = each_ends first params es rows in
      let count = each_count first n params es rows p.2 in
      more_have (9 + 9 * length others) 576 (8 + length others) 71 first (joined both_ends own others) (omega (arith, count, few)) (omega (arith, count, few))
      (joined_so both_ends (λ m d. EndsFrom (P m d) first) (λ m k d. both_have m k d first) (λ m k d j. more_have m k d j first) 9 8 9 8 own others (omega arith)
      (from_has first ss (times_of params e) (omega arith) p.1 (w e (inl refl))) (each_have n params es rows p.2 (λ f i. w f (inr i))))
