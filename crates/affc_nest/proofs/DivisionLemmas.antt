-- A column that meets a division's rows is the quotient, and the quotient lies in its range.
use Rattle.std.proofs.Common.{◌≡◌, ℕ, zero, suc, ◌+◌, ◌^◌, ◌<◌, ◌≤◌, ℤ, pos, negsuc, neg_ℤ, ◌+ℤ◌, ◌-ℤ◌, ◌*ℤ◌, ◌≤ℤ◌, Bool, true, false, if◌then◌else◌, List, [], ◌∷◌, ◌++◌, length, replicate, refl, sym, ap, subst, ◌∙◌, arith}
use Rattle.std.specs.Prelude.{int_lt, unsigned_abs}
use Rattle.std.proofs.lemmas.Int.{ints}
use Rattle.affc_rows.specs.Forms.{Affine, value, magnitude, dot}
use Rattle.affc_rows.specs.Vocabulary.{widened}
use Rattle.affc_rows.proofs.IntLemmas.{mul-add}
use Rattle.affc_system.specs.Boxes.{IsBox, IsCorner, corner}
use Rattle.affc_system.specs.Systems.{Met}
use Rattle.affc_system.proofs.BoxLemmas.{grows, corner_in_box, corner_is_corner, value_least, value_greatest}
use Rattle.affc_ast.specs.declared.tree.Rel.TheVariants.{Less, LessEqual}
use Rattle.affc_ast.specs.Index.{floor_of}
use Rattle.affc_trace.proofs.Runs.{length_append}
use Rattle.affc_domain.proofs.FormLemmas.{number_width}
use Rattle.affc_domain.proofs.Lists.{length_push}
use Rattle.affc_nest.specs.Divisions.{multiple, division_rows, held, quotient_range}
use Rattle.affc_nest.specs.Domains.{compare_rows}
use Rattle.affc_nest.specs.Laws.{DivisionsAreQuotients, QuotientsKeepRanges}
use Rattle.affc_nest.proofs.DomainLemmas.{met_append, met_both, rows_say, say_rows}
use Rattle.affc_nest.proofs.QuestionLemmas.{widened_is}

-- ---- Quotients

module _ (k : ℕ) (z : ℤ) where
  abbrev pub Quotient : ℤ → Type 0
  Quotient q = (pos 0 ≤ℤ (z -ℤ (pos (suc k) *ℤ q))) × ((z -ℤ (pos (suc k) *ℤ q)) ≤ℤ pos k)

  pub floor_is : Quotient (floor_of z (pos (suc k)))
  floor_is = by_sign z
    where
      by_sign : (z : ℤ) → (pos 0 ≤ℤ (z -ℤ (pos (suc k) *ℤ floor_of z (pos (suc k))))) × ((z -ℤ (pos (suc k) *ℤ floor_of z (pos (suc k)))) ≤ℤ pos k)
      by_sign (pos a) = (omega (arith, ints), omega (arith, ints))
      by_sign (negsuc a) = (omega (arith, ints), omega (arith, ints))

  not_less : (q r : ℤ) → Quotient q → Quotient r → (q +ℤ pos 1) ≤ℤ r → ⊥
  not_less q r h g l = past _ _ _ (grows (suc k) (q +ℤ pos 1) r l) (mul-add (pos (suc k)) q (pos 1)) h.1 g.0
    where
      past : (a b c : ℤ) → a ≤ℤ b → a ≡ c +ℤ (pos (suc k) *ℤ pos 1) → (z -ℤ c) ≤ℤ pos k → pos 0 ≤ℤ (z -ℤ b) → ⊥
      past a b c h e i j = omega (arith, ints)

  pub one_quotient : (q : ℤ) → Quotient q → q ≡ floor_of z (pos (suc k))
  one_quotient q h = same q (floor_of z (pos (suc k))) (not_less q _ h floor_is) (not_less _ q floor_is h)
    where
      same : (q r : ℤ) → ((q +ℤ pos 1) ≤ℤ r → ⊥) → ((r +ℤ pos 1) ≤ℤ q → ⊥) → q ≡ r
      same q r a b = grind (arith, ints)

multiple_value : (columns : ℕ) (by constant q : ℤ) (xs : List ℤ) → length xs ≡ columns → value (multiple columns by constant) (xs ++ q ∷ []) ≡ (by *ℤ q) +ℤ constant
multiple_value columns by constant q xs e = ap (λ d. d +ℤ constant) (last columns xs e)
  where
    none_before : (x d : ℤ) → (pos 0 *ℤ x) +ℤ d ≡ d
    none_before x d = omega (arith, ints)

    alone : (a : ℤ) → a +ℤ pos 0 ≡ a
    alone a = omega (arith, ints)

    last : (columns : ℕ) (xs : List ℤ) → length xs ≡ columns → dot (replicate columns (pos 0) ++ by ∷ []) (xs ++ q ∷ []) ≡ by *ℤ q
    last zero [] e = alone (by *ℤ q)
    last zero (x ∷ xs) e = absurd (omega (arith, e))
    last (suc n) [] e = absurd (omega (arith, e))
    last (suc n) (x ∷ xs) e = none_before x (dot (replicate n (pos 0) ++ by ∷ []) (xs ++ q ∷ [])) ∙ last n xs (omega (arith, e))

pub multiple_width : (columns : ℕ) (by constant : ℤ) → length (multiple columns by constant).coefs ≡ suc columns
multiple_width columns by constant = length_append (replicate columns (pos 0)) (by ∷ []) ∙ ap (λ n. n + 1) (number_width columns (pos 0)) ∙ one columns
  where
    one : (n : ℕ) → n + 1 ≡ suc n
    one n = omega arith

module _ (xs : List ℤ) (q : ℤ) (f : Affine) (k : ℕ) (w : length f.coefs ≡ length xs) where
  abbrev ys : List ℤ
  ys = xs ++ q ∷ []

  abbrev g : Affine
  g = widened 1 f

  abbrev low : Affine
  low = multiple (length xs) (pos (suc k)) (pos 0)

  abbrev high : Affine
  high = multiple (length xs) (pos (suc k)) (pos (suc k))

  g_width : length g.coefs ≡ length ys
  g_width = length_append f.coefs (pos 0 ∷ []) ∙ ap (λ n. n + 1) w ∙ sym (length_append xs (q ∷ []))

  g_value : value g ys ≡ value f xs
  g_value = widened_is f xs (q ∷ []) 1 w

  side_width : (c : ℤ) → length (multiple (length xs) (pos (suc k)) c).coefs ≡ length ys
  side_width c = multiple_width (length xs) (pos (suc k)) c ∙ sym (length_push xs q)

  pub division_met : Quotient k (value f xs) q → Met ys (division_rows (length xs) f (pos (suc k)))
  division_met h =
      met_append ys (compare_rows LessEqual low g) (compare_rows Less g high)
      (say_rows low g ys (side_width (pos 0)) g_width LessEqual (at_most (value low ys) (value g ys) (value f xs) (pos (suc k) *ℤ q) (multiple_value (length xs) (pos (suc k)) (pos 0) q xs refl) g_value h.0))
      (say_rows g high ys g_width (side_width (pos (suc k))) Less (less (value high ys) (value g ys) (value f xs) (pos (suc k) *ℤ q) (multiple_value (length xs) (pos (suc k)) (pos (suc k)) q xs refl) g_value h.1))
    where
      at_most : (l u z m : ℤ) → l ≡ m +ℤ pos 0 → u ≡ z → pos 0 ≤ℤ (z -ℤ m) → l ≤ℤ u
      at_most l u z m e i h = omega (arith, ints, e, i, h)

      less : (t u z m : ℤ) → t ≡ m +ℤ pos (suc k) → u ≡ z → (z -ℤ m) ≤ℤ pos k → (u +ℤ pos 1) ≤ℤ t
      less t u z m e i h = omega (arith, ints, e, i, h)

  pub met_division : Met ys (division_rows (length xs) f (pos (suc k))) → Quotient k (value f xs) q
  met_division m =
      let b = met_both ys (compare_rows LessEqual low g) (compare_rows Less g high) m in (
        at_most (value low ys) (value g ys) (value f xs) (pos (suc k) *ℤ q) (multiple_value (length xs) (pos (suc k)) (pos 0) q xs refl) g_value (rows_say low g ys (side_width (pos 0)) g_width LessEqual b.0),
        less (value high ys) (value g ys) (value f xs) (pos (suc k) *ℤ q) (multiple_value (length xs) (pos (suc k)) (pos (suc k)) q xs refl) g_value (rows_say g high ys g_width (side_width (pos (suc k))) Less b.1),
      )
    where
      at_most : (l u z m : ℤ) → l ≡ m +ℤ pos 0 → u ≡ z → l ≤ℤ u → pos 0 ≤ℤ (z -ℤ m)
      at_most l u z m e i h = omega (arith, ints, e, i, h)

      less : (t u z m : ℤ) → t ≡ m +ℤ pos (suc k) → u ≡ z → (u +ℤ pos 1) ≤ℤ t → (z -ℤ m) ≤ℤ pos k
      less t u z m e i h = omega (arith, ints, e, i, h)

-- the floor grows with the number
pub floor_grows : (k : ℕ) (a b : ℤ) → a ≤ℤ b → floor_of a (pos (suc k)) ≤ℤ floor_of b (pos (suc k))
floor_grows k a b h = by_order (floor_of a (pos (suc k))) (floor_of b (pos (suc k))) (floor_is k a) (floor_is k b)
  where
    past : (x y m : ℤ) → x ≤ℤ y → x ≡ m +ℤ (pos (suc k) *ℤ pos 1) → (b -ℤ m) ≤ℤ pos k → pos 0 ≤ℤ (a -ℤ y) → ⊥
    past x y m g e i j = omega (arith, ints, h)

    not_past : (x y : ℤ) → Quotient k a x → Quotient k b y → (y +ℤ pos 1) ≤ℤ x → ⊥
    not_past x y u v g = past _ _ (pos (suc k) *ℤ y) (grows (suc k) (y +ℤ pos 1) x g) (mul-add (pos (suc k)) y (pos 1)) v.1 u.0

    by_order : (x y : ℤ) → Quotient k a x → Quotient k b y → x ≤ℤ y
    by_order x y u v = at_most x y (not_past x y u v)
      where
        at_most : (x y : ℤ) → ((y +ℤ pos 1) ≤ℤ x → ⊥) → x ≤ℤ y
        at_most x y n = grind (arith, ints)

-- ---- Numbers held within a limit

module _ (n : ℕ) where
  held_low : (z q : ℤ) → z ≤ℤ q → neg_ℤ (pos n) ≤ℤ q → held n z ≤ℤ q
  held_low z q h l = chosen (int_lt z (neg_ℤ (pos n))) (int_lt (pos n) z) refl
    where
      above : (z : ℤ) → int_lt (pos n) z ≡ true → pos n ≤ℤ z
      above z e = grind (arith, ints)

      through : (a b c : ℤ) → a ≤ℤ b → b ≤ℤ c → a ≤ℤ c
      through a b c h g = omega (arith, ints)

      chosen : (t u : Bool) → int_lt (pos n) z ≡ u → (if t then neg_ℤ (pos n) else (if u then pos n else z)) ≤ℤ q
      chosen true u e = l
      chosen false true e = through _ _ _ (above z e) h
      chosen false false e = h

  held_high : (z q : ℤ) → q ≤ℤ z → q ≤ℤ pos n → q ≤ℤ held n z
  held_high z q h l = chosen (int_lt z (neg_ℤ (pos n))) refl (int_lt (pos n) z)
    where
      below : (z y : ℤ) → int_lt z y ≡ true → z ≤ℤ y
      below z y e = grind (arith, ints)

      through : (a b c : ℤ) → a ≤ℤ b → b ≤ℤ c → a ≤ℤ c
      through a b c h g = omega (arith, ints)

      chosen : (t : Bool) → int_lt z (neg_ℤ (pos n)) ≡ t → (u : Bool) → q ≤ℤ (if t then neg_ℤ (pos n) else (if u then pos n else z))
      chosen true e u = through _ _ _ h (below z _ e)
      chosen false e true = l
      chosen false e false = h

  pub held_near : (z : ℤ) → unsigned_abs (held n z) ≤ n
  held_near z = chosen (int_lt z (neg_ℤ (pos n))) (int_lt (pos n) z) refl refl
    where
      at_low : unsigned_abs (neg_ℤ (pos n)) ≤ n
      at_low = grind (arith, ints)

      at_high : unsigned_abs (pos n) ≤ n
      at_high = grind (arith, ints)

      between : (z : ℤ) → int_lt z (neg_ℤ (pos n)) ≡ false → int_lt (pos n) z ≡ false → unsigned_abs z ≤ n
      between z e f = grind (arith, ints)

      chosen : (t u : Bool) → int_lt z (neg_ℤ (pos n)) ≡ t → int_lt (pos n) z ≡ u → unsigned_abs (if t then neg_ℤ (pos n) else (if u then pos n else z)) ≤ n
      chosen true u e f = at_low
      chosen false true e f = at_high
      chosen false false e f = between z e f

held_grows : (n : ℕ) (a b : ℤ) → a ≤ℤ b → held n a ≤ℤ held n b
held_grows n a b h = chosen (int_lt a (neg_ℤ (pos n))) (int_lt (pos n) a) (int_lt b (neg_ℤ (pos n))) (int_lt (pos n) b) refl refl refl refl
  where
    low : neg_ℤ (pos n) ≤ℤ pos n
    low = grind (arith, ints)

    same : (z : ℤ) → z ≤ℤ z
    same z = omega (arith, ints)

    fell : (a b : ℤ) → a ≤ℤ b → int_lt a (neg_ℤ (pos n)) ≡ false → int_lt b (neg_ℤ (pos n)) ≡ true → ⊥
    fell a b h e f = grind (arith, ints)

    rose : (a b : ℤ) → a ≤ℤ b → int_lt (pos n) a ≡ true → int_lt (pos n) b ≡ false → ⊥
    rose a b h e f = grind (arith, ints)

    at_least : (z : ℤ) → int_lt z (neg_ℤ (pos n)) ≡ false → neg_ℤ (pos n) ≤ℤ z
    at_least z e = grind (arith, ints)

    at_most : (z : ℤ) → int_lt (pos n) z ≡ false → z ≤ℤ pos n
    at_most z e = grind (arith, ints)

    chosen : (t u v w : Bool) → int_lt a (neg_ℤ (pos n)) ≡ t → int_lt (pos n) a ≡ u → int_lt b (neg_ℤ (pos n)) ≡ v → int_lt (pos n) b ≡ w
        → (if t then neg_ℤ (pos n) else (if u then pos n else a)) ≤ℤ (if v then neg_ℤ (pos n) else (if w then pos n else b))
    chosen true u true w e f g i = same (neg_ℤ (pos n))
    chosen true u false true e f g i = low
    chosen true u false false e f g i = at_least b g
    chosen false u true w e f g i = absurd (fell a b h e g)
    chosen false true false true e f g i = same (pos n)
    chosen false true false false e f g i = absurd (rose a b h f i)
    chosen false false false true e f g i = at_most a f
    chosen false false false false e f g i = h

-- ---- Ends

pub range_ordered : (ranges : List (ℤ × ℤ)) (f : Affine) (by : ℤ) → IsBox ranges → length f.coefs ≡ length ranges → pos 1 ≤ℤ by → (quotient_range ranges f by).0 ≤ℤ (quotient_range ranges f by).1
range_ordered ranges f (pos zero) box w h = absurd (omega (arith, ints, h))
range_ordered ranges f (negsuc k) box w h = absurd (omega (arith, ints, h))
range_ordered ranges f (pos (suc k)) box w h =
    let low : ℤ = value f (corner false f.coefs ranges) in
    let high : ℤ = value f (corner true f.coefs ranges) in
    held_grows (2 ^ 60) (floor_of low (pos (suc k))) (floor_of high (pos (suc k)))
    (floor_grows k low high (value_least f ranges (corner true f.coefs ranges) w (corner_in_box ranges (corner true f.coefs ranges) box (corner_is_corner true f.coefs ranges w))))

pub range_is : (ranges : List (ℤ × ℤ)) (f : Affine) (by least greatest first last : ℤ) → least ≡ value f (corner false f.coefs ranges) → greatest ≡ value f (corner true f.coefs ranges)
    → first ≡ held (2 ^ 60) (floor_of least by) → last ≡ held (2 ^ 60) (floor_of greatest by) → ◌≡◌ {A = ℤ × ℤ} (first, last) (quotient_range ranges f by)
range_is ranges f by least greatest first last l h a b =
    let one : first ≡ (quotient_range ranges f by).0 = a ∙ ap (λ z. held (2 ^ 60) (floor_of z by)) l in
    let two : last ≡ (quotient_range ranges f by).1 = b ∙ ap (λ z. held (2 ^ 60) (floor_of z by)) h in
    ap (λ (z : ℤ). let r : ℤ × ℤ = (z, last) in r) one ∙ ap (λ (z : ℤ). let r : ℤ × ℤ = ((quotient_range ranges f by).0, z) in r) two

pub ordered_is : (ranges : List (ℤ × ℤ)) (f : Affine) (by first last : ℤ) → IsBox ranges → length f.coefs ≡ length ranges → pos 1 ≤ℤ by → ◌≡◌ {A = ℤ × ℤ} (first, last) (quotient_range ranges f by) → first ≤ℤ last
ordered_is ranges f by first last box w h e = subst (λ (r : ℤ × ℤ). r.0 ≤ℤ r.1) (sym e) (range_ordered ranges f by box w h)

pub past_no_corner : (ranges : List (ℤ × ℤ)) (f : Affine) → ((x : List ℤ) → IsCorner ranges x → magnitude f x ≤ 2 ^ 126) → (x : List ℤ) × IsCorner ranges x × (2 ^ 126 < magnitude f x) → ⊥
past_no_corner ranges f fits past = over (magnitude f past.0) (fits past.0 past.1) past.2
  where
    over : (n : ℕ) → n ≤ 2 ^ 126 → 2 ^ 126 < n → ⊥
    over n h g = absurd (omega (arith, h, g))

-- ---- Laws

pub divisions_are_quotients : DivisionsAreQuotients
divisions_are_quotients f (pos zero) q xs w h = absurd (omega (arith, ints, h))
divisions_are_quotients f (negsuc k) q xs w h = absurd (omega (arith, ints, h))
divisions_are_quotients f (pos (suc k)) q xs w h =
    (λ m. one_quotient k (value f xs) q (met_division xs q f k w m), λ e. division_met xs q f k w (subst (Quotient k (value f xs)) (sym e) (floor_is k (value f xs))))

pub quotients_keep_ranges : QuotientsKeepRanges
quotients_keep_ranges ranges f (pos zero) xs w h b n = absurd (omega (arith, ints, h))
quotients_keep_ranges ranges f (negsuc k) xs w h b n = absurd (omega (arith, ints, h))
quotients_keep_ranges ranges f (pos (suc k)) xs w h b n =
    let q = floor_of (value f xs) (pos (suc k)) in (
      held_low (2 ^ 60) (floor_of (value f (corner false f.coefs ranges)) (pos (suc k))) q (floor_grows k _ _ (value_least f ranges xs w b)) (low q n),
      held_high (2 ^ 60) (floor_of (value f (corner true f.coefs ranges)) (pos (suc k))) q (floor_grows k _ _ (value_greatest f ranges xs w b)) (high q n),
    )
  where
    low : (q : ℤ) → unsigned_abs q ≤ 2 ^ 60 → neg_ℤ (pos (2 ^ 60)) ≤ℤ q
    low q h = grind (arith, ints)

    high : (q : ℤ) → unsigned_abs q ≤ 2 ^ 60 → q ≤ℤ pos (2 ^ 60)
    high q h = grind (arith, ints)
