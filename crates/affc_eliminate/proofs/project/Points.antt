-- Rational points that begin with whole numbers.
use Rattle.std.proofs.Common.{◌≡◌, ℕ, zero, suc, ◌+◌, ◌-◌, ◌<◌, ◌≤◌, List, [], ◌∷◌, ◌++◌, length, map, set, get_or, replicate, ℤ, pos, negsuc, ◌+ℤ◌, ◌*ℤ◌, ◌≤ℤ◌, refl, sym, ap, subst, ◌∙◌, inl, inr, arith}
use Rattle.std.specs.Prelude.{◌↔◌}
use Rattle.std.specs.List.{All, Contains}
use Rattle.std.proofs.lemmas.Int.{ints}
use Rattle.std.proofs.lemmas.Bool.{cases_lt}
use Rattle.std.proofs.lemmas.List.{get_or-map, length-map, length-set, get_or-set_other, set-get_or, length-append, length-replicate, get_or_append_left}
use Rattle.std.proofs.lemmas.List.Elements.{All-map, All-weaker, All-contains}
use lib.IntN.{*ℤ-zero, zero-*ℤ}
use Rattle.affc_rows.specs.Forms.{Affine, HaveColumns, dot, value}
use Rattle.affc_rows.proofs.IntLemmas.{mul-add, mul_assoc, one-mul}
use Rattle.affc_farkas.specs.Rational.{scaled_value}
use Rattle.affc_farkas.specs.Multiples.{entry_of}
use Rattle.affc_farkas.proofs.Between.{swap, cancel, nonneg_product}
use Rattle.affc_eliminate.specs.Points.{HoldAt, with_value, Extends}
use Rattle.affc_eliminate.specs.Mixtures.{forms_of}
use Rattle.affc_eliminate.specs.declared.kept.Kept.{Kept}
use Rattle.affc_eliminate.proofs.Values.{entry_inside}
use Rattle.affc_eliminate.proofs.Added.{each_form}
use Rattle.affc_system.specs.Systems.{Meets}
use Rattle.affc_eliminate.specs.project.Projections.{ExtendsWhole}
use Rattle.affc_eliminate.specs.project.States.{AreZero, IsBlank, IsLeast, AreReduced}

-- ---- One column less

one_product : (s d : ℤ) → pos 1 ≤ℤ s → pos 1 ≤ℤ d → pos 1 ≤ℤ (s *ℤ d)
one_product (pos zero) d h k = absurd (omega (arith, ints))
one_product (negsuc n) d h k = absurd (omega (arith, ints))
one_product (pos (suc n)) (pos zero) h k = absurd (omega (arith, ints))
one_product (pos (suc n)) (negsuc m) h k = absurd (omega (arith, ints))
one_product (pos (suc n)) (pos (suc m)) h k = omega (arith, ints)

not_here : (j n k : ℕ) → j < n → n ≤ k → j ≡ k → ⊥
not_here j n k h le e = absurd (omega arith)

lt_in : (j n k : ℕ) → j < n → n ≤ k → j < k
lt_in j n k h le = omega arith

below : (j n k w : ℕ) → j < n → n ≤ k → k < w → j < w
below j n k w h le lt = omega arith

-- a new value in a later column leaves the first numbers
begins_still : (column : ℕ) (x whole : List ℤ) (s y d : ℤ) → length whole ≤ column → column < length x → ((j : ℕ) → j < length whole → get_or x j (pos 0) ≡ d *ℤ get_or whole j (pos 0))
    → (j : ℕ) → j < length whole → get_or (with_value column x s y) j (pos 0) ≡ (s *ℤ d) *ℤ get_or whole j (pos 0)
begins_still column x whole s y d le lt h j jl =
    get_or-set_other (map (λ c. s *ℤ c) x) column j y (pos 0) (not_here j (length whole) column jl le)
    ∙ get_or-map (λ c. s *ℤ c) x j (pos 0) (pos 0) (below j (length whole) column (length x) jl le lt)
    ∙ ap (λ z. s *ℤ z) (h j jl) ∙ sym (mul_assoc s d (get_or whole j (pos 0)))

once : (xs : List ℤ) → map (λ c. pos 1 *ℤ c) xs ≡ xs
once [] = refl
once (x ∷ xs) = ap (λ z. z ∷ map (λ c. pos 1 *ℤ c) xs) (one-mul x) ∙ ap (λ zs. x ∷ zs) (once xs)

-- a point is the extension of itself
own_extension : (column : ℕ) (x : List ℤ) (d : ℤ) (rows : List Affine) → HoldAt x d rows → Extends column x d rows
own_extension column x d rows h =
    let same : with_value column x (pos 1) (get_or x column (pos 0)) ≡ x = ap (λ xs. set xs column (get_or x column (pos 0))) (once x) ∙ set-get_or x column (pos 0) in
    record {
      s = pos 1;
      y = get_or x column (pos 0);
      divisor = omega (arith, ints);
      holds = subst (λ xs. HoldAt xs (pos 1 *ℤ d) rows) (sym same) (subst (λ z. HoldAt x z rows) (sym (one-mul d)) h);
    }

pub points_of_step : (columns column : ℕ) (old new : List Affine) → HaveColumns columns old → column < columns
    → ((x : List ℤ) (d : ℤ) → HaveColumns (length x) old → column < length x → pos 1 ≤ℤ d → HoldAt x d new ↔ Extends column x d old)
    → (whole : List ℤ) → length whole ≤ column → ExtendsWhole columns new whole ↔ ExtendsWhole columns old whole
points_of_step columns column old new w lt same whole le = (
  (λ e.
      let p = e.point in
      let lt' : column < length p.x = subst (λ n. column < n) (sym p.width) lt in
      let q = (same p.x p.d (subst (λ n. HaveColumns n old) (sym p.width) w) lt' p.divisor).0 p.meets in
      record {
        point = record {
          x = with_value column p.x q.s q.y;
          d = q.s *ℤ p.d;
          width = length-set (map (λ c. q.s *ℤ c) p.x) column q.y ∙ length-map p.x (λ c. q.s *ℤ c) ∙ p.width;
          divisor = one_product q.s p.d q.divisor p.divisor;
          meets = q.holds;
        };
        begins = begins_still column p.x whole q.s q.y p.d le lt' e.begins;
      }),
  (λ e.
      let p = e.point in
      let lt' : column < length p.x = subst (λ n. column < n) (sym p.width) lt in
      record {
        point = record {
          x = p.x;
          d = p.d;
          width = p.width;
          divisor = p.divisor;
          meets = (same p.x p.d (subst (λ n. HaveColumns n old) (sym p.width) w) lt' p.divisor).1 (own_extension column p.x p.d old p.meets);
        };
        begins = e.begins;
      }),
)

pub both_ways : (P Q R : Type 0) → P ↔ Q → Q ↔ R → P ↔ R
both_ways P Q R h k = ((λ p. k.0 (h.0 p)), (λ r. h.1 (k.1 r)))

pub itself : (P : Type 0) → P ↔ P
itself P = ((λ p. p), (λ p. p))

-- ---- Rows over the first columns

nothing : (g d : ℤ) → g *ℤ (d *ℤ pos 0) ≡ pos 0
nothing g d = ap (λ z. g *ℤ z) (*ℤ-zero d) ∙ *ℤ-zero g

no_term : (c x r : ℤ) → c ≡ pos 0 → r ≡ pos 0 → (c *ℤ x) +ℤ r ≡ pos 0
no_term c x r e f = ap (λ z. (z *ℤ x) +ℤ r) e ∙ ap (λ z. z +ℤ r) (zero-*ℤ x) ∙ ap (λ z. pos 0 +ℤ z) f

zero_dot : (cs xs : List ℤ) → ((j : ℕ) → j < length cs → get_or cs j (pos 0) ≡ pos 0) → dot cs xs ≡ pos 0
zero_dot [] xs h = refl
zero_dot (c ∷ cs) [] h = refl
zero_dot (c ∷ cs) (x ∷ xs) h = no_term c x (dot cs xs) (h 0 (omega arith)) (zero_dot cs xs (λ j lt. h (suc j) (omega arith)))

one_term : (g d f w : ℤ) → (g *ℤ f) *ℤ (d *ℤ w) ≡ g *ℤ (d *ℤ (f *ℤ w))
one_term g d f w = mul_assoc g f (d *ℤ w) ∙ ap (λ z. g *ℤ z) (swap f d w)

joined : (g d a b : ℤ) → (g *ℤ (d *ℤ a)) +ℤ (g *ℤ (d *ℤ b)) ≡ g *ℤ (d *ℤ (a +ℤ b))
joined g d a b = sym (mul-add g (d *ℤ a) (d *ℤ b)) ∙ ap (λ z. g *ℤ z) (sym (mul-add d a b))

-- the products of a row that is 0 in the later columns, at a point that begins with whole numbers
first_dot : (g d : ℤ) (cs xs fs ws : List ℤ) → length ws ≡ length fs → length fs ≤ length cs → length xs ≡ length cs
    → ((j : ℕ) → j < length fs → get_or cs j (pos 0) ≡ g *ℤ get_or fs j (pos 0)) → ((j : ℕ) → length fs ≤ j → j < length cs → get_or cs j (pos 0) ≡ pos 0)
    → ((j : ℕ) → j < length ws → get_or xs j (pos 0) ≡ d *ℤ get_or ws j (pos 0)) → dot cs xs ≡ g *ℤ (d *ℤ dot fs ws)
first_dot g d cs xs [] ws l m n hc hz hx = zero_dot cs xs (λ j lt. hz j (omega arith) lt) ∙ sym (nothing g d)
first_dot g d [] xs (f ∷ fs) ws l m n hc hz hx = absurd (omega arith)
first_dot g d (c ∷ cs) [] (f ∷ fs) ws l m n hc hz hx = absurd (omega arith)
first_dot g d (c ∷ cs) (x ∷ xs) (f ∷ fs) [] l m n hc hz hx = absurd (omega arith)
first_dot g d (c ∷ cs) (x ∷ xs) (f ∷ fs) (w ∷ ws) l m n hc hz hx =
    ap (λ z. (z *ℤ x) +ℤ dot cs xs) (hc 0 (omega arith)) ∙ ap (λ z. ((g *ℤ f) *ℤ z) +ℤ dot cs xs) (hx 0 (omega arith)) ∙ ap (λ z. z +ℤ dot cs xs) (one_term g d f w)
    ∙ ap (λ z. (g *ℤ (d *ℤ (f *ℤ w))) +ℤ z) (first_dot g d cs xs fs ws (omega arith) (omega arith) (omega arith) (λ j lt. hc (suc j) (omega arith)) (λ j le lt. hz (suc j) (omega arith) (omega arith)) (λ j lt. hx (suc j) (omega arith)))
    ∙ joined g d (f *ℤ w) (dot fs ws)

pub first_value : (g : ℤ) (row f : Affine) (x : List ℤ) (d : ℤ) (whole : List ℤ) → length whole ≡ length f.coefs → length f.coefs ≤ length row.coefs → length x ≡ length row.coefs
    → ((j : ℕ) → j < length f.coefs → get_or row.coefs j (pos 0) ≡ g *ℤ get_or f.coefs j (pos 0)) → ((j : ℕ) → length f.coefs ≤ j → j < length row.coefs → get_or row.coefs j (pos 0) ≡ pos 0)
    → row.constant ≡ g *ℤ f.constant → ((j : ℕ) → j < length whole → get_or x j (pos 0) ≡ d *ℤ get_or whole j (pos 0)) → scaled_value row x d ≡ g *ℤ (d *ℤ value f whole)
first_value g row f x d whole l m n hc hz hk hx =
    ap (λ z. z +ℤ (d *ℤ row.constant)) (first_dot g d row.coefs x f.coefs whole l m n hc hz hx)
    ∙ ap (λ z. (g *ℤ (d *ℤ dot f.coefs whole)) +ℤ z) (ap (λ z. d *ℤ z) hk ∙ swap d g f.constant)
    ∙ joined g d (dot f.coefs whole) f.constant

pub zero_value : (row : Affine) (x : List ℤ) (d : ℤ) → ((j : ℕ) → j < length row.coefs → get_or row.coefs j (pos 0) ≡ pos 0) → row.constant ≡ pos 0 → scaled_value row x d ≡ pos 0
zero_value row x d h k = ap (λ z. z +ℤ (d *ℤ row.constant)) (zero_dot row.coefs x h) ∙ ap (λ z. pos 0 +ℤ (d *ℤ z)) k ∙ ap (λ z. pos 0 +ℤ z) (*ℤ-zero d)

-- ---- The whole numbers with zeros behind them

rest_of : (n k : ℕ) → n ≤ k → n + (k - n) ≡ k
rest_of n k h = omega arith

one_at_least : (n : ℕ) → 1 ≤ n → pos 1 ≤ℤ pos n
one_at_least n h = omega (arith, ints)

width_in : (n k m : ℕ) → n ≡ k → k ≤ m → n ≤ m
width_in n k m e h = omega arith

-- the value of a row at a point that begins with whole numbers, by its row in least terms
pub value_of : (columns keep : ℕ) (row f : Affine) (x : List ℤ) (d : ℤ) (whole : List ℤ) → keep ≤ columns → length row.coefs ≡ columns → ((j : ℕ) → keep ≤ j → j < columns → entry_of row j ≡ pos 0)
    → (h : IsLeast keep row f) → length whole ≡ keep → length x ≡ columns → ((j : ℕ) → j < length whole → get_or x j (pos 0) ≡ d *ℤ get_or whole j (pos 0)) → scaled_value row x d ≡ pos h.divisor *ℤ (d *ℤ value f whole)
value_of columns keep row f x d whole le w zeros h l n begins =
    let wk = h.width in
    first_value (pos h.divisor) row f x d whole (l ∙ sym wk) (subst (λ z. length f.coefs ≤ z) (sym w) (subst (λ z. z ≤ columns) (sym wk) le)) (n ∙ sym w)
    (λ j lt.
    let lt' : j < keep = subst (λ z. j < z) wk lt in
    sym (entry_inside row j (subst (λ z. j < z) (sym w) (lt_in j keep columns lt' le))) ∙ h.coefs j lt' ∙ ap (λ z. pos h.divisor *ℤ z) (entry_inside f j lt))
    (λ j ge lt. sym (entry_inside row j lt) ∙ zeros j (subst (λ z. z ≤ j) wk ge) (subst (λ z. j < z) w lt))
    h.last begins

blank_value : (columns keep : ℕ) (row : Affine) (x : List ℤ) (d : ℤ) → length row.coefs ≡ columns → ((j : ℕ) → keep ≤ j → j < columns → entry_of row j ≡ pos 0) → IsBlank keep row → scaled_value row x d ≡ pos 0
blank_value columns keep row x d w zeros h =
    zero_value row x d (λ j lt. sym (entry_inside row j lt) ∙ elim (cases_lt j keep) [ inl k ↦ h.coefs j k | inr ge ↦ zeros j ge (subst (λ z. j < z) w lt) ]) h.last

at_least_zero : (z : ℤ) → z ≡ pos 0 → pos 0 ≤ℤ z
at_least_zero z e = omega (arith, ints)

-- whole numbers meet the rows in least terms exactly where they are the first ones of a point of the rows
pub same_first : (columns keep : ℕ) (live : List Kept) (reduced : List Affine) → keep ≤ columns → All (λ k. length k.row.coefs ≡ columns) live → ((j : ℕ) → keep ≤ j → j < columns → AreZero j live) → AreReduced keep live reduced
    → (whole : List ℤ) → length whole ≡ keep → All (Meets whole) reduced ↔ ExtendsWhole columns (forms_of live) whole
same_first columns keep live reduced le w zeros h whole l = (
  (λ met.
      let m = columns - length whole in
      let x = whole ++ replicate m (pos 0) in
      let width : length x ≡ columns = length-append whole (replicate m (pos 0)) ∙ ap (λ z. length whole + z) (length-replicate m (pos 0)) ∙ rest_of (length whole) columns (width_in (length whole) keep columns l le) in
      let begins : (j : ℕ) → j < length whole → get_or x j (pos 0) ≡ pos 1 *ℤ get_or whole j (pos 0) = λ j lt. get_or_append_left whole (replicate m (pos 0)) (pos 0) j lt ∙ sym (one-mul (get_or whole j (pos 0))) in
      record {
        point = record {
          x = x;
          d = pos 1;
          width = width;
          divisor = omega (arith, ints);
          meets = All-map (λ row. pos 0 ≤ℤ scaled_value row x (pos 1)) (λ (k : Kept). k.row) live (λ i d lt.
              let k = get_or live i d in
              elim (h.into i d lt) [
                | inl blank ↦ at_least_zero (scaled_value k.row x (pos 1)) (blank_value columns keep k.row x (pos 1) (w i d lt) (λ j ge jl. zeros j ge jl i d lt) blank)
                | inr (f, c, least) ↦ subst (λ z. pos 0 ≤ℤ z) (sym (value_of columns keep k.row f x (pos 1) whole le (w i d lt) (λ j ge jl. zeros j ge jl i d lt) least l width begins))
                    (nonneg_product (pos least.divisor) (pos 1 *ℤ value f whole) (omega (arith, ints)) (subst (λ z. pos 0 ≤ℤ z) (sym (one-mul (value f whole))) (All-contains (Meets whole) reduced f met c)))
              ]);
        };
        begins = begins;
      }),
  (λ e. All-weaker (λ f. (k : Kept) × Contains live k × IsLeast keep k.row f) (Meets whole)
      (λ f (k, c, least).
      let p = e.point in
      let holds = each_form (λ row. pos 0 ≤ℤ scaled_value row p.x p.d) live k p.meets c in
      let clear : (j : ℕ) → keep ≤ j → j < columns → entry_of k.row j ≡ pos 0 = λ j ge jl. All-contains (λ q. entry_of q.row j ≡ pos 0) live k (zeros j ge jl) c in
      let same = value_of columns keep k.row f p.x p.d whole le (All-contains (λ q. length q.row.coefs ≡ columns) live k w c) clear least l p.width e.begins in
      cancel p.d (value f whole) p.divisor (cancel (pos least.divisor) (p.d *ℤ value f whole) (one_at_least least.divisor least.positive) (subst (λ z. pos 0 ≤ℤ z) same holds)))
      reduced h.from),
)
