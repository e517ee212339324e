-- Where a function is greatest in a box, and where it is among the points that pass a test.
use Rattle.std.proofs.Common.{◌≡◌, ℕ, zero, suc, ◌≤◌, Bool, true, false, List, [], ◌∷◌, ℤ, pos, ◌+ℤ◌, ◌-ℤ◌, ◌≤ℤ◌, refl, sym, subst, inl, inr, arith}
use Rattle.std.specs.Prelude.{unsigned_abs}
use Rattle.std.proofs.lemmas.Bool.{cases_lt}
use Rattle.std.proofs.lemmas.Int.{ints}
use Rattle.std.proofs.Math.Nat.{le_trans}
use Rattle.affc_system.specs.Boxes.{InBox}

-- ---- Among the numbers of a range

pub record Highest (low high : ℤ) (f : ℤ → ℕ) : Type 0 where
  pub at : ℤ
  pub low_end : low ≤ℤ at
  pub high_end : at ≤ℤ high
  pub most : (y : ℤ) → low ≤ℤ y → y ≤ℤ high → f y ≤ f at

up_to : (n : ℕ) (g : ℕ → ℕ) → (k : ℕ) × (k ≤ n) × ((j : ℕ) → j ≤ n → g j ≤ g k)
up_to zero g = (0, omega arith, λ j h. let e : j ≡ 0 = omega (arith, h) in subst (λ i. g i ≤ g 0) (sym e) (omega arith))
up_to (suc n) g =
    let r = up_to n g in
    elim (cases_lt (g r.0) (g (suc n))) [
      | inl more ↦ (
        suc n,
        omega arith,
        λ j h. elim (cases_lt n j) [
          | inl past ↦ (let e : j ≡ suc n = omega (arith, h, past) in subst (λ i. g i ≤ g (suc n)) (sym e) (omega arith))
          | inr before ↦ omega (arith, r.2 j before, more)
        ],
      )
      | inr less ↦ (
        r.0,
        omega (arith, r.1),
        λ j h. elim (cases_lt n j) [
          | inl past ↦ (let e : j ≡ suc n = omega (arith, h, past) in subst (λ i. g i ≤ g r.0) (sym e) less)
          | inr before ↦ r.2 j before
        ],
      )
    ]

-- a number that isn't below the low end is so far above it
above : (low y : ℤ) → low ≤ℤ y → y ≡ low +ℤ pos (unsigned_abs (y -ℤ low))
above low y h = omega (arith, ints)

not_below : (low : ℤ) (k : ℕ) → low ≤ℤ (low +ℤ pos k)
not_below low k = omega (arith, ints)

not_past : (low high : ℤ) (k : ℕ) → low ≤ℤ high → k ≤ unsigned_abs (high -ℤ low) → (low +ℤ pos k) ≤ℤ high
not_past low high k h g = omega (arith, ints)

nearer : (low y high : ℤ) → low ≤ℤ y → y ≤ℤ high → unsigned_abs (y -ℤ low) ≤ unsigned_abs (high -ℤ low)
nearer low y high h g = omega (arith, ints)

through : (low x high : ℤ) → low ≤ℤ x → x ≤ℤ high → low ≤ℤ high
through low x high h g = omega (arith, ints)

pub greatest_between : (low high some : ℤ) → low ≤ℤ some → some ≤ℤ high → (f : ℤ → ℕ) → Highest low high f
greatest_between low high some from to f =
    let r = up_to (unsigned_abs (high -ℤ low)) (λ k. f (low +ℤ pos k)) in
    record {
      at = low +ℤ pos r.0;
      low_end = not_below low r.0;
      high_end = not_past low high r.0 (through low some high from to) r.1;
      most = λ y h g. subst (λ z. f z ≤ f (low +ℤ pos r.0)) (sym (above low y h)) (r.2 (unsigned_abs (y -ℤ low)) (nearer low y high h g));
    }

-- ---- Among the points of a box

pub record HighestPoint (ranges : List (ℤ × ℤ)) (f : List ℤ → ℕ) : Type 0 where
  pub at : List ℤ
  pub inside : InBox ranges at
  pub most : (ys : List ℤ) → InBox ranges ys → f ys ≤ f at

-- from the first number on, where it is greatest behind each
one_more : (r : ℤ × ℤ) (rs : List (ℤ × ℤ)) (x : ℤ) → r.0 ≤ℤ x → x ≤ℤ r.1 → (f : List ℤ → ℕ) → ((z : ℤ) → HighestPoint rs (λ ys. f (z ∷ ys))) → HighestPoint (r ∷ rs) f
one_more r rs x from to f rest = record { at = first.at ∷ (rest first.at).at; inside = (first.low_end, first.high_end, (rest first.at).inside); most = most }
  where
    first : Highest r.0 r.1 (λ z. f (z ∷ (rest z).at))
    first = greatest_between r.0 r.1 x from to (λ z. f (z ∷ (rest z).at))

    most : (ys : List ℤ) → InBox (r ∷ rs) ys → f ys ≤ f (first.at ∷ (rest first.at).at)
    most [] b = absurd b
    most (y ∷ ys) b = le_trans ((rest y).most ys b.2) (first.most y b.0 b.1)

pub greatest_in_box : (ranges : List (ℤ × ℤ)) (some : List ℤ) → InBox ranges some → (f : List ℤ → ℕ) → HighestPoint ranges f
greatest_in_box [] [] b f = record { at = []; inside = tt; most = most }
  where
    most : (ys : List ℤ) → InBox [] ys → f ys ≤ f []
    most [] b = omega arith
    most (y ∷ ys) b = absurd b
greatest_in_box [] (x ∷ xs) b f = absurd b
greatest_in_box (r ∷ rs) [] b f = absurd b
greatest_in_box (r ∷ rs) (x ∷ xs) b f = one_more r rs x b.0 b.1 f (λ z. greatest_in_box rs xs b.2 (λ ys. f (z ∷ ys)))

-- ---- Among those that pass a test

pub record HighestWhere (ranges : List (ℤ × ℤ)) (test : List ℤ → Bool) (f : List ℤ → ℕ) : Type 0 where
  pub at : List ℤ
  pub inside : InBox ranges at
  pub passes : test at ≡ true
  pub most : (ys : List ℤ) → InBox ranges ys → test ys ≡ true → f ys ≤ f at

-- 1 more where the test holds, or else 0
counted : Bool → ℕ → ℕ
counted true n = suc n
counted false n = 0

pub greatest_where : (ranges : List (ℤ × ℤ)) (test : List ℤ → Bool) (some : List ℤ) → InBox ranges some → test some ≡ true → (f : List ℤ → ℕ) → HighestWhere ranges test f
unfolding counted
greatest_where ranges test some b passes f = record {
  at = best.at;
  inside = best.inside;
  passes = by_test (test best.at) (f best.at) (subst (λ t. counted t (f some) ≤ counted (test best.at) (f best.at)) passes (best.most some b));
  most = λ ys inside held. less (test best.at) (f ys) (f best.at) (subst (λ t. counted t (f ys) ≤ counted (test best.at) (f best.at)) held (best.most ys inside));
}
  where
    best : HighestPoint ranges (λ ys. counted (test ys) (f ys))
    best = greatest_in_box ranges some b (λ ys. counted (test ys) (f ys))

    by_test : (t : Bool) (n : ℕ) → suc (f some) ≤ counted t n → t ≡ true
    by_test true n h = refl
    by_test false n h = absurd (omega (arith, h))

    less : (t : Bool) (m n : ℕ) → suc m ≤ counted t n → m ≤ n
    less true m n h = omega (arith, h)
    less false m n h = absurd (omega (arith, h))
