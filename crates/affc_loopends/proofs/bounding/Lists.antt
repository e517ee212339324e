-- Lists that are walked, picked from and mapped.
use Rattle.std.proofs.Common.{◌≡◌, ℕ, zero, suc, ◌<◌, ◌≤◌, List, [], ◌∷◌, length, map, refl, ap, inl, inr, arith}
use Rattle.std.specs.Prelude.{◌⊎◌}
use Rattle.std.specs.List.{All, Contains}
use Rattle.std.proofs.lemmas.List.Elements.{All-nil, All-cons, All-head, All-tail, All-weaker}
use Rattle.affc_loopends.proofs.bounding.Numbers.{one_more, both_more}

below_next : (k n : ℕ) → k < n → suc k < suc n
below_next k n h = omega arith

below_before : (k n : ℕ) → suc k < suc n → k < n
below_before k n h = omega arith

nothing_below : (k : ℕ) → k < 0 → ⊥
nothing_below k h = absurd (omega arith)

first_below : (n : ℕ) → 0 < suc n
first_below n = omega arith

pub nothing_in : {X : Type 0} (x : X) → Contains [] x → ⊥
nothing_in x c = nothing_below c.0 c.1

pub at_first : {X : Type 0} (x : X) (xs : List X) → Contains (x ∷ xs) x
at_first x xs = (0, first_below (length xs), refl)

pub at_later : {X : Type 0} (x y : X) (xs : List X) → Contains xs y → Contains (x ∷ xs) y
at_later x y xs c = (suc c.0, below_next c.0 (length xs) c.1, c.2)

pub all_later : {X : Type 0} (x : X) (xs ys : List X) → All (Contains xs) ys → All (Contains (x ∷ xs)) ys
all_later x xs ys h = All-weaker (Contains xs) (Contains (x ∷ xs)) (λ y c. at_later x y xs c) ys h

-- ---- Images

pub image_in : {X Y : Type 0} (f : X → Y) (xs : List X) (x : X) → Contains xs x → Contains (map f xs) (f x)
image_in f [] x c = absurd (nothing_in x c)
image_in f (y ∷ xs) x (zero, lt, e) = (0, first_below (length (map f xs)), ap f e)
image_in f (y ∷ xs) x (suc k, lt, e) = at_later (f y) (f x) (map f xs) (image_in f xs x (k, below_before k (length xs) lt, e))

pub of_image : {X Y : Type 0} (f : X → Y) (xs : List X) (y : Y) → Contains (map f xs) y → (x : X) × Contains xs x × (f x ≡ y)
of_image f [] y c = absurd (nothing_in y c)
of_image f (x ∷ xs) y (zero, lt, e) = (x, at_first x xs, e)
of_image f (x ∷ xs) y (suc k, lt, e) =
    let r = of_image f xs y (k, below_before k (length (map f xs)) lt, e) in
    (r.0, at_later x r.0 xs r.1, r.2)

-- ---- Those that have a property

-- of these elements those that have a property
pub record ArePicked {X : Type 0} (P : X → Type 0) (xs picked : List X) : Type 0 where
  pub each : All (λ x. Contains xs x × P x) picked
  pub all : All (λ x. P x → Contains picked x) xs
  pub few : length picked ≤ length xs

pub pick : {X : Type 0} (P : X → Type 0) → ((x : X) → P x ⊎ (P x → ⊥)) → (xs : List X) → (picked : List X) × ArePicked P xs picked
pick P decide [] = ([], record { each = All-nil (λ x. Contains [] x × P x); all = All-nil (λ x. P x → Contains [] x); few = omega arith })
pick {X} P decide (x ∷ xs) =
    let r = pick P decide xs in
    let each : All (λ y. Contains (x ∷ xs) y × P y) r.0 = All-weaker (λ y. Contains xs y × P y) (λ y. Contains (x ∷ xs) y × P y) (λ y h. (at_later x y xs h.0, h.1)) r.0 r.1.each in
    elim (decide x) [
      | inl here ↦ (
        x ∷ r.0,
        record {
          each = All-cons (λ y. Contains (x ∷ xs) y × P y) x r.0 (at_first x xs, here) each;
          all = All-cons (λ y. P y → Contains (x ∷ r.0) y) x xs (λ h. at_first x r.0) (All-weaker (λ y. P y → Contains r.0 y) (λ y. P y → Contains (x ∷ r.0) y) (λ y f h. at_later x y r.0 (f h)) xs r.1.all);
          few = both_more (length r.0) (length xs) r.1.few;
        },
      )
      | inr none ↦ (
        r.0,
        record {
          each = each;
          all = All-cons (λ y. P y → Contains r.0 y) x xs (λ h. absurd (none h)) r.1.all;
          few = one_more (length r.0) (length xs) r.1.few;
        },
      )
    ]

-- a property that each element has or not: all have it, or some one hasn't
pub all_or_one : {X : Type 0} (P Q : X → Type 0) → ((x : X) → P x ⊎ Q x) → (xs : List X) → All P xs ⊎ ((x : X) × Contains xs x × Q x)
all_or_one P Q decide [] = inl (All-nil P)
all_or_one P Q decide (x ∷ xs) = elim (decide x) [
  | inr other ↦ inr (x, at_first x xs, other)
  | inl here ↦ elim (all_or_one P Q decide xs) [
    | inl all ↦ inl (All-cons P x xs here all)
    | inr one ↦ inr (one.0, at_later x one.0 xs one.1, one.2)
  ]
]

-- ---- Walks

-- a state that grows by a step for each element holds at the end what each step gave
module _ {W X : Type 0} (Grows : W → W → Type 0) (same : (v : W) → Grows v v) (after : (u v w : W) → Grows u v → Grows v w → Grows u w) (P : X → Type 0) (Q : W → X → Type 0)
    (kept : (v w : W) (x : X) → Grows v w → Q v x → Q w x) (step : (v : W) (x : X) → P x → (w : W) × Grows v w × Q w x) where
  pub walk : (xs : List X) (v : W) → All P xs → (w : W) × Grows v w × All (Q w) xs
  walk [] v h = (v, same v, All-nil (Q v))
  walk (x ∷ xs) v h =
      let a = step v x (All-head P x xs h) in
      let b = walk xs a.0 (All-tail P x xs h) in
      (b.0, after v a.0 b.0 a.1 b.1, All-cons (Q b.0) x xs (kept a.0 b.0 x b.1 a.2) b.2)
