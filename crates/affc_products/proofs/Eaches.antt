-- What holds of each element, by recursion on the list.
use Rattle.std.proofs.Common.{◌≡◌, ℕ, zero, suc, ◌<◌, ◌≤◌, ◌⊎◌, inl, inr, List, [], ◌∷◌, ◌++◌, length, map, arith}
use Rattle.std.specs.List.{flat_map, AllByRecursion as Each}

pub each_append : {X : Type 0} (P : X → Type 0) (xs ys : List X) → Each P xs → Each P ys → Each P (xs ++ ys)
each_append P [] ys h k = k
each_append P (x ∷ xs) ys h k = (h.0, each_append P xs ys h.1 k)

pub each_left : {X : Type 0} (P : X → Type 0) (xs ys : List X) → Each P (xs ++ ys) → Each P xs
each_left P [] ys h = tt
each_left P (x ∷ xs) ys h = (h.0, each_left P xs ys h.1)

pub each_right : {X : Type 0} (P : X → Type 0) (xs ys : List X) → Each P (xs ++ ys) → Each P ys
each_right P [] ys h = h
each_right P (x ∷ xs) ys h = each_right P xs ys h.1

pub each_map : {X Y : Type 0} (P : Y → Type 0) (f : X → Y) (xs : List X) → Each (λ x. P (f x)) xs → Each P (map f xs)
each_map P f [] h = tt
each_map P f (x ∷ xs) h = (h.0, each_map P f xs h.1)

pub each_unmap : {X Y : Type 0} (P : Y → Type 0) (f : X → Y) (xs : List X) → Each P (map f xs) → Each (λ x. P (f x)) xs
each_unmap P f [] h = tt
each_unmap P f (x ∷ xs) h = (h.0, each_unmap P f xs h.1)

pub each_weaker : {X : Type 0} (P Q : X → Type 0) (xs : List X) → ((x : X) → P x → Q x) → Each P xs → Each Q xs
each_weaker P Q [] w h = tt
each_weaker P Q (x ∷ xs) w h = (w x h.0, each_weaker P Q xs w h.1)

pub each_flat : {X Y : Type 0} (P : Y → Type 0) (f : X → List Y) (xs : List X) → Each (λ x. Each P (f x)) xs → Each P (flat_map f xs)
each_flat P f [] h = tt
each_flat P f (x ∷ xs) h = each_append P (f x) (flat_map f xs) h.0 (each_flat P f xs h.1)

pub each_unflat : {X Y : Type 0} (P : Y → Type 0) (f : X → List Y) (xs : List X) → Each P (flat_map f xs) → Each (λ x. Each P (f x)) xs
each_unflat P f [] h = tt
each_unflat P f (x ∷ xs) h = (each_left P (f x) (flat_map f xs) h, each_unflat P f xs (each_right P (f x) (flat_map f xs) h))

-- what holds of each holds of one, where there is one
pub each_some : {X : Type 0} (P : X → Type 0) (xs : List X) → 0 < length xs → Each P xs → (x : X) × P x
each_some P [] l h = absurd (omega arith)
each_some P (x ∷ xs) l h = (x, h.0)

pub le_dec : (a b : ℕ) → (a ≤ b) ⊎ (¬ (a ≤ b))
le_dec zero b = inl (omega arith)
le_dec (suc a) zero = inr (λ h. omega arith)
le_dec (suc a) (suc b) = elim (le_dec a b) [ inl h ↦ inl (omega arith) | inr h ↦ inr (λ k. h (omega arith)) ]

pub eq_dec : (a b : ℕ) → (a ≡ b) ⊎ (¬ (a ≡ b))
eq_dec a b = elim (le_dec a b) [
  | inl h ↦ elim (le_dec b a) [ inl k ↦ inl (omega arith) | inr k ↦ inr (λ e. k (omega arith)) ]
  | inr h ↦ inr (λ e. h (omega arith))
]

pub each_dec : {X : Type 0} (P : X → Type 0) → ((x : X) → P x ⊎ (¬ (P x))) → (xs : List X) → Each P xs ⊎ (¬ (Each P xs))
each_dec P d [] = inl tt
each_dec P d (x ∷ xs) = elim (d x) [
  | inl h ↦ elim (each_dec P d xs) [ inl k ↦ inl (h, k) | inr k ↦ inr (λ e. k e.1) ]
  | inr h ↦ inr (λ e. h e.0)
]
