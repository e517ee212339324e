-- Loads and stores among the accesses of an assignment.
use Rattle.std.proofs.Common.{◌≡◌, ℕ, zero, suc, ◌+◌, ◌-◌, ◌<◌, List, [], ◌∷◌, ◌++◌, length, map, Some, refl, sym, ap, ◌∙◌, ◌⊎◌, inl, inr, arith}
use Rattle.std.specs.Prelude.{slice_get}
use Rattle.std.proofs.lemmas.Option.{same_Some, none-some, slice_get_within}
use Rattle.affc_trace.specs.Law.{IsIn}
use Rattle.affc_trace.proofs.Runs.{length_append}
use Rattle.affc_domain.proofs.Lists.{from_append, to_mapped, length_map, place_of, there_is}
use Rattle.affc_nest.specs.declared.nest.Access.{Access}
use Rattle.affc_life.specs.Clashes.{numbered_loads}

-- ---- Numbered loads

pub load_at : (first : ℕ) (xs : List Access) (x : ℕ × Access) → IsIn x (numbered_loads first xs) → (k : ℕ) × (x.0 ≡ first + k) × (slice_get xs k ≡ Some x.1) × (k < length xs - 1)
load_at first [] x i = absurd i
load_at first (y ∷ []) x i = absurd i
load_at first (y ∷ z ∷ xs) x (inl e) = (0, front (x.0) (ap (λ (u : ℕ × Access). u.0) e), ap (λ (u : ℕ × Access). Some u.1) (sym e), omega arith)
  where
    front : (n : ℕ) → n ≡ first → n ≡ first + 0
    front n e = omega (arith, e)
load_at first (y ∷ z ∷ xs) x (inr i) =
    let r = load_at (suc first) (z ∷ xs) x i in
    (suc r.0, later x.0 r.0 r.1, r.2, more r.0 (length xs) r.3)
  where
    later : (n k : ℕ) → n ≡ suc first + k → n ≡ first + suc k
    later n k e = omega (arith, e)

    more : (k n : ℕ) → k < suc n - 1 → suc k < suc (suc n) - 1
    more k n h = omega (arith, h)

pub at_load : (first : ℕ) (xs : List Access) (k : ℕ) (y : Access) (n : ℕ) → n ≡ first + k → slice_get xs k ≡ Some y → k < length xs - 1 → IsIn (n, y) (numbered_loads first xs)
at_load first [] k y n e g h = absurd (none-some y g)
at_load first (x ∷ []) k y n e g h = absurd (omega (arith, h))
at_load first (x ∷ z ∷ xs) zero y n e g h = inl (λ i. (front i, same_Some y x (sym g) i))
  where
    front : n ≡ first
    front = omega (arith, e)
at_load first (x ∷ z ∷ xs) (suc k) y n e g h = inr (at_load (suc first) (z ∷ xs) k y n (later n k e) g (less k (length xs) h))
  where
    later : (n k : ℕ) → n ≡ first + suc k → n ≡ suc first + k
    later n k e = omega (arith, e)

    less : (k n : ℕ) → suc k < suc (suc n) - 1 → k < suc n - 1
    less k n h = omega (arith, h)

-- ---- Elements

module _ {X : Type 0} (at : Access → X) (xs : List Access) (loads : List X) (store : X) (are : map at xs ≡ loads ++ store ∷ []) where
  pub counted : length xs ≡ suc (length loads)
  counted = one (length xs) (length (map at xs)) (length (loads ++ store ∷ [])) (length loads) (length_map at xs) (ap length are) (length_append loads (store ∷ []))
    where
      one : (a b c d : ℕ) → b ≡ a → b ≡ c → c ≡ d + 1 → a ≡ suc d
      one a b c d e f g = omega (arith, e, f, g)

  -- a load is of the loaded element with its number
  pub load_is : (k : ℕ) (x : Access) → slice_get xs k ≡ Some x → k < length xs - 1 → slice_get loads k ≡ Some (at x)
  load_is k x g h = chosen (from_append loads (store ∷ []) k (at x) (sym (ap (λ ys. slice_get ys k) are) ∙ to_mapped at xs k x g))
    where
      too_far : (k n l c : ℕ) → l ≡ suc c → k < l - 1 → k ≡ c + n → ⊥
      too_far k n l c e h f = omega (arith, e, h, f)

      chosen : (slice_get loads k ≡ Some (at x)) ⊎ ((n : ℕ) × (k ≡ length loads + n) × (slice_get (store ∷ []) n ≡ Some (at x))) → slice_get loads k ≡ Some (at x)
      chosen (inl e) = e
      chosen (inr r) = absurd (too_far k r.0 (length xs) (length loads) counted h r.1)

  -- the last access is of the stored element
  pub store_is : (x : Access) → slice_get xs (length xs - 1) ≡ Some x → at x ≡ store
  store_is x g = chosen (from_append loads (store ∷ []) (length xs - 1) (at x) (sym (ap (λ ys. slice_get ys (length xs - 1)) are) ∙ to_mapped at xs (length xs - 1) x g))
    where
      too_near : (k l c : ℕ) → l ≡ suc c → k ≡ l - 1 → k < c → ⊥
      too_near k l c e f h = omega (arith, e, f, h)

      at_seam : (n : ℕ) → slice_get (store ∷ []) n ≡ Some (at x) → at x ≡ store
      at_seam zero e = same_Some (at x) store (sym e)
      at_seam (suc n) e = absurd (none-some (at x) e)

      chosen : (slice_get loads (length xs - 1) ≡ Some (at x)) ⊎ ((n : ℕ) × (length xs - 1 ≡ length loads + n) × (slice_get (store ∷ []) n ≡ Some (at x))) → at x ≡ store
      chosen (inl e) = absurd (too_near (length xs - 1) (length xs) (length loads) counted refl (slice_get_within loads (length xs - 1) (at x) e))
      chosen (inr r) = at_seam r.0 r.2

  pub store_there : (x : Access) × (slice_get xs (length xs - 1) ≡ Some x)
  store_there = there_is xs (length xs - 1) (last (length xs) (length loads) counted)
    where
      last : (n c : ℕ) → n ≡ suc c → n - 1 < n
      last n c e = omega (arith, e)

  -- each loaded element has its load
  pub loaded : (x : X) → IsIn x loads → (k : ℕ) × (y : Access) × (slice_get xs k ≡ Some y) × (k < length xs - 1) × (x ≡ at y) × (slice_get loads k ≡ Some x)
  loaded x i =
      let a = place_of loads x i in
      let k : ℕ = a.0 in
      let h : k < length loads = slice_get_within loads k x a.1 in
      let b = there_is xs k (within k (length xs) (length loads) counted h) in
      let l : k < length xs - 1 = inside k (length xs) (length loads) counted h in
      let c : slice_get loads k ≡ Some (at b.0) = load_is k b.0 b.1 l in
      (k, b.0, b.1, l, same_Some x (at b.0) (sym a.1 ∙ c), a.1)
    where
      within : (k n c : ℕ) → n ≡ suc c → k < c → k < n
      within k n c e h = omega (arith, e, h)

      inside : (k n c : ℕ) → n ≡ suc c → k < c → k < n - 1
      inside k n c e h = omega (arith, e, h)
