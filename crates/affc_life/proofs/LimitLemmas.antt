-- What the limits of a list's parts say of the list.
use Rattle.std.proofs.Common.{◌≡◌, ℕ, suc, ◌+◌, ◌<◌, ◌≤◌, List, [], ◌∷◌, ◌++◌, length, get_or, sym, ap, subst, ◌∙◌, ◌⊎◌, inl, inr, arith}
use Rattle.std.specs.List.{All}
use Rattle.std.proofs.lemmas.List.Elements.{All-nil, All-cons, All-head, All-tail}
use Rattle.affc_rows.specs.Forms.{Affine}
use Rattle.affc_system.specs.Systems.{Rows, FitsRow}
use Rattle.affc_trace.proofs.Once.{in_append}
use Rattle.affc_trace.proofs.Runs.{length_append}
use Rattle.affc_nest.specs.Domains.{with_rows}
use Rattle.affc_life.specs.Clashes.{Clash}
use Rattle.affc_life.specs.Sizes.{IsLarge, AnyLarge}

-- what holds of each entry of a list holds of each of its parts
pub all_first : {X : Type 0} (P : X → Type 0) (xs ys : List X) → All P (xs ++ ys) → All P xs
all_first P [] ys h = All-nil P
all_first P (x ∷ xs) ys h = All-cons P x xs (All-head P x (xs ++ ys) h) (all_first P xs ys (All-tail P x (xs ++ ys) h))

pub all_second : {X : Type 0} (P : X → Type 0) (xs ys : List X) → All P (xs ++ ys) → All P ys
all_second P [] ys h = h
all_second P (x ∷ xs) ys h = all_second P xs ys (All-tail P x (xs ++ ys) h)

-- a list of one entry
pub only_entry : {X : Type 0} (xs : List X) (x : X) → 1 ≤ length xs → length xs < 2 → x ≡ get_or xs 0 x → xs ≡ x ∷ []
only_entry [] x h g e = absurd (omega arith)
only_entry (y ∷ []) x h g e = ap (λ z. z ∷ []) (sym e)
only_entry (y ∷ z ∷ zs) x h g e = absurd (omega (arith, g))

module _ (old : Rows) (rows : List Affine) (row : Affine) (rest : List Affine) (is : rows ≡ row ∷ rest) where
  pub large_first : (1024 < length old.rows + 1) ⊎ (¬ (FitsRow row)) → (1024 < length old.rows + length rows) ⊎ (¬ (All FitsRow rows))
  large_first (inl h) = inl (more (length old.rows) (length rows) (length rest) (ap length is) h)
    where
      more : (n m k : ℕ) → m ≡ suc k → 1024 < n + 1 → 1024 < n + m
      more n m k e h = omega (arith, e, h)
  large_first (inr n) = inr (λ all. n (All-head FitsRow row rest (subst (All FitsRow) is all)))

  pub large_rest : (new : Rows) → new ≡ with_rows old (row ∷ []) → (1024 < length new.rows + length rest) ⊎ (¬ (All FitsRow rest)) → (1024 < length old.rows + length rows) ⊎ (¬ (All FitsRow rows))
  large_rest new e (inl h) = inl (more (length old.rows) (length new.rows) (length rows) (length rest) (ap (λ (r : Rows). length r.rows) e ∙ length_append old.rows (row ∷ [])) (ap length is) h)
    where
      more : (n n' m k : ℕ) → n' ≡ n + 1 → m ≡ suc k → 1024 < n' + k → 1024 < n + m
      more n n' m k d e h = omega (arith, d, e, h)
  large_rest new e (inr n) = inr (λ all. n (All-tail FitsRow row rest (subst (All FitsRow) is all)))

-- ---- More rows

-- a system with more rows behind these
pub larger : (columns : ℕ) (xs ys : List Affine) → IsLarge (record { columns = columns; rows = xs }) → IsLarge (record { columns = columns; rows = xs ++ ys })
larger columns xs ys (inl h) = inl h
larger columns xs ys (inr (inl h)) = inr (inl (more (length xs) (length ys) (length (xs ++ ys)) (length_append xs ys) h))
  where
    more : (n k m : ℕ) → m ≡ n + k → 1024 < n → 1024 < m
    more n k m e h = omega (arith, e, h)
larger columns xs ys (inr (inr n)) = inr (inr (λ all. n (all_first FitsRow xs ys all)))

-- ---- Clash systems in two parts

module _ (all first others : List Clash) (is : all ≡ first ++ others) where
  pub none_in_parts : (AnyLarge first → ⊥) → (AnyLarge others → ⊥) → AnyLarge all → ⊥
  none_in_parts front back h =
      let any = subst AnyLarge is h in
      elim (in_append first others any.clash any.there) [ inl i ↦ front (record { clash = any.clash; there = i; large = any.large }) | inr i ↦ back (record { clash = any.clash; there = i; large = any.large }) ]
