-- Clauses of a result together.
use Rattle.std.proofs.Common.{Result, Ok, Err, ◌≡◌, inl, inr, ℕ, ℤ, List, [], ◌∷◌, ◌++◌, length, sym, ap, subst, ◌∙◌}
use Rattle.std.specs.Prelude.{IfOk, slice_get, Some}
use Rattle.std.proofs.lemmas.Option.{same_Some}
use Rattle.affc_rows.specs.Forms.{Affine}
use Rattle.affc_system.specs.Systems.{Rows}
use Rattle.affc_system.specs.declared.pairs.PairSystem.{PairSystem}
use Rattle.affc_basis.specs.declared.fold.Modulus.{Modulus}
use Rattle.affc_basis.specs.declared.fold.Mark.TheVariants.{Bound}
use Rattle.affc_split.specs.Budgets.{Account, IsLater}
use Rattle.affc_moduli.specs.Ended.{IsSpent}
use Rattle.affc_moduli.specs.Rows.{IsKept, AreKept, AreMarkedOr}
use Rattle.affc_moduli.proofs.Spent.{stays_spent}
use Rattle.affc_moduli.proofs.Parallel.{pushed}

pub both : {A E : Type 0} (P Q R : A → Type 0) (r : Result A E) → ((a : A) → P a → Q a → R a) → IfOk r P → IfOk r Q → IfOk r R
both P Q R (Ok a) f p q = f a p q
both P Q R (Err e) f p q = tt

-- one modulus more
pub done_more : (context : Rows) (ranges : List (ℤ × ℤ)) (systems : List PairSystem) (rows : List Affine) (ms : List Modulus) (k : ℕ) (row : Affine) (m : Modulus) → length ms ≡ k → slice_get rows k ≡ Some row
    → IsKept context ranges systems rows k row m → AreKept context ranges systems rows ms → AreKept context ranges systems rows (ms ++ m ∷ [])
done_more context ranges systems rows ms k row m count at this before j other n at_other at_n = elim (pushed ms m j n at_n) [
  | inl h ↦ before j other n at_other h
  | inr h ↦
      let e : k ≡ j = sym count ∙ sym h.0 in
      let same : row ≡ other = same_Some row other (sym at ∙ ap (slice_get rows) e ∙ at_other) in
      subst (λ w. IsKept context ranges systems rows j other w) h.1 (subst (λ w. IsKept context ranges systems rows j w m) same (subst (λ i. IsKept context ranges systems rows i row m) e this))
]

-- and only those without a mark want a budget that is spent
pub marked_more : (budget : Account) (ms : List Modulus) (m : Modulus) → (m.mark ≡ Bound → IsSpent budget) → AreMarkedOr budget ms → AreMarkedOr budget (ms ++ m ∷ [])
marked_more budget ms m this before j n at = elim (pushed ms m j n at) [ inl h ↦ before j n h | inr h ↦ subst (λ (w : Modulus). w.mark ≡ Bound → IsSpent budget) h.1 this ]

pub marked_later : (before after : Account) (ms : List Modulus) → IsLater before after → AreMarkedOr before ms → AreMarkedOr after ms
marked_later before after ms later marked j n at is = stays_spent before after later (marked j n at is)
