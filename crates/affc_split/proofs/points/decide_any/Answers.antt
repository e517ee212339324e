use Rattle.std.proofs.Common.{rules, arith, ℕ, ◌≡◌, ◌∙◌, ◌+◌, ◌≤◌, Option, Some, None, OnOk, Result, Ok, Err, inl, inr, refl, ap, sym, subst}
use Rattle.std.specs.Prelude.{IfErr, IsSomeAnd}
use Rattle.affc_split.specs.declared.budget.Stop.TheVariants.{Budget}
use Rattle.affc_split.proofs.points.decide_any.Goals as goal

some_within : (limit : Option ℕ) (l : ℕ) → IsSomeAnd limit (λ k. k ≤ l) → (k : ℕ) × (limit ≡ Some k) × (k ≤ l)
some_within (Some k) l h = (k, refl, h)
some_within None l h = elim h [ ]

always : {T E P : Type 0} (r : Result T E) → P → OnOk r P
always (Ok x) h = h
always (Err e) h = tt

one_more : (a b : ℕ) → a ≤ b → (b ≡ a → ⊥) → a + 1 ≤ b
one_more a b h n = grind (arith, h, n)

pub returns-in-Ok-clause-unit : goal.returns-in-Ok-clause-unit
returns-in-Ok-clause-unit c = λ few. elim (c.decide-early.ensures.unit few) [
  | inl h ↦ inl (omega (arith, h, c.charge.ensures.most, c.part-few.ensures.spent))
  | inr k ↦ inr k
]

pub returns-in-Err-Memory-clause-unit : goal.returns-in-Err-Memory-clause-unit
returns-in-Err-Memory-clause-unit c = λ few. elim (c.decide-early.ensures.unit few) [
  | inl h ↦ inl (omega (arith, h, c.charge.ensures.most, c.part-few.ensures.spent))
  | inr k ↦ inr k
]

pub returns-in-Ok-clause-counted : goal.returns-in-Ok-clause-counted
returns-in-Ok-clause-counted c = λ l e.
    let within = c.part-few.ensures.within l e in
    let w = some_within c.part-few.result.limit l within in
    let a = c.in-Ok.ensures.counted w.0 w.1 in
    let s = c.charge.ensures.spent l e (subst (λ o. IsSomeAnd o (λ k. k ≤ l)) (sym c.decide-early.ensures.later.limit) within) in
    omega (arith, a, s, c.part-few.ensures.spent)

pub returns-in-Err-Budget-clause-counted : goal.returns-in-Err-Budget-clause-counted
returns-in-Err-Budget-clause-counted c = always c.found_otherwise.result (λ l e.
    let few = c.decide-early.new.budget in
    let is_budget : c.in-Err-Budget.field-0 ≡ Budget = search rules in
    let stop : few.limit ≡ Some few.spent = subst (λ r. IfErr r (λ e. e ≡ Budget → few.limit ≡ Some few.spent)) c.in-Err-Budget.is c.decide-early.ensures.stop is_budget in
    let ends : c.part-few.result.limit ≡ Some few.spent = sym c.decide-early.ensures.later.limit ∙ stop in
    let s = c.charge.ensures.spent l e (subst (λ o. IsSomeAnd o (λ k. k ≤ l)) (sym c.decide-early.ensures.later.limit) (c.part-few.ensures.within l e)) in
    let not_spent : c.args.budget.now.limit ≡ Some c.args.budget.now.spent → ⊥ = search rules in
    let new : few.spent ≡ c.part-few.result.spent → ⊥ = λ h. not_spent (c.part-few.ensures.unspent (omega arith) (ends ∙ ap Some h)) in
    let a = one_more c.part-few.result.spent few.spent c.decide-early.ensures.later.grows new in
    omega (arith, a, s, c.part-few.ensures.spent, c.found_otherwise.ensures.later.grows))
