-- The lexicographic order, and what the definitions give at small boxes.
use Rattle.std.proofs.Common.{◌≡◌, ◌⊎◌, inl, inr, List, [], ◌∷◌, ℤ, pos, ◌<ℤ◌, refl, sym, ap, ◌∙◌, arith}
use Rattle.std.proofs.lemmas.Int.{ints, by_lt_z}
use Rattle.affc_system.specs.Order.{LexLe}
use Rattle.affc_leaf.specs.Examples.{TenTimesFivePoints, FirstColumnDecides}

above : (x z : ℤ) → (x <ℤ z) ⊎ ((z <ℤ x) ⊎ (x ≡ z))
above x z = by_lt_z x z (λ h. inl h) (λ h. by_lt_z z x (λ k. inr (inl k)) (λ k. inr (inr (omega (arith, ints)))))

pub lex_total : (x z : List ℤ) → LexLe x z ⊎ LexLe z x
lex_total [] zs = inl tt
lex_total (x ∷ xs) [] = inr tt
lex_total (x ∷ xs) (z ∷ zs) =
    elim (above x z) [
      | inl h ↦ inl (inl h)
      | inr k ↦ elim k [
        | inl h ↦ inr (inl h)
        | inr e ↦ elim (lex_total xs zs) [ inl h ↦ inl (inr (e, h)) | inr h ↦ inr (inr (sym e, h)) ]
      ]
    ]

never_both : (x z : ℤ) → x <ℤ z → z <ℤ x → ⊥
never_both x z h k = omega (arith, ints)

never_same : (x z : ℤ) → x <ℤ z → z ≡ x → ⊥
never_same x z h e = omega (arith, ints)

pub lex_same : (x z : List ℤ) → LexLe x z → LexLe z x → x ≡ z
lex_same [] [] h k = refl
lex_same [] (z ∷ zs) h k = absurd k
lex_same (x ∷ xs) [] h k = absurd h
lex_same (x ∷ xs) (z ∷ zs) (inl h) (inl k) = absurd (never_both x z h k)
lex_same (x ∷ xs) (z ∷ zs) (inl h) (inr k) = absurd (never_same x z h k.0)
lex_same (x ∷ xs) (z ∷ zs) (inr h) (inl k) = absurd (never_same z x k h.0)
lex_same (x ∷ xs) (z ∷ zs) (inr h) (inr k) = ap (λ y. y ∷ xs) h.0 ∙ ap (λ l. z ∷ l) (lex_same xs zs h.1 k.1)

one_below_two : pos 1 <ℤ pos 2
one_below_two = omega (arith, ints)

not_below : pos 2 <ℤ pos 1 → ⊥
not_below h = omega (arith, ints)

not_two : pos 2 ≡ pos 1 → ⊥
not_two e = omega (arith, ints)

pub ten_times_five : TenTimesFivePoints
ten_times_five = refl

pub first_column_decides : FirstColumnDecides
first_column_decides = (inl one_below_two, λ h. elim h [ inl k ↦ not_below k | inr k ↦ not_two k.0 ])
