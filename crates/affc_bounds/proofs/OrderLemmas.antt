-- The order of keys, and the first of what is found.
use Rattle.std.proofs.Common.{◌≡◌, ℕ, suc, ◌+◌, ℤ, ◌<ℤ◌, List, [], ◌∷◌, ◌++◌, length, Option, Some, None, refl, sym, ap, subst, ◌∙◌, inl, inr, arith}
use Rattle.std.proofs.lemmas.Int.{ints}
use Rattle.affc_system.specs.Order.{LexLe}
use Rattle.affc_trace.proofs.Runs.{length_append}
use Rattle.affc_bounds.specs.Found.{Either, IsFirst, IsNearer}
use Rattle.affc_bounds.specs.declared.found.Found.{Found}

-- ---- Keys

less_less : (x y z : ℤ) → x <ℤ y → y <ℤ z → x <ℤ z
less_less x y z h k = omega (arith, ints)

pub lex_trans : (x y z : List ℤ) → LexLe x y → LexLe y z → LexLe x z
lex_trans [] y z h k = tt
lex_trans (x ∷ xs) [] z h k = absurd h
lex_trans (x ∷ xs) (y ∷ ys) [] h k = absurd k
lex_trans (x ∷ xs) (y ∷ ys) (z ∷ zs) (inl h) (inl k) = inl (less_less x y z h k)
lex_trans (x ∷ xs) (y ∷ ys) (z ∷ zs) (inl h) (inr k) = inl (subst (λ w. x <ℤ w) k.0 h)
lex_trans (x ∷ xs) (y ∷ ys) (z ∷ zs) (inr h) (inl k) = inl (subst (λ w. w <ℤ z) (sym h.0) k)
lex_trans (x ∷ xs) (y ∷ ys) (z ∷ zs) (inr h) (inr k) = inr (h.0 ∙ k.0, lex_trans xs ys zs h.1 k.1)

-- what stands behind fronts of one length counts where the fronts are equal
pub lex_append : (p q xs ys : List ℤ) → length p ≡ length q → LexLe p q → LexLe xs ys → LexLe (p ++ xs) (q ++ ys)
lex_append [] [] xs ys l h k = k
lex_append [] (y ∷ q) xs ys l h k = absurd (omega arith)
lex_append (x ∷ p) [] xs ys l h k = absurd (omega arith)
lex_append (x ∷ p) (y ∷ q) xs ys l (inl h) k = inl h
lex_append (x ∷ p) (y ∷ q) xs ys l (inr h) k = inr (h.0, lex_append p q xs ys (omega (arith, l)) h.1 k)

-- one number more in both, behind fronts of one length
lex_between : (p q xs ys : List ℤ) (s : ℤ) → length p ≡ length q → LexLe (p ++ xs) (q ++ ys) → LexLe (p ++ s ∷ xs) (q ++ s ∷ ys)
lex_between [] [] xs ys s l h = inr (refl, h)
lex_between [] (y ∷ q) xs ys s l h = absurd (omega arith)
lex_between (x ∷ p) [] xs ys s l h = absurd (omega arith)
lex_between (x ∷ p) (y ∷ q) xs ys s l (inl h) = inl h
lex_between (x ∷ p) (y ∷ q) xs ys s l (inr h) = inr (h.0, lex_between p q xs ys s (omega (arith, l)) h.1)

pub lex_refl : (xs : List ℤ) → LexLe xs xs
lex_refl [] = tt
lex_refl (x ∷ xs) = inr (refl, lex_refl xs)

-- the order of points is that of the spots of one access
pub lex_spots : (p q xs ys : List ℤ) (s a : ℤ) → length p ≡ length q → length (p ++ xs) ≡ length (q ++ ys) → LexLe (p ++ xs) (q ++ ys) → LexLe (p ++ s ∷ xs ++ a ∷ []) (q ++ s ∷ ys ++ a ∷ [])
lex_spots p q xs ys s a l m h =
    lex_append (p ++ s ∷ xs) (q ++ s ∷ ys) (a ∷ []) (a ∷ []) longer (lex_between p q xs ys s l h) (lex_refl (a ∷ []))
  where
    one_more : (b c d e : ℕ) → b ≡ c → b + d ≡ c + e → b + (1 + d) ≡ c + (1 + e)
    one_more b c d e f g = omega (arith, f, g)

    cons_long : (z : ℤ) (zs : List ℤ) → length (z ∷ zs) ≡ 1 + length zs
    cons_long z zs = omega arith

    longer : length (p ++ s ∷ xs) ≡ length (q ++ s ∷ ys)
    longer =
        length_append p (s ∷ xs) ∙ ap (λ n. length p + n) (cons_long s xs)
        ∙ one_more (length p) (length q) (length xs) (length ys) l (sym (length_append p xs) ∙ m ∙ length_append q ys)
        ∙ ap (λ n. length q + n) (sym (cons_long s ys)) ∙ sym (length_append q (s ∷ ys))

-- ---- The first of what is found

module _ (These Those : Found → Type 0) where
  only_there : (b : Option Found) → ((f : Found) → These f → ⊥) → IsFirst Those b → IsFirst (Either These Those) b
  only_there None none h = λ f e. elim e [ inl x ↦ none f x | inr y ↦ h f y ]
  only_there (Some f) none h = (inr h.0, λ g e. elim e [ inl x ↦ absurd (none g x) | inr y ↦ h.1 g y ])

  only_here : (f : Found) → IsFirst These (Some f) → ((g : Found) → Those g → ⊥) → IsFirst (Either These Those) (Some f)
  only_here f h none = (inl h.0, λ g e. elim e [ inl x ↦ h.1 g x | inr y ↦ absurd (none g y) ])

  -- the first of two is the first among both
  pub first_of_both : (a b c : Option Found) → IsFirst These a → IsFirst Those b → IsNearer a b c → IsFirst (Either These Those) c
  first_of_both None b c h k n = subst (IsFirst (Either These Those)) (sym n) (only_there b h k)
  first_of_both (Some x) None c h k n = subst (IsFirst (Either These Those)) (sym n) (only_here x h k)
  first_of_both (Some x) (Some y) c h k (inl n) =
      subst (IsFirst (Either These Those)) (sym n.0) (inl h.0, λ g e. elim e [ inl u ↦ h.1 g u | inr v ↦ lex_trans x.key y.key g.key n.1 (k.1 g v) ])
  first_of_both (Some x) (Some y) c h k (inr n) =
      subst (IsFirst (Either These Those)) (sym n.0) (inr k.0, λ g e. elim e [ inl u ↦ lex_trans y.key x.key g.key n.1 (h.1 g u) | inr v ↦ k.1 g v ])

-- ---- Places in lists

pub moved : (k j : ℕ) → (k + 1) + j ≡ k + suc j
moved k j = omega arith

pub none_more : (k : ℕ) → k ≡ k + 0
none_more k = omega arith

pub none_before : (k : ℕ) → 0 + k ≡ k
none_before k = omega arith
