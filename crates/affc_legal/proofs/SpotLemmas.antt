-- The order of spots, and the spots at the points of a question.
use Rattle.std.proofs.Common.{◌≡◌, ◌+◌, ℤ, pos, ◌<ℤ◌, List, [], ◌∷◌, ◌++◌, length, refl, sym, ap, subst, ◌∙◌, inl, inr, arith}
use Rattle.std.proofs.lemmas.Int.{ints}
use Rattle.affc_system.specs.Order.{LexLe}
use Rattle.affc_trace.proofs.EndedReads.{append_assoc}
use Rattle.affc_trace.proofs.Runs.{length_append}
use Rattle.affc_nest.specs.declared.nest.Nest.{Nest}
use Rattle.affc_nest.specs.Parts.{statement_of}
use Rattle.affc_order.specs.Systems.{coordinates_of}
use Rattle.affc_legal.specs.Answered.{spot_at}
use Rattle.affc_sched.specs.Questions.{Question}
use Rattle.affc_sched.proofs.PointLemmas.{front, middle, end, front_long, middle_long, front_middle_end}

-- ---- Lists in lexicographic order

less_less : (x y z : ℤ) → x <ℤ y → y <ℤ z → x <ℤ z
less_less x y z h k = omega (arith, ints)

pub lex_trans : (x y z : List ℤ) → LexLe x y → LexLe y z → LexLe x z
lex_trans [] y z h k = tt
lex_trans (x ∷ xs) [] z h k = absurd h
lex_trans (x ∷ xs) (y ∷ ys) [] h k = absurd k
lex_trans (x ∷ xs) (y ∷ ys) (z ∷ zs) (inl h) (inl k) = inl (less_less x y z h k)
lex_trans (x ∷ xs) (y ∷ ys) (z ∷ zs) (inl h) (inr k) = inl (subst (λ w. x <ℤ w) k.0 h)
lex_trans (x ∷ xs) (y ∷ ys) (z ∷ zs) (inr h) (inl k) = inl (subst (λ w. w <ℤ z) (sym h.0) k)
lex_trans (x ∷ xs) (y ∷ ys) (z ∷ zs) (inr h) (inr k) = inr (h.0 ∙ k.0, lex_trans xs ys zs h.1 k.1)

-- one number more in both, behind fronts of one length
lex_between : (p q xs ys : List ℤ) (s : ℤ) → length p ≡ length q → LexLe (p ++ xs) (q ++ ys) → LexLe (p ++ (s ∷ xs)) (q ++ (s ∷ ys))
lex_between [] [] xs ys s l h = inr (refl, h)
lex_between [] (y ∷ q) xs ys s l h = absurd (omega arith)
lex_between (x ∷ p) [] xs ys s l h = absurd (omega arith)
lex_between (x ∷ p) (y ∷ q) xs ys s l (inl h) = inl h
lex_between (x ∷ p) (y ∷ q) xs ys s l (inr h) = inr (h.0, lex_between p q xs ys s (omega (arith, l)) h.1)

both_long : (p xs q us : List ℤ) → length p ≡ length q → length xs ≡ length us → length (p ++ xs) ≡ length (q ++ us)
both_long p xs q us l m = length_append p xs ∙ ap (λ k. k + length xs) l ∙ ap (λ k. length q + k) m ∙ sym (length_append q us)

-- the order of points is that of the spots of two statements
lex_spots : (p q xs us ys vs : List ℤ) (s t : ℤ) → length p ≡ length q → length xs ≡ length us → LexLe (p ++ (xs ++ ys)) (q ++ (us ++ vs))
    → LexLe (p ++ (s ∷ (xs ++ (t ∷ ys)))) (q ++ (s ∷ (us ++ (t ∷ vs))))
lex_spots p q xs us ys vs s t l m h =
    let one : LexLe ((p ++ xs) ++ ys) ((q ++ us) ++ vs) =
    subst (λ z. LexLe z ((q ++ us) ++ vs)) (sym (append_assoc p xs ys)) (subst (LexLe (p ++ (xs ++ ys))) (sym (append_assoc q us vs)) h) in
    let two = lex_between (p ++ xs) (q ++ us) ys vs t (both_long p xs q us l m) one in
    let three : LexLe (p ++ (xs ++ (t ∷ ys))) (q ++ (us ++ (t ∷ vs))) =
    subst (λ z. LexLe z (q ++ (us ++ (t ∷ vs)))) (append_assoc p xs (t ∷ ys)) (subst (LexLe ((p ++ xs) ++ (t ∷ ys))) (append_assoc q us (t ∷ vs)) two) in
    lex_between p q (xs ++ (t ∷ ys)) (us ++ (t ∷ vs)) s l three

-- ---- Points

module _ (nest : Nest) (q : Question) where
  -- the spots at points are in the points' order
  pub points_spots : (x z : List ℤ) → length x ≡ (length nest.params + coordinates_of nest q.first) + coordinates_of nest q.second → length z ≡ length x → LexLe x z → LexLe (spot_at nest q x) (spot_at nest q z)
  points_spots x z h e o =
      let m = length nest.params in
      let k = coordinates_of nest q.first in
      let l = coordinates_of nest q.second in
      let g = e ∙ h in
      lex_spots (front m k l x h) (front m k l z g) (middle m k l x h) (middle m k l z g) (end m k l x h) (end m k l z g) (pos (statement_of nest q.first)) (pos (statement_of nest q.second))
      (front_long m k l x h ∙ sym (front_long m k l z g)) (middle_long m k l x h ∙ sym (middle_long m k l z g))
      (subst (λ w. LexLe w (front m k l z g ++ (middle m k l z g ++ end m k l z g))) (sym (front_middle_end m k l x h)) (subst (LexLe x) (sym (front_middle_end m k l z g)) o))
