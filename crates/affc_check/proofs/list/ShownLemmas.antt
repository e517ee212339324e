-- What a certificate shows of a modulus, item by item.
use Rattle.std.proofs.Common.{◌≡◌, ℕ, zero, suc, ℤ, pos, negsuc, List, [], ◌∷◌, ◌++◌, Some, sym, ap, subst, inl, inr, ◌∙◌}
use Rattle.std.specs.Prelude.{slice_get}
use Rattle.std.specs.List.{All}
use Rattle.std.proofs.lemmas.List.Elements.{All-append}
use Rattle.std.proofs.lemmas.Option.{same_Some}
use Rattle.affc_rows.specs.Forms.{Affine}
use Rattle.affc_system.specs.Systems.{Rows, IsRow}
use Rattle.affc_system.specs.declared.pairs.PairSystem.{PairSystem}
use Rattle.affc_nest.specs.declared.nest.Nest.{Nest}
use Rattle.affc_sched.specs.Touched.{Each}
use Rattle.affc_conflicts.specs.Questions.{greater_question}
use Rattle.affc_check.specs.list.Held.{context_item}
use Rattle.affc_check.specs.list.Items.{Item, Question, Shown, LeastShown, numbered, pair_item, mark_items}
use Rattle.affc_check.specs.list.Limits.{AnyPasses}
use Rattle.affc_check.specs.list.Listed.{AreListed}
use Rattle.affc_check.proofs.list.PartLemmas.{listed_twice, passes_behind}

-- a point is no question
not_asked : (s : Rows) (p : List ℤ) → ¬ (AnyPasses (Shown s p ∷ []))
not_asked s p = λ (a : AnyPasses (Shown s p ∷ [])). elim a.there [ inl e ↦ absurd (cc) | inr i ↦ absurd i ]

pub point_listed : (a b : List Item) (s : Rows) (p : List ℤ) → b ≡ a ++ Shown s p ∷ [] → AreListed a b (Shown s p ∷ [])
point_listed a b s p e = record { put = e; within = not_asked s p }

module _ (nest : Nest) (rows : List Affine) (k : ℕ) (row modulus : Affine) (systems : List PairSystem) (l : LeastShown) where
  pub mark_listed : (a b c d : List Item) (s t : Rows) (p q : List ℤ) → Shown s p ≡ context_item nest l.p → Shown t q ≡ pair_item nest rows k row modulus systems l.p l.pair → b ≡ a ++ Shown s p ∷ []
      → c ≡ b ++ Shown t q ∷ [] → AreListed c d (Question (greater_question nest.context nest.params modulus l.p) ∷ []) → AreListed a d (mark_items nest rows k row modulus systems (Some l))
  mark_listed a b c d s t p q first second e f h =
      let greater = Question (greater_question nest.context nest.params modulus l.p) in
      subst (AreListed a d) (ap (λ i. i ∷ Shown t q ∷ greater ∷ []) first ∙ ap (λ i. context_item nest l.p ∷ i ∷ greater ∷ []) second)
      (listed_twice a b d (Shown s p ∷ []) (Shown t q ∷ greater ∷ []) (point_listed a b s p e) (listed_twice b c d (Shown t q ∷ []) (greater ∷ []) (point_listed b c t q f) h))

  pub greater_passes : AnyPasses (Question (greater_question nest.context nest.params modulus l.p) ∷ []) → AnyPasses (mark_items nest rows k row modulus systems (Some l))
  greater_passes h = passes_behind (context_item nest l.p ∷ pair_item nest rows k row modulus systems l.p l.pair ∷ []) (Question (greater_question nest.context nest.params modulus l.p) ∷ []) h

-- ---- Clash systems by their numbers

each_at : (P : PairSystem → Type 0) (xs : List PairSystem) (n : ℕ) (s : PairSystem) → Each P xs → slice_get xs n ≡ Some s → P s
each_at P [] n s h e = absurd (cc)
each_at P (x ∷ xs) zero s h e = subst P (same_Some x s e) h.0
each_at P (x ∷ xs) (suc n) s h e = each_at P xs n s h.1 e

pub each_numbered : (P : PairSystem → Type 0) (xs : List PairSystem) (z : ℤ) (s : PairSystem) → Each P xs → numbered xs z ≡ Some s → P s
each_numbered P xs (pos n) s h e = each_at P xs n s h e
each_numbered P xs (negsuc n) s h e = absurd (cc)

-- the rows of one, and others behind them
pub tail_fits : (n k : ℕ) (front found tail first second third : List Affine) (s : Rows) → k ≡ n → All (IsRow n) front → All (IsRow n) found → All (IsRow n) tail → first ≡ front → second ≡ first ++ found
    → third ≡ second ++ tail → s ≡ record { columns = k; rows = third } → All (IsRow s.columns) s.rows
tail_fits n k front found tail first second third s q f g h a b c e =
    subst (λ (t : Rows). All (IsRow t.columns) t.rows) (sym e)
    (subst (λ j. All (IsRow j) third) (sym q)
    (subst (All (IsRow n)) (sym (c ∙ ap (λ z. z ++ tail) (b ∙ ap (λ z. z ++ found) a))) (All-append (IsRow n) (front ++ found) tail (All-append (IsRow n) front found f g) h)))
