-- Each example computes, or follows from what the blur needs.
use Rattle.std.proofs.Common.{◌≡◌, ℕ, zero, suc, ◌+◌, ◌^◌, ◌≤◌, ℤ, pos, ◌≤ℤ◌, ◌<ℤ◌, Bool, true, false, if◌then◌else◌, List, [], ◌∷◌, length, map, Option, Some, None, refl, sym, ap, subst, ◌∙◌, inl, inr, lit≤, arith, ◌<◌}
use Rattle.std.specs.Prelude.{nat_eq, slice_get, unsigned_abs}
use Rattle.std.proofs.lemmas.Int.{ints}
use Rattle.std.proofs.lemmas.Bool.{eqb-true}
use Rattle.std.proofs.lemmas.Option.{none-some, same_Some}
use Rattle.std.proofs.lemmas.List.Elements.{All-nil, All-cons, All-head}
use Rattle.affc_rows.specs.Forms.{Affine, value}
use Rattle.affc_ast.specs.declared.tree.ArrayId.{ArrayId}
use Rattle.affc_ast.specs.declared.tree.Decl.{Decl}
use Rattle.affc_trace.specs.Inverses.{column}
use Rattle.affc_trace.specs.Dataflow.{LivePair}
use Rattle.affc_trace.specs.Examples.{blur, together, two}
use Rattle.affc_trace.specs.Law.{IsIn}
use Rattle.affc_trace.specs.Laws.{IsInContext}
use Rattle.affc_split.specs.Budgets.{Account}
use Rattle.affc_basis.specs.declared.basis.Basis.{Basis}
use Rattle.affc_basis.specs.declared.fold.Fold.{Fold}
use Rattle.affc_basis.specs.declared.fold.Mark.TheVariants.{Bound}
use Rattle.affc_basis.specs.declared.fold.Modulus.{Modulus}
use Rattle.affc_basis.specs.Examples.{x0, whole, number, onto, fold_at, marked, IsEnoughForTheBlur, IsTrueOfTheBlur, first_row, two_rows, OnePair}
use Rattle.affc_basis.specs.FoldLists.{IsFoldIn, AreFoldsIn}
use Rattle.affc_basis.specs.Folds.{fold_of, KeepsLimits, Obeys, IsTrueMark, IsNeed, IsGreatestValue, AreGreatestValues}
use Rattle.affc_basis.specs.Listed.{Shape, shape_of, listing, columns}
use Rattle.affc_basis.specs.Moduli.{IsModulus}
use Rattle.affc_basis.specs.Slices.{along, InSlice, IsGreatest}
use Rattle.affc_basis.proofs.MarkExamples.{three_is_enough, marks_of_the_blur}
use Rattle.affc_basis.proofs.Marks.{least_mark_is_need}
use Rattle.affc_basis.proofs.PremiseExamples.{lists_of_folds}
use Rattle.affc_basis.proofs.Uniques.{greatest_value_is_unique}
use Rattle.affc_weigh.specs.declared.choice.Choice.{Choice}
use Rattle.affc_weigh.specs.declared.choice.Price.{Price}
use Rattle.affc_weigh.specs.Choices.{AreNeeds}
use Rattle.affc_weigh.specs.Costs.{Gives, words_cost}
use Rattle.affc_folds.specs.Examples.{BasesOfArrays, SpentOrNot, WholeOrNot, SecondMarkIsFalse, LowestPrices, FoldsOfBlur, AreOfTheBlur, t_has, t_costs, price, by, least, three_of, given_to}
use Rattle.affc_basis.specs.Turned.{turned}
use Rattle.affc_folds.specs.Folding.{IsSpent, HasBound, HasTrueMarks, IsLeftWhole, IsPrice, IsLowest, IsChoice, HasChoice}

pub bases_of_arrays : BasesOfArrays
bases_of_arrays = (refl, refl, refl, refl)

pub spent_or_not : SpentOrNot
spent_or_not = (
  record { most = 3; limit = refl; reached = omega arith },
  λ h. (let e = same_Some 3 h.most h.limit in let l = h.reached in absurd (omega (arith, e, l))),
  λ h. absurd (none-some h.most h.limit),
)

-- ---- What is left whole

only_one : (k : ℕ) (d : Decl) → slice_get blur.temps k ≡ Some d → k ≡ 0
only_one zero d e = refl
only_one (suc k) d e = absurd (none-some d e)

never_whole : (f : Fold) → IsLeftWhole blur (t_has f) → ⊥
never_whole f h = no_more h.number (only_one h.number h.decl h.stands) h.unfolded
  where
    no_more : (k : ℕ) → k ≡ 0 → fold_of (t_has f) (2 + k) ≡ None → ⊥
    no_more zero e h = absurd (none-some f (sym h))
    no_more (suc k) e h = absurd (omega (arith, e))

left_whole : IsLeftWhole blur []
left_whole = record { number = 0; decl = _; stands = refl; unfolded = refl }

pub is_bound : (n : ℕ) → HasBound (onto n)
is_bound n = record { number = 0; modulus = _; there = refl; marked = refl }

pub not_bound : (n : ℕ) → HasBound (least n) → ⊥
not_bound n h = at h.number h.modulus h.there h.marked
  where
    at : (k : ℕ) (m : Modulus) → slice_get (least n).moduli k ≡ Some m → m.mark ≡ Bound → ⊥
    at zero m e f = let g = same_Some (marked n (Some (pos 0 ∷ [], pos 2 ∷ []))) m e in absurd (cc)
    at (suc k) m e f = none-some m e

pub whole_or_not : WholeOrNot
whole_or_not = (
  left_whole,
  record { number = 0; decl = _; stands = refl; unfolded = refl },
  never_whole (onto 3),
  is_bound 3,
  not_bound 3,
)

-- ---- A false mark

abbrev second_row : Affine
second_row = record { coefs = pos 0 ∷ pos 1 ∷ []; constant = pos 0 }

not_one : (n : ℕ) → ◌≡◌ {A = ℤ} (pos 1) (pos (n + 1)) → 3 ≤ n → ⊥
not_one n e h = omega (arith, ints, e, h)

pair_in_slice : InSlice (OnePair two) two_rows 1 (pos 0 ∷ pos 0 ∷ []) (pos 0 ∷ pos 3 ∷ [])
pair_in_slice = record { pair = (refl, refl); agrees = agrees }
  where
    agrees : (j : ℕ) (row : Affine) → j < 1 → slice_get two_rows j ≡ Some row → along row (pos 0 ∷ pos 0 ∷ []) (pos 0 ∷ pos 3 ∷ []) ≡ 0
    agrees zero row h e = subst (λ (r : Affine). along r (pos 0 ∷ pos 0 ∷ []) (pos 0 ∷ pos 3 ∷ []) ≡ 0) (same_Some first_row row e) refl
    agrees (suc j) row h e = absurd (omega (arith, h))

pub second_mark_is_false : SecondMarkIsFalse
second_mark_is_false fold rows moduli h =
    let m = h 1 second_row (marked 1 None) (ap (λ rs. slice_get rs 1) rows) (ap (λ ms. slice_get ms 1) moduli) in
    let g : IsGreatest (OnePair two) two_rows 1 second_row m.greatest = subst (λ rs. IsGreatest (OnePair two) rs 1 second_row m.greatest) rows m.is_greatest in
    not_one m.greatest m.value_there (g.most (pos 0 ∷ pos 0 ∷ []) (pos 0 ∷ pos 3 ∷ []) pair_in_slice)

-- ---- A fold of t

only : (f g : Fold) (array : ℕ) → fold_of (t_has f) array ≡ Some g → (2 ≡ array) × (f ≡ g)
only f g array e = by_test (nat_eq 2 array) refl e
  where
    by_test : (t : Bool) → nat_eq 2 array ≡ t → (if t then Some f else None) ≡ Some g → (2 ≡ array) × (f ≡ g)
    by_test true t e = (eqb-true 2 array t, same_Some f g e)
    by_test false t e = absurd (none-some g e)

module _ (m : Modulus) (fits : IsModulus 1 m.form) (enough : IsEnoughForTheBlur m.form) (shown : IsTrueOfTheBlur m) where
  is_fold : IsFoldIn blur 2 (by m)
  is_fold = record { number = 0; decl = _; stands = refl; behind = refl; rows = refl; moduli = All-cons (λ b. length b.coefs ≡ 1) m.form [] fits.width (All-nil (λ b. length b.coefs ≡ 1)) }

  are_in : AreFoldsIn blur (t_has (by m))
  are_in = record { different = (λ i. i, tt); each = each }
    where
      each : (array : ArrayId) (fold : Fold) → IsIn (array, fold) (t_has (by m)) → IsFoldIn blur array.0 fold
      each array fold (inl e) = subst (λ (g : ArrayId × Fold). IsFoldIn blur g.0.0 g.1) (sym e) is_fold
      each array fold (inr i) = absurd i

  obeying : (p : List ℤ) → IsInContext blur p → Obeys (LivePair blur together 2 p) (by m) p
  obeying p here zero row b at at_b = subst (λ (r : Affine). Bounds r b) (same_Some x0 row at) (subst (λ (c : Affine). Bounds x0 c) (same_Some m.form b at_b) (enough p here))
    where
      Bounds : Affine → Affine → Type 0
      Bounds r c = (pos 1 ≤ℤ value c p) × ((x y : List ℤ) → InSlice (LivePair blur together 2 p) (x0 ∷ []) 0 x y → pos (along r x y) <ℤ value c p)
  obeying p here (suc k) row b at at_b = absurd (none-some row at)

  true_marks : HasTrueMarks (IsInContext blur) (LivePair blur together 2) (by m)
  true_marks zero row n at at_n =
      subst (λ (r : Affine). IsTrueMark (IsInContext blur) (LivePair blur together 2) (x0 ∷ []) 0 r n) (same_Some x0 row at)
      (subst (λ (l : Modulus). IsTrueMark (IsInContext blur) (LivePair blur together 2) (x0 ∷ []) 0 x0 l) (same_Some m n at_n) shown)
  true_marks (suc k) row n at at_n = absurd (none-some row at)

  module _ (great : IsGreatestValue (IsInContext blur) m.form 3) (budget : Account) (bound : HasBound (by m) → IsSpent budget) (told : Option Price) (is_price : IsPrice (Gives words_cost) blur (LivePair blur together) budget 2 (x0 ∷ []) told)
      (lowest : IsLowest (by m) 0 3 (told ∷ [])) where
    abbrev choice : Choice
    choice = record { cost = 3; number = 0; prices = told ∷ [] }

    price_at : (j : ℕ) (shape : Shape) (p : Option Price) → slice_get (listing 1) j ≡ Some shape → slice_get (told ∷ []) j ≡ Some p → IsPrice (Gives words_cost) blur (LivePair blur together) budget 2 shape.rows p
    price_at zero shape p at at_p =
        subst (λ (s : Shape). IsPrice (Gives words_cost) blur (LivePair blur together) budget 2 s.rows p) (same_Some (columns (column 1 0 ∷ [])) shape at)
        (subst (IsPrice (Gives words_cost) blur (LivePair blur together) budget 2 (x0 ∷ [])) (same_Some told p at_p) is_price)
    price_at (suc j) shape p at at_p = absurd (none-some p at_p)

    is_choice : IsChoice (Gives words_cost) blur (LivePair blur together) [] budget 2 (by m) choice
    is_choice = record {
      cost = record { values = 3 ∷ []; are_greatest = (great, tt); answered = refl };
      taken = record { listed = refl; prices = record { one_each = refl; each = price_at }; lowest = lowest };
    }

    made : AreOfTheBlur [] budget (t_has (by m)) (t_costs 3 told)
    made = record {
      in_program = are_in;
      limits = All-cons (λ (f : ArrayId × Fold). KeepsLimits 1 f.1) (fold_at 2 (by m)) [] (All-cons (IsModulus 1) m.form [] fits (All-nil (IsModulus 1))) (All-nil (λ (f : ArrayId × Fold). KeepsLimits 1 f.1));
      obeys = λ p here array fold at.
          let o = only (by m) fold array at in
          subst (λ n. Obeys (LivePair blur together n p) fold p) o.0 (subst (λ (g : Fold). Obeys (LivePair blur together 2 p) g p) o.1 (obeying p here));
      marks = λ array fold at.
          let o = only (by m) fold array at in
          subst (λ n. HasTrueMarks (IsInContext blur) (LivePair blur together n) fold) o.0 (subst (λ (g : Fold). HasTrueMarks (IsInContext blur) (LivePair blur together 2) g) o.1 true_marks);
      chosen = λ array fold at.
          let o = only (by m) fold array at in
          subst (λ n. HasChoice (Gives words_cost) blur (LivePair blur together) [] budget (t_costs 3 told) n fold) o.0
          (subst (λ (g : Fold). HasChoice (Gives words_cost) blur (LivePair blur together) [] budget (t_costs 3 told) 2 g) o.1 (record { choice = choice; found = refl; is = is_choice }));
      bound = λ array fold at b. bound (subst (λ (g : Fold). HasBound g) (sym (only (by m) fold array at).1) b);
      whole = λ left. absurd (never_whole (by m) left);
    }

none : (budget : Account) → IsSpent budget → AreOfTheBlur [] budget [] []
none budget spent = record {
  in_program = record { different = tt; each = λ array fold i. absurd i };
  chosen = λ array fold at. absurd (none-some fold at);
  limits = All-nil (λ (f : ArrayId × Fold). KeepsLimits 1 f.1);
  obeys = λ p here array fold at. absurd (none-some fold at);
  marks = λ array fold at. absurd (none-some fold at);
  bound = λ array fold at b. spent;
  whole = λ left. spent;
}

-- ---- All rules

three_fits : IsModulus 1 (number 3)
three_fits = record {
  width = refl;
  coefs_fit = All-cons (λ c. unsigned_abs c ≤ 2 ^ 30) (pos 0) [] (lit≤ tt) (All-nil (λ c. unsigned_abs c ≤ 2 ^ 30));
  constant_fits = lit≤ tt;
}

too_large : unsigned_abs (pos (2 ^ 55 + 1)) ≤ 2 ^ 55 → ⊥
too_large h = omega (arith, h)

other_basis : Some (shape_of turned) ≡ Some (shape_of whole) → ⊥
other_basis e = let rows = ap (λ (s : Shape). map (λ (r : Affine). r.coefs) s.rows) (same_Some (shape_of turned) (shape_of whole) e) in absurd (cc)

-- ---- What it costs

-- three is the greatest value of the number 3, and what the row needs
three_is : (n : ℕ) × (value (number 3) two ≡ pos n) × IsGreatestValue (IsInContext blur) (number 3) n × IsNeed (IsInContext blur) (LivePair blur together 2) (x0 ∷ []) 0 x0 n
three_is = least_mark_is_need (IsInContext blur) (LivePair blur together 2) (x0 ∷ []) 0 x0 (number 3) two (Some (pos 0 ∷ [], pos 2 ∷ [])) three_is_enough.0 marks_of_the_blur.0

same_three : 3 ≡ three_is.0
same_three = of_three three_is.0 three_is.1
  where
    of_three : (n : ℕ) → ◌≡◌ {A = ℤ} (pos 3) (pos n) → 3 ≡ n
    of_three n e = omega (arith, ints, e)

three_is_greatest : IsGreatestValue (IsInContext blur) (number 3) 3
three_is_greatest = subst (IsGreatestValue (IsInContext blur) (number 3)) (sym same_three) three_is.2

three_is_need : IsNeed (IsInContext blur) (LivePair blur together 2) (x0 ∷ []) 0 x0 3
three_is_need = subst (IsNeed (IsInContext blur) (LivePair blur together 2) (x0 ∷ []) 0 x0) (sym same_three) three_is.3

three_needed : AreNeeds (IsInContext blur) (LivePair blur together 2) (x0 ∷ []) (3 ∷ [])
three_needed = record { one_each = refl; each = each }
  where
    each : (k : ℕ) (row : Affine) (n : ℕ) → slice_get (x0 ∷ []) k ≡ Some row → slice_get (3 ∷ []) k ≡ Some n → IsNeed (IsInContext blur) (LivePair blur together 2) (x0 ∷ []) k row n
    each zero row n at at_n =
        subst (λ (r : Affine). IsNeed (IsInContext blur) (LivePair blur together 2) (x0 ∷ []) 0 r n) (same_Some x0 row at)
        (subst (IsNeed (IsInContext blur) (LivePair blur together 2) (x0 ∷ []) 0 x0) (same_Some 3 n at_n) three_is_need)
    each (suc k) row n at at_n = absurd (none-some row at)

one_price : IsLowest (least 3) 0 3 (price (3 ∷ []) 3 ∷ [])
one_price = record { least = least_of; first = λ j p below at. absurd (omega (arith, below)); own = λ at. absurd (none-some (record { values = 3 ∷ []; cost = 3 }) (sym (same_Some (price (3 ∷ []) 3) None at))) }
  where
    least_of : (j : ℕ) (p : Price) → slice_get (price (3 ∷ []) 3 ∷ []) j ≡ Some (Some p) → 3 ≤ p.cost
    least_of zero p at = same 3 p.cost (ap (λ (q : Price). q.cost) (same_Some (record { values = 3 ∷ []; cost = 3 }) p (same_Some (price (3 ∷ []) 3) (Some p) at)))
      where
        same : (a b : ℕ) → a ≡ b → a ≤ b
        same a b e = omega (arith, e)
    least_of (suc j) p at = absurd (none-some (Some p) at)

no_price : IsLowest (onto 3) 0 3 (None ∷ [])
no_price = record { least = λ j p at. absurd (never j p at); first = λ j p below at. absurd (never j p at); own = λ at. is_bound 3 }
  where
    never : (j : ℕ) (p : Price) → slice_get (None ∷ []) j ≡ Some (Some p) → ⊥
    never zero p at = none-some p (same_Some None (Some p) at)
    never (suc j) p at = none-some (Some p) at

-- the one fold has the one choice
its_choice : (budget : Account) (bases : List (ArrayId × Basis)) (m : Modulus) (cost : ℕ) (told : Option Price) → AreOfTheBlur bases budget (t_has (by m)) (t_costs cost told)
    → IsChoice (Gives words_cost) blur (LivePair blur together) bases budget 2 (by m) (record { cost = cost; number = 0; prices = told ∷ [] })
its_choice budget bases m cost told h =
    let c = h.chosen 2 (by m) refl in
    subst (IsChoice (Gives words_cost) blur (LivePair blur together) bases budget 2 (by m)) (sym (same_Some (record { cost = cost; number = 0; prices = told ∷ [] }) c.choice c.found)) c.is

cost_is : (budget : Account) (c : Choice) → IsChoice (Gives words_cost) blur (LivePair blur together) [] budget 2 (least 3) c → c.cost ≡ 3
cost_is budget c h = by_values h.cost.values h.cost.are_greatest h.cost.answered
  where
    by_values : (values : List ℕ) → AreGreatestValues (IsInContext blur) (number 3 ∷ []) values → c.cost ≡ words_cost values → c.cost ≡ 3
    by_values [] g e = absurd g
    by_values (n ∷ []) g e = e ∙ ap (λ k. words_cost (k ∷ [])) (greatest_value_is_unique (IsInContext blur) (LivePair blur together 2) (number 3) n 3 g.0 three_is_greatest)
    by_values (n ∷ k ∷ ns) g e = absurd g.1

no_choice : (budget : Account) → AreOfTheBlur [] budget (t_has (least 3)) [] → ⊥
no_choice budget h = let c = h.chosen 2 (least 3) refl in none-some c.choice c.found

four_not_three : ◌≡◌ {A = ℕ} 4 3 → ⊥
four_not_three e = omega arith

pub folds_of_blur : FoldsOfBlur
folds_of_blur = (
  made (marked 3 (Some (pos 0 ∷ [], pos 2 ∷ []))) three_fits three_is_enough.0 marks_of_the_blur.0 three_is_greatest (three_of 2) (λ b. absurd (not_bound 3 b)) (price (3 ∷ []) 3) (three_needed, refl) one_price,
  made (record { form = number 3; mark = Bound }) three_fits three_is_enough.0 tt three_is_greatest (three_of 3) (λ b. spent_or_not.0) None spent_or_not.0 no_price,
  none (three_of 3) spent_or_not.0,
  λ h. spent_or_not.1 (h.bound 2 (onto 3) refl (is_bound 3)),
  λ h. spent_or_not.1 (h.whole left_whole),
  λ h. spent_or_not.1 ((its_choice (three_of 2) [] (marked 3 (Some (pos 0 ∷ [], pos 2 ∷ []))) 3 None h).taken.prices.each 0 (columns (column 1 0 ∷ [])) None refl refl),
  λ h. three_is_enough.2 (λ p here. h.obeys p here 2 (onto 2) refl 0 x0 (number 2) refl refl),
  λ h. marks_of_the_blur.5 (h.marks 2 (least 4) refl 0 x0 (marked 4 (Some (pos 0 ∷ [], pos 2 ∷ []))) refl refl),
  λ h. four_not_three (cost_is (three_of 2) (record { cost = 4; number = 0; prices = price (3 ∷ []) 3 ∷ [] }) (its_choice (three_of 2) [] (marked 3 (Some (pos 0 ∷ [], pos 2 ∷ []))) 4 (price (3 ∷ []) 3) h)),
  λ h. no_choice (three_of 2) h,
  λ h. other_basis (ap (λ s. Some s) (sym (its_choice (three_of 2) (given_to 2 turned ∷ []) (marked 3 (Some (pos 0 ∷ [], pos 2 ∷ []))) 3 (price (3 ∷ []) 3) h).taken.0)),
  λ h. lists_of_folds.3 h.in_program,
  λ h. (let m = All-head (λ (f : ArrayId × Fold). KeepsLimits 1 f.1) (fold_at 2 (onto (2 ^ 55 + 1))) [] h.limits in too_large (All-head (IsModulus 1) (number (2 ^ 55 + 1)) [] m).constant_fits),
)

-- ---- Lowest prices

abbrev a_price : ℕ → Price
a_price n = record { values = []; cost = n }

module _ (fold : Fold) where
  abbrev prices : List (Option Price)
  prices = price [] 7 ∷ price [] 5 ∷ None ∷ price [] 5 ∷ []

  -- each price is 7 or 5
  each_price : (cost : ℕ) → cost ≤ 5 → (j : ℕ) (p : Price) → slice_get prices j ≡ Some (Some p) → cost ≤ p.cost
  each_price cost h zero p at = subst (λ (q : Price). cost ≤ q.cost) (same_Some (a_price 7) p (same_Some (price [] 7) (Some p) at)) (omega (arith, h))
  each_price cost h (suc zero) p at = subst (λ (q : Price). cost ≤ q.cost) (same_Some (a_price 5) p (same_Some (price [] 5) (Some p) at)) h
  each_price cost h (suc (suc zero)) p at = absurd (none-some p (same_Some None (Some p) at))
  each_price cost h (suc (suc (suc zero))) p at = subst (λ (q : Price). cost ≤ q.cost) (same_Some (a_price 5) p (same_Some (price [] 5) (Some p) at)) h
  each_price cost h (suc (suc (suc (suc j)))) p at = absurd (none-some (Some p) at)

  before_five : (j : ℕ) (p : Price) → j < 1 → slice_get prices j ≡ Some (Some p) → 5 < p.cost
  before_five zero p below at = subst (λ (q : Price). 5 < q.cost) (same_Some (a_price 7) p (same_Some (price [] 7) (Some p) at)) (lit≤ tt)
  before_five (suc j) p below at = absurd (omega (arith, below))

pub lowest_prices : LowestPrices
lowest_prices = (
  record { least = each_price (least 3) 5 (lit≤ tt); first = before_five (least 3); own = λ at. absurd (none-some (a_price 5) (sym (same_Some (price [] 5) None at))) },
  λ h. absurd (omega (arith, h.least 1 (a_price 5) refl)),
  λ h. absurd (omega (arith, h.first 1 (a_price 5) (lit≤ tt) refl)),
  λ h. not_bound 3 (h.own refl),
  record { least = each_price (onto 3) 4 (lit≤ tt); first = λ j p below at. each_price (onto 3) 5 (lit≤ tt) j p at; own = λ at. is_bound 3 },
)
