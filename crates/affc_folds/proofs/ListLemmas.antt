-- Folds one after the other.
use Rattle.std.proofs.Common.{◌≡◌, ℕ, suc, ◌+◌, ◌-◌, ◌<◌, ◌≤◌, ℤ, Bool, true, false, if◌then◌else◌, List, [], ◌∷◌, ◌++◌, length, map, take, drop, Option, Some, None, refl, sym, ap, subst, ◌∙◌, ◌⊎◌, inl, inr, arith, true≢false}
use Rattle.std.specs.Prelude.{nat_eq}
use Rattle.std.specs.List.{All}
use Rattle.std.proofs.Math.Numerals.{lt_of_le_of_ne}
use Rattle.std.proofs.lemmas.Bool.{eqb-true, eq-eqb}
use Rattle.std.proofs.lemmas.Option.{none-some, slice_get_within}
use Rattle.std.proofs.lemmas.List.{take_all}
use Rattle.std.proofs.lemmas.List.Elements.{All-nil, All-cons}
use Rattle.affc_rows.specs.Forms.{Affine}
use Rattle.affc_ast.specs.declared.tree.ArrayId.{ArrayId}
use Rattle.affc_ast.specs.declared.tree.Program.{Program}
use Rattle.affc_ast.specs.Meaning.{arrays_of}
use Rattle.affc_trace.specs.Law.{IsIn}
use Rattle.affc_trace.specs.Orders.{AreDistinct}
use Rattle.affc_trace.specs.Target.{numbers_in}
use Rattle.affc_trace.proofs.Members.{to_map, in_map}
use Rattle.affc_trace.proofs.Once.{in_append}
use Rattle.affc_split.specs.Budgets.{Account, IsLater}
use Rattle.affc_basis.specs.declared.basis.Basis.{Basis}
use Rattle.affc_basis.specs.declared.fold.Fold.{Fold}
use Rattle.affc_basis.specs.FoldLists.{AreFoldsIn}
use Rattle.affc_basis.specs.Folds.{KeepsLimits, fold_of}
use Rattle.affc_basis.proofs.FoldsFound.{folds_are_found}
use Rattle.affc_basis.specs.Listed.{Shape}
use Rattle.affc_weigh.specs.declared.choice.Choice.{Choice}
use Rattle.affc_weigh.specs.declared.choice.Price.{Price}
use Rattle.affc_weigh.specs.Choices.{choice_of}
use Rattle.affc_moduli.proofs.Spent.{stays_spent}
use Rattle.affc_folds.specs.Folding.{given_for, IsFoldFor, IsSpent, HasBound, IsPrice, IsTaken, IsChoice, HasChoice, AreFoldsBelow, IsLeftWhole, AreFoldsUnder}
use Rattle.affc_folds.specs.Tries.{IsFolded}

-- ---- Members

abbrev number_of : ArrayId × Fold → ℕ
number_of f = f.0.0

in_end : (fs : List (ArrayId × Fold)) (new f : ArrayId × Fold) → IsIn f (fs ++ new ∷ []) → IsIn f fs ⊎ (f ≡ new)
in_end fs new f i = elim (in_append fs (new ∷ []) f i) [ inl j ↦ inl j | inr (inl e) ↦ inr e | inr (inr none) ↦ absurd none ]

distinct_end : (fs : List (ArrayId × Fold)) (new : ArrayId × Fold) → AreDistinct (map number_of fs) → ((f : ArrayId × Fold) → IsIn f fs → f.0.0 < new.0.0) → AreDistinct (map number_of (fs ++ new ∷ []))
distinct_end [] new d below = (λ i. i, tt)
distinct_end (x ∷ fs) new d below = (
  λ i. (let r = in_map number_of (fs ++ new ∷ []) x.0.0 i in elim (in_end fs new r.0 r.1) [
    | inl h ↦ d.0 (subst (λ n. IsIn n (map number_of fs)) (sym r.2) (to_map number_of fs r.0 h))
    | inr e ↦ apart x.0.0 new.0.0 (below x (inl refl)) (r.2 ∙ ap number_of e)
  ]),
  distinct_end fs new d.1 (λ f i. below f (inr i)),
)
  where
    apart : (k n : ℕ) → k < n → k ≡ n → ⊥
    apart k n h e = omega (arith, h, e)

-- the fold of an array is missing from no more than before
missing_before : (fs : List (ArrayId × Fold)) (new : ArrayId × Fold) (array : ℕ) → fold_of (fs ++ new ∷ []) array ≡ None → (fold_of fs array ≡ None) × (new.0.0 ≡ array → ⊥)
missing_before [] new array e = by_test (nat_eq new.0.0 array) refl e
  where
    by_test : (t : Bool) → nat_eq new.0.0 array ≡ t → (if t then Some new.1 else None) ≡ None → (fold_of [] array ≡ None) × (new.0.0 ≡ array → ⊥)
    by_test true t e = absurd (none-some new.1 (sym e))
    by_test false t e = (refl, λ same. true≢false (sym (eq-eqb new.0.0 array same) ∙ t))
missing_before (x ∷ fs) new array e = by_test (nat_eq x.0.0 array) refl e (missing_before fs new array)
  where
    by_test : (t : Bool) → nat_eq x.0.0 array ≡ t → (if t then Some x.1 else fold_of (fs ++ new ∷ []) array) ≡ None
        → (fold_of (fs ++ new ∷ []) array ≡ None → (fold_of fs array ≡ None) × (new.0.0 ≡ array → ⊥)) → ((if nat_eq x.0.0 array then Some x.1 else fold_of fs array) ≡ None) × (new.0.0 ≡ array → ⊥)
    by_test true t e rest = absurd (none-some x.1 (sym e))
    by_test false t e rest = let r = rest e in (ap (λ b. if b then Some x.1 else fold_of fs array) t ∙ r.0, r.1)

-- ---- Choices

-- choices that are there stay
choice_stays : (cs : List (ArrayId × Choice)) (new : ArrayId × Choice) (array : ℕ) (c : Choice) → choice_of cs array ≡ Some c → choice_of (cs ++ new ∷ []) array ≡ Some c
choice_stays [] new array c e = absurd (none-some c e)
choice_stays (x ∷ cs) new array c e = by_test (nat_eq x.0.0 array) e (choice_stays cs new array c)
  where
    by_test : (t : Bool) → (if t then Some x.1 else choice_of cs array) ≡ Some c → (choice_of cs array ≡ Some c → choice_of (cs ++ new ∷ []) array ≡ Some c) → (if t then Some x.1 else choice_of (cs ++ new ∷ []) array) ≡ Some c
    by_test true e more = e
    by_test false e more = more e

-- where there is none, the last one is seen
last_choice : (cs : List (ArrayId × Choice)) (new : ArrayId × Choice) (array : ℕ) → choice_of cs array ≡ None → choice_of (cs ++ new ∷ []) array ≡ (if nat_eq new.0.0 array then Some new.1 else None)
last_choice [] new array e = refl
last_choice (x ∷ cs) new array e = by_test (nat_eq x.0.0 array) e (last_choice cs new array)
  where
    by_test : (t : Bool) → (if t then Some x.1 else choice_of cs array) ≡ None → (choice_of cs array ≡ None → choice_of (cs ++ new ∷ []) array ≡ (if nat_eq new.0.0 array then Some new.1 else None))
        → (if t then Some x.1 else choice_of (cs ++ new ∷ []) array) ≡ (if nat_eq new.0.0 array then Some new.1 else None)
    by_test true e more = absurd (none-some x.1 (sym e))
    by_test false e more = more e

module _ (Answers : List ℕ → ℕ → Type 0) (program : Program) (pairs : ℕ → List ℤ → List ℤ → List ℤ → Type 0) (bases : List (ArrayId × Basis)) where
  -- ---- What is told of a fold stays true of what is left of the budget later

  module _ (before after : Account) (later : IsLater before after) (array : ℕ) (fold : Fold) where
    price_later : (rows : List Affine) (price : Option Price) → IsPrice Answers program pairs before array rows price → IsPrice Answers program pairs after array rows price
    price_later rows None h = stays_spent before after later h
    price_later rows (Some price) h = h

    taken_later : (given : Option Shape) (choice : Choice) → IsTaken given Answers program pairs before array fold choice → IsTaken given Answers program pairs after array fold choice
    taken_later (Some shape) choice h = h
    taken_later None choice h = record {
      listed = h.listed;
      prices = record { one_each = h.prices.one_each; each = λ j shape price at at_price. price_later shape.rows price (h.prices.each j shape price at at_price) };
      lowest = h.lowest;
    }

    choice_later : (choice : Choice) → IsChoice Answers program pairs bases before array fold choice → IsChoice Answers program pairs bases after array fold choice
    choice_later choice h = record { cost = h.cost; taken = taken_later (given_for bases array (length fold.basis.rows)) choice h.taken }

    pub has_later : (choices choices' : List (ArrayId × Choice)) → ((c : Choice) → choice_of choices array ≡ Some c → choice_of choices' array ≡ Some c)
        → HasChoice Answers program pairs bases before choices array fold → HasChoice Answers program pairs bases after choices' array fold
    has_later choices choices' stay h = record { choice = h.choice; found = stay h.choice h.found; is = choice_later h.choice h.is }

  -- ---- Steps

  pub none_yet : (budget : Account) (n : ℕ) → n ≡ length (arrays_of program.params) → AreFoldsBelow Answers program pairs bases budget n [] []
  none_yet budget n e = record {
    different = tt;
    below = λ array fold i. absurd i;
    each = λ array fold i. absurd i;
    bound = λ array fold i. absurd i;
    chosen = λ array fold i. absurd i;
    not_yet = λ array h. refl;
    whole = λ array first under missing. absurd (none (length (arrays_of program.params)) array first (subst (λ k. array < k) e under));
  }
    where
      none : (m k : ℕ) → m ≤ k → k < m → ⊥
      none m k h g = omega (arith, h, g)

  module _ (before after : Account) (later : IsLater before after) (n : ℕ) (folds : List (ArrayId × Fold)) (choices : List (ArrayId × Choice)) (h : AreFoldsBelow Answers program pairs bases before n folds choices) where
    -- an array is left whole
    pub one_whole : IsSpent after → AreFoldsBelow Answers program pairs bases after (n + 1) folds choices
    one_whole spent = record {
      different = h.different;
      below = λ array fold i. more array.0 (h.below array fold i);
      each = h.each;
      bound = λ array fold i b. spent;
      chosen = λ array fold i. has_later before after later array.0 fold choices choices (λ c e. e) (h.chosen array fold i);
      not_yet = λ array g. h.not_yet array (beyond array g);
      whole = λ array first under missing. spent;
    }
      where
        more : (k : ℕ) → k < n → k < n + 1
        more k g = omega (arith, g)

        beyond : (k : ℕ) → n + 1 ≤ k → n ≤ k
        beyond k g = omega (arith, g)

    -- an array gets its fold
    pub one_more : (id : ArrayId) (fold : Fold) (choice : Choice) (folds' : List (ArrayId × Fold)) (choices' : List (ArrayId × Choice)) → id.0 ≡ n → folds' ≡ folds ++ (id, fold) ∷ [] → choices' ≡ choices ++ (id, choice) ∷ []
        → IsFolded Answers program pairs bases after id.0 (fold, choice) → AreFoldsBelow Answers program pairs bases after (n + 1) folds' choices'
    one_more id fold choice folds' choices' number made chosen is =
        subst (λ fs. AreFoldsBelow Answers program pairs bases after (n + 1) fs choices') (sym made) (subst (λ cs. AreFoldsBelow Answers program pairs bases after (n + 1) (folds ++ (id, fold) ∷ []) cs) (sym chosen) more)
      where
        last : (f : ArrayId × Fold) → f ≡ (id, fold) → f.0.0 < n + 1
        last f e = below_next f.0.0 (ap number_of e ∙ number)
          where
            below_next : (k : ℕ) → k ≡ n → k < n + 1
            below_next k g = omega (arith, g)

        earlier : (k : ℕ) → k < n → k < n + 1
        earlier k g = omega (arith, g)

        under_number : (f : ArrayId × Fold) → IsIn f folds → f.0.0 < id.0
        under_number f i = subst (λ m. f.0.0 < m) (sym number) (h.below f.0 f.1 i)

        not_last : (k : ℕ) → k < n + 1 → (id.0 ≡ k → ⊥) → k < n
        not_last k g apart = lt_of_le_of_ne (at_most k g) (λ e. apart (number ∙ sym e))
          where
            at_most : (k : ℕ) → k < n + 1 → k ≤ n
            at_most k g = omega (arith, g)

        its_choice : choice_of (choices ++ (id, choice) ∷ []) id.0 ≡ Some choice
        its_choice =
            last_choice choices (id, choice) id.0 (h.not_yet id.0 (le_of (id.0) number)) ∙ ap (λ t. if t then Some choice else None) (eq-eqb id.0 id.0 refl)
          where
            le_of : (k : ℕ) → k ≡ n → n ≤ k
            le_of k e = omega (arith, e)

        later_none : (array : ℕ) → n + 1 ≤ array → choice_of (choices ++ (id, choice) ∷ []) array ≡ None
        later_none array g =
            last_choice choices (id, choice) array (h.not_yet array (beyond array g)) ∙ ap (λ t. if t then Some choice else None) (other (nat_eq id.0 array) refl)
          where
            beyond : (k : ℕ) → n + 1 ≤ k → n ≤ k
            beyond k g = omega (arith, g)

            apart : (k m : ℕ) → k ≡ n → n + 1 ≤ m → k ≡ m → ⊥
            apart k m e g f = omega (arith, e, g, f)

            other : (t : Bool) → nat_eq id.0 array ≡ t → t ≡ false
            other true t = absurd (apart id.0 array number g (eqb-true id.0 array t))
            other false t = refl

        more : AreFoldsBelow Answers program pairs bases after (n + 1) (folds ++ (id, fold) ∷ []) (choices ++ (id, choice) ∷ [])
        more = record {
          different = distinct_end folds (id, fold) h.different under_number;
          below = λ array f i. elim (in_end folds (id, fold) (array, f) i) [ inl j ↦ earlier array.0 (h.below array f j) | inr e ↦ last (array, f) e ];
          each = λ array f i. elim (in_end folds (id, fold) (array, f) i) [ inl j ↦ h.each array f j | inr e ↦ subst (λ (g : ArrayId × Fold). IsFoldFor program pairs g.0.0 g.1) (sym e) is.is_fold ];
          bound = λ array f i b. elim (in_end folds (id, fold) (array, f) i) [
            | inl j ↦ stays_spent before after later (h.bound array f j b)
            | inr e ↦ is.bound (subst (λ (g : ArrayId × Fold). HasBound g.1) e b)
          ];
          chosen = λ array f i. elim (in_end folds (id, fold) (array, f) i) [
            | inl j ↦ has_later before after later array.0 f choices (choices ++ (id, choice) ∷ []) (λ c at. choice_stays choices (id, choice) array.0 c at) (h.chosen array f j)
            | inr e ↦ subst (λ (g : ArrayId × Fold). HasChoice Answers program pairs bases after (choices ++ (id, choice) ∷ []) g.0.0 g.1) (sym e) (record { choice = choice; found = its_choice; is = is.is_choice })
          ];
          not_yet = later_none;
          whole = λ array first under missing. let m = missing_before folds (id, fold) array missing in stays_spent before after later (h.whole array first (not_last array under m.1) m.0);
        }

-- ---- How many are done

pub one_counted : {A : Type 0} (first next : ℕ) (xs : List A) → 1 ≤ length xs → next ≡ first + 1 → next + length (take (length xs - 1) (drop 1 xs)) ≡ first + length xs
one_counted first next [] h e = absurd (omega (arith, h))
one_counted first next (x ∷ xs) h e = ap (λ rest. next + length rest) (take_all (length (x ∷ xs) - 1) xs (enough (length xs) (length (x ∷ xs)) refl)) ∙ joined (length xs) (length (x ∷ xs)) refl
  where
    enough : (n m : ℕ) → m ≡ suc n → n ≤ m - 1
    enough n m e = omega (arith, e)

    joined : (n m : ℕ) → m ≡ suc n → next + n ≡ first + m
    joined n m f = omega (arith, e, f)

-- ---- The whole list

module _ (Answers : List ℕ → ℕ → Type 0) (program : Program) (pairs : ℕ → List ℤ → List ℤ → List ℤ → Type 0) (bases : List (ArrayId × Basis)) (budget : Account) (n : ℕ) (folds : List (ArrayId × Fold)) (choices : List (ArrayId × Choice))
    (h : AreFoldsBelow Answers program pairs bases budget n folds choices) where
  all_in : AreFoldsIn program folds
  all_in = record { different = h.different; each = λ array fold i. (h.each array fold i).in_program }

  all_limited : All (λ (f : ArrayId × Fold). KeepsLimits (numbers_in program.params) f.1) folds
  all_limited = each folds (λ f i. (h.each f.0 f.1 i).limits)
    where
      each : (fs : List (ArrayId × Fold)) → ((f : ArrayId × Fold) → IsIn f fs → KeepsLimits (numbers_in program.params) f.1) → All (λ (f : ArrayId × Fold). KeepsLimits (numbers_in program.params) f.1) fs
      each [] g = All-nil (λ (f : ArrayId × Fold). KeepsLimits (numbers_in program.params) f.1)
      each (f ∷ fs) g = All-cons (λ (f : ArrayId × Fold). KeepsLimits (numbers_in program.params) f.1) f fs (g f (inl refl)) (each fs (λ x i. g x (inr i)))

  its_fold : (array : ℕ) (fold : Fold) → fold_of folds array ≡ Some fold → IsFoldFor program pairs array fold
  its_fold array fold e =
      let r = (folds_are_found program folds array fold all_in).0 e in
      subst (λ k. IsFoldFor program pairs k fold) r.1 (h.each r.0 fold r.2)

  its_bound : (array : ℕ) (fold : Fold) → fold_of folds array ≡ Some fold → HasBound fold → IsSpent budget
  its_bound array fold e b = let r = (folds_are_found program folds array fold all_in).0 e in h.bound r.0 fold r.2 b

  its_choice : (array : ℕ) (fold : Fold) → fold_of folds array ≡ Some fold → HasChoice Answers program pairs bases budget choices array fold
  its_choice array fold e =
      let r = (folds_are_found program folds array fold all_in).0 e in
      subst (λ k. HasChoice Answers program pairs bases budget choices k fold) r.1 (h.chosen r.0 fold r.2)

  whole_spent : n ≡ length (arrays_of program.params) + length program.temps → IsLeftWhole program folds → IsSpent budget
  whole_spent e left =
      let under : left.number < length program.temps = slice_get_within program.temps left.number left.decl left.stands in
      let first = length (arrays_of program.params) in
      h.whole (first + left.number) (at_least first left.number) (subst (λ k. first + left.number < k) (sym e) (add_below first left.number (length program.temps) under)) left.unfolded
    where
      at_least : (a b : ℕ) → a ≤ a + b
      at_least a b = omega arith

      add_below : (a b c : ℕ) → b < c → a + b < a + c
      add_below a b c g = omega (arith, g)

  pub all_made : n ≡ length (arrays_of program.params) + length program.temps → AreFoldsUnder Answers program pairs bases budget folds choices
  all_made e = record {
    in_program = all_in;
    limits = all_limited;
    obeys = λ p inside array fold at. (its_fold array fold at).obeys p inside;
    marks = λ array fold at. (its_fold array fold at).marks;
    chosen = its_choice;
    bound = its_bound;
    whole = whole_spent e;
  }

-- ---- By another account of what is answered

module _ (A B : List ℕ → ℕ → Type 0) (to : (moduli : List ℕ) (answer : ℕ) → A moduli answer → B moduli answer) (program : Program) (pairs : ℕ → List ℤ → List ℤ → List ℤ → Type 0) (bases : List (ArrayId × Basis)) (budget : Account) where
  price_by : (array : ℕ) (rows : List Affine) (price : Option Price) → IsPrice A program pairs budget array rows price → IsPrice B program pairs budget array rows price
  price_by array rows None h = h
  price_by array rows (Some price) h = (h.0, to price.values price.cost h.1)

  taken_by : (given : Option Shape) (array : ℕ) (fold : Fold) (choice : Choice) → IsTaken given A program pairs budget array fold choice → IsTaken given B program pairs budget array fold choice
  taken_by (Some shape) array fold choice h = h
  taken_by None array fold choice h = record {
    listed = h.listed;
    prices = record { one_each = h.prices.one_each; each = λ j shape price at at_price. price_by array shape.rows price (h.prices.each j shape price at at_price) };
    lowest = h.lowest;
  }

  choice_by : (array : ℕ) (fold : Fold) (choice : Choice) → IsChoice A program pairs bases budget array fold choice → IsChoice B program pairs bases budget array fold choice
  choice_by array fold choice h = record {
    cost = record { values = h.cost.values; are_greatest = h.cost.are_greatest; answered = to h.cost.values choice.cost h.cost.answered };
    taken = taken_by (given_for bases array (length fold.basis.rows)) array fold choice h.taken;
  }

  pub folds_by : (folds : List (ArrayId × Fold)) (choices : List (ArrayId × Choice)) → AreFoldsUnder A program pairs bases budget folds choices → AreFoldsUnder B program pairs bases budget folds choices
  folds_by folds choices h = record {
    in_program = h.in_program;
    limits = h.limits;
    obeys = h.obeys;
    marks = h.marks;
    chosen = λ array fold at. let c = h.chosen array fold at in record { choice = c.choice; found = c.found; is = choice_by array fold c.choice c.is };
    bound = h.bound;
    whole = h.whole;
  }
