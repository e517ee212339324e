-- What is found of the bases of an array, and the fold that is taken.
use Rattle.std.proofs.Common.{◌≡◌, ℕ, zero, suc, ◌+◌, ◌<◌, ◌≤◌, ℤ, Bool, true, false, if◌then◌else◌, List, [], ◌∷◌, ◌++◌, length, map, Option, Some, None, refl, sym, ap, subst, ◌∙◌, ◌⊎◌, inl, inr, arith}
use Rattle.std.specs.Prelude.{slice_get, slice_index_or, option_map, IfSome, IfNone}
use Rattle.std.specs.List.{All, list_all}
use Rattle.std.proofs.lemmas.Option.{none-some, same_Some, slice_get-map, slice_get-get_or}
use Rattle.affc_ast.specs.declared.tree.ArrayId.{ArrayId}
use Rattle.affc_ast.specs.declared.tree.Program.{Program}
use Rattle.affc_trace.specs.Laws.{IsInContext}
use Rattle.affc_trace.specs.Target.{numbers_in}
use Rattle.affc_domain.specs.Plain.{IsPlain}
use Rattle.affc_split.specs.Budgets.{Account, IsLater}
use Rattle.affc_basis.specs.declared.basis.Basis.{Basis}
use Rattle.affc_basis.specs.declared.fold.Fold.{Fold}
use Rattle.affc_basis.specs.declared.fold.Mark.TheVariants.{Bound}
use Rattle.affc_basis.specs.declared.fold.Modulus.{Modulus}
use Rattle.affc_basis.specs.Folds.{forms_of, AreGreatestValues}
use Rattle.affc_basis.specs.Listed.{Shape, shape_of, listing}
use Rattle.affc_weigh.specs.declared.choice.Choice.{Choice}
use Rattle.affc_weigh.specs.declared.choice.Price.{Price}
use Rattle.affc_weigh.specs.declared.ratings.Rated.{Rated}
use Rattle.affc_weigh.specs.Choices.{AreNeeds, are_known, is_marked, top, HasTop, price_of, IsChosen, NoneFound}
use Rattle.affc_weigh.specs.Costs.{AreModuli}
use Rattle.affc_weigh.proofs.Tops as tops
use Rattle.affc_folds.specs.Folding.{given_for, IsFoldFor, HasBound, IsSpent, IsPrice, ArePrices, IsTaken, IsCheapest}
use Rattle.affc_folds.specs.Tries.{IsRated, IsTried, AreTried, IsFolded, IsWorth}
use Rattle.affc_life.proofs.BasisLemmas.{some_listed, listed_rows}
use Rattle.affc_life.proofs.ContextLemmas.{near_context}
use Rattle.affc_moduli.proofs.Spent.{stays_spent}

-- ---- One basis

module _ (program : Program) (pairs : ℕ → List ℤ → List ℤ → List ℤ → Type 0) (array : ℕ) (fold : Fold) (plain : IsPlain program) (some : (p : List ℤ) × IsInContext program p) (f : IsFoldFor program pairs array fold) where
  pub have_tops : All HasTop fold.moduli
  have_tops = tops.have_tops (IsInContext program) (pairs array) (numbers_in program.params) (near_context program plain) some fold f.limits f.obeys f.marks

  pub are_moduli : are_known fold.moduli ≡ true → AreModuli (map top fold.moduli)
  are_moduli known = tops.are_moduli (IsInContext program) (pairs array) (numbers_in program.params) (near_context program plain) some fold f.limits f.obeys f.marks known

  module _ (Answers : List ℕ → ℕ → Type 0) (budget : Account) (shape : Shape) (its_shape : shape_of fold.basis ≡ shape) (bound : HasBound fold → IsSpent budget) where
    has_bound : (k : ℕ) × (m : Modulus) × (slice_get fold.moduli k ≡ Some m) × (m.mark ≡ Bound) → HasBound fold
    has_bound h = record { number = h.0; modulus = h.1; there = h.2; marked = h.3 }

    rated : (r : Rated) → r.fold ≡ fold → are_known fold.moduli ≡ true → r.price.values ≡ map top fold.moduli → Answers r.price.values r.price.cost → r.marked ≡ list_all is_marked fold.moduli
        → IsRated Answers program pairs budget array shape r
    rated r same known values cost marked = record {
      its_shape = ap (λ (f : Fold). shape_of f.basis) same ∙ its_shape;
      is_fold = subst (IsFoldFor program pairs array) (sym same) f;
      values = subst (λ (g : Fold). AreGreatestValues (IsInContext program) (forms_of g.moduli) r.price.values) (sym same) (subst (AreGreatestValues (IsInContext program) (forms_of fold.moduli)) (sym values)
          (tops.greatest_values (IsInContext program) (pairs array) (numbers_in program.params) (near_context program plain) some fold f.limits f.obeys f.marks known));
      cost = cost;
      needed = λ e. subst (λ (g : Fold). AreNeeds (IsInContext program) (pairs array) g.basis.rows r.price.values) (sym same) (subst (AreNeeds (IsInContext program) (pairs array) fold.basis.rows) (sym values)
          (tops.needs (IsInContext program) (pairs array) (numbers_in program.params) (near_context program plain) some fold f.limits f.obeys f.marks (sym marked ∙ e)));
      unmarked = λ e. subst HasBound (sym same) (has_bound (tops.unmarked fold.moduli (sym marked ∙ e)));
      bound = λ h. bound (subst HasBound same h);
    }

    pub one_tried : (found : Option Rated) → IfNone found (are_known fold.moduli ≡ false) → IfSome found (λ r. are_known fold.moduli ≡ true) → IfSome found (λ r. r.fold ≡ fold) → IfSome found (λ r. r.price.values ≡ map top fold.moduli)
        → IfSome found (λ r. Answers r.price.values r.price.cost) → IfSome found (λ r. r.marked ≡ list_all is_marked fold.moduli) → IsTried Answers program pairs budget array shape found
    one_tried None none known same values cost marked = bound (has_bound (tops.unknown fold.moduli none))
    one_tried (Some r) none known same values cost marked = rated r same known values cost marked

-- ---- Several

-- what a basis is listed as
pub listed_at : (dimensions : ℕ) (bases : List Basis) → map shape_of bases ≡ listing dimensions → (i : ℕ) (b : Basis) → i < length bases → b ≡ slice_index_or bases i b → slice_get (listing dimensions) i ≡ Some (shape_of b)
listed_at dimensions bases e i b under is =
    ap (λ shapes. slice_get shapes i) (sym e) ∙ slice_get-map shape_of bases i ∙ ap (option_map shape_of) (slice_get-get_or bases i b under ∙ ap (λ x. Some x) (sym is))

one_longer : {A : Type 0} (xs : List A) (x : A) → length (xs ++ x ∷ []) ≡ suc (length xs)
one_longer [] x = refl
one_longer (y ∷ xs) x = ap suc (one_longer xs x)

module _ (Answers : List ℕ → ℕ → Type 0) (program : Program) (pairs : ℕ → List ℤ → List ℤ → List ℤ → Type 0) (array : ℕ) where
  tried_later : (before after : Account) → IsLater before after → (shape : Shape) (one : Option Rated) → IsTried Answers program pairs before array shape one → IsTried Answers program pairs after array shape one
  tried_later before after later shape None h = stays_spent before after later h
  tried_later before after later shape (Some r) h = record {
    its_shape = h.its_shape;
    is_fold = h.is_fold;
    values = h.values;
    cost = h.cost;
    needed = h.needed;
    unmarked = h.unmarked;
    bound = λ b. stays_spent before after later (h.bound b);
  }

  pub worth_tried : (budget : Account) (shape : Shape) (r : Rated) → IsRated Answers program pairs budget array shape r → (o : Option Rated) → IsWorth r o → IsTried Answers program pairs budget array shape o
  worth_tried budget shape r t None e = t.bound (t.unmarked e)
  worth_tried budget shape r t (Some q) e = subst (IsRated Answers program pairs budget array shape) (sym e) t

  one_more_tried : (before after : Account) → IsLater before after → (shapes : List Shape) (found : List (Option Rated)) (shape : Shape) (one : Option Rated) → AreTried Answers program pairs before array shapes found
      → slice_get shapes (length found) ≡ Some shape → IsTried Answers program pairs after array shape one → AreTried Answers program pairs after array shapes (found ++ one ∷ [])
  one_more_tried before after later shapes found shape one h here t j s o at at_o = by_place (placed found one j o at_o)
    where
      placed : (fs : List (Option Rated)) (one : Option Rated) (j : ℕ) (o : Option Rated) → slice_get (fs ++ one ∷ []) j ≡ Some o → (slice_get fs j ≡ Some o) ⊎ ((j ≡ length fs) × (one ≡ o))
      placed [] one zero o e = inr (refl, same_Some one o e)
      placed [] one (suc j) o e = absurd (none-some o e)
      placed (f ∷ fs) one zero o e = inl e
      placed (f ∷ fs) one (suc j) o e = elim (placed fs one j o e) [ inl i ↦ inl i | inr r ↦ inr (ap suc r.0, r.1) ]

      by_place : (slice_get found j ≡ Some o) ⊎ ((j ≡ length found) × (one ≡ o)) → IsTried Answers program pairs after array s o
      by_place (inl i) = tried_later before after later s o (h j s o at i)
      by_place (inr r) =
          let same : shape ≡ s = same_Some shape s (sym here ∙ ap (slice_get shapes) (sym r.0) ∙ at) in
          subst (λ x. IsTried Answers program pairs after array s x) r.1 (subst (λ x. IsTried Answers program pairs after array x one) same t)

  -- one basis more is tried
  pub next_tried : (before after : Account) → IsLater before after → (dimensions : ℕ) (bases : List Basis) → map shape_of bases ≡ listing dimensions → (i : ℕ) (b : Basis) → i < length bases → b ≡ slice_index_or bases i b
      → (found : List (Option Rated)) → AreTried Answers program pairs before array (listing dimensions) found → length found ≡ i
      → (one : Option Rated) → IsTried Answers program pairs after array (shape_of b) one → (more : List (Option Rated)) → more ≡ found ++ one ∷ [] → AreTried Answers program pairs after array (listing dimensions) more × (length more ≡ i + 1)
  next_tried before after later dimensions bases e i b under is found h count one t more pushed = (
    subst (AreTried Answers program pairs after array (listing dimensions)) (sym pushed)
        (one_more_tried before after later (listing dimensions) found (shape_of b) one h (ap (slice_get (listing dimensions)) count ∙ listed_at dimensions bases e i b under is) t),
    joined (length more) (length found) i (ap length pushed ∙ one_longer found one) count,
  )
    where
      joined : (m k i : ℕ) → m ≡ suc k → k ≡ i → m ≡ i + 1
      joined m k i e f = omega (arith, e, f)

  -- ---- The one that is taken

  module _ (budget : Account) (bases : List (ArrayId × Basis)) (dimensions : ℕ) (found : List (Option Rated)) (h : AreTried Answers program pairs budget array (listing dimensions) found) (many : length found ≡ length (listing dimensions)) where
    none_taken : dimensions ≤ 4 → NoneFound found → IsSpent budget
    none_taken few none =
        let long : 0 < length (listing dimensions) = some_listed dimensions few in
        by_first (listing dimensions) found long (λ shape one at at_one. h 0 shape one at at_one) (λ one at. none 0 one at) many
      where
        by_first : (shapes : List Shape) (fs : List (Option Rated)) → 0 < length shapes → ((shape : Shape) (one : Option Rated) → slice_get shapes 0 ≡ Some shape → slice_get fs 0 ≡ Some one → IsTried Answers program pairs budget array shape one)
            → ((one : Rated) → slice_get fs 0 ≡ Some (Some one) → ⊥) → length fs ≡ length shapes → IsSpent budget
        by_first [] fs long t n e = absurd (omega (arith, long))
        by_first (s ∷ ss) [] long t n e = absurd (omega (arith, e))
        by_first (s ∷ ss) (None ∷ fs) long t n e = t s None refl refl
        by_first (s ∷ ss) (Some r ∷ fs) long t n e = absurd (n r refl)

    price_told : (shape : Shape) (one : Option Rated) → IsTried Answers program pairs budget array shape one → IsPrice Answers program pairs budget array shape.rows (price_of one)
    price_told shape None t = t
    price_told shape (Some r) t = by_mark r.marked refl
      where
        by_mark : (b : Bool) → r.marked ≡ b → IsPrice Answers program pairs budget array shape.rows (if b then Some r.price else None)
        by_mark true e = (subst (λ (s : Shape). AreNeeds (IsInContext program) (pairs array) s.rows r.price.values) t.its_shape (t.needed e), t.cost)
        by_mark false e = t.bound (t.unmarked e)

    -- a price that is told is that of a fold that was found
    told_price : (one : Option Rated) (price : Price) → price_of one ≡ Some price → (r : Rated) × (one ≡ Some r) × (r.price ≡ price)
    told_price None price e = absurd (none-some price e)
    told_price (Some r) price e = by_mark r.marked e
      where
        by_mark : (b : Bool) → (if b then Some r.price else None) ≡ Some price → (s : Rated) × (Some r ≡ Some s) × (s.price ≡ price)
        by_mark true e = (r, refl, same_Some r.price price e)
        by_mark false e = absurd (none-some price e)

    untold_price : (r : Rated) → price_of (Some r) ≡ None → r.marked ≡ false
    untold_price r e = by_mark r.marked e
      where
        by_mark : (b : Bool) → (if b then Some r.price else None) ≡ None → b ≡ false
        by_mark true e = absurd (none-some r.price (sym e))
        by_mark false e = refl

    chosen_folded : (fold : Fold) (choice : Choice) → IsChosen found fold choice → given_for bases array dimensions ≡ None → IsFolded Answers program pairs bases budget array (fold, choice)
    chosen_folded fold choice c none = subst (λ (g : Fold). IsFolded Answers program pairs bases budget array (g, choice)) (sym c.its_fold) folded
      where
        one : Rated
        one = c.one

        its_place : (shape : Shape) × (slice_get (listing dimensions) choice.number ≡ Some shape)
        its_place = tops.beside found (listing dimensions) choice.number (Some one) (sym many) c.is_first.there

        rated : IsRated Answers program pairs budget array its_place.0 one
        rated = h choice.number its_place.0 (Some one) its_place.1 c.is_first.there

        listed : slice_get (listing dimensions) choice.number ≡ Some (shape_of one.fold.basis)
        listed = its_place.1 ∙ ap (λ s. Some s) (sym rated.its_shape)

        rows : length one.fold.basis.rows ≡ dimensions
        rows = listed_rows dimensions choice.number one.fold.basis listed

        price_at : (j : ℕ) (price : Option Price) → slice_get choice.prices j ≡ Some price → (o : Option Rated) × (slice_get found j ≡ Some o) × (price ≡ price_of o)
        price_at j price at = tops.from_mapped price_of found j price (ap (λ ps. slice_get ps j) (sym c.prices) ∙ at)

        rated_at : (j : ℕ) (price : Price) → slice_get choice.prices j ≡ Some (Some price) → (r : Rated) × (slice_get found j ≡ Some (Some r)) × (r.price ≡ price)
        rated_at j price at =
            let o = price_at j (Some price) at in
            let r = told_price o.0 price (sym o.2) in
            (r.0, o.1 ∙ ap (λ x. Some x) r.1, r.2)

        no_more : (j : ℕ) (price : Price) → slice_get choice.prices j ≡ Some (Some price) → choice.cost ≤ price.cost
        no_more j price at =
            let r = rated_at j price at in
            subst (λ (p : Price). choice.cost ≤ p.cost) r.2 (subst (λ k. k ≤ r.0.price.cost) (sym c.its_cost) (c.is_first.least j r.0 r.1))

        less : (j : ℕ) (price : Price) → j < choice.number → slice_get choice.prices j ≡ Some (Some price) → choice.cost < price.cost
        less j price below at =
            let r = rated_at j price at in
            subst (λ (p : Price). choice.cost < p.cost) r.2 (subst (λ k. k < r.0.price.cost) (sym c.its_cost) (c.is_first.first j r.0 below r.1))

        own : slice_get choice.prices choice.number ≡ Some None → HasBound one.fold
        own at =
            let o = price_at choice.number None at in
            let same : Some one ≡ o.0 = same_Some (Some one) o.0 (sym c.is_first.there ∙ o.1) in
            rated.unmarked (untold_price one (ap price_of same ∙ sym o.2))

        cheapest : IsCheapest Answers program pairs budget array one.fold choice
        cheapest = record {
          listed = subst (λ n. slice_get (listing n) choice.number ≡ Some (shape_of one.fold.basis)) (sym rows) listed;
          prices = subst (λ n. ArePrices Answers program pairs budget array (listing n) choice.prices) (sym rows) (record {
            one_each = ap length c.prices ∙ tops.as_many price_of found ∙ many;
            each = λ j shape price at at_price.
                let o = price_at j price at_price in
                subst (IsPrice Answers program pairs budget array shape.rows) (sym o.2) (price_told shape o.0 (h j shape o.0 at o.1));
          });
          lowest = record { least = no_more; first = less; own = own };
        }

        folded : IsFolded Answers program pairs bases budget array (one.fold, choice)
        folded = record {
          is_fold = rated.is_fold;
          is_choice = record {
            cost = record { values = one.price.values; are_greatest = rated.values; answered = subst (Answers one.price.values) (sym c.its_cost) rated.cost };
            taken = subst (λ o. IsTaken o Answers program pairs budget array one.fold choice) (sym (ap (given_for bases array) rows ∙ none)) cheapest;
          };
          bound = rated.bound;
        }

    pub chosen_rows : (fold : Fold) (choice : Choice) → IsChosen found fold choice → length fold.basis.rows ≡ dimensions
    chosen_rows fold choice c =
        let place = tops.beside found (listing dimensions) choice.number (Some c.one) (sym many) c.is_first.there in
        let rated : IsRated Answers program pairs budget array place.0 c.one = h choice.number place.0 (Some c.one) place.1 c.is_first.there in
        ap (λ (f : Fold). length f.basis.rows) c.its_fold ∙ listed_rows dimensions choice.number c.one.fold.basis (place.1 ∙ ap (λ s. Some s) (sym rated.its_shape))

    pub none_left : dimensions ≤ 4 → (taken : Option (Fold × Choice)) → IfNone taken (NoneFound found) → IfNone taken (IsSpent budget)
    none_left few None none = none_taken few none
    none_left few (Some t) none = tt

    pub one_taken : given_for bases array dimensions ≡ None → (taken : Option (Fold × Choice)) → IfSome taken (λ t. IsChosen found t.0 t.1) → IfSome taken (IsFolded Answers program pairs bases budget array)
    one_taken none None c = tt
    one_taken none (Some t) c = chosen_folded t.0 t.1 c none

  -- ---- A basis that is given

  pub given_folded : (budget : Account) (bases : List (ArrayId × Basis)) (dimensions : ℕ) (shape : Shape) (found : Option Rated) → IsTried Answers program pairs budget array shape found
      → length shape.rows ≡ dimensions → given_for bases array dimensions ≡ Some shape → (r : Rated) (choice : Choice) → found ≡ Some r → choice.cost ≡ r.price.cost → choice.prices ≡ []
      → IsFolded Answers program pairs bases budget array (r.fold, choice)
  given_folded budget bases dimensions shape found tried rows given r choice is cost none = record {
    is_fold = t.is_fold;
    is_choice = record {
      cost = record { values = r.price.values; are_greatest = t.values; answered = subst (Answers r.price.values) (sym cost) t.cost };
      taken = subst (λ o. IsTaken o Answers program pairs budget array r.fold choice) (sym (ap (given_for bases array) (ap (λ (s : Shape). length s.rows) t.its_shape ∙ rows) ∙ given)) (t.its_shape, none);
    };
    bound = t.bound;
  }
    where
      t : IsRated Answers program pairs budget array shape r
      t = subst (IsTried Answers program pairs budget array shape) is tried
