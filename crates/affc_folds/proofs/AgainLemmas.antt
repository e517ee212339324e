-- A fold that is made again along the basis that is chosen.
use Rattle.std.proofs.Common.{◌≡◌, ℕ, ℤ, List, length, map, Option, Some, None, sym, ap, subst, ◌∙◌, inl, inr}
use Rattle.std.specs.Prelude.{slice_get}
use Rattle.std.proofs.lemmas.Option.{same_Some}
use Rattle.affc_ast.specs.declared.tree.ArrayId.{ArrayId}
use Rattle.affc_ast.specs.declared.tree.Program.{Program}
use Rattle.affc_split.specs.Budgets.{Account, IsLater}
use Rattle.affc_basis.specs.declared.basis.Basis.{Basis}
use Rattle.affc_basis.specs.declared.fold.Fold.{Fold}
use Rattle.affc_basis.specs.Listed.{Shape, shape_of, listing}
use Rattle.affc_weigh.specs.declared.choice.Choice.{Choice}
use Rattle.affc_weigh.specs.declared.choice.Price.{Price}
use Rattle.affc_weigh.specs.declared.ratings.Rated.{Rated}
use Rattle.affc_weigh.proofs.Tops as tops
use Rattle.affc_folds.specs.Folding.{given_for, IsPrice, ArePrices, IsTaken}
use Rattle.affc_folds.specs.Tries.{IsRated, IsTried, IsFolded, IsEither}
use Rattle.affc_life.proofs.BasisLemmas.{listed_rows}
use Rattle.affc_moduli.proofs.Spent.{stays_spent}

module _ (Answers : List ℕ → ℕ → Type 0) (program : Program) (pairs : ℕ → List ℤ → List ℤ → List ℤ → Type 0) (array : ℕ) (bases : List (ArrayId × Basis)) where
  -- ---- Where more is spent

  module _ (before after : Account) (later : IsLater before after) where
    price_later : (rows : Shape) (price : Option Price) → IsPrice Answers program pairs before array rows.rows price → IsPrice Answers program pairs after array rows.rows price
    price_later shape None h = stays_spent before after later h
    price_later shape (Some price) h = h

    taken_later : (o : Option Shape) (fold : Fold) (choice : Choice) → IsTaken o Answers program pairs before array fold choice → IsTaken o Answers program pairs after array fold choice
    taken_later (Some shape) fold choice t = t
    taken_later None fold choice t = record {
      listed = t.listed;
      prices = record { one_each = t.prices.one_each; each = λ j shape price at at_price. price_later shape price (t.prices.each j shape price at at_price) };
      lowest = t.lowest;
    }

    pub folded_later : (fold : Fold) (choice : Choice) → IsFolded Answers program pairs bases before array (fold, choice) → IsFolded Answers program pairs bases after array (fold, choice)
    folded_later fold choice h = record {
      is_fold = h.is_fold;
      is_choice = record { cost = h.is_choice.cost; taken = taken_later (given_for bases array (length fold.basis.rows)) fold choice h.is_choice.taken };
      bound = λ b. stays_spent before after later (h.bound b);
    }

  -- ---- The fold that is made again

  module _ (budget : Account) (fold : Fold) (choice : Choice) (h : IsFolded Answers program pairs bases budget array (fold, choice)) where
    module _ (one : Rated) (r : IsRated Answers program pairs budget array (shape_of fold.basis) one) (cost : one.price.cost ≡ choice.cost) (told : slice_get choice.prices choice.number ≡ Some None → ⊥) where
      as_long : length one.fold.basis.rows ≡ length fold.basis.rows
      as_long = ap (λ (s : Shape). length s.rows) r.its_shape

      taken_again : (o : Option Shape) → IsTaken o Answers program pairs budget array fold choice → IsTaken o Answers program pairs budget array one.fold choice
      taken_again (Some shape) t = (r.its_shape ∙ t.0, t.1)
      taken_again None t = record {
        listed = subst (λ n. slice_get (listing n) choice.number ≡ Some (shape_of one.fold.basis)) (sym as_long) (t.listed ∙ ap (λ s. Some s) (sym r.its_shape));
        prices = subst (λ n. ArePrices Answers program pairs budget array (listing n) choice.prices) (sym as_long) t.prices;
        lowest = record { least = t.lowest.least; first = t.lowest.first; own = λ at. absurd (told at) };
      }

      folded_again : IsFolded Answers program pairs bases budget array (one.fold, choice)
      folded_again = record {
        is_fold = r.is_fold;
        is_choice = record {
          cost = record { values = one.price.values; are_greatest = r.values; answered = subst (Answers one.price.values) cost r.cost };
          taken = subst (λ n. IsTaken (given_for bases array n) Answers program pairs budget array one.fold choice) (sym as_long) (taken_again (given_for bases array (length fold.basis.rows)) h.is_choice.taken);
        };
        bound = r.bound;
      }

    pub either_folded : (shape : Shape) → shape ≡ shape_of fold.basis → (one : Option Rated) → IsTried Answers program pairs budget array shape one → (taken : Fold) → IsEither fold choice one taken
        → IsFolded Answers program pairs bases budget array (taken, choice)
    either_folded shape e one tried taken (inl same) = subst (λ (f : Fold). IsFolded Answers program pairs bases budget array (f, choice)) (sym same) h
    either_folded shape e one tried taken (inr m) =
        let r = subst (λ (s : Shape). IsRated Answers program pairs budget array s m.0) e (subst (IsTried Answers program pairs budget array shape) m.1 tried) in
        subst (λ (f : Fold). IsFolded Answers program pairs bases budget array (f, choice)) (sym m.2) (folded_again m.0 r m.3 m.4)

    -- the basis with the number that is chosen is its basis
    module _ (dimensions : ℕ) (all : List Basis) (are : map shape_of all ≡ listing dimensions) (rows : length fold.basis.rows ≡ dimensions) (none : given_for bases array dimensions ≡ None) (b : Basis)
        (there : slice_get all choice.number ≡ Some b) where
      listed : slice_get (listing dimensions) choice.number ≡ Some (shape_of b)
      listed = ap (λ ss. slice_get ss choice.number) (sym are) ∙ tops.mapped shape_of all choice.number b there

      pub its_rows : length b.rows ≡ dimensions
      its_rows = listed_rows dimensions choice.number b listed

      pub its_shape : shape_of b ≡ shape_of fold.basis
      its_shape =
          let cheapest = subst (λ o. IsTaken o Answers program pairs budget array fold choice) (ap (given_for bases array) rows ∙ none) h.is_choice.taken in
          same_Some (shape_of b) (shape_of fold.basis) (sym listed ∙ subst (λ n. slice_get (listing n) choice.number ≡ Some (shape_of fold.basis)) rows cheapest.listed)
