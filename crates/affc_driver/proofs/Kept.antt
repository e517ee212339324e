-- Folds of which some were left out where the budget ended.
use Rattle.std.proofs.Common.{◌≡◌, ℕ, ℤ, List, [], ◌∷◌, map, Some, sym, subst, ◌∙◌, ◌⊎◌, inl, inr}
use Rattle.std.specs.List.{All}
use Rattle.std.proofs.lemmas.List.Elements.{All-nil, All-cons, All-head, All-tail}
use Rattle.affc_ast.specs.declared.tree.ArrayId.{ArrayId}
use Rattle.affc_ast.specs.declared.tree.Program.{Program}
use Rattle.affc_trace.specs.Law.{IsIn}
use Rattle.affc_trace.specs.Orders.{AreDistinct}
use Rattle.affc_trace.specs.Target.{numbers_in}
use Rattle.affc_trace.proofs.Members.{in_map, to_map}
use Rattle.affc_split.specs.Budgets.{Account, IsLater}
use Rattle.affc_basis.specs.declared.basis.Basis.{Basis}
use Rattle.affc_basis.specs.declared.fold.Fold.{Fold}
use Rattle.affc_basis.specs.FoldLists.{AreFoldsIn}
use Rattle.affc_basis.specs.Folds.{KeepsLimits, fold_of}
use Rattle.affc_basis.proofs.FoldsFound.{folds_are_found}
use Rattle.affc_weigh.specs.declared.choice.Choice.{Choice}
use Rattle.affc_moduli.proofs.Spent.{stays_spent}
use Rattle.affc_folds.specs.Folding.{IsSpent, IsLeftWhole, AreFoldsUnder}
use Rattle.affc_folds.proofs.ListLemmas.{has_later}
use Rattle.affc_certify.specs.Left.{IsPart, AreLeft}

-- what is kept was there
in_whole : {A : Type 0} (kept all : List A) → IsPart kept all → (x : A) → IsIn x kept → IsIn x all
in_whole [] all part x i = absurd i
in_whole (k ∷ kept) [] part x i = absurd part
in_whole (k ∷ kept) (a ∷ all) (inl p) x (inl e) = inl (e ∙ p.0)
in_whole (k ∷ kept) (a ∷ all) (inl p) x (inr i) = inr (in_whole kept all p.1 x i)
in_whole (k ∷ kept) (a ∷ all) (inr p) x i = inr (in_whole (k ∷ kept) all p x i)

-- what holds of all holds of what is kept
all_kept : {A : Type 0} (P : A → Type 0) (kept all : List A) → IsPart kept all → All P all → All P kept
all_kept P [] all part h = All-nil P
all_kept P (k ∷ kept) [] part h = absurd part
all_kept P (k ∷ kept) (a ∷ all) (inl p) h = All-cons P k kept (subst P (sym p.0) (All-head P a all h)) (all_kept P kept all p.1 (All-tail P a all h))
all_kept P (k ∷ kept) (a ∷ all) (inr p) h = all_kept P (k ∷ kept) all p (All-tail P a all h)

still_distinct : {A : Type 0} (f : A → ℕ) (kept all : List A) → IsPart kept all → AreDistinct (map f all) → AreDistinct (map f kept)
still_distinct f [] all part d = tt
still_distinct f (k ∷ kept) [] part d = absurd part
still_distinct f (k ∷ kept) (a ∷ all) (inl p) d = (
  λ i.
      let r = in_map f kept (f k) i in
      d.0 (subst (λ y. IsIn (f y) (map f all)) p.0 (subst (λ n. IsIn n (map f all)) (sym r.2) (to_map f all r.0 (in_whole kept all p.1 r.0 r.1)))),
  still_distinct f kept all p.1 d.1,
)
still_distinct f (k ∷ kept) (a ∷ all) (inr p) d = still_distinct f (k ∷ kept) all p d.1

module _ (program : Program) (all kept : List (ArrayId × Fold)) (are : AreFoldsIn program all) (part : IsPart kept all) where
  still_in : AreFoldsIn program kept
  still_in = record {
    different = still_distinct (λ (f : ArrayId × Fold). f.0.0) kept all part are.different;
    each = λ array fold i. are.each array fold (in_whole kept all part (array, fold) i);
  }

  -- an array's fold is the one that it had
  still_found : (array : ℕ) (fold : Fold) → fold_of kept array ≡ Some fold → fold_of all array ≡ Some fold
  still_found array fold e =
      let r = (folds_are_found program kept array fold still_in).0 e in
      (folds_are_found program all array fold are).1 (r.0, r.1, in_whole kept all part (r.0, fold) r.2)

-- Folds of which some were left out stay folds.
module _ (Answers : List ℕ → ℕ → Type 0) (program : Program) (pairs : ℕ → List ℤ → List ℤ → List ℤ → Type 0) (bases : List (ArrayId × Basis)) (before after : Account) (later : IsLater before after) (all kept : List (ArrayId × Fold)) (choices : List (ArrayId × Choice))
    (h : AreFoldsUnder Answers program pairs bases before all choices) (left : AreLeft after all kept) where
  had : (array : ℕ) (fold : Fold) → fold_of kept array ≡ Some fold → fold_of all array ≡ Some fold
  had = still_found program all kept h.in_program left.part

  one_missing : (kept ≡ all) ⊎ IsSpent after → IsLeftWhole program kept → IsSpent after
  one_missing (inl same) whole = stays_spent before after later (h.whole (subst (IsLeftWhole program) same whole))
  one_missing (inr spent) whole = spent

  pub still_folds : AreFoldsUnder Answers program pairs bases after kept choices
  still_folds = record {
    in_program = still_in program all kept h.in_program left.part;
    limits = all_kept (λ (f : ArrayId × Fold). KeepsLimits (numbers_in program.params) f.1) kept all left.part h.limits;
    obeys = λ p inside array fold at. h.obeys p inside array fold (had array fold at);
    marks = λ array fold at. h.marks array fold (had array fold at);
    chosen = λ array fold at. has_later Answers program pairs bases before after later array fold choices choices (λ c e. e) (h.chosen array fold (had array fold at));
    bound = λ array fold at b. stays_spent before after later (h.bound array fold (had array fold at) b);
    whole = one_missing left.all;
  }
