-- What the definitions give at small folds. Each value was found by hand from the rules.
use Rattle.std.specs.Prelude.{◌≡◌, ℕ, zero, suc, ◌*◌, ◌≤◌, ℤ, pos, negsuc, List, [], ◌∷◌, length, Option, Some, None, refl, unsigned_abs}
use Rattle.std.proofs.Common.{subst, lit≤, arith}
use Rattle.std.proofs.lemmas.List.Elements.{All-nil, All-cons}
use Rattle.std.proofs.lemmas.Option.{same_Some}
use Rattle.affc_rows.specs.Forms.{Affine, HaveColumns, composed_form}
use Rattle.affc_ast.specs.declared.tree.ArrayId.{ArrayId}
use Rattle.affc_ast.specs.declared.tree.Ix.TheVariants.{Lit}
use Rattle.affc_ast.specs.declared.tree.Program.{Program}
use Rattle.affc_ast.specs.declared.tree.Role.TheVariants.{Temp}
use Rattle.affc_ast.specs.Store.{Element}
use Rattle.affc_trace.specs.Examples.{blur, together, two, cell}
use Rattle.affc_trace.specs.Inverses.{column}
use Rattle.affc_trace.specs.Dataflow.{LivePair}
use Rattle.affc_trace.specs.Laws.{IsInContext}
use Rattle.affc_basis.specs.declared.basis.Basis.{Basis}
use Rattle.affc_basis.specs.declared.fold.Mark.TheVariants.{Least, Bound}
use Rattle.affc_basis.specs.declared.fold.Modulus.{Modulus}
use Rattle.affc_basis.specs.declared.fold.Fold.{Fold}
use Rattle.affc_basis.specs.Bases.{AreWithin, HaveCoefsWithin, AreComponents}
use Rattle.affc_basis.specs.Slices.{IsGreatest, slice_of, greatest_along}
use Rattle.affc_basis.specs.Moduli.{remainders}
use Rattle.affc_basis.specs.Folds.{folded, place, IsAdmissible, Obeys, IsNeed, IsEnough, IsLeastMark, IsTrueMark, AreGreatestValues, IsCost}
use Rattle.affc_basis.specs.FoldLists.{AreFoldsIn}
use Rattle.affc_basis.specs.Laws.{AreFoldsOf, LiesWithin}

-- ---- The basis (x0), with the inverse (y0)

abbrev pub x0 : Affine
x0 = record { coefs = pos 1 ∷ []; constant = pos 0 }

pub one_column : HaveColumns 1 (x0 ∷ [])
one_column = All-cons (λ f. length f.coefs ≡ 1) x0 [] refl (All-nil (λ f. length f.coefs ≡ 1))

pub small : HaveCoefsWithin 256 (x0 ∷ [])
small =
    All-cons (λ f. AreWithin 256 f.coefs) x0 []
    (All-cons (λ c. unsigned_abs c ≤ 256) (pos 1) [] (lit≤ tt) (All-nil (λ c. unsigned_abs c ≤ 256)))
    (All-nil (λ f. AreWithin 256 f.coefs))

pub identity : AreComponents (x0 ∷ []) (x0 ∷ [])
identity zero h = record {
  row = λ r e. subst (λ f. f.constant ≡ pos 0) (same_Some x0 r e) refl;
  inverse_row = λ g e. subst (λ f. f.constant ≡ pos 0) (same_Some x0 g e) refl;
  product = λ g e. subst (λ f. composed_form f (x0 ∷ []) ≡ column 1 0) (same_Some x0 g e) refl;
}
identity (suc k) h = absurd (omega arith)

abbrev pub whole : Basis
whole = record {
  rows = x0 ∷ [];
  inverse = x0 ∷ [];
  square = record { columns = one_column; inverse_columns = one_column; one_each = refl; few = lit≤ tt };
  row_bounds = small;
  inverse_bounds = small;
  identity = identity;
}

-- a number, as a form over one parameter
abbrev pub number : ℕ → Affine
number n = record { coefs = pos 0 ∷ []; constant = pos n }

-- N + 1 and N + 2
abbrev pub one_more : Affine
one_more = record { coefs = pos 1 ∷ []; constant = pos 1 }

abbrev pub two_more : Affine
two_more = record { coefs = pos 1 ∷ []; constant = pos 2 }

-- the fold of one dimension by this modulus
abbrev pub by_modulus : Affine → Fold
by_modulus b = record { basis = whole; moduli = record { form = b; mark = Bound } ∷ []; one_each = refl }

-- the fold of one dimension onto n elements
abbrev pub onto : ℕ → Fold
onto n = by_modulus (number n)

-- 4 mod 3 is 1, -1 mod 3 is 2
abbrev pub PlaceOfFour : Type 0
PlaceOfFour = (folded (onto 3) two (pos 4 ∷ []) ≡ pos 1 ∷ []) × (folded (onto 3) two (negsuc 0 ∷ []) ≡ pos 2 ∷ [])

abbrev pub folds : List (ArrayId × Fold)
folds = (record { 0 = 2 }, onto 3) ∷ []

-- t[4] stands at t[1], and in[4] where it is
abbrev pub PlacesOfTheBlur : Type 0
PlacesOfTheBlur = (place folds two (cell 2 4) ≡ cell 2 1) × (place folds two (cell 0 4) ≡ cell 0 4)

-- that another array has a fold, which stands first, changes nothing
abbrev pub PlaceBySecondFold : Type 0
PlaceBySecondFold = place ((record { 0 = 3 }, onto 2) ∷ folds) two (cell 2 4) ≡ cell 2 1

-- t is the third array, after two parameter arrays, and has one dimension; `out` is none to be folded
abbrev pub FoldsOfTheBlur : Type 0
FoldsOfTheBlur = AreFoldsOf blur folds × (AreFoldsOf blur ((record { 0 = 1 }, onto 3) ∷ []) → ⊥)

abbrev pub fold_at : ℕ → Fold → ArrayId × Fold
fold_at array fold = (record { 0 = array }, fold)

-- a modulus over N and one column more
abbrev pub with_iterator : Affine
with_iterator = record { coefs = pos 0 ∷ pos 1 ∷ []; constant = pos 3 }

abbrev pub two_dimensions : Program
two_dimensions = record blur { temps = record { name = []; role = Temp; extents = Lit (pos 3) ∷ Lit (pos 3) ∷ [] } ∷ [] }

-- t has one fold, `out` and what is no array have none; its moduli are over N, and it has one row for each dimension
abbrev pub ListsOfFolds : Type 0
ListsOfFolds =
    AreFoldsIn blur folds
    × AreFoldsIn blur []
    × (AreFoldsIn blur (fold_at 2 (onto 3) ∷ fold_at 2 (onto 4) ∷ []) → ⊥)
    × (AreFoldsIn blur (fold_at 1 (onto 3) ∷ []) → ⊥)
    × (AreFoldsIn blur (fold_at 3 (onto 3) ∷ []) → ⊥)
    × (AreFoldsIn blur (fold_at 2 (by_modulus with_iterator) ∷ []) → ⊥)
    × (AreFoldsIn two_dimensions folds → ⊥)

-- ---- Two rows, over two dimensions

abbrev pub first_row : Affine
first_row = record { coefs = pos 1 ∷ pos 0 ∷ []; constant = pos 0 }

abbrev second_row : Affine
second_row = record { coefs = pos 0 ∷ pos 1 ∷ []; constant = pos 0 }

abbrev pub two_rows : List Affine
two_rows = first_row ∷ second_row ∷ []

abbrev spot : (x y : ℕ) → Element
spot x y = (2, pos x ∷ pos y ∷ [])

-- along each row by its own modulus: 7 mod 3 is 1, and -1 mod 5 is 4
abbrev pub RowsHaveTheirModuli : Type 0
RowsHaveTheirModuli = remainders two two_rows (number 3 ∷ number 5 ∷ []) (pos 7 ∷ negsuc 0 ∷ []) ≡ pos 1 ∷ pos 4 ∷ []

abbrev two_pairs : List (Element × Element)
two_pairs = (spot 0 0, spot 0 3) ∷ (spot 0 0, spot 1 5) ∷ []

-- elements that lie apart along the first row are no pair of the second row's slice
abbrev pub SlicesAreSuccessive : Type 0
SlicesAreSuccessive =
    (slice_of two_pairs 2 two_rows 0 ≡ two_pairs)
    × (slice_of two_pairs 2 two_rows 1 ≡ (spot 0 0, spot 0 3) ∷ [])
    × (slice_of two_pairs 1 two_rows 0 ≡ [])
    × (greatest_along first_row two_pairs ≡ 1)
    × (greatest_along second_row two_pairs ≡ 5)

-- one pair, which lies apart along the second row alone
abbrev pub OnePair : (p : List ℤ) → List ℤ → List ℤ → Type 0
OnePair p x y = (x ≡ pos 0 ∷ pos 0 ∷ []) × (y ≡ pos 0 ∷ pos 3 ∷ [])

abbrev pub NoPair : (p : List ℤ) → List ℤ → List ℤ → Type 0
NoPair p x y = ⊥

abbrev pub IsLeastAlongFirst : Affine → Option (List ℤ × List ℤ) → Type 0
IsLeastAlongFirst modulus pair = IsLeastMark (λ p. p ≡ two) OnePair two_rows 0 first_row modulus two pair

-- where nothing lies apart along a row 1 is enough; 0 isn't, even where there is no pair
abbrev pub OneIsEnough : Type 0
OneIsEnough = IsEnough (λ p. p ≡ two) OnePair two_rows 0 first_row (number 1) × (IsEnough (λ p. p ≡ two) NoPair two_rows 0 first_row (number 0) → ⊥)

-- the first row needs no more than 1, which no pair shows
abbrev pub OneHasNoPair : Type 0
OneHasNoPair = IsLeastAlongFirst (number 1) None × (IsLeastAlongFirst (number 1) (Some (pos 0 ∷ pos 0 ∷ [], pos 0 ∷ pos 3 ∷ [])) → ⊥)

-- ---- The blur at times i and i + 2: t[i] and t[i + 2] are live together, and nothing farther apart

abbrev pub BlurNeedsTwo : Type 0
BlurNeedsTwo = IsGreatest (LivePair blur together 2 two) (x0 ∷ []) 0 x0 2

-- and neither 1 nor 3 is the greatest distance
abbrev pub OnlyTwoIsGreatest : Type 0
OnlyTwoIsGreatest = (IsGreatest (LivePair blur together 2 two) (x0 ∷ []) 0 x0 1 → ⊥) × (IsGreatest (LivePair blur together 2 two) (x0 ∷ []) 0 x0 3 → ⊥)

abbrev pub ThreeObeys : Type 0
ThreeObeys = Obeys (LivePair blur together 2 two) (onto 3) two

-- t[0] and t[2] would have one place
abbrev pub TwoIsTooFew : Type 0
TwoIsTooFew = ¬ (IsAdmissible (LivePair blur together 2 two) (onto 2) two)

-- the modulus 3 is least, as t[0] and t[2] show at N = 2
abbrev pub ThreeIsLeast : Type 0
ThreeIsLeast = IsLeastMark (IsInContext blur) (LivePair blur together 2) (x0 ∷ []) 0 x0 (record { coefs = pos 0 ∷ []; constant = pos 3 }) two (Some (pos 0 ∷ [], pos 2 ∷ []))

abbrev pub BlurNeeds : ℕ → Type 0
BlurNeeds n = IsNeed (IsInContext blur) (LivePair blur together 2) (x0 ∷ []) 0 x0 n

-- so the row needs 3; 2 is too few, and 4 is more than is needed
abbrev pub BlurNeedsThree : Type 0
BlurNeedsThree = BlurNeeds 3 × (BlurNeeds 2 → ⊥) × (BlurNeeds 4 → ⊥)

abbrev pub IsEnoughForTheBlur : Affine → Type 0
IsEnoughForTheBlur modulus = IsEnough (IsInContext blur) (LivePair blur together 2) (x0 ∷ []) 0 x0 modulus

-- any modulus from 3 on is enough, and 2 isn't
abbrev pub ThreeIsEnough : Type 0
ThreeIsEnough = IsEnoughForTheBlur (number 3) × IsEnoughForTheBlur (number 4) × (IsEnoughForTheBlur (number 2) → ⊥)

abbrev pub IsTrueOfTheBlur : Modulus → Type 0
IsTrueOfTheBlur m = IsTrueMark (IsInContext blur) (LivePair blur together 2) (x0 ∷ []) 0 x0 m

abbrev pub marked : ℕ → Option (List ℤ × List ℤ) → Modulus
marked n pair = record { form = number n; mark = Least two pair }

-- t[0] and t[1] are live together too, but don't lie farthest apart; t[2] and t[4] do, but aren't live together, since
-- nothing stores t[4] at N = 2; and a bound may be any form
abbrev pub MarksOfTheBlur : Type 0
MarksOfTheBlur =
    IsTrueOfTheBlur (marked 3 (Some (pos 0 ∷ [], pos 2 ∷ [])))
    × (IsTrueOfTheBlur (marked 3 (Some (pos 0 ∷ [], pos 1 ∷ []))) → ⊥)
    × (IsTrueOfTheBlur (marked 3 (Some (pos 2 ∷ [], pos 4 ∷ []))) → ⊥)
    × (IsTrueOfTheBlur (marked 3 None) → ⊥)
    × (IsTrueOfTheBlur (marked 2 (Some (pos 0 ∷ [], pos 1 ∷ []))) → ⊥)
    × (IsTrueOfTheBlur (marked 4 (Some (pos 0 ∷ [], pos 2 ∷ []))) → ⊥)
    × IsTrueOfTheBlur (record { form = number 7; mark = Bound })

-- N + 1 is 3 at N = 2, but greater at N = 4; and N = 5 is outside of the context
abbrev pub MarksElsewhere : Type 0
MarksElsewhere =
    (IsTrueOfTheBlur (record { form = one_more; mark = Least two (Some (pos 0 ∷ [], pos 2 ∷ [])) }) → ⊥)
    × (IsTrueOfTheBlur (record { form = number 3; mark = Least (pos 5 ∷ []) (Some (pos 0 ∷ [], pos 2 ∷ [])) }) → ⊥)

-- each subscript of t is below N + 2, and not each below N + 1
abbrev pub BlurLiesWithin : Type 0
BlurLiesWithin = LiesWithin blur two 2 (two_more ∷ []) × (LiesWithin blur two 2 (one_more ∷ []) → ⊥)

-- ---- Greatest values where N is from 1 to 4

abbrev pub FiveAndThreeAreGreatest : Type 0
FiveAndThreeAreGreatest =
    AreGreatestValues (IsInContext blur) (one_more ∷ number 3 ∷ []) (5 ∷ 3 ∷ [])
    × (AreGreatestValues (IsInContext blur) (one_more ∷ number 3 ∷ []) (4 ∷ 3 ∷ []) → ⊥)
    × (AreGreatestValues (IsInContext blur) (one_more ∷ number 3 ∷ []) (6 ∷ 3 ∷ []) → ⊥)
    × (AreGreatestValues (IsInContext blur) (one_more ∷ number 3 ∷ []) (5 ∷ []) → ⊥)

-- a stored cost: the number of elements of an array with these extents
abbrev pub elements : List ℕ → ℕ
elements [] = 1
elements (n ∷ ns) = n * elements ns

-- the fold costs what it costs at N = 4
abbrev pub CostOfOneMore : Type 0
CostOfOneMore = IsCost elements (IsInContext blur) (by_modulus one_more) 5 × (IsCost elements (IsInContext blur) (by_modulus one_more) 4 → ⊥)
