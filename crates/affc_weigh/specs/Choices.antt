-- What folds come to, and which of them is chosen.
use Rattle.std.specs.Prelude.{◌≡◌, ℕ, ◌<◌, ◌≤◌, ◌^◌, ℤ, pos, unsigned_abs, nat_eq, Bool, true, false, if◌then◌else◌, List, [], ◌∷◌, length, map, Option, Some, None, slice_get}
use Rattle.std.specs.List.{All, list_all}
use Rattle.std.specs.Ordering.{int_eq}
use Rattle.affc_rows.specs.Forms.{Affine, value}
use Rattle.affc_system.specs.Systems.{FitsRow}
use Rattle.affc_ast.specs.declared.tree.ArrayId.{ArrayId}
use Rattle.affc_basis.specs.declared.fold.Fold.{Fold}
use Rattle.affc_basis.specs.declared.fold.Mark.{Mark}
use Rattle.affc_basis.specs.declared.fold.Mark.TheVariants.{Least, Bound}
use Rattle.affc_basis.specs.declared.fold.Modulus.{Modulus}
use Rattle.affc_basis.specs.Folds.{IsNeed}
use Rattle.affc_weigh.specs.declared.choice.Choice.{Choice}
use Rattle.affc_weigh.specs.declared.choice.Price.{Price}
use Rattle.affc_weigh.specs.declared.ratings.Rated.{Rated}

-- the choice of an array, if one is listed with it
abbrev pub choice_of : List (ArrayId × Choice) → (array : ℕ) → Option Choice
choice_of [] array = None
choice_of (c ∷ cs) array = if nat_eq c.0.0 array then Some c.1 else choice_of cs array

-- what each row needs over the context
pub record AreNeeds (InContext : List ℤ → Type 0) (pairs : List ℤ → List ℤ → List ℤ → Type 0) (rows : List Affine) (needs : List ℕ) : Type 0 where
  pub one_each : length needs ≡ length rows
  pub each : (k : ℕ) (row : Affine) (n : ℕ) → slice_get rows k ≡ Some row → slice_get needs k ≡ Some n → IsNeed InContext pairs rows k row n

-- ---- The greatest value of a modulus

abbrev pub is_zero : ℤ → Bool
is_zero c = int_eq c (pos 0)

-- a mark shows where it is; of a bound it is known where the modulus is a number
abbrev pub known_by : Affine → Mark → Bool
known_by form (Least p pair) = true
known_by form Bound = list_all is_zero form.coefs

abbrev pub is_known : Modulus → Bool
is_known m = known_by m.form m.mark

abbrev pub marked_by : Mark → Bool
marked_by (Least p pair) = true
marked_by Bound = false

abbrev pub is_marked : Modulus → Bool
is_marked m = marked_by m.mark

-- it is the value there, or the number
abbrev pub value_by : Affine → Mark → ℤ
value_by form (Least p pair) = value form p
value_by form Bound = form.constant

abbrev pub top : Modulus → ℕ
top m = unsigned_abs (value_by m.form m.mark)

abbrev pub HasPlace : Affine → Mark → Type 0
HasPlace form (Least p pair) = (length form.coefs ≡ length p) × (length p ≤ 128)
HasPlace form Bound = Unit {0}

abbrev pub are_known : List Modulus → Bool
are_known ms = list_all is_known ms

-- it can be computed
pub record HasTop (m : Modulus) : Type 0 where
  pub fits : FitsRow m.form
  pub place : HasPlace m.form m.mark
  pub near : top m ≤ 2 ^ 60

-- ---- Choices

-- what is told of a fold that was found for a basis; without a mark for each modulus its price isn't what the basis needs
abbrev pub price_of : Option Rated → Option Price
price_of None = None
price_of (Some r) = if r.marked then Some r.price else None

-- the first of those that cost least
pub record IsFirstLeast (found : List (Option Rated)) (number : ℕ) (one : Rated) : Type 0 where
  pub there : slice_get found number ≡ Some (Some one)
  pub least : (j : ℕ) (other : Rated) → slice_get found j ≡ Some (Some other) → one.price.cost ≤ other.price.cost
  pub first : (j : ℕ) (other : Rated) → j < number → slice_get found j ≡ Some (Some other) → one.price.cost < other.price.cost

-- the fold of that, with its cost, its number and all prices
pub record IsChosen (found : List (Option Rated)) (fold : Fold) (choice : Choice) : Type 0 where
  pub one : Rated
  pub is_first : IsFirstLeast found choice.number one
  pub its_fold : fold ≡ one.fold
  pub its_cost : choice.cost ≡ one.price.cost
  pub prices : choice.prices ≡ map price_of found

-- none was found
abbrev pub NoneFound : List (Option Rated) → Type 0
NoneFound found = (j : ℕ) (one : Rated) → slice_get found j ≡ Some (Some one) → ⊥

-- ---- Contexts

-- values of at most four parameters, within 2 ^ 24
pub record IsNearContext (InContext : List ℤ → Type 0) (parameters : ℕ) : Type 0 where
  pub few : parameters ≤ 4
  pub wide : (p : List ℤ) → InContext p → length p ≡ parameters
  pub near : (p : List ℤ) → InContext p → All (λ x. unsigned_abs x ≤ 2 ^ 24) p
