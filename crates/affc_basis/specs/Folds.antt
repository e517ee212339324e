-- Folds: where an element is put, when a fold is admissible, and what its marks say.
use Rattle.std.specs.Prelude.{◌≡◌, ℕ, ◌+◌, ◌<◌, ◌≤◌, ℤ, pos, ◌≤ℤ◌, ◌<ℤ◌, nat_eq, if◌then◌else◌, List, [], ◌∷◌, map, Option, Some, None, ◌⊎◌}
use Rattle.std.specs.List.{All}
use Rattle.affc_rows.specs.Forms.{Affine, value}
use Rattle.affc_ast.specs.declared.tree.ArrayId.{ArrayId}
use Rattle.affc_ast.specs.Store.{Element}
use Rattle.affc_basis.specs.declared.fold.Mark.{Mark}
use Rattle.affc_basis.specs.declared.fold.Mark.TheVariants.{Least, Bound}
use Rattle.affc_basis.specs.declared.fold.Modulus.{Modulus}
use Rattle.affc_basis.specs.declared.fold.Fold.{Fold}
use Rattle.affc_basis.specs.Slices.{along, InSlice, IsGreatest}
use Rattle.affc_basis.specs.Moduli.{remainders, InLattice, Separates, Exceeds, IsModulus}

abbrev pub forms_of : List Modulus → List Affine
forms_of moduli = map (λ m. m.form) moduli

-- ---- One fold

-- the place of an element's subscripts
abbrev pub folded : Fold → (p : List ℤ) → List ℤ → List ℤ
folded fold p x = remainders p fold.basis.rows (forms_of fold.moduli) x

-- two elements whose difference is this have one place
abbrev pub Lattice : Fold → (p : List ℤ) → List ℤ → Type 0
Lattice fold p d = InLattice p fold.basis.rows (forms_of fold.moduli) d

-- At p, and for these pairs, no two elements of a pair have one place: an admissible lattice of Darte, Schreiber and Villard (2005).
abbrev pub IsAdmissible : (pairs : List ℤ → List ℤ → Type 0) → Fold → (p : List ℤ) → Type 0
IsAdmissible pairs fold p = Separates pairs p fold.basis.rows (forms_of fold.moduli)

-- each modulus exceeds what its row needs at p
abbrev pub Obeys : (pairs : List ℤ → List ℤ → Type 0) → Fold → (p : List ℤ) → Type 0
Obeys pairs fold p = Exceeds pairs p fold.basis.rows (forms_of fold.moduli)

-- its moduli are over so many parameters, within their limits
abbrev pub KeepsLimits : (parameters : ℕ) → Fold → Type 0
KeepsLimits parameters fold = All (IsModulus parameters) (forms_of fold.moduli)

-- ---- What a row needs

-- the least number that is at least 1 and, at each p of the context, greater than each distance along row k in its slice
pub record IsNeed (InContext : List ℤ → Type 0) (pairs : List ℤ → List ℤ → List ℤ → Type 0) (rows : List Affine) (k : ℕ) (row : Affine) (n : ℕ) : Type 0 where
  pub positive : 1 ≤ n
  pub exceeds : (p : List ℤ) → InContext p → (x y : List ℤ) → InSlice (pairs p) rows k x y → along row x y < n
  pub least : (n ≡ 1) ⊎ ((p : List ℤ) × InContext p × (x : List ℤ) × (y : List ℤ) × InSlice (pairs p) rows k x y × (along row x y + 1 ≡ n))

-- a modulus that is enough for the row: at each p of the context it is at least 1, and greater than each distance in the slice
abbrev pub IsEnough : (InContext : List ℤ → Type 0) (pairs : List ℤ → List ℤ → List ℤ → Type 0) → List Affine → (k : ℕ) → (row modulus : Affine) → Type 0
IsEnough InContext pairs rows k row modulus =
    (p : List ℤ) → InContext p → (pos 1 ≤ℤ value modulus p) × ((x y : List ℤ) → InSlice (pairs p) rows k x y → pos (along row x y) <ℤ value modulus p)

-- the pair of a mark, at the p of the mark: it has the greatest distance of the slice, and stands there unless this is 0
abbrev pub AttainsBy : (pairs : List ℤ → List ℤ → Type 0) → List Affine → (k : ℕ) → (row : Affine) → Option (List ℤ × List ℤ) → (greatest : ℕ) → Type 0
AttainsBy pairs rows k row None greatest = greatest ≡ 0
AttainsBy pairs rows k row (Some pair) greatest = InSlice pairs rows k pair.0 pair.1 × (along row pair.0 pair.1 ≡ greatest) × (1 ≤ greatest)

-- a modulus that is shown to be least: it is nowhere in the context greater than at p, and there it is 1 more than the greatest distance
pub record IsLeastMark (InContext : List ℤ → Type 0) (pairs : List ℤ → List ℤ → List ℤ → Type 0) (rows : List Affine) (k : ℕ) (row modulus : Affine) (p : List ℤ) (pair : Option (List ℤ × List ℤ)) : Type 0 where
  pub in_context : InContext p
  pub highest : (q : List ℤ) → InContext q → value modulus q ≤ℤ value modulus p
  pub greatest : ℕ
  pub is_greatest : IsGreatest (pairs p) rows k row greatest
  pub value_there : value modulus p ≡ pos (greatest + 1)
  pub attains : AttainsBy (pairs p) rows k row pair greatest

-- what a mark says of its modulus; that it is a bound says nothing
abbrev pub IsTrueOf : (InContext : List ℤ → Type 0) (pairs : List ℤ → List ℤ → List ℤ → Type 0) → List Affine → (k : ℕ) → (row modulus : Affine) → Mark → Type 0
IsTrueOf InContext pairs rows k row modulus (Least p pair) = IsLeastMark InContext pairs rows k row modulus p pair
IsTrueOf InContext pairs rows k row modulus Bound = Unit {0}

-- the mark of a row's modulus is true
abbrev pub IsTrueMark : (InContext : List ℤ → Type 0) (pairs : List ℤ → List ℤ → List ℤ → Type 0) → List Affine → (k : ℕ) → (row : Affine) → Modulus → Type 0
IsTrueMark InContext pairs rows k row m = IsTrueOf InContext pairs rows k row m.form m.mark

-- ---- Stored cost

-- the greatest value of a modulus over the context
pub record IsGreatestValue (InContext : List ℤ → Type 0) (modulus : Affine) (n : ℕ) : Type 0 where
  pub most : (p : List ℤ) → InContext p → value modulus p ≤ℤ pos n
  pub attained : (p : List ℤ) × InContext p × (value modulus p ≡ pos n)

abbrev pub AreGreatestValues : (InContext : List ℤ → Type 0) → List Affine → List ℕ → Type 0
AreGreatestValues InContext [] [] = Unit {0}
AreGreatestValues InContext (b ∷ bs) (n ∷ ns) = IsGreatestValue InContext b n × AreGreatestValues InContext bs ns
AreGreatestValues InContext _ _ = ⊥

-- the cost of a fold is the stored cost of its moduli's greatest values
pub record IsCost (stored : List ℕ → ℕ) (InContext : List ℤ → Type 0) (fold : Fold) (cost : ℕ) : Type 0 where
  pub values : List ℕ
  pub are_greatest : AreGreatestValues InContext (forms_of fold.moduli) values
  pub is_stored : cost ≡ stored values

-- ---- A list of folds

-- the fold of an array, if it has one
abbrev pub fold_of : List (ArrayId × Fold) → (array : ℕ) → Option Fold
fold_of [] array = None
fold_of (f ∷ fs) array = if nat_eq f.0.0 array then Some f.1 else fold_of fs array

abbrev pub folded_by : Option Fold → (p : List ℤ) → List ℤ → List ℤ
folded_by None p x = x
folded_by (Some fold) p x = folded fold p x

-- the place of an element; an array without a fold keeps its elements where they are
abbrev pub place : List (ArrayId × Fold) → (p : List ℤ) → Element → Element
place folds p x = (x.0, folded_by (fold_of folds x.0) p x.1)
