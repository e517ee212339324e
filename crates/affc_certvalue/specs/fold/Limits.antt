-- Folds within the limits of a certificate's.
use Rattle.affc_certvalue.specs.fold.Entries.{FoldEntry}
use Rattle.affc_certvalue.specs.declared.fold.fold.CertLeast.{CertLeast}
use Rattle.affc_certvalue.specs.declared.fold.fold.CertModulus.{CertModulus}
use Rattle.affc_certvalue.specs.declared.fold.layout.Temporary.{Temporary}
use Rattle.affc_certvalue.specs.Limits.{IsWord, AreSmall, IsSmall}
use Rattle.std.specs.List.{All}
use Rattle.std.specs.Prelude.{◌≡◌, ℕ, ◌^◌, ℤ, pos, List, length, Option, Some, None}

abbrev pub IsPairWithin : Option (ℤ × List ℤ) → Type 0
IsPairWithin None = Unit {0}
IsPairWithin (Some pair) = IsWord pair.0 × All IsWord pair.1

-- a value for each parameter, and the number of a clash system with a point, or neither
pub record IsLeastWithin (parameters : ℕ) (least : CertLeast) : Type 0 where
  pub each : length least.p ≡ parameters
  pub words : All IsWord least.p
  pub pair : IsPairWithin least.pair

abbrev pub IsMarkWithin : (parameters : ℕ) → Option CertLeast → Type 0
IsMarkWithin parameters None = Unit {0}
IsMarkWithin parameters (Some least) = IsLeastWithin parameters least

-- a form over the parameters within the limits of a modulus's
pub record IsModulusWithin (parameters : ℕ) (modulus : CertModulus) : Type 0 where
  pub columns : length modulus.form.coefs ≡ parameters
  pub small : IsSmall (2 ^ 30) (2 ^ 55) modulus.form
  pub mark : IsMarkWithin parameters modulus.least

pub record IsRowWithin (n : ℕ) (row : List ℤ) : Type 0 where
  pub each : length row ≡ n
  pub small : AreSmall 256 row

-- as many rows of as many numbers within 256
pub record IsMatrixWithin (n : ℕ) (rows : List (List ℤ)) : Type 0 where
  pub each : length rows ≡ n
  pub all : All (IsRowWithin n) rows

-- the fold of this temporary: rows, inverse forms and moduli, one for each dimension
pub record IsFoldWithin (parameters : ℕ) (temporary : Temporary) (fold : FoldEntry) : Type 0 where
  pub array : fold.array ≡ temporary.array
  pub number : IsWord (pos fold.array)
  pub rows : IsMatrixWithin temporary.dimensions fold.rows
  pub inverse : IsMatrixWithin temporary.dimensions fold.inverse
  pub each : length fold.moduli ≡ temporary.dimensions
  pub moduli : All (IsModulusWithin parameters) fold.moduli
