-- What a modulus has to be at p, and the lattice of a list of rows and moduli (Darte, Schreiber and Villard 2005).
use Rattle.std.specs.Prelude.{◌≡◌, ℕ, ◌^◌, ◌≤◌, unsigned_abs, ℤ, pos, ◌*ℤ◌, ◌≤ℤ◌, ◌<ℤ◌, List, [], ◌∷◌, length, slice_get, Some}
use Rattle.std.specs.Int.{int_rem_euclid}
use Rattle.affc_rows.specs.Forms.{Affine, dot, value}
use Rattle.affc_rows.specs.Sizes.{IsWithin}
use Rattle.affc_basis.specs.Bases.{AreWithin}
use Rattle.affc_basis.specs.Slices.{along, minus, InSlice}

-- each modulus is at least 1 at p
abbrev pub ArePositive : (p : List ℤ) → List Affine → Type 0
ArePositive p moduli = (k : ℕ) (b : Affine) → slice_get moduli k ≡ Some b → pos 1 ≤ℤ value b p

-- the remainder along each row, from 0 to its modulus less 1 where the modulus is at least 1
abbrev pub remainders : (p : List ℤ) → List Affine → List Affine → List ℤ → List ℤ
remainders p [] moduli x = []
remainders p (row ∷ rows) [] x = []
remainders p (row ∷ rows) (b ∷ bs) x = int_rem_euclid (dot row.coefs x) (value b p) ∷ remainders p rows bs x

-- n is a multiple of b
abbrev pub IsMultiple : ℤ → ℤ → Type 0
IsMultiple b n = (q : ℤ) × (n ≡ q *ℤ b)

-- a difference in the lattice: each modulus divides it along its row
abbrev pub InLattice : (p : List ℤ) → List Affine → List Affine → List ℤ → Type 0
InLattice p rows moduli d =
    (k : ℕ) (row b : Affine) → slice_get rows k ≡ Some row → slice_get moduli k ≡ Some b → IsMultiple (value b p) (dot row.coefs d)

-- the moduli are at least 1, and no difference of a pair is in the lattice
pub record Separates (pairs : List ℤ → List ℤ → Type 0) (p : List ℤ) (rows moduli : List Affine) : Type 0 where
  pub positive : ArePositive p moduli
  pub apart : (x y : List ℤ) → pairs x y → ¬ (InLattice p rows moduli (minus x y))

-- each modulus is at least 1, and greater than each distance along its row in its slice
abbrev pub Exceeds : (pairs : List ℤ → List ℤ → Type 0) (p : List ℤ) → List Affine → List Affine → Type 0
Exceeds pairs p rows moduli =
    (k : ℕ) (row b : Affine) → slice_get rows k ≡ Some row → slice_get moduli k ≡ Some b →
    (pos 1 ≤ℤ value b p) × ((x y : List ℤ) → InSlice pairs rows k x y → pos (along row x y) <ℤ value b p)

-- a form that may be a modulus at p: within its limits, and from 1 to 2^60 there
pub record IsModulusAt (p : List ℤ) (b : Affine) : Type 0 where
  pub parameters : length p ≡ length b.coefs
  pub few : length b.coefs ≤ 4
  pub coefs : AreWithin (2 ^ 30) b.coefs
  pub constant : unsigned_abs b.constant ≤ 2 ^ 55
  pub low : pos 1 ≤ℤ value b p
  pub high : value b p ≤ℤ pos (2 ^ 60)

-- a modulus over so many parameters, within its limits
abbrev pub IsModulus : (parameters : ℕ) → Affine → Type 0
IsModulus parameters = IsWithin parameters (2 ^ 30) (2 ^ 55)
