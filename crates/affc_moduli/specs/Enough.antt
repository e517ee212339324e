-- Moduli that are proposed, and tested.
use Rattle.std.specs.Prelude.{◌≡◌, ℕ, ◌^◌, ◌<◌, ◌≤◌, ℤ, pos, unsigned_abs, ◌<ℤ◌, ◌≤ℤ◌, List, length, take, slice_get, Some}
use Rattle.std.specs.List.{All}
use Rattle.affc_rows.specs.Forms.{Affine, value}
use Rattle.affc_basis.specs.Moduli.{IsModulus}
use Rattle.affc_split.specs.maximum.Regions.{InRegion, IsBounded}
use Rattle.affc_split.specs.declared.maximum.region.Region.{Region}

-- at each point of the region the form is below the modulus at the point's first numbers
abbrev pub IsBelow : Region → Affine → Affine → Type 0
IsBelow region form modulus = (z : List ℤ) → InRegion region z → value form z <ℤ value modulus (take (length modulus.coefs) z)

-- each form in its region
abbrev pub AreBelow : List Region → List Affine → Affine → Type 0
AreBelow regions fs modulus = (i : ℕ) (r : Region) (f : Affine) → slice_get regions i ≡ Some r → slice_get fs i ≡ Some f → IsBelow r f modulus

-- the form may be compared with a modulus over so many parameters
pub record IsComparable (parameters : ℕ) (region : Region) (form : Affine) : Type 0 where
  pub width : length form.coefs ≡ region.system.columns
  pub coefs : All (λ c. unsigned_abs c ≤ 2 ^ 27) form.coefs
  pub constant : unsigned_abs form.constant ≤ 2 ^ 35
  pub within : parameters ≤ region.system.columns
  pub room : length region.system.rows < 1024

abbrev pub AreComparable : (parameters : ℕ) → List Region → List Affine → Type 0
AreComparable parameters regions fs = (i : ℕ) (r : Region) (f : Affine) → slice_get regions i ≡ Some r → slice_get fs i ≡ Some f → IsComparable parameters r f

-- below in the first n regions
abbrev pub AreBelowBefore : ℕ → List Region → List Affine → Affine → Type 0
AreBelowBefore n regions fs modulus = (i : ℕ) (r : Region) (f : Affine) → i < n → slice_get regions i ≡ Some r → slice_get fs i ≡ Some f → IsBelow r f modulus

-- a proposed modulus that passes its tests: at least 1 and at most the need throughout the context, and above each form in its region
pub record IsSuitable (context : Region) (regions : List Region) (fs gs : List Affine) (modulus : Affine) (need : ℤ) : Type 0 where
  pub limits : IsModulus context.system.columns modulus
  pub positive : (p : List ℤ) → InRegion context p → pos 1 ≤ℤ value modulus p
  pub most : IsBounded context modulus need
  pub forward : AreBelow regions fs modulus
  pub backward : AreBelow regions gs modulus
