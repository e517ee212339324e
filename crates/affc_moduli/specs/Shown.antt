-- The pair of a mark: which is sought, and its order.
use Rattle.std.specs.Prelude.{◌≡◌, ◌⊎◌, ◌^◌, ◌≤◌, ℤ, pos, ◌≤ℤ◌, unsigned_abs, List, Option, Some, None, IfSome, IfNone}
use Rattle.affc_rows.specs.Forms.{Affine, value}
use Rattle.affc_system.specs.declared.pairs.PairSystem.{PairSystem}
use Rattle.affc_split.specs.maximum.Regions.{InRegion}
use Rattle.affc_split.specs.declared.maximum.region.Region.{Region}
use Rattle.affc_split.specs.declared.maximum.several.Found.{Found}
use Rattle.affc_conflicts.specs.differences.Differences.{apart}
use Rattle.affc_basis.specs.declared.fold.Modulus.{Modulus}
use Rattle.affc_basis.specs.declared.fold.Mark.{Mark}
use Rattle.affc_basis.specs.declared.fold.Mark.TheVariants.{Least, Bound}
use Rattle.affc_moduli.specs.declared.extremes.Candidate.{Candidate}
use Rattle.affc_moduli.specs.declared.extremes.Sought.{Sought}
use Rattle.affc_moduli.specs.Distances.{IsApartAt}

-- the form's value is, without its sign, how far apart the elements of the system lie
abbrev pub IsDistance : List ℤ → PairSystem → Region → Affine → Type 0
IsDistance cs s r f = (z : List ℤ) → InRegion r z → unsigned_abs (value f z) ≡ unsigned_abs (apart cs s.x.items s.y.items z)

-- two elements that lie so far apart
pub record IsTie (systems : List PairSystem) (regions : List Region) (cs : List ℤ) (level : ℤ) (found : Found) : Type 0 where
  pub value : found.value ≡ level
  pub positive : pos 1 ≤ℤ level
  pub apart : IsApartAt systems regions cs found.number found.point.items (unsigned_abs level)

-- the greatest distance so far, which some elements have unless it is the start
pub record IsSought (systems : List PairSystem) (regions : List Region) (cs : List ℤ) (start : ℤ) (sought : Sought) : Type 0 where
  pub natural : pos 0 ≤ℤ sought.level
  pub near : unsigned_abs sought.level ≤ 2 ^ 55
  pub best : IfSome sought.best (λ c. IsTie systems regions cs sought.level c.found)
  pub none : IfNone sought.best (sought.level ≡ start)

-- either what was known, which has the candidate's distance, or the candidate
abbrev pub IsJoined : Sought → Candidate → Sought → Type 0
IsJoined sought candidate after = ((after ≡ sought) × (candidate.found.value ≡ sought.level)) ⊎ ((after.level ≡ candidate.found.value) × (after.best ≡ Some candidate))

-- two elements in the other order
abbrev pub swapped : Option (List ℤ × List ℤ) → Option (List ℤ × List ℤ)
swapped (Some pair) = Some (pair.1, pair.0)
swapped None = None

-- the same mark with its two elements in the other order
abbrev pub other_way : Mark → Mark
other_way (Least p pair) = Least p (swapped pair)
other_way Bound = Bound

-- the same modulus, or with its two elements in the other order
abbrev pub IsEitherWay : Modulus → Modulus → Type 0
IsEitherWay old new = (new ≡ old) ⊎ ((new.form ≡ old.form) × (new.mark ≡ other_way old.mark))
