-- Names and components that are few.
use Rattle.std.specs.Prelude.{◌≤◌, length}
use Rattle.affc_schedtext.specs.declared.scope.Scope.{Scope}
use Rattle.affc_schedtext.specs.declared.scope.Scope.TheVariants as s

-- the names are as few as those of a plain program, and the components as a length allows
abbrev pub AreFew : Scope → Type 0
AreFew s.Any = Unit {0}
AreFew (s.Time parameters iterators) = (length parameters.now ≤ 4) × (length iterators.now ≤ 6)
AreFew (s.Inverse parameters n) = (length parameters.now ≤ 4) × (n ≤ 12)
AreFew (s.Row n) = n ≤ 4
AreFew (s.Back n) = n ≤ 4
