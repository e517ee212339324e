-- What the code's answer says by the interval rule.
use Rattle.std.specs.Prelude.{◌≡◌, ℕ, ◌+◌, ℤ, List, ◌++◌}
use Rattle.affc_domain.specs.Ranges.{Within, Never, Wide, ranges_of}
use Rattle.affc_domain.specs.Rounds.{Round}
use Rattle.affc_nest.specs.declared.ranges.Fit.{Fit}
use Rattle.affc_nest.specs.declared.ranges.Fit.TheVariants.{Near, Missed, Far}

-- under these ranges and so many loops outside; `own` has become `made`
abbrev pub FitSays : Fit → (outer : List (ℤ × ℤ)) → List Round → (own made : List (ℤ × ℤ)) → (depth : ℕ) → Type 0
FitSays Near outer rs own made depth = (ranges : List (ℤ × ℤ)) × (ranges_of outer rs ≡ Within ranges) × (made ≡ own ++ ranges)
FitSays Missed outer rs own made depth = ranges_of outer rs ≡ Never
FitSays (Far n) outer rs own made depth = (k : ℕ) × (ranges_of outer rs ≡ Wide k) × (n ≡ depth + k)
