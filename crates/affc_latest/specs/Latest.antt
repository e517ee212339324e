-- The latest of some instances.
use Rattle.std.specs.Prelude.{◌≡◌, ◌⊎◌, List, Option, Some, None}
use Rattle.affc_trace.specs.Orders.{Earlier}

-- the latest in the list of those of which P holds, or that P holds of none
abbrev pub IsLatest : {I : Type 0} → List I → (I → Type 0) → Option I → Type 0
IsLatest {I} trace P None = (v : I) → P v → ⊥
IsLatest {I} trace P (Some w) = P w × ((v : I) → P v → (v ≡ w) ⊎ Earlier trace v w)
