-- What the answers of the elimination of all columns say.
use Rattle.std.specs.Prelude.{◌≡◌, ℕ, List, length}
use Rattle.affc_rows.specs.Forms.{Affine}
use Rattle.affc_farkas.specs.Proofs.{IsLeaf}
use Rattle.affc_farkas.specs.Rational.{RationalPoint}
use Rattle.affc_farkas.specs.Eliminations.{IsElimination}
use Rattle.affc_eliminate.specs.project.Projections.{IsTooWide}
use Rattle.affc_eliminate.specs.declared.project.refutation.Refutation.{Refutation}
use Rattle.affc_eliminate.specs.declared.project.refutation.Refutation.TheVariants.{Refuted, Stands, TooMany, TooWide}

-- the multipliers are a leaf; or a rational point meets every row; or the pairs show that a limit was reached
abbrev pub IsAnswer : ℕ → List Affine → Refutation → Type 0
IsAnswer columns rows (Refuted by) = IsLeaf columns rows by
IsAnswer columns rows Stands = RationalPoint columns rows
IsAnswer columns rows (TooMany made) = IsElimination columns rows made.items × (length made.items ≡ 4096)
IsAnswer columns rows (TooWide made next) = IsTooWide columns rows made.items next
