-- Rows of which none is implied by another as far as a test says, and one row more.
use Rattle.std.specs.Prelude.{◌≡◌, ◌≢◌, ◌⊎◌, ◌+◌, ◌≤◌, Bool, false, List, length, ℤ, pos, ◌≤ℤ◌}
use Rattle.std.specs.List.{All, Contains}
use Rattle.affc_rows.specs.Forms.{Affine}
use Rattle.affc_farkas.specs.Rational.{scaled_value}
use Rattle.affc_eliminate.specs.Points.{HoldAt, Implies, IsTrivial}
use Rattle.affc_eliminate.specs.Mixtures.{forms_of}
use Rattle.affc_eliminate.specs.Steps.{EachTwo}
use Rattle.affc_eliminate.specs.declared.kept.Kept.{Kept}

-- the test answers false on each two of the rows, and their numbers differ
abbrev pub AreApart : (Affine → Affine → Bool → Type 0) → List Kept → Type 0
AreApart Answers rows = EachTwo (λ k q. Answers k.row q.row false × (k.number ≢ q.number)) rows

-- the rows that the row doesn't imply as far as the test says
pub record AreSieved (Answers : Affine → Affine → Bool → Type 0) (others : List Kept) (row : Affine) (left : List Kept) : Type 0 where
  pub among : All (Contains others) left
  pub answered : All (λ k. Answers row k.row false) left
  pub covered : All (λ k. Contains left k ⊎ Implies row k.row) others
  pub apart : AreApart Answers others → AreApart Answers left
  pub few : length left ≤ length others

-- the rows with one more, unless it is implied
pub record AreAdmitted (Answers : Affine → Affine → Bool → Type 0) (others : List Kept) (kept : Kept) (new : List Kept) : Type 0 where
  pub among : All (λ k. Contains others k ⊎ (k ≡ kept)) new
  pub met : (x : List ℤ) (d : ℤ) → length x ≡ length kept.row.coefs → pos 1 ≤ℤ d → HoldAt x d (forms_of new) → HoldAt x d (forms_of others) × (pos 0 ≤ℤ scaled_value kept.row x d)
  pub apart : AreApart Answers others → All (λ k. k.number ≢ kept.number) others → AreApart Answers new
  pub not_trivial : All (λ k. IsTrivial k.row → ⊥) others → All (λ k. IsTrivial k.row → ⊥) new
  pub few : length new ≤ length others + 1
