-- Leaves of rows whose sum is below 0 in the whole box.
use Rattle.std.proofs.Common.{◌≡◌, ℕ, ◌<◌, List, ◌++◌, length, pos, ◌<ℤ◌, Result, Ok, Err, Box, Global, Option, Some, None}
use Rattle.std.specs.Prelude.{IfOk, IfSome}
use Rattle.std.specs.declared.alloc.AllocError.{AllocError}
use Rattle.std.specs.List.{All}
use Rattle.affc_system.specs.Systems.{Rows, IsRow}
use Rattle.affc_farkas.specs.Multiples.{multiple_sum, AreMultipliers}
use Rattle.affc_farkas.specs.declared.proof.Proof.{Proof, Leaf, Cut', Split'}
use Rattle.affc_simplex.specs.declared.bounds.Bound.{Bound}
use Rattle.affc_leaf.specs.Bounds.{top_value}
use Rattle.affc_leaf.specs.Leaves.{corner_rows, SameSum, IsLeafBy}
use Rattle.affc_leaf.specs.Parts.{IsEmpty}
use Rattle.affc_leaf.proofs.Steps.{none_below}
use Rattle.affc_leaf.proofs.Corners.{leaf_valid}

-- the rows are there, and their sum is below 0 in the whole box
pub record IsBelow (system : Rows) (bs : List Bound) (by : List (ℕ × ℕ)) : Type 0 where
  pub width : length bs ≡ system.columns
  pub fit : All (IsRow system.columns) system.rows
  pub there : All (λ p. p.0 < length system.rows) by
  pub below : top_value (multiple_sum system.columns system.rows by) bs <ℤ pos 0

-- the multipliers are these rows and the corner of their sum
abbrev pub AreOf : Rows → List Bound → List (ℕ × ℕ) → List (ℕ × ℕ) → Type 0
AreOf system bs by m = SameSum m (by ++ corner_rows (multiple_sum system.columns system.rows by).coefs bs) × AreMultipliers m

pub leaf_empty : (system : Rows) (bs : List Bound) (next : ℕ) (by : List (ℕ × ℕ)) (p : Proof) → IsBelow system bs by → IsLeafBy (AreOf system bs by) p → IsEmpty system bs next p
leaf_empty system bs next by (Leaf m) b s = record {
  none = none_below system bs by b.width b.fit b.there b.below;
  valid = λ rs q. leaf_valid system rs next bs by m q b.width b.fit b.there b.below s.1 s.0;
  plain = tt;
}
leaf_empty system bs next by (Cut' m g row p rest) b s = absurd s
leaf_empty system bs next by (Split' form at p low q high) b s = absurd s

pub leaf_answer : (system : Rows) (bs : List Bound) (next : ℕ) (by : List (ℕ × ℕ)) (r : Result (Option (Box Proof Global)) AllocError) → IsBelow system bs by
    → IfOk r (λ o. IfSome o (λ p. IsLeafBy (AreOf system bs by) p.value)) → IfOk r (λ o. IfSome o (λ p. IsEmpty system bs next p.value))
leaf_answer system bs next by (Err e) b s = tt
leaf_answer system bs next by (Ok None) b s = tt
leaf_answer system bs next by (Ok (Some p)) b s = leaf_empty system bs next by p.value b s
