-- What the proofs take of boxes round a program's instances, of the ranges of times, and of their size.
use Rattle.std.proofs.Common.{◌≡◌, ℕ, ◌^◌, ◌<◌, ℤ, List, ◌++◌, length, Option, Some, sym}
use Rattle.std.specs.Prelude.{slice_get}
use Rattle.std.specs.List.{All}
use Rattle.affc_rows.specs.Forms.{magnitude}
use Rattle.affc_system.specs.Boxes.{InBox}
use Rattle.affc_ast.specs.declared.tree.Instance.{Instance}
use Rattle.affc_ast.specs.declared.tree.Program.{Program}
use Rattle.affc_ast.specs.Trace.{trace}
use Rattle.affc_trace.specs.declared.schedule.TimeMap.{TimeMap}
use Rattle.affc_trace.specs.Law.{IsIn}
use Rattle.affc_domain.specs.Rounds.{Round, rounds}
use Rattle.affc_domain.proofs.RangeLemmas.{box_length as as_long}
use Rattle.affc_loops.specs.Limits.{IsSmall}
use Rattle.affc_loops.specs.Loops.{loop_names}

-- The instances at p lie in these boxes, one for each statement that can have instances.
abbrev pub Encloses : Program → (boxes : List (Option (List (ℤ × ℤ)))) → (p : List ℤ) → Type 0
Encloses program boxes p =
    (a : Instance) → IsIn a (trace program p) → (box : List (ℤ × ℤ)) × (slice_get boxes a.statement ≡ Some (Some box)) × InBox box a.iterators

-- The ranges are small, and at each point of a box the terms of the times, and at each time those of the inverse, sum to less than 2^63.
pub record Small (program : Program) (maps : List TimeMap) (boxes : List (Option (List (ℤ × ℤ)))) (ranges : List (ℤ × ℤ)) (p : List ℤ) : Type 0 where
  pub ranges_small : All IsSmall ranges
  pub boxes_small : (k : ℕ) (box : List (ℤ × ℤ)) → slice_get boxes k ≡ Some (Some box) → All IsSmall box
  pub one_each : (k : ℕ) (box : List (ℤ × ℤ)) (rs : List Round) → slice_get boxes k ≡ Some (Some box) → slice_get (rounds program) k ≡ Some rs → length box ≡ length (loop_names rs)
  pub times_small : (k : ℕ) (box : List (ℤ × ℤ)) (m : TimeMap) → slice_get boxes k ≡ Some (Some box) → slice_get maps k ≡ Some m
      → (xs : List ℤ) → InBox box xs → All (λ f. magnitude f (p ++ xs) < 2 ^ 63) m.forms
  pub inverse_small : (k : ℕ) (box : List (ℤ × ℤ)) (m : TimeMap) → slice_get boxes k ≡ Some (Some box) → slice_get maps k ≡ Some m
      → (t : List ℤ) → InBox ranges t → All (λ g. magnitude g (p ++ t) < 2 ^ 63) m.inverse

pub box_length : (rs : List (ℤ × ℤ)) (xs : List ℤ) → InBox rs xs → length xs ≡ length rs
box_length rs xs b = sym (as_long rs xs b)
