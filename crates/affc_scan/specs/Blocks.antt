-- What the block of a statement is made from.
use Rattle.std.specs.Prelude.{◌≡◌, ℕ, ◌+◌, ◌≤◌, ℤ, true, List, [], ◌∷◌, length}
use Rattle.std.specs.List.{All}
use Rattle.affc_rows.specs.Forms.{Affine}
use Rattle.affc_ast.specs.declared.tree.Stmt.{Stmt}
use Rattle.affc_ast.specs.Trace.{Assignment}
use Rattle.affc_trace.specs.declared.schedule.TimeMap.{TimeMap}
use Rattle.affc_domain.specs.Rounds.{Round, loops_in}
use Rattle.affc_nest.specs.Sites.{Place}
use Rattle.affc_loops.specs.Limits.{IsSlight, IsSmall}
use Rattle.affc_loops.specs.Loops.{Scheduled, box_tests, time_tests, if_any, guarded, moved_assign}
use Rattle.affc_scan.specs.InSight.{rounds_in_sight, IsInSight}

-- an assignment and what stands round it, with its times and the ranges of its iterators
abbrev pub scheduled_of : (statement : ℕ) → Place → TimeMap → (ranges : List (ℤ × ℤ)) → Scheduled
scheduled_of statement p m ranges = record { statement = statement; around = p.around; assignment = p.assignment; times = m; ranges = ranges }

-- the assignment under all tests
abbrev pub tested_body : (first more : ℕ) → List Round → Assignment → (ranges : List (ℤ × ℤ)) → (forms : List Affine) → List Stmt
tested_body first more around a ranges forms =
    if_any (box_tests (first + more) ranges) (if_any (time_tests first (first + more) first forms) (guarded first more (first + more) around (moved_assign first more a ∷ [])))

-- forms over these columns and maybe more, 64 at most
abbrev pub HaveFew : (first : ℕ) → List Affine → Type 0
HaveFew first fs = All (λ f. (first ≤ length f.coefs) × (length f.coefs ≤ 64)) fs

-- sizes within which a block is made, where so many parameters are in sight
pub record IsPrintable (first : ℕ) (e : Scheduled) : Type 0 where
  pub around : rounds_in_sight e.around ≡ true
  pub few_loops : loops_in e.around ≤ 6
  pub assignment : IsInSight e.assignment
  pub ranges : All IsSmall e.ranges
  pub few_ranges : length e.ranges ≤ 6
  pub slight : All IsSlight e.times.forms
  pub columns : HaveFew first e.times.forms
  pub few_forms : length e.times.forms ≤ 12
  pub inverse_slight : All IsSlight e.times.inverse
  pub inverse_columns : HaveFew first e.times.inverse
