-- Each example computes.
use Rattle.std.proofs.Common.{◌≡◌, ◌↔◌, Bool, true, false, true≢false, IsTrue, refl, sym, ◌∙◌, ℤ, List}
use denote.Hole.Carrier.{hidden}
use Rattle.affc_ast.specs.declared.tree.Ix.TheBlock.{shape-the_row-Ix-0, hidden-the_row-Ix-0}
use Rattle.affc_ast.specs.declared.tree.Val.TheBlock.{shape-the_row-Val-0, hidden-the_row-Val-0}
use Rattle.affc_ast.specs.declared.tree.Cond.TheBlock.{shape-the_row-Cond-0, hidden-the_row-Cond-0}
use Rattle.affc_ast.specs.declared.tree.Stmt.TheBlock.{shape-the_row-Stmt-0, hidden-the_row-Stmt-0}
use Rattle.affc_ast.specs.declared.tree.Program.{Program}
use Rattle.affc_trace.specs.Examples.{blur}
use Rattle.affc_safe.specs.Examples.{at, with_another, with_plane, storing_past, loading_before, storing_late, adding_to, copying, loading_nothing, BlurIsSafe, EmptyOutputIsNot, UntouchedArrayCounts, LaterExtentCounts, StoreLiesOutside, LoadLiesOutside, StoreComesLate, OwnLoadCounts, WithoutTemporaries}
use Rattle.affc_safe.specs.Safe.{HasExtents, KeepsWithin, LoadsWritten, IsSafe, extents_hold, accesses_hold, loads_hold}
use Rattle.affc_safe.proofs.Reasons.{reasons_are_found}

fails : {A : Type 0} (b : Bool) → A ↔ IsTrue b → b ≡ false → ¬ A
fails b d e a = true≢false (sym (d.0 a) ∙ e)

module _ (program : Program) (p : List ℤ) where
  extents : extents_hold program p ≡ true → HasExtents program p
  extents e = (reasons_are_found program p).0.1 e

  within : accesses_hold program p ≡ true → KeepsWithin program p
  within e = (reasons_are_found program p).1.1 e

  written : loads_hold program p ≡ true → LoadsWritten program p
  written e = (reasons_are_found program p).2.1 e

  safe : extents_hold program p ≡ true → accesses_hold program p ≡ true → loads_hold program p ≡ true → IsSafe program p
  safe e f g = record { extents = extents e; within = within f; written = written g }

  small : extents_hold program p ≡ false → ¬ (HasExtents program p)
  small e = fails (extents_hold program p) (reasons_are_found program p).0 e

  outside : accesses_hold program p ≡ false → ¬ (KeepsWithin program p)
  outside e = fails (accesses_hold program p) (reasons_are_found program p).1 e

  unwritten : loads_hold program p ≡ false → ¬ (LoadsWritten program p)
  unwritten e = fails (loads_hold program p) (reasons_are_found program p).2 e

pub blur_is_safe : BlurIsSafe
unfolding shape-the_row-Ix-0 hidden-the_row-Ix-0 shape-the_row-Val-0 hidden-the_row-Val-0 shape-the_row-Stmt-0 hidden-the_row-Stmt-0 shape-the_row-Cond-0 hidden-the_row-Cond-0 hidden
blur_is_safe = (safe blur (at 2) refl refl refl, safe blur (at 1) refl refl refl)

pub empty_output_is_not : EmptyOutputIsNot
unfolding shape-the_row-Ix-0 hidden-the_row-Ix-0 shape-the_row-Val-0 hidden-the_row-Val-0 shape-the_row-Stmt-0 hidden-the_row-Stmt-0 shape-the_row-Cond-0 hidden-the_row-Cond-0 hidden
empty_output_is_not = (small blur (at 0) refl, within blur (at 0) refl, written blur (at 0) refl)

pub untouched_array_counts : UntouchedArrayCounts
unfolding shape-the_row-Ix-0 hidden-the_row-Ix-0 shape-the_row-Val-0 hidden-the_row-Val-0 shape-the_row-Stmt-0 hidden-the_row-Stmt-0 shape-the_row-Cond-0 hidden-the_row-Cond-0 hidden
untouched_array_counts = (small with_another (at 2) refl, within with_another (at 2) refl, written with_another (at 2) refl, safe with_another (at 3) refl refl refl)

pub later_extent_counts : LaterExtentCounts
unfolding shape-the_row-Ix-0 hidden-the_row-Ix-0 shape-the_row-Val-0 hidden-the_row-Val-0 shape-the_row-Stmt-0 hidden-the_row-Stmt-0 shape-the_row-Cond-0 hidden-the_row-Cond-0 hidden
later_extent_counts = small with_plane (at 2) refl

pub store_lies_outside : StoreLiesOutside
unfolding shape-the_row-Ix-0 hidden-the_row-Ix-0 shape-the_row-Val-0 hidden-the_row-Val-0 shape-the_row-Stmt-0 hidden-the_row-Stmt-0 shape-the_row-Cond-0 hidden-the_row-Cond-0 hidden
store_lies_outside = (extents storing_past (at 2) refl, outside storing_past (at 2) refl, written storing_past (at 2) refl)

pub load_lies_outside : LoadLiesOutside
unfolding shape-the_row-Ix-0 hidden-the_row-Ix-0 shape-the_row-Val-0 hidden-the_row-Val-0 shape-the_row-Stmt-0 hidden-the_row-Stmt-0 shape-the_row-Cond-0 hidden-the_row-Cond-0 hidden
load_lies_outside = (extents loading_before (at 2) refl, outside loading_before (at 2) refl, written loading_before (at 2) refl)

pub store_comes_late : StoreComesLate
unfolding shape-the_row-Ix-0 hidden-the_row-Ix-0 shape-the_row-Val-0 hidden-the_row-Val-0 shape-the_row-Stmt-0 hidden-the_row-Stmt-0 shape-the_row-Cond-0 hidden-the_row-Cond-0 hidden
store_comes_late = (extents storing_late (at 2) refl, within storing_late (at 2) refl, unwritten storing_late (at 2) refl)

pub own_load_counts : OwnLoadCounts
unfolding shape-the_row-Ix-0 hidden-the_row-Ix-0 shape-the_row-Val-0 hidden-the_row-Val-0 shape-the_row-Stmt-0 hidden-the_row-Stmt-0 shape-the_row-Cond-0 hidden-the_row-Cond-0 hidden
own_load_counts = (safe (adding_to 1) (at 2) refl refl refl, extents (adding_to 2) (at 2) refl, within (adding_to 2) (at 2) refl, unwritten (adding_to 2) (at 2) refl)

pub without_temporaries : WithoutTemporaries
unfolding shape-the_row-Ix-0 hidden-the_row-Ix-0 shape-the_row-Val-0 hidden-the_row-Val-0 shape-the_row-Stmt-0 hidden-the_row-Stmt-0 shape-the_row-Cond-0 hidden-the_row-Cond-0 hidden
without_temporaries = (safe copying (at 2) refl refl refl, extents loading_nothing (at 2) refl, within loading_nothing (at 2) refl, unwritten loading_nothing (at 2) refl, refl, λ e. true≢false (sym e))
