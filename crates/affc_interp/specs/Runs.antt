-- What a run with so many steps answers.
use Rattle.std.specs.Prelude.{ℕ, nat_le, if◌then◌else◌, ℤ, pos, suc, List, [], ◌∷◌, Result, Ok, Err}
use Rattle.affc_ast.specs.declared.tree.Decl.{Decl}
use Rattle.affc_ast.specs.declared.tree.Program.{Program}
use Rattle.affc_ast.specs.Cause.{Cause}
use Rattle.affc_ast.specs.Meaning.{Outcome, Ended, Stuck, arrays_of, extents_of}
use Rattle.affc_ast.specs.Store.{Store}
use Rattle.affc_interp.specs.Budget.{Run, StuckBy, OutOfSteps}
use Rattle.affc_interp.specs.Layout.{start_of}

abbrev pub steps_of : Outcome → ℕ
steps_of (Ended state) = state.steps
steps_of (Stuck cause steps) = steps

-- The run within the limit: it ends, or is stuck, with no more steps than these, or needs more.
abbrev pub within_limit : (limit : ℕ) → Outcome → Run
within_limit limit (Ended state) = if nat_le state.steps limit then Ok (state.store, state.steps) else Err OutOfSteps
within_limit limit (Stuck cause steps) = if nat_le steps limit then Err (StuckBy cause) else Err OutOfSteps

-- ---- Programs

-- an array's extents; where one has no value or is below 1, the array has no elements
abbrev pub own_extents : Result (List ℤ) Cause → List ℤ
own_extents (Ok extents) = extents
own_extents (Err cause) = pos 0 ∷ []

-- those of each array, from this number on
abbrev pub each_extents : (array : ℕ) → List Decl → (p : List ℤ) → List (List ℤ)
each_extents array [] p = []
each_extents array (d ∷ ds) p = own_extents (extents_of array d.extents 0 p) ∷ each_extents (suc array) ds p

-- What the arrays hold at first: the elements of the array parameters, each array's in order, the last subscript
-- running fastest, with the values that are given.
abbrev pub start : Program → (p : List ℤ) → (values : List (List ℕ)) → Store
start program p values = start_of 0 (each_extents 0 (arrays_of program.params) p) values
