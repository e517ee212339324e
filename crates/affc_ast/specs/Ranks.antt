-- Whether each access has as many subscripts as its array has dimensions.
use Rattle.std.specs.Prelude.{ℕ, Bool, true, false, ◌&&◌, ◌==◌, List, ◌++◌, length, map, Option, Some, None, slice_get}
use Rattle.std.specs.List.{list_all}
use Rattle.affc_ast.specs.declared.tree.ArrayId.{ArrayId}
use Rattle.affc_ast.specs.declared.tree.Decl.{Decl}
use Rattle.affc_ast.specs.declared.tree.Program.{Program}
use Rattle.affc_ast.specs.declared.tree.Val.TheOpen.{Val-F, Load, Const, Cast, Not, Bin, Shift}
use Rattle.affc_ast.specs.Meaning.{arrays_of}
use Rattle.affc_ast.specs.Recursion.{by_val}
use Rattle.affc_ast.specs.Trace.{Assignment, assignments}

-- how many dimensions an array has
abbrev pub rank_of : Decl → ℕ
rank_of d = length d.extents

-- those of all arrays, in order of declaration
abbrev pub ranks : Program → List ℕ
ranks program = map rank_of (arrays_of program.params ++ program.temps)

abbrev pub is_rank : Option ℕ → ℕ → Bool
is_rank None n = false
is_rank (Some rank) n = rank == n

-- whether there is an array of this number, with so many dimensions
abbrev pub has_rank : List ℕ → ArrayId → ℕ → Bool
has_rank ranks array n = is_rank (slice_get ranks array.0) n

abbrev pub ranks_step : List ℕ → Val-F Bool → Bool
ranks_step ranks (Load array subs) = has_rank ranks array (length subs)
ranks_step ranks (Const n) = true
ranks_step ranks (Cast e) = true
ranks_step ranks (Not a) = a
ranks_step ranks (Bin op a b) = a && b
ranks_step ranks (Shift left a by) = a

-- of an assignment: the element that it stores, and each that it loads
abbrev pub is_ranked : List ℕ → Assignment → Bool
is_ranked ranks a = has_rank ranks a.array (length a.subs) && by_val (ranks_step ranks) a.value

-- whether each access is of one of the program's arrays, and has a subscript for each of its dimensions
abbrev pub has_right_ranks : Program → Bool
has_right_ranks program = list_all (is_ranked (ranks program)) (assignments program)
