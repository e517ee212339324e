-- The accesses of an assignment: which arrays it reads and writes, by which subscripts.
use Rattle.std.specs.Prelude.{List, [], ◌∷◌, ◌++◌, Option, Some, None}
use Rattle.affc_ast.specs.declared.tree.ArrayId.{ArrayId}
use Rattle.affc_ast.specs.declared.tree.Ix.{Ix}
use Rattle.affc_ast.specs.declared.tree.Op.{Op}
use Rattle.affc_ast.specs.declared.tree.Val.{Val}
use Rattle.affc_ast.specs.declared.tree.Val.TheOpen.{Val-F, Load, Const, Cast, Not, Bin, Shift}
use Rattle.affc_ast.specs.Recursion.{by_val}
use Rattle.affc_ast.specs.Trace.{Assignment}

-- an array and its subscripts
abbrev pub Access : Type 0
Access = ArrayId × List Ix

abbrev pub accesses_step : Val-F (List Access) → List Access
accesses_step (Load array subs) = (array, subs) ∷ []
accesses_step (Const n) = []
accesses_step (Cast e) = []
accesses_step (Not a) = a
accesses_step (Bin op a b) = a ++ b
accesses_step (Shift left a by) = a

-- the loads of a value, in the order of the text
abbrev pub accesses_in : Val → List Access
accesses_in = by_val accesses_step

abbrev pub own_access : Option Op → Access → List Access
own_access None x = []
own_access (Some op) x = x ∷ []

-- the loads in the order of the text, and then the store; `op=` loads its own element first
abbrev pub accesses_of : Assignment → List Access
accesses_of a = own_access a.op (a.array, a.subs) ++ (accesses_in a.value ++ (a.array, a.subs) ∷ [])
