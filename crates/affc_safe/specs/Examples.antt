-- Programs that are safe, and programs that aren't for one reason alone. Each was judged by hand from the rules.
use Rattle.std.specs.Prelude.{ℕ, ℤ, pos, List, [], ◌∷◌, None, Some}
use Rattle.affc_ast.specs.declared.tree.Decl.{Decl}
use Rattle.affc_ast.specs.declared.tree.Ix.{Ix}
use Rattle.affc_ast.specs.declared.tree.Ix.TheVariants.{Lit, Name, Add, Sub}
use Rattle.affc_ast.specs.declared.tree.Op.TheVariants as op
use Rattle.affc_ast.specs.declared.tree.Program.{Program}
use Rattle.affc_ast.specs.declared.tree.Rel.TheVariants.{Less}
use Rattle.affc_ast.specs.declared.tree.Role.TheVariants.{Temp}
use Rattle.affc_ast.specs.declared.tree.Stmt.{Stmt}
use Rattle.affc_ast.specs.declared.tree.Stmt.TheVariants.{For, Assign}
use Rattle.affc_ast.specs.declared.tree.Val.{Val}
use Rattle.affc_ast.specs.declared.tree.Val.TheVariants.{Load, Const}
use Rattle.affc_trace.specs.Examples.{blur}
use Rattle.affc_safe.specs.Safe.{HasExtents, KeepsWithin, LoadsWritten, IsSafe, LiesWithin}

-- N = k
abbrev pub at : ℕ → List ℤ
at k = pos k ∷ []

-- ---- The blur: t[i] = in[i] + 1 for i from 0 to N + 1, then out[i] = t[i] + t[i + 1] + t[i + 2] for i from 0 to N - 1,
-- where in and t have N + 2 elements and out has N. At N = 1 the extent of out is 1, and at N = 0 it is too small.

abbrev pub BlurIsSafe : Type 0
BlurIsSafe = IsSafe blur (at 2) × IsSafe blur (at 1)

abbrev pub EmptyOutputIsNot : Type 0
EmptyOutputIsNot = (¬ (HasExtents blur (at 0))) × KeepsWithin blur (at 0) × LoadsWritten blur (at 0)

-- ---- Variants of it

abbrev lit : ℕ → Ix
lit n = Lit (pos n)

abbrev n : Ix
n = Name (record { 0 = 0 })

abbrev i : Ix
i = Name (record { 0 = 1 })

abbrev temporary : List Ix → Decl
temporary extents = record { name = []; role = Temp; extents = extents }

-- for (int64_t i = low; i < high; i++) { body }
abbrev each : (low high : Ix) → Stmt → Stmt
each low high body = For [] low Less high (body ∷ [])

abbrev store : (array : ℕ) → (subscript : Ix) → Val → Stmt
store array subscript value = Assign None (record { 0 = array }) (subscript ∷ []) value

abbrev loaded : (array : ℕ) → List Ix → Val
loaded array subscripts = Load (record { 0 = array }) subscripts

abbrev running : (temps : List Decl) → List Stmt → Program
running temps body = record blur { temps = temps; body = body }

-- a second temporary with N - 2 elements, which nothing touches: too small at N = 2, and not at N = 3
abbrev pub with_another : Program
with_another = record blur { temps = temporary (Add n (lit 2) ∷ []) ∷ temporary (Sub n (lit 2) ∷ []) ∷ [] }

abbrev pub UntouchedArrayCounts : Type 0
UntouchedArrayCounts = (¬ (HasExtents with_another (at 2))) × KeepsWithin with_another (at 2) × LoadsWritten with_another (at 2) × IsSafe with_another (at 3)

-- each extent counts, not only the first: a temporary of N by N - 2 elements
abbrev pub with_plane : Program
with_plane = record blur { temps = temporary (Add n (lit 2) ∷ []) ∷ temporary (n ∷ Sub n (lit 2) ∷ []) ∷ [] }

abbrev pub LaterExtentCounts : Type 0
LaterExtentCounts = ¬ (HasExtents with_plane (at 2))

-- out[i] = 1 for i from 0 to N: only the last store lies outside
abbrev pub storing_past : Program
storing_past = running (temporary (lit 1 ∷ []) ∷ []) (each (lit 0) (Add n (lit 1)) (store 1 i (Const 1)) ∷ [])

abbrev pub StoreLiesOutside : Type 0
StoreLiesOutside = HasExtents storing_past (at 2) × (¬ (KeepsWithin storing_past (at 2))) × LoadsWritten storing_past (at 2)

-- out[i] = in[i - 1] for i from 0 to N - 1: only the first load lies outside
abbrev pub loading_before : Program
loading_before = running (temporary (lit 1 ∷ []) ∷ []) (each (lit 0) n (store 1 i (loaded 0 (Sub i (lit 1) ∷ []))) ∷ [])

abbrev pub LoadLiesOutside : Type 0
LoadLiesOutside = HasExtents loading_before (at 2) × (¬ (KeepsWithin loading_before (at 2))) × LoadsWritten loading_before (at 2)

-- out[i] = t[0] for i from 0 to N - 1, and then t[i] = 1 for i from 0 to 0: all loads come before the store
abbrev pub storing_late : Program
storing_late = running (temporary (lit 1 ∷ []) ∷ []) (each (lit 0) n (store 1 i (loaded 2 (lit 0 ∷ []))) ∷ each (lit 0) (lit 1) (store 2 i (Const 1)) ∷ [])

abbrev pub StoreComesLate : Type 0
StoreComesLate = HasExtents storing_late (at 2) × KeepsWithin storing_late (at 2) × (¬ (LoadsWritten storing_late (at 2)))

-- out[i] += 1 for i from 0 to 0 loads an element that is handed in, and t[i] += 1 one that nothing has stored
abbrev pub adding_to : (array : ℕ) → Program
adding_to array = running (temporary (lit 1 ∷ []) ∷ []) (each (lit 0) (lit 1) (Assign (Some op.Add) (record { 0 = array }) (i ∷ []) (Const 1)) ∷ [])

abbrev pub OwnLoadCounts : Type 0
OwnLoadCounts = IsSafe (adding_to 1) (at 2) × HasExtents (adding_to 2) (at 2) × KeepsWithin (adding_to 2) (at 2) × (¬ (LoadsWritten (adding_to 2) (at 2)))

-- ---- No temporaries

-- out[i] = in[i] for i from 0 to N - 1
abbrev pub copying : Program
copying = running [] (each (lit 0) n (store 1 i (loaded 0 (i ∷ []))) ∷ [])

-- out[i] = x, where no array has the number of x: it has no subscript, and so it lies within the extents that nothing has
abbrev pub loading_nothing : Program
loading_nothing = running [] (each (lit 0) n (store 1 i (loaded 2 [])) ∷ [])

abbrev pub WithoutTemporaries : Type 0
WithoutTemporaries =
    IsSafe copying (at 2)
    × HasExtents loading_nothing (at 2) × KeepsWithin loading_nothing (at 2) × (¬ (LoadsWritten loading_nothing (at 2)))
    × LiesWithin loading_nothing (at 2) (2, []) × (¬ (LiesWithin loading_nothing (at 2) (2, pos 0 ∷ [])))
