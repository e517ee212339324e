-- What the definitions give at small programs. Each was found by hand from the rules.
use Rattle.std.specs.Prelude.{◌≡◌, ℕ, ℤ, pos, negsuc, Bool, true, false, List, [], ◌∷◌, length, map, replicate, Some, None}
use Rattle.affc_rows.specs.Forms.{Affine}
use Rattle.affc_ast.specs.declared.tree.Cond.{Cond}
use Rattle.affc_ast.specs.declared.tree.Cond.TheVariants as cond
use Rattle.affc_ast.specs.declared.tree.Ix.{Ix}
use Rattle.affc_ast.specs.declared.tree.Ix.TheVariants.{Name, Neg, Add, Sub, Mul, Min, Max, Floord, Ceild, Mod}
use Rattle.affc_ast.specs.declared.tree.Local.{Local}
use Rattle.affc_ast.specs.declared.tree.Op.TheVariants as op
use Rattle.affc_ast.specs.declared.tree.Program.{Program}
use Rattle.affc_ast.specs.declared.tree.Rel.TheVariants.{Less}
use Rattle.affc_ast.specs.declared.tree.Role.TheVariants.{Output}
use Rattle.affc_ast.specs.declared.tree.Stmt.{Stmt}
use Rattle.affc_ast.specs.declared.tree.Stmt.TheVariants.{For, If, Assign, Block}
use Rattle.affc_ast.specs.declared.tree.Val.{Val}
use Rattle.affc_ast.specs.declared.tree.Val.TheVariants.{Load, Const, Cast, Not, Bin, Shift}
use Rattle.affc_ast.specs.Recursion.{by_val}
use Rattle.affc_ast.specs.Trace.{Assignment}
use Rattle.affc_trace.specs.Examples.{blur}
use Rattle.affc_domain.specs.Affine.{form_of}
use Rattle.affc_basis.specs.declared.fold.Fold.{Fold}
use Rattle.affc_basis.specs.Examples.{x0, number, one_more, two_more, with_iterator, onto, by_modulus, folds, fold_at, two_rows}
use Rattle.affc_foldloops.specs.Examples.{lit, temporary, folded_blur}
use Rattle.affc_rewrite.specs.Rewrite.{is_one, is_unit, same_form, are_units, is_whole, component, components_from, subscripts_by, folded_subscripts, decl_by, folded_temps, has_call, some_call, value_call_step, has_calls, folded_program, KeepLimits}
use Rattle.affc_rewrite.specs.Sight.{value_sees, IsInSight}

abbrev name : ℕ → Ix
name n = Name (record { 0 = n })

-- ---- Forms

abbrev row : ℤ → ℤ → Affine
row a b = record { coefs = a ∷ b ∷ []; constant = pos 0 }

abbrev pub OnesAndUnits : Type 0
OnesAndUnits =
    (is_one (number 1) ≡ true)
    × (is_one (number 2) ≡ false)
    × (is_one one_more ≡ false)
    × (is_unit 1 (row (pos 0) (pos 1)) ≡ true)
    × (is_unit 0 (row (pos 0) (pos 1)) ≡ false)
    × (is_unit 1 (row (pos 1) (pos 1)) ≡ false)
    × (is_unit 1 (row (pos 0) (negsuc 0)) ≡ false)
    × (same_form one_more one_more ≡ true)
    × (same_form one_more two_more ≡ false)
    × (same_form one_more (number 1) ≡ false)

-- the form N
abbrev no_more : Affine
no_more = record { coefs = pos 1 ∷ []; constant = pos 0 }

-- ---- The blur

-- t[i], t[i + 1] and t[i + 2] become t[affc_mod(i, 3)], t[affc_mod(i + 1, 3)] and t[affc_mod(i + 2, 3)], and t has 3 elements
abbrev pub BlurIsFolded : Type 0
BlurIsFolded = folded_program blur folds ≡ folded_blur

-- Without a fold the text is its own. Under the modulus N + 2, which is the extent, it is also; and neither calls a remainder.
abbrev pub NothingIsFolded : Type 0
NothingIsFolded = (folded_program blur [] ≡ blur) × (folded_program blur (fold_at 2 (by_modulus two_more) ∷ []) ≡ blur)

-- by N + 1: t[affc_mod(i + 2, N + 1)], of N + 1 elements; and by its own extent, N + 2, t[i + 2]. An access with two subscripts keeps them.
abbrev pub BlurByParameters : Type 0
BlurByParameters =
    (folded_subscripts blur (fold_at 2 (by_modulus one_more) ∷ []) 2 (record { 0 = 2 }) (Add (name 1) (lit 2) ∷ []) ≡ Mod (Add (name 1) (lit 2)) (Add (name 0) (lit 1)) ∷ [])
    × (folded_temps blur (fold_at 2 (by_modulus one_more) ∷ []) ≡ temporary (Add (name 0) (lit 1) ∷ []) ∷ [])
    × (folded_subscripts blur (fold_at 2 (by_modulus two_more) ∷ []) 2 (record { 0 = 2 }) (Add (name 1) (lit 2) ∷ []) ≡ Add (name 1) (lit 2) ∷ [])
    × (folded_temps blur (fold_at 2 (by_modulus two_more) ∷ []) ≡ temporary (Add (name 0) (lit 2) ∷ []) ∷ [])
    × (folded_subscripts blur folds 2 (record { 0 = 2 }) (name 1 ∷ lit 0 ∷ []) ≡ name 1 ∷ lit 0 ∷ [])

-- The parameter comes last: t[affc_mod(i + N, 3)]. The array out has an extent of its own, N: by that a subscript stays what it is,
-- and by N + 2 it becomes out[affc_mod(i, N + 2)].
abbrev pub BlurByExtents : Type 0
BlurByExtents =
    (folded_subscripts blur folds 2 (record { 0 = 2 }) (Add (name 0) (name 1) ∷ []) ≡ Mod (Add (name 1) (name 0)) (lit 3) ∷ [])
    × (folded_subscripts blur (fold_at 1 (by_modulus no_more) ∷ []) 2 (record { 0 = 1 }) (name 1 ∷ []) ≡ name 1 ∷ [])
    × (folded_subscripts blur (fold_at 1 (by_modulus two_more) ∷ []) 2 (record { 0 = 1 }) (name 1 ∷ []) ≡ Mod (name 1) (Add (name 0) (lit 2)) ∷ [])

-- ---- Arrays left whole

-- the unit rows, with the extents as moduli: neither other rows, nor other moduli, nor fewer or more of them
abbrev pub UnitRows : Type 0
UnitRows =
    (are_units 0 two_rows ≡ true)
    × (are_units 1 two_rows ≡ false)
    × (are_units 0 (row (pos 1) (pos 0) ∷ row (pos 1) (pos 1) ∷ []) ≡ false)
    × (are_units 0 [] ≡ true)
    × (is_whole (two_more ∷ []) (by_modulus two_more) ≡ true)
    × (is_whole (one_more ∷ []) (by_modulus two_more) ≡ false)
    × (is_whole [] (by_modulus two_more) ≡ false)
    × (is_whole (two_more ∷ two_more ∷ []) (by_modulus two_more) ≡ false)

-- two temporaries, the arrays 2 and 3
abbrev two_temps : Program
two_temps = record blur { temps = temporary (lit 7 ∷ []) ∷ temporary (lit 8 ∷ []) ∷ [] }

-- One element, t[2 - 1]: by its own extent, the form 1, neither the subscript N - N nor the declaration changes. By the modulus 3, or in an
-- array of 7 elements by the modulus 1, both are the fold's.
abbrev one_element : Program
one_element = record blur { temps = temporary (Sub (lit 2) (lit 1) ∷ []) ∷ [] }

abbrev pub OneElementWhole : Type 0
OneElementWhole =
    (folded_subscripts one_element (fold_at 2 (onto 1) ∷ []) 2 (record { 0 = 2 }) (Sub (name 0) (name 0) ∷ []) ≡ Sub (name 0) (name 0) ∷ [])
    × (folded_temps one_element (fold_at 2 (onto 1) ∷ []) ≡ temporary (Sub (lit 2) (lit 1) ∷ []) ∷ [])
    × (folded_subscripts one_element (fold_at 2 (onto 3) ∷ []) 2 (record { 0 = 2 }) (Sub (name 0) (name 0) ∷ []) ≡ Mod (lit 0) (lit 3) ∷ [])
    × (folded_temps one_element (fold_at 2 (onto 3) ∷ []) ≡ temporary (lit 3 ∷ []) ∷ [])
    × (folded_subscripts two_temps (fold_at 2 (onto 1) ∷ []) 2 (record { 0 = 2 }) (Sub (name 0) (name 0) ∷ []) ≡ lit 0 ∷ [])
    × (folded_temps two_temps (fold_at 2 (onto 1) ∷ []) ≡ temporary (lit 1 ∷ []) ∷ temporary (lit 8 ∷ []) ∷ [])

-- ---- Temporaries

-- each by its own fold or none; a declaration keeps its name and role
abbrev pub TemporariesByTheirFolds : Type 0
TemporariesByTheirFolds =
    (folded_temps two_temps (fold_at 3 (onto 3) ∷ []) ≡ temporary (lit 7 ∷ []) ∷ temporary (lit 3 ∷ []) ∷ [])
    × (folded_temps two_temps (fold_at 3 (onto 4) ∷ fold_at 2 (onto 3) ∷ []) ≡ temporary (lit 3 ∷ []) ∷ temporary (lit 4 ∷ []) ∷ [])
    × (decl_by (Some (onto 3)) 1 (record { name = 116 ∷ []; role = Output; extents = [] }) ≡ record { name = 116 ∷ []; role = Output; extents = lit 3 ∷ [] })

-- an access with another number of subscripts than rows keeps them, be it greater or less
abbrev pub OthersKeepSubscripts : Type 0
OthersKeepSubscripts = (fold : Fold) (parameters names : ℕ) (extents : List Affine) (subs : List Ix)
    → ¬ (length subs ≡ length fold.basis.rows) → subscripts_by (Some fold) parameters names extents subs ≡ subs

-- ---- Two dimensions, over N, i and j: a[3 - i][2 * (j + i)]

abbrev subs : List Ix
subs = Sub (lit 3) (name 1) ∷ Mul (lit 2) (Add (name 2) (name 1)) ∷ []

-- under these rows and moduli, where the extents are 4 and N + 1
abbrev under : (rows moduli : List Affine) → List Ix
under rows moduli = components_from 1 (map (form_of 3 0) subs) 0 rows moduli (number 4 ∷ one_more ∷ []) subs

-- One row of modulus 1: a[0][2 * (j + i)]; the second under another modulus: a[0][affc_mod(2 * i + 2 * j, N + 2)]. Rows that are
-- no unit rows: a[affc_mod(i + 2 * j + 3, 4)][affc_mod(-i + 3, N + 1)]; and turned: a[affc_mod(-(2 * i) - 2 * j, 4)][3 - i].
abbrev pub TwoDimensions : Type 0
TwoDimensions =
    (under two_rows (number 1 ∷ one_more ∷ []) ≡ lit 0 ∷ Mul (lit 2) (Add (name 2) (name 1)) ∷ [])
    × (under two_rows (number 1 ∷ two_more ∷ []) ≡ lit 0 ∷ Mod (Add (Mul (lit 2) (name 1)) (Mul (lit 2) (name 2))) (Add (name 0) (lit 2)) ∷ [])
    × (under (row (pos 1) (pos 1) ∷ row (pos 1) (pos 0) ∷ []) (number 4 ∷ one_more ∷ [])
    ≡ Mod (Add (Add (name 1) (Mul (lit 2) (name 2))) (lit 3)) (lit 4) ∷ Mod (Add (Neg (name 1)) (lit 3)) (Add (name 0) (lit 1)) ∷ [])
    × (under (row (pos 0) (negsuc 0) ∷ row (pos 0) (pos 1) ∷ []) (number 4 ∷ number 1 ∷ [])
    ≡ Mod (Sub (Neg (Mul (lit 2) (name 1))) (Mul (lit 2) (name 2))) (lit 4) ∷ lit 0 ∷ [])

-- under the modulus 1 the component is 0, also where it is the extent
abbrev pub OneElement : Type 0
OneElement = component 1 (form_of 2 0 (name 1) ∷ []) 0 x0 (number 1) (number 1) (name 1) ≡ lit 0

-- ---- Calls of the prelude

abbrev call : Ix
call = Mod (name 0) (lit 2)

-- its functions, and an operator with a call on either side
abbrev pub CallsInExpressions : Type 0
CallsInExpressions =
    (map has_call (Min (name 0) (lit 1) ∷ Max (name 0) (lit 1) ∷ Floord (name 0) (pos 2) ∷ Ceild (name 0) (pos 2) ∷ call ∷ []) ≡ replicate 5 true)
    × (map has_call (Neg call ∷ Add call (lit 1) ∷ Add (lit 1) call ∷ Sub call (lit 1) ∷ Sub (lit 1) call ∷ Mul call (lit 1) ∷ Mul (lit 1) call ∷ []) ≡ replicate 7 true)
    × (map has_call (lit 1 ∷ name 0 ∷ Neg (name 0) ∷ Add (name 0) (lit 1) ∷ Sub (name 0) (lit 1) ∷ Mul (name 0) (lit 1) ∷ []) ≡ replicate 6 false)
    × (some_call (lit 1 ∷ call ∷ []) ≡ true)

abbrev value_calls : List Val → List Bool
value_calls vs = map (by_val value_call_step) vs

abbrev pub CallsInValues : Type 0
CallsInValues =
    (value_calls (Load (record { 0 = 0 }) (lit 1 ∷ call ∷ []) ∷ Cast call ∷ Not (Cast call) ∷ Bin op.Add (Cast call) (Const 1) ∷ Bin op.Add (Const 1) (Cast call) ∷ Shift true (Cast call) 3 ∷ []) ≡ replicate 6 true)
    × (value_calls (Load (record { 0 = 0 }) (lit 1 ∷ []) ∷ Const 1 ∷ Cast (lit 1) ∷ Not (Const 1) ∷ Bin op.Add (Const 1) (Const 1) ∷ Shift true (Const 1) 3 ∷ []) ≡ replicate 6 false)

abbrev store : List Ix → Val → Stmt
store subs value = Assign None (record { 0 = 1 }) subs value

abbrev loop : (low high : Ix) → List Stmt → Stmt
loop low high body = For [] low Less high body

abbrev test : (left right : Ix) → Cond
test left right = cond.Compare Less left right

-- a test without calls
abbrev quiet : Cond
quiet = test (lit 1) (lit 1)

abbrev local : Ix → Local
local value = record { name = []; value = value }

-- a statement without calls, and one with a call
abbrev calm : Stmt
calm = store (lit 1 ∷ []) (Const 1)

abbrev calling : Stmt
calling = store (call ∷ []) (Const 1)

abbrev calls_in : List Stmt → Bool
calls_in body = has_calls (record blur { body = body })

-- wherever an expression stands, and in whichever statement
abbrev pub CallsInStatements : Type 0
CallsInStatements =
    (map (λ s. calls_in (s ∷ [])) (
    calling ∷ store (lit 1 ∷ []) (Cast call)
    ∷ loop call (lit 1) (calm ∷ []) ∷ loop (lit 1) call (calm ∷ []) ∷ loop (lit 1) (lit 1) (calm ∷ calling ∷ [])
    ∷ If (test call (lit 1)) (calm ∷ []) [] ∷ If (test (lit 1) call) (calm ∷ []) [] ∷ If (cond.All (quiet ∷ test (lit 1) call ∷ [])) (calm ∷ []) []
    ∷ If (cond.Any (quiet ∷ test (lit 1) call ∷ [])) (calm ∷ []) [] ∷ If (cond.Divides call (pos 2) true) (calm ∷ []) [] ∷ If quiet (calm ∷ calling ∷ []) [] ∷ If quiet [] (calm ∷ calling ∷ [])
    ∷ Block (local (lit 1) ∷ local call ∷ []) (calm ∷ []) ∷ Block (local (lit 1) ∷ []) (calm ∷ calling ∷ [])
    ∷ []) ≡ replicate 14 true)
    × (calls_in (calm ∷ loop (lit 1) (lit 1) (calm ∷ []) ∷ If (cond.Any (quiet ∷ cond.All (quiet ∷ cond.Divides (lit 1) (pos 2) true ∷ []) ∷ [])) (calm ∷ []) (calm ∷ []) ∷ Block (local (lit 1) ∷ []) (calm ∷ []) ∷ []) ≡ false)
    × (calls_in (calm ∷ calling ∷ []) ≡ true)

-- ---- Limits

-- the moduli of each fold are over N
abbrev pub FoldsWithinLimits : Type 0
FoldsWithinLimits =
    KeepLimits blur folds
    × (KeepLimits blur (fold_at 2 (by_modulus with_iterator) ∷ []) → ⊥)
    × (KeepLimits blur (fold_at 3 (onto 3) ∷ fold_at 2 (by_modulus with_iterator) ∷ []) → ⊥)

-- ---- Names in sight

abbrev assigned : List Ix → Val → Assignment
assigned subs value = record { op = None; array = record { 0 = 1 }; subs = subs; value = value }

-- 16 names at most: the last has the number 15
abbrev pub SixteenNames : Type 0
SixteenNames =
    IsInSight (assigned (lit 1 ∷ name 15 ∷ []) (Cast (name 15)))
    × (IsInSight (assigned (lit 1 ∷ name 16 ∷ []) (Const 1)) → ⊥)
    × (IsInSight (assigned [] (Cast (name 16))) → ⊥)

-- each of these holds a name that isn't one of two, in whichever part; and none of those does
abbrev pub NamesOutOfSight : Type 0
NamesOutOfSight =
    (map (value_sees 2) (Load (record { 0 = 0 }) (lit 1 ∷ name 2 ∷ []) ∷ Cast (name 2) ∷ Not (Cast (name 2)) ∷ Bin op.Add (Cast (name 2)) (Const 1) ∷ Bin op.Add (Const 1) (Cast (name 2)) ∷ Shift true (Cast (name 2)) 3 ∷ []) ≡ replicate 6 false)
    × (map (value_sees 2) (Load (record { 0 = 0 }) (lit 1 ∷ name 1 ∷ []) ∷ Const 1 ∷ Cast (name 1) ∷ Not (Cast (name 1)) ∷ Bin op.Add (Cast (name 0)) (Cast (name 1)) ∷ Shift true (Cast (name 1)) 3 ∷ []) ≡ replicate 6 true)
