-- What the definitions give at small programs. Each was found by hand from the rules.
use Rattle.std.specs.Prelude.{◌≡◌, ℕ, ◌-◌, ◌^◌, ℤ, pos, true, if◌then◌else◌, nat_eq, List, [], ◌∷◌, map, Some, None}
use Rattle.affc_ast.specs.declared.tree.Cond.TheVariants.{Compare}
use Rattle.affc_ast.specs.declared.tree.Decl.{Decl}
use Rattle.affc_ast.specs.declared.tree.Ix.{Ix}
use Rattle.affc_ast.specs.declared.tree.Ix.TheVariants.{Lit, Name, Add, Sub, Mul, Mod}
use Rattle.affc_ast.specs.declared.tree.Op.TheVariants as op
use Rattle.affc_ast.specs.declared.tree.Program.{Program}
use Rattle.affc_ast.specs.declared.tree.Rel.TheVariants.{Less, GreaterEqual}
use Rattle.affc_ast.specs.declared.tree.Role.TheVariants.{Temp}
use Rattle.affc_ast.specs.declared.tree.Stmt.{Stmt}
use Rattle.affc_ast.specs.declared.tree.Stmt.TheVariants.{For, If, Assign, Block}
use Rattle.affc_ast.specs.declared.tree.Val.TheVariants.{Load, Const, Cast, Not, Bin, Shift}
use Rattle.affc_ast.specs.Compiles.{Compiles}
use Rattle.affc_trace.specs.declared.schedule.Schedule.{Schedule}
use Rattle.affc_trace.specs.declared.schedule.Schedule.TheVariants.{Source, Time}
use Rattle.affc_trace.specs.declared.schedule.TimeMap.{TimeMap}
use Rattle.affc_trace.specs.Examples.{blur, together, two}
use Rattle.affc_trace.specs.Laws.{IsInContext, in_target_order}
use Rattle.affc_loops.specs.Between.{program_between}
use Rattle.affc_loops.specs.Ends.{Sides, ends_of}
use Rattle.affc_basis.specs.Examples.{onto, folds, fold_at}
use Rattle.affc_basis.specs.Folds.{place}
use Rattle.affc_foldloops.specs.Placed.{StandsFor, PlacesLieWithin, Replaces, HasFoldedLoops}
use Rattle.affc_foldloops.specs.Refolds.{Subscripts, refolded, AtEachAccess, IsAtPlace, IsReadAt, AreSized, HaveFoldedExtents, FoldsBy}

abbrev pub lit : ℕ → Ix
lit n = Lit (pos n)

abbrev name : ℕ → Ix
name n = Name (record { 0 = n })

abbrev pub temporary : List Ix → Decl
temporary extents = record { name = []; role = Temp; extents = extents }

-- ---- All accesses

-- the number of names in sight, the array, and then the subscripts that were there
abbrev pub marking : Subscripts
marking names array subs = lit names ∷ lit array.0 ∷ subs

-- out[0] = 1; for (i = 0; i < N; i++) { int64_t j = i; if (i >= 1) out[j] += ~(in[i] << 3) * ((uint64_t)i + 7); else out[j] = 5; }
abbrev mixed : (first second third : List Ix) → List Stmt
mixed first second third =
    Assign None (record { 0 = 1 }) first (Const 1)
    ∷ For [] (lit 0) Less (name 0) (
    Block (record { name = []; value = name 1 } ∷ []) (
    If (Compare GreaterEqual (name 1) (lit 1)) (
    Assign (Some op.Add) (record { 0 = 1 }) second (Bin op.Mul (Not (Shift true (Load (record { 0 = 0 }) third) 3)) (Bin op.Add (Cast (name 1)) (Const 7)))
    ∷ []) (
    Assign None (record { 0 = 1 }) second (Const 5)
    ∷ [])
    ∷ [])
    ∷ [])
    ∷ []

-- N alone is in sight of out[0], and N, i and j are in sight of the others; there is one temporary less
abbrev pub AllAreMarked : Type 0
AllAreMarked = refolded marking [] (record blur { body = mixed (lit 0 ∷ []) (name 2 ∷ []) (name 1 ∷ []) })
    ≡ record blur { temps = []; body = mixed (lit 1 ∷ lit 1 ∷ lit 0 ∷ []) (lit 3 ∷ lit 1 ∷ name 2 ∷ []) (lit 3 ∷ lit 0 ∷ name 1 ∷ []); prelude = true }

-- ---- The blur, with t[i] at t[i mod 3]

abbrev pub by_three : Subscripts
by_three names array subs = if nat_eq array.0 2 then map (λ e. Mod e (lit 3)) subs else subs

abbrev pub three : Decl
three = temporary (lit 3 ∷ [])

abbrev pub folded_blur : Program
folded_blur = refolded by_three (three ∷ []) blur

-- all that is asked, wherever the blur may run
abbrev pub BlurFolds : Type 0
BlurFolds = HasFoldedLoops blur together folds × ((p : List ℤ) → IsInContext blur p → FoldsBy by_three (three ∷ []) blur folds p)

-- the times of the two statements
abbrev maps_of : Schedule → List TimeMap
maps_of Source = []
maps_of (Time length_of_time maps) = maps

abbrev pub maps : List TimeMap
maps = maps_of together

-- no rows, so that the one component runs between the ends of its range alone
abbrev pub without_rows : List (List Sides)
without_rows = (([], []) ∷ []) ∷ (([], []) ∷ []) ∷ []

-- and so the loops that run the two statements by turns, on three elements of t, compile it
abbrev pub BlurCompiles : Type 0
BlurCompiles = Compiles (program_between folded_blur maps (ends_of blur maps without_rows)) blur (in_target_order together) (place folds)

abbrev pub BlurIsReplaced : Type 0
BlurIsReplaced = Replaces folded_blur blur (place folds two) two

-- ---- Programs that don't stand for the blur

-- a block with a local, and nothing in it
abbrev with_local : Stmt
with_local = Block (record { name = []; value = lit 0 } ∷ []) []

-- one with a local; one without instances; and the blur itself, which stores t[3] where the fold puts it at t[0]
abbrev pub OthersDontStand : Type 0
OthersDontStand =
    (¬ (StandsFor (record folded_blur { body = with_local ∷ folded_blur.body }) blur (place folds two) two))
    × (¬ (StandsFor (record folded_blur { body = [] }) blur (place folds two) two))
    × (¬ (StandsFor blur blur (place folds two) two))

-- three elements hold the places, and two don't
abbrev pub TwoAreTooFew : Type 0
TwoAreTooFew = PlacesLieWithin folded_blur blur (place folds two) two × (¬ (PlacesLieWithin (refolded by_three (temporary (lit 2 ∷ []) ∷ []) blur) blur (place folds two) two))

-- ---- Subscripts and temporaries that don't serve

-- modulo 4, t[3] would be at t[3]
abbrev pub OtherPlaces : Type 0
OtherPlaces = ¬ (AtEachAccess blur two (IsAtPlace by_three (place (fold_at 2 (onto 4) ∷ []) two)))

-- the same places, by a sum past 2^63
abbrev pub most : Ix
most = lit (2 ^ 63 - 1)

abbrev pub by_far : Subscripts
by_far names array subs = if nat_eq array.0 2 then map (λ e. Mod (Sub (Add e most) most) (lit 3)) subs else subs

abbrev pub FarIsntRead : Type 0
FarIsntRead = AtEachAccess blur two (IsAtPlace by_far (place folds two)) × (¬ (AtEachAccess blur two (IsReadAt by_far)))

-- 0 is too small, and 2^62 N isn't read at N = 2
abbrev pub SizesOfTemporaries : Type 0
SizesOfTemporaries =
    AreSized (three ∷ three ∷ []) two
    × (¬ (AreSized (three ∷ temporary (lit 3 ∷ lit 0 ∷ []) ∷ []) two))
    × (¬ (AreSized (three ∷ temporary (lit 3 ∷ Mul (lit (2 ^ 62)) (name 0) ∷ []) ∷ []) two))

-- t has three elements by its fold, and its own N + 2 without one; and there is no other temporary
abbrev pub ExtentsOfTemporaries : Type 0
ExtentsOfTemporaries =
    (¬ (HaveFoldedExtents blur.temps blur folds two))
    × HaveFoldedExtents blur.temps blur [] two
    × (¬ (HaveFoldedExtents (three ∷ []) blur [] two))
    × (¬ (HaveFoldedExtents (three ∷ three ∷ []) blur folds two))
