-- A program with other subscripts at each access, and other temporaries; and what these have to be.
use Rattle.std.specs.Prelude.{◌≡◌, ◌≤ℤ◌, ℕ, suc, ◌+◌, ℤ, pos, true, List, [], ◌++◌, length, get_or, map, Option, Some, None, slice_get}
use Rattle.affc_rows.specs.Forms.{value}
use Rattle.affc_ast.specs.declared.tree.ArrayId.{ArrayId}
use Rattle.affc_ast.specs.declared.tree.Decl.{Decl}
use Rattle.affc_ast.specs.declared.tree.Instance.{Instance}
use Rattle.affc_ast.specs.declared.tree.Ix.{Ix}
use Rattle.affc_ast.specs.declared.tree.Program.{Program}
use Rattle.affc_ast.specs.declared.tree.Stmt.{Stmt}
use Rattle.affc_ast.specs.declared.tree.Stmt.TheVariants as s
use Rattle.affc_ast.specs.declared.tree.Stmt.TheOpen.{Stmt-F, For, If, Assign, Block}
use Rattle.affc_ast.specs.declared.tree.Val.{Val}
use Rattle.affc_ast.specs.declared.tree.Val.TheVariants as v
use Rattle.affc_ast.specs.declared.tree.Val.TheOpen.{Val-F, Load, Const, Cast, Not, Bin, Shift}
use Rattle.affc_ast.specs.Fits.{whole}
use Rattle.affc_ast.specs.Meaning.{arrays_of}
use Rattle.affc_ast.specs.Recursion.{by_val, by_stmt}
use Rattle.affc_ast.specs.Store.{Element}
use Rattle.affc_ast.specs.Trace.{Assignment, assignments, element, trace}
use Rattle.affc_trace.specs.Law.{IsIn}
use Rattle.affc_trace.specs.Target.{numbers_in}
use Rattle.affc_domain.specs.Accesses.{Access, accesses_of}
use Rattle.affc_domain.specs.Arrays.{extents_at}
use Rattle.affc_safe.specs.Overflow.{AreReadable}
use Rattle.affc_basis.specs.declared.fold.Fold.{Fold}
use Rattle.affc_basis.specs.Folds.{forms_of, fold_of, place}

-- the subscripts that come in place of these, where so many names are in sight
abbrev pub Subscripts : Type 0
Subscripts = (names : ℕ) → ArrayId → List Ix → List Ix

abbrev pub refold_value_step : Subscripts → (names : ℕ) → Val-F Val → Val
refold_value_step at names (Load array subs) = v.Load array (at names array subs)
refold_value_step at names (Const n) = v.Const n
refold_value_step at names (Cast e) = v.Cast e
refold_value_step at names (Not a) = v.Not a
refold_value_step at names (Bin op a b) = v.Bin op a b
refold_value_step at names (Shift left a by) = v.Shift left a by

abbrev pub refold_value : Subscripts → (names : ℕ) → Val → Val
refold_value at names = by_val (refold_value_step at names)

abbrev pub each_under : List (ℕ → Stmt) → (names : ℕ) → List Stmt
each_under fs names = map (λ f. f names) fs

abbrev pub refold_step : Subscripts → Stmt-F (ℕ → Stmt) → (names : ℕ) → Stmt
refold_step at (For iter low rel high body) names = s.For iter low rel high (each_under body (suc names))
refold_step at (If cond body other) names = s.If cond (each_under body names) (each_under other names)
refold_step at (Assign op array subs value) names = s.Assign op array (at names array subs) (refold_value at names value)
refold_step at (Block locals body) names = s.Block locals (each_under body (names + length locals))

-- The whole program. Its text has the prelude, which holds the remainders that folds are written by.
abbrev pub refolded : Subscripts → (temps : List Decl) → Program → Program
refolded at temps program = record program { temps = temps; body = each_under (map (by_stmt (refold_step at)) program.body) (numbers_in program.params); prelude = true }

abbrev pub refolded_assignment : Subscripts → (names : ℕ) → Assignment → Assignment
refolded_assignment at names a = record { op = a.op; array = a.array; subs = at names a.array a.subs; value = refold_value at names a.value }

-- ---- What the subscripts and temporaries have to be at p

-- of each access of each instance, where the names in sight have these values
abbrev pub AtEachAccess : Program → (p : List ℤ) → (List ℤ → Access → Type 0) → Type 0
AtEachAccess program p P = (b : Instance) (a : Assignment) (x : Access) → IsIn b (trace program p) → slice_get (assignments program) b.statement ≡ Some a → IsIn x (accesses_of a) → P (p ++ b.iterators) x

-- the new subscripts are of the place of the access's element
abbrev pub IsAtPlace : Subscripts → (Element → Element) → (names : List ℤ) → Access → Type 0
IsAtPlace at place names x = element names x.0 (at (length names) x.0 x.1) ≡ place (element names x.0 x.1)

-- and they are read in `int64_t`
abbrev pub IsReadAt : Subscripts → (names : List ℤ) → Access → Type 0
IsReadAt at names x = AreReadable (at (length names) x.0 x.1) names

-- each extent is read in `int64_t`, and is at least 1
abbrev pub AreSized : List Decl → (p : List ℤ) → Type 0
AreSized temps p = (d : Decl) → IsIn d temps → AreReadable d.extents p × ((e : Ix) → IsIn e d.extents → pos 1 ≤ℤ whole e p)

-- the extents of an array with this fold: its moduli, or what they were
abbrev pub extents_by : Option Fold → (p : List ℤ) → List ℤ → List ℤ
extents_by None p extents = extents
extents_by (Some fold) p extents = map (λ b. value b p) (forms_of fold.moduli)

-- each temporary has its fold's moduli for extents, and without a fold those that it had
abbrev pub HaveFoldedExtents : List Decl → (source : Program) → (folds : List (ArrayId × Fold)) → (p : List ℤ) → Type 0
HaveFoldedExtents temps source folds p =
    (k : ℕ) → get_or (extents_at temps p) k [] ≡ extents_by (fold_of folds (length (arrays_of source.params) + k)) p (get_or (extents_at source.temps p) k [])

-- What is shown of subscripts and temporaries, for the places of these folds.
pub record FoldsBy (at : Subscripts) (temps : List Decl) (source : Program) (folds : List (ArrayId × Fold)) (p : List ℤ) : Type 0 where
  pub places : AtEachAccess source p (IsAtPlace at (place folds p))
  pub reads : AtEachAccess source p (IsReadAt at)
  pub sized : AreSized temps p
  pub extents : HaveFoldedExtents temps source folds p
