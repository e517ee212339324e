-- The source as it is printed with folds: the subscripts of a folded array are the components of places, and its extents are
-- the moduli. An array that its fold leaves whole keeps both as they are.
use Rattle.std.specs.Prelude.{◌≡◌, ℕ, suc, ◌+◌, pos, nat_eq, Bool, true, false, ◌&&◌, ◌||◌, if◌then◌else◌, List, [], ◌∷◌, length, get_or, map, Option, Some, None}
use Rattle.std.specs.Cmp.Lexicographic.{pointwise}
use Rattle.std.specs.List.{All, list_any}
use Rattle.std.specs.Ordering.{int_eq}
use Rattle.affc_rows.specs.Forms.{Affine, composed_form}
use Rattle.affc_ast.specs.declared.tree.ArrayId.{ArrayId}
use Rattle.affc_ast.specs.declared.tree.Cond.{Cond}
use Rattle.affc_ast.specs.declared.tree.Cond.TheOpen as cond
use Rattle.affc_ast.specs.declared.tree.Cond.TheOpen.{Cond-F}
use Rattle.affc_ast.specs.declared.tree.Decl.{Decl}
use Rattle.affc_ast.specs.declared.tree.Ix.{Ix}
use Rattle.affc_ast.specs.declared.tree.Ix.TheVariants as trees
use Rattle.affc_ast.specs.declared.tree.Ix.TheOpen.{Ix-F, Lit, Name, Neg, Add, Sub, Mul, Min, Max, Floord, Ceild, Mod}
use Rattle.affc_ast.specs.declared.tree.Program.{Program}
use Rattle.affc_ast.specs.declared.tree.Stmt.TheOpen.{Stmt-F, For, If, Assign, Block}
use Rattle.affc_ast.specs.declared.tree.Val.TheOpen.{Val-F, Load, Const, Cast, Not, Bin, Shift}
use Rattle.affc_ast.specs.Meaning.{arrays_of}
use Rattle.affc_ast.specs.Recursion.{by_ix, by_val, by_cond, by_stmt}
use Rattle.affc_trace.specs.Target.{numbers_in}
use Rattle.affc_domain.specs.Affine.{form_of}
use Rattle.affc_domain.specs.Arrays.{declared_arrays}
use Rattle.affc_nest.specs.Domains.{column_form, number_form}
use Rattle.affc_loops.specs.Trees.{form_tree}
use Rattle.affc_basis.specs.declared.fold.Fold.{Fold}
use Rattle.affc_basis.specs.Folds.{KeepsLimits, forms_of, fold_of}
use Rattle.affc_foldloops.specs.Refolds.{Subscripts, refolded}

-- ---- Forms that are alike

abbrev pub same_form : Affine → Affine → Bool
same_form f g = int_eq f.constant g.constant && pointwise int_eq f.coefs g.coefs

-- the constant 1
abbrev pub is_one : Affine → Bool
is_one f = same_form f (number_form (length f.coefs) (pos 1))

-- the k-th of the unit rows
abbrev pub is_unit : (k : ℕ) → Affine → Bool
is_unit k row = same_form row (column_form (length row.coefs) k)

-- ---- Places as they are printed, where so many parameters are the first names

-- a form over the parameters and the iterators as an expression
abbrev pub printed : (parameters : ℕ) → Affine → Ix
printed parameters f = form_tree parameters parameters f

-- Component k of a place, where the subscripts have these forms: 0 under the modulus 1; the source's own subscript where row k
-- is the k-th unit row and the modulus is the extent; else the remainder of the row by the modulus.
abbrev pub component : (parameters : ℕ) → (subscripts : List Affine) → (k : ℕ) → (row modulus extent : Affine) → (own : Ix) → Ix
component parameters subscripts k row modulus extent own =
    if is_one modulus then trees.Lit (pos 0)
    else (if is_unit k row && same_form modulus extent then own
    else trees.Mod (printed parameters (composed_form row subscripts)) (printed parameters modulus))

-- from row k on
abbrev pub components_from : (parameters : ℕ) → (subscripts : List Affine) → (k : ℕ) → (rows moduli extents : List Affine) → (own : List Ix) → List Ix
components_from parameters subscripts k (row ∷ rows) (b ∷ moduli) (extent ∷ extents) (e ∷ own) =
    component parameters subscripts k row b extent e ∷ components_from parameters subscripts (suc k) rows moduli extents own
components_from parameters subscripts k _ _ _ _ = []

-- ---- Folds at work

-- the unit rows, from the k-th on
abbrev pub are_units : (k : ℕ) → List Affine → Bool
are_units k [] = true
are_units k (row ∷ rows) = is_unit k row && are_units (k + 1) rows

-- whether a fold leaves an array of these extents whole: the identity, with the extents as moduli
abbrev pub is_whole : (extents : List Affine) → Fold → Bool
is_whole extents fold = pointwise same_form (forms_of fold.moduli) extents && are_units 0 fold.basis.rows

-- no fold is at work where it leaves the array whole
abbrev pub unless_whole : (extents : List Affine) → Option Fold → Option Fold
unless_whole extents None = None
unless_whole extents (Some fold) = if is_whole extents fold then None else Some fold

-- the fold that is at work on an array, where the arrays have these extents
abbrev pub at_work : (extents : List (List Affine)) → List (ArrayId × Fold) → (array : ℕ) → Option Fold
at_work extents folds array = unless_whole (get_or extents array []) (fold_of folds array)

-- An array without a fold at work keeps its subscripts; so does an access that has another number of subscripts than the fold has rows.
abbrev pub subscripts_by : Option Fold → (parameters names : ℕ) → (extents : List Affine) → List Ix → List Ix
subscripts_by None parameters names extents subs = subs
subscripts_by (Some fold) parameters names extents subs =
    if nat_eq (length subs) (length fold.basis.rows) then components_from parameters (map (form_of names 0) subs) 0 fold.basis.rows (forms_of fold.moduli) extents subs else subs

-- where the arrays have these extents
abbrev pub subscripts_at : (parameters : ℕ) → (extents : List (List Affine)) → List (ArrayId × Fold) → Subscripts
subscripts_at parameters extents folds names array subs = subscripts_by (at_work extents folds array.0) parameters names (get_or extents array.0 []) subs

-- ---- The whole program

-- the extents of the declared arrays, as forms over the parameters
abbrev pub extent_forms : Program → List (List Affine)
extent_forms program = map (λ d. map (form_of (numbers_in program.params) 0) d.extents) (declared_arrays program)

-- the fold that is at work on an array of the program
abbrev pub fold_at_work : Program → List (ArrayId × Fold) → (array : ℕ) → Option Fold
fold_at_work program folds array = at_work (extent_forms program) folds array

abbrev pub folded_subscripts : Program → List (ArrayId × Fold) → Subscripts
folded_subscripts program folds = subscripts_at (numbers_in program.params) (extent_forms program) folds

abbrev pub decl_by : Option Fold → (parameters : ℕ) → Decl → Decl
decl_by None parameters d = d
decl_by (Some fold) parameters d = record d { extents = map (printed parameters) (forms_of fold.moduli) }

-- temporaries, of which the first is this array, where the arrays have these extents
abbrev pub decls_from : (parameters : ℕ) → (extents : List (List Affine)) → List (ArrayId × Fold) → (array : ℕ) → List Decl → List Decl
decls_from parameters extents folds array [] = []
decls_from parameters extents folds array (d ∷ ds) = decl_by (at_work extents folds array) parameters d ∷ decls_from parameters extents folds (suc array) ds

abbrev pub folded_temps : Program → List (ArrayId × Fold) → List Decl
folded_temps program folds = decls_from (numbers_in program.params) (extent_forms program) folds (length (arrays_of program.params)) program.temps

-- whether an expression calls one of the functions of the prelude
abbrev pub call_step : Ix-F Bool → Bool
call_step (Lit n) = false
call_step (Name x) = false
call_step (Neg a) = a
call_step (Add a b) = a || b
call_step (Sub a b) = a || b
call_step (Mul a b) = a || b
call_step (Min a b) = true
call_step (Max a b) = true
call_step (Floord a n) = true
call_step (Ceild a n) = true
call_step (Mod a b) = true

abbrev pub has_call : Ix → Bool
has_call = by_ix call_step

abbrev pub some_call : List Ix → Bool
some_call es = list_any has_call es

abbrev pub value_call_step : Val-F Bool → Bool
value_call_step (Load array subs) = some_call subs
value_call_step (Const n) = false
value_call_step (Cast e) = has_call e
value_call_step (Not a) = a
value_call_step (Bin op a b) = a || b
value_call_step (Shift left a by) = a

abbrev pub cond_call_step : Cond-F Bool → Bool
cond_call_step (cond.Compare rel left right) = has_call left || has_call right
cond_call_step (cond.All bs) = list_any (λ b. b) bs
cond_call_step (cond.Any bs) = list_any (λ b. b) bs
cond_call_step (cond.Divides value by so) = has_call value

abbrev pub cond_calls : Cond → Bool
cond_calls = by_cond cond_call_step

abbrev pub stmt_call_step : Stmt-F Bool → Bool
stmt_call_step (For iter low rel high body) = has_call low || (has_call high || list_any (λ b. b) body)
stmt_call_step (If cond body other) = cond_calls cond || (list_any (λ b. b) body || list_any (λ b. b) other)
stmt_call_step (Assign op array subs value) = some_call subs || by_val value_call_step value
stmt_call_step (Block locals body) = list_any (λ l. has_call l.value) locals || list_any (λ b. b) body

-- whether some statement does
abbrev pub has_calls : Program → Bool
has_calls program = list_any (λ b. b) (map (by_stmt stmt_call_step) program.body)

-- The source with the subscripts and extents of folds, and with the prelude exactly where a statement calls its functions.
abbrev pub folded_program : Program → List (ArrayId × Fold) → Program
folded_program program folds =
    let other = refolded (folded_subscripts program folds) (folded_temps program folds) program in
    record other { prelude = has_calls other }

-- the same rows and moduli, or no fold
abbrev pub PrintAlike : Option Fold → Option Fold → Type 0
PrintAlike None None = Unit {0}
PrintAlike None (Some g) = ⊥
PrintAlike (Some f) None = ⊥
PrintAlike (Some f) (Some g) = (f.basis.rows ≡ g.basis.rows) × (forms_of f.moduli ≡ forms_of g.moduli)

-- ---- Limits

-- the moduli of each fold are within their limits
abbrev pub KeepLimits : Program → List (ArrayId × Fold) → Type 0
KeepLimits program folds = All (λ (f : ArrayId × Fold). KeepsLimits (numbers_in program.params) f.1) folds
