-- What a program's assignments load, store and compute, where bounds, conditions and subscripts are read as whole numbers.
use Rattle.std.specs.Prelude.{ℕ, ℤ, if◌then◌else◌, List, [], ◌∷◌, ◌++◌, Option, Some, None, map, flat_map, slice_get}
use Rattle.affc_ast.specs.declared.tree.Op.{Op}
use Rattle.affc_ast.specs.declared.tree.Val.{Val}
use Rattle.affc_ast.specs.declared.tree.Val.TheOpen.{Val-F, Load, Const, Cast, Not, Bin, Shift}
use Rattle.affc_ast.specs.declared.tree.Local.{Local}
use Rattle.affc_ast.specs.declared.tree.Stmt.TheOpen.{Stmt-F, For, If, Assign, Block}
use Rattle.affc_ast.specs.declared.tree.Instance.{Instance}
use Rattle.affc_ast.specs.declared.tree.Program.{Program}
use Rattle.affc_ast.specs.Store.{Element}
use Rattle.affc_ast.specs.Values.{operate, complement, shifted, converted}
use Rattle.affc_ast.specs.Meaning.{turns_of}
use Rattle.affc_ast.specs.Fits.{whole, is_true_at}
use Rattle.affc_ast.specs.Trace.{count_from, Assignment, assignments, loaded_by, stored_by}
use Rattle.affc_ast.specs.Recursion.{by_val, by_stmt}
pub use Rattle.affc_ast.specs.Locals.{all_true, plain_step, has_no_locals}
use Rattle.affc_trace.specs.Law.{Effect}

-- what is made of the first of some loaded values, and the values that are left
abbrev pub Taking : Type 0
Taking = List ℕ → ℕ × List ℕ

abbrev pub next : Taking
next [] = (0, [])
next (v ∷ vs) = (v, vs)

abbrev pub then_taking : (ℕ → ℕ → ℕ) → ℕ × List ℕ → Taking → ℕ × List ℕ
then_taking f x other = let y = other x.1 in (f x.0 y.0, y.1)

abbrev pub taken : (ℕ → ℕ) → ℕ × List ℕ → ℕ × List ℕ
taken f x = (f x.0, x.1)

abbrev pub taking_step : Val-F (List ℤ → Taking) → List ℤ → Taking
taking_step (Load array subs) names = next
taking_step (Const n) names = λ vs. (n, vs)
taking_step (Cast e) names = λ vs. (converted (whole e names), vs)
taking_step (Not a) names = λ vs. taken complement (a names vs)
taking_step (Bin op a b) names = λ vs. then_taking (operate op) (a names vs) (b names)
taking_step (Shift left a by) names = λ vs. taken (λ x. shifted left x by) (a names vs)

-- a value, from what its loads give in order
abbrev pub taking : Val → List ℤ → Taking
taking = by_val taking_step

-- `op=` loads its own element first
abbrev pub combining : Option Op → Taking → List ℕ → ℕ
combining None value vs = (value vs).0
combining (Some op) value vs = let old = next vs in operate op old.0 (value old.1).0

-- what an assignment stores, from what it has loaded
abbrev pub value_by : Option Assignment → List ℤ → List ℕ → ℕ
value_by None names vs = 0
value_by (Some a) names vs = combining a.op (taking a.value names) vs

-- an assignment where the visible names have these values
abbrev pub effect_by : Option Assignment → List ℤ → Effect Element ℕ
effect_by a names = record { loads = loaded_by a names; stores = stored_by a names; value = value_by a names }

-- what an instance of a program without locals does
abbrev pub effect : Program → List ℤ → Instance → Effect Element ℕ
effect program p b = effect_by (slice_get (assignments program) b.statement) (p ++ b.iterators)

-- ---- what a whole program does, locals included

abbrev pub with_all : List Local → List ℤ → List ℤ
with_all [] names = names
with_all (l ∷ ls) names = with_all ls (names ++ whole l.value names ∷ [])

abbrev pub each_of : List (List ℤ → List (Effect Element ℕ)) → List ℤ → List (Effect Element ℕ)
each_of [] names = []
each_of (f ∷ fs) names = f names ++ each_of fs names

abbrev pub effects_step : Stmt-F (List ℤ → List (Effect Element ℕ)) → List ℤ → List (Effect Element ℕ)
effects_step (For iter low rel high body) names =
    let first = whole low names in
    flat_map (λ x. each_of body (names ++ x ∷ [])) (count_from (turns_of rel first (whole high names)) first)
effects_step (If cond body other) names = if is_true_at cond names then each_of body names else each_of other names
effects_step (Assign op array subs value) names = effect_by (Some (record { op = op; array = array; subs = subs; value = value })) names ∷ []
effects_step (Block locals body) names = each_of body (with_all locals names)

-- The effects of the assignments that the loops and conditions run, in order.
abbrev pub effects : Program → List ℤ → List (Effect Element ℕ)
effects program p = each_of (map (by_stmt effects_step) program.body) p
