-- Programs that keep within `int64_t`, and programs that don't. Each was judged by hand from the rules.
use Rattle.std.specs.Prelude.{◌≡◌, ℕ, zero, suc, ◌^◌, ◌+◌, false, true, ℤ, pos, neg_ℤ, List, [], ◌∷◌, None, replicate}
use Rattle.affc_ast.specs.declared.tree.Cond.{Cond}
use Rattle.affc_ast.specs.declared.tree.Cond.TheVariants.{Compare, All, Any, Divides}
use Rattle.affc_ast.specs.declared.tree.Ix.{Ix}
use Rattle.affc_ast.specs.declared.tree.Ix.TheVariants.{Lit, Name, Add, Sub, Mul, Min}
use Rattle.affc_ast.specs.declared.tree.Op.TheVariants as op
use Rattle.affc_ast.specs.declared.tree.Param.TheVariants.{Number}
use Rattle.affc_ast.specs.declared.tree.Program.{Program}
use Rattle.affc_ast.specs.declared.tree.Rel.TheVariants.{Less, LessEqual, NotEqual}
use Rattle.affc_ast.specs.declared.tree.Role.TheVariants.{Temp}
use Rattle.affc_ast.specs.declared.tree.Stmt.{Stmt}
use Rattle.affc_ast.specs.declared.tree.Stmt.TheVariants.{For, If, Assign, Block}
use Rattle.affc_ast.specs.declared.tree.Val.{Val}
use Rattle.affc_ast.specs.declared.tree.Val.TheVariants.{Load, Const, Cast, Not, Bin, Shift}
use Rattle.affc_ast.specs.Fits.{Fits}
use Rattle.affc_ast.specs.Meaning.{State, Ended, meaning}
use Rattle.affc_ast.specs.Store.{Store}
use Rattle.affc_trace.specs.Examples.{blur}
use Rattle.affc_domain.specs.Plain.{IsPlain}
use Rattle.affc_domain.specs.Ranges.{first_wide}
use Rattle.affc_safe.specs.Examples.{at}
use Rattle.affc_safe.specs.Overflow.{keeps_near, NeverOverflows}

-- ---- The blur is all that is asked

abbrev pub BlurIsPlain : Type 0
BlurIsPlain = IsPlain blur × (first_wide blur ≡ None) × (keeps_near blur ≡ true)

-- some store fits it at N = 2, and its run ends from each that does
abbrev pub BlurEnds : Type 0
BlurEnds = ((store : Store) × Fits blur (at 2) store) × ((store : Store) → Fits blur (at 2) store → (end : State) × (meaning blur (at 2) store ≡ Ended end))

-- ---- Loops, with N from 1 to 4

abbrev lit : ℕ → Ix
lit n = Lit (pos n)

abbrev name : ℕ → Ix
name x = Name (record { 0 = x })

abbrev running : List Stmt → Program
running body = record blur { temps = []; body = body }

-- for (int64_t i = low; i <= high; i++) { body }
abbrev each : (low high : Ix) → Stmt → Stmt
each low high body = For [] low LessEqual high (body ∷ [])

abbrev store : (subscript : Ix) → Val → Stmt
store subscript value = Assign None (record { 0 = 1 }) (subscript ∷ []) value

abbrev touch : Stmt
touch = store (lit 0) (Const 1)

-- 1 < 0
abbrev less : Cond
less = Compare Less (lit 1) (lit 0)

-- i goes up to 65536 N, so to 2^18, and j up to 8192 i + more, so to 2^31 + more
abbrev far : (more : ℕ) → Stmt
far more = each (lit 0) (Mul (lit 65536) (name 0)) (each (lit 0) (Add (Mul (lit 8192) (name 1)) (lit more)) touch)

-- and the same downwards
abbrev far_below : (more : ℕ) → Stmt
far_below more = each (Mul (Lit (neg_ℤ (pos 65536))) (name 0)) (lit 0) (each (Sub (Mul (lit 8192) (name 1)) (lit more)) (lit 0) touch)

abbrev pub IteratorsKeepNear : Type 0
IteratorsKeepNear =
    (keeps_near (running (far 0 ∷ [])) ≡ true)
    × (keeps_near (running (far 1 ∷ [])) ≡ false)
    × (keeps_near (running (far_below 0 ∷ [])) ≡ true)
    × (keeps_near (running (far_below 1 ∷ [])) ≡ false)
    × (keeps_near (running (touch ∷ far 1 ∷ [])) ≡ false)
    × (keeps_near (running (far 1 ∷ touch ∷ [])) ≡ false)
    × (keeps_near (running (Block [] (far 1 ∷ []) ∷ [])) ≡ false)
    × (keeps_near (running (If less (far 1 ∷ []) [] ∷ [])) ≡ false)
    × (keeps_near (running (If less (touch ∷ []) (far 1 ∷ []) ∷ [])) ≡ false)
    × (keeps_near (running (If less (far 0 ∷ []) (far 0 ∷ []) ∷ [])) ≡ true)

-- inside of a loop that is never entered, and of one that is entered once at most
abbrev pub NeverEntered : Type 0
NeverEntered =
    (keeps_near (running (each (lit 1) (lit 0) (each (lit 0) (Min (lit 0) (lit 0)) touch) ∷ [])) ≡ true)
    × (keeps_near (running (each (lit 0) (lit 0) (each (lit 0) (Min (lit 0) (lit 0)) touch) ∷ [])) ≡ false)

abbrev under : Cond → Program
under cond = running (If cond (touch ∷ []) [] ∷ [])

-- bounds and conditions have no calls; of assignments nothing is asked here
abbrev pub BoundsArePlain : Type 0
BoundsArePlain =
    (keeps_near (running (each (Min (lit 0) (lit 1)) (lit 1) touch ∷ [])) ≡ false)
    × (keeps_near (running (each (lit 0) (Min (lit 0) (lit 1)) touch ∷ [])) ≡ false)
    × (keeps_near (under (Compare Less (lit 0) (Min (lit 0) (lit 1)))) ≡ false)
    × (keeps_near (running (store (Min (lit 0) (lit 1)) (Const 1) ∷ [])) ≡ true)

-- all that a condition joins is looked at, and a divisor is at most 2^16
abbrev pub ConditionsArePlain : Type 0
ConditionsArePlain =
    (keeps_near (under (Any (less ∷ All (Compare NotEqual (name 0) (lit 3) ∷ Divides (name 0) (pos 65536) false ∷ []) ∷ []))) ≡ true)
    × (keeps_near (under (Any (less ∷ Compare Less (lit 0) (Min (lit 0) (lit 1)) ∷ []))) ≡ false)
    × (keeps_near (under (All (less ∷ Divides (Min (lit 0) (lit 1)) (pos 2) true ∷ []))) ≡ false)
    × (keeps_near (under (Divides (name 0) (pos 65537) true)) ≡ false)

-- so many loops, one in the other
abbrev nested : ℕ → Stmt
nested zero = touch
nested (suc loops) = each (lit 0) (lit 0) (nested loops)

-- so many number parameters, all 0
abbrev numbers : (many : ℕ) → Program
numbers many = record blur { params = replicate many (Number [] (pos 0) (pos 0)); temps = []; body = [] }

-- 15 iterators beside N
abbrev pub SixteenNames : Type 0
SixteenNames =
    (keeps_near (running (nested 15 ∷ [])) ≡ true)
    × (keeps_near (running (nested 16 ∷ [])) ≡ false)
    × (keeps_near (numbers 16) ≡ true)
    × (keeps_near (numbers 17) ≡ false)

-- two number parameters, the second from low to high
abbrev second : (low high : ℤ) → Program
second low high = record blur { params = Number [] (pos 0) (pos 0) ∷ Number [] low high ∷ []; temps = []; body = [] }

abbrev pub ParametersKeepNear : Type 0
ParametersKeepNear =
    (keeps_near (second (neg_ℤ (pos (2 ^ 31))) (pos (2 ^ 31))) ≡ true)
    × (keeps_near (second (neg_ℤ (pos (2 ^ 31 + 1))) (pos 0)) ≡ false)
    × (keeps_near (second (pos 0) (pos (2 ^ 31 + 1))) ≡ false)

-- ---- Extents, subscripts and casts: 2^62 N is 2^63 at N = 2, and within `int64_t` at N = 1

abbrev wide : Ix
wide = Mul (lit (2 ^ 62)) (name 0)

abbrev pub storing : Ix → Val → Program
storing subscript value = running (each (lit 0) (lit 0) (store subscript value) ∷ [])

abbrev loading : Ix → Val
loading subscript = Load (record { 0 = 0 }) (lit 0 ∷ subscript ∷ [])

abbrev pub with_temporary : Ix → Program
with_temporary extent = record (storing (lit 0) (Const 1)) { temps = record { name = []; role = Temp; extents = lit 1 ∷ extent ∷ [] } ∷ [] }

abbrev pub WideAssignments : Type 0
WideAssignments =
    (¬ (NeverOverflows (storing wide (Const 1)) (at 2)))
    × (¬ (NeverOverflows (storing (lit 0) (loading wide)) (at 2)))
    × (¬ (NeverOverflows (storing (lit 0) (Cast wide)) (at 2)))
    × (¬ (NeverOverflows (storing (lit 0) (Bin op.Add (Const 1) (Not (Shift true (Cast wide) 1)))) (at 2)))
    × (¬ (NeverOverflows (storing (lit 0) (Bin op.Add (Cast wide) (Const 1))) (at 2)))

abbrev pub WideExtents : Type 0
WideExtents = ¬ (NeverOverflows (with_temporary wide) (at 2))

-- all of these at once, where N = 1
abbrev pub everywhere : Program
everywhere = record (storing wide (Bin op.Add (loading wide) (Not (Shift true (Cast wide) 1)))) { temps = (with_temporary wide).temps }

abbrev pub NothingOverflows : Type 0
NothingOverflows = NeverOverflows everywhere (at 1)
