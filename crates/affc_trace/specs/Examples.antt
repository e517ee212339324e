-- What the definitions give at small programs. Each value was found by hand from the rules.
use Rattle.std.specs.Prelude.{◌≡◌, ℕ, zero, suc, ◌+◌, ◌^◌, true, false, nat_eq, ℤ, pos, negsuc, neg_ℤ, if◌then◌else◌, List, [], ◌∷◌, ◌++◌, length, Some, None, map, refl}
use Rattle.std.specs.Int.{int_rem_euclid}
use Rattle.std.proofs.Common.{subst, lit≤}
use Rattle.std.proofs.lemmas.List.Elements.{All-nil, All-cons}
use Rattle.std.proofs.lemmas.Option.{same_Some, none-some}
use Rattle.affc_rows.specs.Forms.{Affine, HaveColumns, columns_of, composed_form}
use Rattle.affc_ast.specs.declared.tree.Cond.TheVariants as cond
use Rattle.affc_ast.specs.declared.tree.Decl.{Decl}
use Rattle.affc_ast.specs.declared.tree.Instance.{Instance}
use Rattle.affc_ast.specs.declared.tree.Ix.{Ix}
use Rattle.affc_ast.specs.declared.tree.Ix.TheVariants.{Lit, Name, Add, Sub, Mod}
use Rattle.affc_ast.specs.declared.tree.Op.TheVariants as op
use Rattle.affc_ast.specs.declared.tree.Param.TheVariants.{Number, Array}
use Rattle.affc_ast.specs.declared.tree.Program.{Program}
use Rattle.affc_ast.specs.declared.tree.Rel.TheVariants.{Less}
use Rattle.affc_ast.specs.declared.tree.Role.{Role}
use Rattle.affc_ast.specs.declared.tree.Role.TheVariants.{Input, Output, Temp}
use Rattle.affc_ast.specs.declared.tree.Stmt.{Stmt}
use Rattle.affc_ast.specs.declared.tree.Stmt.TheVariants.{For, If, Assign, Block}
use Rattle.affc_ast.specs.declared.tree.Val.{Val}
use Rattle.affc_ast.specs.declared.tree.Val.TheVariants.{Load, Const, Bin}
use Rattle.affc_ast.specs.Cause.{OutOfBounds, Unwritten}
use Rattle.affc_ast.specs.Store.{Element, Store}
use Rattle.affc_ast.specs.Meaning.{Stuck, meaning}
use Rattle.affc_ast.specs.Follows.{Follows}
use Rattle.affc_trace.specs.declared.schedule.TimeMap.{TimeMap}
use Rattle.affc_trace.specs.declared.schedule.Schedule.{Schedule}
use Rattle.affc_trace.specs.declared.schedule.Schedule.TheVariants.{Source, Time}
use Rattle.affc_trace.specs.Inverses.{column, GivesColumn}
use Rattle.affc_trace.specs.Orders.{IsReordered}
use Rattle.affc_trace.specs.Target.{target, loops_round, IsScheduleOf, all_slight, within_limits}
use Rattle.affc_trace.specs.Effects.{effect, effects, has_no_locals}
use Rattle.affc_trace.specs.Law.{placed}
use Rattle.affc_trace.specs.Dataflow.{Buffers, source, live_pairs, violations}
use Rattle.affc_trace.specs.Laws.{LeavesParameters, KeepsParameters, RunsTarget, in_target_order}

-- ---- Times of a statement in one loop, in a program with one parameter

-- the form constant + factor i, over the parameter and i
abbrev of_i : (constant factor : ℤ) → Affine
of_i constant factor = record { coefs = pos 0 ∷ factor ∷ []; constant = constant }

pub two_columns : (f : Affine) → length f.coefs ≡ 2 → HaveColumns 2 (f ∷ [])
two_columns f e = All-cons (λ g. length g.coefs ≡ 2) f [] e (All-nil (λ g. length g.coefs ≡ 2))

pub undone : (images : List Affine) (g : Affine) → composed_form g images ≡ column (columns_of images) 1 → (k : ℕ) → GivesColumn (g ∷ []) images 1 k
undone images g e zero h same = subst (λ h. composed_form h images ≡ column (columns_of images) 1) (same_Some g h same) e
undone images g e (suc k) h same = absurd (none-some h same)

-- the time tuple (constant + factor i), where i is constant' + factor' t0
abbrev timed : (constant factor constant' factor' : ℤ)
    → composed_form (of_i constant' factor') (column 2 0 ∷ of_i constant factor ∷ []) ≡ column 2 1 → TimeMap
timed constant factor constant' factor' e = record {
  forms = of_i constant factor ∷ [];
  inverse = of_i constant' factor' ∷ [];
  shaped = two_columns (of_i constant factor) refl;
  inverse_shaped = two_columns (of_i constant' factor') refl;
  at_least_iterators = lit≤ tt;
  inverts = undone (column 2 0 ∷ of_i constant factor ∷ []) (of_i constant' factor') e;
}

-- (i), (i + 1), (i + 2) and (-i)
abbrev at_i : TimeMap
at_i = timed (pos 0) (pos 1) (pos 0) (pos 1) refl

abbrev one_later : TimeMap
one_later = timed (pos 1) (pos 1) (negsuc 0) (pos 1) refl

abbrev two_later : TimeMap
two_later = timed (pos 2) (pos 1) (negsuc 1) (pos 1) refl

abbrev backwards : TimeMap
backwards = timed (pos 0) (negsuc 0) (pos 0) (negsuc 0) refl

-- (10 - i)
abbrev late_backwards : TimeMap
late_backwards = timed (pos 10) (negsuc 0) (pos 10) (negsuc 0) refl

-- the time tuple (factor i, factor' i), where i is back t0 + back' t1
abbrev back_from : (back back' : ℤ) → Affine
back_from back back' = record { coefs = pos 0 ∷ back ∷ back' ∷ []; constant = pos 0 }

abbrev timed_twice : (factor factor' back back' : ℤ)
    → composed_form (back_from back back') (column 2 0 ∷ of_i (pos 0) factor ∷ of_i (pos 0) factor' ∷ []) ≡ column 2 1 → TimeMap
timed_twice factor factor' back back' e = record {
  forms = of_i (pos 0) factor ∷ of_i (pos 0) factor' ∷ [];
  inverse = back_from back back' ∷ [];
  shaped = All-cons (λ g. length g.coefs ≡ 2) (of_i (pos 0) factor) (of_i (pos 0) factor' ∷ []) refl (two_columns (of_i (pos 0) factor') refl);
  inverse_shaped = All-cons (λ g. length g.coefs ≡ 3) (back_from back back') [] refl (All-nil (λ g. length g.coefs ≡ 3));
  at_least_iterators = lit≤ tt;
  inverts = undone (column 2 0 ∷ of_i (pos 0) factor ∷ of_i (pos 0) factor' ∷ []) (back_from back back') e;
}

-- (i, 0) and (0, i)
abbrev first_i : TimeMap
first_i = timed_twice (pos 1) (pos 0) (pos 1) (pos 0) refl

abbrev second_i : TimeMap
second_i = timed_twice (pos 0) (pos 1) (pos 0) (pos 1) refl

-- ---- Programs

abbrev lit : ℕ → Ix
lit n = Lit (pos n)

abbrev n : Ix
n = Name (record { 0 = 0 })

abbrev i : Ix
i = Name (record { 0 = 1 })

abbrev array : Role → List Ix → Decl
array role extents = record { name = []; role = role; extents = extents }

-- for (int64_t i = low; i < high; i++) { body }
abbrev each : (low high : Ix) → List Stmt → Stmt
each low high body = For [] low Less high body

abbrev store : (array : ℕ) → List Ix → Val → Stmt
store array subscripts value = Assign None (record { 0 = array }) subscripts value

abbrev loaded : (array : ℕ) → Ix → Val
loaded array subscript = Load (record { 0 = array }) (subscript ∷ [])

abbrev plus : Val → Val → Val
plus a b = Bin op.Add a b

-- in is array 0 with N + 2 elements, out is array 1 with N, t is array 2
abbrev program : (temporary : List Ix) → (body : List Stmt) → Program
program temporary body = record {
  name = [];
  params = Number [] (pos 1) (pos 4) ∷ Array (array Input (Add n (lit 2) ∷ [])) ∷ Array (array Output (n ∷ [])) ∷ [];
  context = [];
  temps = array Temp temporary ∷ [];
  body = body;
  prelude = false;
}

abbrev at : (statement : ℕ) → ℤ → Instance
at statement x = record { statement = statement; iterators = x ∷ [] }

abbrev pub S0 : ℕ → Instance
S0 x = at 0 (pos x)

abbrev pub S1 : ℕ → Instance
S1 x = at 1 (pos x)

abbrev pub cell : (array x : ℕ) → Element
cell array x = (array, pos x ∷ [])

abbrev pub two : List ℤ
two = pos 2 ∷ []

-- ---- A blur: t[i] = in[i] + 1 for i from 0 to N + 1, then out[i] = t[i] + t[i + 1] + t[i + 2] for i from 0 to N - 1

abbrev pub blur : Program
blur = program (Add n (lit 2) ∷ []) (
    each (lit 0) (Add n (lit 2)) (store 2 (i ∷ []) (plus (loaded 0 i) (Const 1)) ∷ [])
    ∷ each (lit 0) n (store 1 (i ∷ []) (plus (plus (loaded 2 i) (loaded 2 (Add i (lit 1)))) (loaded 2 (Add i (lit 2)))) ∷ [])
    ∷ [])

-- time 1; S0: (i); S1: (i + 2)
abbrev pub together : Schedule
together = Time 1 (at_i ∷ two_later ∷ [])

-- S0(2) and S1(0) tie at time 2, S0(3) and S1(1) at time 3
abbrev pub BlurTakesTurns : Type 0
BlurTakesTurns = target blur together two ≡ S0 0 ∷ S0 1 ∷ S0 2 ∷ S1 0 ∷ S0 3 ∷ S1 1 ∷ []

-- t[1] is stored by S0(1) before S1(0) loads it; in[1] is handed in
abbrev pub BlurSources : Type 0
BlurSources = (source blur two (S1 0) (cell 2 1) ≡ Some (S0 1)) × (source blur two (S0 1) (cell 0 1) ≡ None)

abbrev blur_pairs : List (Element × Element)
blur_pairs = (cell 2 0, cell 2 1) ∷ (cell 2 0, cell 2 2) ∷ (cell 2 1, cell 2 2) ∷ (cell 2 1, cell 2 2) ∷ (cell 2 1, cell 2 3) ∷ (cell 2 2, cell 2 3) ∷ []

-- each of these, and the same turned round; t[0] and t[3] are never live together
abbrev pub BlurLivePairs : Type 0
BlurLivePairs = live_pairs blur together two ≡ blur_pairs ++ map (λ e. (e.1, e.0)) blur_pairs

abbrev pub BlurIsLegal : Type 0
BlurIsLegal = violations blur together two ≡ []

-- a map for each statement, with as many components as the schedule says
abbrev pub BlurHasItsMaps : Type 0
BlurHasItsMaps =
    IsScheduleOf blur together
    × (IsScheduleOf blur (Time 1 (at_i ∷ [])) → ⊥)
    × (IsScheduleOf blur (Time 2 (at_i ∷ two_later ∷ [])) → ⊥)

-- from 1 to 12 components
abbrev pub TwelveComponents : Type 0
TwelveComponents =
    (within_limits Source ≡ true)
    × (within_limits together ≡ true)
    × (within_limits (Time 12 []) ≡ true)
    × (within_limits (Time 13 []) ≡ false)
    × (within_limits (Time 0 []) ≡ false)

-- coefficients up to 256 and constants up to 2^30 in magnitude, in each form
abbrev pub SlightForms : Type 0
SlightForms =
    (all_slight (of_i (pos (2 ^ 30)) (pos 256) ∷ of_i (neg_ℤ (pos (2 ^ 30))) (neg_ℤ (pos 256)) ∷ []) ≡ true)
    × (all_slight (of_i (pos 0) (pos 257) ∷ []) ≡ false)
    × (all_slight (of_i (neg_ℤ (pos (2 ^ 30 + 1))) (pos 0) ∷ []) ≡ false)
    × (all_slight (of_i (pos 0) (pos 0) ∷ of_i (pos 0) (pos 257) ∷ []) ≡ false)

-- (257 i, i), where i is t1; and (i, i), where i is 257 t0 - 256 t1
abbrev far_apart : TimeMap
far_apart = timed_twice (pos 257) (pos 1) (pos 0) (pos 1) refl

abbrev far_back : TimeMap
far_back = timed_twice (pos 1) (pos 1) (pos 257) (negsuc 255) refl

-- in the forms and in the inverse of each map
abbrev pub SlightMaps : Type 0
SlightMaps =
    (within_limits (Time 2 (first_i ∷ second_i ∷ [])) ≡ true)
    × (within_limits (Time 2 (first_i ∷ far_apart ∷ [])) ≡ false)
    × (within_limits (Time 2 (far_back ∷ second_i ∷ [])) ≡ false)

-- S1 may run backwards: its instances load the same elements, and neither stores what the other touches
abbrev pub LoadsDependOnNothing : Type 0
LoadsDependOnNothing =
    (target blur (Time 1 (at_i ∷ late_backwards ∷ [])) two ≡ S0 0 ∷ S0 1 ∷ S0 2 ∷ S0 3 ∷ S1 1 ∷ S1 0 ∷ [])
    × (violations blur (Time 1 (at_i ∷ late_backwards ∷ [])) two ≡ [])

-- t[i] stands at i mod 3
abbrev modulo_three : Element → Element
modulo_three x = if nat_eq x.0 2 then (2, map (λ y. int_rem_euclid y (pos 3)) x.1) else x

abbrev slot : Ix → Val
slot x = loaded 2 (Mod x (lit 3))

abbrev fill : Stmt
fill = store 2 (Mod i (lit 3) ∷ []) (plus (loaded 0 i) (Const 1))

-- the folded blur, written out: its first two turns store alone
abbrev folded_blur : Program
folded_blur = record (program (lit 3 ∷ []) (
    each (lit 0) (lit 2) (fill ∷ [])
    ∷ each (lit 2) (Add n (lit 2)) (
    fill
    ∷ store 1 (Sub i (lit 2) ∷ []) (plus (plus (slot (Sub i (lit 2))) (slot (Sub i (lit 1)))) (slot i))
    ∷ [])
    ∷ [])) { prelude = true }

-- in holds 10 20 30 40, out holds 0 0
abbrev start : Store
start = (cell 0 0, 10) ∷ (cell 0 1, 20) ∷ (cell 0 2, 30) ∷ (cell 0 3, 40) ∷ (cell 1 0, 0) ∷ (cell 1 1, 0) ∷ []

abbrev pub FoldedBlurFollows : Type 0
FoldedBlurFollows = Follows folded_blur blur (in_target_order together two) modulo_three two start

-- it does what the instances of the target do, at their places
abbrev pub FoldedBlurDoes : Type 0
FoldedBlurDoes = effects folded_blur two ≡ map (placed modulo_three (effect blur two)) (target blur together two)

-- t[i] in the buffer of in, at in[i]
abbrev pub into_input : Buffers
into_input array = if nat_eq array 2 then 0 else array

abbrev pub at_input : Element → Element
at_input x = (into_input x.0, x.1)

-- each element of a parameter stays itself and each place is in its array's buffer, but t would stand where `in` is handed in
abbrev pub InputIsNotShared : Type 0
InputIsNotShared = ((x : Element) → (at_input x).0 ≡ into_input x.0) × LeavesParameters blur at_input × (KeepsParameters into_input blur at_input → ⊥)

-- ---- A tie that the trace's order doesn't decide: { t[0] = in[i]; out[i] = t[0]; } for i from 0 to N - 1

abbrev through_one : List Ix → Program
through_one subscripts = program (map (λ s. lit 1) subscripts) (
    each (lit 0) n (
    store 2 subscripts (loaded 0 i)
    ∷ store 1 (i ∷ []) (Load (record { 0 = 2 }) subscripts)
    ∷ [])
    ∷ [])

-- time 1; S0: (i); S1: (i + 1): S1(0) and S0(1) tie, and S1(0) stands before S0(1) in the trace
abbrev pub NumberDecidesTies : Type 0
NumberDecidesTies = target (through_one (lit 0 ∷ [])) (Time 1 (at_i ∷ one_later ∷ [])) two ≡ S0 0 ∷ S0 1 ∷ S1 0 ∷ S1 1 ∷ []

-- and so S0(1) stores t[0] before S1(0) has loaded it, which is a dependence turned round
abbrev pub TieIsIllegal : Type 0
TieIsIllegal = violations (through_one (lit 0 ∷ [])) (Time 1 (at_i ∷ one_later ∷ [])) two ≡ (S1 0, S0 1) ∷ []

-- times (i, 0) and (0, i): the first component decides, and then the second
abbrev pub FirstComponentDecides : Type 0
FirstComponentDecides = target (through_one (lit 0 ∷ [])) (Time 2 (first_i ∷ second_i ∷ [])) two ≡ S0 0 ∷ S1 0 ∷ S1 1 ∷ S0 1 ∷ []

-- without maps all times are equal: the number decides, and then the instances stay as they stood
abbrev pub TiesStayAsTheyStood : Type 0
TiesStayAsTheyStood = target (through_one (lit 0 ∷ [])) (Time 0 []) two ≡ S0 0 ∷ S0 1 ∷ S1 0 ∷ S1 1 ∷ []

-- a list that has an instance twice, one too few or one too many is no other order of a list
abbrev pub OrdersKeepInstances : Type 0
OrdersKeepInstances =
    (IsReordered (S0 0 ∷ S1 0 ∷ []) (S1 0 ∷ S0 0 ∷ S1 0 ∷ []) → ⊥)
    × (IsReordered (S0 0 ∷ S1 0 ∷ S0 0 ∷ []) (S1 0 ∷ S0 0 ∷ []) → ⊥)
    × (IsReordered (S0 0 ∷ S1 0 ∷ []) (S1 0 ∷ []) → ⊥)
    × (IsReordered (S0 0 ∷ []) (S1 0 ∷ S0 0 ∷ []) → ⊥)

-- ---- A chain: t[i + 1] = t[i] + in[i] for i from 0 to N - 1, after t[0] = in[0]

abbrev chain : Program
chain = program (Add n (lit 1) ∷ []) (
    each (lit 0) (lit 1) (store 2 (i ∷ []) (loaded 0 i) ∷ [])
    ∷ each (lit 0) n (store 2 (Add i (lit 1) ∷ []) (plus (loaded 2 i) (loaded 0 i)) ∷ [])
    ∷ [])

-- run backwards, S1(1) loads t[1] before S1(0) has stored it; S0(0) at time 0 comes before S1(0) by its number and after S1(1)
abbrev pub BackwardsIsIllegal : Type 0
BackwardsIsIllegal =
    (target chain (Time 1 (at_i ∷ backwards ∷ [])) two ≡ S1 1 ∷ S0 0 ∷ S1 0 ∷ [])
    × (violations chain (Time 1 (at_i ∷ backwards ∷ [])) two ≡ (S1 0, S1 1) ∷ [])

-- S1(0) stores t[1] only after it has loaded t[0], so one element is enough
abbrev pub OwnStoreComesAfter : Type 0
OwnStoreComesAfter = live_pairs chain Source two ≡ []

-- ---- A sum: out[i] += in[i] for i from 0 to N - 1. S0(1) loads out[1], which is handed in and has no source.

abbrev add_up : Program
add_up = program (lit 1 ∷ []) (each (lit 0) n (Assign (Some op.Add) (record { 0 = 1 }) (i ∷ []) (loaded 0 i) ∷ []) ∷ [])

abbrev pub HandedInIsNoSource : Type 0
HandedInIsNoSource = (source add_up two (S0 1) (cell 1 1) ≡ None) × (live_pairs add_up Source two ≡ [])

-- ---- Loops round statements: two, one inside the other, then statements under an `if`, in no loop and in a block

abbrev touch : Stmt
touch = store 2 (lit 0 ∷ []) (Const 1)

abbrev nest : Program
nest = program (lit 1 ∷ []) (
    each (lit 0) n (touch ∷ each (lit 0) n (touch ∷ []) ∷ If (cond.Compare Less (lit 0) n) (touch ∷ []) [] ∷ [])
    ∷ touch
    ∷ Block [] (each (lit 0) n (touch ∷ []) ∷ [])
    ∷ [])

abbrev pub LoopsAreCounted : Type 0
LoopsAreCounted = loops_round nest ≡ 1 ∷ 2 ∷ 1 ∷ 0 ∷ 1 ∷ []

-- a block without locals is plain, and a local anywhere inside is seen
abbrev pub LocalsAreSeen : Type 0
LocalsAreSeen =
    (has_no_locals nest ≡ true)
    × (has_no_locals (program [] (each (lit 0) n (If (cond.Compare Less (lit 0) n) (Block (record { name = []; value = n } ∷ []) [] ∷ []) [] ∷ []) ∷ [])) ≡ false)

-- ---- A scalar: { t = in[i]; out[i] = t; }

abbrev pub ScalarHasOneElement : Type 0
ScalarHasOneElement =
    (source (through_one []) two (S1 1) (2, []) ≡ Some (S0 1))
    × (live_pairs (through_one []) Source two ≡ [])

-- ---- Programs that are stuck, as their own targets

-- where `in` holds nothing, S0(0) of the scalar finds no value, and this is no bar
abbrev pub StuckForAValueRunsTarget : Type 0
StuckForAValueRunsTarget =
    ((steps : ℕ) × (meaning (through_one []) two [] ≡ Stuck (Unwritten (S0 0) 0) steps))
    × RunsTarget (through_one []) (through_one []) Source (λ x. x) two []

-- t[i] = 1 for i from 0 to N - 1, where t has one element
abbrev past_the_end : Program
past_the_end = program (lit 1 ∷ []) (each (lit 0) n (store 2 (i ∷ []) (Const 1) ∷ []) ∷ [])

-- S0(1) stores outside of t, and this is one
abbrev pub StuckOutOfBoundsDoesNot : Type 0
StuckOutOfBoundsDoesNot =
    ((steps : ℕ) × (meaning past_the_end two [] ≡ Stuck (OutOfBounds (S0 1) 0) steps))
    × (RunsTarget past_the_end past_the_end Source (λ x. x) two [] → ⊥)
