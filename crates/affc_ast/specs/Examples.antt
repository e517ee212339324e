-- What the definitions give at small programs. Each value was found by hand from the rules.
use Rattle.std.specs.Prelude.{◌≡◌, ℕ, ℤ, pos, negsuc, true, false, List, [], ◌∷◌, Some, None, Ok, Err, map, reverse, codes, ◌==◌, if◌then◌else◌}
use Rattle.affc_ast.specs.declared.tree.ArrayId.{ArrayId}
use Rattle.affc_ast.specs.declared.tree.Compare.{Compare}
use Rattle.affc_ast.specs.declared.tree.Cond.{Cond}
use Rattle.affc_ast.specs.declared.tree.Cond.TheVariants as d
use Rattle.affc_ast.specs.declared.tree.Decl.{Decl}
use Rattle.affc_ast.specs.declared.tree.Instance.{Instance}
use Rattle.affc_ast.specs.declared.tree.Ix.{Ix}
use Rattle.affc_ast.specs.declared.tree.Ix.TheVariants.{Lit, Name, Neg, Add, Sub, Mul, Min, Max, Floord, Ceild, Mod}
use Rattle.affc_ast.specs.declared.tree.Op.TheVariants as op
use Rattle.affc_ast.specs.declared.tree.Param.TheVariants.{Number, Array}
use Rattle.affc_ast.specs.declared.tree.Program.{Program}
use Rattle.affc_ast.specs.declared.tree.Rel.TheVariants.{Less, LessEqual, Greater, GreaterEqual, Equal, NotEqual}
use Rattle.affc_ast.specs.declared.tree.Role.{Role}
use Rattle.affc_ast.specs.declared.tree.Role.TheVariants.{Input, Output, Temp}
use Rattle.affc_ast.specs.declared.tree.Stmt.{Stmt}
use Rattle.affc_ast.specs.declared.tree.Stmt.TheVariants.{For, If, Assign, Block}
use Rattle.affc_ast.specs.declared.tree.Val.TheVariants.{Load, Const, Cast, Bin}
use Rattle.affc_ast.specs.Cause.{Extent, Overflow, OutOfBounds, Unwritten}
use Rattle.affc_ast.specs.Fits.{Fits, within_ranges, meets, outputs}
use Rattle.affc_ast.specs.Follows.{Follows, in_source_order, own_place}
use Rattle.affc_ast.specs.Conditions.{condition}
use Rattle.affc_ast.specs.Index.{index_value, compares}
use Rattle.affc_ast.specs.Meaning.{Ended, Stuck, meaning}
use Rattle.affc_ast.specs.Store.{Element, Store, at}
use Rattle.affc_ast.specs.Trace.{trace, events}
use Rattle.affc_ast.specs.Values.{operate, complement, shifted, converted}

-- ---- Numbers

abbrev pub lit : ℕ → Ix
lit n = Lit (pos n)

abbrev minus_one : Ix
minus_one = Lit (negsuc 0)

-- affc_floord(-1, 2) is -1, affc_ceild(-1, 2) is 0, affc_ceild(5, 2) is 3, affc_ceild(4, 2) is 2, affc_ceild(-4, 2) is -2
abbrev pub QuotientsRound : Type 0
QuotientsRound =
    (index_value (Floord minus_one (pos 2)) 0 [] ≡ Ok (negsuc 0)) ×
    (index_value (Ceild minus_one (pos 2)) 0 [] ≡ Ok (pos 0)) ×
    (index_value (Ceild (lit 5) (pos 2)) 0 [] ≡ Ok (pos 3)) ×
    (index_value (Ceild (lit 4) (pos 2)) 0 [] ≡ Ok (pos 2)) ×
    (index_value (Ceild (Lit (negsuc 3)) (pos 2)) 0 [] ≡ Ok (negsuc 1))

-- affc_mod(-1, 5) is 4, affc_mod(-5, 5) is 0, affc_mod(7, 5) is 2, affc_mod(7, 1) is 0
abbrev pub RemaindersStartAtZero : Type 0
RemaindersStartAtZero =
    (index_value (Mod minus_one (lit 5)) 0 [] ≡ Ok (pos 4)) ×
    (index_value (Mod (Lit (negsuc 4)) (lit 5)) 0 [] ≡ Ok (pos 0)) ×
    (index_value (Mod (lit 7) (lit 5)) 0 [] ≡ Ok (pos 2)) ×
    (index_value (Mod (lit 7) (lit 1)) 0 [] ≡ Ok (pos 0))

-- affc_min(2, -1) is -1, affc_max(2, -1) is 2
abbrev pub LeastAndGreatest : Type 0
LeastAndGreatest =
    (index_value (Min (lit 2) minus_one) 0 [] ≡ Ok (negsuc 0)) ×
    (index_value (Max (lit 2) minus_one) 0 [] ≡ Ok (pos 2))

-- 1 + affc_mod(7, 0): the sum is node 10 and the remainder node 12
abbrev pub DivisorsAreAtLeastOne : Type 0
DivisorsAreAtLeastOne = index_value (Add (lit 1) (Mod (lit 7) (lit 0))) 10 [] ≡ Err (Overflow 12)

abbrev pub greatest_int64 : Ix
greatest_int64 = lit 9223372036854775807

-- -2^63 and 2^63 - 1 are numbers of `int64_t`, and those next to them aren't: -(2^63 - 1) - 1, -(2^63 - 1) - 2, 2^63 - 2 + 1, 2^63 - 1 + 1
abbrev pub NumbersHaveTheirEnds : Type 0
NumbersHaveTheirEnds =
    (index_value (Sub (Neg greatest_int64) (lit 1)) 0 [] ≡ Ok (negsuc 9223372036854775807)) ×
    (index_value (Sub (Neg greatest_int64) (lit 2)) 0 [] ≡ Err (Overflow 0)) ×
    (index_value (Add (lit 9223372036854775806) (lit 1)) 0 [] ≡ Ok (pos 9223372036854775807)) ×
    (index_value (Add greatest_int64 (lit 1)) 0 [] ≡ Err (Overflow 0))

-- -(-2^63) is 2^63; the negation is node 0
abbrev pub NegationsOverflow : Type 0
NegationsOverflow = index_value (Neg (Lit (negsuc 9223372036854775807))) 0 [] ≡ Err (Overflow 0)

-- 7 - 2, 12 & 10, 12 | 10, 12 ^ 10, ~5, 3 << 2, 13 >> 2, (uint64_t)(5)
abbrev pub ValuesCompute : Type 0
ValuesCompute =
    (operate op.Sub 7 2 ≡ 5) ×
    (operate op.And 12 10 ≡ 8) ×
    (operate op.Or 12 10 ≡ 14) ×
    (operate op.Xor 12 10 ≡ 6) ×
    (complement 5 ≡ 18446744073709551610) ×
    (shifted true 3 2 ≡ 12) ×
    (shifted false 13 2 ≡ 3) ×
    (converted (pos 5) ≡ 5)

-- 2^64 - 1 + 2, 0 - 1, 2^63 * 3, ~0, 2^63 << 1, (uint64_t)(-2)
abbrev pub ValuesWrap : Type 0
ValuesWrap =
    (operate op.Add 18446744073709551615 2 ≡ 1) ×
    (operate op.Sub 0 1 ≡ 18446744073709551615) ×
    (operate op.Mul 9223372036854775808 3 ≡ 9223372036854775808) ×
    (complement 0 ≡ 18446744073709551615) ×
    (shifted true 9223372036854775808 1 ≡ 0) ×
    (converted (negsuc 1) ≡ 18446744073709551614)

abbrev one_two_three : List ℤ
one_two_three = pos 1 ∷ pos 2 ∷ pos 3 ∷ []

-- each relation at 1 and 2, at 2 and 2, and at 3 and 2
abbrev pub RelationsCompare : Type 0
RelationsCompare =
    (map (λ x. compares Less x (pos 2)) one_two_three ≡ true ∷ false ∷ false ∷ []) ×
    (map (λ x. compares LessEqual x (pos 2)) one_two_three ≡ true ∷ true ∷ false ∷ []) ×
    (map (λ x. compares Greater x (pos 2)) one_two_three ≡ false ∷ false ∷ true ∷ []) ×
    (map (λ x. compares GreaterEqual x (pos 2)) one_two_three ≡ false ∷ true ∷ true ∷ []) ×
    (map (λ x. compares Equal x (pos 2)) one_two_three ≡ false ∷ true ∷ false ∷ []) ×
    (map (λ x. compares NotEqual x (pos 2)) one_two_three ≡ true ∷ false ∷ true ∷ [])

abbrev too_great : Compare
too_great = record { rel = Equal; left = Add greatest_int64 (lit 1); right = lit 0 }

abbrev pub never : Compare
never = record { rel = Less; left = lit 0; right = lit 0 }

abbrev pub always : Compare
always = record { rel = LessEqual; left = lit 0; right = lit 0 }

-- a comparison as the condition of an `if`
abbrev pub when : Compare → Cond
when c = d.Compare c.rel c.left c.right

-- 0 < 0 && 2^63 - 1 + 1 == 0 is false; with the two exchanged the sum, which is node 2, is read; behind 0 <= 0, which is
-- nodes 1 to 3, it is node 5
abbrev pub FirstFalseEndsTheReading : Type 0
FirstFalseEndsTheReading =
    (condition (d.All (when never ∷ when too_great ∷ [])) 0 [] ≡ Ok false) ×
    (condition (d.All (when too_great ∷ when never ∷ [])) 0 [] ≡ Err (Overflow 2)) ×
    (condition (d.All (when always ∷ when too_great ∷ [])) 0 [] ≡ Err (Overflow 5)) ×
    (condition (d.All (when always ∷ when always ∷ [])) 0 [] ≡ Ok true)

-- 0 <= 0 || 2^63 - 1 + 1 == 0 is true; with the two exchanged the sum is read, and so it is behind 0 < 0; 0 < 0 || 0 < 0 is false
abbrev pub FirstTrueEndsTheReading : Type 0
FirstTrueEndsTheReading =
    (condition (d.Any (when always ∷ when too_great ∷ [])) 0 [] ≡ Ok true) ×
    (condition (d.Any (when too_great ∷ when always ∷ [])) 0 [] ≡ Err (Overflow 2)) ×
    (condition (d.Any (when never ∷ when too_great ∷ [])) 0 [] ≡ Err (Overflow 5)) ×
    (condition (d.Any (when never ∷ when never ∷ [])) 0 [] ≡ Ok false)

-- -6 % 3 == 0 and -5 % 3 != 0 are true, -6 % 3 != 0 and -5 % 3 == 0 are false; the value is the node behind the condition's
abbrev pub RemaindersAreTested : Type 0
RemaindersAreTested =
    (condition (d.Divides (Lit (negsuc 5)) (pos 3) true) 0 [] ≡ Ok true) ×
    (condition (d.Divides (Lit (negsuc 4)) (pos 3) false) 0 [] ≡ Ok true) ×
    (condition (d.Divides (Lit (negsuc 5)) (pos 3) false) 0 [] ≡ Ok false) ×
    (condition (d.Divides (Lit (negsuc 4)) (pos 3) true) 0 [] ≡ Ok false) ×
    (condition (d.Divides (Add greatest_int64 (lit 1)) (pos 3) true) 4 [] ≡ Err (Overflow 5))

-- ---- Programs over in[N] and out[N], where N is from 0 to 4

abbrev pub n : Ix
n = Name (record { 0 = 0 })

abbrev pub i : Ix
i = Name (record { 0 = 1 })

abbrev pub input : ArrayId
input = record { 0 = 0 }

abbrev pub output : ArrayId
output = record { 0 = 1 }

abbrev pub temporary : ArrayId
temporary = record { 0 = 2 }

abbrev pub array : Role → List Ix → Decl
array role extents = record { name = []; role = role; extents = extents }

abbrev pub program : (context : List Compare) → (temps : List Decl) → (body : List Stmt) → Program
program context temps body = record {
  name = [];
  params = Number [] (pos 0) (pos 4) ∷ Array (array Input (n ∷ [])) ∷ Array (array Output (n ∷ [])) ∷ [];
  context = context;
  temps = temps;
  body = body;
  prelude = false;
}

-- for (int64_t i = 0; i < N; i++) statement
abbrev pub each : Stmt → Stmt
each s = For [] (lit 0) Less n (s ∷ [])

-- array[subscript] = from[at];
abbrev pub assign : ArrayId → Ix → ArrayId → Ix → Stmt
assign array subscript from at = Assign None array (subscript ∷ []) (Load from (at ∷ []))

-- array[subscript] += from[at];
abbrev increase : ArrayId → Ix → ArrayId → Ix → Stmt
increase array subscript from at = Assign (Some op.Add) array (subscript ∷ []) (Load from (at ∷ []))

abbrev pub instance : (statement : ℕ) → List ℤ → Instance
instance statement iterators = record { statement = statement; iterators = iterators }

abbrev pub cell : (array x : ℕ) → Element
cell array x = (array, pos x ∷ [])

-- in holds 7 8 9, and out holds a b c
abbrev pub three : (a b c : ℕ) → Store
three a b c = (cell 0 0, 7) ∷ (cell 0 1, 8) ∷ (cell 0 2, 9) ∷ (cell 1 0, a) ∷ (cell 1 1, b) ∷ (cell 1 2, c) ∷ []

-- in holds 7, and out holds 1
abbrev pub one : Store
one = (cell 0 0, 7) ∷ (cell 1 0, 1) ∷ []

-- ---- Runs that end

-- #pragma affc param N 1 high
-- void f(int64_t N, const uint64_t in[N], uint64_t out[N]) {
--   for (int64_t i = 0; i < N; i++) out[i] = in[i];
-- }
abbrev pub copying_up_to : (high : ℕ) → Program
copying_up_to high = record {
  name = codes "f";
  params = Number (codes "N") (pos 1) (pos high)
      ∷ Array (record { name = codes "in"; role = Input; extents = n ∷ [] })
      ∷ Array (record { name = codes "out"; role = Output; extents = n ∷ [] })
      ∷ [];
  context = [];
  temps = [];
  body = For (codes "i") (lit 0) Less n (assign output i input i ∷ []) ∷ [];
  prelude = false;
}

-- for N from 1 to 4
abbrev pub copying : Program
copying = copying_up_to 4

-- the copy loop ends with out = 7 8 9, after three turns and three assignments
abbrev pub CopyLoopCopies : Type 0
CopyLoopCopies =
    meaning copying (pos 3 ∷ []) (three 0 0 0)
    ≡ Ended (record { store = three 7 8 9; written = (cell 1 0, 7) ∷ (cell 1 1, 8) ∷ (cell 1 2, 9) ∷ []; steps = 6 })

abbrev pub OutputsAreOut : Type 0
OutputsAreOut = outputs copying (three 7 8 9) ≡ (cell 1 0, 7) ∷ (cell 1 1, 8) ∷ (cell 1 2, 9) ∷ []

abbrev pub CopyLoopTrace : Type 0
CopyLoopTrace = trace copying (pos 3 ∷ []) ≡ instance 0 (pos 0 ∷ []) ∷ instance 0 (pos 1 ∷ []) ∷ instance 0 (pos 2 ∷ []) ∷ []

-- S0(2) loads in[2] and stores out[2]
abbrev pub CopyLoopEvents : Type 0
CopyLoopEvents = events copying (pos 3 ∷ []) (instance 0 (pos 2 ∷ [])) ≡ cell 0 2 ∷ cell 1 2 ∷ []

-- out[i] += in[i]; from out = 1 2 3
abbrev pub CompoundAdds : Type 0
CompoundAdds =
    meaning (program [] [] (each (increase output i input i) ∷ [])) (pos 3 ∷ []) (three 1 2 3)
    ≡ Ended (record { store = three 8 10 12; written = (cell 1 0, 8) ∷ (cell 1 1, 10) ∷ (cell 1 2, 12) ∷ []; steps = 6 })

-- out[i] -= in[i]; from out = 17 28 39
abbrev pub CompoundSubtracts : Type 0
CompoundSubtracts =
    meaning (program [] [] (each (Assign (Some op.Sub) output (i ∷ []) (Load input (i ∷ []))) ∷ [])) (pos 3 ∷ []) (three 17 28 39)
    ≡ Ended (record { store = three 10 20 30; written = (cell 1 0, 10) ∷ (cell 1 1, 20) ∷ (cell 1 2, 30) ∷ []; steps = 6 })

-- out[0] = in[2] - in[0];
abbrev difference : Program
difference = program [] [] (Assign None output (lit 0 ∷ []) (Bin op.Sub (Load input (lit 2 ∷ [])) (Load input (lit 0 ∷ []))) ∷ [])

abbrev pub ValuesAreReadFromTheLeft : Type 0
ValuesAreReadFromTheLeft =
    (meaning difference (pos 3 ∷ []) (three 0 0 0) ≡ Ended (record { store = three 2 0 0; written = (cell 1 0, 2) ∷ []; steps = 1 })) ×
    (events difference (pos 3 ∷ []) (instance 0 []) ≡ cell 0 2 ∷ cell 0 0 ∷ cell 1 0 ∷ [])

-- for (i = 0; i < N; i++) if (i >= 1 && i < 2) out[i] = in[i];
abbrev only_one : Program
only_one = program [] [] (each (If (d.All (d.Compare GreaterEqual i (lit 1) ∷ d.Compare Less i (lit 2) ∷ [])) (assign output i input i ∷ []) []) ∷ [])

abbrev pub ConditionsChoose : Type 0
ConditionsChoose =
    (meaning only_one (pos 3 ∷ []) (three 0 0 0) ≡ Ended (record { store = three 0 8 0; written = (cell 1 1, 8) ∷ []; steps = 4 })) ×
    (trace only_one (pos 3 ∷ []) ≡ instance 0 (pos 1 ∷ []) ∷ [])

-- for (i = 0; i < N; i++) { if (i % 2 == 0) out[i] = in[i]; else { out[i] = in[0]; } out[0] = in[i]; }
abbrev even_and_odd : Program
even_and_odd = program [] []
    (For [] (lit 0) Less n (If (d.Divides i (pos 2) true) (assign output i input i ∷ []) (assign output i input (lit 0) ∷ []) ∷ assign output (lit 0) input i ∷ []) ∷ [])

-- the statements of the body come before those of the other
abbrev pub OthersRunWhereNot : Type 0
OthersRunWhereNot =
    (meaning even_and_odd (pos 3 ∷ []) (three 0 0 0)
    ≡ Ended (record {
      store = three 9 7 9;
      written = (cell 1 0, 7) ∷ (cell 1 0, 7) ∷ (cell 1 1, 7) ∷ (cell 1 0, 8) ∷ (cell 1 2, 9) ∷ (cell 1 0, 9) ∷ [];
      steps = 9;
    })) ×
    (trace even_and_odd (pos 3 ∷ [])
    ≡ instance 0 (pos 0 ∷ []) ∷ instance 2 (pos 0 ∷ []) ∷ instance 1 (pos 1 ∷ []) ∷ instance 2 (pos 1 ∷ []) ∷ instance 0 (pos 2 ∷ []) ∷ instance 2 (pos 2 ∷ []) ∷ [])

-- for (i = 0; i < 2; i++) for (j = 0; j <= i; j++) out[i] += in[j];
abbrev triangle : Program
triangle = program [] [] (For [] (lit 0) Less (lit 2) (For [] (lit 0) LessEqual i (increase output i input (Name (record { 0 = 2 })) ∷ []) ∷ []) ∷ [])

abbrev pub LoopsNest : Type 0
LoopsNest =
    (meaning triangle (pos 3 ∷ []) (three 0 0 0) ≡ Ended (record { store = three 7 15 0; written = (cell 1 0, 7) ∷ (cell 1 1, 7) ∷ (cell 1 1, 15) ∷ []; steps = 8 })) ×
    (trace triangle (pos 3 ∷ []) ≡ instance 0 (pos 0 ∷ pos 0 ∷ []) ∷ instance 0 (pos 1 ∷ pos 0 ∷ []) ∷ instance 0 (pos 1 ∷ pos 1 ∷ []) ∷ [])

-- two statements in one loop: out[i] = in[i]; out[i] += in[0];
abbrev two_statements : Program
two_statements = program [] [] (For [] (lit 0) LessEqual (lit 1) (assign output i input i ∷ increase output i input (lit 0) ∷ []) ∷ [])

abbrev pub TwoStatementsTakeTurns : Type 0
TwoStatementsTakeTurns =
    trace two_statements (pos 3 ∷ [])
    ≡ instance 0 (pos 0 ∷ []) ∷ instance 1 (pos 0 ∷ []) ∷ instance 0 (pos 1 ∷ []) ∷ instance 1 (pos 1 ∷ []) ∷ []

abbrev pub TwoStatementsRun : Type 0
TwoStatementsRun =
    meaning two_statements (pos 3 ∷ []) (three 0 0 0)
    ≡ Ended (record { store = three 14 15 0; written = (cell 1 0, 7) ∷ (cell 1 0, 14) ∷ (cell 1 1, 8) ∷ (cell 1 1, 15) ∷ []; steps = 6 })

-- S1(1) loads its own element out[1], then in[0], and stores out[1]
abbrev pub CompoundLoadsFirst : Type 0
CompoundLoadsFirst = events two_statements (pos 3 ∷ []) (instance 1 (pos 1 ∷ [])) ≡ cell 1 1 ∷ cell 0 0 ∷ cell 1 1 ∷ []

-- { const int64_t a = N - 2; const int64_t b = a + 1; out[a] = in[b]; } at N = 3, where a is 1 and b is 2
abbrev pub LocalsSeeThoseBefore : Type 0
LocalsSeeThoseBefore =
    meaning (program [] [] (Block (record { name = []; value = Sub n (lit 2) } ∷ record { name = []; value = Add (Name (record { 0 = 1 })) (lit 1) } ∷ [])
    (assign output (Name (record { 0 = 1 })) input (Name (record { 0 = 2 })) ∷ []) ∷ [])) (pos 3 ∷ []) (three 0 0 0)
    ≡ Ended (record { store = three 0 9 0; written = (cell 1 1, 9) ∷ []; steps = 1 })

-- ---- Runs that are stuck. In a program without a context the extents are nodes 0 and 1, and the body begins at node 2.

-- out[i] = in[i + 1]; reads past the end in the third turn, with its first access
abbrev pub LoadsStayInside : Type 0
LoadsStayInside =
    meaning (program [] [] (each (assign output i input (Add i (lit 1))) ∷ [])) (pos 3 ∷ []) (three 0 0 0)
    ≡ Stuck (OutOfBounds (instance 0 (pos 2 ∷ [])) 0) 6

-- out[i + 1] = in[i]; stores past the end in the third turn, with its second access
abbrev pub StoresStayInside : Type 0
StoresStayInside =
    meaning (program [] [] (each (assign output (Add i (lit 1)) input i) ∷ [])) (pos 3 ∷ []) (three 0 0 0)
    ≡ Stuck (OutOfBounds (instance 0 (pos 2 ∷ [])) 1) 6

-- out[0] = in[-1];
abbrev pub SubscriptsStartAtZero : Type 0
SubscriptsStartAtZero =
    meaning (program [] [] (assign output (lit 0) input minus_one ∷ [])) (pos 3 ∷ []) (three 0 0 0)
    ≡ Stuck (OutOfBounds (instance 0 []) 0) 1

-- out[0] = in[0]; out[1] += in[1] + in[3]; the third access of S1
abbrev pub AccessesAreCounted : Type 0
AccessesAreCounted =
    meaning (program [] [] (assign output (lit 0) input (lit 0)
    ∷ Assign (Some op.Add) output (lit 1 ∷ []) (Bin op.Add (Load input (lit 1 ∷ [])) (Load input (lit 3 ∷ []))) ∷ [])) (pos 3 ∷ []) (three 0 0 0)
    ≡ Stuck (OutOfBounds (instance 1 []) 2) 2

-- two statements in one loop, then out[0] = in[9]; which is S2
abbrev third_statement : Program
third_statement =
    program [] [] (For [] (lit 0) Less (lit 1) (assign output i input i ∷ assign output i input i ∷ []) ∷ assign output (lit 0) input (lit 9) ∷ [])

abbrev pub StatementsAreCounted : Type 0
StatementsAreCounted =
    (meaning third_statement (pos 3 ∷ []) (three 0 0 0) ≡ Stuck (OutOfBounds (instance 2 []) 0) 4) ×
    (trace third_statement (pos 3 ∷ []) ≡ instance 0 (pos 0 ∷ []) ∷ instance 1 (pos 0 ∷ []) ∷ instance 2 [] ∷ [])

-- out[i] = t[i]; where nothing was stored in t
abbrev pub LoadsFindValues : Type 0
LoadsFindValues =
    meaning (program [] (array Temp (n ∷ []) ∷ []) (each (assign output i temporary i) ∷ [])) (pos 1 ∷ []) one
    ≡ Stuck (Unwritten (instance 0 (pos 0 ∷ [])) 0) 2

-- t[i] += in[i + 1]; at N = 1 loads its own element, which has no value, before in[1], which isn't there
abbrev pub OwnElementComesFirst : Type 0
OwnElementComesFirst =
    meaning (program [] (array Temp (n ∷ []) ∷ []) (each (increase temporary i input (Add i (lit 1))) ∷ [])) (pos 1 ∷ []) one
    ≡ Stuck (Unwritten (instance 0 (pos 0 ∷ [])) 0) 2

-- for (int64_t j = first; j <= first; j++) out[65536 * j] = in[0];
abbrev far : (first : ℕ) → Program
far first = program [] [] (For [] (lit first) LessEqual (lit first) (assign output (Mul (lit 65536) i) input (lit 0) ∷ []) ∷ [])

-- 65536 * 2^47 is 2^63: the loop is node 2, its bounds 3 and 4, the assignment 5 and the product 6
abbrev pub ProductsOverflow : Type 0
ProductsOverflow = meaning (far 140737488355328) (pos 1 ∷ []) one ≡ Stuck (Overflow 6) 2

-- 65536 * (2^47 - 1) is an `int64_t`, and lies outside of out
abbrev pub ProductsFit : Type 0
ProductsFit = meaning (far 140737488355327) (pos 1 ∷ []) one ≡ Stuck (OutOfBounds (instance 0 (pos 140737488355327 ∷ [])) 1) 2

-- the same under the context N > 0, which is nodes 2 to 4
abbrev pub ContextHasNodes : Type 0
ContextHasNodes =
    meaning (program (record { rel = Greater; left = n; right = lit 0 } ∷ []) [] (far 140737488355328).body) (pos 1 ∷ []) one
    ≡ Stuck (Overflow 9) 2

-- the same with a temporary t[N], whose extent is node 2; and t[2^63 - 1 + N] under the context N > 0, where it is node 5
abbrev pub TemporariesHaveNodes : Type 0
TemporariesHaveNodes =
    (meaning (program [] (array Temp (n ∷ []) ∷ []) (far 140737488355328).body) (pos 1 ∷ []) one ≡ Stuck (Overflow 7) 2) ×
    (meaning (program (record { rel = Greater; left = n; right = lit 0 } ∷ []) (array Temp (Add greatest_int64 n ∷ []) ∷ []) []) (pos 1 ∷ []) one
    ≡ Stuck (Overflow 5) 0)

-- if (N > 0) out[0] = in[0] + (uint64_t)(2^63 - 1 + N); the `if` is node 2, its condition 3 to 5, the assignment 6, its
-- subscript 7, the sum of values 8, the load 9 and 10, the cast 11 and the sum in it 12
abbrev pub ValuesHaveNodes : Type 0
ValuesHaveNodes =
    meaning (program [] [] (If (d.Compare Greater n (lit 0))
    (Assign None output (lit 0 ∷ []) (Bin op.Add (Load input (lit 0 ∷ [])) (Cast (Add greatest_int64 n))) ∷ []) [] ∷ [])) (pos 1 ∷ []) one
    ≡ Stuck (Overflow 12) 1

-- out[0] = in[0]; { const int64_t a = N; out[2^63 - 1 + a] = 5ULL; } the first assignment is nodes 2 to 5, the block 6, the
-- value of the local 7, the second assignment 8 and its subscript 9
abbrev pub BlocksHaveNodes : Type 0
BlocksHaveNodes =
    meaning (program [] [] (assign output (lit 0) input (lit 0)
    ∷ Block (record { name = []; value = n } ∷ []) (Assign None output (Add greatest_int64 i ∷ []) (Const 5) ∷ []) ∷ [])) (pos 1 ∷ []) one
    ≡ Stuck (Overflow 9) 2

-- { const int64_t a = N; const int64_t b = 2^63 - 1 + a; } the block is node 2, the values 3 and 4
abbrev pub LocalsHaveNodes : Type 0
LocalsHaveNodes =
    meaning (program [] [] (Block (record { name = []; value = n } ∷ record { name = []; value = Add greatest_int64 i } ∷ []) [] ∷ [])) (pos 1 ∷ []) one
    ≡ Stuck (Overflow 4) 0

-- in[N] at N = 0
abbrev pub ExtentsAreAtLeastOne : Type 0
ExtentsAreAtLeastOne = meaning (program [] [] []) (pos 0 ∷ []) [] ≡ Stuck (Extent 0) 0

-- t[N - 1][2^63 - 1 + N] at N = 1: the first extent is 0, and the second isn't read
abbrev pub FirstExtentEndsTheReading : Type 0
FirstExtentEndsTheReading =
    meaning (program [] (array Temp (Sub n (lit 1) ∷ Add greatest_int64 n ∷ []) ∷ []) []) (pos 1 ∷ []) one
    ≡ Stuck (Extent 2) 0

-- t[N] and u[N - 1] at N = 1, or u[2^63 - 1 + N], whose extent is node 3
abbrev pub ExtentsAreReadInOrder : Type 0
ExtentsAreReadInOrder =
    (meaning (program [] (array Temp (n ∷ []) ∷ array Temp (Sub n (lit 1) ∷ []) ∷ []) []) (pos 1 ∷ []) one ≡ Stuck (Extent 3) 0) ×
    (meaning (program [] (array Temp (n ∷ []) ∷ array Temp (Add greatest_int64 n ∷ []) ∷ []) []) (pos 1 ∷ []) one ≡ Stuck (Overflow 3) 0)

-- for (int64_t i = 2^63 - 1; i <= 2^63 - 1; i++) out[0] = in[0]; runs its body, and then can't step
abbrev pub StepsOverflow : Type 0
StepsOverflow =
    meaning (program [] [] (For [] greatest_int64 LessEqual greatest_int64 (assign output (lit 0) input (lit 0) ∷ []) ∷ [])) (pos 1 ∷ []) one
    ≡ Stuck (Overflow 2) 2

-- ---- Data

-- the copy loop takes N from 1 to 4, and no other number
abbrev pub RangesHoldTheirEnds : Type 0
RangesHoldTheirEnds =
    (within_ranges copying.params (pos 1 ∷ []) ≡ true) ×
    (within_ranges copying.params (pos 4 ∷ []) ≡ true) ×
    (within_ranges copying.params (pos 0 ∷ []) ≡ false) ×
    (within_ranges copying.params (pos 5 ∷ []) ≡ false) ×
    (within_ranges copying.params [] ≡ false) ×
    (within_ranges copying.params (pos 1 ∷ pos 1 ∷ []) ≡ false)

-- in = 7 8 9 and out = 0 0 0 fit it at N = 3
abbrev pub SomeDataFit : Type 0
SomeDataFit = Fits copying (pos 3 ∷ []) (three 0 0 0)

-- an element holds a value of `uint64_t`: 2^64 - 1 fits, and 2^64 doesn't
abbrev pub ValuesKeepTheirSize : Type 0
ValuesKeepTheirSize =
    Fits copying (pos 3 ∷ []) (three 0 0 18446744073709551615) ×
    (Fits copying (pos 3 ∷ []) (three 0 0 18446744073709551616) → ⊥)

-- affc_mod(N, 0) == 0 has no value, and isn't met
abbrev pub ConditionsHaveValues : Type 0
ConditionsHaveValues =
    (meets (record { rel = Equal; left = Mod n (lit 0); right = lit 0 } ∷ []) (pos 3 ∷ []) ≡ false) ×
    (meets (record { rel = Equal; left = Mod n (lit 3); right = lit 0 } ∷ []) (pos 3 ∷ []) ≡ true)

-- 2^63 - 1 + N > 2^63 - 1 at N = 1, in whole numbers without limit
abbrev pub ContextsHaveNoLimit : Type 0
ContextsHaveNoLimit = meets (record { rel = Greater; left = Add greatest_int64 n; right = greatest_int64 } ∷ []) (pos 1 ∷ []) ≡ true

-- ---- Following

-- for (i = 0; i < 2; i++) out[1 - i] = in[1 - i]; makes the copies in the other order
abbrev pub backwards : Program
backwards = program [] [] (For [] (lit 0) Less (lit 2) (assign output (Sub (lit 1) i) input (Sub (lit 1) i) ∷ []) ∷ [])

abbrev pub two : (a b : ℕ) → Store
two a b = (cell 0 0, 7) ∷ (cell 0 1, 8) ∷ (cell 1 0, a) ∷ (cell 1 1, b) ∷ []

abbrev pub FollowsInAnotherOrder : Type 0
FollowsInAnotherOrder = Follows backwards copying reverse own_place (pos 2 ∷ []) (two 0 0)

-- uint64_t t[extent]; for (i = 0; i < N; i++) { t[at] = in[i]; out[i] = t[at]; }
abbrev pub through : (extent at : Ix) → Program
through extent at = program [] (array Temp (extent ∷ []) ∷ []) (For [] (lit 0) Less n (assign temporary at input i ∷ assign output i temporary at ∷ []) ∷ [])

-- each element of t at place 0
abbrev folded : Element → Element
folded x = if x.0 == 2 then (2, pos 0 ∷ []) else x

abbrev pub FollowsAtOtherPlaces : Type 0
FollowsAtOtherPlaces = Follows (through (lit 1) (lit 0)) (through n i) in_source_order folded (pos 2 ∷ []) (two 0 0)
