-- What the definitions give at small programs that decide which of two faults comes first, how many nodes each form
-- has, where two dimensions end, how elements are ordered, which accesses are seen inside a statement, and which programs
-- keep to their arrays. Each value was found by hand from the rules.
use Rattle.std.specs.Prelude.{◌≡◌, ℕ, pos, true, false, List, [], ◌∷◌, codes, None, Err}
use Rattle.affc_ast.specs.declared.tree.Cond.TheVariants as d
use Rattle.affc_ast.specs.declared.tree.Ix.{Ix}
use Rattle.affc_ast.specs.declared.tree.Ix.TheVariants.{Neg, Add, Sub, Mul, Floord}
use Rattle.affc_ast.specs.declared.tree.Op.TheVariants as op
use Rattle.affc_ast.specs.declared.tree.Program.{Program}
use Rattle.affc_ast.specs.declared.tree.Rel.TheVariants.{Less, Greater}
use Rattle.affc_ast.specs.declared.tree.Role.TheVariants.{Temp}
use Rattle.affc_ast.specs.declared.tree.Stmt.{Stmt}
use Rattle.affc_ast.specs.declared.tree.Stmt.TheVariants.{For, If, Assign, Block}
use Rattle.affc_ast.specs.declared.tree.Val.TheVariants.{Load, Const, Cast, Not, Bin, Shift}
use Rattle.affc_ast.specs.Cause.{Overflow, OutOfBounds, Unwritten}
use Rattle.affc_ast.specs.Counted.{IsCounted, array_count, node_total}
use Rattle.affc_ast.specs.Examples.{lit, never, greatest_int64, n, i, input, output, temporary, array, program, assign, instance, cell, three, one, copying}
use Rattle.affc_ast.specs.Fits.{meets}
use Rattle.affc_ast.specs.Conditions.{condition}
use Rattle.affc_ast.specs.Index.{index_value}
use Rattle.affc_ast.specs.Meaning.{Ended, Stuck, meaning}
use Rattle.affc_ast.specs.Names.{is_reserved}
use Rattle.affc_ast.specs.Ranks.{has_right_ranks}
use Rattle.affc_ast.specs.Store.{Element}
use Rattle.affc_ast.specs.Trace.{trace, events}

-- 2^63 - 1 + 1
abbrev too_great : Ix
too_great = Add greatest_int64 (lit 1)

-- 2^63 - 1 + N
abbrev too_far : Ix
too_far = Add greatest_int64 n

-- ---- The left side first

-- where both sides of a sum or of a comparison leave `int64_t`, the left one is node 1; behind 0 the right one is node 2
abbrev pub LeftSidesComeFirst : Type 0
LeftSidesComeFirst =
    (index_value (Add too_great too_great) 0 [] ≡ Err (Overflow 1)) ×
    (condition (d.Compare Less too_great too_great) 0 [] ≡ Err (Overflow 1)) ×
    (condition (d.Compare Less (lit 0) too_great) 0 [] ≡ Err (Overflow 2))

-- out[0] = in[8] + in[9];
abbrev pub LeftLoadsComeFirst : Type 0
LeftLoadsComeFirst =
    meaning (program [] [] (Assign None output (lit 0 ∷ []) (Bin op.Add (Load input (lit 8 ∷ [])) (Load input (lit 9 ∷ []))) ∷ [])) (pos 3 ∷ []) (three 0 0 0)
    ≡ Stuck (OutOfBounds (instance 0 []) 0) 1

-- for (i = 2^63 - 1 + N; i < 2^63 - 1 + N; i++), where the loop is node 2 and its lower bound 3; behind the lower bound 0 the
-- upper one is node 4
abbrev pub LowerBoundsComeFirst : Type 0
LowerBoundsComeFirst =
    (meaning (program [] [] (For [] too_far Less too_far [] ∷ [])) (pos 1 ∷ []) one ≡ Stuck (Overflow 3) 0) ×
    (meaning (program [] [] (For [] (lit 0) Less too_far [] ∷ [])) (pos 1 ∷ []) one ≡ Stuck (Overflow 4) 0)

-- uint64_t t[2][3]; and these statements
abbrev with_rows : List Stmt → Program
with_rows body = program [] (array Temp (lit 2 ∷ lit 3 ∷ []) ∷ []) body

-- t[2^63 - 1 + N][2^63 - 1 + N] = in[0]; the extents of t are nodes 2 and 3, the assignment 4 and its first subscript 5
abbrev pub LeftSubscriptsComeFirst : Type 0
LeftSubscriptsComeFirst =
    meaning (with_rows (Assign None temporary (too_far ∷ too_far ∷ []) (Load input (lit 0 ∷ [])) ∷ [])) (pos 1 ∷ []) one
    ≡ Stuck (Overflow 5) 1

-- ---- Subscripts, then the value, then the store

-- out[2^63 - 1 + N] = (uint64_t)(2^63 - 1 + N); the assignment is node 2 and its subscript 3
abbrev pub SubscriptsComeBeforeValues : Type 0
SubscriptsComeBeforeValues =
    meaning (program [] [] (Assign None output (too_far ∷ []) (Cast too_far) ∷ [])) (pos 1 ∷ []) one
    ≡ Stuck (Overflow 3) 1

-- out[9] = in[9];
abbrev pub ValuesComeBeforeStores : Type 0
ValuesComeBeforeStores =
    meaning (program [] [] (assign output (lit 9) input (lit 9) ∷ [])) (pos 3 ∷ []) (three 0 0 0)
    ≡ Stuck (OutOfBounds (instance 0 []) 0) 1

-- out[0] = in[0] + t[0]; where nothing was stored in t: the second access
abbrev pub UnwrittenLoadsAreCounted : Type 0
UnwrittenLoadsAreCounted =
    meaning (program [] (array Temp (n ∷ []) ∷ []) (Assign None output (lit 0 ∷ []) (Bin op.Add (Load input (lit 0 ∷ [])) (Load temporary (lit 0 ∷ []))) ∷ []))
    (pos 1 ∷ []) one
    ≡ Stuck (Unwritten (instance 0 []) 1) 1

-- ---- Two dimensions

abbrev row_cell : (x y : ℕ) → Element
row_cell x y = (2, pos x ∷ pos y ∷ [])

-- t[x][y] = in[0];
abbrev assign_row : (x y : ℕ) → Stmt
assign_row x y = Assign None temporary (lit x ∷ lit y ∷ []) (Load input (lit 0 ∷ []))

-- t[0][3] lies outside of t[2][3], and t[1][2] is its last element
abbrev pub SubscriptsHaveTheirExtents : Type 0
SubscriptsHaveTheirExtents =
    (meaning (with_rows (assign_row 0 3 ∷ [])) (pos 1 ∷ []) one ≡ Stuck (OutOfBounds (instance 0 []) 1) 1) ×
    (meaning (with_rows (assign_row 1 2 ∷ [])) (pos 1 ∷ []) one
    ≡ Ended (record { store = (cell 0 0, 7) ∷ (cell 1 0, 1) ∷ (row_cell 1 2, 7) ∷ []; written = (row_cell 1 2, 7) ∷ []; steps = 1 }))

-- t[1][0] = in[0]; t[0][1] = in[0]; in a store t[0][1] stands before t[1][0]
abbrev pub LastSubscriptsRunFastest : Type 0
LastSubscriptsRunFastest =
    meaning (with_rows (assign_row 1 0 ∷ assign_row 0 1 ∷ [])) (pos 1 ∷ []) one
    ≡ Ended (record {
      store = (cell 0 0, 7) ∷ (cell 1 0, 1) ∷ (row_cell 0 1, 7) ∷ (row_cell 1 0, 7) ∷ [];
      written = (row_cell 1 0, 7) ∷ (row_cell 0 1, 7) ∷ [];
      steps = 2;
    })

-- ---- Values in values

-- out[0] = ~in[0]; out[1] = in[1] << 2; out[2] = (in[2] >> 1) + 5ULL;
abbrev three_values : Program
three_values = program [] []
    (Assign None output (lit 0 ∷ []) (Not (Load input (lit 0 ∷ [])))
    ∷ Assign None output (lit 1 ∷ []) (Shift true (Load input (lit 1 ∷ [])) 2)
    ∷ Assign None output (lit 2 ∷ []) (Bin op.Add (Shift false (Load input (lit 2 ∷ [])) 1) (Const 5)) ∷ [])

abbrev pub ValuesAreStored : Type 0
ValuesAreStored =
    meaning three_values (pos 3 ∷ []) (three 0 0 0)
    ≡ Ended (record {
      store = three 18446744073709551608 32 9;
      written = (cell 1 0, 18446744073709551608) ∷ (cell 1 1, 32) ∷ (cell 1 2, 9) ∷ [];
      steps = 3;
    })

-- ---- Nodes

-- for (i = N - N; i < N * 1; i++) if (i + 1 > 0) { const int64_t a = affc_floord(i, 1); out[0] = ~(5ULL << 1) + (uint64_t)(-i); }
-- out[2^63 - 1 + N] = 0ULL;
abbrev many_nodes : Program
many_nodes = program [] []
    (For [] (Sub n n) Less (Mul n (lit 1))
    (If (d.Compare Greater (Add i (lit 1)) (lit 0))
    (Block (record { name = []; value = Floord i (pos 1) } ∷ [])
    (Assign None output (lit 0 ∷ []) (Bin op.Add (Not (Shift true (Const 5) 1)) (Cast (Neg i))) ∷ []) ∷ []) [] ∷ [])
    ∷ Assign None output (too_far ∷ []) (Const 0) ∷ [])

-- The loop is node 2, its bounds 3 to 5 and 6 to 8, the `if` 9, its condition 10 to 14, the block 15, the value of the local
-- 16 and 17, the assignment 18 with its subscript 19 and its value 20 to 26, the second assignment 27 and its subscript 28.
abbrev pub EachFormHasItsNodes : Type 0
EachFormHasItsNodes = meaning many_nodes (pos 1 ∷ []) one ≡ Stuck (Overflow 28) 3

-- The first program has 0 and 1 for the extents of its parameters. The second has them, too, then its context with 2 to 4 and the
-- extent of its temporary with 5.
abbrev pub NodesAreCounted : Type 0
NodesAreCounted =
    (node_total many_nodes ≡ 32) × (array_count many_nodes ≡ 2) ×
    (node_total (program (never ∷ []) (array Temp (n ∷ []) ∷ []) []) ≡ 6) × (array_count (program (never ∷ []) (array Temp (n ∷ []) ∷ []) []) ≡ 3)

-- ---- Inside a statement

-- for (i = 0; i < N; i++) { const int64_t a = 5; out[9] = in[0]; } where a is no iterator of the instance
abbrev pub LocalsAreNoIterators : Type 0
LocalsAreNoIterators =
    meaning (program [] [] (For [] (lit 0) Less n (Block (record { name = []; value = lit 5 } ∷ []) (assign output (lit 9) input (lit 0) ∷ []) ∷ []) ∷ [])) (pos 1 ∷ []) one
    ≡ Stuck (OutOfBounds (instance 0 (pos 0 ∷ [])) 1) 2

-- for (i = 0; i < N; i++) { if (0 > i) out[i] = 0ULL; if (i > 0) out[i] = ~(in[i] << 1); }
abbrev complements : Program
complements = program [] []
    (For [] (lit 0) Less n
    (If (d.Compare Greater (lit 0) i) (Assign None output (i ∷ []) (Const 0) ∷ []) []
    ∷ If (d.Compare Greater i (lit 0)) (Assign None output (i ∷ []) (Not (Shift true (Load input (i ∷ [])) 1)) ∷ []) [] ∷ []) ∷ [])

abbrev pub ConditionsAreLookedInto : Type 0
ConditionsAreLookedInto =
    (trace complements (pos 3 ∷ []) ≡ instance 1 (pos 1 ∷ []) ∷ instance 1 (pos 2 ∷ []) ∷ []) ×
    (events complements (pos 3 ∷ []) (instance 1 (pos 2 ∷ [])) ≡ cell 0 2 ∷ cell 1 2 ∷ [])

-- ---- Contexts and names

-- 0 < 0, whose sides have values
abbrev pub FalseContextsAreUnmet : Type 0
FalseContextsAreUnmet = meets (never ∷ []) (pos 3 ∷ []) ≡ false

abbrev pub KeywordsAreReserved : Type 0
KeywordsAreReserved = (is_reserved (codes "goto") ≡ true) × (is_reserved (codes "got") ≡ false)

-- ---- Arrays

-- out[0] = in[0]; with the array of number 2 in the place of out
abbrev to_no_array : Program
to_no_array = program [] [] (assign temporary (lit 0) input (lit 0) ∷ [])

abbrev pub AssignmentsAreToArrays : Type 0
AssignmentsAreToArrays = IsCounted copying × (IsCounted to_no_array → ⊥)

-- t[1][0] = in[0]; t[1] = in[0]; out[0] = ~(in[0] + (t[0] << 1)); and a load of an array that isn't there
abbrev pub SubscriptsAreAsDimensions : Type 0
SubscriptsAreAsDimensions =
    (has_right_ranks (with_rows (assign_row 1 0 ∷ [])) ≡ true) ×
    (has_right_ranks (with_rows (assign temporary (lit 1) input (lit 0) ∷ [])) ≡ false) ×
    (has_right_ranks (with_rows (Assign None output (lit 0 ∷ []) (Not (Bin op.Add (Load input (lit 0 ∷ [])) (Shift true (Load temporary (lit 0 ∷ [])) 1))) ∷ [])) ≡ false) ×
    (has_right_ranks (with_rows (Assign None output (lit 0 ∷ []) (Not (Bin op.Add (Load temporary (lit 0 ∷ [])) (Load input (lit 0 ∷ [])))) ∷ [])) ≡ false) ×
    (has_right_ranks (program [] [] (assign output (lit 0) temporary (lit 0) ∷ [])) ≡ false)
