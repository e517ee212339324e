-- What the definitions give at small programs. Each value was found by hand from the rules.
use Rattle.std.specs.Prelude.{◌≡◌, ℕ, zero, suc, ◌+◌, ◌^◌, true, false, ℤ, pos, negsuc, neg_ℤ, Bool, List, [], ◌∷◌, map, replicate, Option, Some, None}
use Rattle.affc_rows.specs.Forms.{Affine}
use Rattle.affc_ast.specs.declared.tree.ArrayId.{ArrayId}
use Rattle.affc_ast.specs.declared.tree.Compare.{Compare}
use Rattle.affc_ast.specs.declared.tree.Cond.{Cond}
use Rattle.affc_ast.specs.declared.tree.Cond.TheVariants as cond
use Rattle.affc_ast.specs.declared.tree.Decl.{Decl}
use Rattle.affc_ast.specs.declared.tree.Instance.{Instance}
use Rattle.affc_ast.specs.declared.tree.Ix.{Ix}
use Rattle.affc_ast.specs.declared.tree.Ix.TheVariants.{Lit, Name, Neg, Add, Sub, Mul, Min, Max, Floord, Ceild, Mod}
use Rattle.affc_ast.specs.declared.tree.Op.{Op}
use Rattle.affc_ast.specs.declared.tree.Op.TheVariants as op
use Rattle.affc_ast.specs.declared.tree.Param.{Param}
use Rattle.affc_ast.specs.declared.tree.Param.TheVariants.{Number, Array}
use Rattle.affc_ast.specs.declared.tree.Program.{Program}
use Rattle.affc_ast.specs.declared.tree.Rel.{Rel}
use Rattle.affc_ast.specs.declared.tree.Rel.TheVariants.{Less, LessEqual, Greater, GreaterEqual, Equal, NotEqual}
use Rattle.affc_ast.specs.declared.tree.Role.TheVariants.{Temp}
use Rattle.affc_ast.specs.declared.tree.Stmt.{Stmt}
use Rattle.affc_ast.specs.declared.tree.Stmt.TheVariants.{For, If, Assign, Block}
use Rattle.affc_ast.specs.declared.tree.Val.{Val}
use Rattle.affc_ast.specs.declared.tree.Val.TheVariants.{Load, Const, Cast, Not, Bin, Shift}
use Rattle.affc_ast.specs.Trace.{trace}
use Rattle.affc_domain.specs.Accesses.{accesses_of}
use Rattle.affc_domain.specs.Arrays.{declared_arrays, extents_at}
use Rattle.affc_domain.specs.Affine.{unit_of, is_small, linear, form_of, is_affine, sees}
use Rattle.affc_domain.specs.Rounds.{Round, Loop, Test, rounds, goes_on, turns, loops_in, comparisons_in}
use Rattle.affc_domain.specs.Loops.{loop_numbers, shared, IsBefore}
use Rattle.affc_domain.specs.Ranges.{number_ranges, Within, Never, Wide, is_near, range_of, ranges_of, AreWithin, first_wide}
use Rattle.affc_domain.specs.Plain.{is_plain, plain_tests, plain_value, plain_range, plain_ranges, plain_decls, is_upward, plain_assignment, plain_body, IsPlain}

-- ---- Trees, over the parameter n and the iterators i, j of loops

abbrev name : ℕ → Ix
name x = Name (record { 0 = x })

abbrev lit : ℕ → Ix
lit k = Lit (pos k)

abbrev n : Ix
n = name 0

abbrev i : Ix
i = name 1

abbrev j : Ix
j = name 2

abbrev test : Ix → Rel → Ix → Compare
test left rel right = record { rel = rel; left = left; right = right }

abbrev when : Ix → Rel → Ix → Cond
when left rel right = cond.Compare rel left right

abbrev array : ℕ → ArrayId
array x = record { 0 = x }

-- array[subs] = value;
abbrev store : (a : ℕ) → List Ix → Val → Stmt
store a subs value = Assign None (array a) subs value

abbrev load : ℕ → Ix → Val
load a sub = Load (array a) (sub ∷ [])

-- S: array 1 at this subscript is 0
abbrev at_0 : Ix → Stmt
at_0 sub = store 1 (sub ∷ []) (Const 0)

-- for (low; < high) and for (low; <= high)
abbrev below : (low high : Ix) → List Stmt → Stmt
below low high body = For [] low Less high body

abbrev up_to : (low high : Ix) → List Stmt → Stmt
up_to low high body = For [] low LessEqual high body

abbrev decl : List Ix → Decl
decl extents = record { name = []; role = Temp; extents = extents }

-- n is from 1 to 4
abbrev with_body : List Stmt → Program
with_body body = record {
  name = [];
  params = Number [] (pos 1) (pos 4) ∷ Array (decl (n ∷ [])) ∷ [];
  context = test n LessEqual (lit 4) ∷ [];
  temps = decl (n ∷ []) ∷ [];
  body = body;
  prelude = false;
}

-- ---- Accesses

-- array 1 at i, and array 0 at i and at j
abbrev some_value : Val
some_value = Bin op.Add (Bin op.Add (Not (load 0 i)) (Shift true (load 2 j) 1)) (Bin op.Sub (Cast i) (Const 7))

-- loads in the order of the text, then the store; `op=` first loads what it stores
abbrev pub AccessesInOrder : Type 0
AccessesInOrder =
    (accesses_of (record { op = None; array = array 1; subs = i ∷ []; value = some_value }) ≡ (array 0, i ∷ []) ∷ (array 2, j ∷ []) ∷ (array 1, i ∷ []) ∷ [])
    × (accesses_of (record { op = Some op.Xor; array = array 1; subs = i ∷ []; value = load 0 j }) ≡ (array 1, i ∷ []) ∷ (array 0, j ∷ []) ∷ (array 1, i ∷ []) ∷ [])

-- ---- Arrays

-- the parameters first, and then the temporaries
abbrev pub ArraysInOrder : Type 0
ArraysInOrder =
    (declared_arrays (record (with_body []) { params = Array (decl (n ∷ [])) ∷ Number [] (pos 1) (pos 4) ∷ Array (decl []) ∷ []; temps = decl (lit 7 ∷ []) ∷ decl (lit 8 ∷ []) ∷ [] })
    ≡ decl (n ∷ []) ∷ decl [] ∷ decl (lit 7 ∷ []) ∷ decl (lit 8 ∷ []) ∷ [])
    × (extents_at (decl (n ∷ lit 7 ∷ []) ∷ decl [] ∷ decl (Add n n ∷ []) ∷ []) (pos 3 ∷ []) ≡ (pos 3 ∷ pos 7 ∷ []) ∷ [] ∷ (pos 6 ∷ []) ∷ [])

-- ---- Forms

abbrev pub UnitsOfColumns : Type 0
UnitsOfColumns = (unit_of 3 1 ≡ pos 0 ∷ pos 1 ∷ pos 0 ∷ []) × (unit_of 2 2 ≡ pos 0 ∷ pos 0 ∷ [])

abbrev form : List ℤ → ℤ → Affine
form coefs constant = record { coefs = coefs; constant = constant }

-- 2 n - i + 5, over n, i and one column more; - (n - i); (1 + 2) n and n (1 + 2)
abbrev pub FormsOfSums : Type 0
FormsOfSums =
    (form_of 2 1 (Add (Sub (Mul (lit 2) n) i) (lit 5)) ≡ form (pos 2 ∷ negsuc 0 ∷ pos 0 ∷ []) (pos 5))
    × (form_of 2 0 (Neg (Sub n i)) ≡ form (negsuc 0 ∷ pos 1 ∷ []) (pos 0))
    × (form_of 1 0 (Mul (Add (lit 1) (lit 2)) n) ≡ form (pos 3 ∷ []) (pos 0))
    × (form_of 1 0 (Mul (Sub n (lit 4)) (Add (lit 1) (lit 2))) ≡ form (pos 3 ∷ []) (neg_ℤ (pos 12)))
    × (form_of 1 0 (Mul (lit 3) (lit 4)) ≡ form (pos 0 ∷ []) (pos 12))

-- a call isn't affine, in any place, and neither is a product of two names, even of one that cancels
abbrev pub WhichAreAffine : Type 0
WhichAreAffine =
    (map is_affine (n ∷ lit 3 ∷ Neg (Add n i) ∷ Sub n i ∷ Mul n (lit 2) ∷ Mul (lit 2) n ∷ Mul (lit 2) (lit 2) ∷ []) ≡ replicate 7 true)
    × (map is_affine (Mul n i ∷ Mul (Sub n n) (Neg i) ∷ Mul (Add (lit 1) n) (Mul i (lit 2)) ∷ Min n i ∷ Max n i ∷ Floord n (pos 2) ∷ Ceild n (pos 2) ∷ Mod n (lit 2) ∷ []) ≡ replicate 8 false)
    × (map is_affine (Neg (Min n i) ∷ Add (Max n i) n ∷ Add n (Max n i) ∷ Sub (Mod n i) n ∷ Sub n (Mod n i) ∷ Mul (lit 2) (Min n i) ∷ Mul (Min n i) (lit 2) ∷ []) ≡ replicate 7 false)

-- up to 2^16 and 2^24 in magnitude, both included
abbrev pub SmallForms : Type 0
SmallForms =
    (map is_small (form (pos 65536 ∷ neg_ℤ (pos 65536) ∷ []) (pos 16777216) ∷ form [] (neg_ℤ (pos 16777216)) ∷ []) ≡ replicate 2 true)
    × (map is_small (form (pos 65537 ∷ []) (pos 0) ∷ form (pos 0 ∷ neg_ℤ (pos 65537) ∷ []) (pos 0) ∷ form [] (pos 16777217) ∷ form [] (neg_ℤ (pos 16777217)) ∷ []) ≡ replicate 4 false)

abbrev small : Ix → Bool
small e = (linear 2 0 e).small

-- in each part, even where the whole is 0
abbrev pub SmallInEachPart : Type 0
SmallInEachPart =
    (map small (Mul (lit 65536) n ∷ lit 16777216 ∷ Mul (lit 4096) (lit 4096) ∷ Neg i ∷ Sub (lit 0) (Mul (lit 65536) n) ∷ []) ≡ replicate 5 true)
    × (map small (
    Mul (lit 65537) n
    ∷ Mul n (lit 65537)
    ∷ lit 16777217
    ∷ Sub (Mul (lit 65537) n) (Mul (lit 65537) n)
    ∷ Add (lit 16777216) (lit 1)
    ∷ Sub (Add (lit 16777216) (lit 1)) (lit 1)
    ∷ Sub (lit 0) (Add (lit 16777216) (lit 1))
    ∷ Neg (Mul (lit 65537) n)
    ∷ Mul (lit 0) (Mul (lit 65537) n)
    ∷ Mul (Mul (lit 65537) n) (lit 0)
    ∷ Mul (lit 4096) (lit 4097)
    ∷ Sub (lit 1) (lit 16777217)
    ∷ []) ≡ replicate 12 false)

-- where n and i are in sight, j isn't
abbrev pub NamesInSight : Type 0
NamesInSight =
    (map (sees 2) (lit 3 ∷ Neg n ∷ Add n i ∷ Sub n i ∷ Mul n i ∷ Min n i ∷ Max n i ∷ Floord i (pos 2) ∷ Ceild i (pos 2) ∷ Mod n i ∷ []) ≡ replicate 10 true)
    × (map (sees 2) (j ∷ Neg j ∷ Floord j (pos 2) ∷ Ceild j (pos 2) ∷ []) ≡ replicate 4 false)
    × (map (sees 2) (Add j n ∷ Sub j n ∷ Mul j n ∷ Min j n ∷ Max j n ∷ Mod j n ∷ []) ≡ replicate 6 false)
    × (map (sees 2) (Add n j ∷ Sub n j ∷ Mul n j ∷ Min n j ∷ Max n j ∷ Mod n j ∷ []) ≡ replicate 6 false)

-- ---- What stands round assignments

-- for i from 0 to n - 1 { for j from 0 to i { S0 } if (i == 2) { S1 } } { S2 }
abbrev triangle : Program
triangle = with_body (
    below (lit 0) n (up_to (lit 0) i (at_0 j ∷ []) ∷ If (when i Equal (lit 2)) (at_0 i ∷ []) [] ∷ [])
    ∷ Block [] (at_0 n ∷ [])
    ∷ [])

abbrev outer : Round
outer = Loop [] (lit 0) Less n

abbrev inner : Round
inner = Loop [] (lit 0) LessEqual i

abbrev at_two : Round
at_two = Test (when i Equal (lit 2))

abbrev pub RoundsOfTheTriangle : Type 0
RoundsOfTheTriangle = rounds triangle ≡ (outer ∷ inner ∷ []) ∷ (outer ∷ at_two ∷ []) ∷ [] ∷ []

abbrev pub LoopsGoOn : Type 0
LoopsGoOn =
    (goes_on Less (pos 3) (pos 4) ≡ true)
    × (goes_on Less (pos 4) (pos 4) ≡ false)
    × (goes_on LessEqual (pos 4) (pos 4) ≡ true)
    × (goes_on LessEqual (pos 5) (pos 4) ≡ false)
    × (map (λ rel. goes_on rel (pos 4) (pos 4)) (Greater ∷ GreaterEqual ∷ Equal ∷ []) ≡ replicate 3 false)
    × (map (λ rel. goes_on rel (pos 5) (pos 4)) (Greater ∷ GreaterEqual ∷ []) ≡ replicate 2 false)

abbrev three : List ℤ
three = pos 3 ∷ []

-- at n = 3: j may be i, and neither i nor j may be less than 0, i be 3 or j pass i
abbrev pub TriangleTurns : Type 0
TriangleTurns =
    (map (turns (outer ∷ inner ∷ []) three) ((pos 2 ∷ pos 2 ∷ []) ∷ (pos 0 ∷ pos 0 ∷ []) ∷ []) ≡ replicate 2 true)
    × (map (turns (outer ∷ inner ∷ []) three) ((pos 2 ∷ pos 3 ∷ []) ∷ (pos 3 ∷ pos 0 ∷ []) ∷ (pos 2 ∷ negsuc 0 ∷ []) ∷ []) ≡ replicate 3 false)
    × (turns (outer ∷ []) three (negsuc 0 ∷ []) ≡ false)
    × (map (turns (outer ∷ inner ∷ []) three) ([] ∷ (pos 2 ∷ []) ∷ (pos 2 ∷ pos 2 ∷ pos 0 ∷ []) ∷ []) ≡ replicate 3 false)
    × (map (turns (outer ∷ at_two ∷ []) three) ((pos 2 ∷ []) ∷ (pos 1 ∷ []) ∷ []) ≡ true ∷ false ∷ [])
    × (map (turns [] three) ([] ∷ (pos 0 ∷ []) ∷ []) ≡ true ∷ false ∷ [])

-- a loop in a loop that is never entered has no instances
abbrev pub NothingTurnsInside : Type 0
NothingTurnsInside =
    (turns (below_itself ∷ outer ∷ []) three (pos 0 ∷ pos 0 ∷ []) ≡ false)
    × (trace (with_body (below (lit 1) (lit 1) (below (lit 0) n (at_0 j ∷ []) ∷ []) ∷ at_0 n ∷ [])) three ≡ record { statement = 1; iterators = [] } ∷ [])
  where
    below_itself : Round
    below_itself = Loop [] (lit 1) Less (lit 1)

abbrev pub LoopsRound : Type 0
LoopsRound = map loops_in (rounds triangle) ≡ 2 ∷ 1 ∷ 0 ∷ []

abbrev pub ComparisonsRound : Type 0
ComparisonsRound = comparisons_in (Test (cond.All (when n Equal n ∷ when n Less (lit 2) ∷ [])) ∷ Loop [] (lit 0) Less n ∷ Test (when i Less n) ∷ []) ≡ 3

-- ---- The order of the text

-- for i from 0 to 1 { for j from 0 to 1 { S0 } if (..) { for k from 0 to 1 { S1 } } } { for l .. { S2 } } S3 for m .. { S4 }
abbrev share_one : Program
share_one = with_body (
    below (lit 0) (lit 2) (below (lit 0) (lit 2) (at_0 j ∷ []) ∷ If (when n Equal n) (below (lit 0) (lit 2) (at_0 j ∷ []) ∷ []) [] ∷ [])
    ∷ Block [] (below (lit 0) (lit 1) (at_0 i ∷ []) ∷ [])
    ∷ at_0 n
    ∷ below (lit 0) (lit 1) (at_0 i ∷ [])
    ∷ [])

-- loops are numbered in the order of the text, inside of a loop first
abbrev pub NumbersOfLoops : Type 0
NumbersOfLoops = loop_numbers share_one ≡ (0 ∷ 1 ∷ []) ∷ (0 ∷ 2 ∷ []) ∷ (3 ∷ []) ∷ [] ∷ (4 ∷ []) ∷ []

-- from the outermost on, as long as they are the same
abbrev pub SharedLoops : Type 0
SharedLoops =
    (shared (0 ∷ 1 ∷ []) (0 ∷ 2 ∷ []) ≡ 1)
    × (shared (0 ∷ 1 ∷ []) (0 ∷ 1 ∷ []) ≡ 2)
    × (shared (0 ∷ 1 ∷ []) (3 ∷ 1 ∷ []) ≡ 0)
    × (shared (0 ∷ 1 ∷ []) (0 ∷ []) ≡ 1)
    × (shared [] (0 ∷ []) ≡ 0)

abbrev pair : (x y : ℕ) → List ℤ
pair x y = pos x ∷ pos y ∷ []

-- by the first of the shared iterators in which they differ, else by the text
abbrev pub BeforeByIterators : Type 0
BeforeByIterators =
    IsBefore 2 (pair 1 5) (pair 2 0) ⊥
    × (IsBefore 2 (pair 2 0) (pair 1 5) (Unit {0}) → ⊥)
    × IsBefore 2 (pair 1 2) (pair 1 3) ⊥
    × (IsBefore 2 (pair 1 3) (pair 1 2) (Unit {0}) → ⊥)
    × IsBefore 1 (pair 1 3) (pair 1 2) (Unit {0})
    × (IsBefore 1 (pair 1 2) (pair 1 3) ⊥ → ⊥)
    × (IsBefore 2 (pair 1 2) (pair 1 2) ⊥ → ⊥)
    × (IsBefore 1 [] (pair 1 2) (Unit {0}) → ⊥)
    × (IsBefore 1 (pair 1 2) [] (Unit {0}) → ⊥)

abbrev instance : (statement : ℕ) → List ℤ → Instance
instance statement iterators = record { statement = statement; iterators = iterators }

-- S0 and S1 share the loop of i: in each of its turns all of S0 comes before all of S1
abbrev pub OrderOfTheSharedLoop : Type 0
OrderOfTheSharedLoop =
    trace share_one three
    ≡ instance 0 (pair 0 0) ∷ instance 0 (pair 0 1) ∷ instance 1 (pair 0 0) ∷ instance 1 (pair 0 1)
    ∷ instance 0 (pair 1 0) ∷ instance 0 (pair 1 1) ∷ instance 1 (pair 1 0) ∷ instance 1 (pair 1 1)
    ∷ instance 2 (pos 0 ∷ []) ∷ instance 3 [] ∷ instance 4 (pos 0 ∷ []) ∷ []

-- ---- Ranges

-- n is from 1 to 4; so i is from 0 to 3, and so is j
abbrev one_to_four : List (ℤ × ℤ)
one_to_four = (pos 1, pos 4) ∷ []

abbrev pub RangesOfNumbers : Type 0
RangesOfNumbers = number_ranges (Number [] (pos 1) (pos 4) ∷ Array (decl []) ∷ Number [] (negsuc 0) (pos 2) ∷ []) ≡ (pos 1, pos 4) ∷ (negsuc 0, pos 2) ∷ []

-- the least value of the lower bound, and the greatest of the upper one
abbrev pub RangeOfALoop : Type 0
RangeOfALoop =
    (range_of one_to_four (Sub (lit 0) n) Less n ≡ (neg_ℤ (pos 4), pos 3))
    × (range_of one_to_four n LessEqual (Sub (lit 9) n) ≡ (pos 1, pos 8))

-- conditions aren't looked at
abbrev pub RangesOfTheTriangle : Type 0
RangesOfTheTriangle = map (ranges_of one_to_four) (rounds triangle) ≡ Within ((pos 0, pos 3) ∷ (pos 0, pos 3) ∷ []) ∷ Within ((pos 0, pos 3) ∷ []) ∷ Within [] ∷ []

-- up to 2^31 in magnitude, both included
abbrev pub NearEnds : Type 0
NearEnds = map is_near (pos (2 ^ 31) ∷ neg_ℤ (pos (2 ^ 31)) ∷ pos (2 ^ 31 + 1) ∷ neg_ℤ (pos (2 ^ 31 + 1)) ∷ []) ≡ true ∷ true ∷ false ∷ false ∷ []

abbrev never : Round
never = Loop [] n Less (lit 1)

-- from 0 to 2^32, and from - 2^32 to 0
abbrev too_high : Round
too_high = Loop [] (lit 0) LessEqual (Mul (lit 1073741824) n)

abbrev too_low : Round
too_low = Loop [] (Mul (lit 1073741824) (Neg n)) LessEqual (lit 0)

-- the first loop that is never entered or whose range passes decides; what is inside isn't looked at
abbrev pub RangesThatPass : Type 0
RangesThatPass =
    (ranges_of one_to_four (never ∷ []) ≡ Never)
    × (ranges_of one_to_four (outer ∷ never ∷ []) ≡ Never)
    × (ranges_of one_to_four (never ∷ too_high ∷ []) ≡ Never)
    × (ranges_of one_to_four (too_high ∷ []) ≡ Wide 0)
    × (ranges_of one_to_four (too_low ∷ []) ≡ Wide 0)
    × (ranges_of one_to_four (outer ∷ at_two ∷ too_high ∷ []) ≡ Wide 1)
    × (ranges_of one_to_four (too_high ∷ never ∷ []) ≡ Wide 0)
    × (ranges_of one_to_four (Loop [] (Mul (lit 4294967296) n) Less (lit 0) ∷ []) ≡ Never)

-- a loop of one turn is entered
abbrev pub OneTurnIsEntered : Type 0
OneTurnIsEntered =
    (ranges_of ((pos 2, pos 2) ∷ []) (Loop [] n LessEqual (lit 2) ∷ []) ≡ Within ((pos 2, pos 2) ∷ []))
    × (ranges_of ((pos 2, pos 2) ∷ []) (Loop [] n Less (lit 2) ∷ []) ≡ Never)

abbrev pub WithinRanges : Type 0
WithinRanges =
    AreWithin (Within ((pos 0, pos 3) ∷ [])) (pos 3 ∷ [])
    × (AreWithin (Within ((pos 0, pos 3) ∷ [])) (pos 4 ∷ []) → ⊥)
    × (AreWithin Never [] → ⊥)
    × AreWithin (Wide 0) (pos 4 ∷ [])

abbrev to_high : List Stmt → Stmt
to_high body = up_to (lit 0) (Mul (lit 1073741824) n) body

-- the first statement with such a loop, and the loop, counted from the outermost
abbrev pub FirstWide : Type 0
FirstWide =
    (first_wide triangle ≡ None)
    × (first_wide (with_body (at_0 n ∷ below (lit 0) n (at_0 i ∷ to_high (at_0 j ∷ []) ∷ []) ∷ to_high (at_0 i ∷ []) ∷ [])) ≡ Some (2, 1))
    × (first_wide (with_body (below n (lit 1) (at_0 i ∷ to_high (at_0 j ∷ []) ∷ []) ∷ [])) ≡ None)

-- ---- Plain expressions, conditions and values, where n and i are in sight

abbrev pub PlainExpressions : Type 0
PlainExpressions =
    (is_plain 2 (Sub (Mul (lit 65536) n) i) ≡ true)
    × (is_plain 2 j ≡ false)
    × (is_plain 3 j ≡ true)
    × (is_plain 2 (Mul (lit 65537) n) ≡ false)
    × (is_plain 2 (Max n i) ≡ false)
    × (is_plain 2 (Mul n i) ≡ false)

abbrev pub PlainTests : Type 0
PlainTests =
    (plain_tests 2 (test n Equal i ∷ test n Greater i ∷ []) ≡ true)
    × (plain_tests 2 (test n Equal i ∷ test j Less i ∷ []) ≡ false)
    × (plain_tests 2 (test n Equal j ∷ test n Less i ∷ []) ≡ false)

abbrev value_of_i : Val → Bool
value_of_i value = plain_value value 2

abbrev pub PlainValues : Type 0
PlainValues =
    (value_of_i (Bin op.Add (Not (load 0 i)) (Shift true (Bin op.Sub (Cast n) (Const 7)) 1)) ≡ true)
    × (map value_of_i (load 0 j ∷ Cast j ∷ Not (Cast j) ∷ Bin op.Add (Cast j) (Const 7) ∷ Bin op.Add (Const 7) (Cast j) ∷ Shift true (Cast j) 1 ∷ []) ≡ replicate 6 false)
    × (value_of_i (Load (array 0) (i ∷ j ∷ [])) ≡ false)

-- ---- Plain declarations

-- low at most high, and both within 2^24
abbrev pub PlainRanges : Type 0
PlainRanges =
    (map plain_range ((pos 3, pos 3) ∷ (neg_ℤ (pos (2 ^ 24)), pos (2 ^ 24)) ∷ []) ≡ replicate 2 true)
    × (map plain_range ((pos 3, pos 2) ∷ (neg_ℤ (pos (2 ^ 24 + 1)), pos 0) ∷ (pos 0, pos (2 ^ 24 + 1)) ∷ []) ≡ replicate 3 false)
    × (plain_ranges ((pos 0, pos 3) ∷ (pos 3, pos 2) ∷ []) ≡ false)

-- four dimensions, over the parameters
abbrev pub PlainDeclarations : Type 0
PlainDeclarations =
    (plain_decls 1 (decl (replicate 4 n) ∷ decl [] ∷ []) ≡ true)
    × (plain_decls 1 (decl [] ∷ decl (replicate 5 n) ∷ []) ≡ false)
    × (plain_decls 1 (decl (n ∷ i ∷ []) ∷ []) ≡ false)

-- ---- Plain statements, where n is in sight

abbrev pub UpwardLoops : Type 0
UpwardLoops = map is_upward (Less ∷ LessEqual ∷ Greater ∷ GreaterEqual ∷ Equal ∷ []) ≡ true ∷ true ∷ false ∷ false ∷ false ∷ []

-- the sum of so many loads of array 0
abbrev sum_of : ℕ → Val
sum_of zero = Const 0
sum_of (suc k) = Bin op.Add (load 0 n) (sum_of k)

abbrev with_loads : Option Op → ℕ → Bool
with_loads op loads = plain_assignment 1 (record { op = op; array = array 1; subs = n ∷ []; value = sum_of loads })

-- 15 loads and a store; `op=` loads once more
abbrev pub SixteenAccesses : Type 0
SixteenAccesses = (with_loads None 15 ≡ true) × (with_loads None 16 ≡ false) × (with_loads (Some op.Add) 14 ≡ true) × (with_loads (Some op.Add) 15 ≡ false)

abbrev pub PlainAssignments : Type 0
PlainAssignments =
    (plain_body 1 (store 1 (n ∷ []) (load 0 n) ∷ []) ≡ true)
    × (plain_body 1 (store 1 (n ∷ i ∷ []) (load 0 n) ∷ []) ≡ false)
    × (plain_body 1 (store 1 (n ∷ []) (load 0 i) ∷ []) ≡ false)

-- so many loops round an assignment
abbrev loops : ℕ → Stmt
loops zero = at_0 n
loops (suc k) = below (lit 0) n (loops k ∷ [])

abbrev pub SixLoops : Type 0
SixLoops = (plain_body 1 (loops 6 ∷ []) ≡ true) × (plain_body 1 (loops 7 ∷ []) ≡ false) × (plain_body 1 (loops 6 ∷ loops 6 ∷ []) ≡ true)

-- the bounds of a loop don't see its iterator, its body does, and what comes after doesn't
abbrev pub PlainLoops : Type 0
PlainLoops =
    (plain_body 1 (below n n (at_0 i ∷ []) ∷ []) ≡ true)
    × (plain_body 1 (below i n (at_0 i ∷ []) ∷ []) ≡ false)
    × (plain_body 1 (below n i (at_0 i ∷ []) ∷ []) ≡ false)
    × (plain_body 1 (below n n (at_0 i ∷ []) ∷ at_0 i ∷ []) ≡ false)
    × (plain_body 1 (up_to n n (up_to n i (at_0 j ∷ []) ∷ []) ∷ []) ≡ true)
    × (plain_body 1 (For [] n Greater n (at_0 i ∷ []) ∷ []) ≡ false)

-- `if` with so many comparisons
abbrev tested : ℕ → List Stmt → Stmt
tested comparisons body = If (cond.All (replicate comparisons (when n Equal n))) body []

-- round an assignment, and not in all
abbrev pub ThirtyTwoComparisons : Type 0
ThirtyTwoComparisons =
    (plain_body 1 (tested 32 (at_0 n ∷ []) ∷ tested 32 (at_0 n ∷ []) ∷ []) ≡ true)
    × (plain_body 1 (tested 33 (at_0 n ∷ []) ∷ []) ≡ false)
    × (plain_body 1 (tested 16 (tested 16 (at_0 n ∷ []) ∷ []) ∷ []) ≡ true)
    × (plain_body 1 (tested 16 (below n n (tested 17 (at_0 n ∷ []) ∷ []) ∷ []) ∷ []) ≡ false)

abbrev pub PlainConditions : Type 0
PlainConditions =
    (plain_body 1 (If (when i Equal n) (at_0 n ∷ []) [] ∷ []) ≡ false)
    × (plain_body 1 (If (when n Equal n) (at_0 i ∷ []) [] ∷ []) ≡ false)
    × (plain_body 1 (below n n (If (when i Equal n) (at_0 i ∷ []) [] ∷ []) ∷ []) ≡ true)

-- blocks have no locals
abbrev pub NoLocals : Type 0
NoLocals =
    (plain_body 1 (Block [] (at_0 n ∷ []) ∷ []) ≡ true)
    × (plain_body 1 (Block (record { name = []; value = n } ∷ []) (at_0 n ∷ []) ∷ []) ≡ false)
    × (plain_body 1 (Block [] (at_0 i ∷ []) ∷ []) ≡ false)

-- ---- Plain programs

abbrev pub TriangleIsPlain : Type 0
TriangleIsPlain = IsPlain triangle

abbrev IsNoPlain : Program → Type 0
IsNoPlain program = IsPlain program → ⊥

abbrev number : Param
number = Number [] (pos 1) (pos 4)

-- so many assignments of constants to a scalar
abbrev scalars : ℕ → Program
scalars k = with_body (replicate k (store 1 [] (Const 0)))

-- four number parameters, 16 comparisons of the context and 64 assignments
abbrev pub LimitsOfPrograms : Type 0
LimitsOfPrograms =
    IsPlain (record (scalars 64) { params = replicate 4 number; context = replicate 16 (test n Equal n) })
    × IsNoPlain (record (scalars 1) { params = replicate 5 number })
    × IsNoPlain (record (scalars 1) { context = replicate 17 (test n Equal n) })
    × IsNoPlain (scalars 65)

abbrev pub PartsOfPrograms : Type 0
PartsOfPrograms =
    IsNoPlain (record (scalars 1) { params = Number [] (pos 1) (pos 0) ∷ [] })
    × IsNoPlain (record (scalars 1) { context = test i Equal n ∷ [] })
    × IsNoPlain (record (scalars 1) { params = number ∷ Array (decl (i ∷ [])) ∷ [] })
    × IsNoPlain (record (scalars 1) { temps = decl (i ∷ []) ∷ [] })
    × IsNoPlain (with_body (at_0 i ∷ []))

-- each loop and each `if` holds an assignment; a block and a whole program needn't
abbrev pub FullLoops : Type 0
FullLoops =
    IsPlain (with_body (Block [] [] ∷ []))
    × IsPlain (with_body (below n n (Block [] [] ∷ at_0 i ∷ []) ∷ tested 1 (below n n (at_0 i ∷ []) ∷ []) ∷ below n n (Block [] (tested 1 (at_0 i ∷ []) ∷ []) ∷ []) ∷ []))
    × IsNoPlain (with_body (at_0 n ∷ below n n [] ∷ []))
    × IsNoPlain (with_body (tested 1 [] ∷ []))
    × IsNoPlain (with_body (below n n (at_0 i ∷ below n n [] ∷ []) ∷ []))
    × IsNoPlain (with_body (tested 1 (at_0 n ∷ tested 1 [] ∷ []) ∷ []))
    × IsNoPlain (with_body (Block [] (tested 1 [] ∷ []) ∷ []))
    × IsNoPlain (with_body (below n n (Block [] [] ∷ []) ∷ []))

-- without `!=`, also in the context, and without `else`
abbrev pub OnlyJoinedTests : Type 0
OnlyJoinedTests =
    IsNoPlain (with_body (If (when n NotEqual n) (at_0 n ∷ []) [] ∷ []))
    × IsNoPlain (with_body (If (when n Equal n) (at_0 n ∷ []) (at_0 n ∷ []) ∷ []))
    × IsNoPlain (record (scalars 1) { context = test n NotEqual n ∷ [] })
