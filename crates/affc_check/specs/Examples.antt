-- The items of small certificates, and which are valid. Each row was found by hand from the rules.
use Rattle.std.specs.Prelude.{◌≡◌, ℕ, ◌+◌, ◌^◌, ℤ, pos, negsuc, List, [], ◌∷◌, ◌++◌, length, replicate, Option, Some, None, slice_get, Box}
use Rattle.std.specs.declared.alloc.Global.{Global}
use Rattle.affc_rows.specs.Forms.{Affine}
use Rattle.affc_system.specs.Systems.{Rows, IsPoint}
use Rattle.affc_system.specs.Examples.{form, below_n, AreNeighbours}
use Rattle.affc_system.specs.declared.pairs.PairSystem.{PairSystem}
use Rattle.affc_farkas.specs.Examples.{line, apart}
use Rattle.affc_farkas.specs.declared.proof.Proof.{Proof, Leaf, Cut'}
use Rattle.affc_trace.specs.Examples.{blur, together}
use Rattle.affc_basis.specs.Examples.{x0, one_more, number}
use Rattle.affc_basis.specs.declared.fold.Mark.TheVariants.{Least, Bound}
use Rattle.affc_nest.specs.Nests.{nest_of, nowhere}
use Rattle.affc_nest.specs.Questions.{extent_questions, bound_questions}
use Rattle.affc_nest.specs.declared.nest.Nest.{Nest}
use Rattle.affc_sched.specs.Questions.{legality_questions}
use Rattle.affc_quast.specs.Trees.{Tree}
use Rattle.affc_quast.specs.Trees as tree
use Rattle.affc_flow.specs.Questions.{flow_questions}
use Rattle.affc_conflicts.specs.Examples.{any, up_to_nine, in_range_with, neighbours_with}
use Rattle.affc_life.specs.Laws.{AreClashes}
use Rattle.affc_check.specs.list.Items.{Item, Question, Shown, LeastShown, ModulusShown, FoldShown, pair_item, row_items, fold_items, items, pair_of, moduli_of}
use Rattle.affc_check.specs.Laws.{IsReadFor}
use Rattle.affc_check.specs.Valid.{IsProved, AreValid}

-- ---- The blur: over N from 1 to 4, t[i] = in[i] + 1, and then out[i] = t[i] + t[i + 1] + t[i + 2], at the times i and i + 2

-- S0(i + k), over N and i
abbrev pub stored_at : (k : ℤ) → Tree
stored_at k = tree.Source 0 (form (pos 0) (pos 1) k ∷ [])

abbrev pub blur_trees : List Tree
blur_trees = tree.Input ∷ stored_at (pos 0) ∷ stored_at (pos 1) ∷ stored_at (pos 2) ∷ []

abbrev pub blur_items : (context : List ℤ) → List Tree → List Item
blur_items context trees = items (nest_of blur) together context trees []

-- Three extents, and two questions for each of six accesses. Nothing stores `in`; of each load of t it is asked whether its tree
-- misses one of six rows, names another element (twice), or an earlier store. Stores of t and of out come in order, and a store
-- of t before each load of it. The context is shown before all these.
abbrev pub CountsOfTheBlur : Type 0
CountsOfTheBlur =
    (length (extent_questions (nest_of blur)) ≡ 3)
    × (length (bound_questions (nest_of blur)) ≡ 12)
    × (length (flow_questions (nest_of blur) blur_trees) ≡ 27)
    × (length (legality_questions (nest_of blur) together) ≡ 5)
    × (length (blur_items (pos 1 ∷ []) blur_trees) ≡ 48)

abbrev pub item : ℕ → Item → Type 0
item n i = slice_get (blur_items (pos 1 ∷ []) blur_trees) n ≡ Some i

-- N from 1 to 4, and rows more
abbrev pub context_with : List Affine → List Affine
context_with more = line (pos 1) (negsuc 0) ∷ line (negsuc 0) (pos 4) ∷ more

-- the first item of each group: N is 1; N + 2 is at most 0; i is at most -1, where i is from 0 to N + 1 and to 5
abbrev pub ContextIsFirst : Type 0
ContextIsFirst = item 0 (Shown (record { columns = 1; rows = context_with [] }) (pos 1 ∷ []))

abbrev pub ExtentsAreNext : Type 0
ExtentsAreNext = item 1 (Question (record { columns = 1; rows = context_with (line (negsuc 0) (negsuc 1) ∷ []) }))

abbrev pub BoundsAreNext : Type 0
BoundsAreNext = item 4 (Question (record {
  columns = 2;
  rows =
      form (pos 1) (pos 0) (negsuc 0) ∷ form (negsuc 0) (pos 0) (pos 4)
      ∷ form (pos 0) (pos 1) (pos 0) ∷ form (pos 1) (negsuc 0) (pos 1) ∷ form (pos 0) (pos 1) (pos 0) ∷ form (pos 0) (negsuc 0) (pos 5)
      ∷ form (pos 0) (negsuc 0) (negsuc 0) ∷ [];
}))

-- S1's domain, where i is from 0 to N - 1 and to 3, and N is below 1
abbrev pub TreesAreNext : Type 0
TreesAreNext = item 16 (Question (record {
  columns = 2;
  rows =
      form (pos 1) (pos 0) (negsuc 0) ∷ form (negsuc 0) (pos 0) (pos 4)
      ∷ form (pos 0) (pos 1) (pos 0) ∷ form (pos 1) (negsuc 0) (negsuc 0) ∷ form (pos 0) (pos 1) (pos 0) ∷ form (pos 0) (negsuc 0) (pos 3)
      ∷ form (negsuc 0) (pos 0) (pos 0) ∷ [];
}))

-- over N, i, i': S0's domain twice, i is i', i is less than i', and i' is less than i
abbrev over_three : (a b c d : ℤ) → Affine
over_three a b c d = record { coefs = a ∷ b ∷ c ∷ []; constant = d }

abbrev pub ScheduleIsNext : Type 0
ScheduleIsNext = item 43 (Question (record {
  columns = 3;
  rows =
      over_three (pos 1) (pos 0) (pos 0) (negsuc 0) ∷ over_three (negsuc 0) (pos 0) (pos 0) (pos 4)
      ∷ over_three (pos 0) (pos 1) (pos 0) (pos 0) ∷ over_three (pos 1) (negsuc 0) (pos 0) (pos 1) ∷ over_three (pos 0) (pos 1) (pos 0) (pos 0) ∷ over_three (pos 0) (negsuc 0) (pos 0) (pos 5)
      ∷ over_three (pos 0) (pos 0) (pos 1) (pos 0) ∷ over_three (pos 1) (pos 0) (negsuc 0) (pos 1) ∷ over_three (pos 0) (pos 0) (pos 1) (pos 0) ∷ over_three (pos 0) (pos 0) (negsuc 0) (pos 5)
      ∷ over_three (pos 0) (pos 1) (negsuc 0) (pos 0) ∷ over_three (pos 0) (negsuc 0) (pos 1) (pos 0)
      ∷ over_three (pos 0) (negsuc 0) (pos 1) (negsuc 0) ∷ over_three (pos 0) (pos 1) (negsuc 0) (negsuc 0) ∷ [];
}))

-- No proofs make a certificate valid that shows N as 5, or that has no proof at all, or whose first tree of t names S0(i + 1): this
-- stores t[i + 1].
abbrev pub NoneIsValid : Type 0
NoneIsValid =
    ((proofs : List Proof) → AreValid (blur_items (pos 5 ∷ []) blur_trees) proofs → ⊥)
    × (AreValid (blur_items (pos 1 ∷ []) blur_trees) [] → ⊥)
    × ((proofs : List Proof) → AreValid (blur_items (pos 1 ∷ []) (tree.Input ∷ stored_at (pos 1) ∷ stored_at (pos 1) ∷ stored_at (pos 2) ∷ [])) proofs → ⊥)

-- t, the third array, folded onto so many elements
abbrev pub t_onto : ℕ → Option LeastShown → (systems : List PairSystem) → FoldShown
t_onto n least systems = record { array = 2; rows = x0 ∷ []; moduli = record { form = number n; least = least } ∷ []; systems = systems }

-- folds are last: 3 is at most 0
abbrev pub FoldsAreLast : Type 0
FoldsAreLast = (least : Option LeastShown) (systems : List PairSystem)
    → slice_get (items (nest_of blur) together (pos 1 ∷ []) blur_trees (t_onto 3 least systems ∷ [])) 48
    ≡ Some (Question (record { columns = 1; rows = context_with (line (pos 0) (negsuc 2) ∷ []) }))

-- Two distances for each of twelve clash systems; that the modulus is at least 1 before them, and three items of its mark behind.
abbrev pub CountOfTheFold : Type 0
CountOfTheFold = (least : LeastShown) (systems : List PairSystem) → AreClashes blur blur_trees together 2 systems → length (fold_items (nest_of blur) (t_onto 3 (Some least) systems)) ≡ 28

-- No proofs make a fold of t onto two elements valid.
abbrev pub TwoAreTooFew : Type 0
TwoAreTooFew = (systems : List PairSystem) (proofs : List Proof)
    → IsReadFor blur together blur_trees (t_onto 2 None systems ∷ [])
    → AreValid (items (nest_of blur) together (pos 1 ∷ []) blur_trees (t_onto 2 None systems ∷ [])) proofs → ⊥

-- ---- Folds over N from 1 to 9 by the row x0, with the modulus N + 1

abbrev pub line_nest : Nest
line_nest = record { params = up_to_nine; context = any; arrays = []; entries = [] }

abbrev pub bound : ModulusShown
bound = record { form = one_more; least = None }

abbrev pub at_three : ModulusShown
at_three = record { form = one_more; least = Some (record { p = pos 3 ∷ []; pair = None }) }

abbrev pub fold_by : List ModulusShown → FoldShown
fold_by ms = record { array = 0; rows = x0 ∷ x0 ∷ []; moduli = ms; systems = [] }

-- N + 1 is at most 0
abbrev pub is_positive : Item
is_positive = Question (in_range_with (line (negsuc 0) (negsuc 0)))

-- of a bound no more is said; else N is shown as 3, then that N + 1 is 1, which it isn't, and it is asked whether N + 1 is more than 4
abbrev pub MarksInOrder : Type 0
MarksInOrder =
    fold_items line_nest (fold_by (bound ∷ at_three ∷ []))
    ≡ is_positive ∷ is_positive
    ∷ Shown (record { columns = 1; rows = line (pos 1) (negsuc 0) ∷ line (negsuc 0) (pos 9) ∷ [] }) (pos 3 ∷ [])
    ∷ Shown (record { columns = 1; rows = line (pos 1) (pos 0) ∷ line (negsuc 0) (pos 0) ∷ [] }) (pos 3 ∷ [])
    ∷ Question (in_range_with (line (pos 1) (negsuc 3))) ∷ []

-- distances of the neighbours i and i + 1 below n stand between: -1, and then 1, is at least n + 1
abbrev pub DistancesBetween : Type 0
DistancesBetween = (s : PairSystem) → AreNeighbours s
    → row_items line_nest (s ∷ []) (x0 ∷ []) 0 x0 bound
    ≡ is_positive ∷ Question (neighbours_with (form (negsuc 0) (pos 0) (negsuc 1) ∷ [])) ∷ Question (neighbours_with (form (negsuc 0) (pos 0) (pos 0) ∷ [])) ∷ []

-- ---- The pair of a mark

-- i + 1 and i, for each i
pub record AreTurned (s : PairSystem) : Type 0 where
  pub points : s.system ≡ below_n
  pub first : s.x.items ≡ form (pos 0) (pos 1) (pos 1) ∷ []
  pub second : s.y.items ≡ form (pos 0) (pos 1) (pos 0) ∷ []

-- what a certificate shows where N is 3
abbrev pub shown : PairSystem → (clash : ℤ) → (point : List ℤ) → Item
shown s clash point = pair_item line_nest (x0 ∷ []) 0 x0 one_more (s ∷ []) (pos 3 ∷ []) (Some (clash, point))

-- that 1 is n + 1 less 1, and at least 1
abbrev pub two_and_three : Item
two_and_three = Shown (neighbours_with (form (negsuc 0) (pos 0) (pos 1) ∷ form (pos 1) (pos 0) (negsuc 0) ∷ form (pos 0) (pos 0) (pos 0) ∷ [])) (pos 3 ∷ pos 2 ∷ [])

-- the one that lies ahead comes first, whichever it is
abbrev pub PairIsTurned : Type 0
PairIsTurned =
    ((s : PairSystem) → AreNeighbours s → shown s (pos 0) (pos 3 ∷ pos 2 ∷ []) ≡ two_and_three)
    × ((s : PairSystem) → AreTurned s → shown s (pos 0) (pos 3 ∷ pos 2 ∷ []) ≡ two_and_three)

abbrev pub nothing : Item
nothing = Shown (nowhere 0) []

-- nothing is shown by a number that no system has, by a point with a number too many, or by one of another N
abbrev pub NothingIsShown : Type 0
NothingIsShown = (s : PairSystem) → AreNeighbours s
    → (shown s (pos 1) (pos 3 ∷ pos 2 ∷ []) ≡ nothing)
    × (shown s (negsuc 0) (pos 3 ∷ pos 2 ∷ []) ≡ nothing)
    × (shown s (pos 0) (pos 3 ∷ pos 2 ∷ pos 0 ∷ []) ≡ nothing)
    × (shown s (pos 0) (pos 4 ∷ pos 2 ∷ []) ≡ nothing)
    × (IsPoint (nowhere 0) [] → ⊥)

-- 2 stands before 3, as it lies behind
abbrev pub PairInOrder : Type 0
PairInOrder =
    ((s : PairSystem) → AreNeighbours s → pair_of (s ∷ []) x0 (Some (pos 0, pos 3 ∷ pos 2 ∷ [])) ≡ Some (pos 2 ∷ [], pos 3 ∷ []))
    × ((s : PairSystem) → AreTurned s → pair_of (s ∷ []) x0 (Some (pos 0, pos 3 ∷ pos 2 ∷ [])) ≡ Some (pos 2 ∷ [], pos 3 ∷ []))

-- the moduli that are marked
abbrev pub ModuliAreMarked : Type 0
ModuliAreMarked = moduli_of [] (x0 ∷ x0 ∷ []) (bound ∷ at_three ∷ [])
    ≡ record { form = one_more; mark = Bound } ∷ record { form = one_more; mark = Least (pos 3 ∷ []) None } ∷ []

-- ---- Which are valid: x is at least 3 and at most 2

abbrev pub between : Rows
between = record { columns = 1; rows = apart }

-- x is at least 3
abbrev pub from_three : Rows
from_three = record { columns = 1; rows = line (pos 1) (negsuc 2) ∷ [] }

-- the sum of both rows, and the first alone
abbrev pub sum_of_both : Proof
sum_of_both = Leaf ((0, 1) ∷ (1, 1) ∷ [])

abbrev pub first_alone : Proof
first_alone = Leaf ((0, 1) ∷ [])

-- one proof for each question, in order; a point needs none, and further ones don't matter
abbrev pub OneProofEach : Type 0
OneProofEach =
    AreValid (Shown from_three (pos 3 ∷ []) ∷ Question between ∷ []) (sum_of_both ∷ [])
    × AreValid (Question between ∷ Shown from_three (pos 3 ∷ []) ∷ []) (sum_of_both ∷ first_alone ∷ [])
    × (AreValid (Question between ∷ Question between ∷ []) (sum_of_both ∷ []) → ⊥)
    × (AreValid (Question between ∷ Question between ∷ []) (sum_of_both ∷ first_alone ∷ []) → ⊥)

abbrev pub EachIsLookedAt : Type 0
EachIsLookedAt =
    (AreValid (Shown from_three (pos 2 ∷ []) ∷ []) [] → ⊥)
    × (AreValid (Question between ∷ []) (first_alone ∷ []) → ⊥)
    × (AreValid (Question between ∷ Shown from_three (pos 2 ∷ []) ∷ []) (sum_of_both ∷ []) → ⊥)

-- a question keeps the limits of a system: 128 columns, and coefficients within 2^40
abbrev pub QuestionsKeepLimits : Type 0
QuestionsKeepLimits =
    ((rows : List Affine) (proof : Proof) → IsProved (record { columns = 129; rows = rows }) proof → ⊥)
    × ((proof : Proof) → IsProved (record { columns = 1; rows = line (pos (2 ^ 40 + 1)) (pos 0) ∷ apart }) proof → ⊥)

-- and at most 1,024 rows stand at a node: not 1,023 and both, and not 1,022, both, and that of a cut
abbrev pub FewRowsAtNodes : Type 0
FewRowsAtNodes =
    ((by : List (ℕ × ℕ)) → IsProved (record { columns = 1; rows = replicate 1023 (line (pos 0) (pos 0)) ++ apart }) (Leaf by) → ⊥)
    × ((by more : List (ℕ × ℕ)) (g : ℤ) (row : Affine) (p : Box (Unit {0}) Global) → IsProved (record { columns = 1; rows = replicate 1022 (line (pos 0) (pos 0)) ++ apart }) (Cut' by g row p (Leaf more)) → ⊥)
