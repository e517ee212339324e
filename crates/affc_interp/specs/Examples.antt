-- Small examples, with values that were found by hand from the rules.
use Rattle.std.specs.Prelude.{◌≡◌, ℕ, pos, negsuc, List, [], ◌∷◌, None, Ok, Err, true, codes}
use Rattle.affc_ast.specs.declared.tree.Decl.{Decl}
use Rattle.affc_ast.specs.declared.tree.Ix.{Ix, Lit, Name, Add, Floord, Mod}
use Rattle.affc_ast.specs.declared.tree.Param.TheVariants.{Array}
use Rattle.affc_ast.specs.declared.tree.Program.{Program}
use Rattle.affc_ast.specs.declared.tree.Rel.TheVariants.{LessEqual}
use Rattle.affc_ast.specs.declared.tree.Role.TheVariants.{Input, Output}
use Rattle.affc_ast.specs.declared.tree.Stmt.{For, Assign}
use Rattle.affc_ast.specs.declared.tree.Val.{Cast}
use Rattle.affc_ast.specs.Examples.{never, copying, three}
use Rattle.affc_ast.specs.Meaning.{meaning}
use Rattle.affc_ast.specs.Store.{Store}
use Rattle.affc_interp.specs.Budget.{OutOfSteps}
use Rattle.affc_interp.specs.DataText.{element_count, FeedReads, IsWrongLine, values_of, output_text}
use Rattle.affc_interp.specs.Runs.{within_limit, start}

-- The copy loop at N = 3 takes three turns and three assignments: six steps are enough, and five aren't.
abbrev pub StepsAreEnough : Type 0
StepsAreEnough =
    (within_limit 6 (meaning copying (pos 3 ∷ []) (three 0 0 0)) ≡ Ok (three 7 8 9, 6)) ×
    (within_limit 5 (meaning copying (pos 3 ∷ []) (three 0 0 0)) ≡ Err OutOfSteps)

-- what the arrays of the copy loop hold at first
abbrev pub DataIsTheStart : Type 0
DataIsTheStart = start copying (pos 3 ∷ []) ((7 ∷ 8 ∷ 9 ∷ []) ∷ (0 ∷ 0 ∷ 0 ∷ []) ∷ []) ≡ three 0 0 0

-- ---- for (int64_t i = -2; i <= 2; i++) out[affc_mod(i, 5)] = (uint64_t)(affc_floord(i, 2));

abbrev i : Ix
i = Name (record { 0 = 0 })

abbrev rounding : Program
rounding = record {
  name = [];
  params = Array (record { name = codes "out"; role = Output; extents = Lit (pos 5) ∷ [] }) ∷ [];
  context = [];
  temps = [];
  body = For [] (Lit (negsuc 1)) LessEqual (Lit (pos 2)) (Assign None (record { 0 = 0 }) (Mod i (Lit (pos 5)) ∷ []) (Cast (Floord i (pos 2))) ∷ []) ∷ [];
  prelude = true;
}

abbrev five : (a b c d e : ℕ) → Store
five a b c d e = ((0, pos 0 ∷ []), a) ∷ ((0, pos 1 ∷ []), b) ∷ ((0, pos 2 ∷ []), c) ∷ ((0, pos 3 ∷ []), d) ∷ ((0, pos 4 ∷ []), e) ∷ []

-- the floors of -2 to 2 by 2 are -1, -1, 0, 0, 1, at the places 3, 4, 0, 1, 2
abbrev pub FloorsAndRemainders : Type 0
FloorsAndRemainders = within_limit 10 (meaning rounding [] (start rounding [] ((0 ∷ 0 ∷ 0 ∷ 0 ∷ 0 ∷ []) ∷ []))) ≡ Ok (five 0 0 1 18446744073709551615 18446744073709551615, 10)

-- ---- Extents

abbrev with_extents : List Ix → Decl
with_extents es = record { name = codes "a"; role = Input; extents = es }

-- a[N][2] has 2 N elements; with an extent below 1, or past int64, it has none
abbrev pub ElementsAreCounted : Type 0
ElementsAreCounted =
    (element_count (with_extents (i ∷ Lit (pos 2) ∷ [])) (pos 3 ∷ []) ≡ 6) ×
    (element_count (with_extents (i ∷ Lit (pos 2) ∷ [])) (pos 0 ∷ []) ≡ 0) ×
    (element_count (with_extents (i ∷ Lit (pos 2) ∷ [])) (negsuc 0 ∷ []) ≡ 0) ×
    (element_count (with_extents (Add (Lit (pos 9223372036854775807)) i ∷ [])) (pos 1 ∷ []) ≡ 0) ×
    (element_count (with_extents []) [] ≡ 1)

-- an array's elements in their order
abbrev pub ValuesStandInOrder : Type 0
ValuesStandInOrder = (values_of 1 (three 4 5 6) ≡ 4 ∷ 5 ∷ 6 ∷ []) × (values_of 0 (three 4 5 6) ≡ 7 ∷ 8 ∷ 9 ∷ []) × (values_of 2 (three 4 5 6) ≡ [])

-- the output lines; one array is an input, and has none
abbrev pub OutputsAreWritten : Type 0
OutputsAreWritten =
    (output_text rounding (five 0 0 1 7 9) ≡ codes "array out 0 0 1 7 9\n") ×
    (output_text copying (three 4 5 6) ≡ codes "array out 4 5 6\n")

-- ---- The data's text

-- the last line needs no line feed
abbrev pub DataIsRead : Type 0
DataIsRead = FeedReads (codes "array out 1 2 3 4 5") rounding [] ((1 ∷ 2 ∷ 3 ∷ 4 ∷ 5 ∷ []) ∷ [])

-- where the context isn't met, the line behind the last is wrong
abbrev pub UnmetContextIsWrong : Type 0
UnmetContextIsWrong = IsWrongLine (codes "array out 0 0 0 0 0\n") (record rounding { context = never ∷ [] }) 2
