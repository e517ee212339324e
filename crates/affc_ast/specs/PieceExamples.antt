-- What denials and pieces of conditions are, and which conditions are joined comparisons. Each value was found by hand from the rules.
use Rattle.std.specs.Prelude.{◌≡◌, pos, negsuc, Bool, true, false, List, [], ◌∷◌, map, replicate}
use Rattle.affc_ast.specs.declared.tree.Cond.{Cond}
use Rattle.affc_ast.specs.declared.tree.Cond.TheVariants as d
use Rattle.affc_ast.specs.declared.tree.Rel.{Rel}
use Rattle.affc_ast.specs.declared.tree.Rel.TheVariants.{Less, LessEqual, Greater, GreaterEqual, Equal, NotEqual}
use Rattle.affc_ast.specs.declared.tree.Stmt.{Stmt}
use Rattle.affc_ast.specs.declared.tree.Stmt.TheVariants.{If, Block}
use Rattle.affc_ast.specs.Denials.{opposite, denied}
use Rattle.affc_ast.specs.Examples.{lit, n, i, input, output, program, assign, each}
use Rattle.affc_ast.specs.Joined.{is_joined, tests_of, has_joined_tests}
use Rattle.affc_ast.specs.Pieces.{Atom, Below, UpTo, Same, Remainder, atom_holds, piece_holds, pieces, counts_of, comparisons_of}

abbrev relations : List Rel
relations = Less ∷ LessEqual ∷ Greater ∷ GreaterEqual ∷ Equal ∷ NotEqual ∷ []

abbrev pub RelationsHaveOpposites : Type 0
RelationsHaveOpposites = map opposite relations ≡ GreaterEqual ∷ Greater ∷ LessEqual ∷ Less ∷ NotEqual ∷ Equal ∷ []

-- i < n, i == 2, i != 3, i % 2 == 0
abbrev below : Cond
below = d.Compare Less i n

abbrev two : Cond
two = d.Compare Equal i (lit 2)

abbrev not_three : Cond
not_three = d.Compare NotEqual i (lit 3)

abbrev even : Cond
even = d.Divides i (pos 2) true

-- !(i < n && (i == 2 || i % 2 == 0)) is i >= n || i != 2 && i % 2 != 0
abbrev pub DenialsExchange : Type 0
DenialsExchange =
    (denied (d.All (below ∷ d.Any (two ∷ even ∷ []) ∷ [])) ≡ d.Any (d.Compare GreaterEqual i n ∷ d.All (d.Compare NotEqual i (lit 2) ∷ d.Divides i (pos 2) false ∷ []) ∷ [])) ×
    (denied (d.Divides i (pos 2) false) ≡ even)

-- at n = 4, where i is 1, 2 and 3
abbrev holding : Atom → List Bool
holding a = map (λ x. atom_holds (pos 4 ∷ x ∷ []) a) (pos 1 ∷ pos 2 ∷ pos 3 ∷ [])

-- 3 divides -6, and doesn't divide -5
abbrev pub AtomsCompare : Type 0
AtomsCompare =
    (holding (Below i (lit 2)) ≡ true ∷ false ∷ false ∷ []) ×
    (holding (UpTo i (lit 2)) ≡ true ∷ true ∷ false ∷ []) ×
    (holding (Same i (lit 2)) ≡ false ∷ true ∷ false ∷ []) ×
    (holding (Remainder i (pos 2) true) ≡ false ∷ true ∷ false ∷ []) ×
    (holding (Remainder i (pos 2) false) ≡ true ∷ false ∷ true ∷ []) ×
    (map (λ x. atom_holds (pos 4 ∷ x ∷ []) (Remainder i (pos 3) true)) (negsuc 5 ∷ negsuc 4 ∷ []) ≡ true ∷ false ∷ [])

abbrev pub RelationsHavePieces : Type 0
RelationsHavePieces =
    map (λ rel. pieces (d.Compare rel i n)) relations
    ≡ ((Below i n ∷ []) ∷ []) ∷ ((UpTo i n ∷ []) ∷ []) ∷ ((Below n i ∷ []) ∷ []) ∷ ((UpTo n i ∷ []) ∷ []) ∷ ((Same i n ∷ []) ∷ []) ∷ ((Below i n ∷ []) ∷ (Below n i ∷ []) ∷ []) ∷ []

-- (i < n || i == 2) && i != 3 && i % 2 == 0
abbrev choice : Cond
choice = d.All (d.Any (below ∷ two ∷ []) ∷ not_three ∷ even ∷ [])

-- the first entry is slowest; where n is 4 and i is 2, the first and the third piece hold
abbrev pub PiecesStandInOrder : Type 0
PiecesStandInOrder =
    (pieces choice
    ≡ (Below i n ∷ Below i (lit 3) ∷ Remainder i (pos 2) true ∷ [])
    ∷ (Below i n ∷ Below (lit 3) i ∷ Remainder i (pos 2) true ∷ [])
    ∷ (Same i (lit 2) ∷ Below i (lit 3) ∷ Remainder i (pos 2) true ∷ [])
    ∷ (Same i (lit 2) ∷ Below (lit 3) i ∷ Remainder i (pos 2) true ∷ [])
    ∷ []) ×
    (map (piece_holds (pos 4 ∷ pos 2 ∷ [])) (pieces choice) ≡ true ∷ false ∷ true ∷ false ∷ [])

-- five "!=" joined by "&&", or by "||"; one of two and one of three, whose denial is i >= n && i % 2 != 0 || i != 2 && i != 2 && i != 2
abbrev pub PiecesAreNumbered : Type 0
PiecesAreNumbered =
    (counts_of (d.All (replicate 5 not_three)) ≡ record { plain = 32; denied = 5 }) ×
    (counts_of (d.Any (replicate 5 not_three)) ≡ record { plain = 10; denied = 1 }) ×
    (counts_of (d.All (d.Any (below ∷ even ∷ []) ∷ d.Any (replicate 3 two) ∷ [])) ≡ record { plain = 6; denied = 9 }) ×
    (comparisons_of (d.All (d.Any (below ∷ even ∷ []) ∷ d.Any (replicate 3 two) ∷ [])) ≡ 5)

abbrev pub JoinedConditions : Type 0
JoinedConditions =
    (is_joined (d.All (below ∷ two ∷ [])) ≡ true) ×
    (tests_of (d.All (below ∷ two ∷ [])) ≡ record { rel = Less; left = i; right = n } ∷ record { rel = Equal; left = i; right = lit 2 } ∷ []) ×
    (map (λ rel. is_joined (d.Compare rel i n)) relations ≡ true ∷ true ∷ true ∷ true ∷ true ∷ false ∷ []) ×
    (map is_joined (d.All (below ∷ not_three ∷ []) ∷ d.Any (below ∷ two ∷ []) ∷ even ∷ []) ≡ false ∷ false ∷ false ∷ [])

abbrev copy : List Stmt
copy = assign output i input i ∷ []

-- for (i = 0; i < N; i++) { { if (..) out[i] = in[i]; } }, and with an `else`
abbrev pub JoinedPrograms : Type 0
JoinedPrograms =
    (has_joined_tests (program [] [] (each (Block [] (If below copy [] ∷ [])) ∷ [])) ≡ true) ×
    (has_joined_tests (program [] [] (each (Block [] (If not_three copy [] ∷ [])) ∷ [])) ≡ false) ×
    (has_joined_tests (program [] [] (each (Block [] (If below copy copy ∷ [])) ∷ [])) ≡ false) ×
    (has_joined_tests (program [] [] (If below (If even copy [] ∷ []) [] ∷ [])) ≡ false)
