-- The questions of a small fold. Each row was found by hand from the rules.
use Rattle.std.specs.Prelude.{◌≡◌, ℤ, pos, negsuc, List, [], ◌∷◌, ◌++◌, None}
use Rattle.affc_rows.specs.Forms.{Affine}
use Rattle.affc_system.specs.Systems.{Rows}
use Rattle.affc_system.specs.Examples.{form, below_n, AreNeighbours}
use Rattle.affc_system.specs.declared.pairs.PairSystem.{PairSystem}
use Rattle.affc_basis.specs.declared.fold.Mark.{Mark}
use Rattle.affc_basis.specs.declared.fold.Mark.TheVariants.{Least, Bound}
use Rattle.affc_basis.specs.declared.fold.Modulus.{Modulus}
use Rattle.affc_basis.specs.Examples.{x0, one_more}
use Rattle.affc_conflicts.specs.Questions.{slice_system, distance_questions, fold_questions, shown_system}

-- N from 1 to 9
abbrev pub any : Rows
any = record { columns = 1; rows = [] }

abbrev pub up_to_nine : List (ℤ × ℤ)
up_to_nine = (pos 1, pos 9) ∷ []

-- a N + c
abbrev pub line : (a c : ℤ) → Affine
line a c = record { coefs = a ∷ []; constant = c }

-- N in its range, and one row more
abbrev pub in_range_with : Affine → Rows
in_range_with row = record { columns = 1; rows = line (pos 1) (negsuc 0) ∷ line (negsuc 0) (pos 9) ∷ row ∷ [] }

abbrev pub modulus : Mark → Modulus
modulus mark = record { form = one_more; mark = mark }

-- N + 1 at most 0, and N + 1 at least 5, where the mark is at N = 3; a bound has no mark's question
abbrev pub QuestionsOfTheContext : Type 0
QuestionsOfTheContext =
    (fold_questions any up_to_nine [] (x0 ∷ []) (modulus (Least (pos 3 ∷ []) None) ∷ []) ≡ in_range_with (line (negsuc 0) (negsuc 0)) ∷ in_range_with (line (pos 1) (negsuc 3)) ∷ [])
    × (fold_questions any up_to_nine [] (x0 ∷ []) (modulus Bound ∷ []) ≡ in_range_with (line (negsuc 0) (negsuc 0)) ∷ [])

-- the neighbours i and i + 1 below n, and rows more
abbrev pub neighbours_with : List Affine → Rows
neighbours_with more = record { columns = 2; rows = below_n.rows ++ more }

-- -1 at least n + 1, and 1 at least n + 1
abbrev pub QuestionsOfNeighbours : Type 0
QuestionsOfNeighbours = (s : PairSystem) → AreNeighbours s
    → distance_questions (x0 ∷ []) 0 x0 one_more (s ∷ [])
    ≡ neighbours_with (form (negsuc 0) (pos 0) (negsuc 1) ∷ []) ∷ neighbours_with (form (negsuc 0) (pos 0) (pos 0) ∷ []) ∷ []

-- -1 is 0: at least 0, and at most 0
abbrev pub SliceOfNeighbours : Type 0
SliceOfNeighbours = (s : PairSystem) → AreNeighbours s
    → slice_system (x0 ∷ x0 ∷ []) 1 s ≡ neighbours_with (form (pos 0) (pos 0) (negsuc 0) ∷ form (pos 0) (pos 0) (pos 1) ∷ [])

-- 1 is n + 1 less 1, at least and at most, and it is at least 1
abbrev pub MarkOfNeighbours : Type 0
MarkOfNeighbours = (s : PairSystem) → AreNeighbours s
    → shown_system (x0 ∷ []) 0 x0 one_more s s.y.items s.x.items
    ≡ neighbours_with (form (negsuc 0) (pos 0) (pos 1) ∷ form (pos 1) (pos 0) (negsuc 0) ∷ form (pos 0) (pos 0) (pos 0) ∷ [])
