-- What is the first fault of small programs. Each was found by hand from the rules.
use Rattle.std.specs.Prelude.{ℕ, ℤ, pos, false, List, [], ◌∷◌, None}
use Rattle.affc_ast.specs.declared.tree.Compare.{Compare}
use Rattle.affc_ast.specs.declared.tree.Ix.{Ix}
use Rattle.affc_ast.specs.declared.tree.Ix.TheVariants.{Lit, Name, Sub}
use Rattle.affc_ast.specs.declared.tree.Op.TheVariants as op
use Rattle.affc_ast.specs.declared.tree.Param.{Param}
use Rattle.affc_ast.specs.declared.tree.Param.TheVariants.{Number, Array}
use Rattle.affc_ast.specs.declared.tree.Program.{Program}
use Rattle.affc_ast.specs.declared.tree.Rel.TheVariants.{Less, Equal}
use Rattle.affc_ast.specs.declared.tree.Role.TheVariants.{Output}
use Rattle.affc_ast.specs.declared.tree.Stmt.{Stmt}
use Rattle.affc_ast.specs.declared.tree.Stmt.TheVariants.{For, Assign}
use Rattle.affc_ast.specs.declared.tree.Val.{Val}
use Rattle.affc_ast.specs.declared.tree.Val.TheVariants.{Load, Const, Bin}
use Rattle.affc_bounds.specs.Spots.{IsNarrow, IsFirstNarrow, IsFirstOutside}

-- ---- Programs over N from 1 to 2

abbrev pub lit : ℕ → Ix
lit k = Lit (pos k)

abbrev pub name : ℕ → Ix
name k = Name (record { 0 = k })

-- N = k
abbrev pub at : ℕ → List ℤ
at k = pos k ∷ []

abbrev pub array : List Ix → Param
array extents = Array (record { name = []; role = Output; extents = extents })

abbrev pub over : List Param → List Compare → List Stmt → Program
over arrays context body = record { name = []; params = Number [] (pos 1) (pos 2) ∷ arrays; context = context; temps = []; body = body; prelude = false }

-- ---- Extents

-- A[N - 1] and B[N - 1]: both are too small at 1, and the first array is named
abbrev pub both_narrow : Program
both_narrow = over (array (Sub (name 0) (lit 1) ∷ []) ∷ array (Sub (name 0) (lit 1) ∷ []) ∷ []) [] []

abbrev pub LesserArrayFirst : Type 0
LesserArrayFirst = IsFirstNarrow both_narrow (at 1) 0

-- A[2 - N] and B[N][N - 1]: the second is too small at 1, in its second dimension, and the first only at 2
abbrev pub later_narrow : Program
later_narrow = over (array (Sub (lit 2) (name 0) ∷ []) ∷ array (name 0 ∷ Sub (name 0) (lit 1) ∷ []) ∷ []) [] []

abbrev pub LesserParametersFirst : Type 0
LesserParametersFirst = IsFirstNarrow later_narrow (at 1) 1

-- the same where N == 2
abbrev pub narrow_at_two : Program
narrow_at_two = record later_narrow { context = record { rel = Equal; left = name 0; right = lit 2 } ∷ [] }

abbrev pub OnlyInTheContext : Type 0
OnlyInTheContext = IsFirstNarrow narrow_at_two (at 2) 0 × (¬ (IsNarrow narrow_at_two (at 1) 1))

-- ---- Accesses of A[1]

abbrev pub storing : Ix → Val → Stmt
storing sub value = Assign None (record { 0 = 0 }) (sub ∷ []) value

abbrev pub loaded : Ix → Val
loaded sub = Load (record { 0 = 0 }) (sub ∷ [])

abbrev pub with_body : List Stmt → Program
with_body body = over (array (lit 1 ∷ []) ∷ []) [] body

-- A[N - 1] = 7; A[N] = 7: the second store lies outside at 1, and the first only at 2
abbrev pub later_outside : Program
later_outside = with_body (storing (Sub (name 0) (lit 1)) (Const 7) ∷ storing (name 0) (Const 7) ∷ [])

abbrev pub ParametersBeforeStatements : Type 0
ParametersBeforeStatements = IsFirstOutside later_outside (at 1) (record { statement = 1; iterators = [] }) 0

-- for (i = 0; i < 3; i++) A[i] = 7; A[N] = 7: the first is outside at 1 and 2, as the second is
abbrev pub outside_twice : Program
outside_twice = with_body (For [] (lit 0) Less (lit 3) (storing (name 1) (Const 7) ∷ []) ∷ storing (name 0) (Const 7) ∷ [])

abbrev pub StatementsThenIterators : Type 0
StatementsThenIterators = IsFirstOutside outside_twice (at 1) (record { statement = 0; iterators = pos 1 ∷ [] }) 0

-- A[1] = A[0] + A[2]: the second load and then the store
abbrev pub loading_past : Program
loading_past = with_body (storing (lit 1) (Bin op.Add (loaded (lit 0)) (loaded (lit 2))) ∷ [])

abbrev pub LoadsBeforeTheStore : Type 0
LoadsBeforeTheStore = IsFirstOutside loading_past (at 1) (record { statement = 0; iterators = [] }) 1
