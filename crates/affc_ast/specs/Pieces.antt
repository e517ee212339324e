-- The pieces of a condition: lists of atoms. It is true exactly where all atoms of one of its pieces are.
use Rattle.std.specs.Prelude.{ℕ, ◌+◌, ◌*◌, ℤ, Bool, int_lt, int_le, ◌&&◌, List, [], ◌∷◌, ◌++◌, map, flat_map}
use Rattle.std.specs.List.{list_all}
use Rattle.affc_ast.specs.declared.tree.Cond.{Cond}
use Rattle.affc_ast.specs.declared.tree.Cond.TheOpen.{Cond-F, Compare, All, Any, Divides}
use Rattle.affc_ast.specs.declared.tree.Ix.{Ix}
use Rattle.affc_ast.specs.declared.tree.Rel.{Rel}
use Rattle.affc_ast.specs.declared.tree.Rel.TheVariants.{Less, LessEqual, Greater, GreaterEqual, Equal, NotEqual}
use Rattle.affc_ast.specs.Conditions.{divides, is_so}
use Rattle.affc_ast.specs.Denials.{opposite}
use Rattle.affc_ast.specs.Fits.{whole}
use Rattle.affc_ast.specs.Recursion.{by_cond}
use Rattle.affc_ast.specs.Trace.{joined}

-- ---- Atoms

-- "left < right", "left <= right", "left == right", or whether it is so that a number divides a value
pub data Atom : Type 0 where
  Below : (left right : Ix) → Atom
  UpTo : (left right : Ix) → Atom
  Same : (left right : Ix) → Atom
  Remainder : (value : Ix) → (by : ℤ) → (so : Bool) → Atom

abbrev pub atom_holds : (names : List ℤ) → Atom → Bool
atom_holds names (Below left right) = int_lt (whole left names) (whole right names)
atom_holds names (UpTo left right) = int_le (whole left names) (whole right names)
atom_holds names (Same left right) = int_le (whole left names) (whole right names) && int_le (whole right names) (whole left names)
atom_holds names (Remainder value by so) = is_so so (divides by (whole value names))

abbrev pub piece_holds : (names : List ℤ) → List Atom → Bool
piece_holds names piece = list_all (atom_holds names) piece

-- ---- Pieces

-- "a > b" is "b < a", and "a != b" is "a < b" and then "b < a"
abbrev pub pieces_of_relation : Rel → (left right : Ix) → List (List Atom)
pieces_of_relation Less left right = (Below left right ∷ []) ∷ []
pieces_of_relation LessEqual left right = (UpTo left right ∷ []) ∷ []
pieces_of_relation Greater left right = (Below right left ∷ []) ∷ []
pieces_of_relation GreaterEqual left right = (UpTo right left ∷ []) ∷ []
pieces_of_relation Equal left right = (Same left right ∷ []) ∷ []
pieces_of_relation NotEqual left right = (Below left right ∷ []) ∷ (Below right left ∷ []) ∷ []

-- this piece before each of those
abbrev pub before : List (List Atom) → List Atom → List (List Atom)
before others piece = map (λ other. piece ++ other) others

-- a piece of each condition, in all ways, that of the first condition slowest
abbrev pub product : List (List (List Atom)) → List (List Atom)
product [] = [] ∷ []
product (ps ∷ pss) = flat_map (before (product pss)) ps

abbrev pub pieces_step : Cond-F (List (List Atom)) → List (List Atom)
pieces_step (Compare rel left right) = pieces_of_relation rel left right
pieces_step (All pss) = product pss
pieces_step (Any pss) = joined pss
pieces_step (Divides value by so) = (Remainder value by so ∷ []) ∷ []

abbrev pub pieces : Cond → List (List Atom)
pieces = by_cond pieces_step

-- ---- How many

-- of a condition, and of its denial
pub record Counts : Type 0 where
  pub plain : ℕ
  pub denied : ℕ

abbrev pub multiplied : List ℕ → ℕ
multiplied [] = 1
multiplied (n ∷ ns) = n * multiplied ns

abbrev pub added : List ℕ → ℕ
added [] = 0
added (n ∷ ns) = n + added ns

abbrev pub count_of_relation : Rel → ℕ
count_of_relation NotEqual = 2
count_of_relation _ = 1

abbrev pub counts_of_relation : Rel → Counts
counts_of_relation rel = record { plain = count_of_relation rel; denied = count_of_relation (opposite rel) }

abbrev pub counts_of_all : List Counts → Counts
counts_of_all ns = record { plain = multiplied (map (λ n. n.plain) ns); denied = added (map (λ n. n.denied) ns) }

abbrev pub counts_of_any : List Counts → Counts
counts_of_any ns = record { plain = added (map (λ n. n.plain) ns); denied = multiplied (map (λ n. n.denied) ns) }

-- of a remainder
abbrev pub single : Counts
single = record { plain = 1; denied = 1 }

abbrev pub counts_step : Cond-F Counts → Counts
counts_step (Compare rel left right) = counts_of_relation rel
counts_step (All ns) = counts_of_all ns
counts_step (Any ns) = counts_of_any ns
counts_step (Divides value by so) = single

-- how many pieces a condition has, and how many its denial has
abbrev pub counts_of : Cond → Counts
counts_of = by_cond counts_step

abbrev pub comparisons_step : Cond-F ℕ → ℕ
comparisons_step (Compare rel left right) = 1
comparisons_step (All ns) = added ns
comparisons_step (Any ns) = added ns
comparisons_step (Divides value by so) = 1

-- how many comparisons and remainders a condition has
abbrev pub comparisons_of : Cond → ℕ
comparisons_of = by_cond comparisons_step
