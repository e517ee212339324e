-- The loops of small programs. Each was found by hand from the rules.
use Rattle.std.specs.Prelude.{◌≡◌, ℕ, ℤ, true, false, pos, negsuc, codes, decimal, length, List, [], ◌∷◌, ◌++◌, Some, None, refl}
use Rattle.std.proofs.Common.{lit≤}
use Rattle.std.proofs.lemmas.List.Elements.{All-nil, All-cons}
use Rattle.std.proofs.lemmas.Option.{none-some}
use Rattle.affc_rows.specs.Forms.{Affine, composed_form}
use Rattle.affc_ast.specs.declared.tree.Compare.{Compare}
use Rattle.affc_ast.specs.declared.tree.Cond.{Cond}
use Rattle.affc_ast.specs.declared.tree.Cond.TheVariants as cond
use Rattle.affc_ast.specs.declared.tree.Ix.{Ix}
use Rattle.affc_ast.specs.declared.tree.Ix.TheVariants.{Lit, Name, Neg, Add, Sub, Mul}
use Rattle.affc_ast.specs.declared.tree.Op.TheVariants as op
use Rattle.affc_ast.specs.declared.tree.Param.TheVariants.{Number, Array}
use Rattle.affc_ast.specs.declared.tree.Program.{Program}
use Rattle.affc_ast.specs.declared.tree.Rel.{Rel}
use Rattle.affc_ast.specs.declared.tree.Rel.TheVariants.{Less, LessEqual, Greater, GreaterEqual, Equal}
use Rattle.affc_ast.specs.declared.tree.Role.TheVariants.{Input, Output}
use Rattle.affc_ast.specs.declared.tree.Stmt.{Stmt}
use Rattle.affc_ast.specs.declared.tree.Stmt.TheVariants.{For, If, Assign, Block}
use Rattle.affc_ast.specs.declared.tree.Val.{Val}
use Rattle.affc_ast.specs.declared.tree.Val.TheVariants.{Load, Const, Cast}
use Rattle.affc_ast.specs.Meaning.{Ended, meaning}
use Rattle.affc_ast.specs.Store.{Store}
use Rattle.affc_trace.specs.declared.schedule.TimeMap.{TimeMap}
use Rattle.affc_trace.specs.Examples.{two_columns, undone, cell}
use Rattle.affc_trace.specs.Inverses.{column}
use Rattle.affc_domain.specs.Ranges.{number_ranges}
use Rattle.affc_loops.specs.Between.{loops_between, program_between}
use Rattle.affc_loops.specs.Loops.{scheduled, time_ranges, time_name}
use Rattle.affc_loops.specs.Trees.{form_tree}

abbrev pub lit : ℕ → Ix
lit k = Lit (pos k)

abbrev pub name : ℕ → Ix
name k = Name (record { 0 = k })

abbrev pub test : Ix → Rel → Ix → Compare
test left rel right = record { rel = rel; left = left; right = right }

abbrev pub compare : Ix → Rel → Ix → Cond
compare left rel right = cond.Compare rel left right

abbrev pub assign : (array : ℕ) → List Ix → Val → Stmt
assign array subs value = Assign None (record { 0 = array }) subs value

abbrev pub n : Ix
n = name 0

-- ---- Forms as expressions, over N and then t0

abbrev pub form : (n t c : ℤ) → Affine
form n t c = record { coefs = n ∷ t ∷ []; constant = c }

abbrev tree : Affine → Ix
tree = form_tree 1 1

-- t0 + N - 1; -t0; 3 * t0; -(3 * t0) + 2 * N - 4; t0 - 2 * N + 5; -N; 3; -3; 0
abbrev pub FormsAsExpressions : Type 0
FormsAsExpressions =
    (tree (form (pos 1) (pos 1) (negsuc 0)) ≡ Sub (Add (name 1) n) (lit 1))
    × (tree (form (pos 0) (negsuc 0) (pos 0)) ≡ Neg (name 1))
    × (tree (form (pos 0) (pos 3) (pos 0)) ≡ Mul (lit 3) (name 1))
    × (tree (form (pos 2) (negsuc 2) (negsuc 3)) ≡ Sub (Add (Neg (Mul (lit 3) (name 1))) (Mul (lit 2) n)) (lit 4))
    × (tree (form (negsuc 1) (pos 1) (pos 5)) ≡ Add (Sub (name 1) (Mul (lit 2) n)) (lit 5))
    × (tree (form (negsuc 0) (pos 0) (pos 0)) ≡ Neg n)
    × (tree (form (pos 0) (pos 0) (pos 3)) ≡ lit 3)
    × (tree (form (pos 0) (pos 0) (negsuc 2)) ≡ Neg (lit 3))
    × (tree (form (pos 0) (pos 0) (pos 0)) ≡ lit 0)

-- ---- Times of one component

-- a form over N and an iterator, and its inverse over N and t0
abbrev timed : (n i c n' t c' : ℤ) → composed_form (form n' t c') (column 2 0 ∷ form n i c ∷ []) ≡ column 2 1 → TimeMap
timed n i c n' t c' e = record {
  forms = form n i c ∷ [];
  inverse = form n' t c' ∷ [];
  shaped = two_columns (form n i c) refl;
  inverse_shaped = two_columns (form n' t c') refl;
  at_least_iterators = lit≤ tt;
  inverts = undone (column 2 0 ∷ form n i c ∷ []) (form n' t c') e;
}

-- (-i); i = -t0
abbrev pub backwards : TimeMap
backwards = timed (pos 0) (negsuc 0) (pos 0) (pos 0) (negsuc 0) (pos 0) refl

-- (i - N + 1); i = t0 + N - 1
abbrev late : TimeMap
late = timed (negsuc 0) (pos 1) (pos 1) (pos 1) (pos 1) (negsuc 0) refl

-- ---- A loop that is run backwards

-- for N from 1 to 4: for (i = 0; i < N; i++) out[i] = in[i];
abbrev pub copy : Program
copy = record {
  name = [];
  params = Number [] (pos 1) (pos 4)
      ∷ Array (record { name = []; role = Input; extents = n ∷ [] })
      ∷ Array (record { name = []; role = Output; extents = n ∷ [] })
      ∷ [];
  context = [];
  temps = [];
  body = For [] (lit 0) Less n (assign 1 (name 1 ∷ []) (Load (record { 0 = 0 }) (name 1 ∷ [])) ∷ []) ∷ [];
  prelude = false;
}

-- in holds 7 8 9, and out these
abbrev pub holding : (a b c : ℕ) → Store
holding a b c = (cell 0 0, 7) ∷ (cell 0 1, 8) ∷ (cell 0 2, 9) ∷ (cell 1 0, a) ∷ (cell 1 1, b) ∷ (cell 1 2, c) ∷ []

-- ---- A whole block, and a statement that is never entered

-- for N from 2 to 9:
--   for (i = 0; i < N; i++) if (i >= 1) A[i] = 7;
--   for (k = 5; k < 5; k++) A[k] = 8;
--   for (j = 0; j <= N - 1; j++) A[j] += (uint64_t)j;
abbrev three : Program
three = record {
  name = codes "f";
  params = Number (codes "N") (pos 2) (pos 9) ∷ Array (record { name = codes "A"; role = Output; extents = n ∷ [] }) ∷ [];
  context = test n GreaterEqual (lit 2) ∷ [];
  temps = [];
  body =
      For (codes "i") (lit 0) Less n (If (compare (name 1) GreaterEqual (lit 1)) (assign 0 (name 1 ∷ []) (Const 7) ∷ []) [] ∷ [])
      ∷ For (codes "k") (lit 5) Less (lit 5) (assign 0 (name 1 ∷ []) (Const 8) ∷ [])
      ∷ For (codes "j") (lit 0) LessEqual (Sub n (lit 1)) (Assign (Some op.Add) (record { 0 = 0 }) (name 1 ∷ []) (Cast (name 1)) ∷ [])
      ∷ [];
  prelude = false;
}

-- a local and the tests round a body
abbrev block : (word : List ℕ) → Ix → (boxed timed bounded : Cond) → List Stmt → Stmt
block word value boxed timed bounded body = Block (record { name = word; value = value } ∷ []) (If boxed (If timed (If bounded body [] ∷ []) [] ∷ []) [] ∷ [])

abbrev both : Cond → Cond → Cond
both c d = cond.All (c ∷ d ∷ [])

abbrev between : Ix → Ix → Ix → Cond
between low x high = both (compare low LessEqual x) (compare x LessEqual high)

-- S0 at (i - N + 1), from -8 to 7; S1 at (-k), never; S2 at (-j), from -8 to 0
abbrev pub TimesOfThree : Type 0
TimesOfThree = time_ranges (number_ranges three.params) (scheduled three (late ∷ backwards ∷ backwards ∷ [])) ≡ (negsuc 7, pos 7) ∷ []

--   for (affc_t0 = -8; affc_t0 <= 7; affc_t0++) {
--     { i = affc_t0 + N - 1; if (0 <= i && i <= 8) if (affc_t0 == i - N + 1) if (0 <= i && i < N) if (i >= 1) A[i] = 7; }
--     { j = -affc_t0; if (0 <= j && j <= 8) if (affc_t0 == -j) if (0 <= j && j <= N - 1) A[j] += (uint64_t)j; }
--   }
abbrev pub LoopsOfThree : Type 0
LoopsOfThree = program_between three (late ∷ backwards ∷ backwards ∷ []) ((Neg (lit 8), lit 7) ∷ []) ≡ record three {
  body =
      For (time_name 0) (Neg (lit 8)) LessEqual (lit 7) (
      block (codes "i") (Sub (Add (name 1) n) (lit 1)) (between (lit 0) (name 2) (lit 8)) (compare (name 1) Equal (Add (Sub (name 2) n) (lit 1)))
      (both (compare (lit 0) LessEqual (name 2)) (compare (name 2) Less n))
      (If (compare (name 2) GreaterEqual (lit 1)) (assign 0 (name 2 ∷ []) (Const 7) ∷ []) [] ∷ [])
      ∷ block (codes "j") (Neg (name 1)) (between (lit 0) (name 2) (lit 8)) (compare (name 1) Equal (Neg (name 2)))
      (both (compare (lit 0) LessEqual (name 2)) (compare (name 2) LessEqual (Sub n (lit 1))))
      (Assign (Some op.Add) (record { 0 = 0 }) (name 2 ∷ []) (Cast (name 2)) ∷ [])
      ∷ []
      )
      ∷ [];
  prelude = true;
}

-- ---- The branches of an `if`

-- if (N > 3 || N % 2 != 0) A[0] = 7; else A[0] = 9;
abbrev branches : Program
branches = record three {
  context = [];
  body = If (cond.Any (compare n Greater (lit 3) ∷ cond.Divides n (pos 2) false ∷ [])) (assign 0 (lit 0 ∷ []) (Const 7) ∷ []) (assign 0 (lit 0 ∷ []) (Const 9) ∷ []) ∷ [];
}

-- a time that is 4, over one parameter and no loop
abbrev alone : TimeMap
alone = record {
  forms = record { coefs = pos 0 ∷ []; constant = pos 4 } ∷ [];
  inverse = [];
  shaped = All-cons (λ g. length g.coefs ≡ 1) (record { coefs = pos 0 ∷ []; constant = pos 4 }) [] refl (All-nil (λ g. length g.coefs ≡ 1));
  inverse_shaped = All-nil (λ g. length g.coefs ≡ 2);
  at_least_iterators = lit≤ tt;
  inverts = λ k g e. absurd (none-some g e);
}

--   for (affc_t0 = 4; affc_t0 <= 4; affc_t0++) {
--     { if (affc_t0 == 4) if (N > 3 || N % 2 != 0) A[0] = 7; }
--     { if (affc_t0 == 4) if (N <= 3 && N % 2 == 0) A[0] = 9; }
--   }
abbrev pub LoopsOfBranches : Type 0
LoopsOfBranches = program_between branches (alone ∷ alone ∷ []) ((lit 4, lit 4) ∷ []) ≡ record branches {
  body =
      For (time_name 0) (lit 4) LessEqual (lit 4) (
      Block [] (If (compare (name 1) Equal (lit 4)) (If (cond.Any (compare n Greater (lit 3) ∷ cond.Divides n (pos 2) false ∷ [])) (assign 0 (lit 0 ∷ []) (Const 7) ∷ []) [] ∷ []) [] ∷ [])
      ∷ Block [] (If (compare (name 1) Equal (lit 4)) (If (cond.All (compare n LessEqual (lit 3) ∷ cond.Divides n (pos 2) true ∷ [])) (assign 0 (lit 0 ∷ []) (Const 9) ∷ []) [] ∷ []) [] ∷ [])
      ∷ []
      )
      ∷ [];
  prelude = true;
}

-- ---- The loops of two components

-- for (affc_t0 = 0; affc_t0 <= 1; affc_t0++) for (affc_t1 = 2; affc_t1 <= affc_t0; affc_t1++)
abbrev pub LoopsOfTwo : Type 0
LoopsOfTwo = loops_between ((lit 0, lit 1) ∷ (lit 2, name 0) ∷ []) 0 []
    ≡ For (codes "affc_t" ++ decimal 0) (lit 0) LessEqual (lit 1) (For (codes "affc_t" ++ decimal 1) (lit 2) LessEqual (name 0) [] ∷ []) ∷ []

-- ---- No statement

-- for (k = 5; k < 5; k++) A[k] = 8;
abbrev idle : Program
idle = record three { body = For (codes "k") (lit 5) Less (lit 5) (assign 0 (name 1 ∷ []) (Const 8) ∷ []) ∷ [] }

abbrev pub NothingToRun : Type 0
NothingToRun = program_between idle (backwards ∷ []) ((lit 0, lit 1) ∷ []) ≡ record three { body = []; prelude = true }

-- ---- Ties

-- a constant time, where there is neither a parameter nor a loop
abbrev at_once : TimeMap
at_once = record {
  forms = record { coefs = []; constant = pos 4 } ∷ [];
  inverse = [];
  shaped = All-cons (λ g. length g.coefs ≡ 0) (record { coefs = []; constant = pos 4 }) [] refl (All-nil (λ g. length g.coefs ≡ 0));
  inverse_shaped = All-nil (λ g. length g.coefs ≡ 1);
  at_least_iterators = lit≤ tt;
  inverts = λ k g e. absurd (none-some g e);
}

-- A[0] = 7; A[0] = 9;
abbrev twice : Program
twice = record {
  name = [];
  params = Array (record { name = []; role = Output; extents = lit 1 ∷ [] }) ∷ [];
  context = [];
  temps = [];
  body = assign 0 (lit 0 ∷ []) (Const 7) ∷ assign 0 (lit 0 ∷ []) (Const 9) ∷ [];
  prelude = false;
}

-- At one time the statements run in the order of their numbers.
abbrev pub TiesInOrder : Type 0
TiesInOrder = meaning (program_between twice (at_once ∷ at_once ∷ []) ((lit 4, lit 4) ∷ [])) [] ((cell 0 0, 0) ∷ [])
    ≡ Ended (record { store = (cell 0 0, 9) ∷ []; written = (cell 0 0, 7) ∷ (cell 0 0, 9) ∷ []; steps = 3 })
