-- The nests of small programs. Each row was found by hand from the rules.
use Rattle.std.specs.Prelude.{◌≡◌, ℕ, ℤ, pos, negsuc, true, false, List, [], ◌∷◌, ◌++◌, map, replicate, Some, None}
use Rattle.affc_rows.specs.Forms.{Affine}
use Rattle.affc_system.specs.Systems.{Rows}
use Rattle.affc_ast.specs.declared.tree.Compare.{Compare}
use Rattle.affc_ast.specs.declared.tree.Cond.{Cond}
use Rattle.affc_ast.specs.declared.tree.Cond.TheVariants as cond
use Rattle.affc_ast.specs.declared.tree.Ix.{Ix}
use Rattle.affc_ast.specs.declared.tree.Ix.TheVariants.{Lit, Name, Add, Sub, Mul}
use Rattle.affc_ast.specs.declared.tree.Op.TheVariants as op
use Rattle.affc_ast.specs.declared.tree.Param.TheVariants.{Number, Array}
use Rattle.affc_ast.specs.declared.tree.Program.{Program}
use Rattle.affc_ast.specs.declared.tree.Rel.{Rel}
use Rattle.affc_ast.specs.declared.tree.Rel.TheVariants.{Less, LessEqual, Greater, GreaterEqual, Equal, NotEqual}
use Rattle.affc_ast.specs.declared.tree.Role.TheVariants.{Output, Temp}
use Rattle.affc_ast.specs.declared.tree.Stmt.{Stmt}
use Rattle.affc_ast.specs.declared.tree.Stmt.TheVariants.{For, If, Assign}
use Rattle.affc_ast.specs.declared.tree.Val.{Val}
use Rattle.affc_ast.specs.declared.tree.Val.TheVariants.{Load, Const}
use Rattle.affc_nest.specs.declared.nest.Access.{Access}
use Rattle.affc_domain.specs.Rounds.{Loop, Test}
use Rattle.affc_nest.specs.Domains.{condition_rows}
use Rattle.affc_nest.specs.Nests.{nest_of}
use Rattle.affc_nest.specs.Questions.{extent_questions, bound_questions}
use Rattle.affc_nest.specs.Sites.{places_of}

abbrev lit : ℕ → Ix
lit k = Lit (pos k)

abbrev name : ℕ → Ix
name k = Name (record { 0 = k })

abbrev stores : Ix → Stmt
stores sub = Assign None (record { 0 = 0 }) (sub ∷ []) (Const 7)

-- for N from 1 to 10, where N == 4, over A[N + N]:
--   for (i = 0; i < N; i++) for (j = i; j <= 2 * i; j++) if (j > 1) A[i + j] = 7;
--   for (k = 5; k < 5; k++) A[k] = 7;
abbrev triangle : Program
triangle = record {
  name = [];
  params = Number [] (pos 1) (pos 10) ∷ Array (record { name = []; role = Output; extents = Add (name 0) (name 0) ∷ [] }) ∷ [];
  context = record { rel = Equal; left = name 0; right = lit 4 } ∷ [];
  temps = [];
  body =
      For [] (lit 0) Less (name 0) (For [] (name 1) LessEqual (Mul (lit 2) (name 1)) (If (cond.Compare Greater (name 2) (lit 1)) (stores (Add (name 1) (name 2)) ∷ []) [] ∷ []) ∷ [])
      ∷ For [] (lit 5) Less (lit 5) (stores (name 1) ∷ []) ∷ [];
  prelude = false;
}

abbrev row : List ℤ → ℤ → Affine
row cs k = record { coefs = cs; constant = k }

-- over N, i, j: N from 1 to 10; N == 4; 0 <= i < N, i from 0 to 9; i <= j <= 2 i, j from 0 to 18; j > 1
abbrev inner_rows : List Affine
inner_rows =
    row (pos 1 ∷ pos 0 ∷ pos 0 ∷ []) (negsuc 0) ∷ row (negsuc 0 ∷ pos 0 ∷ pos 0 ∷ []) (pos 10)
    ∷ row (pos 1 ∷ pos 0 ∷ pos 0 ∷ []) (negsuc 3) ∷ row (negsuc 0 ∷ pos 0 ∷ pos 0 ∷ []) (pos 4)
    ∷ row (pos 0 ∷ pos 1 ∷ pos 0 ∷ []) (pos 0) ∷ row (pos 1 ∷ negsuc 0 ∷ pos 0 ∷ []) (negsuc 0)
    ∷ row (pos 0 ∷ pos 1 ∷ pos 0 ∷ []) (pos 0) ∷ row (pos 0 ∷ negsuc 0 ∷ pos 0 ∷ []) (pos 9)
    ∷ row (pos 0 ∷ negsuc 0 ∷ pos 1 ∷ []) (pos 0) ∷ row (pos 0 ∷ pos 2 ∷ negsuc 0 ∷ []) (pos 0)
    ∷ row (pos 0 ∷ pos 0 ∷ pos 1 ∷ []) (pos 0) ∷ row (pos 0 ∷ pos 0 ∷ negsuc 0 ∷ []) (pos 18)
    ∷ row (pos 0 ∷ pos 0 ∷ pos 1 ∷ []) (negsuc 1) ∷ []

abbrev context_rows : List Affine
context_rows = row (pos 1 ∷ []) (negsuc 3) ∷ row (negsuc 0 ∷ []) (pos 4) ∷ []

abbrev pub TriangleNest : Type 0
TriangleNest = nest_of triangle ≡ record {
  params = (pos 1, pos 10) ∷ [];
  context = record { columns = 1; rows = context_rows };
  arrays = record { role = Output; extents = row (pos 2 ∷ []) (pos 0) ∷ [] } ∷ [];
  entries =
      record {
        part = 0;
        statement = 0;
        alive = true;
        loops = 0 ∷ 1 ∷ [];
        domain = record { columns = 3; rows = inner_rows };
        ranges = (pos 0, pos 9) ∷ (pos 0, pos 18) ∷ [];
        accesses = record { array = record { 0 = 0 }; subs = row (pos 0 ∷ pos 1 ∷ pos 1 ∷ []) (pos 0) ∷ [] } ∷ [];
      }
      ∷ record {
        part = 1;
        statement = 1;
        alive = false;
        loops = 2 ∷ [];
        domain = record { columns = 2; rows = row (pos 0 ∷ pos 0 ∷ []) (negsuc 0) ∷ [] };
        ranges = [];
        accesses = record { array = record { 0 = 0 }; subs = row (pos 0 ∷ pos 1 ∷ []) (pos 0) ∷ [] } ∷ [];
      }
      ∷ [];
}

-- 2 N at most 0
abbrev pub TriangleExtents : Type 0
TriangleExtents = extent_questions (nest_of triangle)
    ≡ record { columns = 1; rows = row (pos 1 ∷ []) (negsuc 0) ∷ row (negsuc 0 ∷ []) (pos 10) ∷ context_rows ++ row (negsuc 1 ∷ []) (pos 0) ∷ [] } ∷ []

-- i + j at most -1, and at least 2 N; none of the statement that never runs
abbrev pub TriangleBounds : Type 0
TriangleBounds = bound_questions (nest_of triangle)
    ≡ record { columns = 3; rows = inner_rows ++ row (pos 0 ∷ negsuc 0 ∷ negsuc 0 ∷ []) (negsuc 0) ∷ [] }
    ∷ record { columns = 3; rows = inner_rows ++ row (negsuc 1 ∷ pos 1 ∷ pos 1 ∷ []) (pos 0) ∷ [] } ∷ []

-- ---- Conditions, and statements that never run

abbrev test : Ix → Rel → Ix → Compare
test left rel right = record { rel = rel; left = left; right = right }

abbrev when : Ix → Rel → Ix → Cond
when left rel right = cond.Compare rel left right

-- array[subs] = value;
abbrev assign : (array : ℕ) → List Ix → Val → Stmt
assign array subs value = Assign None (record { 0 = array }) subs value

abbrev reads : (array : ℕ) → List Ix → Val
reads array subs = Load (record { 0 = array }) subs

abbrev array_with : ℕ → List Affine → Access
array_with array subs = record { array = record { 0 = array }; subs = subs }

-- for A[N + 1][2 * N + 1], N from 0 to 3 and a temporary s without dimensions:
--   for (i = 0; i <= N; i++) {
--     if (i < N && i <= 8 && i > 1 && i >= 2 && i == 2) A[i][2 * i] += s;
--     for (j = 5; j < 5; j++) s = A[i][i * 2];
--   }
--   for (k = 1; k <= 0; k++) for (l = 0; l < N; l++) s = 7;
abbrev sieve : Program
sieve = record {
  name = [];
  params = Array (record { name = []; role = Output; extents = Add (name 0) (lit 1) ∷ Add (Mul (lit 2) (name 0)) (lit 1) ∷ [] }) ∷ Number [] (pos 0) (pos 3) ∷ [];
  context = [];
  temps = record { name = []; role = Temp; extents = [] } ∷ [];
  body =
      For [] (lit 0) LessEqual (name 0) (
      If (cond.All (when (name 1) Less (name 0) ∷ when (name 1) LessEqual (lit 8) ∷ when (name 1) Greater (lit 1) ∷ when (name 1) GreaterEqual (lit 2) ∷ when (name 1) Equal (lit 2) ∷ []))
      (Assign (Some op.Add) (record { 0 = 0 }) (name 1 ∷ Mul (lit 2) (name 1) ∷ []) (reads 1 []) ∷ []) []
      ∷ For [] (lit 5) Less (lit 5) (assign 1 [] (reads 0 (name 1 ∷ Mul (name 1) (lit 2) ∷ [])) ∷ []) ∷ []
      )
      ∷ For [] (lit 1) LessEqual (lit 0) (For [] (lit 0) Less (name 0) (assign 1 [] (Const 7) ∷ []) ∷ []) ∷ [];
  prelude = false;
}

-- over N, i: N from 0 to 3; 0 <= i <= N, i from 0 to 3; i < N, i <= 8, i > 1, i >= 2, i >= 2 and i <= 2
abbrev sieve_rows : List Affine
sieve_rows =
    row (pos 1 ∷ pos 0 ∷ []) (pos 0) ∷ row (negsuc 0 ∷ pos 0 ∷ []) (pos 3)
    ∷ row (pos 0 ∷ pos 1 ∷ []) (pos 0) ∷ row (pos 1 ∷ negsuc 0 ∷ []) (pos 0)
    ∷ row (pos 0 ∷ pos 1 ∷ []) (pos 0) ∷ row (pos 0 ∷ negsuc 0 ∷ []) (pos 3)
    ∷ row (pos 1 ∷ negsuc 0 ∷ []) (negsuc 0)
    ∷ row (pos 0 ∷ negsuc 0 ∷ []) (pos 8)
    ∷ row (pos 0 ∷ pos 1 ∷ []) (negsuc 1)
    ∷ row (pos 0 ∷ pos 1 ∷ []) (negsuc 1)
    ∷ row (pos 0 ∷ pos 1 ∷ []) (negsuc 1) ∷ row (pos 0 ∷ negsuc 0 ∷ []) (pos 2) ∷ []

-- A[i][2 i], of `+=` at first
abbrev own : Access
own = array_with 0 (row (pos 0 ∷ pos 1 ∷ []) (pos 0) ∷ row (pos 0 ∷ pos 2 ∷ []) (pos 0) ∷ [])

abbrev none_over_three : Rows
none_over_three = record { columns = 3; rows = row (pos 0 ∷ pos 0 ∷ pos 0 ∷ []) (negsuc 0) ∷ [] }

abbrev pub SieveNest : Type 0
SieveNest = nest_of sieve ≡ record {
  params = (pos 0, pos 3) ∷ [];
  context = record { columns = 1; rows = [] };
  arrays = record { role = Output; extents = row (pos 1 ∷ []) (pos 1) ∷ row (pos 2 ∷ []) (pos 1) ∷ [] } ∷ record { role = Temp; extents = [] } ∷ [];
  entries =
      record {
        part = 0;
        statement = 0;
        alive = true;
        loops = 0 ∷ [];
        domain = record { columns = 2; rows = sieve_rows };
        ranges = (pos 0, pos 3) ∷ [];
        accesses = own ∷ array_with 1 [] ∷ own ∷ [];
      }
      ∷ record {
        part = 1;
        statement = 1;
        alive = false;
        loops = 0 ∷ 1 ∷ [];
        domain = none_over_three;
        ranges = [];
        accesses = array_with 0 (row (pos 0 ∷ pos 1 ∷ pos 0 ∷ []) (pos 0) ∷ row (pos 0 ∷ pos 2 ∷ pos 0 ∷ []) (pos 0) ∷ []) ∷ array_with 1 [] ∷ [];
      }
      ∷ record {
        part = 2;
        statement = 2;
        alive = false;
        loops = 2 ∷ 3 ∷ [];
        domain = none_over_three;
        ranges = [];
        accesses = array_with 1 [] ∷ [];
      }
      ∷ [];
}

-- N + 1 at most 0, 2 N + 1 at most 0
abbrev pub SieveExtents : Type 0
SieveExtents = extent_questions (nest_of sieve)
    ≡ record { columns = 1; rows = row (pos 1 ∷ []) (pos 0) ∷ row (negsuc 0 ∷ []) (pos 3) ∷ row (negsuc 0 ∷ []) (negsuc 0) ∷ [] }
    ∷ record { columns = 1; rows = row (pos 1 ∷ []) (pos 0) ∷ row (negsuc 0 ∷ []) (pos 3) ∷ row (negsuc 1 ∷ []) (negsuc 0) ∷ [] } ∷ []

-- i at most -1, and at least N + 1; 2 i at most -1, and at least 2 N + 1
abbrev own_bounds : List Rows
own_bounds = map (λ r. record { columns = 2; rows = sieve_rows ++ r ∷ [] }) (
    row (pos 0 ∷ negsuc 0 ∷ []) (negsuc 0) ∷ row (negsuc 0 ∷ pos 1 ∷ []) (negsuc 0)
    ∷ row (pos 0 ∷ negsuc 1 ∷ []) (negsuc 0) ∷ row (negsuc 1 ∷ pos 2 ∷ []) (negsuc 0) ∷ []
    )

-- of the load and of the store; s has no dimension
abbrev pub SieveBounds : Type 0
SieveBounds = bound_questions (nest_of sieve) ≡ own_bounds ++ own_bounds

-- ---- Four parameters, and six loops

-- a from 0 to 9, b from -3 to 3, c from 5 to 5, d from 0 to 16777216, where
-- a == 4 && b <= c - 8 && c >= 5 && d > 16777215: at one point of the context a number s is 7
abbrev one_point : Program
one_point = record {
  name = [];
  params = Number [] (pos 0) (pos 9) ∷ Number [] (negsuc 2) (pos 3) ∷ Number [] (pos 5) (pos 5) ∷ Number [] (pos 0) (pos 16777216) ∷ Array (record { name = []; role = Output; extents = [] }) ∷ [];
  context = test (name 0) Equal (lit 4) ∷ test (name 1) LessEqual (Sub (name 2) (lit 8)) ∷ test (name 2) GreaterEqual (lit 5) ∷ test (name 3) Greater (lit 16777215) ∷ [];
  temps = [];
  body = assign 0 [] (Const 7) ∷ [];
  prelude = false;
}

abbrev one_point_context : List Affine
one_point_context =
    row (pos 1 ∷ pos 0 ∷ pos 0 ∷ pos 0 ∷ []) (negsuc 3) ∷ row (negsuc 0 ∷ pos 0 ∷ pos 0 ∷ pos 0 ∷ []) (pos 4)
    ∷ row (pos 0 ∷ negsuc 0 ∷ pos 1 ∷ pos 0 ∷ []) (negsuc 7)
    ∷ row (pos 0 ∷ pos 0 ∷ pos 1 ∷ pos 0 ∷ []) (negsuc 4)
    ∷ row (pos 0 ∷ pos 0 ∷ pos 0 ∷ pos 1 ∷ []) (negsuc 16777215) ∷ []

abbrev one_point_box : List Affine
one_point_box =
    row (pos 1 ∷ pos 0 ∷ pos 0 ∷ pos 0 ∷ []) (pos 0) ∷ row (negsuc 0 ∷ pos 0 ∷ pos 0 ∷ pos 0 ∷ []) (pos 9)
    ∷ row (pos 0 ∷ pos 1 ∷ pos 0 ∷ pos 0 ∷ []) (pos 3) ∷ row (pos 0 ∷ negsuc 0 ∷ pos 0 ∷ pos 0 ∷ []) (pos 3)
    ∷ row (pos 0 ∷ pos 0 ∷ pos 1 ∷ pos 0 ∷ []) (negsuc 4) ∷ row (pos 0 ∷ pos 0 ∷ negsuc 0 ∷ pos 0 ∷ []) (pos 5)
    ∷ row (pos 0 ∷ pos 0 ∷ pos 0 ∷ pos 1 ∷ []) (pos 0) ∷ row (pos 0 ∷ pos 0 ∷ pos 0 ∷ negsuc 0 ∷ []) (pos 16777216) ∷ []

abbrev pub OnePointNest : Type 0
OnePointNest = nest_of one_point ≡ record {
  params = (pos 0, pos 9) ∷ (negsuc 2, pos 3) ∷ (pos 5, pos 5) ∷ (pos 0, pos 16777216) ∷ [];
  context = record { columns = 4; rows = one_point_context };
  arrays = record { role = Output; extents = [] } ∷ [];
  entries =
      record {
        part = 0;
        statement = 0;
        alive = true;
        loops = [];
        domain = record { columns = 4; rows = one_point_box ++ one_point_context };
        ranges = [];
        accesses = array_with 0 [] ∷ [];
      }
      ∷ [];
}

-- a number has no dimension
abbrev pub OnePointAsksNothing : Type 0
OnePointAsksNothing = (extent_questions (nest_of one_point) ≡ []) × (bound_questions (nest_of one_point) ≡ [])

-- for A[6] and B[9], over no parameter:
--   for (a = 0; a < 2; a++) if (a > 0) for (b = a; b <= a; b++) .. for (f = e; f <= e; f++) if (f <= 1) B[f + 3] = 7;
--   A[5] = 7;
abbrev equal_loop : ℕ → Stmt → Stmt
equal_loop outer body = For [] (name outer) LessEqual (name outer) (body ∷ [])

abbrev if_so : Cond → Stmt → Stmt
if_so condition body = If condition (body ∷ []) []

abbrev six : Program
six = record {
  name = [];
  params = Array (record { name = []; role = Output; extents = lit 6 ∷ [] }) ∷ Array (record { name = []; role = Output; extents = lit 9 ∷ [] }) ∷ [];
  context = [];
  temps = [];
  body =
      For [] (lit 0) Less (lit 2) (
      if_so (when (name 0) Greater (lit 0))
      (equal_loop 0 (equal_loop 1 (equal_loop 2 (equal_loop 3 (equal_loop 4 (if_so (when (name 5) LessEqual (lit 1)) (assign 1 (Add (name 5) (lit 3) ∷ []) (Const 7)))))))) ∷ []
      )
      ∷ stores (lit 5) ∷ [];
  prelude = false;
}

-- zeros before and behind these
abbrev between : (before behind : ℕ) → List ℤ → List ℤ
between before behind cs = replicate before (pos 0) ++ (cs ++ replicate behind (pos 0))

-- the rows of such a loop, where so many columns stand before its outer one and behind it
abbrev equal_rows : (before behind : ℕ) → List Affine
equal_rows before behind =
    row (between before behind (negsuc 0 ∷ pos 1 ∷ [])) (pos 0) ∷ row (between before behind (pos 1 ∷ negsuc 0 ∷ [])) (pos 0)
    ∷ row (between before behind (pos 0 ∷ pos 1 ∷ [])) (pos 0) ∷ row (between before behind (pos 0 ∷ negsuc 0 ∷ [])) (pos 1) ∷ []

-- a >= 0, a < 2, from 0 to 1; the other loops; a > 0; f <= 1
abbrev six_rows : List Affine
six_rows =
    row (between 0 5 (pos 1 ∷ [])) (pos 0) ∷ row (between 0 5 (negsuc 0 ∷ [])) (pos 1)
    ∷ row (between 0 5 (pos 1 ∷ [])) (pos 0) ∷ row (between 0 5 (negsuc 0 ∷ [])) (pos 1)
    ∷ equal_rows 0 4 ++ (equal_rows 1 3 ++ (equal_rows 2 2 ++ (equal_rows 3 1 ++ (equal_rows 4 0 ++ row (between 0 5 (pos 1 ∷ [])) (negsuc 0) ∷ row (between 5 0 (negsuc 0 ∷ [])) (pos 1) ∷ []))))

abbrev pub SixLoopsNest : Type 0
SixLoopsNest = (nest_of six).entries
    ≡ record {
      part = 0;
      statement = 0;
      alive = true;
      loops = 0 ∷ 1 ∷ 2 ∷ 3 ∷ 4 ∷ 5 ∷ [];
      domain = record { columns = 6; rows = six_rows };
      ranges = replicate 6 (pos 0, pos 1);
      accesses = array_with 1 (row (between 5 0 (pos 1 ∷ [])) (pos 3) ∷ []) ∷ [];
    }
    ∷ record {
      part = 1;
      statement = 1;
      alive = true;
      loops = [];
      domain = record { columns = 0; rows = [] };
      ranges = [];
      accesses = array_with 0 (row [] (pos 5) ∷ []) ∷ [];
    }
    ∷ []

-- 6 at most 0, 9 at most 0
abbrev pub SixLoopsExtents : Type 0
SixLoopsExtents = extent_questions (nest_of six)
    ≡ record { columns = 0; rows = row [] (negsuc 5) ∷ [] } ∷ record { columns = 0; rows = row [] (negsuc 8) ∷ [] } ∷ []

-- f + 3 at most -1, and at least 9; 5 at most -1, and at least 6
abbrev pub SixLoopsBounds : Type 0
SixLoopsBounds = bound_questions (nest_of six)
    ≡ record { columns = 6; rows = six_rows ++ row (between 5 0 (negsuc 0 ∷ [])) (negsuc 3) ∷ [] }
    ∷ record { columns = 6; rows = six_rows ++ row (between 5 0 (pos 1 ∷ [])) (negsuc 5) ∷ [] }
    ∷ record { columns = 0; rows = row [] (negsuc 5) ∷ [] } ∷ record { columns = 0; rows = row [] (negsuc 0) ∷ [] } ∷ []

-- ---- Branches

-- if (N < 1 || N > 3) A[0] = 7; else for (i = 0; i < N; i++) if (N > 1 && (N == 2 || N == 4) && N != 6) A[i] = 7;
abbrev either : Cond
either = cond.Any (when (name 0) Less (lit 1) ∷ when (name 0) Greater (lit 3) ∷ [])

abbrev joined_three : Cond
joined_three =
    cond.All (when (name 0) Greater (lit 1) ∷ cond.Any (when (name 0) Equal (lit 2) ∷ when (name 0) Equal (lit 4) ∷ []) ∷ when (name 0) NotEqual (lit 6) ∷ [])

abbrev branches : Program
branches = record {
  name = [];
  params = Number [] (pos 0) (pos 9) ∷ Array (record { name = []; role = Output; extents = lit 10 ∷ [] }) ∷ [];
  context = [];
  temps = [];
  body = If either (stores (lit 0) ∷ []) (For [] (lit 0) Less (name 0) (If joined_three (stores (name 1) ∷ []) [] ∷ []) ∷ []) ∷ [];
  prelude = false;
}

-- the denial stands round the other branch
abbrev neither : Cond
neither = cond.All (when (name 0) GreaterEqual (lit 1) ∷ when (name 0) LessEqual (lit 3) ∷ [])

abbrev pub PlacesOfBranches : Type 0
PlacesOfBranches = places_of branches
    ≡ record { around = Test either ∷ []; loops = []; assignment = record { op = None; array = record { 0 = 0 }; subs = lit 0 ∷ []; value = Const 7 } }
    ∷ record {
      around = Test neither ∷ Loop [] (lit 0) Less (name 0) ∷ Test joined_three ∷ [];
      loops = 0 ∷ [];
      assignment = record { op = None; array = record { 0 = 0 }; subs = name 1 ∷ []; value = Const 7 };
    }
    ∷ []

-- comparisons that are joined have rows; alternatives, remainders and "!=" have none
abbrev pub RowsOfBranches : Type 0
RowsOfBranches =
    (condition_rows 1 (Test either ∷ Test (cond.Divides (name 0) (pos 2) true) ∷ []) ≡ [])
    × (condition_rows 1 (Test neither ∷ Loop [] (lit 0) Less (name 0) ∷ Test joined_three ∷ [])
    ≡ row (pos 1 ∷ pos 0 ∷ []) (negsuc 0) ∷ row (negsuc 0 ∷ pos 0 ∷ []) (pos 3) ∷ row (pos 1 ∷ pos 0 ∷ []) (negsuc 1) ∷ [])
