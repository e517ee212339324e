-- Plain programs: what the limits of a text without the prelude give of its tree. They are the programs that a compiler
-- takes; docs/LANGUAGE.md lists the limits.
use Rattle.std.specs.Prelude.{ℕ, suc, ◌+◌, ◌^◌, ◌≤◌, length, ℤ, pos, Bool, true, false, ◌&&◌, ◌||◌, IsTrue, int_le, nat_le, nat_lt, nat_abs, List, [], ◌∷◌, map}
use Rattle.affc_ast.specs.declared.tree.Compare.{Compare}
use Rattle.affc_ast.specs.declared.tree.Cond.{Cond}
use Rattle.affc_ast.specs.declared.tree.Cond.TheOpen as cond
use Rattle.affc_ast.specs.declared.tree.Cond.TheOpen.{Cond-F}
use Rattle.affc_ast.specs.declared.tree.Decl.{Decl}
use Rattle.affc_ast.specs.declared.tree.Ix.{Ix}
use Rattle.affc_ast.specs.declared.tree.Program.{Program}
use Rattle.affc_ast.specs.declared.tree.Rel.{Rel}
use Rattle.affc_ast.specs.declared.tree.Rel.TheVariants.{Less, LessEqual}
use Rattle.affc_ast.specs.declared.tree.Stmt.{Stmt}
use Rattle.affc_ast.specs.declared.tree.Stmt.TheOpen.{Stmt-F, For, If, Assign, Block}
use Rattle.affc_ast.specs.declared.tree.Val.{Val}
use Rattle.affc_ast.specs.declared.tree.Val.TheOpen.{Val-F, Load, Const, Cast, Not, Bin, Shift}
use Rattle.affc_ast.specs.Meaning.{arrays_of}
use Rattle.affc_ast.specs.Fits.{all_true}
use Rattle.affc_ast.specs.Recursion.{by_val, by_cond, by_stmt}
use Rattle.affc_ast.specs.Trace.{Assignment, assignments}
use Rattle.affc_domain.specs.Accesses.{accesses_of}
use Rattle.affc_domain.specs.Affine.{linear, sees}
use Rattle.affc_ast.specs.Joined.{is_ordered, has_joined_tests}
use Rattle.affc_ast.specs.Pieces.{comparisons_of}
use Rattle.affc_domain.specs.Ranges.{number_ranges}

-- ---- Expressions over so many names in sight

-- all its names are in sight, it is affine, and the form of each part is small
abbrev pub is_plain : (names : ℕ) → Ix → Bool
is_plain names e = sees names e && ((linear names 0 e).affine && (linear names 0 e).small)

abbrev pub all_plain : (names : ℕ) → List Ix → Bool
all_plain names [] = true
all_plain names (e ∷ es) = is_plain names e && all_plain names es

-- comparisons of a context, which have no "!="
abbrev pub plain_tests : (names : ℕ) → List Compare → Bool
plain_tests names [] = true
plain_tests names (c ∷ cs) = is_plain names c.left && (is_plain names c.right && (is_ordered c.rel && plain_tests names cs))

abbrev pub plain_cond_step : (names : ℕ) → Cond-F Bool → Bool
plain_cond_step names (cond.Compare rel left right) = is_plain names left && is_plain names right
plain_cond_step names (cond.All bs) = all_true bs
plain_cond_step names (cond.Any bs) = all_true bs
plain_cond_step names (cond.Divides value by so) = is_plain names value && (int_le (pos 1) by && int_le by (pos 65536))

-- a condition all of whose sides and values are plain, with divisors up to 2^16
abbrev pub plain_cond : (names : ℕ) → Cond → Bool
plain_cond names c = by_cond (plain_cond_step names) c

abbrev pub plain_value_step : Val-F (ℕ → Bool) → (names : ℕ) → Bool
plain_value_step (Load array subs) names = all_plain names subs
plain_value_step (Const n) names = true
plain_value_step (Cast e) names = is_plain names e
plain_value_step (Not a) names = a names
plain_value_step (Bin op a b) names = a names && b names
plain_value_step (Shift left a by) names = a names

-- a value all of whose subscripts and casts are plain
abbrev pub plain_value : Val → (names : ℕ) → Bool
plain_value = by_val plain_value_step

-- ---- Declarations over so many parameters

-- low at most high, both within 2^24
abbrev pub plain_range : ℤ × ℤ → Bool
plain_range r = int_le r.0 r.1 && (nat_le (nat_abs r.0) (2 ^ 24) && nat_le (nat_abs r.1) (2 ^ 24))

abbrev pub plain_ranges : List (ℤ × ℤ) → Bool
plain_ranges [] = true
plain_ranges (r ∷ rs) = plain_range r && plain_ranges rs

-- at most four dimensions
abbrev pub plain_decls : (params : ℕ) → List Decl → Bool
plain_decls params [] = true
plain_decls params (d ∷ ds) = nat_le (length d.extents) 4 && (all_plain params d.extents && plain_decls params ds)

-- ---- Statements

-- "<" or "<="
abbrev pub is_upward : Rel → Bool
is_upward Less = true
is_upward LessEqual = true
is_upward _ = false

-- at most 16 accesses
abbrev pub plain_assignment : (names : ℕ) → Assignment → Bool
plain_assignment names a = nat_le (length (accesses_of a)) 16 && (all_plain names a.subs && plain_value a.value names)

abbrev pub all_of : List (ℕ → ℕ → Bool) → (loops comparisons : ℕ) → Bool
all_of [] loops comparisons = true
all_of (f ∷ fs) loops comparisons = f loops comparisons && all_of fs loops comparisons

-- Where so many number parameters are in sight, and so many loops and comparisons of conditions stand round: at most six
-- loops, each up to "<" or "<=", and at most 32 comparisons round an assignment; no locals.
abbrev pub plain_step : (params : ℕ) → Stmt-F (ℕ → ℕ → Bool) → (loops comparisons : ℕ) → Bool
plain_step params (For iter low rel high body) loops comparisons =
    nat_lt loops 6 && (is_upward rel && (is_plain (params + loops) low && (is_plain (params + loops) high && all_of body (suc loops) comparisons)))
plain_step params (If cond body other) loops comparisons =
    plain_cond (params + loops) cond && (all_of body loops (comparisons + comparisons_of cond) && all_of other loops (comparisons + comparisons_of cond))
plain_step params (Assign op array subs value) loops comparisons =
    nat_le comparisons 32 && plain_assignment (params + loops) (record { op = op; array = array; subs = subs; value = value })
plain_step params (Block [] body) loops comparisons = all_of body loops comparisons
plain_step params (Block (l ∷ ls) body) loops comparisons = false

abbrev pub plain_body : (params : ℕ) → List Stmt → Bool
plain_body params body = all_of (map (by_stmt (plain_step params)) body) 0 0

-- whether a statement holds an assignment, and whether each loop and each `if` in it does
abbrev pub some_hold : List (Bool × Bool) → Bool
some_hold [] = false
some_hold (s ∷ ss) = s.0 || some_hold ss

abbrev pub all_full : List (Bool × Bool) → Bool
all_full [] = true
all_full (s ∷ ss) = s.1 && all_full ss

abbrev pub full_step : Stmt-F (Bool × Bool) → Bool × Bool
full_step (For iter low rel high body) = (some_hold body, some_hold body && all_full body)
full_step (If cond body other) = (some_hold body || some_hold other, (some_hold body || some_hold other) && (all_full body && all_full other))
full_step (Assign op array subs value) = (true, true)
full_step (Block locals body) = (some_hold body, all_full body)

-- ---- Programs

-- A program as a text without the prelude gives it: at most four number parameters, 16 comparisons of the context, four
-- dimensions, 64 assignments, and what plain_body asks; each loop and each `if` holds an assignment. Its `if`s have no
-- `else`, and their conditions are comparisons joined by `&&`, without `!=`: other programs are read and run, and not compiled.
pub record IsPlain (program : Program) : Type 0 where
  pub few_numbers : length (number_ranges program.params) ≤ 4
  pub ranges : IsTrue (plain_ranges (number_ranges program.params))
  pub few_conditions : length program.context ≤ 16
  pub context : IsTrue (plain_tests (length (number_ranges program.params)) program.context)
  pub arrays : IsTrue (plain_decls (length (number_ranges program.params)) (arrays_of program.params))
  pub temps : IsTrue (plain_decls (length (number_ranges program.params)) program.temps)
  pub body : IsTrue (plain_body (length (number_ranges program.params)) program.body)
  pub full : IsTrue (all_full (map (by_stmt full_step) program.body))
  pub tests : IsTrue (has_joined_tests program)
  pub few_assignments : length (assignments program) ≤ 64
