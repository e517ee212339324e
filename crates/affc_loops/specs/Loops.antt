-- The statements of a program that can have instances, the ranges of their times, and the block of each in the loops of a
-- schedule, which finds the instance that has this time and runs it if there is one.
use Rattle.std.specs.Prelude.{ℕ, suc, ◌+◌, ℤ, codes, decimal, List, [], ◌∷◌, ◌++◌, Option, Some, None, map}
use Rattle.affc_rows.specs.Forms.{Affine}
use Rattle.affc_ast.specs.declared.tree.Compare.{Compare}
use Rattle.affc_ast.specs.declared.tree.Cond.{Cond}
use Rattle.affc_ast.specs.declared.tree.Cond.TheVariants as cond
use Rattle.affc_ast.specs.declared.tree.Ix.{Ix}
use Rattle.affc_ast.specs.declared.tree.Local.{Local}
use Rattle.affc_ast.specs.declared.tree.Program.{Program}
use Rattle.affc_ast.specs.declared.tree.Rel.{Rel}
use Rattle.affc_ast.specs.declared.tree.Rel.TheVariants.{LessEqual, Equal}
use Rattle.affc_ast.specs.declared.tree.Stmt.{Stmt}
use Rattle.affc_ast.specs.declared.tree.Stmt.TheVariants.{If, Assign, Block}
use Rattle.affc_ast.specs.Trace.{Assignment, assignments}
use Rattle.affc_trace.specs.declared.schedule.TimeMap.{TimeMap}
use Rattle.affc_domain.specs.Ranges.{Ranges, Within, number_ranges, ranges_of}
use Rattle.affc_domain.specs.Rounds.{Round, Loop, Test, rounds}
use Rattle.affc_loops.specs.Spans.{span, hulls}
use Rattle.affc_loops.specs.Trees.{name_at, number, form_tree, moved, moved_cond, moved_value}

-- ---- The statements that can have instances

-- a statement: its number, what stands round it, what it does, its times, and the range of each iterator
pub record Scheduled : Type 0 where
  pub statement : ℕ
  pub around : List Round
  pub assignment : Assignment
  pub times : TimeMap
  pub ranges : List (ℤ × ℤ)

-- the ranges by the interval rule; none where a loop is never entered
abbrev pub box_in : Ranges → Option (List (ℤ × ℤ))
box_in (Within ranges) = Some ranges
box_in _ = None

abbrev pub boxes : Program → List (Option (List (ℤ × ℤ)))
boxes program = map (λ rs. box_in (ranges_of (number_ranges program.params) rs)) (rounds program)

-- from statement number k on; one without ranges can have no instance
abbrev pub scheduled_from : (k : ℕ) → List (List Round) → List Assignment → List TimeMap → List (Option (List (ℤ × ℤ))) → List Scheduled
scheduled_from k (rs ∷ rss) (a ∷ as') (m ∷ ms) (Some box ∷ bs) = record { statement = k; around = rs; assignment = a; times = m; ranges = box } ∷ scheduled_from (suc k) rss as' ms bs
scheduled_from k (rs ∷ rss) (a ∷ as') (m ∷ ms) (None ∷ bs) = scheduled_from (suc k) rss as' ms bs
scheduled_from k _ _ _ _ = []

abbrev pub scheduled : Program → List TimeMap → List Scheduled
scheduled program maps = scheduled_from 0 (rounds program) (assignments program) maps (boxes program)

-- ---- The ranges of times

-- those of a statement, where the parameters have these ranges
abbrev pub times_of : (params : List (ℤ × ℤ)) → Scheduled → List (ℤ × ℤ)
times_of params e = map (span (params ++ e.ranges)) e.times.forms

-- for each component, from its least to its greatest value over all boxes
abbrev pub time_ranges : (params : List (ℤ × ℤ)) → List Scheduled → List (ℤ × ℤ)
time_ranges params [] = []
time_ranges params (e ∷ []) = times_of params e
time_ranges params (e ∷ f ∷ es) = hulls (times_of params e) (time_ranges params (f ∷ es))

-- ---- A block, where so many parameters are the first names, and so many components stand behind them

-- the names of the loops round a statement
abbrev pub loop_names : List Round → List (List ℕ)
loop_names [] = []
loop_names (Loop iter low rel high ∷ rs) = iter ∷ loop_names rs
loop_names (Test cond ∷ rs) = loop_names rs

-- the iterators, by the inverse
abbrev pub locals_of : (first : ℕ) → List (List ℕ) → List Affine → List Local
locals_of first (w ∷ ws) (g ∷ gs) = record { name = w; value = form_tree first first g } ∷ locals_of first ws gs
locals_of first _ _ = []

-- each iterator lies in its range
abbrev pub box_tests : (from : ℕ) → List (ℤ × ℤ) → List Compare
box_tests from [] = []
box_tests from (r ∷ rs) =
    record { rel = LessEqual; left = number r.0; right = name_at from }
    ∷ record { rel = LessEqual; left = name_at from; right = number r.1 }
    ∷ box_tests (suc from) rs

-- each component is the time of these iterators
abbrev pub time_tests : (first from : ℕ) → (component : ℕ) → List Affine → List Compare
time_tests first from component [] = []
time_tests first from component (f ∷ fs) = record { rel = Equal; left = name_at component; right = form_tree first from f } ∷ time_tests first from (suc component) fs

-- a comparison as a condition
abbrev pub as_condition : Compare → Cond
as_condition c = cond.Compare c.rel c.left c.right

-- all of these comparisons; where there is one alone, it is that one
abbrev pub all_of : Compare → List Compare → Cond
all_of c [] = as_condition c
all_of c (d ∷ ds) = cond.All (map as_condition (c ∷ d ∷ ds))

abbrev pub if_any : List Compare → List Stmt → List Stmt
if_any [] body = body
if_any (c ∷ cs) body = If (all_of c cs) body [] ∷ []

-- a loop of the source lets the iterator with this name run
abbrev pub loop_tests : (first more : ℕ) → (from : ℕ) → (low : Ix) → Rel → (high : Ix) → List Compare
loop_tests first more from low rel high =
    record { rel = LessEqual; left = moved first more low; right = name_at from } ∷ record { rel = rel; left = name_at from; right = moved first more high } ∷ []

-- the body under the source's loops and conditions, one `if` for each, where the iterators have the names from `from` on
abbrev pub guarded : (first more : ℕ) → (from : ℕ) → List Round → List Stmt → List Stmt
guarded first more from [] body = body
guarded first more from (Loop iter low rel high ∷ rs) body = if_any (loop_tests first more from low rel high) (guarded first more (suc from) rs body)
guarded first more from (Test cond ∷ rs) body = If (moved_cond first more cond) (guarded first more from rs body) [] ∷ []

abbrev pub moved_assign : (first more : ℕ) → Assignment → Stmt
moved_assign first more a = Assign a.op a.array (map (moved first more) a.subs) (moved_value first more a.value)

-- The iterators as locals; under the tests of their ranges, of their time, and of the source's loops and conditions, the assignment.
abbrev pub block_of : (first more : ℕ) → Scheduled → Stmt
block_of first more e =
    let from = first + more in
    Block (locals_of first (loop_names e.around) e.times.inverse)
    (if_any (box_tests from e.ranges)
    (if_any (time_tests first from first e.times.forms)
    (guarded first more from e.around
    (moved_assign first more e.assignment ∷ []))))

-- ---- The loops' names

-- affc_t0, affc_t1, ..
abbrev pub time_name : ℕ → List ℕ
time_name n = codes "affc_t" ++ decimal n
