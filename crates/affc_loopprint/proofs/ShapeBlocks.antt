-- How many tokens and brackets the block of a statement is printed with: its locals and tests, and what stands round its assignment.
use Rattle.std.proofs.Common.{◌≡◌, ℕ, suc, ◌+◌, ◌*◌, ◌≤◌, ℤ, true, max, List, [], ◌∷◌, length, sym, subst, arith}
use Rattle.affc_rows.specs.Forms.{Affine, HaveColumns}
use Rattle.affc_ast.specs.declared.tree.Compare.{Compare}
use Rattle.affc_ast.specs.declared.tree.Local.{Local}
use Rattle.affc_ast.specs.declared.tree.Rel.TheVariants.{LessEqual, Equal}
use Rattle.affc_ast.specs.declared.tree.Program.{Program}
use Rattle.affc_ast.specs.declared.tree.Stmt.{Stmt}
use Rattle.affc_ast.specs.declared.tree.Stmt.TheVariants.{Block}
use Rattle.affc_ast.proofs.Steps.{block_here}
use Rattle.affc_trace.specs.Target.{numbers_in}
use Rattle.affc_wellnamed.specs.declared.shape.Extent.{Extent}
use Rattle.affc_wellnamed.specs.declared.shape.Shape.{Shape}
use Rattle.affc_wellnamed.specs.Shape.{empty, nothing, whole, compare_extent, both, line, locals_behind, block_head, stmt_step, stmt_shape}
use Rattle.affc_wellnamed.proofs.ShapeStatements.{Numbers, joined}
use Rattle.affc_loopprint.proofs.reprint.Rows.{under_more, under_both, under_tokens}
use Rattle.affc_loopprint.proofs.reprint.Values.{all_tokens, all_deep}
use Rattle.affc_loopprint.proofs.reprint.Statements.{numbers_of, total, AtMost, most_both}
use Rattle.affc_loops.specs.Trees.{name_at, number, form_tree}
use Rattle.affc_loops.specs.Loops.{Scheduled, loop_names, locals_of, box_tests, time_tests, if_any, guarded, moved_assign, block_of}
use Rattle.affc_loopprint.specs.Short.{IsShort}
use Rattle.affc_loopprint.proofs.Fitting.{Fitting}
use Rattle.affc_loopprint.proofs.ShapeForms.{Few, form_few, number_few}
use Rattle.affc_loopprint.proofs.ShapeRooms.{printed, most_then, most_behind, behind_total, under_most, closed_most, any_most}

pub line_most : (n t d : ℕ) (e : Extent) → Few t d e → AtMost (numbers_of (line n e)) (record { tokens = t + n + 1; run = t + n; depth = d; items = 0 })
line_most n t d e f = let a = f.few in let b = f.shallow in record { tokens = omega (arith, a); run = omega (arith, a); depth = omega (arith, b); items = omega arith }

-- ---- Locals

-- a local of at most 16 columns
abbrev one_local : Numbers
one_local = record { tokens = 103; run = 102; depth = 1; items = 0 }

local_most : (first : ℕ) (n : ℕ) (g : Affine) → n ≤ 16 → length g.coefs ≡ n → AtMost (numbers_of (line 4 (whole true (form_tree first first g)))) one_local
local_most first n g h e =
    line_most 4 98 1 (whole true (form_tree first first g)) (under_more 0 (6 * length g.coefs + 2) 1 0 98 1 (whole true (form_tree first first g)) (omega (arith, h, e)) (omega arith) (form_few first first g))

locals_most : (first n : ℕ) (ws : List (List ℕ)) (gs : List Affine) (a : Shape) (m : Numbers) → n ≤ 16 → HaveColumns n gs → AtMost (numbers_of a) m
    → AtMost (numbers_of (locals_behind true a (locals_of first ws gs))) (record { tokens = m.tokens + 103 * length ws; run = max m.run 102; depth = max m.depth 1; items = m.items })
locals_most first n [] gs a m few h p = let t = p.tokens in let r = p.run in let d = p.depth in let i = p.items in record { tokens = omega (arith, t); run = omega (arith, r); depth = omega (arith, d); items = i }
locals_most first n (w ∷ ws) [] a m few h p = let t = p.tokens in let r = p.run in let d = p.depth in let i = p.items in record { tokens = omega (arith, t); run = omega (arith, r); depth = omega (arith, d); items = i }
locals_most first n (w ∷ ws) (g ∷ gs) a m few h p =
    let b = line 4 (whole true (form_tree first first g)) in
    let one = local_most first n g few (h 0 g (omega arith)) in
    let q = locals_most first n ws gs (both a b) (joined m one_local) few (λ i x l. h (suc i) x (omega (arith, l))) (most_both a b m one_local p one) in
    let t = q.tokens in let r = q.run in let d = q.depth in let i = q.items in
    record { tokens = omega (arith, t); run = omega (arith, r); depth = omega (arith, d); items = omega (arith, i) }

-- ---- Tests

compare_few : (t d u e : ℕ) (c : Compare) → Few t d (whole true c.left) → Few u e (whole true c.right) → Few (t + u + 1) (max d e) (compare_extent true c)
compare_few t d u e c f g = under_tokens 1 0 _ _ _ (under_both 0 t d 0 u e (whole true c.left) (whole true c.right) f g)

name_few : (x : ℕ) → Few 1 0 (whole true (name_at x))
name_few x = record { few = omega arith; shallow = omega arith }

record TestsFew (tokens depth : ℕ) (cs : List Compare) : Type 0 where
  few : all_tokens true cs ≤ tokens
  shallow : all_deep true cs ≤ depth

tests_more : (t d u e : ℕ) (c : Compare) (cs : List Compare) → Few t d (compare_extent true c) → TestsFew u e cs → TestsFew (t + 1 + u) (max d e) (c ∷ cs)
tests_more t d u e c cs f g = let a = f.few in let b = f.shallow in let x = g.few in let y = g.shallow in record { few = omega (arith, a, x); shallow = omega (arith, b, y) }

box_few : (from : ℕ) (rs : List (ℤ × ℤ)) → TestsFew (10 * length rs) 0 (box_tests from rs)
box_few from [] = record { few = omega arith; shallow = omega arith }
box_few from (r ∷ rs) =
    let low : Compare = record { rel = LessEqual; left = number r.0; right = name_at from } in
    let high : Compare = record { rel = LessEqual; left = name_at from; right = number r.1 } in
    let later = tests_more 4 0 (10 * length rs) 0 high (box_tests (suc from) rs) (compare_few 1 0 2 0 high (name_few from) (number_few r.1)) (box_few (suc from) rs) in
    let q = tests_more 4 0 (4 + 1 + 10 * length rs) 0 low (high ∷ box_tests (suc from) rs) (compare_few 2 0 1 0 low (number_few r.0) (name_few from)) later in
    let a = q.few in let b = q.shallow in record { few = omega (arith, a); shallow = omega (arith, b) }

time_few : (first from component n : ℕ) (fs : List Affine) → n ≤ 10 → HaveColumns n fs → TestsFew (65 * length fs) 1 (time_tests first from component fs)
time_few first from component n [] few h = record { few = omega arith; shallow = omega arith }
time_few first from component n (f ∷ fs) few h =
    let e : length f.coefs ≡ n = h 0 f (omega arith) in
    let form = under_more 0 (6 * length f.coefs + 2) 1 0 62 1 (whole true (form_tree first from f)) (omega (arith, few, e)) (omega arith) (form_few first from f) in
    let test : Compare = record { rel = Equal; left = name_at component; right = form_tree first from f } in
    let q = tests_more 64 1 (65 * length fs) 1 test (time_tests first from (suc component) fs) (compare_few 1 0 62 1 test (name_few component) form) (time_few first from (suc component) n fs few (λ i x l. h (suc i) x (omega (arith, l)))) in
    let a = q.few in let b = q.shallow in record { few = omega (arith, a); shallow = omega (arith, b) }

-- ---- The block

-- what stands round the assignment and the assignment, at most
abbrev inner : Numbers
inner = record { tokens = 160000; run = 32000; depth = 239; items = 38 }

-- a block, at most
abbrev pub one_block : Numbers
one_block = record { tokens = 161470; run = 32000; depth = 242; items = 40 }

block_most : (first more : ℕ) (e : Scheduled) (ls : List Local) (body : List Stmt) (m n : Numbers) → AtMost (numbers_of (block_head true ls)) m → AtMost (total (printed body)) n
    → AtMost (numbers_of (stmt_shape true (Block ls body))) (record { tokens = m.tokens + n.tokens + 1; run = max m.run n.run; depth = max m.depth n.depth + 1; items = m.items + n.items })
block_most first more e ls body m n h k =
    subst (λ s. AtMost (numbers_of s) (record { tokens = m.tokens + n.tokens + 1; run = max m.run n.run; depth = max m.depth n.depth + 1; items = m.items + n.items })) (sym (block_here (stmt_step true) ls body))
    (closed_most (block_head true ls) m (printed body) n h k)

module _ (other : Program) (n : ℕ) (short : IsShort other) (numbers : numbers_in other.params ≤ 4) (few : n ≤ 12) where
  inner_most : (first more from : ℕ) (e : Scheduled) → Fitting other n e → AtMost (total (printed (guarded first more from e.around (moved_assign first more e.assignment ∷ [])))) inner
  inner_most first more from e f =
      let k = short.statements f.at e.around e.assignment f.its_rounds f.its_assignment first more from in
      most_then _ _ _ (most_behind empty (printed (guarded first more from e.around (moved_assign first more e.assignment ∷ []))))
      (behind_total empty (printed (guarded first more from e.around (moved_assign first more e.assignment ∷ []))) inner (omega arith) (omega arith) (record { tokens = k.tokens; run = k.run; depth = k.depth; items = k.items }))

  pub scheduled_most : (first more : ℕ) (e : Scheduled) → Fitting other n e → AtMost (numbers_of (stmt_shape true (block_of first more e))) one_block
  scheduled_most first more e f =
      let from = first + more in
      let core = guarded first more from e.around (moved_assign first more e.assignment ∷ []) in
      let timed = if_any (time_tests first from first e.times.forms) core in
      let boxed = if_any (box_tests from e.ranges) timed in
      let c = f.components in let l = f.box in let six = f.few in
      let columns : numbers_in other.params + length (loop_names e.around) ≤ 10 = omega (arith, numbers, six) in
      let inverse_columns : numbers_in other.params + n ≤ 16 = omega (arith, numbers, few) in
      let times = time_few first from first (numbers_in other.params + length (loop_names e.around)) e.times.forms columns f.columns in
      let box = box_few from e.ranges in
      let t = times.few in let b = box.few in
      let time_extent : Extent = record { tokens = 780; depth = 1 } in
      let box_extent : Extent = record { tokens = 60; depth = 0 } in
      let p = any_most (time_tests first from first e.times.forms) core time_extent (omega (arith, t, c, few)) times.shallow in
      let q = most_then _ _ _ p (under_most time_extent _ inner (inner_most first more from e f)) in
      let r = any_most (box_tests from e.ranges) timed box_extent (omega (arith, b, l, six)) box.shallow in
      let s = most_then _ _ _ r (under_most box_extent _ _ q) in
      let none_before : Numbers = record { tokens = 1; run = 0; depth = 0; items = 0 } in
      let front = locals_most first (numbers_in other.params + n) (loop_names e.around) e.times.inverse (line 0 nothing) none_before inverse_columns f.inverse_columns (record { tokens = omega arith; run = omega arith; depth = omega arith; items = omega arith }) in
      let all = block_most first more e (locals_of first (loop_names e.around) e.times.inverse) boxed _ _ front s in
      let x = all.tokens in let y = all.run in let z = all.depth in let i = all.items in
      record { tokens = omega (arith, x, six); run = omega (arith, y); depth = omega (arith, z); items = omega (arith, i) }
