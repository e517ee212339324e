-- The loops of a program whose text is short are printed within the wide limits on tokens, runs, brackets and items.
use Rattle.std.proofs.Common.{◌≡◌, ℕ, suc, ◌+◌, ◌*◌, ◌≤◌, true, max, List, [], ◌∷◌, length, map, inl, inr, refl, sym, subst, arith}
use Rattle.std.proofs.lemmas.Bool.{and_from, le-leb}
use Rattle.affc_ast.specs.declared.tree.Ix.{Ix}
use Rattle.affc_ast.specs.declared.tree.Program.{Program}
use Rattle.affc_ast.specs.declared.tree.Rel.TheVariants.{LessEqual}
use Rattle.affc_ast.specs.declared.tree.Stmt.{Stmt}
use Rattle.affc_ast.specs.declared.tree.Stmt.TheVariants.{For}
use Rattle.affc_ast.proofs.Steps.{for_here}
use Rattle.affc_grammar.specs.Limits.{wide_limits}
use Rattle.affc_trace.specs.Law.{IsIn}
use Rattle.affc_trace.specs.Target.{numbers_in}
use Rattle.affc_wellnamed.specs.Shape.{nothing, whole, both, line, closed, all_behind, for_head, stmt_step, stmt_shape, lines_shape, program_shape, is_bounded}
use Rattle.affc_wellnamed.proofs.ShapeStatements.{Numbers, joined, none}
use Rattle.affc_loopprint.proofs.reprint.Statements.{numbers_of, total, AtMost, most_both}
use Rattle.affc_loopprint.proofs.reprint.Rows.{under_more}
use Rattle.affc_loops.specs.Between.{loops_between, body_between}
use Rattle.affc_loops.specs.Loops.{Scheduled, block_of, time_name}
use Rattle.affc_loopprint.specs.Short.{head_shape, IsShort}
use Rattle.affc_loopprint.proofs.EndCases.{EndsFrom}
use Rattle.affc_loopprint.proofs.Fitting.{Fitting, loops_program}
use Rattle.affc_loopprint.proofs.ShapeEnds.{EndFew}
use Rattle.affc_loopprint.proofs.ShapeForms.{Few}
use Rattle.affc_loopprint.proofs.ShapeRooms.{printed, closed_most}
use Rattle.affc_loopprint.proofs.ShapeBlocks.{line_most, one_block, scheduled_most}

-- ---- All blocks

blocks_most : (first more : ℕ) (es : List Scheduled) → ((e : Scheduled) → IsIn e es → AtMost (numbers_of (stmt_shape true (block_of first more e))) one_block)
    → AtMost (total (printed (map (block_of first more) es))) (record { tokens = 161470 * length es; run = 32000; depth = 242; items = 40 * length es })
blocks_most first more [] h = record { tokens = omega arith; run = omega arith; depth = omega arith; items = omega arith }
blocks_most first more (e ∷ es) h =
    let p = h e (inl refl) in
    let q = blocks_most first more es (λ f i. h f (inr i)) in
    let t = p.tokens in let r = p.run in let d = p.depth in let i = p.items in
    let t' = q.tokens in let r' = q.run in let d' = q.depth in let i' = q.items in
    record { tokens = omega (arith, t, t'); run = omega (arith, r, r'); depth = omega (arith, d, d'); items = omega (arith, i, i') }

-- ---- The loops round them

-- an end of all statements
end_few : (column : ℕ) (e : Ix) → column ≤ 15 → EndFew 576 71 column e → Few 42044 73 (whole true e)
end_few column e l h = under_more 4 42048 73 0 42044 73 (whole true e) (omega arith) (omega arith) (h l)

head_most : (low high : Ix) → Few 42044 73 (whole true low) → Few 42044 73 (whole true high) → AtMost (numbers_of (for_head true low high)) (record { tokens = 84101; run = 42049; depth = 73; items = 0 })
head_most low high f g =
    let a = line_most 5 42044 73 (whole true low) f in
    let b = line_most 2 42044 73 (whole true high) g in
    let c = line_most 3 0 0 nothing (record { few = omega arith; shallow = omega arith }) in
    let ends = both (line 5 (whole true low)) (line 2 (whole true high)) in
    let p = most_both ends (line 3 nothing) _ _ (most_both (line 5 (whole true low)) (line 2 (whole true high)) _ _ a b) c in
    let t = p.tokens in let r = p.run in let d = p.depth in let i = p.items in
    record { tokens = omega (arith, t); run = omega (arith, r); depth = omega (arith, d); items = omega (arith, i) }

loop_most : (name : List ℕ) (low high : Ix) (body : List Stmt) (n : Numbers) → Few 42044 73 (whole true low) → Few 42044 73 (whole true high) → AtMost (total (printed body)) n
    → AtMost (total (printed (For name low LessEqual high body ∷ []))) (record { tokens = n.tokens + 84102; run = max n.run 42049; depth = max n.depth 73 + 1; items = n.items + 1 })
loop_most name low high body n f g h =
    let head = for_head true low high in
    let p = closed_most head (record { tokens = 84101; run = 42049; depth = 73; items = 0 }) (printed body) n (head_most low high f g) h in
    let t = p.tokens in let r = p.run in let d = p.depth in let i = p.items in
    subst (λ s. AtMost (joined (numbers_of s) none) (record { tokens = n.tokens + 84102; run = max n.run 42049; depth = max n.depth 73 + 1; items = n.items + 1 }))
    (sym (for_here (stmt_step true) name low LessEqual high body))
    (record { tokens = omega (arith, t); run = omega (arith, r); depth = omega (arith, d); items = omega (arith, i) })

loops_most : (ends : List (Ix × Ix)) (component column : ℕ) (body : List Stmt) (n : Numbers) → EndsFrom (EndFew 576 71) column ends → column + length ends ≤ 16 → AtMost (total (printed body)) n
    → AtMost (total (printed (loops_between ends component body))) (record { tokens = n.tokens + 84102 * length ends; run = max n.run 42049; depth = max n.depth 73 + length ends; items = n.items + length ends })
loops_most [] component column body n w l h =
    let t = h.tokens in let r = h.run in let d = h.depth in let i = h.items in
    record { tokens = omega (arith, t); run = omega (arith, r); depth = omega (arith, d); items = omega (arith, i) }
loops_most (e ∷ es) component column body n w l h =
    let q = loops_most es (suc component) (suc column) body n w.2 (omega (arith, l)) h in
    let low = end_few column e.0 (omega (arith, l)) w.0 in
    let high = end_few column e.1 (omega (arith, l)) w.1 in
    let p = loop_most (time_name component) e.0 e.1 (loops_between es (suc component) body) _ low high q in
    let t = p.tokens in let r = p.run in let d = p.depth in let i = p.items in
    record { tokens = omega (arith, t); run = omega (arith, r); depth = omega (arith, d); items = omega (arith, i) }

-- at most 64 blocks under at most 12 loops
abbrev all_blocks : Numbers
all_blocks = record { tokens = 11343304; run = 42049; depth = 254; items = 2572 }

body_most : (first : ℕ) (ends : List (Ix × Ix)) (es : List Scheduled) → EndsFrom (EndFew 576 71) first ends → first ≤ 4
    → ((e : Scheduled) → IsIn e es → AtMost (numbers_of (stmt_shape true (block_of first (length ends) e))) one_block)
    → length ends ≤ 12 → length es ≤ 64 → AtMost (total (printed (body_between first ends es))) all_blocks
body_most first ends [] w numbers h few count = record { tokens = omega arith; run = omega arith; depth = omega arith; items = omega arith }
body_most first ends (e ∷ es) w numbers h few count =
    let p = loops_most ends 0 first (map (block_of first (length ends)) (e ∷ es)) _ w (omega (arith, numbers, few)) (blocks_most first (length ends) (e ∷ es) h) in
    let t = p.tokens in let r = p.run in let d = p.depth in let i = p.items in
    record { tokens = omega (arith, t, few, count); run = omega (arith, r); depth = omega (arith, d, few); items = omega (arith, i, few, count) }

-- ---- The program

pub loops_bounded : (other : Program) → IsShort other → (n : ℕ) (ends : List (Ix × Ix)) (es : List Scheduled) → numbers_in other.params ≤ 4 → n ≤ 12 → length es ≤ 64 → length ends ≤ 12
    → EndsFrom (EndFew 576 71) (numbers_in other.params) ends → ((e : Scheduled) → IsIn e es → Fitting other n e)
    → is_bounded (program_shape (loops_program other ends es)) ≡ true
loops_bounded other short n ends es numbers few count long w fits =
    let before = head_shape other in
    let head = short.head in
    let body = body_between (numbers_in other.params) ends es in
    let inside = body_most (numbers_in other.params) ends es w numbers (λ e i. scheduled_most other n short numbers few (numbers_in other.params) (length ends) e (fits e i)) long count in
    let f = closed_most before (record { tokens = 5300000; run = 32000; depth = 239; items = 256 }) (printed body) all_blocks
    (record { tokens = head.tokens; run = head.run; depth = head.depth; items = head.items }) inside in
    let function = closed (all_behind before (printed body)) in
    let l = short.lines in
    let all = most_both (lines_shape other) function (record { tokens = 65536; run = 65536; depth = 256; items = 0 }) (record { tokens = 16643305; run = 42049; depth = 255; items = 2828 })
    (record { tokens = l.tokens; run = l.run; depth = l.depth; items = l.items }) (record { tokens = f.tokens; run = f.run; depth = f.depth; items = f.items }) in
    let t = all.tokens in let r = all.run in let d = all.depth in let i = all.items in
    let shape = both (lines_shape other) function in
    and_from _ _ (and_from _ _ (le-leb shape.tokens wide_limits.tokens (omega (arith, t))) (le-leb shape.run wide_limits.run (omega (arith, r))))
    (and_from _ _ (le-leb shape.depth wide_limits.depth (omega (arith, d))) (le-leb shape.items wide_limits.items (omega (arith, i))))
