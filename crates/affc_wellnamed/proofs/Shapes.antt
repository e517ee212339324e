-- The shape of a statement, by its parts.
use Rattle.std.proofs.Common.{◌≡◌, ◌+◌, ◌<◌, ℕ, Bool, true, false, List, ◌∷◌, map, drop, length, get_or, sym, ap, ◌∙◌, drop-cons, add-one, suc}
use Rattle.affc_ast.specs.declared.tree.Cond.{Cond}
use Rattle.affc_ast.specs.declared.tree.Cond.TheVariants as cond
use Rattle.affc_ast.specs.declared.tree.Ix.{Ix}
use Rattle.affc_ast.specs.declared.tree.Local.{Local}
use Rattle.affc_ast.specs.declared.tree.Rel.{Rel}
use Rattle.affc_ast.specs.declared.tree.Stmt.{Stmt}
use Rattle.affc_ast.specs.declared.tree.Stmt.TheVariants.{For, If, Block}
use Rattle.affc_wellnamed.specs.declared.shape.Extent.{Extent}
use Rattle.affc_wellnamed.specs.declared.shape.CondExtent.{CondExtent}
use Rattle.affc_wellnamed.specs.declared.shape.Shape.{Shape}
use Rattle.affc_wellnamed.specs.Shape.{beside, beside_mark, entries_behind, joined_extent, cond_step, cond_extent, both, worded, closed, for_head, if_head, block_head, stmt_step, stmt_shape, stmts_behind, branch_behind}
use Rattle.affc_ast.proofs.Steps.{all_here, any_here, for_here, if_here, block_here}

pub for_arm : (prelude : Bool) (x : Stmt) (iter : List ℕ) (low : Ix) (rel : Rel) (high : Ix) (body slice : List Stmt) (h b k r : Shape) → x ≡ For iter low rel high body → slice ≡ body
    → h ≡ for_head prelude low high → b ≡ stmts_behind prelude h slice → k ≡ closed b → r ≡ worded k → r ≡ stmt_shape prelude x
for_arm prelude x iter low rel high body slice h b k r is same p q s t =
    t ∙ ap worded (s ∙ ap closed (q ∙ ap (λ z. stmts_behind prelude z slice) p ∙ ap (stmts_behind prelude (for_head prelude low high)) same)) ∙ sym (ap (stmt_shape prelude) is ∙ for_here (stmt_step prelude) iter low rel high body)

pub if_arm : (prelude : Bool) (x : Stmt) (c : Cond) (body slice other these : List Stmt) (h b d k r : Shape) → x ≡ If c body other → slice ≡ body → these ≡ other
    → h ≡ if_head prelude c → b ≡ stmts_behind prelude h slice → d ≡ branch_behind prelude b these → k ≡ closed d → r ≡ worded k → r ≡ stmt_shape prelude x
if_arm prelude x c body slice other these h b d k r is same those p q s t u =
    u ∙ ap worded (t ∙ ap closed (s ∙ ap (λ z. branch_behind prelude z these) (q ∙ ap (λ z. stmts_behind prelude z slice) p ∙ ap (stmts_behind prelude (if_head prelude c)) same)
    ∙ ap (branch_behind prelude (stmts_behind prelude (if_head prelude c) body)) those)) ∙ sym (ap (stmt_shape prelude) is ∙ if_here (stmt_step prelude) c body other)

pub block_arm : (prelude : Bool) (x : Stmt) (ls these : List Local) (body slice : List Stmt) (h b r : Shape) → x ≡ Block ls body → these ≡ ls → slice ≡ body
    → h ≡ block_head prelude these → b ≡ stmts_behind prelude h slice → r ≡ closed b → r ≡ stmt_shape prelude x
block_arm prelude x ls these body slice h b r is those same p q t =
    t ∙ ap closed (q ∙ ap (λ z. stmts_behind prelude z slice) (p ∙ ap (block_head prelude) those) ∙ ap (stmts_behind prelude (block_head prelude ls)) same) ∙ sym (ap (stmt_shape prelude) is ∙ block_here (stmt_step prelude) ls body)

pub all_arm : (prelude : Bool) (x : Cond) (cs slice : List Cond) (r : CondExtent) → x ≡ cond.All cs → slice ≡ cs → r ≡ joined_extent true (map (cond_extent prelude) slice) → r ≡ cond_extent prelude x
all_arm prelude x cs slice r is same e = e ∙ ap (λ l. joined_extent true (map (cond_extent prelude) l)) same ∙ sym (ap (cond_extent prelude) is ∙ all_here (cond_step prelude) cs)

pub any_arm : (prelude : Bool) (x : Cond) (cs slice : List Cond) (r : CondExtent) → x ≡ cond.Any cs → slice ≡ cs → r ≡ joined_extent false (map (cond_extent prelude) slice) → r ≡ cond_extent prelude x
any_arm prelude x cs slice r is same e = e ∙ ap (λ l. joined_extent false (map (cond_extent prelude) l)) same ∙ sym (ap (cond_extent prelude) is ∙ any_here (cond_step prelude) cs)

-- one condition more
pub entry_step : (prelude all : Bool) (row next inner total : Extent) (one : CondExtent) (xs : List Cond) (i : ℕ) (x : Cond) → i < length xs → x ≡ get_or xs i x → one ≡ cond_extent prelude x → inner ≡ beside_mark all one → next ≡ beside row inner
    → entries_behind all row (map (cond_extent prelude) (drop i xs)) ≡ total → entries_behind all next (map (cond_extent prelude) (drop (i + 1) xs)) ≡ total
entry_step prelude all row next inner total one xs i x lt is e f more kept =
    ap (λ n. entries_behind all next (map (cond_extent prelude) (drop n xs))) (add-one i) ∙ ap (λ z. entries_behind all z (map (cond_extent prelude) (drop (suc i) xs))) (more ∙ ap (beside row) (f ∙ ap (beside_mark all) e))
    ∙ ap (λ z. entries_behind all row (map (cond_extent prelude) (z ∷ drop (suc i) xs))) is ∙ ap (λ l. entries_behind all row (map (cond_extent prelude) l)) (sym (drop-cons xs i x lt)) ∙ kept

-- one statement more of a body
pub body_step : (prelude : Bool) (all next one total : Shape) (xs : List Stmt) (i : ℕ) (s : Stmt) → i < length xs → s ≡ get_or xs i s → one ≡ stmt_shape prelude s → next ≡ both all one
    → stmts_behind prelude all (drop i xs) ≡ total → stmts_behind prelude next (drop (i + 1) xs) ≡ total
body_step prelude all next one total xs i s lt is shape more kept =
    ap (λ n. stmts_behind prelude next (drop n xs)) (add-one i) ∙ ap (λ z. stmts_behind prelude z (drop (suc i) xs)) (more ∙ ap (both all) shape)
    ∙ ap (λ z. stmts_behind prelude all (z ∷ drop (suc i) xs)) is ∙ ap (stmts_behind prelude all) (sym (drop-cons xs i s lt)) ∙ kept
