-- The steps by which the loops are made, from the innermost out.
use Rattle.std.proofs.Common.{◌≡◌, ℕ, suc, ◌+◌, List, [], ◌∷◌, ◌++◌, length, sym, ap, ◌∙◌, arith}
use Rattle.affc_ast.specs.declared.tree.Ix.{Ix}
use Rattle.affc_ast.specs.declared.tree.Rel.TheVariants.{LessEqual}
use Rattle.affc_ast.specs.declared.tree.Stmt.{Stmt}
use Rattle.affc_ast.specs.declared.tree.Stmt.TheVariants.{For}
use Rattle.affc_loops.specs.Between.{loops_between}
use Rattle.affc_loops.specs.Loops.{time_name}

last_inside : (es : List (Ix × Ix)) (e : Ix × Ix) (component : ℕ) (body : List Stmt)
    → loops_between (es ++ e ∷ []) component body ≡ loops_between es component (For (time_name (component + length es)) e.0 LessEqual e.1 body ∷ [])
last_inside [] e component body = let q : component ≡ component + 0 = omega arith in ap (λ n. For (time_name n) e.0 LessEqual e.1 body ∷ []) q
last_inside (x ∷ es) e component body =
    let q : suc component + length es ≡ component + suc (length es) = omega arith in
    ap (λ inner. For (time_name component) x.0 LessEqual x.1 inner ∷ [])
    (last_inside es e (suc component) body ∙ ap (λ n. loops_between es (suc component) (For (time_name n) e.0 LessEqual e.1 body ∷ [])) q)

pub innermost : (es all : List (Ix × Ix)) (low high : Ix) (component : ℕ) (body : List Stmt) → all ≡ es ++ (low, high) ∷ [] → component ≡ length es
    → loops_between es 0 (For (time_name component) low LessEqual high body ∷ []) ≡ loops_between all 0 body
innermost es all low high component body a e =
    let q : component ≡ 0 + length es = omega arith in
    ap (λ n. loops_between es 0 (For (time_name n) low LessEqual high body ∷ [])) q ∙ sym (last_inside es (low, high) 0 body) ∙ ap (λ l. loops_between l 0 body) (sym a)
