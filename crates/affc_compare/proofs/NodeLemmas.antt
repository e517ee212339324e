-- What is counted at each kind of statement.
use Rattle.std.proofs.Common.{rules, ◌≡◌, ℕ, suc, ◌+◌, ◌<◌, ◌^◌, Fits, w64, List, map, sym, ap, ◌∙◌, arith}
use Rattle.affc_ast.specs.declared.tree.Cond.{Cond}
use Rattle.affc_ast.specs.declared.tree.Ix.{Ix}
use Rattle.affc_ast.specs.declared.tree.Local.{Local}
use Rattle.affc_ast.specs.declared.tree.Rel.{Rel}
use Rattle.affc_ast.specs.declared.tree.Stmt.{Stmt, For, If, Block, out-Stmt, map-Stmt, the_lemmas as stmt_lemmas}
use Rattle.affc_ast.specs.declared.tree.Stmt.TheOpen as layer
use Rattle.affc_ast.proofs.Outs.{by_stmt_out}
use Rattle.affc_compare.specs.Sharing.{Sharing, assigns_among, in_parts, loops_among, sharing_step, sharing}

-- ---- Statements with a body

pub record IsRound (s : Stmt) (body : List Stmt) : Type 0 where
  pub assigns : (sharing s).assigns ≡ assigns_among (map sharing body)
  pub loops : (a b : ℕ) → (sharing s).loops a b ≡ loops_among (map sharing body) a b

pub record HasBranches (s : Stmt) (body other : List Stmt) : Type 0 where
  pub assigns : (sharing s).assigns ≡ assigns_among (map sharing body) + assigns_among (map sharing other)
  pub loops : (a b : ℕ) → (sharing s).loops a b ≡ in_parts (assigns_among (map sharing body)) (loops_among (map sharing body)) (loops_among (map sharing other)) a b

pub record IsLoop (s : Stmt) (body : List Stmt) : Type 0 where
  pub assigns : (sharing s).assigns ≡ assigns_among (map sharing body)
  pub loops : (a b : ℕ) → (sharing s).loops a b ≡ suc (loops_among (map sharing body) a b)

for_row : (iter : List ℕ) (low : Ix) (rel : Rel) (high : Ix) (body : List Stmt) → map-Stmt Stmt Sharing sharing (out-Stmt (For iter low rel high body)) ≡ layer.For iter low rel high (map sharing body)
for_row iter low rel high body = first_of (simp stmt_lemmas, grind (arith, stmt_lemmas), search (rules, stmt_lemmas))

if_row : (cond : Cond) (body other : List Stmt) → map-Stmt Stmt Sharing sharing (out-Stmt (If cond body other)) ≡ layer.If cond (map sharing body) (map sharing other)
if_row cond body other = first_of (simp stmt_lemmas, grind (arith, stmt_lemmas), search (rules, stmt_lemmas))

block_row : (locals : List Local) (body : List Stmt) → map-Stmt Stmt Sharing sharing (out-Stmt (Block locals body)) ≡ layer.Block locals (map sharing body)
block_row locals body = first_of (simp stmt_lemmas, grind (arith, stmt_lemmas), search (rules, stmt_lemmas))

pub for_is : (s : Stmt) (iter : List ℕ) (low : Ix) (rel : Rel) (high : Ix) (body slice : List Stmt) → s ≡ For iter low rel high body → slice ≡ body → IsLoop s slice
for_is s iter low rel high body slice e b =
    let is = ap sharing e ∙ by_stmt_out sharing_step (For iter low rel high body) ∙ ap sharing_step (for_row iter low rel high body) ∙ ap (λ l. sharing_step (layer.For iter low rel high (map sharing l))) (sym b) in
    record { assigns = ap (λ (t : Sharing). t.assigns) is; loops = λ x y. ap (λ (t : Sharing). t.loops x y) is }

pub if_is : (s : Stmt) (cond : Cond) (body other slice rest : List Stmt) → s ≡ If cond body other → slice ≡ body → rest ≡ other → HasBranches s slice rest
if_is s cond body other slice rest e b r =
    let is = ap sharing e ∙ by_stmt_out sharing_step (If cond body other) ∙ ap sharing_step (if_row cond body other)
    ∙ ap (λ l. sharing_step (layer.If cond (map sharing l) (map sharing other))) (sym b) ∙ ap (λ l. sharing_step (layer.If cond (map sharing slice) (map sharing l))) (sym r) in
    record { assigns = ap (λ (t : Sharing). t.assigns) is; loops = λ x y. ap (λ (t : Sharing). t.loops x y) is }

pub block_is : (s : Stmt) (locals : List Local) (body slice : List Stmt) → s ≡ Block locals body → slice ≡ body → IsRound s slice
block_is s locals body slice e b =
    let is = ap sharing e ∙ by_stmt_out sharing_step (Block locals body) ∙ ap sharing_step (block_row locals body) ∙ ap (λ l. sharing_step (layer.Block locals (map sharing l))) (sym b) in
    record { assigns = ap (λ (t : Sharing). t.assigns) is; loops = λ x y. ap (λ (t : Sharing). t.loops x y) is }

pub same_less : (j k m : ℕ) → j ≡ k → j < m → k < m
same_less j k m e h = omega (arith, e, h)

pub inner_less : (j k m : ℕ) → j ≡ suc k → j < m → k < m
inner_less j k m e h = omega (arith, e, h)

pub fits_more : (i k j : ℕ) → i ≡ k → j ≡ suc k → j < 2 ^ 32 → Fits w64 (1 + i)
fits_more i k j e h l = omega (arith, e, h, l)
