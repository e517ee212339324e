-- The lemmas that the parts of a run share.
use Rattle.std.proofs.Common.{◌≡◌, ℕ, zero, suc, ◌+◌, ◌-◌, ◌<◌, ◌≤◌, Bool, true, false, ◌&&◌, List, [], ◌∷◌, length, get_or, take, drop, map, refl, sym, ap, subst, ◌∙◌, arith}
use Rattle.std.proofs.lemmas.List.{take_all}
use Rattle.std.proofs.lemmas.List.Sums.{sum_by-cons}
use Rattle.affc_ast.specs.declared.tree.Cond.{Cond}
use Rattle.affc_ast.specs.declared.tree.Ix.{Ix}
use Rattle.affc_ast.specs.declared.tree.Local.{Local}
use Rattle.affc_ast.specs.declared.tree.Rel.{Rel}
use Rattle.affc_ast.specs.declared.tree.Stmt.{Stmt, For, If, Block}
use Rattle.affc_ast.specs.declared.tree.Stmt.TheOpen as layer
use Rattle.affc_ast.proofs.Outs.{stmt_outs}
use Rattle.affc_ast.proofs.Steps.{for_here, if_here, block_here}
use Rattle.affc_interp.specs.Budget.{exec_step, exec_of, nodes_among, assigns_among, all_within}
use Rattle.affc_interp.proofs.Lists.{drop_next}
use Rattle.affc_interp.proofs.LoadCounts.{some_nodes}

pub ruleset exec_steps = (stmt_outs, some_nodes)

-- a list and its first
pub first_and_rest : (xs : List Stmt) (x : Stmt) → 1 ≤ length xs → x ≡ get_or xs 0 x → xs ≡ x ∷ take (length xs - 1) (drop 1 xs)
first_and_rest [] x h e = absurd (omega arith)
first_and_rest (y ∷ ys) x h e = ap (λ z. z ∷ ys) (sym e) ∙ ap (λ zs. x ∷ zs) (sym (take_all (length (y ∷ ys) - 1) ys (omega arith)))

-- the item that a loop has come to
module _ (xs : List Stmt) (i : ℕ) (x : Stmt) (below : i < length xs) (at : x ≡ get_or xs i x) where
  pub next_assigns : assigns_among (map exec_of (drop i xs)) ≡ (exec_of x).assigns + assigns_among (map exec_of (drop (i + 1) xs))
  next_assigns = ap (λ l. assigns_among (map exec_of l)) (drop_next xs i x below at) ∙ sum_by-cons (λ p. p.assigns) (exec_of x) (map exec_of (drop (i + 1) xs))

pub nodes_within : (xs : List Stmt) (i : ℕ) (x : Stmt) → i < length xs → x ≡ get_or xs i x → (exec_of x).nodes ≤ nodes_among (map exec_of xs)
nodes_within [] i x h e = absurd (omega arith)
nodes_within (y ∷ ys) zero x h e =
    let s = sum_by-cons (λ p. p.nodes) (exec_of y) (map exec_of ys) in
    let same : (exec_of x).nodes ≡ (exec_of y).nodes = ap (λ z. (exec_of z).nodes) e in
    omega (arith, s, same)
nodes_within (y ∷ ys) (suc i) x h e =
    let s = sum_by-cons (λ p. p.nodes) (exec_of y) (map exec_of ys) in
    let r = nodes_within ys i x (omega arith) e in
    omega (arith, s, r)

first_true : (p q : Bool) → (p && q) ≡ true → p ≡ true
first_true true q e = refl
first_true false q e = e

second_true : (p q : Bool) → (p && q) ≡ true → q ≡ true
second_true true q e = e
second_true false q e = cc

pub record FirstAndRest (xs : List Stmt) (x : Stmt) (rest : List Stmt) (n : ℕ) : Type 0 where
  pub nodes : nodes_among (map exec_of xs) ≡ (exec_of x).nodes + nodes_among (map exec_of rest)
  pub assigns : assigns_among (map exec_of xs) ≡ (exec_of x).assigns + assigns_among (map exec_of rest)
  pub some : 1 ≤ (exec_of x).nodes
  pub first : all_within (map exec_of xs) n ≡ true → (exec_of x).within n ≡ true
  pub others : all_within (map exec_of xs) n ≡ true → all_within (map exec_of rest) n ≡ true

of_cons : (x : Stmt) (rest : List Stmt) (n : ℕ) → FirstAndRest (x ∷ rest) x rest n
of_cons x rest n = record {
  nodes = sum_by-cons (λ p. p.nodes) (exec_of x) (map exec_of rest);
  assigns = sum_by-cons (λ p. p.assigns) (exec_of x) (map exec_of rest);
  some = some_nodes x;
  first = first_true ((exec_of x).within n) (all_within (map exec_of rest) n);
  others = second_true ((exec_of x).within n) (all_within (map exec_of rest) n);
}

pub parts_of : (xs : List Stmt) (x : Stmt) (n : ℕ) → 1 ≤ length xs → x ≡ get_or xs 0 x → FirstAndRest xs x (take (length xs - 1) (drop 1 xs)) n
parts_of xs x n h e = subst (λ (l : List Stmt). FirstAndRest l x (take (length xs - 1) (drop 1 xs)) n) (sym (first_and_rest xs x h e)) (of_cons x (take (length xs - 1) (drop 1 xs)) n)

pub for_is : (s : Stmt) (iter : List ℕ) (low : Ix) (rel : Rel) (high : Ix) (body slice : List Stmt) → s ≡ For iter low rel high body → slice ≡ body → exec_of s ≡ exec_step (layer.For iter low rel high (map exec_of slice))
for_is s iter low rel high body slice e b = ap exec_of e ∙ for_here exec_step iter low rel high body ∙ ap (λ l. exec_step (layer.For iter low rel high (map exec_of l))) (sym b)

pub if_is : (s : Stmt) (cond c : Cond) (body slice other slice' : List Stmt) → s ≡ If cond body other → c ≡ cond → slice ≡ body → slice' ≡ other → exec_of s ≡ exec_step (layer.If c (map exec_of slice) (map exec_of slice'))
if_is s cond c body slice other slice' e d b o = ap exec_of e ∙ if_here exec_step cond body other ∙ (λ i. exec_step (layer.If (sym d i) (map exec_of (sym b i)) (map exec_of (sym o i))))

pub block_is : (s : Stmt) (locals ls : List Local) (body slice : List Stmt) → s ≡ Block locals body → ls ≡ locals → slice ≡ body → exec_of s ≡ exec_step (layer.Block ls (map exec_of slice))
block_is s locals ls body slice e d b = ap exec_of e ∙ block_here exec_step locals body ∙ (λ i. exec_step (layer.Block (sym d i) (map exec_of (sym b i))))
