-- A walk over statements, one statement after the other.
use Rattle.std.proofs.Common.{◌≡◌, ℕ, suc, ◌+◌, ◌<◌, List, [], ◌∷◌, ◌++◌, map, length, drop, get_or, drop-cons, sym, ap, ◌∙◌, arith}
use Rattle.affc_ast.specs.declared.tree.Cond.{Cond}
use Rattle.affc_ast.specs.declared.tree.Stmt.{Stmt, out-Stmt, map-Stmt, the_lemmas as stmt_lemmas}
use Rattle.affc_ast.specs.declared.tree.Stmt.TheOpen as layer
use Rattle.affc_ast.specs.declared.tree.Stmt.TheOpen.{Stmt-F}
use Rattle.affc_ast.specs.declared.tree.Stmt.TheVariants as c
use Rattle.affc_ast.specs.Denials.{denied}
use Rattle.affc_ast.specs.Recursion.{by_stmt}
use Rattle.affc_ast.proofs.Outs.{by_stmt_out}
use Rattle.affc_trace.proofs.EndedReads.{append_assoc}
use Rattle.affc_domain.specs.Rounds.{Round, Test}
use Rattle.affc_nest.specs.Sites.{Place, Walked, loops_of, in_turn, walked_step}

unrolled : (s : Stmt) (z : Stmt-F Stmt) → out-Stmt s ≡ z → by_stmt walked_step s ≡ walked_step (map-Stmt Stmt Walked (by_stmt walked_step) z)
unrolled s z e = by_stmt_out walked_step s ∙ ap (λ y. walked_step (map-Stmt Stmt Walked (by_stmt walked_step) y)) e

pub for_is : (s : Stmt) (iter : _) (low : _) (rel : _) (high : _) (body : List Stmt) → s ≡ c.For iter low rel high body → by_stmt walked_step s ≡ walked_step (layer.For iter low rel high (map (by_stmt walked_step) body))
for_is s iter low rel high body g = unrolled s (layer.For iter low rel high body) (ap out-Stmt g ∙ simp stmt_lemmas)

pub if_is : (s : Stmt) (cond : _) (body other : List Stmt) → s ≡ c.If cond body other → by_stmt walked_step s ≡ walked_step (layer.If cond (map (by_stmt walked_step) body) (map (by_stmt walked_step) other))
if_is s cond body other g = unrolled s (layer.If cond body other) (ap out-Stmt g ∙ simp stmt_lemmas)

pub block_is : (s : Stmt) (locals : _) (body : List Stmt) → s ≡ c.Block locals body → by_stmt walked_step s ≡ walked_step (layer.Block locals (map (by_stmt walked_step) body))
block_is s locals body g = unrolled s (layer.Block locals body) (ap out-Stmt g ∙ simp stmt_lemmas)

-- the statements under a condition, and then those under its denial
pub both_counted : (middle next k l : ℕ) → middle ≡ next + k → middle + l ≡ next + (k + l)
both_counted middle next k l e = omega (arith, e)

pub both_walked : (around under beside : List Round) (cond : Cond) (body other body' other' : List Stmt) (numbers : List ℕ) (first middle : ℕ) (old here end : List Place)
    → under ≡ around ++ Test cond ∷ [] → beside ≡ around ++ Test (denied cond) ∷ [] → body' ≡ body → other' ≡ other
    → middle ≡ first + loops_of (map (by_stmt walked_step) body')
    → here ≡ old ++ in_turn (map (by_stmt walked_step) body') under numbers first
    → end ≡ here ++ in_turn (map (by_stmt walked_step) other') beside numbers middle
    → end ≡ old ++ (walked_step (layer.If cond (map (by_stmt walked_step) body) (map (by_stmt walked_step) other))).places around numbers first
both_walked around under beside cond body other body' other' numbers first middle old here end u b e f n g h =
    let ws = map (by_stmt walked_step) body in
    let vs = map (by_stmt walked_step) other in
    let under' = around ++ Test cond ∷ [] in
    let g' : here ≡ old ++ in_turn ws under' numbers first =
    g ∙ ap (λ ss. old ++ in_turn (map (by_stmt walked_step) ss) under numbers first) e ∙ ap (λ rs. old ++ in_turn ws rs numbers first) u in
    let n' : middle ≡ first + loops_of ws = n ∙ ap (λ ss. first + loops_of (map (by_stmt walked_step) ss)) e in
    h ∙ ap (λ ps. ps ++ in_turn (map (by_stmt walked_step) other') beside numbers middle) g'
    ∙ ap (λ ss. (old ++ in_turn ws under' numbers first) ++ in_turn (map (by_stmt walked_step) ss) beside numbers middle) f
    ∙ ap (λ rs. (old ++ in_turn ws under' numbers first) ++ in_turn vs rs numbers middle) b
    ∙ ap (λ k. (old ++ in_turn ws under' numbers first) ++ in_turn vs (around ++ Test (denied cond) ∷ []) numbers k) n'
    ∙ append_assoc old (in_turn ws under' numbers first) (in_turn vs (around ++ Test (denied cond) ∷ []) numbers (first + loops_of ws))

pub front : {A : Type 0} (xs : List A) (i : ℕ) (x : A) → i < length xs → x ≡ get_or xs i x → drop i xs ≡ x ∷ drop (i + 1) xs
front xs i x h e = drop-cons xs i x h ∙ ap (λ z. z ∷ drop (suc i) xs) (sym e) ∙ ap (λ n. x ∷ drop n xs) (suc_is i)
  where
    suc_is : (i : ℕ) → suc i ≡ i + 1
    suc_is i = omega arith
