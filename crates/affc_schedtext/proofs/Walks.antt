-- Walks over a program's tree: what is found further on stands behind what was found.
use Rattle.std.proofs.Common.{◌≡◌, ℕ, suc, ◌+◌, ◌<◌, Bool, List, [], ◌∷◌, ◌++◌, map, length, drop, get_or, drop-cons, refl, sym, ap, ◌∙◌, arith, append_assoc, append-nil, flat_map}
use Rattle.std.proofs.lemmas.List.{map-append}
use Rattle.affc_ast.specs.declared.tree.Stmt.{Stmt, out-Stmt, map-Stmt, the_lemmas as stmt_lemmas}
use Rattle.affc_ast.specs.declared.tree.Stmt.TheOpen as layer
use Rattle.affc_ast.specs.declared.tree.Stmt.TheOpen.{Stmt-F}
use Rattle.affc_ast.specs.declared.tree.Stmt.TheVariants as c
use Rattle.affc_ast.specs.Denials.{denied}
use Rattle.affc_ast.specs.Recursion.{by_stmt}
use Rattle.affc_ast.specs.Trace.{joined}
use Rattle.affc_ast.proofs.Outs.{by_stmt_out}
use Rattle.affc_domain.specs.Rounds.{Round, Loop, Test, rounds_step}
use Rattle.affc_grammar.specs.Grammar.{Name}
use Rattle.affc_schedtext.specs.Outline.{iterators_in}
use Rattle.affc_schedtext.specs.Walking.{iterators_under}

pub ruleset ends = (append-nil)

pub front : {A : Type 0} (xs : List A) (i : ℕ) (x : A) → i < length xs → x ≡ get_or xs i x → drop i xs ≡ x ∷ drop (i + 1) xs
front xs i x h e =
    let next : suc i ≡ i + 1 = omega arith in
    drop-cons xs i x h ∙ ap (λ z. z ∷ drop (suc i) xs) (sym e) ∙ ap (λ n. x ∷ drop n xs) next

-- one more of a list, where each adds its own behind the others
module _ {A B : Type 0} (f : List A → List B) (split : (x : A) (xs : List A) → f (x ∷ xs) ≡ f (x ∷ []) ++ f xs) where
  pub one_on : (xs : List A) (i : ℕ) (x : A) (o p : List B) → i < length xs → x ≡ get_or xs i x → p ≡ o ++ f (x ∷ []) → p ++ f (drop (i + 1) xs) ≡ o ++ f (drop i xs)
  one_on xs i x o p h e g =
      ap (λ l. l ++ f (drop (i + 1) xs)) g
      ∙ append_assoc o (f (x ∷ [])) (f (drop (i + 1) xs))
      ∙ ap (λ l. o ++ l) (sym (ap f (front xs i x h e) ∙ split x (drop (i + 1) xs)))

-- ---- Statements

abbrev all_rounds : List Stmt → List (List Round)
all_rounds ss = joined (map (by_stmt rounds_step) ss)

under_loop : (around : List Name) (iter : Name) (low : _) (rel : _) (high : _) (rss : List (List Round)) → iterators_under (around ++ iter ∷ []) rss ≡ iterators_under around (map (λ rs. Loop iter low rel high ∷ rs) rss)
under_loop around iter low rel high [] = refl
under_loop around iter low rel high (rs ∷ rss) = (λ i. append_assoc around (iter ∷ []) (iterators_in rs) i ∷ under_loop around iter low rel high rss i)

under_test : (around : List Name) (cond : _) (rss : List (List Round)) → iterators_under around rss ≡ iterators_under around (map (λ rs. Test cond ∷ rs) rss)
under_test around cond [] = refl
under_test around cond (rs ∷ rss) = ap (λ l. (around ++ iterators_in rs) ∷ l) (under_test around cond rss)

unrolled : (s : Stmt) (z : Stmt-F Stmt) → out-Stmt s ≡ z → by_stmt rounds_step s ≡ rounds_step (map-Stmt Stmt (List (List Round)) (by_stmt rounds_step) z)
unrolled s z e = by_stmt_out rounds_step s ∙ ap (λ y. rounds_step (map-Stmt Stmt (List (List Round)) (by_stmt rounds_step) y)) e

pub for_under : (around inside : List Name) (s : Stmt) (iter : _) (low : _) (rel : _) (high : _) (body ss : List Stmt) → s ≡ c.For iter low rel high body → inside ≡ around ++ iter ∷ [] → ss ≡ body
    → iterators_under inside (all_rounds ss) ≡ iterators_under around (by_stmt rounds_step s)
for_under around inside s iter low rel high body ss g e q =
    (λ i. iterators_under (e i) (all_rounds (q i)))
    ∙ under_loop around iter low rel high (all_rounds body)
    ∙ ap (iterators_under around) (sym (unrolled s (layer.For iter low rel high body) (ap out-Stmt g ∙ simp stmt_lemmas)))

-- what both branches add, one behind the other
pub if_under : (around : List Name) (s : Stmt) (cond : _) (body other ss ts : List Stmt) (old here end : List (List Name)) → s ≡ c.If cond body other → ss ≡ body → ts ≡ other
    → here ≡ old ++ iterators_under around (all_rounds ss) → end ≡ here ++ iterators_under around (all_rounds ts) → end ≡ old ++ iterators_under around (by_stmt rounds_step s)
if_under around s cond body other ss ts old here end g q r e f =
    let first = iterators_under around (map (λ rs. Test cond ∷ rs) (all_rounds body)) in
    let second = iterators_under around (map (λ rs. Test (denied cond) ∷ rs) (all_rounds other)) in
    let e' : here ≡ old ++ first = e ∙ (λ i. old ++ iterators_under around (all_rounds (q i))) ∙ ap (λ l. old ++ l) (under_test around cond (all_rounds body)) in
    f ∙ ap (λ l. l ++ iterators_under around (all_rounds ts)) e'
    ∙ (λ i. (old ++ first) ++ iterators_under around (all_rounds (r i)))
    ∙ ap (λ l. (old ++ first) ++ l) (under_test around (denied cond) (all_rounds other))
    ∙ append_assoc old first second
    ∙ ap (λ l. old ++ l) (sym (map-append (λ rs. around ++ iterators_in rs) (map (λ rs. Test cond ∷ rs) (all_rounds body)) (map (λ rs. Test (denied cond) ∷ rs) (all_rounds other))))
    ∙ ap (λ rss. old ++ iterators_under around rss) (sym (unrolled s (layer.If cond body other) (ap out-Stmt g ∙ simp stmt_lemmas)))

pub block_under : (around : List Name) (s : Stmt) (locals : _) (body ss : List Stmt) → s ≡ c.Block locals body → ss ≡ body → iterators_under around (all_rounds ss) ≡ iterators_under around (by_stmt rounds_step s)
block_under around s locals body ss g q =
    (λ i. iterators_under around (all_rounds (q i)))
    ∙ ap (iterators_under around) (sym (unrolled s (layer.Block locals body) (ap out-Stmt g ∙ simp stmt_lemmas)))

joined_is : (ss : List Stmt) → all_rounds ss ≡ flat_map (by_stmt rounds_step) ss
joined_is [] = refl
joined_is (s ∷ ss) = ap (λ l. by_stmt rounds_step s ++ l) (joined_is ss)

-- with none round them
pub under_none : (ss : List Stmt) → iterators_under [] (all_rounds ss) ≡ map iterators_in (flat_map (by_stmt rounds_step) ss)
under_none ss = ap (map iterators_in) (joined_is ss)

pub ruleset wholes = (under_none)
