-- An outline has an iterator for each loop round a statement, and the name of each number parameter.
use Rattle.std.proofs.Common.{◌≡◌, ℕ, suc, ◌+◌, List, [], ◌∷◌, ◌++◌, length, map, flat_map, refl, sym, ap, ◌∙◌, arith}
use Rattle.std.proofs.lemmas.List.{map-append}
use Rattle.affc_ast.specs.declared.tree.Param.{Param}
use Rattle.affc_ast.specs.declared.tree.Param.TheVariants.{Number, Array}
use Rattle.affc_ast.specs.declared.tree.Program.{Program}
use Rattle.affc_ast.specs.declared.tree.Stmt.{Stmt}
use Rattle.affc_ast.specs.declared.tree.Stmt.TheVariants as s
use Rattle.affc_ast.specs.declared.tree.Stmt.TheBlock.{Row_of-Stmt, more_of-Stmt, end_of-Stmt}
use Rattle.affc_ast.specs.Denials.{denied}
use Rattle.affc_ast.specs.Recursion.{by_stmt, by_each}
use Rattle.affc_ast.specs.Trace.{joined}
use Rattle.affc_ast.proofs.Steps.{row_of, unrolled, flat_unrolled}
use Rattle.affc_trace.specs.Target.{each_round, loops_step, loops_round, numbers_in}
use Rattle.affc_domain.specs.Rounds.{Round, Loop, Test, rounds_step}
use Rattle.affc_schedtext.specs.Outline.{outline, number_names, iterators_in}

abbrev depth_in : (depth : ℕ) → List Round → ℕ
depth_in depth rs = depth + length (iterators_in rs)

under_loop : (depth : ℕ) (iter : List ℕ) (low : _) (rel : _) (high : _) (rss : List (List Round)) → map (depth_in (suc depth)) rss ≡ map (depth_in depth) (map (λ rs. Loop iter low rel high ∷ rs) rss)
under_loop depth iter low rel high [] = refl
under_loop depth iter low rel high (rs ∷ rss) = (λ i. moved depth (length (iterators_in rs)) i ∷ under_loop depth iter low rel high rss i)
  where
    moved : (m n : ℕ) → suc m + n ≡ m + suc n
    moved m n = omega arith

under_test : (depth : ℕ) (cond : _) (rss : List (List Round)) → map (depth_in depth) rss ≡ map (depth_in depth) (map (λ rs. Test cond ∷ rs) rss)
under_test depth cond [] = refl
under_test depth cond (rs ∷ rss) = ap (λ l. depth_in depth rs ∷ l) (under_test depth cond rss)

alone : (n : ℕ) → n ≡ n + 0
alone n = omega arith

mutual
  depths_are : (x : Stmt) (depth : ℕ) → by_stmt loops_step x depth ≡ map (depth_in depth) (by_stmt rounds_step x)
  depths_are (s.For' iter low rel high shape body) depth = row_depths_are body (suc depth) ∙ under_loop depth iter low rel high (joined (by_each rounds_step body))
  depths_are (s.If' cond shape body shape' other) depth =
      ap (λ ns. ns ++ each_round (by_each loops_step other) depth) (row_depths_are body depth ∙ under_test depth cond (joined (by_each rounds_step body)))
      ∙ ap (λ ns. map (depth_in depth) (map (λ rs. Test cond ∷ rs) (joined (by_each rounds_step body))) ++ ns) (row_depths_are other depth ∙ under_test depth (denied cond) (joined (by_each rounds_step other)))
      ∙ sym (map-append (depth_in depth) (map (λ rs. Test cond ∷ rs) (joined (by_each rounds_step body))) (map (λ rs. Test (denied cond) ∷ rs) (joined (by_each rounds_step other))))
  depths_are (s.Assign op array subs value) depth = ap (λ n. n ∷ []) (alone depth)
  depths_are (s.Block' locals shape body) depth = row_depths_are body depth

  row_depths_are : {n : _} (body : Row_of-Stmt n) (depth : ℕ) → each_round (by_each loops_step body) depth ≡ map (depth_in depth) (joined (by_each rounds_step body))
  row_depths_are end_of-Stmt depth = refl
  row_depths_are (more_of-Stmt x rest) depth =
      ap (λ ns. ns ++ each_round (by_each loops_step rest) depth) (depths_are x depth)
      ∙ ap (λ ns. map (depth_in depth) (by_stmt rounds_step x) ++ ns) (row_depths_are rest depth)
      ∙ sym (map-append (depth_in depth) (by_stmt rounds_step x) (joined (by_each rounds_step rest)))

none_round : (rss : List (List Round)) → map length (map iterators_in rss) ≡ map (depth_in 0) rss
none_round [] = refl
none_round (rs ∷ rss) = (λ i. none (length (iterators_in rs)) i ∷ none_round rss i)
  where
    none : (n : ℕ) → n ≡ 0 + n
    none n = omega arith

pub loops_are : (program : Program) → map length (outline program).statements ≡ loops_round program
loops_are program =
    none_round (flat_map (by_stmt rounds_step) program.body)
    ∙ ap (map (depth_in 0)) (flat_unrolled rounds_step program.body)
    ∙ sym (ap (λ fs. each_round fs 0) (unrolled loops_step program.body) ∙ row_depths_are (row_of program.body) 0)

names_are : (params : List Param) → length (number_names params) ≡ numbers_in params
names_are [] = refl
names_are (Number name low high ∷ ps) = ap suc (names_are ps)
names_are (Array decl ∷ ps) = names_are ps

pub parameters_are : (program : Program) → length (outline program).parameters ≡ numbers_in program.params
parameters_are program = names_are program.params
