-- What stands round each assignment, counted: its loops, their numbers, the iterators of its instances.
use Rattle.std.proofs.Common.{◌≡◌, ℕ, suc, ◌+◌, ℤ, true≢false, IsTrue, List, [], ◌∷◌, ◌++◌, length, map, flat_map, Some, refl, sym, ap, ◌∙◌}
use Rattle.std.specs.Prelude.{int_le, ◌&&◌, slice_get}
use Rattle.std.proofs.lemmas.Option.{same_Some}
use Rattle.affc_ast.specs.declared.tree.Instance.{Instance}
use Rattle.affc_ast.specs.declared.tree.Program.{Program}
use Rattle.affc_ast.specs.declared.tree.Stmt.{Stmt}
use Rattle.affc_ast.specs.declared.tree.Stmt.TheVariants as s
use Rattle.affc_ast.specs.declared.tree.Stmt.TheBlock.{Row_of-Stmt, more_of-Stmt, end_of-Stmt}
use Rattle.affc_ast.specs.Fits.{whole, is_true_at}
use Rattle.affc_ast.specs.Recursion.{by_stmt, by_each}
use Rattle.affc_ast.proofs.Steps.{row_of, unrolled, flat_unrolled}
use Rattle.affc_ast.specs.Trace.{assignments, joined, trace}
use Rattle.affc_trace.specs.Law.{IsIn}
use Rattle.affc_trace.proofs.LastStores.{map_append}
use Rattle.affc_ast.specs.Denials.{denied}
use Rattle.affc_domain.specs.Loops.{all_loops, numbered_step, in_text_order, loop_numbers}
use Rattle.affc_domain.specs.Rounds.{Round, Loop, Test, rounds_step, rounds, goes_on, turns, loops_in}
use Rattle.affc_domain.proofs.Lists.{both_true, length_map, to_mapped}
use Rattle.affc_domain.proofs.PlainLemmas.{rounds_of_each}
use Rattle.affc_domain.proofs.TurnLemmas.{instances_turn}

-- ---- Iterators

-- iterators that turn are one for each loop
pub turns_long : (rs : List Round) (names xs : List ℤ) → IsTrue (turns rs names xs) → length xs ≡ loops_in rs
turns_long [] names [] t = refl
turns_long [] names (x ∷ xs) t = absurd (true≢false (sym t))
turns_long (Loop iter low rel high ∷ rs) names [] t = absurd (true≢false (sym t))
turns_long (Loop iter low rel high ∷ rs) names (x ∷ xs) t =
    let a = both_true (int_le (whole low names) x) (goes_on rel x (whole high names) && turns rs (names ++ x ∷ []) xs) t in
    let b = both_true (goes_on rel x (whole high names)) (turns rs (names ++ x ∷ []) xs) a.1 in
    ap suc (turns_long rs (names ++ x ∷ []) xs b.1)
turns_long (Test cond ∷ rs) names xs t = turns_long rs names xs (both_true (is_true_at cond names) (turns rs names xs) t).1

pub iterators_of_loops : (program : Program) (p : List ℤ) (b : Instance) (rs : List Round) → IsIn b (trace program p) → slice_get (rounds program) b.statement ≡ Some rs → length b.iterators ≡ loops_in rs
iterators_of_loops program p b rs i e =
    let t = (instances_turn program p b).0 i in
    turns_long t.0 p b.iterators t.2 ∙ ap loops_in (same_Some t.0 rs (sym t.1 ∙ e))

-- ---- Numbers of loops

under_numbers : (l : ℕ) (xss : List (List ℕ)) → map length (map (λ ls. l ∷ ls) xss) ≡ map suc (map length xss)
under_numbers l [] = refl
under_numbers l (xs ∷ xss) = ap (λ ns. suc (length xs) ∷ ns) (under_numbers l xss)

under_loop : (r : Round) → ((rs : List Round) → loops_in (r ∷ rs) ≡ suc (loops_in rs)) → (rss : List (List Round)) → map loops_in (map (λ rs. r ∷ rs) rss) ≡ map suc (map loops_in rss)
under_loop r more [] = refl
under_loop r more (rs ∷ rss) = ap (λ n. n ∷ map loops_in (map (λ rs. r ∷ rs) rss)) (more rs) ∙ ap (λ ns. suc (loops_in rs) ∷ ns) (under_loop r more rss)

under_test : (r : Round) → ((rs : List Round) → loops_in (r ∷ rs) ≡ loops_in rs) → (rss : List (List Round)) → map loops_in (map (λ rs. r ∷ rs) rss) ≡ map loops_in rss
under_test r same [] = refl
under_test r same (rs ∷ rss) = ap (λ n. n ∷ map loops_in (map (λ rs. r ∷ rs) rss)) (same rs) ∙ ap (λ ns. loops_in rs ∷ ns) (under_test r same rss)

mutual
  same_loops : (x : Stmt) (first : ℕ) → map length ((by_stmt numbered_step x).numbers first) ≡ map loops_in (by_stmt rounds_step x)
  same_loops (s.For' iter low rel high shape body) first =
      under_numbers first (in_text_order (by_each numbered_step body) (suc first))
      ∙ ap (map suc) (row_same_loops body (suc first))
      ∙ sym (under_loop (Loop iter low rel high) (λ rs. refl) (joined (by_each rounds_step body)))
  same_loops (s.If' cond shape body shape' other) first =
      let next = first + all_loops (by_each numbered_step body) in
      map_append length (in_text_order (by_each numbered_step body) first) (in_text_order (by_each numbered_step other) next)
      ∙ ap (λ ns. ns ++ map length (in_text_order (by_each numbered_step other) next)) (row_same_loops body first ∙ sym (under_test (Test cond) (λ rs. refl) (joined (by_each rounds_step body))))
      ∙ ap (λ ns. map loops_in (map (λ rs. Test cond ∷ rs) (joined (by_each rounds_step body))) ++ ns) (row_same_loops other next ∙ sym (under_test (Test (denied cond)) (λ rs. refl) (joined (by_each rounds_step other))))
      ∙ sym (map_append loops_in (map (λ rs. Test cond ∷ rs) (joined (by_each rounds_step body))) (map (λ rs. Test (denied cond) ∷ rs) (joined (by_each rounds_step other))))
  same_loops (s.Assign op array subs value) first = refl
  same_loops (s.Block' locals shape body) first = row_same_loops body first

  row_same_loops : {n : _} (body : Row_of-Stmt n) (first : ℕ) → map length (in_text_order (by_each numbered_step body) first) ≡ map loops_in (joined (by_each rounds_step body))
  row_same_loops end_of-Stmt first = refl
  row_same_loops (more_of-Stmt x rest) first =
      let next = first + (by_stmt numbered_step x).loops in
      map_append length ((by_stmt numbered_step x).numbers first) (in_text_order (by_each numbered_step rest) next)
      ∙ ap (λ ns. ns ++ map length (in_text_order (by_each numbered_step rest) next)) (same_loops x first)
      ∙ ap (λ ns. map loops_in (by_stmt rounds_step x) ++ ns) (row_same_loops rest next)
      ∙ sym (map_append loops_in (by_stmt rounds_step x) (joined (by_each rounds_step rest)))

list_same_loops : (body : List Stmt) (first : ℕ) → map length (in_text_order (map (by_stmt numbered_step) body) first) ≡ map loops_in (flat_map (by_stmt rounds_step) body)
list_same_loops body first =
    ap (λ ns. map length (in_text_order ns first)) (unrolled numbered_step body) ∙ row_same_loops (row_of body) first ∙ sym (ap (map loops_in) (flat_unrolled rounds_step body))

-- each assignment has a number for each loop round it
pub numbers_of_loops : (program : Program) (n : ℕ) (ls : List ℕ) (rs : List Round) → slice_get (loop_numbers program) n ≡ Some ls → slice_get (rounds program) n ≡ Some rs → length ls ≡ loops_in rs
numbers_of_loops program n ls rs e f =
    let a : slice_get (map length (loop_numbers program)) n ≡ Some (length ls) = to_mapped length (loop_numbers program) n ls e in
    let b : slice_get (map loops_in (rounds program)) n ≡ Some (loops_in rs) = to_mapped loops_in (rounds program) n rs f in
    same_Some (length ls) (loops_in rs) (sym a ∙ ap (λ ns. slice_get ns n) (list_same_loops program.body 0) ∙ b)

-- and is counted once
pub numbers_of_each : (program : Program) → length (loop_numbers program) ≡ length (assignments program)
numbers_of_each program =
    sym (length_map length (loop_numbers program)) ∙ ap length (list_same_loops program.body 0) ∙ length_map loops_in (rounds program) ∙ rounds_of_each program
