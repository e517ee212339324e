-- A walk over a program's statements comes to its assignments in order, each with what stands round it and the numbers of its loops.
use Rattle.std.proofs.Common.{◌≡◌, ℕ, suc, ◌+◌, List, [], ◌∷◌, ◌++◌, map, refl, sym, ap, ◌∙◌, arith}
use Rattle.std.specs.Prelude.{fold}
use Rattle.affc_ast.specs.declared.tree.Program.{Program}
use Rattle.affc_ast.specs.declared.tree.Stmt.{Stmt}
use Rattle.affc_ast.specs.declared.tree.Stmt.TheVariants as s
use Rattle.affc_ast.specs.declared.tree.Stmt.TheBlock.{Row_of-Stmt, more_of-Stmt, end_of-Stmt}
use Rattle.affc_ast.specs.Denials.{denied}
use Rattle.affc_ast.specs.Recursion.{by_stmt, by_each}
use Rattle.affc_ast.proofs.Steps.{row_of, unrolled, flat_unrolled}
use Rattle.affc_ast.specs.Trace.{assignments, assignments_step, joined}
use Rattle.affc_trace.proofs.EndedReads.{append_assoc}
use Rattle.affc_trace.proofs.LastStores.{append_nil, map_append}
use Rattle.affc_domain.specs.Loops.{Numbered, all_loops, numbered_step, in_text_order, loop_numbers}
use Rattle.affc_domain.specs.Rounds.{Round, Loop, Test, rounds_step, rounds}
use Rattle.affc_nest.specs.Sites.{Place, loops_of, in_turn, walked_step, all_around, all_numbers, all_assigned, places_of}

-- ---- One thing more in front of each

behind_one : {A : Type 0} (xs : List A) (y : A) (yss : List (List A)) → map (λ ys. (xs ++ y ∷ []) ++ ys) yss ≡ map (λ ys. xs ++ ys) (map (λ ys. y ∷ ys) yss)
behind_one xs y [] = refl
behind_one xs y (ys ∷ yss) =
    ap (λ zs. zs ∷ map (λ ys. (xs ++ y ∷ []) ++ ys) yss) (append_assoc xs (y ∷ []) ys) ∙ ap (λ zss. (xs ++ y ∷ ys) ∷ zss) (behind_one xs y yss)

behind_none : {A : Type 0} (yss : List (List A)) → map (λ ys. [] ++ ys) yss ≡ yss
behind_none [] = refl
behind_none (ys ∷ yss) = ap (λ zss. ys ∷ zss) (behind_none yss)

-- ---- How many loops

from_none : (n : ℕ) → n ≡ 0 + n
from_none n = omega arith

none_more : (n : ℕ) → n + 0 ≡ n
none_more n = omega arith

moved : (k m n l : ℕ) → m ≡ n → k + (m + l) ≡ (k + n) + l
moved k m n l e = omega (arith, e)

mutual
  same_number : (x : Stmt) → (by_stmt walked_step x).loops ≡ (by_stmt numbered_step x).loops
  same_number (s.For' iter low rel high shape body) = ap suc (from_none (loops_of (by_each walked_step body)) ∙ row_same_number body 0)
  same_number (s.If' cond shape body shape' other) =
      λ i. (from_none (loops_of (by_each walked_step body)) ∙ row_same_number body 0) i + (from_none (loops_of (by_each walked_step other)) ∙ row_same_number other 0) i
  same_number (s.Assign op array subs value) = refl
  same_number (s.Block' locals shape body) = from_none (loops_of (by_each walked_step body)) ∙ row_same_number body 0

  row_same_number : {n : _} (body : Row_of-Stmt n) (k : ℕ) → k + loops_of (by_each walked_step body) ≡ fold (λ a (m : Numbered). a + m.loops) k (by_each numbered_step body)
  row_same_number end_of-Stmt k = none_more k
  row_same_number (more_of-Stmt x rest) k =
      moved k (by_stmt walked_step x).loops (by_stmt numbered_step x).loops (loops_of (by_each walked_step rest)) (same_number x)
      ∙ row_same_number rest (k + (by_stmt numbered_step x).loops)

-- ---- What stands round

mutual
  same_around : (x : Stmt) (around : List Round) (numbers : List ℕ) (first : ℕ)
      → all_around ((by_stmt walked_step x).places around numbers first) ≡ map (λ rs. around ++ rs) (by_stmt rounds_step x)
  same_around (s.For' iter low rel high shape body) around numbers first =
      row_same_around body (around ++ Loop iter low rel high ∷ []) (numbers ++ first ∷ []) (suc first)
      ∙ behind_one around (Loop iter low rel high) (joined (by_each rounds_step body))
  same_around (s.If' cond shape body shape' other) around numbers first =
      let next = first + loops_of (by_each walked_step body) in
      let inside = joined (by_each rounds_step body) in
      let beside = joined (by_each rounds_step other) in
      map_append (λ (p : Place). p.around) (in_turn (by_each walked_step body) (around ++ Test cond ∷ []) numbers first) (in_turn (by_each walked_step other) (around ++ Test (denied cond) ∷ []) numbers next)
      ∙ ap (λ rss. rss ++ all_around (in_turn (by_each walked_step other) (around ++ Test (denied cond) ∷ []) numbers next)) (row_same_around body (around ++ Test cond ∷ []) numbers first ∙ behind_one around (Test cond) inside)
      ∙ ap (λ rss. map (λ rs. around ++ rs) (map (λ rs. Test cond ∷ rs) inside) ++ rss) (row_same_around other (around ++ Test (denied cond) ∷ []) numbers next ∙ behind_one around (Test (denied cond)) beside)
      ∙ sym (map_append (λ rs. around ++ rs) (map (λ rs. Test cond ∷ rs) inside) (map (λ rs. Test (denied cond) ∷ rs) beside))
  same_around (s.Assign op array subs value) around numbers first = ap (λ rs. rs ∷ []) (sym (append_nil around))
  same_around (s.Block' locals shape body) around numbers first = row_same_around body around numbers first

  row_same_around : {n : _} (body : Row_of-Stmt n) (around : List Round) (numbers : List ℕ) (first : ℕ)
      → all_around (in_turn (by_each walked_step body) around numbers first) ≡ map (λ rs. around ++ rs) (joined (by_each rounds_step body))
  row_same_around end_of-Stmt around numbers first = refl
  row_same_around (more_of-Stmt x rest) around numbers first =
      let here = (by_stmt walked_step x).places around numbers first in
      let next = first + (by_stmt walked_step x).loops in
      map_append (λ (p : Place). p.around) here (in_turn (by_each walked_step rest) around numbers next)
      ∙ ap (λ rss. rss ++ all_around (in_turn (by_each walked_step rest) around numbers next)) (same_around x around numbers first)
      ∙ ap (λ rss. map (λ rs. around ++ rs) (by_stmt rounds_step x) ++ rss) (row_same_around rest around numbers next)
      ∙ sym (map_append (λ rs. around ++ rs) (by_stmt rounds_step x) (joined (by_each rounds_step rest)))

pub rounds_walked : (program : Program) → all_around (places_of program) ≡ rounds program
rounds_walked program =
    ap (λ ws. all_around (in_turn ws [] [] 0)) (unrolled walked_step program.body)
    ∙ row_same_around (row_of program.body) [] [] 0
    ∙ behind_none (joined (by_each rounds_step (row_of program.body)))
    ∙ sym (flat_unrolled rounds_step program.body)

-- ---- The numbers of the loops

mutual
  same_numbers : (x : Stmt) (around : List Round) (numbers : List ℕ) (first : ℕ)
      → all_numbers ((by_stmt walked_step x).places around numbers first) ≡ map (λ ls. numbers ++ ls) ((by_stmt numbered_step x).numbers first)
  same_numbers (s.For' iter low rel high shape body) around numbers first =
      row_same_numbers body (around ++ Loop iter low rel high ∷ []) (numbers ++ first ∷ []) (suc first)
      ∙ behind_one numbers first (in_text_order (by_each numbered_step body) (suc first))
  same_numbers (s.If' cond shape body shape' other) around numbers first =
      let next = first + loops_of (by_each walked_step body) in
      let there = first + all_loops (by_each numbered_step body) in
      map_append (λ (p : Place). p.loops) (in_turn (by_each walked_step body) (around ++ Test cond ∷ []) numbers first) (in_turn (by_each walked_step other) (around ++ Test (denied cond) ∷ []) numbers next)
      ∙ ap (λ lss. lss ++ all_numbers (in_turn (by_each walked_step other) (around ++ Test (denied cond) ∷ []) numbers next)) (row_same_numbers body (around ++ Test cond ∷ []) numbers first)
      ∙ ap (λ lss. map (λ ls. numbers ++ ls) (in_text_order (by_each numbered_step body) first) ++ lss) (row_same_numbers other (around ++ Test (denied cond) ∷ []) numbers next)
      ∙ ap (λ k. map (λ ls. numbers ++ ls) (in_text_order (by_each numbered_step body) first) ++ map (λ ls. numbers ++ ls) (in_text_order (by_each numbered_step other) (first + k))) (from_none (loops_of (by_each walked_step body)) ∙ row_same_number body 0)
      ∙ sym (map_append (λ ls. numbers ++ ls) (in_text_order (by_each numbered_step body) first) (in_text_order (by_each numbered_step other) there))
  same_numbers (s.Assign op array subs value) around numbers first = ap (λ ls. ls ∷ []) (sym (append_nil numbers))
  same_numbers (s.Block' locals shape body) around numbers first = row_same_numbers body around numbers first

  row_same_numbers : {n : _} (body : Row_of-Stmt n) (around : List Round) (numbers : List ℕ) (first : ℕ)
      → all_numbers (in_turn (by_each walked_step body) around numbers first) ≡ map (λ ls. numbers ++ ls) (in_text_order (by_each numbered_step body) first)
  row_same_numbers end_of-Stmt around numbers first = refl
  row_same_numbers (more_of-Stmt x rest) around numbers first =
      let here = (by_stmt walked_step x).places around numbers first in
      let next = first + (by_stmt walked_step x).loops in
      let there = first + (by_stmt numbered_step x).loops in
      map_append (λ (p : Place). p.loops) here (in_turn (by_each walked_step rest) around numbers next)
      ∙ ap (λ lss. lss ++ all_numbers (in_turn (by_each walked_step rest) around numbers next)) (same_numbers x around numbers first)
      ∙ ap (λ lss. map (λ ls. numbers ++ ls) ((by_stmt numbered_step x).numbers first) ++ lss) (row_same_numbers rest around numbers next)
      ∙ ap (λ k. map (λ ls. numbers ++ ls) ((by_stmt numbered_step x).numbers first) ++ map (λ ls. numbers ++ ls) (in_text_order (by_each numbered_step rest) (first + k))) (same_number x)
      ∙ sym (map_append (λ ls. numbers ++ ls) ((by_stmt numbered_step x).numbers first) (in_text_order (by_each numbered_step rest) there))

pub numbers_walked : (program : Program) → all_numbers (places_of program) ≡ loop_numbers program
numbers_walked program =
    ap (λ ws. all_numbers (in_turn ws [] [] 0)) (unrolled walked_step program.body)
    ∙ row_same_numbers (row_of program.body) [] [] 0
    ∙ behind_none (in_text_order (by_each numbered_step (row_of program.body)) 0)
    ∙ sym (ap (λ ns. in_text_order ns 0) (unrolled numbered_step program.body))

-- ---- The assignments

mutual
  same_assigned : (x : Stmt) (around : List Round) (numbers : List ℕ) (first : ℕ) → all_assigned ((by_stmt walked_step x).places around numbers first) ≡ by_stmt assignments_step x
  same_assigned (s.For' iter low rel high shape body) around numbers first = row_same_assigned body (around ++ Loop iter low rel high ∷ []) (numbers ++ first ∷ []) (suc first)
  same_assigned (s.If' cond shape body shape' other) around numbers first =
      let next = first + loops_of (by_each walked_step body) in
      map_append (λ (p : Place). p.assignment) (in_turn (by_each walked_step body) (around ++ Test cond ∷ []) numbers first) (in_turn (by_each walked_step other) (around ++ Test (denied cond) ∷ []) numbers next)
      ∙ ap (λ as'. as' ++ all_assigned (in_turn (by_each walked_step other) (around ++ Test (denied cond) ∷ []) numbers next)) (row_same_assigned body (around ++ Test cond ∷ []) numbers first)
      ∙ ap (λ as'. joined (by_each assignments_step body) ++ as') (row_same_assigned other (around ++ Test (denied cond) ∷ []) numbers next)
  same_assigned (s.Assign op array subs value) around numbers first = refl
  same_assigned (s.Block' locals shape body) around numbers first = row_same_assigned body around numbers first

  row_same_assigned : {n : _} (body : Row_of-Stmt n) (around : List Round) (numbers : List ℕ) (first : ℕ)
      → all_assigned (in_turn (by_each walked_step body) around numbers first) ≡ joined (by_each assignments_step body)
  row_same_assigned end_of-Stmt around numbers first = refl
  row_same_assigned (more_of-Stmt x rest) around numbers first =
      let here = (by_stmt walked_step x).places around numbers first in
      let next = first + (by_stmt walked_step x).loops in
      map_append (λ (p : Place). p.assignment) here (in_turn (by_each walked_step rest) around numbers next)
      ∙ ap (λ as'. as' ++ all_assigned (in_turn (by_each walked_step rest) around numbers next)) (same_assigned x around numbers first)
      ∙ ap (λ as'. by_stmt assignments_step x ++ as') (row_same_assigned rest around numbers next)

pub assignments_walked : (program : Program) → all_assigned (places_of program) ≡ assignments program
assignments_walked program =
    ap (λ ws. all_assigned (in_turn ws [] [] 0)) (unrolled walked_step program.body)
    ∙ row_same_assigned (row_of program.body) [] [] 0
    ∙ sym (flat_unrolled assignments_step program.body)
