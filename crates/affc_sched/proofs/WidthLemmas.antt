-- The rows of a domain: how wide they are, and which of them say the context.
use Rattle.std.proofs.Common.{◌≡◌, ℕ, suc, ◌+◌, ◌*◌, ◌≤◌, ℤ, pos, negsuc, IsTrue, List, [], ◌∷◌, ◌++◌, length, take, refl, sym, ap, subst, ◌∙◌, arith}
use Rattle.std.proofs.Math.Seq.{take-append_seam}
use Rattle.std.specs.List.{All}
use Rattle.std.proofs.lemmas.List.Elements.{All-append}
use Rattle.affc_rows.specs.Forms.{Affine, HaveColumns}
use Rattle.affc_system.specs.Systems.{Rows, Meets}
use Rattle.affc_ast.specs.declared.tree.Compare.{Compare}
use Rattle.affc_ast.specs.declared.tree.Program.{Program}
use Rattle.affc_ast.specs.declared.tree.Rel.{Rel}
use Rattle.affc_ast.specs.declared.tree.Rel.TheVariants.{Less, LessEqual, Greater, GreaterEqual, Equal, NotEqual}
use Rattle.affc_trace.specs.Laws.{IsInContext}
use Rattle.affc_trace.proofs.EndedReads.{append_assoc}
use Rattle.affc_trace.proofs.Runs.{length_append}
use Rattle.affc_domain.specs.Affine.{form_of}
use Rattle.affc_domain.specs.Ranges.{number_ranges}
use Rattle.affc_domain.specs.Rounds.{loops_in}
use Rattle.affc_nest.specs.Domains.{compare_rows, test_rows, box_rows, loop_rows, condition_rows, domain_rows}
use Rattle.affc_nest.specs.declared.nest.Entry.{Entry}
use Rattle.affc_nest.specs.Laws.{HasNest, IsEntry}
use Rattle.affc_nest.specs.Nests.{nest_of}
use Rattle.affc_nest.proofs.DomainLemmas.{Met, to_all}
use Rattle.affc_nest.proofs.EntryLemmas.{site_of, ranges_there, domain_is, loops_are}
use Rattle.affc_nest.proofs.PointLemmas.{context_met}
use Rattle.affc_nest.proofs.WidthLemmas.{rows_wide}
use Rattle.affc_sched.specs.Questions.{context_count}

-- ---- Counts

compare_count : (rel : Rel) (a b c d : Affine) → length (compare_rows rel a b) ≡ length (compare_rows rel c d)
compare_count Less a b c d = refl
compare_count LessEqual a b c d = refl
compare_count Greater a b c d = refl
compare_count GreaterEqual a b c d = refl
compare_count Equal a b c d = refl
compare_count NotEqual a b c d = refl

tests_count : (names more : ℕ) (cs : List Compare) → length (test_rows names more cs) ≡ length (test_rows names 0 cs)
tests_count names more [] = refl
tests_count names more (c ∷ cs) =
    length_append (compare_rows c.rel (form_of names more c.left) (form_of names more c.right)) (test_rows names more cs)
    ∙ ap (λ k. k + length (test_rows names more cs)) (compare_count c.rel (form_of names more c.left) (form_of names more c.right) (form_of names 0 c.left) (form_of names 0 c.right))
    ∙ ap (λ k. length (compare_rows c.rel (form_of names 0 c.left) (form_of names 0 c.right)) + k) (tests_count names more cs)
    ∙ sym (length_append (compare_rows c.rel (form_of names 0 c.left) (form_of names 0 c.right)) (test_rows names 0 cs))

box_count : (n j : ℕ) (rs : List (ℤ × ℤ)) → length (box_rows n j rs) ≡ 2 * length rs
box_count n j [] = refl
box_count n j (r ∷ rs) = two_more (length (box_rows n (suc j) rs)) (length rs) (box_count n (suc j) rs)
  where
    two_more : (x y : ℕ) → x ≡ 2 * y → suc (suc x) ≡ 2 * suc y
    two_more x y e = omega (arith, e)

-- ---- A living statement's domain

module _ (program : Program) (has : HasNest program) (statement : ℕ) (e : Entry) (h : IsEntry program statement e) (alive : IsTrue e.alive) where
  pub domain_wide : HaveColumns (length (number_ranges program.params) + length e.loops) e.domain.rows
  domain_wide =
      let s = site_of program statement e h in
      let w = ranges_there program statement e has s alive in
      let ps = number_ranges program.params in
      let m = length ps in
      let n = loops_in s.its_rounds in
      let rows : List Affine = domain_rows ps program.context w.0 s.its_rounds in
      let d : e.domain.rows ≡ rows = ap (λ r. r.rows) (domain_is program statement e s w.0 w.1) in
      subst (λ k. HaveColumns (m + k) e.domain.rows) (sym (loops_are program statement e s)) (subst (HaveColumns (m + n)) (sym d) (rows_wide ps program.context w.0 s.its_rounds))

  -- the first rows of a domain are those of the parameters and of the context, and are met where p is in the context
  pub context_rows_met : (p its : List ℤ) → IsInContext program p → length its ≡ length e.loops → All (Meets (p ++ its)) (take (context_count (nest_of program)) e.domain.rows)
  context_rows_met p its inside l =
      let s = site_of program statement e h in
      let w = ranges_there program statement e has s alive in
      let ps = number_ranges program.params in
      let m = length ps in
      let n = loops_in s.its_rounds in
      let zs : List ℤ = p ++ its in
      let box : List Affine = box_rows (m + n) 0 ps in
      let tests : List Affine = test_rows m n program.context in
      let own : List Affine = loop_rows m w.0 s.its_rounds ++ condition_rows m s.its_rounds in
      let d : e.domain.rows ≡ (box ++ tests) ++ own = ap (λ r. r.rows) (domain_is program statement e s w.0 w.1) ∙ sym (append_assoc box tests own) in
      let count : context_count (nest_of program) ≡ length (box ++ tests) =
      sym (length_append box tests ∙ ap (λ k. k + length tests) (box_count (m + n) 0 ps) ∙ ap (λ k. 2 * m + k) (tests_count m n program.context)) in
      let long : length its ≡ n = l ∙ loops_are program statement e s in
      let front : take (context_count (nest_of program)) e.domain.rows ≡ box ++ tests = ap (λ k. take k e.domain.rows) count ∙ ap (take (length (box ++ tests))) d ∙ take-append_seam (box ++ tests) own in
      let c = context_met program p its has.plain inside in
      let box_met : All (Meets zs) box = to_all zs box (subst (λ k. Met zs (box_rows (m + k) 0 ps)) long c.0) in
      let tests_met : All (Meets zs) tests = to_all zs tests (subst (λ k. Met zs (test_rows m k program.context)) long c.1) in
      subst (All (Meets zs)) (sym front) (All-append (Meets zs) box tests box_met tests_met)

  -- a domain has at least the rows of the context
  pub context_rows_first : context_count (nest_of program) ≤ length e.domain.rows
  context_rows_first =
      let s = site_of program statement e h in
      let w = ranges_there program statement e has s alive in
      let ps = number_ranges program.params in
      let m = length ps in
      let n = loops_in s.its_rounds in
      let box : List Affine = box_rows (m + n) 0 ps in
      let tests : List Affine = test_rows m n program.context in
      let own : List Affine = loop_rows m w.0 s.its_rounds ++ condition_rows m s.its_rounds in
      let d : length e.domain.rows ≡ length (box ++ (tests ++ own)) = ap (λ (r : Rows). length r.rows) (domain_is program statement e s w.0 w.1) in
      let b = length_append box (tests ++ own) in
      let t = length_append tests own in
      let c = box_count (m + n) 0 ps in
      let k = tests_count m n program.context in
      omega (arith, d, b, t, c, k)
