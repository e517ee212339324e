-- A program with other subscripts stands for the one that it was.
use Rattle.std.proofs.Common.{◌≡◌, ℕ, zero, suc, ◌+◌, ◌<◌, ℤ, T, IsTrue, List, [], ◌∷◌, ◌++◌, length, map, flat_map, Some, refl, sym, ap, subst, ◌∙◌, inl, inr, arith}
use Rattle.std.specs.Prelude.{slice_get}
use Rattle.std.proofs.lemmas.Option.{none-some, same_Some, slice_get_within}
use Rattle.affc_ast.specs.declared.tree.Decl.{Decl}
use Rattle.affc_ast.specs.declared.tree.Instance.{Instance}
use Rattle.affc_ast.specs.declared.tree.Program.{Program}
use Rattle.affc_ast.specs.declared.tree.Stmt.{Stmt}
use Rattle.affc_ast.specs.declared.tree.Stmt.TheVariants as s
use Rattle.affc_ast.specs.declared.tree.Stmt.TheBlock.{Row_of-Stmt, more_of-Stmt, end_of-Stmt}
use Rattle.affc_ast.specs.Recursion.{by_stmt, by_each}
use Rattle.affc_ast.specs.Trace.{Assignment, assignments_step, assignments, joined, trace, walk_step}
use Rattle.affc_ast.proofs.Steps.{for_here, if_here, block_here, row_of, unrolled, flat_unrolled}
use Rattle.affc_trace.specs.Law.{IsIn, at_place}
use Rattle.affc_trace.specs.Target.{numbers_in, loops_step, each_round}
use Rattle.affc_trace.specs.Effects.{effect, effect_by, plain_step, all_true, has_no_locals}
use Rattle.affc_trace.proofs.Depths.{depth}
use Rattle.affc_trace.proofs.Runs.{slice_left, slice_right, length_append, part_count, walk_count, both_true}
use Rattle.affc_domain.proofs.Lists.{from_append}
use Rattle.affc_domain.proofs.PlainLemmas.{has_assignment}
use Rattle.affc_domain.proofs.TurnLemmas.{instances_turn}
use Rattle.affc_foldloops.specs.Laws.{RefoldedStands}
use Rattle.affc_foldloops.specs.Refolds.{Subscripts, each_under, refold_step, refolded, refolded_assignment}
use Rattle.affc_foldloops.proofs.RefoldLemmas.{stmt_same, flat_is, refolded_keeps_shape, refolded_effect}

mutual
  loops_count : (x : Stmt) (d : ℕ) → length (by_stmt loops_step x d) ≡ length (by_stmt assignments_step x)
  loops_count (s.For' iter low rel high shape body) d = row_loops_count body (suc d)
  loops_count (s.If' cond shape body shape' other) d =
      length_append (each_round (by_each loops_step body) d) (each_round (by_each loops_step other) d)
      ∙ ap (λ u. u + length (each_round (by_each loops_step other) d)) (row_loops_count body d)
      ∙ ap (λ u. length (joined (by_each assignments_step body)) + u) (row_loops_count other d)
      ∙ sym (length_append (joined (by_each assignments_step body)) (joined (by_each assignments_step other)))
  loops_count (s.Assign op array subs value) d = refl
  loops_count (s.Block' locals shape body) d = row_loops_count body d

  row_loops_count : {n : _} (body : Row_of-Stmt n) (d : ℕ) → length (each_round (by_each loops_step body) d) ≡ length (joined (by_each assignments_step body))
  row_loops_count end_of-Stmt d = refl
  row_loops_count (more_of-Stmt x rest) d =
      length_append (by_stmt loops_step x d) (each_round (by_each loops_step rest) d)
      ∙ ap (λ u. u + length (each_round (by_each loops_step rest) d)) (loops_count x d)
      ∙ ap (λ u. length (by_stmt assignments_step x) + u) (row_loops_count rest d)
      ∙ sym (length_append (by_stmt assignments_step x) (joined (by_each assignments_step rest)))

out_of : {A : Type 0} (xs : List A) (m k : ℕ) (x : A) → slice_get xs m ≡ Some x → m ≡ length xs + k → ⊥
out_of xs m k x e l = let h : m < length xs = slice_get_within xs m x e in omega arith

-- ---- The assignments, where so many names are the first ones

module _ (at : Subscripts) (first : ℕ) where
  -- each with the new subscripts, by the number of loops round it
  abbrev AtSame : List ℕ → List Assignment → List Assignment → Type 0
  AtSame ls as' bs = (m l : ℕ) (a : Assignment) → slice_get ls m ≡ Some l → slice_get as' m ≡ Some a → slice_get bs m ≡ Some (refolded_assignment at (first + l) a)

  same_append : (ls ms : List ℕ) (as' cs bs ds : List Assignment) → length ls ≡ length as' → length bs ≡ length as' → AtSame ls as' bs → AtSame ms cs ds → AtSame (ls ++ ms) (as' ++ cs) (bs ++ ds)
  same_append ls ms as' cs bs ds p q one two m l a e f = elim (from_append ls ms m l e) [
    | inl g ↦ elim (from_append as' cs m a f) [
      | inl h ↦ slice_left bs ds m (refolded_assignment at (first + l) a) (one m l a g h)
      | inr h ↦ absurd (out_of ls m h.0 l g (h.1 ∙ ap (λ u. u + h.0) (sym p)))
    ]
    | inr g ↦ elim (from_append as' cs m a f) [
      | inl h ↦ absurd (out_of as' m g.0 a h (g.1 ∙ ap (λ u. u + g.0) p))
      | inr h ↦
          let u : m ≡ length ls + g.0 = g.1 in
          let w : m ≡ length as' + h.0 = h.1 in
          let same : h.0 ≡ g.0 = omega arith in
          let there : m ≡ length bs + g.0 = omega arith in
          ap (slice_get (bs ++ ds)) there ∙ slice_right bs ds g.0 ∙ two g.0 l a g.2 (ap (slice_get cs) (sym same) ∙ h.2)
    ]
  ]

  walked_count : (x : Stmt) → (by_stmt (walk_step []) x).assigns ≡ length (by_stmt assignments_step x)
  walked_count x = walk_count [] x ∙ part_count x

  new_count : (x : Stmt) (n : ℕ) → length (by_stmt assignments_step (by_stmt (refold_step at) x n)) ≡ length (by_stmt assignments_step x)
  new_count x n = sym (walked_count (by_stmt (refold_step at) x n)) ∙ ap (λ w. w.assigns) (stmt_same at (walk_step []) (λ op array subs subs' e e'. refl) x n) ∙ walked_count x

  abbrev joined_under : List (ℕ → Stmt) → ℕ → List Assignment
  joined_under fs n = joined (map (by_stmt assignments_step) (each_under fs n))

  row_new_count : {k : _} (body : Row_of-Stmt k) (n : ℕ) → length (joined_under (by_each (refold_step at) body) n) ≡ length (joined (by_each assignments_step body))
  row_new_count end_of-Stmt n = refl
  row_new_count (more_of-Stmt x rest) n =
      length_append (by_stmt assignments_step (by_stmt (refold_step at) x n)) (joined_under (by_each (refold_step at) rest) n)
      ∙ ap (λ u. u + length (joined_under (by_each (refold_step at) rest) n)) (new_count x n)
      ∙ ap (λ u. length (by_stmt assignments_step x) + u) (row_new_count rest n)
      ∙ sym (length_append (by_stmt assignments_step x) (joined (by_each assignments_step rest)))

  mutual
    stmt_at : (x : Stmt) (d : ℕ) → T (by_stmt plain_step x) → AtSame (by_stmt loops_step x d) (by_stmt assignments_step x) (by_stmt assignments_step (by_stmt (refold_step at) x (first + d)))
    stmt_at (s.For' iter low rel high shape body) d plain m l a e f =
        let k : suc (first + d) ≡ first + suc d = omega arith in
        ap (λ bs. slice_get bs m) (for_here assignments_step iter low rel high (each_under (by_each (refold_step at) body) (suc (first + d))))
        ∙ ap (λ k. slice_get (joined_under (by_each (refold_step at) body) k) m) k
        ∙ row_at body (suc d) plain m l a e f
    stmt_at (s.If' cond shape body shape' other) d plain m l a e f =
        let both = both_true (all_true (by_each plain_step body)) (all_true (by_each plain_step other)) plain in
        ap (λ bs. slice_get bs m) (if_here assignments_step cond (each_under (by_each (refold_step at) body) (first + d)) (each_under (by_each (refold_step at) other) (first + d)))
        ∙ same_append (each_round (by_each loops_step body) d) (each_round (by_each loops_step other) d) (joined (by_each assignments_step body)) (joined (by_each assignments_step other))
        (joined_under (by_each (refold_step at) body) (first + d)) (joined_under (by_each (refold_step at) other) (first + d))
        (row_loops_count body d) (row_new_count body (first + d)) (row_at body d both.0) (row_at other d both.1) m l a e f
    stmt_at (s.Assign op array subs value) d plain zero l a e f =
        let mine : Assignment = record { op = op; array = array; subs = subs; value = value } in
        ap (λ k. Some (refolded_assignment at (first + k) mine)) (same_Some d l e) ∙ ap (λ b. Some (refolded_assignment at (first + l) b)) (same_Some mine a f)
    stmt_at (s.Assign op array subs value) d plain (suc m) l a e f = absurd (none-some l e)
    stmt_at (s.Block' [] shape body) d plain m l a e f =
        let k : (first + d) + 0 ≡ first + d = omega arith in
        ap (λ bs. slice_get bs m) (block_here assignments_step [] (each_under (by_each (refold_step at) body) ((first + d) + 0)))
        ∙ ap (λ k. slice_get (joined_under (by_each (refold_step at) body) k) m) k
        ∙ row_at body d plain m l a e f
    stmt_at (s.Block' (local ∷ locals) shape body) d plain m l a e f = absurd plain

    row_at : {n : _} (body : Row_of-Stmt n) (d : ℕ) → T (all_true (by_each plain_step body))
        → AtSame (each_round (by_each loops_step body) d) (joined (by_each assignments_step body)) (joined_under (by_each (refold_step at) body) (first + d))
    row_at end_of-Stmt d plain m l a e f = absurd (none-some l e)
    row_at (more_of-Stmt x rest) d plain m l a e f =
        let both = both_true (by_stmt plain_step x) (all_true (by_each plain_step rest)) plain in
        same_append (by_stmt loops_step x d) (each_round (by_each loops_step rest) d) (by_stmt assignments_step x) (joined (by_each assignments_step rest))
        (by_stmt assignments_step (by_stmt (refold_step at) x (first + d))) (joined_under (by_each (refold_step at) rest) (first + d))
        (loops_count x d) (new_count x (first + d)) (stmt_at x d both.0) (row_at rest d both.1) m l a e f

  body_at : (body : List Stmt) → T (all_true (map (by_stmt plain_step) body))
      → AtSame (each_round (map (by_stmt loops_step) body) 0) (flat_map (by_stmt assignments_step) body) (flat_map (by_stmt assignments_step) (each_under (map (by_stmt (refold_step at)) body) first))
  body_at body plain m l a e f =
      let z : first ≡ first + 0 = omega arith in
      ap (λ fs. slice_get (flat_map (by_stmt assignments_step) (each_under fs first)) m) (unrolled (refold_step at) body)
      ∙ ap (λ bs. slice_get bs m) (flat_is (by_stmt assignments_step) (each_under (by_each (refold_step at) (row_of body)) first))
      ∙ ap (λ k. slice_get (joined_under (by_each (refold_step at) (row_of body)) k) m) z
      ∙ row_at (row_of body) 0 (subst (λ bs. T (all_true bs)) (unrolled plain_step body) plain) m l a
      (ap (λ fs. slice_get (each_round fs 0) m) (sym (unrolled loops_step body)) ∙ e) (ap (λ as'. slice_get as' m) (sym (flat_unrolled assignments_step body)) ∙ f)

-- ---- The program

-- the assignment of an instance, before and after
pub record Both (at : Subscripts) (temps : List Decl) (program : Program) (p : List ℤ) (b : Instance) : Type 0 where
  pub assignment : Assignment
  pub before : slice_get (assignments program) b.statement ≡ Some assignment
  pub after : slice_get (assignments (refolded at temps program)) b.statement ≡ Some (refolded_assignment at (length (p ++ b.iterators)) assignment)

pub both_at : (at : Subscripts) (temps : List Decl) (program : Program) (p : List ℤ) (b : Instance) → IsTrue (has_no_locals program) → length p ≡ numbers_in program.params → IsIn b (trace program p)
    → Both at temps program p b
both_at at temps program p b plain count i =
    let first : ℕ = numbers_in program.params in
    let run = (instances_turn program p b).0 i in
    let a = has_assignment program b.statement run.0 run.1 in
    let long : first + length b.iterators ≡ length (p ++ b.iterators) = (let q : length (p ++ b.iterators) ≡ length p + length b.iterators = length_append p b.iterators in omega arith) in
    record {
      assignment = a.0;
      before = a.1;
      after = body_at at first program.body (subst T (sym plain) tt) b.statement (length b.iterators) a.0 (depth program p b i) a.1 ∙ ap (λ k. Some (refolded_assignment at k a.0)) long;
    }

pub refolded_stands : RefoldedStands
refolded_stands at temps program place p plain count stands =
    let shape = refolded_keeps_shape at temps program in
    record {
      bare = ap (λ b. b) shape.same_locals ∙ plain;
      same_trace = shape.same_trace p;
      same_effects = each;
    }
  where
    each : (b : Instance) → IsIn b (trace program p) → effect (refolded at temps program) p b ≡ at_place place (effect program p b)
    each b i =
        let names : List ℤ = p ++ b.iterators in
        let both = both_at at temps program p b plain count i in
        let a : Assignment = both.assignment in
        ap (λ o. effect_by o names) both.after ∙ refolded_effect at a names place (λ x j. stands b a x i both.before j) ∙ ap (λ o. at_place place (effect_by o names)) (sym both.before)
