-- An instance of the trace has one iterator for each loop round its statement.
use Rattle.std.proofs.Common.{◌≡◌, ℕ, suc, ◌+◌, ℤ, List, [], ◌∷◌, ◌++◌, length, map, sum_by, Some, refl, sym, ap, subst, ◌∙◌, inl, inr, arith}
use Rattle.std.specs.Prelude.{slice_get}
use Rattle.std.proofs.lemmas.List.Sums.{sum_by-cons}
use Rattle.affc_ast.specs.declared.tree.Instance.{Instance}
use Rattle.affc_ast.specs.declared.tree.Stmt.{Stmt}
use Rattle.affc_ast.specs.declared.tree.Stmt.TheVariants as s
use Rattle.affc_ast.specs.declared.tree.Stmt.TheBlock.{Row_of-Stmt, more_of-Stmt, end_of-Stmt}
use Rattle.affc_ast.specs.declared.tree.Program.{Program}
use Rattle.affc_ast.specs.Fits.{is_true_at}
use Rattle.affc_ast.specs.Trace.{walk_step, in_walk_order, trace}
use Rattle.affc_ast.specs.Recursion.{by_stmt, by_each}
use Rattle.affc_trace.specs.Law.{IsIn}
use Rattle.affc_trace.specs.Target.{each_round, loops_step, loops_round}
use Rattle.affc_trace.proofs.Runs.{slice_left, slice_right, length_append}
use Rattle.affc_trace.proofs.Once.{in_append, in_flat_map, if_in}

-- the statement is the m-th from the k-th on, and has as many loops round it as the instance has iterators
abbrev Deep : List ℕ → ℕ → Instance → Type 0
Deep depths k b = (m : ℕ) × (b.statement ≡ k + m) × (slice_get depths m ≡ Some (length b.iterators))

length_push : (ts : List ℤ) (y : ℤ) → length (ts ++ y ∷ []) ≡ suc (length ts)
length_push [] y = refl
length_push (t ∷ ts) y = ap suc (length_push ts y)

module _ (p : List ℤ) where
  mutual
    assigns_are : (x : Stmt) (depth : ℕ) → length (by_stmt loops_step x depth) ≡ (by_stmt (walk_step p) x).assigns
    assigns_are (s.For' iter low rel high shape body) depth = row_assigns_are body (suc depth)
    assigns_are (s.If' cond shape body shape' other) depth =
        length_append (each_round (by_each loops_step body) depth) (each_round (by_each loops_step other) depth)
        ∙ ap (λ u. u + length (each_round (by_each loops_step other) depth)) (row_assigns_are body depth)
        ∙ ap (λ u. sum_by (λ w. w.assigns) (by_each (walk_step p) body) + u) (row_assigns_are other depth)
    assigns_are (s.Assign op array subs value) depth = refl
    assigns_are (s.Block' locals shape body) depth = row_assigns_are body depth

    row_assigns_are : {n : _} (body : Row_of-Stmt n) (depth : ℕ) → length (each_round (by_each loops_step body) depth) ≡ sum_by (λ w. w.assigns) (by_each (walk_step p) body)
    row_assigns_are end_of-Stmt depth = refl
    row_assigns_are (more_of-Stmt x rest) depth =
        length_append (by_stmt loops_step x depth) (each_round (by_each loops_step rest) depth)
        ∙ ap (λ u. u + length (each_round (by_each loops_step rest) depth)) (assigns_are x depth)
        ∙ ap (λ u. (by_stmt (walk_step p) x).assigns + u) (row_assigns_are rest depth)
        ∙ sym (sum_by-cons (λ w. w.assigns) (by_stmt (walk_step p) x) (by_each (walk_step p) rest))

  first_of : (xs ys : List ℕ) (k : ℕ) (b : Instance) → Deep xs k b → Deep (xs ++ ys) k b
  first_of xs ys k b d = (d.0, d.1, slice_left xs ys d.0 _ d.2)

  second_of : (xs ys : List ℕ) (k n : ℕ) (b : Instance) → length xs ≡ n → Deep ys (k + n) b → Deep (xs ++ ys) k b
  second_of xs ys k n b e d =
      let q : b.statement ≡ (k + n) + d.0 = d.1 in
      let at : slice_get (xs ++ ys) (length xs + d.0) ≡ slice_get ys d.0 = slice_right xs ys d.0 in
      (length xs + d.0, omega arith, at ∙ d.2)

  mutual
    deep : (x : Stmt) (k : ℕ) (ts : List ℤ) (b : Instance) → IsIn b ((by_stmt (walk_step p) x).instances k ts) → Deep (by_stmt loops_step x (length ts)) k b
    deep (s.For' iter low rel high shape body) k ts b i =
        let r = in_flat_map (λ y. in_walk_order (by_each (walk_step p) body) k (ts ++ y ∷ [])) _ b i in
        subst (λ depth. Deep (each_round (by_each loops_step body) depth) k b) (length_push ts r.0) (row_deep body k (ts ++ r.0 ∷ []) b r.2)
    deep (s.If' cond shape body shape' other) k ts b i = elim (if_in p (is_true_at cond (p ++ ts)) b _ _ i) [
      | inl j ↦ first_of (each_round (by_each loops_step body) (length ts)) _ k b (row_deep body k ts b j.1)
      | inr j ↦ second_of (each_round (by_each loops_step body) (length ts)) _ k (sum_by (λ w. w.assigns) (by_each (walk_step p) body)) b (row_assigns_are body (length ts)) (row_deep other (k + sum_by (λ w. w.assigns) (by_each (walk_step p) body)) ts b j.1)
    ]
    deep (s.Assign op array subs value) k ts b (inl e) = (0, ap (λ u. u.statement) e ∙ omega arith, ap (λ u. Some (length u.iterators)) (sym e))
    deep (s.Assign op array subs value) k ts b (inr i) = absurd i
    deep (s.Block' locals shape body) k ts b i = row_deep body k ts b i

    row_deep : {n : _} (body : Row_of-Stmt n) (k : ℕ) (ts : List ℤ) (b : Instance) → IsIn b (in_walk_order (by_each (walk_step p) body) k ts) → Deep (each_round (by_each loops_step body) (length ts)) k b
    row_deep end_of-Stmt k ts b i = absurd i
    row_deep (more_of-Stmt x rest) k ts b i = elim (in_append ((by_stmt (walk_step p) x).instances k ts) _ b i) [
      | inl j ↦ first_of (by_stmt loops_step x (length ts)) _ k b (deep x k ts b j)
      | inr j ↦ second_of (by_stmt loops_step x (length ts)) _ k (by_stmt (walk_step p) x).assigns b (assigns_are x (length ts)) (row_deep rest (k + (by_stmt (walk_step p) x).assigns) ts b j)
    ]

  list_deep : (body : List Stmt) (k : ℕ) (ts : List ℤ) (b : Instance) → IsIn b (in_walk_order (map (by_stmt (walk_step p)) body) k ts) → Deep (each_round (map (by_stmt loops_step) body) (length ts)) k b
  list_deep [] k ts b i = absurd i
  list_deep (x ∷ rest) k ts b i = elim (in_append ((by_stmt (walk_step p) x).instances k ts) _ b i) [
    | inl j ↦ first_of (by_stmt loops_step x (length ts)) _ k b (deep x k ts b j)
    | inr j ↦ second_of (by_stmt loops_step x (length ts)) _ k (by_stmt (walk_step p) x).assigns b (assigns_are x (length ts)) (list_deep rest (k + (by_stmt (walk_step p) x).assigns) ts b j)
  ]

pub depth : (program : Program) (p : List ℤ) (b : Instance) → IsIn b (trace program p) → slice_get (loops_round program) b.statement ≡ Some (length b.iterators)
depth program p b i =
    let d = list_deep p program.body 0 [] b i in
    let e : b.statement ≡ d.0 = d.1 ∙ omega arith in
    ap (slice_get (loops_round program)) e ∙ d.2
