-- The effects of a program without locals are those of its trace's instances.
use Rattle.std.proofs.Common.{◌≡◌, ℕ, ◌+◌, ℤ, T, Bool, true, false, if◌then◌else◌, List, [], ◌∷◌, ◌++◌, Some, map, flat_map, sum_by, refl, sym, ap, subst, ◌∙◌, arith}
use Rattle.std.specs.Prelude.{slice_get}
use Rattle.affc_ast.specs.declared.tree.Stmt.{Stmt}
use Rattle.affc_ast.specs.declared.tree.Stmt.TheVariants as s
use Rattle.affc_ast.specs.declared.tree.Stmt.TheBlock.{Row_of-Stmt, more_of-Stmt, end_of-Stmt}
use Rattle.affc_ast.specs.declared.tree.Program.{Program}
use Rattle.affc_ast.specs.Store.{Element}
use Rattle.affc_ast.specs.declared.tree.Instance.{Instance}
use Rattle.affc_ast.specs.Fits.{is_true_at}
use Rattle.affc_ast.specs.Trace.{walk_step, in_walk_order, Assignment, assignments_step, assignments, trace}
use Rattle.affc_ast.specs.Recursion.{by_stmt, by_each}
use Rattle.affc_trace.specs.Law.{Effect}
use Rattle.affc_trace.specs.Effects.{effect_by, effect, each_of, effects_step, effects, plain_step, all_true, has_no_locals}
use Rattle.affc_trace.proofs.LastStores.{map_append, append_nil}
use Rattle.affc_trace.proofs.EndedReads.{append_assoc}
use Rattle.affc_trace.proofs.Runs.{PartsAt, parts_left, parts_right, part_count, parts_count, walk_count, walks_count, both_true}

map_flat_map : {A B C : Type 0} (f : B → C) (g : A → List B) (h : A → List C) (xs : List A) → ((x : A) → h x ≡ map f (g x)) → flat_map h xs ≡ map f (flat_map g xs)
map_flat_map f g h [] e = refl
map_flat_map f g h (x ∷ xs) e = ap (λ l. l ++ flat_map h xs) (e x) ∙ ap (λ l. map f (g x) ++ l) (map_flat_map f g h xs e) ∙ sym (map_append f (g x) (flat_map g xs))

map_if : {A B : Type 0} (f : A → B) (b : Bool) (xs us : List A) (ys vs : List B) → ys ≡ map f xs → vs ≡ map f us → (if b then ys else vs) ≡ map f (if b then xs else us)
map_if f true xs us ys vs e g = e
map_if f false xs us ys vs e g = g

-- what an instance does, where these are the assignments by their numbers
abbrev pub effect_in : List Assignment → List ℤ → Instance → Effect Element ℕ
effect_in all p b = effect_by (slice_get all b.statement) (p ++ b.iterators)

abbrev pub no_locals_in : List Stmt → Bool
no_locals_in body = all_true (map (by_stmt plain_step) body)

module _ (all : List Assignment) (p : List ℤ) where
  mutual
    unfolding PartsAt

    stmt_effects : (x : Stmt) (k : ℕ) (ts : List ℤ) → T (by_stmt plain_step x) → PartsAt all k (by_stmt assignments_step x)
        → by_stmt effects_step x (p ++ ts) ≡ map (effect_in all p) ((by_stmt (walk_step p) x).instances k ts)
    stmt_effects (s.For' iter low rel high shape body) k ts plain parts =
        map_flat_map (effect_in all p) (λ y. in_walk_order (by_each (walk_step p) body) k (ts ++ y ∷ [])) (λ y. each_of (by_each effects_step body) ((p ++ ts) ++ y ∷ [])) _ (λ y.
        ap (each_of (by_each effects_step body)) (append_assoc p ts (y ∷ [])) ∙ row_effects body k (ts ++ y ∷ []) plain parts)
    stmt_effects (s.If' cond shape body shape' other) k ts plain parts =
        let both = both_true (all_true (by_each plain_step body)) (all_true (by_each plain_step other)) plain in
        let first : List Assignment = flat_map (λ a. a) (by_each assignments_step body) in
        let second : List Assignment = flat_map (λ a. a) (by_each assignments_step other) in
        let right : PartsAt all (k + sum_by (λ w. w.assigns) (by_each (walk_step p) body)) second =
        subst (λ m. PartsAt all (k + m) second) (sym (walks_count p body ∙ parts_count body)) (parts_right all k first second parts) in
        map_if _ (is_true_at cond (p ++ ts)) _ _ _ _ (row_effects body k ts both.0 (parts_left all k first second parts)) (row_effects other (k + sum_by (λ w. w.assigns) (by_each (walk_step p) body)) ts both.1 right)
    stmt_effects (s.Assign op array subs value) k ts plain parts =
        let n : k + 0 ≡ k = omega arith in
        let found : Some (record { op = op; array = array; subs = subs; value = value }) ≡ slice_get all k = sym (ap (slice_get all) (sym n) ∙ parts 0 _ refl) in
        ap (λ o. effect_by o (p ++ ts) ∷ []) found
    stmt_effects (s.Block' [] shape body) k ts plain parts = row_effects body k ts plain parts
    stmt_effects (s.Block' (l ∷ ls) shape body) k ts plain parts = absurd plain

    row_effects : {n : _} (body : Row_of-Stmt n) (k : ℕ) (ts : List ℤ) → T (all_true (by_each plain_step body)) → PartsAt all k (flat_map (λ a. a) (by_each assignments_step body))
        → each_of (by_each effects_step body) (p ++ ts) ≡ map (effect_in all p) (in_walk_order (by_each (walk_step p) body) k ts)
    row_effects end_of-Stmt k ts plain parts = refl
    row_effects (more_of-Stmt x rest) k ts plain parts =
        let both = both_true (by_stmt plain_step x) (all_true (by_each plain_step rest)) plain in
        let others : List Assignment = flat_map (λ a. a) (by_each assignments_step rest) in
        let right : PartsAt all (k + (by_stmt (walk_step p) x).assigns) others =
        subst (λ m. PartsAt all (k + m) others) (sym (walk_count p x ∙ part_count x)) (parts_right all k (by_stmt assignments_step x) others parts) in
        ap (λ l. l ++ each_of (by_each effects_step rest) (p ++ ts)) (stmt_effects x k ts both.0 (parts_left all k _ others parts))
        ∙ ap (λ l. map (effect_in all p) ((by_stmt (walk_step p) x).instances k ts) ++ l) (row_effects rest (k + (by_stmt (walk_step p) x).assigns) ts both.1 right)
        ∙ sym (map_append (effect_in all p) ((by_stmt (walk_step p) x).instances k ts) _)

  list_effects : (body : List Stmt) (k : ℕ) (ts : List ℤ) → T (no_locals_in body) → PartsAt all k (flat_map (by_stmt assignments_step) body)
      → each_of (map (by_stmt effects_step) body) (p ++ ts) ≡ map (effect_in all p) (in_walk_order (map (by_stmt (walk_step p)) body) k ts)
  list_effects [] k ts plain parts = refl
  list_effects (x ∷ rest) k ts plain parts =
      let both = both_true (by_stmt plain_step x) (no_locals_in rest) plain in
      let others : List Assignment = flat_map (by_stmt assignments_step) rest in
      let right : PartsAt all (k + (by_stmt (walk_step p) x).assigns) others =
      subst (λ m. PartsAt all (k + m) others) (sym (walk_count p x ∙ part_count x)) (parts_right all k (by_stmt assignments_step x) others parts) in
      ap (λ l. l ++ each_of (map (by_stmt effects_step) rest) (p ++ ts)) (stmt_effects x k ts both.0 (parts_left all k _ others parts))
      ∙ ap (λ l. map (effect_in all p) ((by_stmt (walk_step p) x).instances k ts) ++ l) (list_effects rest (k + (by_stmt (walk_step p) x).assigns) ts both.1 right)
      ∙ sym (map_append (effect_in all p) ((by_stmt (walk_step p) x).instances k ts) _)

pub trace_effects : (program : Program) (p : List ℤ) → T (has_no_locals program) → effects program p ≡ map (effect program p) (trace program p)
unfolding PartsAt
trace_effects program p plain =
    let all : List Assignment = assignments program in
    ap (each_of (map (by_stmt effects_step) program.body)) (sym (append_nil p))
    ∙ list_effects all p program.body 0 [] plain (λ i a e. let n : 0 + i ≡ i = omega arith in ap (slice_get all) n ∙ e)
