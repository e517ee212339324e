-- With folds a statement is printed with few tokens and brackets more for each assignment in it.
use Rattle.std.proofs.Common.{◌≡◌, ℕ, suc, ◌+◌, ◌*◌, ◌≤◌, Bool, true, true≢false, nat_lt, List, [], ◌∷◌, ◌++◌, length, map, sym, ap, subst, ◌∙◌, arith, length-append}
use Rattle.std.specs.Prelude.{nat_le}
use Rattle.std.proofs.lemmas.Bool.{ltb-true, leb-true}
use Rattle.affc_ast.specs.declared.tree.ArrayId.{ArrayId}
use Rattle.affc_ast.specs.declared.tree.Compare.{Compare}
use Rattle.affc_ast.specs.declared.tree.Cond.{Cond}
use Rattle.affc_ast.specs.declared.tree.Program.{Program}
use Rattle.affc_ast.specs.declared.tree.Stmt.{Stmt}
use Rattle.affc_ast.specs.declared.tree.Stmt.TheVariants as s
use Rattle.affc_ast.specs.declared.tree.Stmt.TheBlock.{Row_of-Stmt, more_of-Stmt, end_of-Stmt}
use Rattle.affc_ast.specs.Pieces.{comparisons_of}
use Rattle.affc_ast.specs.Recursion.{by_stmt, by_each}
use Rattle.affc_ast.specs.Trace.{Assignment, assignments_step, joined}
use Rattle.affc_ast.proofs.Steps.{for_here, if_here, block_here}
use Rattle.affc_domain.specs.Accesses.{accesses_in, own_access, accesses_of}
use Rattle.affc_domain.specs.Plain.{IsPlain, is_plain, all_plain, plain_value, plain_cond, plain_assignment, is_upward, all_of, plain_step}
use Rattle.affc_domain.specs.Ranges.{number_ranges}
use Rattle.affc_domain.specs.Rounds.{Round, Loop, Test}
use Rattle.affc_domain.proofs.Lists.{both_true}
use Rattle.affc_cprint.specs.declared.brackets.Level.TheVariants.{Or}
use Rattle.affc_wellnamed.specs.declared.shape.Shape.{Shape}
use Rattle.affc_wellnamed.specs.Shape.{empty, nothing, both, line, worded, closed, all_behind, else_head, other_behind, for_head, if_head, block_head, assign_line, stmt_step, stmt_shape}
use Rattle.affc_wellnamed.proofs.ShapeParts.{larger_is}
use Rattle.affc_loops.specs.Trees.{moved, moved_cond, moved_value}
use Rattle.affc_loops.specs.Loops as joins
use Rattle.affc_loops.specs.Loops.{if_any, loop_tests, guarded, moved_assign}
use Rattle.affc_loopprint.specs.Short.{tested_shape}
use Rattle.affc_loopprint.proofs.Entries.{EachTwo, two_append}
use Rattle.affc_loopprint.proofs.ShapeGuards.{moved_line}
use Rattle.affc_basis.specs.declared.fold.Fold.{Fold}
use Rattle.affc_basis.specs.FoldLists.{AreFoldsIn}
use Rattle.affc_foldloops.specs.Refolds.{Subscripts, refold_value, refold_step, each_under}
use Rattle.affc_rewrite.specs.Rewrite.{folded_subscripts, KeepLimits}
use Rattle.affc_foldprint.proofs.Growth.{more_beside, level_more, access_more, value_more}

-- at most so many tokens more, a run longer by what an assignment's line may grow, three brackets more, and no more items
pub record Grows (t : ℕ) (r s : Shape) : Type 0 where
  pub tokens : r.tokens ≤ s.tokens + t
  pub run : r.run ≤ s.run + 8320
  pub depth : r.depth ≤ s.depth + 3
  pub items : r.items ≤ s.items

pub grows_self : (t : ℕ) (s : Shape) → Grows t s s
grows_self t s = record { tokens = omega arith; run = omega arith; depth = omega arith; items = omega arith }

pub grows_less : (t u : ℕ) (r s : Shape) → t ≤ u → Grows t r s → Grows u r s
grows_less t u r s l h = let a = h.tokens in record { tokens = omega (arith, a, l); run = h.run; depth = h.depth; items = h.items }

-- after nothing
grows_alone : (t : ℕ) (r s : Shape) → Grows (0 + t) r s → Grows t r s
grows_alone t r s h = grows_less (0 + t) t r s (omega arith) h

pub grows_both : (t u : ℕ) (a b x y : Shape) → Grows t a b → Grows u x y → Grows (t + u) (both a x) (both b y)
grows_both t u a b x y h k =
    let p = h.tokens in let q = h.run in let r = h.depth in let i = h.items in
    let p' = k.tokens in let q' = k.run in let r' = k.depth in let i' = k.items in
    let l = larger_is a.run x.run in let m = larger_is b.run y.run in let n = larger_is a.depth x.depth in let o = larger_is b.depth y.depth in
    record { tokens = omega (arith, p, p'); run = omega (arith, q, q', l, m); depth = omega (arith, r, r', n, o); items = omega (arith, i, i') }

pub grows_closed : (t : ℕ) (a b : Shape) → Grows t a b → Grows t (closed a) (closed b)
grows_closed t a b h =
    let q = grows_both t 0 a b (line 0 nothing) (line 0 nothing) h (grows_self 0 (line 0 nothing)) in
    let x = q.tokens in let d = q.depth in
    record { tokens = omega (arith, x); run = q.run; depth = omega (arith, d); items = q.items }

grows_worded : (t : ℕ) (a b : Shape) → Grows t a b → Grows t (worded a) (worded b)
grows_worded t a b h = let i = h.items in record { tokens = h.tokens; run = h.run; depth = h.depth; items = omega (arith, i) }

-- behind whatever stands before them
abbrev pub Behind : (t : ℕ) → List Shape → List Shape → Type 0
Behind t rs ss = (a b : Shape) (u : ℕ) → Grows u a b → Grows (u + t) (all_behind a rs) (all_behind b ss)

one_behind : (t : ℕ) (r s : Shape) → Grows t r s → Behind t (r ∷ []) (s ∷ [])
one_behind t r s h a b u g = grows_both u t a b r s g h

and_behind : (t u : ℕ) (r s : Shape) (rs ss : List Shape) → Grows t r s → Behind u rs ss → Behind (t + u) (r ∷ rs) (s ∷ ss)
and_behind t u r s rs ss h k a b w g = grows_less (w + t + u) (w + (t + u)) _ _ (omega arith) (k (both a r) (both b s) (w + t) (grows_both w t a b r s g h))

-- under a head
under_head : (t : ℕ) (head : Shape) (rs ss : List Shape) → Behind t rs ss → Grows t (worded (closed (all_behind head rs))) (worded (closed (all_behind head ss)))
under_head t head rs ss h = grows_worded t _ _ (grows_closed t _ _ (grows_alone t _ _ (h head head 0 (grows_self 0 head))))

module _ (prelude : Bool) (source : Program) (folds : List (ArrayId × Fold)) (plain : IsPlain source) (are : AreFoldsIn source folds) (limits : KeepLimits source folds) where
  abbrev fresh : Subscripts
  fresh = folded_subscripts source folds

  abbrev numbers : ℕ
  numbers = length (number_ranges source.params)

  abbrev shapes : List Stmt → List Shape
  shapes xs = map (stmt_shape prelude) xs

  abbrev LineGrows : Assignment → Assignment → Type 0
  LineGrows b a = Grows 8320 (assign_line prelude b.subs b.value) (assign_line prelude a.subs a.value)

  few_loads : (a : Assignment) → nat_le (length (accesses_of a)) 16 ≡ true → length (accesses_in a.value) ≤ 15
  few_loads a h =
      let l = leb-true (length (accesses_of a)) 16 h in
      let p = length-append (own_access a.op (a.array, a.subs)) (accesses_in a.value ++ (a.array, a.subs) ∷ []) in
      let q = length-append (accesses_in a.value) ((a.array, a.subs) ∷ []) in
      omega (arith, l, p, q)

  line_grows : (n : ℕ) (a : Assignment) → n ≤ 16 → plain_assignment n a ≡ true → Grows 8320 (assign_line prelude (fresh n a.array a.subs) (refold_value fresh n a.value)) (assign_line prelude a.subs a.value)
  line_grows n a short h =
      let p = both_true (nat_le (length (accesses_of a)) 16) _ h in
      let q = both_true (all_plain n a.subs) (plain_value a.value n) p.1 in
      let few = few_loads a p.0 in
      let x = access_more prelude source folds plain are limits n a.array a.subs (record { tokens = 1; depth = 0 }) short q.0 (omega arith) in
      let y = level_more prelude Or _ _ _ (value_more prelude source folds plain are limits n a.value short q.1) in
      let z = more_beside _ _ _ _ _ _ x y in
      let f = z.few in let d = z.shallow in
      record { tokens = omega (arith, f, few); run = omega (arith, f, few); depth = omega (arith, d); items = omega arith }

  -- what follows an `else`
  branch_grows : {m : _} (other : Row_of-Stmt m) (n t : ℕ) → Behind t (shapes (each_under (by_each (refold_step fresh) other) n)) (by_each (stmt_step prelude) other) → (a b : Shape) (u : ℕ) → Grows u a b
      → Grows (u + t) (other_behind a (shapes (each_under (by_each (refold_step fresh) other) n))) (other_behind b (by_each (stmt_step prelude) other))
  branch_grows end_of-Stmt n t f a b u g = f a b u g
  branch_grows (more_of-Stmt x rest) n t f a b u g =
      grows_less (u + 0 + t) (u + t) _ _ (omega arith) (f (both a else_head) (both b else_head) (u + 0) (grows_both u 0 a b else_head else_head g (grows_self 0 else_head)))

  mutual
    stmt_grows : (x : Stmt) (n k c : ℕ) → n ≡ numbers + k → k ≤ 6 → by_stmt (plain_step numbers) x k c ≡ true
        → Grows (8320 * length (by_stmt assignments_step x)) (stmt_shape prelude (by_stmt (refold_step fresh) x n)) (stmt_shape prelude x)
    stmt_grows (s.For' iter low rel high shape body) n k c e l g =
        let d = both_true (nat_lt k 6) _ g in
        let u = both_true (is_upward rel) _ d.1 in
        let a = both_true (is_plain (numbers + k) low) _ u.1 in
        let b = both_true (is_plain (numbers + k) high) _ a.1 in
        let less = ltb-true k 6 d.0 in
        subst (λ z. Grows (8320 * length (joined (by_each assignments_step body))) z (worded (closed (all_behind (for_head prelude low high) (by_each (stmt_step prelude) body)))))
        (sym (for_here (stmt_step prelude) iter low rel high (each_under (by_each (refold_step fresh) body) (suc n))))
        (under_head (8320 * length (joined (by_each assignments_step body))) (for_head prelude low high) (shapes (each_under (by_each (refold_step fresh) body) (suc n))) (by_each (stmt_step prelude) body)
        (row_grows body (suc n) (suc k) c (omega (arith, e)) (omega (arith, less)) b.1))
    stmt_grows (s.If' cond shape body shape' other) n k c e l g =
        let d = c + comparisons_of cond in
        let p = both_true (plain_cond (numbers + k) cond) _ g in
        let q = both_true (all_of (by_each (plain_step numbers) body) k d) (all_of (by_each (plain_step numbers) other) k d) p.1 in
        let ys = each_under (by_each (refold_step fresh) body) n in
        let zs = each_under (by_each (refold_step fresh) other) n in
        let here = 8320 * length (joined (by_each assignments_step body)) in
        let there = 8320 * length (joined (by_each assignments_step other)) in
        let count = length-append (joined (by_each assignments_step body)) (joined (by_each assignments_step other)) in
        let head = if_head prelude cond in
        let first = row_grows body n k d e l q.0 head head 0 (grows_self 0 head) in
        subst (λ z. Grows (8320 * length (joined (by_each assignments_step body) ++ joined (by_each assignments_step other))) z (worded (closed (other_behind (all_behind head (by_each (stmt_step prelude) body)) (by_each (stmt_step prelude) other)))))
        (sym (if_here (stmt_step prelude) cond ys zs))
        (grows_worded _ _ _ (grows_closed _ _ _ (grows_less (0 + here + there) _ _ _ (omega (arith, count)) (branch_grows other n there (row_grows other n k d e l q.1) _ _ (0 + here) first))))
    stmt_grows (s.Assign op array subs value) n k c e l g =
        let h = both_true (nat_le c 32) _ g in
        let few = plain.few_numbers in
        line_grows n (record { op = op; array = array; subs = subs; value = value }) (omega (arith, e, l, few)) (ap (λ m. plain_assignment m (record { op = op; array = array; subs = subs; value = value })) e ∙ h.1)
    stmt_grows (s.Block' [] shape body) n k c e l g =
        subst (λ z. Grows (8320 * length (joined (by_each assignments_step body))) z (closed (all_behind (block_head prelude []) (by_each (stmt_step prelude) body))))
        (sym (block_here (stmt_step prelude) [] (each_under (by_each (refold_step fresh) body) (n + 0))))
        (grows_closed _ _ _ (grows_alone _ _ _ (row_grows body (n + 0) k c (omega (arith, e)) l g (block_head prelude []) (block_head prelude []) 0 (grows_self 0 (block_head prelude [])))))
    stmt_grows (s.Block' (local ∷ locals) shape body) n k c e l g = absurd (true≢false (sym g))

    pub row_grows : {m : _} (body : Row_of-Stmt m) (n k c : ℕ) → n ≡ numbers + k → k ≤ 6 → all_of (by_each (plain_step numbers) body) k c ≡ true
        → Behind (8320 * length (joined (by_each assignments_step body))) (shapes (each_under (by_each (refold_step fresh) body) n)) (by_each (stmt_step prelude) body)
    row_grows end_of-Stmt n k c e l g a b u h = grows_less u (u + 8320 * 0) a b (omega arith) h
    row_grows (more_of-Stmt x rest) n k c e l g a b u h =
        let p = both_true (by_stmt (plain_step numbers) x k c) (all_of (by_each (plain_step numbers) rest) k c) g in
        let q = length-append (by_stmt assignments_step x) (joined (by_each assignments_step rest)) in
        grows_less (u + (8320 * length (by_stmt assignments_step x) + 8320 * length (joined (by_each assignments_step rest)))) _ _ _ (omega (arith, q))
        (and_behind (8320 * length (by_stmt assignments_step x)) (8320 * length (joined (by_each assignments_step rest))) (stmt_shape prelude (by_stmt (refold_step fresh) x n)) (stmt_shape prelude x)
        (shapes (each_under (by_each (refold_step fresh) rest) n)) (by_each (stmt_step prelude) rest) (stmt_grows x n k c e l p.0) (row_grows rest n k c e l p.1) a b u h)

  -- ---- Each assignment's line

  abbrev joined_under : List (ℕ → Stmt) → ℕ → List Assignment
  joined_under fs n = joined (map (by_stmt assignments_step) (each_under fs n))

  abbrev AllGrow : List Assignment → List Assignment → Type 0
  AllGrow bs as' = EachTwo LineGrows bs as'

  mutual
    stmt_lines : (x : Stmt) (n k c : ℕ) → n ≡ numbers + k → k ≤ 6 → by_stmt (plain_step numbers) x k c ≡ true → AllGrow (by_stmt assignments_step (by_stmt (refold_step fresh) x n)) (by_stmt assignments_step x)
    stmt_lines (s.For' iter low rel high shape body) n k c e l g =
        let d = both_true (nat_lt k 6) _ g in
        let u = both_true (is_upward rel) _ d.1 in
        let a = both_true (is_plain (numbers + k) low) _ u.1 in
        let b = both_true (is_plain (numbers + k) high) _ a.1 in
        let less = ltb-true k 6 d.0 in
        subst (λ z. AllGrow z (joined (by_each assignments_step body))) (sym (for_here assignments_step iter low rel high (each_under (by_each (refold_step fresh) body) (suc n))))
        (row_lines body (suc n) (suc k) c (omega (arith, e)) (omega (arith, less)) b.1)
    stmt_lines (s.If' cond shape body shape' other) n k c e l g =
        let d = c + comparisons_of cond in
        let p = both_true (plain_cond (numbers + k) cond) _ g in
        let q = both_true (all_of (by_each (plain_step numbers) body) k d) (all_of (by_each (plain_step numbers) other) k d) p.1 in
        subst (λ z. AllGrow z (joined (by_each assignments_step body) ++ joined (by_each assignments_step other)))
        (sym (if_here assignments_step cond (each_under (by_each (refold_step fresh) body) n) (each_under (by_each (refold_step fresh) other) n)))
        (two_append LineGrows (joined_under (by_each (refold_step fresh) body) n) (joined_under (by_each (refold_step fresh) other) n) (joined (by_each assignments_step body)) (joined (by_each assignments_step other))
        (row_lines body n k d e l q.0) (row_lines other n k d e l q.1))
    stmt_lines (s.Assign op array subs value) n k c e l g =
        let h = both_true (nat_le c 32) _ g in
        let few = plain.few_numbers in
        (line_grows n (record { op = op; array = array; subs = subs; value = value }) (omega (arith, e, l, few)) (ap (λ m. plain_assignment m (record { op = op; array = array; subs = subs; value = value })) e ∙ h.1), tt)
    stmt_lines (s.Block' [] shape body) n k c e l g =
        subst (λ z. AllGrow z (joined (by_each assignments_step body))) (sym (block_here assignments_step [] (each_under (by_each (refold_step fresh) body) (n + 0))))
        (row_lines body (n + 0) k c (omega (arith, e)) l g)
    stmt_lines (s.Block' (local ∷ locals) shape body) n k c e l g = absurd (true≢false (sym g))

    pub row_lines : {m : _} (body : Row_of-Stmt m) (n k c : ℕ) → n ≡ numbers + k → k ≤ 6 → all_of (by_each (plain_step numbers) body) k c ≡ true
        → AllGrow (joined_under (by_each (refold_step fresh) body) n) (joined (by_each assignments_step body))
    row_lines end_of-Stmt n k c e l g = tt
    row_lines (more_of-Stmt x rest) n k c e l g =
        let p = both_true (by_stmt (plain_step numbers) x k c) (all_of (by_each (plain_step numbers) rest) k c) g in
        two_append LineGrows (by_stmt assignments_step (by_stmt (refold_step fresh) x n)) (joined_under (by_each (refold_step fresh) rest) n) (by_stmt assignments_step x) (joined (by_each assignments_step rest))
        (stmt_lines x n k c e l p.0) (row_lines rest n k c e l p.1)

-- ---- Under the tests of a block

abbrev printed : List Stmt → List Shape
printed xs = map (stmt_shape true) xs

if_behind : (t : ℕ) (cond : Cond) (xs ys : List Stmt) → Behind t (printed xs) (printed ys) → Behind t (printed (s.If cond xs [] ∷ [])) (printed (s.If cond ys [] ∷ []))
if_behind t cond xs ys h =
    one_behind t (stmt_shape true (s.If cond xs [])) (stmt_shape true (s.If cond ys []))
    (subst (λ z. Grows t z (stmt_shape true (s.If cond ys []))) (sym (if_here (stmt_step true) cond xs []))
    (subst (λ z. Grows t (worded (closed (all_behind (if_head true cond) (printed xs)))) z) (sym (if_here (stmt_step true) cond ys [])) (under_head t (if_head true cond) (printed xs) (printed ys) h)))

any_behind : (t : ℕ) (cs : List Compare) (xs ys : List Stmt) → Behind t (printed xs) (printed ys) → Behind t (printed (if_any cs xs)) (printed (if_any cs ys))
any_behind t [] xs ys h = h
any_behind t (c ∷ cs) xs ys h = if_behind t (joins.all_of c cs) xs ys h

guarded_behind : (t first more from : ℕ) (rs : List Round) (xs ys : List Stmt) → Behind t (printed xs) (printed ys) → Behind t (printed (guarded first more from rs xs)) (printed (guarded first more from rs ys))
guarded_behind t first more from [] xs ys h = h
guarded_behind t first more from (Loop iter low rel high ∷ rs) xs ys h =
    any_behind t (loop_tests first more from low rel high) (guarded first more (suc from) rs xs) (guarded first more (suc from) rs ys) (guarded_behind t first more (suc from) rs xs ys h)
guarded_behind t first more from (Test cond ∷ rs) xs ys h =
    if_behind t (moved_cond first more cond) (guarded first more from rs xs) (guarded first more from rs ys) (guarded_behind t first more from rs xs ys h)

pub tested_grows : (first more from : ℕ) (rs : List Round) (b a : Assignment) → Grows 8320 (assign_line true b.subs b.value) (assign_line true a.subs a.value)
    → Grows 8320 (tested_shape first more from rs b) (tested_shape first more from rs a)
tested_grows first more from rs b a h =
    guarded_behind 8320 first more from rs (moved_assign first more b ∷ []) (moved_assign first more a ∷ [])
    (one_behind 8320 _ _
    (subst (λ z. Grows 8320 z (assign_line true (map (moved first more) a.subs) (moved_value first more a.value))) (sym (moved_line first more b.subs b.value))
    (subst (Grows 8320 (assign_line true b.subs b.value)) (sym (moved_line first more a.subs a.value)) h)))
    empty empty 0 (grows_self 0 empty)
