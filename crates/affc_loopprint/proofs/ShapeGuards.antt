-- The loops and conditions round a statement are printed, as tests round its assignment, with no more tokens and brackets than in their program.
use Rattle.std.proofs.Common.{◌≡◌, ℕ, zero, suc, ◌+◌, ◌-◌, ◌*◌, ◌≤◌, ◌&&◌, Bool, true, true≢false, IsTrue, max, List, [], ◌∷◌, ◌++◌, length, map, Some, refl, sym, ap, subst, ◌∙◌, arith, length-append}
use Rattle.std.specs.Prelude.{slice_get}
use Rattle.std.proofs.lemmas.List.{append-nil}
use Rattle.std.proofs.lemmas.Option.{none-some, same_Some}
use Rattle.affc_ast.specs.declared.tree.Compare.{Compare}
use Rattle.affc_ast.specs.declared.tree.Cond.{Cond}
use Rattle.affc_ast.specs.declared.tree.Ix.{Ix}
use Rattle.affc_ast.specs.declared.tree.Rel.{Rel}
use Rattle.affc_ast.specs.declared.tree.Rel.TheVariants.{LessEqual}
use Rattle.affc_ast.specs.declared.tree.Local.{Local}
use Rattle.affc_ast.specs.declared.tree.Program.{Program}
use Rattle.affc_ast.specs.declared.tree.Stmt.{Stmt}
use Rattle.affc_ast.specs.declared.tree.Stmt.TheOpen as layer
use Rattle.affc_ast.specs.declared.tree.Stmt.TheVariants as s
use Rattle.affc_ast.specs.declared.tree.Stmt.TheVariants.{If}
use Rattle.affc_ast.specs.declared.tree.Stmt.TheBlock.{Row_of-Stmt, more_of-Stmt, end_of-Stmt}
use Rattle.affc_ast.specs.declared.tree.Val.{Val}
use Rattle.affc_ast.specs.Denials.{denied}
use Rattle.affc_ast.specs.Fits.{all_true}
use Rattle.affc_ast.specs.Joined.{is_joined, joined_tests_step, has_joined_tests}
use Rattle.affc_ast.specs.Recursion.{by_stmt, by_each}
use Rattle.affc_ast.specs.Trace.{Assignment, assignments_step, assignments, joined}
use Rattle.affc_ast.proofs.Steps.{row_of, unrolled, flat_unrolled}
use Rattle.affc_cprint.specs.declared.brackets.Place.TheVariants.{Whole}
use Rattle.affc_cprint.specs.declared.brackets.Level.TheVariants.{Or}
use Rattle.affc_cprint.proofs.ReadBackValues.{Each}
use Rattle.affc_wellnamed.specs.declared.shape.Extent.{Extent}
use Rattle.affc_wellnamed.specs.declared.shape.CondExtent.{CondExtent}
use Rattle.affc_wellnamed.specs.declared.shape.Shape.{Shape}
use Rattle.affc_wellnamed.specs.Shape.{nothing, beside, placed, whole, cond_extent, at_level, both, line, worded, closed, all_behind, other_behind, assign_line, block_head, stmt_step, stmt_shape}
use Rattle.affc_wellnamed.proofs.ShapeParts.{larger_is}
use Rattle.affc_wellnamed.proofs.ShapeStatements.{none}
use Rattle.affc_wellnamed.proofs.ShapeStatements as numbers
use Rattle.affc_domain.specs.Rounds.{Round, Loop, Test, rounds_step, rounds}
use Rattle.affc_domain.proofs.Lists.{from_map, length_map, both_true}
use Rattle.affc_domain.proofs.PlainLemmas.{rounds_of_each}
use Rattle.affc_loopprint.proofs.reprint.Rows.{under_both, under_tokens}
use Rattle.affc_loopprint.proofs.reprint.Statements.{numbers_of, total}
use Rattle.affc_loops.specs.Trees.{name_at, moved, moved_cond, moved_value}
use Rattle.affc_loops.specs.Loops.{all_of, if_any, loop_tests, guarded, moved_assign}
use Rattle.affc_loopprint.proofs.ShapeMoved.{two, moved_extent, moved_dims, moved_cond_extent, moved_val}
use Rattle.affc_loopprint.proofs.ShapeForms.{Few}
use Rattle.affc_loopprint.proofs.ShapeRooms.{Room, Small, small_less, room_more, room_under, each_so, behind_parts, closed_parts, printed, under_test, if_most, all_of_within}

-- ---- Loops

abbrev head_of : (low high : Extent) → Shape
head_of low high = both (both (line 5 low) (line 2 high)) (line 3 nothing)

abbrev Bodies : (t r d : ℕ) → List Shape → Type 0
Bodies t r d ss = Each (λ s. Room t r d (numbers_of s)) ss

record LoopParts (t r d : ℕ) (low high : Extent) (ss : List Shape) : Type 0 where
  some : 1 ≤ d
  tokens : low.tokens + high.tokens + 14 ≤ t
  low_run : low.tokens + 5 ≤ r
  high_run : high.tokens + 2 ≤ r
  low_deep : low.depth + 1 ≤ d
  high_deep : high.depth + 1 ≤ d
  bodies : Bodies (t - (low.tokens + high.tokens + 14)) r (d - 1) ss

record HeadParts (t r d : ℕ) (low high : Extent) : Type 0 where
  tokens : low.tokens + high.tokens + 13 ≤ t
  long : low.tokens + high.tokens + 13 ≡ (head_of low high).tokens
  low_run : low.tokens + 5 ≤ r
  high_run : high.tokens + 2 ≤ r
  low_deep : low.depth ≤ d
  high_deep : high.depth ≤ d

abbrev ends_of : (low high : Extent) → Shape
ends_of low high = both (line 5 low) (line 2 high)

head_parts : (t r d : ℕ) (low high : Extent) → Small t r d → Room t r d (numbers_of (head_of low high)) → HeadParts t r d low high
head_parts t r d low high m h =
    let i = m.tokens in let j = m.run in
    let x = h.tokens in let y = h.run in let z = h.depth in
    let k = larger_is (ends_of low high).run (line 3 nothing).run in let l = larger_is (ends_of low high).depth (line 3 nothing).depth in
    let k' = larger_is (line 5 low).run (line 2 high).run in let l' = larger_is (line 5 low).depth (line 2 high).depth in
    record {
      tokens = omega (arith, i, x);
      long = omega (arith, i, x);
      low_run = omega (arith, j, y, k, k');
      high_run = omega (arith, j, y, k, k');
      low_deep = omega (arith, z, l, l');
      high_deep = omega (arith, z, l, l');
    }

loop_parts : (t r d : ℕ) (low high : Extent) (ss : List Shape) → Small t r d → Room t r d (numbers_of (worded (closed (all_behind (head_of low high) ss)))) → LoopParts t r d low high ss
loop_parts t r d low high ss m h =
    let c = closed_parts t r d (all_behind (head_of low high) ss) m (record { tokens = h.tokens; run = h.run; depth = h.depth }) in
    let m' = small_less t r d (t - 1) (d - 1) (omega arith) (omega arith) m in
    let q = behind_parts (t - 1) r (d - 1) (head_of low high) ss m' c.room in
    let p = head_parts (t - 1) r (d - 1) low high m' q.0 in
    let some = c.some_depth in let some' = c.some_tokens in
    let x = p.tokens in let long = p.long in let y = p.low_deep in let z = p.high_deep in
    let less : t - 1 - (head_of low high).tokens ≤ t - (low.tokens + high.tokens + 14) = omega (arith, long) in
    record {
      some = some;
      tokens = omega (arith, x, some');
      low_run = p.low_run;
      high_run = p.high_run;
      low_deep = omega (arith, y, some);
      high_deep = omega (arith, z, some);
      bodies = each_so _ _ ss (λ u k. room_more (t - 1 - (head_of low high).tokens) r (d - 1) (t - (low.tokens + high.tokens + 14)) r (d - 1) (numbers_of u) less (omega arith) (omega arith) k) q.1;
    }

one_few : Few 1 0 (record { tokens = 1; depth = 0 })
one_few = record { few = omega arith; shallow = omega arith }

self_few : (e : Extent) → Few e.tokens e.depth e
self_few e = record { few = omega arith; shallow = omega arith }

module _ (first more from : ℕ) where
  abbrev low_test : Ix → Compare
  low_test low = record { rel = LessEqual; left = moved first more low; right = name_at from }

  abbrev high_test : Rel → Ix → Compare
  high_test rel high = record { rel = rel; left = name_at from; right = moved first more high }

  abbrev tests_extent : Ix → Rel → Ix → Extent
  tests_extent low rel high = (cond_extent true (all_of (low_test low) (high_test rel high ∷ []))).extent

  tests_few : (iter : List ℕ) (low : Ix) (rel : Rel) (high : Ix) → Few ((whole true low).tokens + (whole true high).tokens + 5) (max (whole true low).depth (whole true high).depth) (tests_extent low rel high)
  tests_few iter low rel high =
      let a = whole true low in
      let b = whole true high in
      let low_few : Few a.tokens a.depth (whole true (moved first more low)) = subst (λ z. Few a.tokens a.depth (placed Whole z)) (sym (moved_extent true first more low)) (self_few a) in
      let high_few : Few b.tokens b.depth (whole true (moved first more high)) = subst (λ z. Few b.tokens b.depth (placed Whole z)) (sym (moved_extent true first more high)) (self_few b) in
      let above = under_tokens 1 0 _ _ _ (under_both 0 _ _ 0 _ _ (whole true (moved first more low)) (record { tokens = 1; depth = 0 }) low_few one_few) in
      let below = under_tokens 1 0 _ _ _ (under_both 0 _ _ 0 _ _ (record { tokens = 1; depth = 0 }) (whole true (moved first more high)) one_few high_few) in
      let u = all_of_within (low_test low) (high_test rel high ∷ []) in
      let f = u.few in let g = u.shallow in
      let h = above.few in let i = above.shallow in let j = below.few in let k = below.shallow in
      record { few = omega (arith, f, h, j); shallow = omega (arith, g, i, k) }

  loop_room : (t r d : ℕ) (iter : List ℕ) (low : Ix) (rel : Rel) (high : Ix) (ss : List Shape) (body : List Stmt) → LoopParts t r d (whole true low) (whole true high) ss
      → Room (t - ((whole true low).tokens + (whole true high).tokens + 14)) (2 * r + 1) (d - 1) (total (printed body)) → Room t (2 * r + 1) d (total (printed (if_any (loop_tests first more from low rel high) body)))
  loop_room t r d iter low rel high ss body p h =
      let c = tests_extent low rel high in
      let u = tests_few iter low rel high in
      let f = u.few in let g = u.shallow in
      let some = p.some in let i = p.tokens in let j = p.low_run in let k = p.high_run in let l = p.low_deep in let n = p.high_deep in
      let x = h.tokens in let y = h.run in let z = h.depth in
      room_under t (2 * r + 1) d _ (under_test c (total (printed body))) (if_most (all_of (low_test low) (high_test rel high ∷ [])) body)
      (record { tokens = omega (arith, f, i, x); run = omega (arith, f, j, k, y); depth = omega (arith, g, some, l, n, z) })

-- ---- Conditions

record TestParts (t r d : ℕ) (c : Extent) (ss : List Shape) : Type 0 where
  some : 1 ≤ d
  tokens : c.tokens + 5 ≤ t
  run : c.tokens + 3 ≤ r
  deep : c.depth + 1 ≤ d
  bodies : Bodies (t - (c.tokens + 5)) r (d - 1) ss

test_parts : (t r d : ℕ) (c : Extent) (ss : List Shape) → Small t r d → Room t r d (numbers_of (worded (closed (all_behind (line 3 c) ss)))) → TestParts t r d c ss
test_parts t r d e ss m h =
    let c = closed_parts t r d (all_behind (line 3 e) ss) m (record { tokens = h.tokens; run = h.run; depth = h.depth }) in
    let m' = small_less t r d (t - 1) (d - 1) (omega arith) (omega arith) m in
    let q = behind_parts (t - 1) r (d - 1) (line 3 e) ss m' c.room in
    let f = q.0 in
    let some = c.some_depth in let some' = c.some_tokens in
    let i = m.tokens in let j = m.run in
    let x = f.tokens in let y = f.run in let z = f.depth in
    let less : t - 1 - (line 3 e).tokens ≤ t - (e.tokens + 5) = omega (arith, i, x, some') in
    record {
      some = some;
      tokens = omega (arith, i, x, some');
      run = omega (arith, j, y);
      deep = omega (arith, z, some);
      bodies = each_so _ _ ss (λ u k. room_more (t - 1 - (line 3 e).tokens) r (d - 1) (t - (e.tokens + 5)) r (d - 1) (numbers_of u) less (omega arith) (omega arith) k) q.1;
    }

module _ (first more : ℕ) where
  test_room : (t r d : ℕ) (c : Cond) (ss : List Shape) (body : List Stmt) → TestParts t r d (cond_extent true c).extent ss
      → Room (t - ((cond_extent true c).extent.tokens + 5)) (2 * r + 1) (d - 1) (total (printed body)) → Room t (2 * r + 1) d (total (printed (If (moved_cond first more c) body [] ∷ [])))
  test_room t r d c ss body p h =
      let some = p.some in let i = p.tokens in let j = p.run in let k = p.deep in
      let x = h.tokens in let y = h.run in let z = h.depth in
      room_under t (2 * r + 1) d _ (under_test (cond_extent true (moved_cond first more c)).extent (total (printed body))) (if_most (moved_cond first more c) body)
      (subst (λ (w : CondExtent). Room t (2 * r + 1) d (under_test w.extent (total (printed body)))) (sym (moved_cond_extent true first more c))
      (record { tokens = omega (arith, i, x); run = omega (arith, j, y); depth = omega (arith, k, some, z) }))

  -- ---- Assignments

  pub moved_line : (subs : List Ix) (v : Val) → assign_line true (map (moved first more) subs) (moved_value first more v) ≡ assign_line true subs v
  moved_line subs v =
      two (λ x y. line 1 (beside x (at_level Or y))) _ _ _ _ (moved_dims true first more (record { tokens = 1; depth = 0 }) subs) (moved_val true first more v)

  assign_room : (t r d : ℕ) (a : Assignment) → Room t r d (numbers_of (assign_line true a.subs a.value)) → Room t (2 * r + 1) d (total (printed (moved_assign first more a ∷ [])))
  assign_room t r d a h =
      let x = h.tokens in let y = h.run in let z = h.depth in
      subst (λ w. Room t (2 * r + 1) d (numbers.joined (numbers_of w) none)) (sym (moved_line a.subs a.value)) (record { tokens = omega (arith, x); run = omega (arith, y); depth = omega (arith, z) })

-- ---- Statements

-- what stands round an assignment fits with it, wherever its names stand
abbrev FitsThere : (t r d : ℕ) → List Round → Assignment → Type 0
FitsThere t r d rs a = (first more from : ℕ) → Room t (2 * r + 1) d (total (printed (guarded first more from rs (moved_assign first more a ∷ []))))

abbrev AllFit : (t r d : ℕ) → List (List Round) → List Assignment → Type 0
AllFit t r d rss as' = (n : ℕ) (rs : List Round) (a : Assignment) → slice_get rss n ≡ Some rs → slice_get as' n ≡ Some a → FitsThere t r d rs a

append_fit : (t r d : ℕ) (xs ys : List (List Round)) (as' bs : List Assignment) → length xs ≡ length as' → AllFit t r d xs as' → AllFit t r d ys bs → AllFit t r d (xs ++ ys) (as' ++ bs)
append_fit t r d [] ys [] bs long f g n rs b e h = g n rs b e h
append_fit t r d [] ys (a ∷ as') bs long f g n rs b e h = absurd (omega (arith, long))
append_fit t r d (x ∷ xs) ys [] bs long f g n rs b e h = absurd (omega (arith, long))
append_fit t r d (x ∷ xs) ys (a ∷ as') bs long f g zero rs b e h = f 0 rs b e h
append_fit t r d (x ∷ xs) ys (a ∷ as') bs long f g (suc n) rs b e h = append_fit t r d xs ys as' bs (omega (arith, long)) (λ m. f (suc m)) g n rs b e h

alone_fits : (t r d : ℕ) (a : Assignment) → Room t r d (numbers_of (assign_line true a.subs a.value)) → AllFit t r d ([] ∷ []) (a ∷ [])
alone_fits t r d a h zero rs b e f first more from =
    subst (λ qs. Room t (2 * r + 1) d (total (printed (guarded first more from qs (moved_assign first more b ∷ []))))) (same_Some [] rs e)
    (subst (λ c. Room t (2 * r + 1) d (total (printed (moved_assign first more c ∷ [])))) (same_Some a b f) (assign_room first more t r d a h))
alone_fits t r d a h (suc n) rs b e f first more from = absurd (none-some rs e)

loop_fits : (t r d : ℕ) (iter : List ℕ) (low : Ix) (rel : Rel) (high : Ix) (ss : List Shape) (rss : List (List Round)) (as' : List Assignment) → LoopParts t r d (whole true low) (whole true high) ss
    → AllFit (t - ((whole true low).tokens + (whole true high).tokens + 14)) r (d - 1) rss as' → AllFit t r d (map (λ rs. Loop iter low rel high ∷ rs) rss) as'
loop_fits t r d iter low rel high ss rss as' p fit n rs a e f first more from =
    let g = from_map (λ qs. Loop iter low rel high ∷ qs) rss n rs e in
    subst (λ qs. Room t (2 * r + 1) d (total (printed (guarded first more from qs (moved_assign first more a ∷ []))))) (sym g.2)
    (loop_room first more from t r d iter low rel high ss (guarded first more (suc from) g.0 (moved_assign first more a ∷ [])) p (fit n g.0 a g.1 f first more (suc from)))

test_fits : (t r d : ℕ) (c : Cond) (ss : List Shape) (rss : List (List Round)) (as' : List Assignment) → TestParts t r d (cond_extent true c).extent ss
    → AllFit (t - ((cond_extent true c).extent.tokens + 5)) r (d - 1) rss as' → AllFit t r d (map (λ rs. Test c ∷ rs) rss) as'
test_fits t r d c ss rss as' p fit n rs a e f first more from =
    let g = from_map (λ qs. Test c ∷ qs) rss n rs e in
    subst (λ qs. Room t (2 * r + 1) d (total (printed (guarded first more from qs (moved_assign first more a ∷ []))))) (sym g.2)
    (test_room first more t r d c ss (guarded first more from g.0 (moved_assign first more a ∷ [])) p (fit n g.0 a g.1 f first more from))

block_bodies : (t r d : ℕ) (ls : List Local) (ss : List Shape) → Small t r d → Room t r d (numbers_of (closed (all_behind (block_head true ls) ss))) → Bodies t r d ss
block_bodies t r d ls ss m h =
    let a = block_head true ls in
    let c = closed_parts t r d (all_behind a ss) m h in
    let q = behind_parts (t - 1) r (d - 1) a ss (small_less t r d (t - 1) (d - 1) (omega arith) (omega arith) m) c.room in
    each_so _ _ ss (λ u k. room_more (t - 1 - a.tokens) r (d - 1) t r d (numbers_of u) (omega arith) (omega arith) (omega arith) k) q.1

-- a program of this statement alone
abbrev alone : Stmt → Program
alone x = record { name = []; params = []; context = []; temps = []; body = x ∷ []; prelude = true }

same_count : (x : Stmt) → length (by_stmt rounds_step x) ≡ length (by_stmt assignments_step x)
same_count x = ap length (sym (append-nil (by_stmt rounds_step x))) ∙ rounds_of_each (alone x) ∙ ap length (append-nil (by_stmt assignments_step x))

row_count : {n : _} (body : Row_of-Stmt n) → length (joined (by_each rounds_step body)) ≡ length (joined (by_each assignments_step body))
row_count end_of-Stmt = refl
row_count (more_of-Stmt x rest) =
    let a = same_count x in let b = row_count rest in
    let l = length-append (by_stmt rounds_step x) (joined (by_each rounds_step rest)) in let m = length-append (by_stmt assignments_step x) (joined (by_each assignments_step rest)) in
    omega (arith, a, b, l, m)

without_other : {n : _} (c : Cond) (bs : List Bool) (other : Row_of-Stmt n) → IsTrue (joined_tests_step (layer.If c bs (by_each joined_tests_step other)))
    → IsTrue (is_joined c && all_true bs) × (joined (by_each rounds_step other) ≡ []) × (joined (by_each assignments_step other) ≡ []) × (by_each (stmt_step true) other ≡ [])
without_other c bs end_of-Stmt j = (j, refl, refl, refl)
without_other c bs (more_of-Stmt x rest) j = absurd (true≢false (sym j))

-- a program without `else` whose conditions are joined comparisons
mutual
  stmt_fits : (x : Stmt) (t r d : ℕ) → Small t r d → IsTrue (by_stmt joined_tests_step x) → Room t r d (numbers_of (stmt_shape true x)) → AllFit t r d (by_stmt rounds_step x) (by_stmt assignments_step x)
  stmt_fits (s.For' iter low rel high shape body) t r d m j h =
      let p = loop_parts t r d (whole true low) (whole true high) (by_each (stmt_step true) body) m h in
      loop_fits t r d iter low rel high (by_each (stmt_step true) body) (joined (by_each rounds_step body)) (joined (by_each assignments_step body)) p
      (row_fits body _ r (d - 1) (small_less t r d _ (d - 1) (omega arith) (omega arith) m) j p.bodies)
  stmt_fits (s.If' c shape body shape' other) t r d m j h =
      let e = (cond_extent true c).extent in
      let ss = by_each (stmt_step true) body in
      let rss = joined (by_each rounds_step body) in
      let as' = joined (by_each assignments_step body) in
      let w = without_other c (by_each joined_tests_step body) other j in
      let b = both_true (is_joined c) (all_true (by_each joined_tests_step body)) w.0 in
      let p = test_parts t r d e ss m (subst (λ zs. Room t r d (numbers_of (worded (closed (other_behind (all_behind (line 3 e) ss) zs))))) w.3 h) in
      subst (λ qss. AllFit t r d (map (λ rs. Test c ∷ rs) rss ++ map (λ rs. Test (denied c) ∷ rs) qss) (as' ++ joined (by_each assignments_step other))) (sym w.1)
      (subst (λ bs. AllFit t r d (map (λ rs. Test c ∷ rs) rss ++ []) (as' ++ bs)) (sym w.2)
      (append_fit t r d (map (λ rs. Test c ∷ rs) rss) [] as' [] (length_map (λ rs. Test c ∷ rs) rss ∙ row_count body)
      (test_fits t r d c ss rss as' p (row_fits body _ r (d - 1) (small_less t r d _ (d - 1) (omega arith) (omega arith) m) b.1 p.bodies)) (λ n rs a e f first more from. absurd (none-some rs e))))
  stmt_fits (s.Assign op array subs value) t r d m j h = alone_fits t r d (record { op = op; array = array; subs = subs; value = value }) h
  stmt_fits (s.Block' ls shape body) t r d m j h = row_fits body t r d m j (block_bodies t r d ls (by_each (stmt_step true) body) m h)

  row_fits : {n : _} (body : Row_of-Stmt n) (t r d : ℕ) → Small t r d → IsTrue (all_true (by_each joined_tests_step body)) → Bodies t r d (by_each (stmt_step true) body)
      → AllFit t r d (joined (by_each rounds_step body)) (joined (by_each assignments_step body))
  row_fits end_of-Stmt t r d m j h = λ n rs a e f first more from. absurd (none-some rs e)
  row_fits (more_of-Stmt x rest) t r d m j h =
      let b = both_true (by_stmt joined_tests_step x) (all_true (by_each joined_tests_step rest)) j in
      append_fit t r d (by_stmt rounds_step x) (joined (by_each rounds_step rest)) (by_stmt assignments_step x) (joined (by_each assignments_step rest)) (same_count x) (stmt_fits x t r d m b.0 h.0) (row_fits rest t r d m b.1 h.1)

pub guarded_fits : (t r d : ℕ) (program : Program) → Small t r d → IsTrue (has_joined_tests program) → Each (λ s. Room t r d (numbers_of s)) (printed program.body) → (n : ℕ) (rs : List Round) (a : Assignment) → slice_get (rounds program) n ≡ Some rs → slice_get (assignments program) n ≡ Some a
    → (first more from : ℕ) → Room t (2 * r + 1) d (total (printed (guarded first more from rs (moved_assign first more a ∷ []))))
guarded_fits t r d program m j h =
    subst (λ rss. AllFit t r d rss (assignments program)) (sym (flat_unrolled rounds_step program.body))
    (subst (AllFit t r d (joined (by_each rounds_step (row_of program.body)))) (sym (flat_unrolled assignments_step program.body))
    (row_fits (row_of program.body) t r d m (subst (λ bs. IsTrue (all_true bs)) (unrolled joined_tests_step program.body) j) (subst (Bodies t r d) (unrolled (stmt_step true) program.body) h)))

-- ---- Words `if`

pub guarded_items : (first more from : ℕ) (rs : List Round) (body : List Stmt) → (total (printed (guarded first more from rs body))).items ≤ length rs + (total (printed body)).items
guarded_items first more from [] body = omega arith
guarded_items first more from (Loop iter low rel high ∷ rs) body =
    let q = guarded_items first more (suc from) rs body in
    let p = if_most (all_of (low_test first more from low) (high_test first more from rel high ∷ [])) (guarded first more (suc from) rs body) in
    let i = p.items in omega (arith, i, q)
guarded_items first more from (Test c ∷ rs) body =
    let q = guarded_items first more from rs body in
    let p = if_most (moved_cond first more c) (guarded first more from rs body) in
    let i = p.items in omega (arith, i, q)
