-- The locals and tests of a block are read.
use Rattle.std.proofs.Common.{◌≡◌, ℕ, suc, ◌+◌, ◌^◌, ◌<◌, ℤ, pos, ◌+ℤ◌, ◌-ℤ◌, ◌*ℤ◌, neg_ℤ, Bool, true, false, ◌&&◌, if◌then◌else◌, int_le, List, [], ◌∷◌, ◌++◌, length, get_or, map, Result, Ok, refl, sym, ap, subst, ◌∙◌, arith}
use Rattle.std.specs.Prelude.{unsigned_abs}
use Rattle.std.proofs.lemmas.Bool.{ltb-true}
use Rattle.std.specs.Int.{int_max, int_min}
use Rattle.std.specs.List.{All}
use Rattle.affc_rows.specs.Forms.{Affine, value, values_of, magnitude, HaveColumns}
use Rattle.affc_ast.specs.declared.tree.Cond.{Cond}
use Rattle.affc_ast.specs.declared.tree.Cond.TheVariants as d
use Rattle.affc_ast.specs.declared.tree.Cond.TheBlock.{Row_of-Cond, more_of-Cond, end_of-Cond}
use Rattle.affc_ast.specs.declared.tree.Ix.{Ix}
use Rattle.affc_ast.specs.declared.tree.Ix.TheVariants as c
use Rattle.affc_ast.specs.declared.tree.Ix.TheBlock.{more_of-Ix, end_of-Ix}
use Rattle.affc_ast.specs.declared.tree.Rel.TheVariants.{LessEqual, Equal}
use Rattle.affc_ast.specs.Cause.{Cause, ◌>>=◌}
use Rattle.affc_ast.specs.Conditions.{Reading, all_read, some_read, reading_step, reading_of, condition}
use Rattle.affc_ast.specs.Fits.{whole, all_hold, all_true, is_true_at}
use Rattle.affc_ast.specs.Index.{in_int64, floor_of, ceiling_of, remainder_of, divided, on_one, on_both, index_of, index_value, nodes_of_ix, compares}
use Rattle.affc_ast.specs.Meaning.{with_locals, with_local}
use Rattle.affc_ast.specs.Recursion.{by_entries}
use Rattle.affc_ast.specs.Values.{Scope}
use Rattle.affc_ast.proofs.Steps.{all_here, any_here}
use Rattle.affc_system.specs.Boxes.{InBox}
use Rattle.affc_trace.proofs.EndedReads.{append_assoc, bind_ok}
use Rattle.affc_trace.proofs.LastStores.{append_nil, push_append}
use Rattle.affc_trace.proofs.Runs.{length_append}
use Rattle.affc_safe.proofs.Along.{IsRead, IsReadCond, ReadAlong}
use Rattle.affc_domain.specs.Rounds.{Round, Loop, Test}
use Rattle.affc_domain.specs.Affine.{sees}
use Rattle.affc_domain.specs.Plain.{is_upward}
use Rattle.affc_loops.specs.Loops.{loop_names, locals_of, box_tests, time_tests, as_condition}
use Rattle.affc_loops.proofs.AllOf.{compare_reads, ReadableConds}
use Rattle.affc_loops.proofs.Guards.{guard_tests, sees_cond_step, sees_cond, see_outwards}
use Rattle.affc_loops.specs.Limits.{IsSmall}
use Rattle.affc_loops.specs.Trees.{name_at, number, form_tree, moved, moved_cond_step, moved_cond}
use Rattle.affc_loops.proofs.FormReads.{reads_name, reads_number, form_reads}
use Rattle.affc_loops.proofs.FormTrees.{number_is, form_is}
use Rattle.affc_loops.proofs.MovedReads.{moves}
use Rattle.affc_loops.proofs.MovedTrees.{get_front, moved_name_is}
use Rattle.affc_loops.proofs.Tests.{next_component, goes, outside, cond_outside}
use Rattle.affc_domain.proofs.Lists.{both_true, true_le, at_seam}
use Rattle.affc_safe.specs.Overflow.{IsReadable}
use Rattle.affc_safe.proofs.Wants.{IsReadableCond, bind_to}

-- ---- where only the first names are held

front_one : (a : Ix) (f : ℕ → ℤ → Result ℤ Cause) (l m : List ℤ) → ((n : ℕ) → index_value a n l ≡ index_value a n m) → (n : ℕ) → (on_one f (index_of a)).value n l ≡ (on_one f (index_of a)).value n m
front_one a f l m h n = ap (λ r. r >>= f n) (h (n + 1))

front_both : (a b : Ix) (f : ℕ → ℤ → ℤ → Result ℤ Cause) (l m : List ℤ) → ((n : ℕ) → index_value a n l ≡ index_value a n m) → ((n : ℕ) → index_value b n l ≡ index_value b n m)
    → (n : ℕ) → (on_both f (index_of a) (index_of b)).value n l ≡ (on_both f (index_of a) (index_of b)).value n m
front_both a b f l m h k n =
    ap (λ r. r >>= (λ x. index_value b (n + 1 + nodes_of_ix a) l >>= f n x)) (h (n + 1))
    ∙ ap (λ r. index_value a (n + 1) m >>= (λ x. r >>= f n x)) (k (n + 1 + nodes_of_ix a))

module _ (front rest : List ℤ) where
  pub front_reads : (e : Ix) → sees (length front) e ≡ true → (n : ℕ) → index_value e n (front ++ rest) ≡ index_value e n front
  front_reads (c.Lit k) h n = refl
  front_reads (c.Name x) h n = ap (λ z. Ok z) (get_front front rest x.0 (ltb-true x.0 (length front) h))
  front_reads (c.Neg' s (more_of-Ix a end_of-Ix)) h n = front_one a (λ k y. in_int64 k (neg_ℤ y)) (front ++ rest) front (front_reads a h) n
  front_reads (c.Floord' s (more_of-Ix a end_of-Ix) d) h n = front_one a (λ k y. divided k floor_of y d) (front ++ rest) front (front_reads a h) n
  front_reads (c.Ceild' s (more_of-Ix a end_of-Ix) d) h n = front_one a (λ k y. divided k ceiling_of y d) (front ++ rest) front (front_reads a h) n
  front_reads (c.Add' s (more_of-Ix a end_of-Ix) t (more_of-Ix b end_of-Ix)) h n =
      let q = both_true (sees (length front) a) (sees (length front) b) h in front_both a b (λ k y z. in_int64 k (y +ℤ z)) (front ++ rest) front (front_reads a q.0) (front_reads b q.1) n
  front_reads (c.Sub' s (more_of-Ix a end_of-Ix) t (more_of-Ix b end_of-Ix)) h n =
      let q = both_true (sees (length front) a) (sees (length front) b) h in front_both a b (λ k y z. in_int64 k (y -ℤ z)) (front ++ rest) front (front_reads a q.0) (front_reads b q.1) n
  front_reads (c.Mul' s (more_of-Ix a end_of-Ix) t (more_of-Ix b end_of-Ix)) h n =
      let q = both_true (sees (length front) a) (sees (length front) b) h in front_both a b (λ k y z. in_int64 k (y *ℤ z)) (front ++ rest) front (front_reads a q.0) (front_reads b q.1) n
  front_reads (c.Min' s (more_of-Ix a end_of-Ix) t (more_of-Ix b end_of-Ix)) h n =
      let q = both_true (sees (length front) a) (sees (length front) b) h in front_both a b (λ k y z. Ok (int_min y z)) (front ++ rest) front (front_reads a q.0) (front_reads b q.1) n
  front_reads (c.Max' s (more_of-Ix a end_of-Ix) t (more_of-Ix b end_of-Ix)) h n =
      let q = both_true (sees (length front) a) (sees (length front) b) h in front_both a b (λ k y z. Ok (int_max y z)) (front ++ rest) front (front_reads a q.0) (front_reads b q.1) n
  front_reads (c.Mod' s (more_of-Ix a end_of-Ix) t (more_of-Ix b end_of-Ix)) h n =
      let q = both_true (sees (length front) a) (sees (length front) b) h in front_both a b (λ k y z. divided k remainder_of y z) (front ++ rest) front (front_reads a q.0) (front_reads b q.1) n

-- ---- locals

pub record Inner (scope inner : Scope) (names : List ℤ) : Type 0 where
  pub its_names : inner.names ≡ names
  pub its_extents : inner.extents ≡ scope.extents

pub locals_read : (p t done : List ℤ) (ws : List (List ℕ)) (gs : List Affine) (first : ℕ) → first ≡ length p → length ws ≡ length gs → HaveColumns (length p + length t) gs
    → All (λ g. magnitude g (p ++ t) < 2 ^ 63) gs → (node : ℕ) (scope : Scope) → scope.names ≡ p ++ (t ++ done)
    → (inner : Scope) × (with_locals (locals_of first ws gs) node scope ≡ Ok inner) × Inner scope inner (p ++ (t ++ (done ++ values_of gs (p ++ t))))
locals_read p t done [] [] first e l h s node scope n = (scope, refl, record { its_names = n ∙ ap (λ m. p ++ (t ++ m)) (sym (append_nil done)); its_extents = refl })
locals_read p t done [] (g ∷ gs) first e l h s node scope n = absurd (omega arith)
locals_read p t done (w ∷ ws) [] first e l h s node scope n = absurd (omega arith)
locals_read p t done (w ∷ ws) (g ∷ gs) first e l h s node scope n =
    let wide : length g.coefs ≡ length p + length t = h 0 g (omega arith) in
    let at : first ≡ length (p ++ []) = e ∙ ap length (sym (append_nil p)) in
    let x : ℤ = whole (form_tree first first g) (p ++ (t ++ done)) in
    let is : x ≡ value g (p ++ t) = form_is g p [] t done first first e at wide in
    let reads : index_value (form_tree first first g) node scope.names ≡ Ok x = ap (index_value (form_tree first first g) node) n ∙ form_reads g p [] t done first first e at wide (s 0 g (omega arith)) node in
    let pushed : scope.names ++ x ∷ [] ≡ p ++ (t ++ (done ++ value g (p ++ t) ∷ [])) =
    ap (λ m. m ++ x ∷ []) n ∙ ap (λ z. (p ++ (t ++ done)) ++ z ∷ []) is ∙ append_assoc p (t ++ done) (value g (p ++ t) ∷ []) ∙ ap (λ m. p ++ m) (append_assoc t done (value g (p ++ t) ∷ [])) in
    let r = locals_read p t (done ++ value g (p ++ t) ∷ []) ws gs first e (omega arith) (λ i k m. h (suc i) k (omega arith)) (λ i k m. s (suc i) k (omega arith))
    (node + nodes_of_ix (form_tree first first g)) (with_local scope x) pushed in (
      r.0,
      bind_to (index_value (form_tree first first g) node scope.names) x _ r.0 reads r.1,
      record { its_names = (r.2).its_names ∙ ap (λ m. p ++ (t ++ m)) (push_append done (value g (p ++ t)) (values_of gs (p ++ t))); its_extents = (r.2).its_extents },
    )

-- ---- tests

smaller : (z : ℤ) → unsigned_abs z < 2 ^ 62 → unsigned_abs z < 2 ^ 63
smaller z h = omega arith

pub box_reads : (from : ℕ) (rs : List (ℤ × ℤ)) (names : List ℤ) → All IsSmall rs → ReadableConds (map as_condition (box_tests from rs)) names
box_reads from [] names s = tt
box_reads from (r ∷ rs) names s =
    let ends : IsSmall r = s 0 r (omega arith) in (
      compare_reads LessEqual (number r.0) (name_at from) names (reads_number r.0 names (smaller r.0 ends.0)) (reads_name from names),
      λ h. (
        compare_reads LessEqual (name_at from) (number r.1) names (reads_name from names) (reads_number r.1 names (smaller r.1 ends.1)),
        λ k. box_reads (suc from) rs names (λ i x m. s (suc i) x (omega arith)),
      ),
    )

pub true_box : (before xs : List ℤ) (rs : List (ℤ × ℤ)) (from : ℕ) → from ≡ length before → length xs ≡ length rs → all_hold (box_tests from rs) (before ++ xs) ≡ true → InBox rs xs
true_box before [] [] from e l h = tt
true_box before (x ∷ xs) [] from e l h = absurd (omega arith)
true_box before [] (r ∷ rs) from e l h = absurd (omega arith)
true_box before (x ∷ xs) (r ∷ rs) from e l h =
    let names : List ℤ = before ++ x ∷ xs in
    let here : get_or names from (pos 0) ≡ x = ap (λ n. get_or names n (pos 0)) e ∙ at_seam before x xs in
    let pushed : length (before ++ x ∷ []) ≡ length before + 1 = length_append before (x ∷ []) in
    let a = both_true (int_le (whole (number r.0) names) (get_or names from (pos 0))) (int_le (get_or names from (pos 0)) (whole (number r.1) names) && all_hold (box_tests (suc from) rs) names) h in
    let b = both_true (int_le (get_or names from (pos 0)) (whole (number r.1) names)) (all_hold (box_tests (suc from) rs) names) a.1 in (
      true_le r.0 x (ap (λ z. int_le z x) (sym (number_is r.0 names)) ∙ ap (int_le (whole (number r.0) names)) (sym here) ∙ a.0),
      true_le x r.1 (ap (int_le x) (sym (number_is r.1 names)) ∙ ap (λ z. int_le z (whole (number r.1) names)) (sym here) ∙ b.0),
      true_box (before ++ x ∷ []) xs rs (suc from) (omega arith) (omega arith) (ap (all_hold (box_tests (suc from) rs)) (push_append before x xs) ∙ b.1),
    )

pub times_read : (p t xs : List ℤ) (fs : List Affine) (component : ℕ) → HaveColumns (length p + length xs) fs → All (λ f. magnitude f (p ++ xs) < 2 ^ 63) fs
    → ReadableConds (map as_condition (time_tests (length p) (length (p ++ t)) component fs)) (p ++ (t ++ xs))
times_read p t xs [] component h s = tt
times_read p t xs (f ∷ fs) component h s = (
  compare_reads Equal (name_at component) (form_tree (length p) (length (p ++ t)) f) (p ++ (t ++ xs)) (reads_name component (p ++ (t ++ xs)))
      (subst (λ l. IsReadable (form_tree (length p) (length (p ++ t)) f) (p ++ (t ++ l))) (append_nil xs) (form_reads f p t xs [] (length p) (length (p ++ t)) refl refl (h 0 f (omega arith)) (s 0 f (omega arith)))),
  λ e. times_read p t xs fs (suc component) (λ i k m. h (suc i) k (omega arith)) (λ i k m. s (suc i) k (omega arith)),
)

same_all : (b : Bool) (q s : Result Bool Cause) (d : Bool) → (if b then q else Ok false) ≡ Ok d → (q ≡ Ok d → s ≡ Ok d) → (if b then s else Ok false) ≡ Ok d
same_all true q s d e h = h e
same_all false q s d e h = e

same_some : (b : Bool) (q s : Result Bool Cause) (d : Bool) → (if b then Ok true else q) ≡ Ok d → (q ≡ Ok d → s ≡ Ok d) → (if b then Ok true else s) ≡ Ok d
same_some true q s d e h = e
same_some false q s d e h = h e

module _ (p t : List ℤ) where
  outside_moves : (done rest : List ℤ) (e : Ix) → sees (length (p ++ done)) e ≡ true → (n m : ℕ) (x : ℤ) → index_value e n (p ++ done) ≡ Ok x → index_value (moved (length p) (length t) e) m (p ++ (t ++ (done ++ rest))) ≡ Ok x
  outside_moves done rest e s n m x r =
      moves (p ++ (done ++ rest)) (p ++ (t ++ (done ++ rest))) (length p) (length t) (moved_name_is p t (done ++ rest)) e n m x
      (ap (index_value e n) (sym (append_assoc p done rest)) ∙ front_reads (p ++ done) rest e s n ∙ r)

  outside_reads : (done rest : List ℤ) (e : Ix) → sees (length (p ++ done)) e ≡ true → IsRead e (p ++ done) → IsReadable (moved (length p) (length t) e) (p ++ (t ++ (done ++ rest)))
  outside_reads done rest e s r node = outside_moves done rest e s r.0 node (whole e (p ++ done)) r.1 ∙ ap (λ z. Ok z) (sym (outside p t done rest e s))

  mutual
    cond_moves : (done rest : List ℤ) (x : Cond) → sees_cond (length (p ++ done)) x ≡ true → (n m : ℕ) (b : Bool) → condition x n (p ++ done) ≡ Ok b
        → condition (moved_cond (length p) (length t) x) m (p ++ (t ++ (done ++ rest))) ≡ Ok b
    cond_moves done rest (d.Compare rel left right) s n m b e =
        let a = both_true (sees (length (p ++ done)) left) (sees (length (p ++ done)) right) s in
        let l = bind_ok (index_value left (n + 1) (p ++ done)) _ _ e in
        let r = bind_ok (index_value right (n + 1 + nodes_of_ix left) (p ++ done)) _ _ l.2 in
        bind_to (index_value (moved (length p) (length t) left) (m + 1) (p ++ (t ++ (done ++ rest)))) l.0 _ b (outside_moves done rest left a.0 _ _ l.0 l.1)
        (bind_to (index_value (moved (length p) (length t) right) (m + 1 + nodes_of_ix (moved (length p) (length t) left)) (p ++ (t ++ (done ++ rest)))) r.0 _ b (outside_moves done rest right a.1 _ _ r.0 r.1) r.2)
    cond_moves done rest (d.All' shape entries) s n m b e =
        ap (λ (r : Reading). r.value m (p ++ (t ++ (done ++ rest)))) (all_here reading_step (by_entries (moved_cond_step (length p) (length t)) entries)) ∙ all_move done rest entries s (n + 1) (m + 1) b e
    cond_moves done rest (d.Any' shape entries) s n m b e =
        ap (λ (r : Reading). r.value m (p ++ (t ++ (done ++ rest)))) (any_here reading_step (by_entries (moved_cond_step (length p) (length t)) entries)) ∙ some_move done rest entries s (n + 1) (m + 1) b e
    cond_moves done rest (d.Divides value by so) s n m b e =
        let v = bind_ok (index_value value (n + 1) (p ++ done)) _ _ e in
        bind_to (index_value (moved (length p) (length t) value) (m + 1) (p ++ (t ++ (done ++ rest)))) v.0 _ b (outside_moves done rest value s _ _ v.0 v.1) v.2

    all_move : {k : _} (done rest : List ℤ) (entries : Row_of-Cond k) → all_true (by_entries (sees_cond_step (length (p ++ done))) entries) ≡ true → (n m : ℕ) (b : Bool)
        → all_read (by_entries reading_step entries) n (p ++ done) ≡ Ok b → all_read (map reading_of (by_entries (moved_cond_step (length p) (length t)) entries)) m (p ++ (t ++ (done ++ rest))) ≡ Ok b
    all_move done rest end_of-Cond s n m b e = e
    all_move done rest (more_of-Cond x others) s n m b e =
        let a = both_true (sees_cond (length (p ++ done)) x) (all_true (by_entries (sees_cond_step (length (p ++ done))) others)) s in
        let r = bind_ok (condition x n (p ++ done)) _ _ e in
        bind_to (condition (moved_cond (length p) (length t) x) m (p ++ (t ++ (done ++ rest)))) r.0 _ b (cond_moves done rest x a.0 n m r.0 r.1)
        (same_all r.0 _ _ b r.2 (λ h. all_move done rest others a.1 _ _ b h))

    some_move : {k : _} (done rest : List ℤ) (entries : Row_of-Cond k) → all_true (by_entries (sees_cond_step (length (p ++ done))) entries) ≡ true → (n m : ℕ) (b : Bool)
        → some_read (by_entries reading_step entries) n (p ++ done) ≡ Ok b → some_read (map reading_of (by_entries (moved_cond_step (length p) (length t)) entries)) m (p ++ (t ++ (done ++ rest))) ≡ Ok b
    some_move done rest end_of-Cond s n m b e = e
    some_move done rest (more_of-Cond x others) s n m b e =
        let a = both_true (sees_cond (length (p ++ done)) x) (all_true (by_entries (sees_cond_step (length (p ++ done))) others)) s in
        let r = bind_ok (condition x n (p ++ done)) _ _ e in
        bind_to (condition (moved_cond (length p) (length t) x) m (p ++ (t ++ (done ++ rest)))) r.0 _ b (cond_moves done rest x a.0 n m r.0 r.1)
        (same_some r.0 _ _ b r.2 (λ h. some_move done rest others a.1 _ _ b h))

  cond_reads : (done rest : List ℤ) (x : Cond) → sees_cond (length (p ++ done)) x ≡ true → IsReadCond x (p ++ done) → IsReadableCond (moved_cond (length p) (length t) x) (p ++ (t ++ (done ++ rest)))
  cond_reads done rest x s r node = cond_moves done rest x s r.0 node (is_true_at x (p ++ done)) r.1 ∙ ap (λ b. Ok b) (sym (cond_outside p t done rest x s))

  pub guards_read : (gs : List Round) (done xs : List ℤ) (from : ℕ) → from ≡ length (p ++ (t ++ done)) → see_outwards (length (p ++ done)) gs ≡ true → length (loop_names gs) ≡ length xs
      → ReadAlong gs (p ++ done) xs → ReadableConds (guard_tests (length p) (length t) from gs) (p ++ (t ++ (done ++ xs)))
  guards_read [] done xs from e s l r = tt
  guards_read (Loop iter low rel high ∷ gs) done [] from e s l r = absurd (omega arith)
  guards_read (Loop iter low rel high ∷ gs) done (x ∷ xs) from e s l r =
      let a = both_true (sees (length (p ++ done)) low) (sees (length (p ++ done)) high && (is_upward rel && see_outwards (suc (length (p ++ done))) gs)) s in
      let b = both_true (sees (length (p ++ done)) high) (is_upward rel && see_outwards (suc (length (p ++ done))) gs) a.1 in
      let d = both_true (is_upward rel) (see_outwards (suc (length (p ++ done))) gs) b.1 in
      let values : List ℤ = p ++ (t ++ (done ++ x ∷ xs)) in
      let whole_list : values ≡ (p ++ (t ++ done)) ++ x ∷ xs = ap (λ m. p ++ m) (sym (append_assoc t done (x ∷ xs))) ∙ sym (append_assoc p (t ++ done) (x ∷ xs)) in
      let here : get_or values from (pos 0) ≡ x = ap (λ n. get_or values n (pos 0)) e ∙ ap (λ m. get_or m (length (p ++ (t ++ done))) (pos 0)) whole_list ∙ at_seam (p ++ (t ++ done)) x xs in
      let next : length (p ++ (t ++ (done ++ x ∷ []))) ≡ suc (length (p ++ (t ++ done))) = ap (λ m. length (p ++ m)) (sym (append_assoc t done (x ∷ []))) ∙ sym (next_component p (t ++ done) x) in
      let low_is = outside p t done (x ∷ xs) low a.0 in
      let high_is = outside p t done (x ∷ xs) high b.0 in (
        compare_reads LessEqual (moved (length p) (length t) low) (name_at from) values (outside_reads done (x ∷ xs) low a.0 r.0) (reads_name from values),
        λ h. (
          compare_reads rel (name_at from) (moved (length p) (length t) high) values (reads_name from values) (outside_reads done (x ∷ xs) high b.0 r.1),
          λ k.
              subst (ReadableConds (guard_tests (length p) (length t) (suc from) gs)) (ap (λ m. p ++ (t ++ m)) (push_append done x xs))
              (guards_read gs (done ++ x ∷ []) xs (suc from) (ap suc e ∙ sym next) (subst (λ n. see_outwards n gs ≡ true) (next_component p done x) d.1) (omega arith)
              (subst (λ m. ReadAlong gs m xs) (append_assoc p done (x ∷ []))
              (r.2 (ap (λ z. int_le z x) (sym low_is) ∙ ap (int_le (whole (moved (length p) (length t) low) values)) (sym here) ∙ h)
              (sym (goes rel x (whole high (p ++ done)) d.0) ∙ ap (compares rel x) (sym high_is) ∙ ap (λ z. compares rel z (whole (moved (length p) (length t) high) values)) (sym here) ∙ k)))),
        ),
      )
  guards_read (Test cond ∷ gs) done xs from e s l r =
      let a = both_true (sees_cond (length (p ++ done)) cond) (see_outwards (length (p ++ done)) gs) s in
      (cond_reads done xs cond a.0 r.0, λ h. guards_read gs done xs from e a.1 l (r.1 (sym (cond_outside p t done xs cond a.0) ∙ h)))
