-- What the tests of a block say.
use Rattle.std.proofs.Common.{◌≡◌, ℕ, suc, ◌+◌, ℤ, pos, ◌+ℤ◌, ◌-ℤ◌, ◌*ℤ◌, neg_ℤ, ◌≤ℤ◌, Bool, true, false, T, true≢false, ◌&&◌, int_le, List, [], ◌∷◌, ◌++◌, length, get_or, map, refl, sym, ap, subst, ◌∙◌, arith}
use Rattle.std.proofs.lemmas.Bool.{ltb-true}
use Rattle.std.proofs.lemmas.Int.{ints}
use Rattle.std.specs.Int.{int_max, int_min}
use Rattle.affc_rows.specs.Forms.{Affine, value, values_of, HaveColumns}
use Rattle.affc_ast.specs.declared.tree.Compare.{Compare}
use Rattle.affc_ast.specs.declared.tree.Cond.{Cond}
use Rattle.affc_ast.specs.declared.tree.Cond.TheVariants as d
use Rattle.affc_ast.specs.declared.tree.Cond.TheBlock.{Row_of-Cond, more_of-Cond, end_of-Cond}
use Rattle.affc_ast.specs.declared.tree.Ix.{Ix}
use Rattle.affc_ast.specs.declared.tree.Ix.TheVariants as c
use Rattle.affc_ast.specs.declared.tree.Ix.TheBlock.{more_of-Ix, end_of-Ix}
use Rattle.affc_ast.specs.declared.tree.Rel.{Rel}
use Rattle.affc_ast.specs.declared.tree.Rel.TheVariants.{Less, LessEqual, Greater, GreaterEqual, Equal, NotEqual}
use Rattle.affc_ast.specs.Conditions.{divides, is_so}
use Rattle.affc_ast.specs.Fits.{whole, all_hold, all_true, some_true, truth_step, is_true_at}
use Rattle.affc_ast.specs.Index.{floor_of, ceiling_of, remainder_of, compares}
use Rattle.affc_ast.specs.Recursion.{by_cond, by_entries}
use Rattle.affc_ast.proofs.Steps.{all_here, any_here}
use Rattle.affc_system.specs.Boxes.{InBox}
use Rattle.affc_trace.specs.Effects.{with_all}
use Rattle.affc_trace.proofs.EndedReads.{append_assoc}
use Rattle.affc_trace.proofs.LastStores.{append_nil, push_append}
use Rattle.affc_trace.proofs.Runs.{length_append}
use Rattle.affc_domain.specs.Rounds.{Round, Loop, Test, goes_on, turns}
use Rattle.affc_loops.specs.Trees.{number, form_tree, moved, moved_cond_step, moved_cond}
use Rattle.affc_domain.specs.Affine.{sees}
use Rattle.affc_domain.specs.Plain.{is_upward}
use Rattle.affc_domain.proofs.Lists.{both_true, true_both, le_true, true_le, at_seam}
use Rattle.affc_loops.specs.Loops.{loop_names, locals_of, box_tests, time_tests}
use Rattle.affc_loops.proofs.Guards.{guard_tests, all_true_at, sees_cond_step, sees_cond, see_outwards}
use Rattle.affc_loops.proofs.FormTrees.{number_is, form_is}
use Rattle.affc_loops.proofs.MovedTrees.{get_front, moved_is}

-- ---- expressions that hold only the first names

both : (f : ℤ → ℤ → ℤ) (x x' y y' : ℤ) → x ≡ x' → y ≡ y' → f x y ≡ f x' y'
both f x x' y y' e g = ap (λ u. f u y) e ∙ ap (f x') g

pub sees_front : (front rest : List ℤ) (e : Ix) → sees (length front) e ≡ true → whole e (front ++ rest) ≡ whole e front
sees_front front rest (c.Lit n) h = refl
sees_front front rest (c.Name x) h = get_front front rest x.0 (ltb-true x.0 (length front) h)
sees_front front rest (c.Neg' s (more_of-Ix a end_of-Ix)) h = ap neg_ℤ (sees_front front rest a h)
sees_front front rest (c.Floord' s (more_of-Ix a end_of-Ix) n) h = ap (λ x. floor_of x n) (sees_front front rest a h)
sees_front front rest (c.Ceild' s (more_of-Ix a end_of-Ix) n) h = ap (λ x. ceiling_of x n) (sees_front front rest a h)
sees_front front rest (c.Add' s (more_of-Ix a end_of-Ix) t (more_of-Ix b end_of-Ix)) h =
    let q = both_true (sees (length front) a) (sees (length front) b) h in
    both ◌+ℤ◌ (whole a (front ++ rest)) (whole a front) (whole b (front ++ rest)) (whole b front) (sees_front front rest a q.0) (sees_front front rest b q.1)
sees_front front rest (c.Sub' s (more_of-Ix a end_of-Ix) t (more_of-Ix b end_of-Ix)) h =
    let q = both_true (sees (length front) a) (sees (length front) b) h in
    both ◌-ℤ◌ (whole a (front ++ rest)) (whole a front) (whole b (front ++ rest)) (whole b front) (sees_front front rest a q.0) (sees_front front rest b q.1)
sees_front front rest (c.Mul' s (more_of-Ix a end_of-Ix) t (more_of-Ix b end_of-Ix)) h =
    let q = both_true (sees (length front) a) (sees (length front) b) h in
    both ◌*ℤ◌ (whole a (front ++ rest)) (whole a front) (whole b (front ++ rest)) (whole b front) (sees_front front rest a q.0) (sees_front front rest b q.1)
sees_front front rest (c.Min' s (more_of-Ix a end_of-Ix) t (more_of-Ix b end_of-Ix)) h =
    let q = both_true (sees (length front) a) (sees (length front) b) h in
    both int_min (whole a (front ++ rest)) (whole a front) (whole b (front ++ rest)) (whole b front) (sees_front front rest a q.0) (sees_front front rest b q.1)
sees_front front rest (c.Max' s (more_of-Ix a end_of-Ix) t (more_of-Ix b end_of-Ix)) h =
    let q = both_true (sees (length front) a) (sees (length front) b) h in
    both int_max (whole a (front ++ rest)) (whole a front) (whole b (front ++ rest)) (whole b front) (sees_front front rest a q.0) (sees_front front rest b q.1)
sees_front front rest (c.Mod' s (more_of-Ix a end_of-Ix) t (more_of-Ix b end_of-Ix)) h =
    let q = both_true (sees (length front) a) (sees (length front) b) h in
    both remainder_of (whole a (front ++ rest)) (whole a front) (whole b (front ++ rest)) (whole b front) (sees_front front rest a q.0) (sees_front front rest b q.1)

-- ---- locals

one_more : (p t d : List ℤ) (x : ℤ) (l : List ℤ) → (p ++ (t ++ d)) ++ x ∷ [] ≡ l → p ++ (t ++ (d ++ x ∷ [])) ≡ l
one_more p t d x l e = ap (λ m. p ++ m) (sym (append_assoc t d (x ∷ []))) ∙ sym (append_assoc p (t ++ d) (x ∷ [])) ∙ e

-- the iterators come behind the parameters and the components, with the values of the inverse
pub locals_are : (p t done : List ℤ) (ws : List (List ℕ)) (gs : List Affine) (first : ℕ) → first ≡ length p → length ws ≡ length gs → HaveColumns (length p + length t) gs
    → with_all (locals_of first ws gs) (p ++ (t ++ done)) ≡ p ++ (t ++ (done ++ values_of gs (p ++ t)))
locals_are p t done [] [] first e l h = ap (λ m. p ++ (t ++ m)) (sym (append_nil done))
locals_are p t done [] (g ∷ gs) first e l h = absurd (omega arith)
locals_are p t done (w ∷ ws) [] first e l h = absurd (omega arith)
locals_are p t done (w ∷ ws) (g ∷ gs) first e l h =
    let wide : length g.coefs ≡ length p + length t = h 0 g (omega arith) in
    let at : first ≡ length (p ++ []) = e ∙ ap length (sym (append_nil p)) in
    ap (λ z. with_all (locals_of first ws gs) ((p ++ (t ++ done)) ++ z ∷ [])) (form_is g p [] t done first first e at wide)
    ∙ ap (with_all (locals_of first ws gs)) (sym (one_more p t done (value g (p ++ t)) _ refl))
    ∙ locals_are p t (done ++ value g (p ++ t) ∷ []) ws gs first e (omega arith) (λ i k m. h (suc i) k (omega arith))
    ∙ ap (λ m. p ++ (t ++ m)) (push_append done (value g (p ++ t)) (values_of gs (p ++ t)))

-- ---- ranges

pub box_true : (before xs : List ℤ) (rs : List (ℤ × ℤ)) (from : ℕ) → from ≡ length before → InBox rs xs → all_hold (box_tests from rs) (before ++ xs) ≡ true
box_true before [] [] from e b = refl
box_true before (x ∷ xs) [] from e b = absurd b
box_true before [] (r ∷ rs) from e b = absurd b
box_true before (x ∷ xs) (r ∷ rs) from e b =
    let names : List ℤ = before ++ x ∷ xs in
    let here : get_or names from (pos 0) ≡ x = ap (λ n. get_or names n (pos 0)) e ∙ at_seam before x xs in
    let pushed : length (before ++ x ∷ []) ≡ length before + 1 = length_append before (x ∷ []) in
    let low : compares LessEqual (whole (number r.0) names) (get_or names from (pos 0)) ≡ true =
    ap (λ z. int_le z (get_or names from (pos 0))) (number_is r.0 names) ∙ ap (int_le r.0) here ∙ le_true r.0 x b.0 in
    let high : compares LessEqual (get_or names from (pos 0)) (whole (number r.1) names) ≡ true =
    ap (int_le (get_or names from (pos 0))) (number_is r.1 names) ∙ ap (λ z. int_le z r.1) here ∙ le_true x r.1 b.1 in
    let rest : all_hold (box_tests (suc from) rs) names ≡ true =
    ap (all_hold (box_tests (suc from) rs)) (sym (push_append before x xs)) ∙ box_true (before ++ x ∷ []) xs rs (suc from) (omega arith) b.2 in
    true_both (int_le (whole (number r.0) names) (get_or names from (pos 0))) _ low
    (true_both (int_le (get_or names from (pos 0)) (whole (number r.1) names)) _ high rest)

-- ---- times

equal_true : (x y : ℤ) → x ≡ y → compares Equal x y ≡ true
equal_true x y e = true_both (int_le x y) (int_le y x) (le_true x y (omega (arith, ints))) (le_true y x (omega (arith, ints)))

true_equal : (x y : ℤ) → compares Equal x y ≡ true → x ≡ y
true_equal x y e =
    let b = both_true (int_le x y) (int_le y x) e in
    let l : x ≤ℤ y = true_le x y b.0 in
    let g : y ≤ℤ x = true_le y x b.1 in
    omega (arith, ints)

abbrev is_empty : List ℤ → Bool
is_empty [] = true
is_empty (x ∷ xs) = false

abbrev head_or : ℤ → List ℤ → ℤ
head_or d [] = d
head_or d (x ∷ xs) = x

abbrev tail_of : List ℤ → List ℤ
tail_of [] = []
tail_of (x ∷ xs) = xs

pub next_component : (p done : List ℤ) (x : ℤ) → suc (length (p ++ done)) ≡ length (p ++ (done ++ x ∷ []))
next_component p done x =
    let a : length (p ++ done) ≡ length p + length done = length_append p done in
    let b : length (p ++ (done ++ x ∷ [])) ≡ length p + length (done ++ x ∷ []) = length_append p (done ++ x ∷ []) in
    let d : length (done ++ x ∷ []) ≡ length done + 1 = length_append done (x ∷ []) in
    omega arith

module _ (p t xs : List ℤ) where
  abbrev names : List ℤ
  names = p ++ (t ++ xs)

  abbrev tests : (component : ℕ) → List Affine → List Compare
  tests component fs = time_tests (length p) (length (p ++ t)) component fs

  -- the component that stands here
  component_here : (done : List ℤ) (x : ℤ) (rest : List ℤ) → t ≡ done ++ x ∷ rest → get_or names (length (p ++ done)) (pos 0) ≡ x
  component_here done x rest e =
      ap (λ l. get_or (p ++ (l ++ xs)) (length (p ++ done)) (pos 0)) e
      ∙ ap (λ l. get_or (p ++ l) (length (p ++ done)) (pos 0)) (append_assoc done (x ∷ rest) xs)
      ∙ ap (λ l. get_or l (length (p ++ done)) (pos 0)) (sym (append_assoc p done (x ∷ (rest ++ xs))))
      ∙ at_seam (p ++ done) x (rest ++ xs)

  form_here : (f : Affine) → length f.coefs ≡ length p + length xs → whole (form_tree (length p) (length (p ++ t)) f) names ≡ value f (p ++ xs)
  form_here f l = ap (λ m. whole (form_tree (length p) (length (p ++ t)) f) (p ++ (t ++ m))) (sym (append_nil xs)) ∙ form_is f p t xs [] (length p) (length (p ++ t)) refl refl l

  pub times_true : (fs : List Affine) (done rest : List ℤ) (component : ℕ) → component ≡ length (p ++ done) → t ≡ done ++ rest → HaveColumns (length p + length xs) fs → values_of fs (p ++ xs) ≡ rest
      → all_hold (tests component fs) names ≡ true
  times_true [] done rest component e s h v = refl
  times_true (f ∷ fs) done [] component e s h v = absurd (subst (λ l. T (is_empty l)) (sym v) tt)
  times_true (f ∷ fs) done (x ∷ rest) component e s h v =
      let here : get_or names component (pos 0) ≡ x = ap (λ n. get_or names n (pos 0)) e ∙ component_here done x rest s in
      let form : whole (form_tree (length p) (length (p ++ t)) f) names ≡ value f (p ++ xs) = form_here f (h 0 f (omega arith)) in
      let heads : value f (p ++ xs) ≡ x = ap (head_or x) v in
      let tails : values_of fs (p ++ xs) ≡ rest = ap tail_of v in
      true_both (compares Equal (get_or names component (pos 0)) (whole (form_tree (length p) (length (p ++ t)) f) names)) _
      (equal_true _ _ (here ∙ sym heads ∙ sym form))
      (times_true fs (done ++ x ∷ []) rest (suc component) (ap suc e ∙ next_component p done x) (s ∙ sym (push_append done x rest)) (λ i k m. h (suc i) k (omega arith)) tails)

  pub true_times : (fs : List Affine) (done rest : List ℤ) (component : ℕ) → component ≡ length (p ++ done) → t ≡ done ++ rest → HaveColumns (length p + length xs) fs → length fs ≡ length rest
      → all_hold (tests component fs) names ≡ true → values_of fs (p ++ xs) ≡ rest
  true_times [] done [] component e s h l v = refl
  true_times [] done (x ∷ rest) component e s h l v = absurd (omega arith)
  true_times (f ∷ fs) done [] component e s h l v = absurd (omega arith)
  true_times (f ∷ fs) done (x ∷ rest) component e s h l v =
      let here : get_or names component (pos 0) ≡ x = ap (λ n. get_or names n (pos 0)) e ∙ component_here done x rest s in
      let form : whole (form_tree (length p) (length (p ++ t)) f) names ≡ value f (p ++ xs) = form_here f (h 0 f (omega arith)) in
      let b = both_true (compares Equal (get_or names component (pos 0)) (whole (form_tree (length p) (length (p ++ t)) f) names)) (all_hold (tests (suc component) fs) names) v in
      let equal : get_or names component (pos 0) ≡ whole (form_tree (length p) (length (p ++ t)) f) names = true_equal _ _ b.0 in
      ap (λ z. z ∷ values_of fs (p ++ xs)) (sym form ∙ sym equal ∙ here)
      ∙ ap (λ l. x ∷ l) (true_times fs (done ++ x ∷ []) rest (suc component) (ap suc e ∙ next_component p done x) (s ∙ sym (push_append done x rest)) (λ i k m. h (suc i) k (omega arith)) (omega arith) b.1)

-- ---- loops and conditions

pub goes : (rel : Rel) (x high : ℤ) → is_upward rel ≡ true → compares rel x high ≡ goes_on rel x high
goes Less x high e = refl
goes LessEqual x high e = refl
goes Greater x high e = absurd (true≢false (sym e))
goes GreaterEqual x high e = absurd (true≢false (sym e))
goes Equal x high e = absurd (true≢false (sym e))
goes NotEqual x high e = absurd (true≢false (sym e))

and_same : {a a' b b' : Bool} → a ≡ a' → b ≡ b' → (a && b) ≡ (a' && b')
and_same {a} {a'} {b} {b'} e f = ap (λ u. u && b) e ∙ ap (λ u. a' && u) f

module _ (p t : List ℤ) where
  -- an expression that holds only the names outside
  pub outside : (done rest : List ℤ) (e : Ix) → sees (length (p ++ done)) e ≡ true → whole (moved (length p) (length t) e) (p ++ (t ++ (done ++ rest))) ≡ whole e (p ++ done)
  outside done rest e s = moved_is p t (done ++ rest) e ∙ ap (whole e) (sym (append_assoc p done rest)) ∙ sees_front (p ++ done) rest e s

  mutual
    -- and a condition of such expressions
    pub cond_outside : (done rest : List ℤ) (x : Cond) → sees_cond (length (p ++ done)) x ≡ true → is_true_at (moved_cond (length p) (length t) x) (p ++ (t ++ (done ++ rest))) ≡ is_true_at x (p ++ done)
    cond_outside done rest (d.Compare rel left right) s =
        let a = both_true (sees (length (p ++ done)) left) (sees (length (p ++ done)) right) s in
        ap (λ z. compares rel z (whole (moved (length p) (length t) right) (p ++ (t ++ (done ++ rest))))) (outside done rest left a.0) ∙ ap (compares rel (whole left (p ++ done))) (outside done rest right a.1)
    cond_outside done rest (d.All' shape entries) s =
        all_here (truth_step (p ++ (t ++ (done ++ rest)))) (by_entries (moved_cond_step (length p) (length t)) entries) ∙ ap all_true (entries_outside done rest entries s)
    cond_outside done rest (d.Any' shape entries) s =
        any_here (truth_step (p ++ (t ++ (done ++ rest)))) (by_entries (moved_cond_step (length p) (length t)) entries) ∙ ap some_true (entries_outside done rest entries s)
    cond_outside done rest (d.Divides value by so) s = ap (λ z. is_so so (divides by z)) (outside done rest value s)

    entries_outside : {n : _} (done rest : List ℤ) (entries : Row_of-Cond n) → all_true (by_entries (sees_cond_step (length (p ++ done))) entries) ≡ true
        → map (by_cond (truth_step (p ++ (t ++ (done ++ rest))))) (by_entries (moved_cond_step (length p) (length t)) entries) ≡ by_entries (truth_step (p ++ done)) entries
    entries_outside done rest end_of-Cond s = refl
    entries_outside done rest (more_of-Cond x others) s =
        let a = both_true (sees_cond (length (p ++ done)) x) (all_true (by_entries (sees_cond_step (length (p ++ done))) others)) s in
        λ i. cond_outside done rest x a.0 i ∷ entries_outside done rest others a.1 i

  pub guards_hold : (gs : List Round) (done xs : List ℤ) (from : ℕ) → from ≡ length (p ++ (t ++ done)) → see_outwards (length (p ++ done)) gs ≡ true → length (loop_names gs) ≡ length xs
      → all_true_at (guard_tests (length p) (length t) from gs) (p ++ (t ++ (done ++ xs))) ≡ turns gs (p ++ done) xs
  guards_hold [] done [] from e s l = refl
  guards_hold [] done (x ∷ xs) from e s l = absurd (omega arith)
  guards_hold (Loop iter low rel high ∷ gs) done [] from e s l = absurd (omega arith)
  guards_hold (Loop iter low rel high ∷ gs) done (x ∷ xs) from e s l =
      let a = both_true (sees (length (p ++ done)) low) (sees (length (p ++ done)) high && (is_upward rel && see_outwards (suc (length (p ++ done))) gs)) s in
      let b = both_true (sees (length (p ++ done)) high) (is_upward rel && see_outwards (suc (length (p ++ done))) gs) a.1 in
      let d = both_true (is_upward rel) (see_outwards (suc (length (p ++ done))) gs) b.1 in
      let values : List ℤ = p ++ (t ++ (done ++ x ∷ xs)) in
      let whole_list : values ≡ (p ++ (t ++ done)) ++ x ∷ xs = ap (λ m. p ++ m) (sym (append_assoc t done (x ∷ xs))) ∙ sym (append_assoc p (t ++ done) (x ∷ xs)) in
      let here : get_or values from (pos 0) ≡ x = ap (λ n. get_or values n (pos 0)) e ∙ ap (λ m. get_or m (length (p ++ (t ++ done))) (pos 0)) whole_list ∙ at_seam (p ++ (t ++ done)) x xs in
      let next : length (p ++ (t ++ (done ++ x ∷ []))) ≡ suc (length (p ++ (t ++ done))) = ap (λ m. length (p ++ m)) (sym (append_assoc t done (x ∷ []))) ∙ sym (next_component p (t ++ done) x) in
      let rest : all_true_at (guard_tests (length p) (length t) (suc from) gs) values ≡ turns gs ((p ++ done) ++ x ∷ []) xs =
      ap (λ m. all_true_at (guard_tests (length p) (length t) (suc from) gs) (p ++ (t ++ m))) (sym (push_append done x xs))
      ∙ guards_hold gs (done ++ x ∷ []) xs (suc from) (ap suc e ∙ sym next) (subst (λ n. see_outwards n gs ≡ true) (next_component p done x) d.1) (omega arith)
      ∙ ap (λ m. turns gs m xs) (sym (append_assoc p done (x ∷ []))) in
      and_same (ap (λ z. int_le z (get_or values from (pos 0))) (outside done (x ∷ xs) low a.0) ∙ ap (int_le (whole low (p ++ done))) here)
      (and_same (ap (λ z. compares rel z (whole (moved (length p) (length t) high) values)) here ∙ ap (compares rel x) (outside done (x ∷ xs) high b.0) ∙ goes rel x (whole high (p ++ done)) d.0) rest)
  guards_hold (Test cond ∷ gs) done xs from e s l =
      let a = both_true (sees_cond (length (p ++ done)) cond) (see_outwards (length (p ++ done)) gs) s in
      and_same (cond_outside done xs cond a.0) (guards_hold gs done xs from e a.1 l)
