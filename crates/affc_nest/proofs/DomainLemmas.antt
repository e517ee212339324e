-- The rows of a domain hold exactly where the iterators turn.
use Rattle.std.proofs.Common.{◌≡◌, ℕ, suc, ◌+◌, ℤ, pos, negsuc, ◌+ℤ◌, ◌-ℤ◌, ◌*ℤ◌, ◌≤ℤ◌, ◌<ℤ◌, true, true≢false, IsTrue, List, [], ◌∷◌, ◌++◌, length, refl, sym, ap, ◌∙◌, subst, arith}
use Rattle.std.specs.Prelude.{int_le}
use Rattle.std.specs.List.{All}
use Rattle.std.proofs.lemmas.Int.{ints}
use Rattle.std.proofs.lemmas.List.Elements.{All-nil, All-cons}
use Rattle.affc_rows.specs.Forms.{Affine, value}
use Rattle.affc_rows.proofs.ValueLemmas.{value-mixed}
use Rattle.affc_rows.proofs.VocabularyLemmas.{unit_width}
use Rattle.affc_system.specs.Systems.{Meets}
use Rattle.affc_ast.specs.declared.tree.Compare.{Compare}
use Rattle.affc_ast.specs.declared.tree.Ix.{Ix}
use Rattle.affc_ast.specs.declared.tree.Rel.{Rel}
use Rattle.affc_ast.specs.declared.tree.Rel.TheVariants.{Less, LessEqual, Greater, GreaterEqual, Equal, NotEqual}
use Rattle.affc_ast.specs.Fits.{whole, holds, all_hold, is_true_at}
use Rattle.affc_ast.specs.Index.{compares}
use Rattle.affc_ast.specs.Joined.{is_ordered, is_joined, tests_of}
use Rattle.affc_ast.specs.Pieces.{comparisons_of}
use Rattle.affc_ast.proofs.JoinedLemmas.{tests}
use Rattle.affc_trace.proofs.EndedReads.{append_assoc}
use Rattle.affc_trace.proofs.Runs.{length_append}
use Rattle.affc_domain.specs.Affine.{form_of, is_affine}
use Rattle.affc_domain.specs.Plain.{is_plain, plain_tests, plain_cond, is_upward}
use Rattle.affc_domain.specs.Rounds.{Round, Loop, Test, goes_on, turns, loops_in}
use Rattle.affc_domain.proofs.ConditionLemmas.{plain_tests_of, joined_rounds}
use Rattle.affc_domain.proofs.CountLemmas.{turns_long}
use Rattle.affc_domain.proofs.FormLemmas.{form_width, value_of_form, column_value}
use Rattle.affc_domain.proofs.Lists.{both_true, true_both, le_true, true_le, lt_true, true_lt, length_push, at_seam}
use Rattle.affc_domain.proofs.PlainLemmas.{plain_rounds, is_plain_affine}
use Rattle.affc_nest.specs.Domains.{gap_row, compare_rows, test_rows, column_form, bounds_of, condition_rows}

-- the rows of the loops' bounds, from outer to inner: lower, upper
abbrev pub bound_rows : (names : ℕ) → List Round → List Affine
bound_rows names [] = []
bound_rows names (Loop iter low rel high ∷ rs) =
    bounds_of names low rel high (suc (loops_in rs)) ++ bound_rows (suc names) rs
bound_rows names (Test cond ∷ rs) = bound_rows names rs

gap_value : (a b : Affine) (k : ℕ) (xs : List ℤ) → length a.coefs ≡ length xs → length b.coefs ≡ length xs
    → value (gap_row a b k) xs ≡ (value b xs -ℤ value a xs) -ℤ pos k
gap_value a b k xs h g =
    moved _ _ (value b xs) (value a xs) (value-mixed (pos 1) b (negsuc 0) a xs (g ∙ sym h) g)
  where
    moved : (d c y x : ℤ) → d +ℤ c ≡ (pos 1 *ℤ y) +ℤ (negsuc 0 *ℤ x) → d +ℤ (c -ℤ pos k) ≡ (y -ℤ x) -ℤ pos k
    moved d c y x e = omega (arith, ints)

-- ---- Comparisons

-- what the rows of a comparison say
abbrev pub Says : Rel → ℤ → ℤ → Type 0
Says Less x y = (x +ℤ pos 1) ≤ℤ y
Says LessEqual x y = x ≤ℤ y
Says Greater x y = (y +ℤ pos 1) ≤ℤ x
Says GreaterEqual x y = y ≤ℤ x
Says Equal x y = (x ≤ℤ y) × (y ≤ℤ x)
Says NotEqual x y = Unit {0}

says : (rel : Rel) (x y : ℤ) → IsTrue (compares rel x y) → Says rel x y
says Less x y h = grind (arith, ints)
says LessEqual x y h = grind (arith, ints)
says Greater x y h = grind (arith, ints)
says GreaterEqual x y h = grind (arith, ints)
says NotEqual x y h = tt
says Equal x y h = let b = both_true (int_le x y) (int_le y x) h in (first x y b.0, first y x b.1)
  where
    first : (x y : ℤ) → int_le x y ≡ true → x ≤ℤ y
    first x y h = grind (arith, ints)

is_said : (rel : Rel) (x y : ℤ) → IsTrue (is_ordered rel) → Says rel x y → IsTrue (compares rel x y)
is_said Less x y o h = grind (arith, ints)
is_said LessEqual x y o h = grind (arith, ints)
is_said Greater x y o h = grind (arith, ints)
is_said GreaterEqual x y o h = grind (arith, ints)
is_said NotEqual x y o h = absurd (true≢false (sym o))
is_said Equal x y o h = true_both (int_le x y) (int_le y x) (first x y h.0) (first y x h.1)
  where
    first : (x y : ℤ) → x ≤ℤ y → int_le x y ≡ true
    first x y h = grind (arith, ints)

module _ (a b : Affine) (xs : List ℤ) (u : length a.coefs ≡ length xs) (v : length b.coefs ≡ length xs) where
  gap_up : (k : ℕ) → (value a xs +ℤ pos k) ≤ℤ value b xs → Meets xs (gap_row a b k)
  gap_up k h = let e = gap_value a b k xs u v in above _ _ _ k e h
    where
      above : (w x y : ℤ) (k : ℕ) → w ≡ (y -ℤ x) -ℤ pos k → (x +ℤ pos k) ≤ℤ y → pos 0 ≤ℤ w
      above w x y k e h = omega (arith, ints)

  gap_down : (k : ℕ) → Meets xs (gap_row a b k) → (value a xs +ℤ pos k) ≤ℤ value b xs
  gap_down k h = let e = gap_value a b k xs u v in below _ _ _ k e h
    where
      below : (w x y : ℤ) (k : ℕ) → w ≡ (y -ℤ x) -ℤ pos k → pos 0 ≤ℤ w → (x +ℤ pos k) ≤ℤ y
      below w x y k e h = omega (arith, ints)

-- ---- Lists of rows that are met

-- each of these rows is met
abbrev pub Met : List ℤ → List Affine → Type 0
Met xs [] = Unit {0}
Met xs (r ∷ rs) = Meets xs r × Met xs rs

pub to_all : (xs : List ℤ) (rows : List Affine) → Met xs rows → All (Meets xs) rows
to_all xs [] m = All-nil (Meets xs)
to_all xs (r ∷ rs) m = All-cons (Meets xs) r rs m.0 (to_all xs rs m.1)

pub from_all : (xs : List ℤ) (rows : List Affine) → All (Meets xs) rows → Met xs rows
from_all xs [] a = tt
from_all xs (r ∷ rs) a = (a 0 r (omega arith), from_all xs rs (λ i d h. a (suc i) d (omega arith)))

pub met_append : (xs : List ℤ) (rows more : List Affine) → Met xs rows → Met xs more → Met xs (rows ++ more)
met_append xs [] more m n = n
met_append xs (r ∷ rs) more m n = (m.0, met_append xs rs more m.1 n)

pub met_both : (xs : List ℤ) (rows more : List Affine) → Met xs (rows ++ more) → Met xs rows × Met xs more
met_both xs [] more m = (tt, m)
met_both xs (r ∷ rs) more m = let b = met_both xs rs more m.1 in ((m.0, b.0), b.1)

module _ (a b : Affine) (xs : List ℤ) (u : length a.coefs ≡ length xs) (v : length b.coefs ≡ length xs) where
  pub no_gap_up : (x y : Affine) (h : length x.coefs ≡ length xs) (g : length y.coefs ≡ length xs) → value x xs ≤ℤ value y xs → Meets xs (gap_row x y 0)
  no_gap_up x y h g l = gap_up x y xs h g 0 (plus_none (value x xs) (value y xs) l)
    where
      plus_none : (x y : ℤ) → x ≤ℤ y → (x +ℤ pos 0) ≤ℤ y
      plus_none x y h = omega (arith, ints)

  pub no_gap_down : (x y : Affine) (h : length x.coefs ≡ length xs) (g : length y.coefs ≡ length xs) → Meets xs (gap_row x y 0) → value x xs ≤ℤ value y xs
  no_gap_down x y h g m = plus_none (value x xs) (value y xs) (gap_down x y xs h g 0 m)
    where
      plus_none : (x y : ℤ) → (x +ℤ pos 0) ≤ℤ y → x ≤ℤ y
      plus_none x y h = omega (arith, ints)

  pub rows_say : (rel : Rel) → Met xs (compare_rows rel a b) → Says rel (value a xs) (value b xs)
  rows_say Less m = gap_down a b xs u v 1 m.0
  rows_say LessEqual m = no_gap_down a b u v m.0
  rows_say Greater m = gap_down b a xs v u 1 m.0
  rows_say GreaterEqual m = no_gap_down b a v u m.0
  rows_say Equal m = (no_gap_down a b u v m.1.0, no_gap_down b a v u m.0)
  rows_say NotEqual m = tt

  pub say_rows : (rel : Rel) → Says rel (value a xs) (value b xs) → Met xs (compare_rows rel a b)
  say_rows Less h = (gap_up a b xs u v 1 h, tt)
  say_rows LessEqual h = (no_gap_up a b u v h, tt)
  say_rows Greater h = (gap_up b a xs v u 1 h, tt)
  say_rows GreaterEqual h = (no_gap_up b a v u h, tt)
  say_rows Equal h = (no_gap_up b a v u h.1, (no_gap_up a b u v h.0, tt))
  say_rows NotEqual h = tt

-- ---- Conditions

module _ (names more : List ℤ) where
  form_fits : (e : Ix) → length (form_of (length names) (length more) e).coefs ≡ length (names ++ more)
  form_fits e = form_width (length names) (length more) e ∙ sym (length_append names more)

  holds_says : (k : Compare) → IsTrue (is_affine k.left) → IsTrue (is_affine k.right) → IsTrue (is_ordered k.rel) → Met (names ++ more) (compare_rows k.rel (form_of (length names) (length more) k.left) (form_of (length names) (length more) k.right))
      → IsTrue (holds k names)
  holds_says k f g o m =
      let s = rows_say (form_of (length names) (length more) k.left) (form_of (length names) (length more) k.right) (names ++ more) (form_fits k.left) (form_fits k.right) k.rel m in
      is_said k.rel (whole k.left names) (whole k.right names) o (subst (λ z. Says k.rel z (whole k.right names)) (value_of_form names more k.left f)
      (subst (λ z. Says k.rel (value (form_of (length names) (length more) k.left) (names ++ more)) z) (value_of_form names more k.right g) s))

  says_holds : (k : Compare) → IsTrue (is_affine k.left) → IsTrue (is_affine k.right) → IsTrue (holds k names)
      → Met (names ++ more) (compare_rows k.rel (form_of (length names) (length more) k.left) (form_of (length names) (length more) k.right))
  says_holds k f g h =
      let s = says k.rel (whole k.left names) (whole k.right names) h in
      say_rows (form_of (length names) (length more) k.left) (form_of (length names) (length more) k.right) (names ++ more) (form_fits k.left) (form_fits k.right) k.rel
      (subst (λ z. Says k.rel z (value (form_of (length names) (length more) k.right) (names ++ more))) (sym (value_of_form names more k.left f))
      (subst (λ z. Says k.rel (whole k.left names) z) (sym (value_of_form names more k.right g)) s))

  pub tests_hold : (seen : ℕ) (cs : List Compare) → IsTrue (plain_tests seen cs) → Met (names ++ more) (test_rows (length names) (length more) cs) → IsTrue (all_hold cs names)
  tests_hold seen [] a m = refl
  tests_hold seen (k ∷ cs) a m =
      let b = met_both (names ++ more) _ (test_rows (length names) (length more) cs) m in
      let l = both_true (is_plain seen k.left) _ a in
      let r = both_true (is_plain seen k.right) _ l.1 in
      let o = both_true (is_ordered k.rel) (plain_tests seen cs) r.1 in
      true_both (holds k names) (all_hold cs names) (holds_says k (is_plain_affine seen k.left l.0) (is_plain_affine seen k.right r.0) o.0 b.0) (tests_hold seen cs o.1 b.1)

  pub hold_tests : (seen : ℕ) (cs : List Compare) → IsTrue (plain_tests seen cs) → IsTrue (all_hold cs names) → Met (names ++ more) (test_rows (length names) (length more) cs)
  hold_tests seen [] a h = tt
  hold_tests seen (k ∷ cs) a h =
      let b = both_true (holds k names) (all_hold cs names) h in
      let l = both_true (is_plain seen k.left) _ a in
      let r = both_true (is_plain seen k.right) _ l.1 in
      let o = both_true (is_ordered k.rel) (plain_tests seen cs) r.1 in
      met_append (names ++ more) _ (test_rows (length names) (length more) cs) (says_holds k (is_plain_affine seen k.left l.0) (is_plain_affine seen k.right r.0) b.0) (hold_tests seen cs o.1 b.1)

-- ---- Loops

under_says : (rel : Rel) (x high : ℤ) → goes_on rel x high ≡ true → Says rel x high
under_says Less x high h = let l : x <ℤ high = true_lt x high h in omega (arith, ints)
under_says LessEqual x high h = true_le x high h
under_says Greater x high h = absurd (true≢false (sym h))
under_says GreaterEqual x high h = absurd (true≢false (sym h))
under_says Equal x high h = absurd (true≢false (sym h))
under_says NotEqual x high h = absurd (true≢false (sym h))

says_under : (rel : Rel) (x high : ℤ) → IsTrue (is_upward rel) → Says rel x high → goes_on rel x high ≡ true
says_under Less x high u h = lt_true x high (omega (arith, ints))
says_under LessEqual x high u h = le_true x high h
says_under Greater x high u h = absurd (true≢false (sym u))
says_under GreaterEqual x high u h = absurd (true≢false (sym u))
says_under Equal x high u h = absurd (true≢false (sym u))
says_under NotEqual x high u h = absurd (true≢false (sym u))

-- a loop's rows at the iterator x, with xs behind it
module _ (names : List ℤ) (x : ℤ) (xs : List ℤ) (low : Ix) (rel : Rel) (high : Ix) (f : IsTrue (is_affine low)) (g : IsTrue (is_affine high)) where
  the_column : Affine
  the_column = column_form (length names + length (x ∷ xs)) (length names)

  column_fits : length (column_form (length names + length (x ∷ xs)) (length names)).coefs ≡ length (names ++ x ∷ xs)
  column_fits = unit_width (length names + length (x ∷ xs)) (length names) ∙ sym (length_append names (x ∷ xs))

  column_is : value (column_form (length names + length (x ∷ xs)) (length names)) (names ++ x ∷ xs) ≡ x
  column_is = ap (λ n. value (column_form n (length names)) (names ++ x ∷ xs)) (sym (length_append names (x ∷ xs))) ∙ column_value (names ++ x ∷ xs) (length names) ∙ at_seam names x xs

  abbrev loop_rows : List Affine
  loop_rows = gap_row (form_of (length names) (length (x ∷ xs)) low) (column_form (length names + length (x ∷ xs)) (length names)) 0
      ∷ compare_rows rel (column_form (length names + length (x ∷ xs)) (length names)) (form_of (length names) (length (x ∷ xs)) high)

  loop_met : whole low names ≤ℤ x → goes_on rel x (whole high names) ≡ true → Met (names ++ x ∷ xs) loop_rows
  loop_met h u =
      let l = form_of (length names) (length (x ∷ xs)) low in
      let c = column_form (length names + length (x ∷ xs)) (length names) in
      let e = form_of (length names) (length (x ∷ xs)) high in (
        no_gap_up l c (names ++ x ∷ xs) (form_fits names (x ∷ xs) low) column_fits l c (form_fits names (x ∷ xs) low) column_fits
            (subst (λ z. value l (names ++ x ∷ xs) ≤ℤ z) (sym column_is) (subst (λ z. z ≤ℤ x) (sym (value_of_form names (x ∷ xs) low f)) h)),
        say_rows c e (names ++ x ∷ xs) column_fits (form_fits names (x ∷ xs) high) rel
            (subst (λ z. Says rel z (value e (names ++ x ∷ xs))) (sym column_is) (subst (λ z. Says rel x z) (sym (value_of_form names (x ∷ xs) high g)) (under_says rel x (whole high names) u))),
      )

  met_loop : IsTrue (is_upward rel) → Met (names ++ x ∷ xs) loop_rows → (whole low names ≤ℤ x) × (goes_on rel x (whole high names) ≡ true)
  met_loop up m =
      let l = form_of (length names) (length (x ∷ xs)) low in
      let c = column_form (length names + length (x ∷ xs)) (length names) in
      let e = form_of (length names) (length (x ∷ xs)) high in (
        subst (λ z. z ≤ℤ x) (value_of_form names (x ∷ xs) low f) (subst (λ z. value l (names ++ x ∷ xs) ≤ℤ z) column_is
            (no_gap_down l c (names ++ x ∷ xs) (form_fits names (x ∷ xs) low) column_fits l c (form_fits names (x ∷ xs) low) column_fits m.0)),
        says_under rel x (whole high names) up (subst (λ z. Says rel x z) (value_of_form names (x ∷ xs) high g) (subst (λ z. Says rel z (value e (names ++ x ∷ xs))) column_is
            (rows_say c e (names ++ x ∷ xs) column_fits (form_fits names (x ∷ xs) high) rel m.1))),
      )

-- ---- All that stands round an assignment

push_append : (names : List ℤ) (x : ℤ) (xs : List ℤ) → (names ++ x ∷ []) ++ xs ≡ names ++ x ∷ xs
push_append names x xs = append_assoc names (x ∷ []) xs

-- behind the first iterator
pub inner : (names : List ℤ) (x : ℤ) (xs : List ℤ) (rows : ℕ → List Affine) → Met ((names ++ x ∷ []) ++ xs) (rows (length (names ++ x ∷ []))) → Met (names ++ x ∷ xs) (rows (suc (length names)))
inner names x xs rows m = subst (λ n. Met (names ++ x ∷ xs) (rows n)) (length_push names x) (subst (λ ys. Met ys (rows (length (names ++ x ∷ [])))) (push_append names x xs) m)

pub outer : (names : List ℤ) (x : ℤ) (xs : List ℤ) (rows : ℕ → List Affine) → Met (names ++ x ∷ xs) (rows (suc (length names))) → Met ((names ++ x ∷ []) ++ xs) (rows (length (names ++ x ∷ [])))
outer names x xs rows m = subst (λ n. Met ((names ++ x ∷ []) ++ xs) (rows n)) (sym (length_push names x)) (subst (λ ys. Met ys (rows (suc (length names)))) (sym (push_append names x xs)) m)

pub turns_met : (params loops comparisons : ℕ) (rs : List Round) (names xs : List ℤ) → IsTrue (plain_rounds params loops comparisons rs) → IsTrue (joined_rounds rs) → IsTrue (turns rs names xs)
    → Met (names ++ xs) (bound_rows (length names) rs) × Met (names ++ xs) (condition_rows (length names) rs)
turns_met params loops comparisons [] names xs a j t = (tt, tt)
turns_met params loops comparisons (Loop iter low rel high ∷ rs) names [] a j t = absurd (true≢false (sym t))
turns_met params loops comparisons (Loop iter low rel high ∷ rs) names (x ∷ xs) a j t =
    let a1 = both_true _ _ a in
    let a2 = both_true _ _ a1.1 in
    let a3 = both_true _ _ a2.1 in
    let a4 = both_true _ _ a3.1 in
    let t1 = both_true (int_le (whole low names) x) _ t in
    let t2 = both_true (goes_on rel x (whole high names)) (turns rs (names ++ x ∷ []) xs) t1.1 in
    let r = turns_met params (suc loops) comparisons rs (names ++ x ∷ []) xs a4.1 j t2.1 in
    let e : length xs ≡ loops_in rs = turns_long rs (names ++ x ∷ []) xs t2.1 in
    let here = loop_met names x xs low rel high (is_plain_affine (params + loops) low a3.0) (is_plain_affine (params + loops) high a4.0) (true_le (whole low names) x t1.0) t2.0 in (
      met_append (names ++ x ∷ xs) (bounds_of (length names) low rel high (suc (loops_in rs))) (bound_rows (suc (length names)) rs)
          (subst (λ k. Met (names ++ x ∷ xs) (bounds_of (length names) low rel high (suc k))) e here) (inner names x xs (λ n. bound_rows n rs) r.0),
      inner names x xs (λ n. condition_rows n rs) r.1,
    )
turns_met params loops comparisons (Test cond ∷ rs) names xs a j t =
    let b = both_true (plain_cond (params + loops) cond) (plain_rounds params loops (comparisons + comparisons_of cond) rs) a in
    let k = both_true (is_joined cond) (joined_rounds rs) j in
    let u = both_true (is_true_at cond names) (turns rs names xs) t in
    let r = turns_met params loops (comparisons + comparisons_of cond) rs names xs b.1 k.1 u.1 in
    let e : length xs ≡ loops_in rs = turns_long rs names xs u.1 in
    let plain = plain_tests_of (params + loops) cond k.0 b.0 in
    let hold : IsTrue (all_hold (tests_of cond) names) = tests cond names k.0 ∙ u.0 in (
      r.0,
      met_append (names ++ xs) (test_rows (length names) (loops_in rs) (tests_of cond)) (condition_rows (length names) rs)
          (subst (λ n. Met (names ++ xs) (test_rows (length names) n (tests_of cond))) e (hold_tests names xs (params + loops) (tests_of cond) plain hold)) r.1,
    )

pub met_turns : (params loops comparisons : ℕ) (rs : List Round) (names xs : List ℤ) → IsTrue (plain_rounds params loops comparisons rs) → IsTrue (joined_rounds rs) → length xs ≡ loops_in rs
    → Met (names ++ xs) (bound_rows (length names) rs) → Met (names ++ xs) (condition_rows (length names) rs) → IsTrue (turns rs names xs)
met_turns params loops comparisons [] names [] a j e m n = refl
met_turns params loops comparisons [] names (x ∷ xs) a j e m n = absurd (omega arith)
met_turns params loops comparisons (Loop iter low rel high ∷ rs) names [] a j e m n = absurd (omega arith)
met_turns params loops comparisons (Loop iter low rel high ∷ rs) names (x ∷ xs) a j e m n =
    let e' : length xs ≡ loops_in rs = omega (arith, e) in
    let a1 = both_true _ _ a in
    let a2 = both_true _ _ a1.1 in
    let a3 = both_true _ _ a2.1 in
    let a4 = both_true _ _ a3.1 in
    let b = met_both (names ++ x ∷ xs) (bounds_of (length names) low rel high (suc (loops_in rs))) (bound_rows (suc (length names)) rs) m in
    let h = met_loop names x xs low rel high (is_plain_affine (params + loops) low a3.0) (is_plain_affine (params + loops) high a4.0) a2.0
    (subst (λ k. Met (names ++ x ∷ xs) (bounds_of (length names) low rel high (suc k))) (sym e') b.0) in
    true_both (int_le (whole low names) x) _ (le_true (whole low names) x h.0) (true_both (goes_on rel x (whole high names)) (turns rs (names ++ x ∷ []) xs) h.1
    (met_turns params (suc loops) comparisons rs (names ++ x ∷ []) xs a4.1 j e' (outer names x xs (λ n. bound_rows n rs) b.1) (outer names x xs (λ n. condition_rows n rs) n)))
met_turns params loops comparisons (Test cond ∷ rs) names xs a j e m n =
    let c = both_true (plain_cond (params + loops) cond) (plain_rounds params loops (comparisons + comparisons_of cond) rs) a in
    let k = both_true (is_joined cond) (joined_rounds rs) j in
    let b = met_both (names ++ xs) (test_rows (length names) (loops_in rs) (tests_of cond)) (condition_rows (length names) rs) n in
    let plain = plain_tests_of (params + loops) cond k.0 c.0 in
    let hold = tests_hold names xs (params + loops) (tests_of cond) plain (subst (λ k. Met (names ++ xs) (test_rows (length names) k (tests_of cond))) (sym e) b.0) in
    true_both (is_true_at cond names) (turns rs names xs) (sym (tests cond names k.0) ∙ hold)
    (met_turns params loops (comparisons + comparisons_of cond) rs names xs c.1 k.1 e m b.1)
