-- The rows of a domain hold at a rational point exactly where its iterators turn.
use Rattle.std.proofs.Common.{◌≡◌, ℕ, suc, ◌+◌, List, [], ◌∷◌, ◌++◌, length, get_or, ℤ, pos, ◌*ℤ◌, ◌≤ℤ◌, refl, sym, ap, ◌∙◌, arith, length-append, append_assoc}
use Rattle.std.specs.Prelude.{◌↔◌}
use Rattle.affc_rows.proofs.VocabularyLemmas.{unit_width}
use Rattle.affc_farkas.specs.Rational.{scaled_value}
use Rattle.affc_eliminate.proofs.project.Points.{both_ways, itself}
use Rattle.affc_ast.specs.declared.tree.Compare.{Compare}
use Rattle.affc_ast.specs.declared.tree.Ix.{Ix}
use Rattle.affc_ast.specs.declared.tree.Rel.{Rel}
use Rattle.affc_ast.specs.Joined.{tests_of}
use Rattle.affc_domain.specs.Affine.{form_of}
use Rattle.affc_domain.specs.Rounds.{Round, Loop, Test, loops_in}
use Rattle.affc_domain.proofs.FormLemmas.{form_width, number_width}
use Rattle.affc_domain.proofs.Lists.{length_push, at_seam}
use Rattle.affc_nest.specs.Domains.{compare_rows, test_rows, column_form, number_form, range_rows, box_rows, bounds_of, loop_rows, condition_rows, domain_rows}
use Rattle.affc_loopends.specs.TimeSets.{scaled_at, AreRelated, HoldAll, LieWithin, Turn}
use Rattle.affc_loopends.proofs.Both.{both}
use Rattle.affc_loopends.proofs.Scaled.{Held, held_append, at_most_held, compare_held, column_scaled, number_scaled, form_scaled}

-- ---- Forms

-- zs is names and then xs, which are so many
module _ (d : ℤ) (names xs zs : List ℤ) (n m : ℕ) (is : zs ≡ names ++ xs) (front : length names ≡ n) (rest : length xs ≡ m) where
  long : length zs ≡ n + m
  long = ap length is ∙ length-append names xs ∙ ap (λ k. k + length xs) front ∙ ap (λ k. n + k) rest

  form_at : (e : Ix) → scaled_value (form_of n m e) zs d ≡ scaled_at names d e
  form_at e = ap (λ k. scaled_value (form_of k m e) zs d) (sym front) ∙ ap (λ k. scaled_value (form_of (length names) k e) zs d) (sym rest) ∙ ap (λ ys. scaled_value (form_of (length names) (length xs) e) ys d) is ∙ form_scaled names xs d e

  form_long : (e : Ix) → length (form_of n m e).coefs ≡ length zs
  form_long e = form_width n m e ∙ sym long

-- ---- Boxes

-- a column in its range
range_held : (d : ℤ) (zs : List ℤ) (c j : ℕ) (r : ℤ × ℤ) (x : ℤ) → length zs ≡ c → get_or zs j (pos 0) ≡ x
    → Held zs d (range_rows c j r) ↔ (((d *ℤ r.0) ≤ℤ x) × (x ≤ℤ (d *ℤ r.1)))
range_held d zs c j r x l e =
    let column : scaled_value (column_form c j) zs d ≡ x = ap (λ k. scaled_value (column_form k j) zs d) (sym l) ∙ column_scaled zs d j ∙ e in
    let u : length (column_form c j).coefs ≡ length zs = unit_width c j ∙ sym l in
    let v : length (number_form c r.0).coefs ≡ length zs = number_width c r.0 ∙ sym l in
    let w : length (number_form c r.1).coefs ≡ length zs = number_width c r.1 ∙ sym l in
    let low = at_most_held zs d (number_form c r.0) (column_form c j) v u (d *ℤ r.0) x (number_scaled zs d c r.0) column in
    let high = at_most_held zs d (column_form c j) (number_form c r.1) u w x (d *ℤ r.1) column (number_scaled zs d c r.1) in
    ((λ h. (low.0 h.0, high.0 h.1.0)), (λ h. (low.1 h.0, (high.1 h.1, tt))))

-- columns from the one behind these numbers on
pub box_held : (d : ℤ) (ranges : List (ℤ × ℤ)) (front p its zs : List ℤ) (c j : ℕ) → zs ≡ front ++ (p ++ its) → length front ≡ j → length zs ≡ c → length p ≡ length ranges
    → Held zs d (box_rows c j ranges) ↔ LieWithin d ranges p
box_held d [] front [] its zs c j is at l e = itself (Unit {0})
box_held d [] front (x ∷ p) its zs c j is at l e = absurd (omega arith)
box_held d (r ∷ ranges) front [] its zs c j is at l e = absurd (omega arith)
box_held d (r ∷ ranges) front (x ∷ p) its zs c j is at l e =
    let place : get_or zs j (pos 0) ≡ x = ap (λ k. get_or zs k (pos 0)) (sym at) ∙ ap (λ ys. get_or ys (length front) (pos 0)) is ∙ at_seam front x (p ++ its) in
    let here = range_held d zs c j r x l place in
    let later = box_held d ranges (front ++ x ∷ []) p its zs c (suc j) (is ∙ sym (append_assoc front (x ∷ []) (p ++ its))) (length_push front x ∙ ap suc at) l (omega arith) in
    let split = held_append zs d (range_rows c j r) (box_rows c (suc j) ranges) in (
      (λ h. let s = split.0 h in let a = here.0 s.0 in (a.0, a.1, later.0 s.1)),
      (λ h. split.1 (here.1 (h.0, h.1), later.1 h.2)),
    )

-- ---- Conditions

pub tests_held : (d : ℤ) (names xs zs : List ℤ) (n m : ℕ) → zs ≡ names ++ xs → length names ≡ n → length xs ≡ m → (cs : List Compare) → Held zs d (test_rows n m cs) ↔ HoldAll names d cs
tests_held d names xs zs n m is front rest [] = itself (Unit {0})
tests_held d names xs zs n m is front rest (c ∷ cs) =
    let a = form_of n m c.left in
    let b = form_of n m c.right in
    both_ways (Held zs d (compare_rows c.rel a b ++ test_rows n m cs)) (Held zs d (compare_rows c.rel a b) × Held zs d (test_rows n m cs)) (HoldAll names d (c ∷ cs))
    (held_append zs d (compare_rows c.rel a b) (test_rows n m cs))
    (both (Held zs d (compare_rows c.rel a b)) (AreRelated d c.rel (scaled_at names d c.left) (scaled_at names d c.right)) (Held zs d (test_rows n m cs)) (HoldAll names d cs)
    (compare_held zs d c.rel a b (form_long d names xs zs n m is front rest c.left) (form_long d names xs zs n m is front rest c.right) (scaled_at names d c.left) (scaled_at names d c.right)
    (form_at d names xs zs n m is front rest c.left) (form_at d names xs zs n m is front rest c.right))
    (tests_held d names xs zs n m is front rest cs))

-- ---- Loops

-- the bounds of a loop
bounds_held : (d : ℤ) (names : List ℤ) (x : ℤ) (xs zs : List ℤ) (n m : ℕ) → zs ≡ names ++ x ∷ xs → length names ≡ n → length (x ∷ xs) ≡ m → (low : Ix) (rel : Rel) (high : Ix)
    → Held zs d (bounds_of n low rel high m) ↔ ((scaled_at names d low ≤ℤ x) × AreRelated d rel x (scaled_at names d high))
bounds_held d names x xs zs n m is front rest low rel high =
    let l = long d names (x ∷ xs) zs n m is front rest in
    let c = column_form (n + m) n in
    let u : length c.coefs ≡ length zs = unit_width (n + m) n ∙ sym l in
    let place : get_or zs n (pos 0) ≡ x = ap (λ k. get_or zs k (pos 0)) (sym front) ∙ ap (λ ys. get_or ys (length names) (pos 0)) is ∙ at_seam names x xs in
    let column : scaled_value c zs d ≡ x = ap (λ k. scaled_value (column_form k n) zs d) (sym l) ∙ column_scaled zs d n ∙ place in
    let below = at_most_held zs d (form_of n m low) c (form_long d names (x ∷ xs) zs n m is front rest low) u (scaled_at names d low) x (form_at d names (x ∷ xs) zs n m is front rest low) column in
    let above = compare_held zs d rel c (form_of n m high) u (form_long d names (x ∷ xs) zs n m is front rest high) x (scaled_at names d high) column (form_at d names (x ∷ xs) zs n m is front rest high) in
    ((λ h. (below.0 h.0, above.0 h.1)), (λ h. (below.1 h.0, above.1 h.1)))

pub turns_held : (d : ℤ) (rs : List Round) (boxes : List (ℤ × ℤ)) (names xs zs : List ℤ) (n : ℕ) → zs ≡ names ++ xs → length names ≡ n → length xs ≡ loops_in rs → length boxes ≡ loops_in rs
    → (Held zs d (loop_rows n boxes rs) × Held zs d (condition_rows n rs)) ↔ (Turn d rs names xs × LieWithin d boxes xs)
turns_held d [] [] names [] zs n is front l e = itself (Unit {0} × Unit {0})
turns_held d [] (r ∷ boxes) names xs zs n is front l e = absurd (omega arith)
turns_held d [] [] names (x ∷ xs) zs n is front l e = absurd (omega arith)
turns_held d (Loop iter low rel high ∷ rs) [] names xs zs n is front l e = absurd (omega arith)
turns_held d (Loop iter low rel high ∷ rs) (r ∷ boxes) names [] zs n is front l e = absurd (omega arith)
turns_held d (Loop iter low rel high ∷ rs) (r ∷ boxes) names (x ∷ xs) zs n is front l e =
    let m = suc (loops_in rs) in
    let wide = long d names (x ∷ xs) zs n m is front l in
    let place : get_or zs n (pos 0) ≡ x = ap (λ k. get_or zs k (pos 0)) (sym front) ∙ ap (λ ys. get_or ys (length names) (pos 0)) is ∙ at_seam names x xs in
    let bounds = bounds_held d names x xs zs n m is front l low rel high in
    let range = range_held d zs (n + m) n r x wide place in
    let later = turns_held d rs boxes (names ++ x ∷ []) xs zs (suc n) (is ∙ sym (append_assoc names (x ∷ []) xs)) (length_push names x ∙ ap suc front) (omega arith) (omega arith) in
    let one = held_append zs d (bounds_of n low rel high m) (range_rows (n + m) n r ++ loop_rows (suc n) boxes rs) in
    let two = held_append zs d (range_rows (n + m) n r) (loop_rows (suc n) boxes rs) in (
      (λ h.
          let a = one.0 h.0 in
          let b = two.0 a.1 in
          let bound = bounds.0 a.0 in
          let box = range.0 b.0 in
          let rest = later.0 (b.1, h.1) in
          ((bound.0, bound.1, rest.0), (box.0, box.1, rest.1))),
      (λ h.
          let rest = later.1 (h.0.2, h.1.2) in
          (one.1 (bounds.1 (h.0.0, h.0.1), two.1 (range.1 (h.1.0, h.1.1), rest.0)), rest.1)),
    )
turns_held d (Test cond ∷ rs) boxes names xs zs n is front l e =
    let tests = tests_held d names xs zs n (loops_in rs) is front l (tests_of cond) in
    let later = turns_held d rs boxes names xs zs n is front l e in
    let split = held_append zs d (test_rows n (loops_in rs) (tests_of cond)) (condition_rows n rs) in (
      (λ h. let a = split.0 h.1 in let rest = later.0 (h.0, a.1) in ((tests.0 a.0, rest.0), rest.1)),
      (λ h. let rest = later.1 (h.0.1, h.1) in (rest.0, split.1 (tests.1 h.0.0, rest.1))),
    )

-- ---- Domains

pub domain_held : (d : ℤ) (params : List (ℤ × ℤ)) (context : List Compare) (ranges : List (ℤ × ℤ)) (rs : List Round) (p xs : List ℤ)
    → length p ≡ length params → length xs ≡ loops_in rs → length ranges ≡ loops_in rs
    → Held (p ++ xs) d (domain_rows params context ranges rs) ↔ (LieWithin d params p × HoldAll p d context × Turn d rs p xs × LieWithin d ranges xs)
domain_held d params context ranges rs p xs l e f =
    let zs = p ++ xs in
    let m = length params in
    let n = loops_in rs in
    let box = box_held d params [] p xs zs (m + n) 0 refl refl (long d p xs zs m n refl l e) l in
    let tests = tests_held d p xs zs m n refl l e context in
    let turns = turns_held d rs ranges p xs zs m refl l e f in
    let one = held_append zs d (box_rows (m + n) 0 params) (test_rows m n context ++ (loop_rows m ranges rs ++ condition_rows m rs)) in
    let two = held_append zs d (test_rows m n context) (loop_rows m ranges rs ++ condition_rows m rs) in
    let three = held_append zs d (loop_rows m ranges rs) (condition_rows m rs) in (
      (λ h. let a = one.0 h in let b = two.0 a.1 in let t = turns.0 (three.0 b.1) in (box.0 a.0, tests.0 b.0, t.0, t.1)),
      (λ h. one.1 (box.1 h.0, two.1 (tests.1 h.1, three.1 (turns.1 (h.2, h.3))))),
    )
