-- The rows of a domain and the forms of a schedule are near.
use Rattle.std.proofs.Common.{◌≡◌, ℕ, suc, ◌+◌, ◌^◌, ◌≤◌, List, [], ◌∷◌, ◌++◌, length, IsTrue, ℤ, subst, arith}
use Rattle.std.specs.Prelude.{unsigned_abs, ◌&&◌}
use Rattle.std.specs.List.{All}
use Rattle.std.proofs.lemmas.List.Elements.{All-nil, All-cons, All-append}
use Rattle.affc_rows.specs.Forms.{Affine}
use Rattle.affc_rows.proofs.SizeLemmas.{within_raised, gap_within}
use Rattle.affc_ast.specs.declared.tree.Compare.{Compare}
use Rattle.affc_ast.specs.declared.tree.Rel.{Rel}
use Rattle.affc_ast.specs.declared.tree.Rel.TheVariants.{Less, LessEqual, Greater, GreaterEqual, Equal, NotEqual}
use Rattle.affc_domain.specs.Affine.{form_of}
use Rattle.affc_ast.specs.Joined.{is_ordered, tests_of}
use Rattle.affc_domain.specs.Plain.{is_plain, plain_tests, plain_cond}
use Rattle.affc_domain.specs.Rounds.{Round, Loop, Test, loops_in}
use Rattle.affc_domain.proofs.Lists.{both_true}
use Rattle.affc_nest.specs.Domains.{gap_row, compare_rows, test_rows, column_form, number_form, range_rows, box_rows, bounds_of, loop_rows, condition_rows, domain_rows}
use Rattle.affc_nest.specs.Frames.{plain_at}
use Rattle.affc_nest.specs.Sides.{IsSide, NearRanges}
use Rattle.affc_nest.proofs.CondRows.{of_cond}
use Rattle.affc_nest.proofs.RowLemmas.{plain_side, column_side, number_side}
use Rattle.affc_loopends.specs.Sizes.{IsNear}

-- ---- Differences of sides

gap_near : (n : ℕ) (a b : Affine) (k : ℕ) → IsSide n a → IsSide n b → k ≤ 1 → IsNear n (gap_row a b k)
gap_near n a b k s t l = within_raised n (2 ^ 16 + 2 ^ 16) ((2 ^ 32 + 2 ^ 32) + 1) (2 ^ 17) (2 ^ 34) (gap_row a b k) (omega arith) (omega arith) (gap_within n (2 ^ 16) (2 ^ 32) k a b s t l)

compare_near : (n : ℕ) (rel : Rel) (a b : Affine) → IsSide n a → IsSide n b → All (IsNear n) (compare_rows rel a b)
compare_near n Less a b s t = All-cons (IsNear n) (gap_row a b 1) [] (gap_near n a b 1 s t (omega arith)) (All-nil (IsNear n))
compare_near n LessEqual a b s t = All-cons (IsNear n) (gap_row a b 0) [] (gap_near n a b 0 s t (omega arith)) (All-nil (IsNear n))
compare_near n Greater a b s t = All-cons (IsNear n) (gap_row b a 1) [] (gap_near n b a 1 t s (omega arith)) (All-nil (IsNear n))
compare_near n GreaterEqual a b s t = All-cons (IsNear n) (gap_row b a 0) [] (gap_near n b a 0 t s (omega arith)) (All-nil (IsNear n))
compare_near n NotEqual a b s t = All-nil (IsNear n)
compare_near n Equal a b s t =
    All-cons (IsNear n) (gap_row b a 0) (gap_row a b 0 ∷ []) (gap_near n b a 0 t s (omega arith)) (All-cons (IsNear n) (gap_row a b 0) [] (gap_near n a b 0 s t (omega arith)) (All-nil (IsNear n)))

range_near : (n j : ℕ) (r : ℤ × ℤ) → unsigned_abs r.0 ≤ 2 ^ 32 → unsigned_abs r.1 ≤ 2 ^ 32 → All (IsNear n) (range_rows n j r)
range_near n j r h g =
    let low = gap_row (number_form n r.0) (column_form n j) 0 in
    let high = gap_row (column_form n j) (number_form n r.1) 0 in
    All-cons (IsNear n) low (high ∷ []) (gap_near n (number_form n r.0) (column_form n j) 0 (number_side n r.0 h) (column_side n j) (omega arith))
    (All-cons (IsNear n) high [] (gap_near n (column_form n j) (number_form n r.1) 0 (column_side n j) (number_side n r.1 g) (omega arith)) (All-nil (IsNear n)))

box_near : (n j : ℕ) (rs : List (ℤ × ℤ)) → NearRanges rs → All (IsNear n) (box_rows n j rs)
box_near n j [] h = All-nil (IsNear n)
box_near n j (r ∷ rs) h = All-append (IsNear n) (range_rows n j r) (box_rows n (suc j) rs) (range_near n j r h.0 h.1) (box_near n (suc j) rs h.2)

tests_near : (n m : ℕ) (cs : List Compare) → IsTrue (plain_tests n cs) → All (IsNear (n + m)) (test_rows n m cs)
tests_near n m [] h = All-nil (IsNear (n + m))
tests_near n m (c ∷ cs) h =
    let l = both_true (is_plain n c.left) _ h in
    let r = both_true (is_plain n c.right) _ l.1 in
    let o = both_true (is_ordered c.rel) (plain_tests n cs) r.1 in
    All-append (IsNear (n + m)) (compare_rows c.rel (form_of n m c.left) (form_of n m c.right)) (test_rows n m cs)
    (compare_near (n + m) c.rel (form_of n m c.left) (form_of n m c.right) (plain_side n m c.left l.0) (plain_side n m c.right r.0)) (tests_near n m cs o.1)

one_on : (n k : ℕ) → suc n + k ≡ n + suc k
one_on n k = omega arith

loops_near : (n : ℕ) (boxes : List (ℤ × ℤ)) (rs : List Round) → NearRanges boxes → IsTrue (plain_at n rs) → All (IsNear (n + loops_in rs)) (loop_rows n boxes rs)
loops_near n boxes [] b h = All-nil (IsNear (n + 0))
loops_near n [] (Loop iter low rel high ∷ rs) b h = All-nil (IsNear (n + suc (loops_in rs)))
loops_near n (r ∷ boxes) (Loop iter low rel high ∷ rs) b h =
    let m = suc (loops_in rs) in
    let c = column_form (n + m) n in
    let P = IsNear (n + m) in
    let l = both_true (is_plain n low) (is_plain n high && plain_at (suc n) rs) h in
    let k = both_true (is_plain n high) (plain_at (suc n) rs) l.1 in
    All-append P (bounds_of n low rel high m) (range_rows (n + m) n r ++ loop_rows (suc n) boxes rs)
    (All-cons P (gap_row (form_of n m low) c 0) (compare_rows rel c (form_of n m high)) (gap_near (n + m) (form_of n m low) c 0 (plain_side n m low l.0) (column_side (n + m) n) (omega arith))
    (compare_near (n + m) rel c (form_of n m high) (column_side (n + m) n) (plain_side n m high k.0)))
    (All-append P (range_rows (n + m) n r) (loop_rows (suc n) boxes rs) (range_near (n + m) n r b.0 b.1)
    (subst (λ k. All (IsNear k) (loop_rows (suc n) boxes rs)) (one_on n (loops_in rs)) (loops_near (suc n) boxes rs b.2 k.1)))
loops_near n boxes (Test cond ∷ rs) b h = loops_near n boxes rs b (both_true (plain_cond n cond) (plain_at n rs) h).1

conditions_near : (n : ℕ) (rs : List Round) → IsTrue (plain_at n rs) → All (IsNear (n + loops_in rs)) (condition_rows n rs)
conditions_near n [] h = All-nil (IsNear (n + 0))
conditions_near n (Loop iter low rel high ∷ rs) h =
    let l = both_true (is_plain n low) (is_plain n high && plain_at (suc n) rs) h in
    let k = both_true (is_plain n high) (plain_at (suc n) rs) l.1 in
    subst (λ k. All (IsNear k) (condition_rows (suc n) rs)) (one_on n (loops_in rs)) (conditions_near (suc n) rs k.1)
conditions_near n (Test cond ∷ rs) h =
    let l = both_true (plain_cond n cond) (plain_at n rs) h in
    let m = loops_in rs in
    All-append (IsNear (n + m)) (test_rows n m (tests_of cond)) (condition_rows n rs)
    (of_cond (IsNear (n + m)) n m (λ rel a b p q. compare_near (n + m) rel (form_of n m a) (form_of n m b) (plain_side n m a p) (plain_side n m b q)) cond l.0) (conditions_near n rs l.1)

pub domain_near : (params : List (ℤ × ℤ)) (context : List Compare) (ranges : List (ℤ × ℤ)) (rs : List Round) → NearRanges params → NearRanges ranges → IsTrue (plain_tests (length params) context) → IsTrue (plain_at (length params) rs)
    → All (IsNear (length params + loops_in rs)) (domain_rows params context ranges rs)
domain_near params context ranges rs p r c a =
    let m = length params in
    let n = loops_in rs in
    let P = IsNear (m + n) in
    All-append P (box_rows (m + n) 0 params) (test_rows m n context ++ (loop_rows m ranges rs ++ condition_rows m rs)) (box_near (m + n) 0 params p)
    (All-append P (test_rows m n context) (loop_rows m ranges rs ++ condition_rows m rs) (tests_near m n context c)
    (All-append P (loop_rows m ranges rs) (condition_rows m rs) (loops_near m ranges rs r a) (conditions_near m rs a)))
