-- The rows of a domain have a column for each parameter and each loop.
use Rattle.std.proofs.Common.{◌≡◌, ℕ, suc, ◌+◌, ℤ, pos, negsuc, List, [], ◌∷◌, ◌++◌, length, sym, subst, ◌∙◌, arith}
use Rattle.affc_rows.specs.Forms.{Affine, HaveColumns}
use Rattle.affc_rows.proofs.ValueLemmas.{length-mixed}
use Rattle.affc_rows.proofs.VocabularyLemmas.{unit_width}
use Rattle.affc_ast.specs.declared.tree.Compare.{Compare}
use Rattle.affc_ast.specs.declared.tree.Ix.{Ix}
use Rattle.affc_ast.specs.declared.tree.Rel.{Rel}
use Rattle.affc_ast.specs.declared.tree.Rel.TheVariants.{Less, LessEqual, Greater, GreaterEqual, Equal, NotEqual}
use Rattle.affc_ast.specs.Joined.{tests_of}
use Rattle.affc_domain.specs.Affine.{form_of}
use Rattle.affc_domain.specs.Rounds.{Round, Loop, Test, loops_in}
use Rattle.affc_domain.proofs.ColumnLemmas.{no_columns, more_columns, append_columns}
use Rattle.affc_domain.proofs.FormLemmas.{form_width, number_width}
use Rattle.affc_nest.specs.Domains.{gap_row, compare_rows, test_rows, column_form, number_form, range_rows, box_rows, bounds_of, loop_rows, condition_rows, domain_rows}

pub gap_wide : (n : ℕ) (a b : Affine) (k : ℕ) → length a.coefs ≡ n → length b.coefs ≡ n → length (gap_row a b k).coefs ≡ n
gap_wide n a b k u v = length-mixed (pos 1) b.coefs (negsuc 0) a.coefs (v ∙ sym u) ∙ v

one_wide : (n k : ℕ) (a b : Affine) → length a.coefs ≡ n → length b.coefs ≡ n → HaveColumns n (gap_row a b k ∷ [])
one_wide n k a b u v = more_columns n (gap_row a b k) [] (gap_wide n a b k u v) (no_columns n)

pub compare_wide : (n : ℕ) (rel : Rel) (a b : Affine) → length a.coefs ≡ n → length b.coefs ≡ n → HaveColumns n (compare_rows rel a b)
compare_wide n Less a b u v = one_wide n 1 a b u v
compare_wide n LessEqual a b u v = one_wide n 0 a b u v
compare_wide n Greater a b u v = one_wide n 1 b a v u
compare_wide n GreaterEqual a b u v = one_wide n 0 b a v u
compare_wide n Equal a b u v = more_columns n (gap_row b a 0) (gap_row a b 0 ∷ []) (gap_wide n b a 0 v u) (one_wide n 0 a b u v)
compare_wide n NotEqual a b u v = no_columns n

tests_wide : (names more : ℕ) (cs : List Compare) → HaveColumns (names + more) (test_rows names more cs)
tests_wide names more [] = no_columns (names + more)
tests_wide names more (c ∷ cs) =
    append_columns (names + more) (compare_rows c.rel (form_of names more c.left) (form_of names more c.right)) (test_rows names more cs)
    (compare_wide (names + more) c.rel (form_of names more c.left) (form_of names more c.right) (form_width names more c.left) (form_width names more c.right)) (tests_wide names more cs)

range_wide : (n j : ℕ) (r : ℤ × ℤ) → HaveColumns n (range_rows n j r)
range_wide n j r =
    more_columns n (gap_row (number_form n r.0) (column_form n j) 0) (gap_row (column_form n j) (number_form n r.1) 0 ∷ []) (gap_wide n (number_form n r.0) (column_form n j) 0 (number_width n r.0) (unit_width n j))
    (one_wide n 0 (column_form n j) (number_form n r.1) (unit_width n j) (number_width n r.1))

box_wide : (n j : ℕ) (rs : List (ℤ × ℤ)) → HaveColumns n (box_rows n j rs)
box_wide n j [] = no_columns n
box_wide n j (r ∷ rs) = append_columns n (range_rows n j r) (box_rows n (suc j) rs) (range_wide n j r) (box_wide n (suc j) rs)

bounds_wide : (names : ℕ) (low : Ix) (rel : Rel) (high : Ix) (more : ℕ) → HaveColumns (names + more) (bounds_of names low rel high more)
bounds_wide names low rel high more =
    let n = names + more in
    more_columns n (gap_row (form_of names more low) (column_form n names) 0) (compare_rows rel (column_form n names) (form_of names more high))
    (gap_wide n (form_of names more low) (column_form n names) 0 (form_width names more low) (unit_width n names))
    (compare_wide n rel (column_form n names) (form_of names more high) (unit_width n names) (form_width names more high))

one_in : (m n : ℕ) → suc m + n ≡ m + suc n
one_in m n = omega arith

loops_wide : (names : ℕ) (boxes : List (ℤ × ℤ)) (rs : List Round) → HaveColumns (names + loops_in rs) (loop_rows names boxes rs)
loops_wide names boxes [] = no_columns (names + 0)
loops_wide names [] (Loop iter low rel high ∷ rs) = no_columns (names + suc (loops_in rs))
loops_wide names (r ∷ boxes) (Loop iter low rel high ∷ rs) =
    let n = names + suc (loops_in rs) in
    append_columns n (bounds_of names low rel high (suc (loops_in rs))) (range_rows n names r ++ loop_rows (suc names) boxes rs) (bounds_wide names low rel high (suc (loops_in rs)))
    (append_columns n (range_rows n names r) (loop_rows (suc names) boxes rs) (range_wide n names r) (subst (λ k. HaveColumns k (loop_rows (suc names) boxes rs)) (one_in names (loops_in rs)) (loops_wide (suc names) boxes rs)))
loops_wide names [] (Test cond ∷ rs) = loops_wide names [] rs
loops_wide names (r ∷ boxes) (Test cond ∷ rs) = loops_wide names (r ∷ boxes) rs

conditions_wide : (names : ℕ) (rs : List Round) → HaveColumns (names + loops_in rs) (condition_rows names rs)
conditions_wide names [] = no_columns (names + 0)
conditions_wide names (Loop iter low rel high ∷ rs) = subst (λ k. HaveColumns k (condition_rows (suc names) rs)) (one_in names (loops_in rs)) (conditions_wide (suc names) rs)
conditions_wide names (Test cond ∷ rs) = append_columns (names + loops_in rs) (test_rows names (loops_in rs) (tests_of cond)) (condition_rows names rs) (tests_wide names (loops_in rs) (tests_of cond)) (conditions_wide names rs)

pub rows_wide : (params : List (ℤ × ℤ)) (context : List Compare) (ranges : List (ℤ × ℤ)) (rs : List Round) → HaveColumns (length params + loops_in rs) (domain_rows params context ranges rs)
rows_wide params context ranges rs =
    let m = length params in
    let n = loops_in rs in
    append_columns (m + n) (box_rows (m + n) 0 params) (test_rows m n context ++ (loop_rows m ranges rs ++ condition_rows m rs)) (box_wide (m + n) 0 params)
    (append_columns (m + n) (test_rows m n context) (loop_rows m ranges rs ++ condition_rows m rs) (tests_wide m n context)
    (append_columns (m + n) (loop_rows m ranges rs) (condition_rows m rs) (loops_wide m ranges rs) (conditions_wide m rs)))
