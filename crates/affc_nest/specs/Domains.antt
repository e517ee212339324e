-- The domain of an assignment (Feautrier 1991) as rows over the number parameters, in order of declaration, and then the
-- iterators round it, from outer to inner. A row says that it is at least 0.
use Rattle.std.specs.Prelude.{ℕ, suc, ◌+◌, ℤ, List, [], ◌∷◌, ◌++◌, length}
use Rattle.affc_rows.specs.Forms.{Affine}
use Rattle.affc_system.specs.Systems.{Rows}
use Rattle.affc_ast.specs.declared.tree.Compare.{Compare}
use Rattle.affc_ast.specs.declared.tree.Ix.{Ix}
use Rattle.affc_ast.specs.declared.tree.Rel.{Rel}
use Rattle.affc_ast.specs.declared.tree.Rel.TheVariants.{Less, LessEqual, Greater, GreaterEqual, Equal, NotEqual}
use Rattle.affc_ast.specs.Joined.{tests_of}
use Rattle.affc_domain.specs.Affine.{form_of}
use Rattle.affc_domain.specs.Rounds.{Round, Loop, Test, loops_in}
pub use Rattle.affc_rows.specs.Vocabulary.{gap_row, column_form, number_form}

-- ---- Rows

-- the rows of a comparison; "==" first says that the left side is at least the right one, and "!=" has none
abbrev pub compare_rows : Rel → (a b : Affine) → List Affine
compare_rows Less a b = gap_row a b 1 ∷ []
compare_rows LessEqual a b = gap_row a b 0 ∷ []
compare_rows Greater a b = gap_row b a 1 ∷ []
compare_rows GreaterEqual a b = gap_row b a 0 ∷ []
compare_rows Equal a b = gap_row b a 0 ∷ gap_row a b 0 ∷ []
compare_rows NotEqual a b = []

-- the rows of comparisons over so many names in sight, and columns that they don't see
abbrev pub test_rows : (names more : ℕ) → List Compare → List Affine
test_rows names more [] = []
test_rows names more (c ∷ cs) = compare_rows c.rel (form_of names more c.left) (form_of names more c.right) ++ test_rows names more cs

-- column j from the low to the high end of a range
abbrev pub range_rows : (columns j : ℕ) → ℤ × ℤ → List Affine
range_rows columns j r = gap_row (number_form columns r.0) (column_form columns j) 0 ∷ gap_row (column_form columns j) (number_form columns r.1) 0 ∷ []

-- the columns from j on in their ranges
abbrev pub box_rows : (columns j : ℕ) → List (ℤ × ℤ) → List Affine
box_rows columns j [] = []
box_rows columns j (r ∷ rs) = range_rows columns j r ++ box_rows columns (suc j) rs

-- ---- What stands round an assignment, where so many names are in sight outside

-- a loop's lower and upper bound, where its iterator is the first of so many columns more
abbrev pub bounds_of : (names : ℕ) → (low : Ix) → Rel → (high : Ix) → (more : ℕ) → List Affine
bounds_of names low rel high more =
    let x = column_form (names + more) names in
    gap_row (form_of names more low) x 0 ∷ compare_rows rel x (form_of names more high)

-- per loop, from outer to inner: lower bound, upper bound, and the ends of its range
abbrev pub loop_rows : (names : ℕ) → List (ℤ × ℤ) → List Round → List Affine
loop_rows names ranges [] = []
loop_rows names [] (Loop iter low rel high ∷ rs) = []
loop_rows names (r ∷ ranges) (Loop iter low rel high ∷ rs) =
    let more = suc (loops_in rs) in
    bounds_of names low rel high more ++ (range_rows (names + more) names r ++ loop_rows (suc names) ranges rs)
loop_rows names ranges (Test cond ∷ rs) = loop_rows names ranges rs

-- the conditions, from outer to inner, each by the comparisons that are joined in it
abbrev pub condition_rows : (names : ℕ) → List Round → List Affine
condition_rows names [] = []
condition_rows names (Loop iter low rel high ∷ rs) = condition_rows (suc names) rs
condition_rows names (Test cond ∷ rs) = test_rows names (loops_in rs) (tests_of cond) ++ condition_rows names rs

-- a domain, where the parameters and the loops have these ranges: the parameters, the context, the loops, the conditions
abbrev pub domain_rows : (params : List (ℤ × ℤ)) → (context : List Compare) → (ranges : List (ℤ × ℤ)) → List Round → List Affine
domain_rows params context ranges rs =
    let m = length params in
    let n = loops_in rs in
    box_rows (m + n) 0 params ++ (test_rows m n context ++ (loop_rows m ranges rs ++ condition_rows m rs))

-- the system with rows more
abbrev pub with_rows : Rows → List Affine → Rows
with_rows system more = record system { rows = system.rows ++ more }
