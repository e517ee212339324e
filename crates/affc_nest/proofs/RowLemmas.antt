-- Differences of sides keep the limits of rows.
use Rattle.std.proofs.Common.{◌≡◌, ℕ, suc, ◌+◌, ◌*◌, ◌^◌, ◌≤◌, ℤ, pos, negsuc, IsTrue, List, [], ◌∷◌, ◌++◌, ◌-◌, length, refl, sym, ap, ◌∙◌, subst, arith}
use Rattle.std.specs.Prelude.{unsigned_abs, nat_le, nat_abs}
use Rattle.std.specs.List.{All}
use Rattle.std.proofs.lemmas.Bool.{leb-true}
use Rattle.std.proofs.lemmas.List.Elements.{All-nil, All-cons}
use Rattle.affc_rows.specs.Forms.{Affine, TooWide, mixed_form_magnitudes}
use Rattle.affc_rows.proofs.SizeLemmas as within
use Rattle.affc_rows.proofs.SizeLemmas.{number_within, column_within, difference_within, gap_within}
use Rattle.affc_system.specs.Systems.{Rows, IsRow, FitsRow}
use Rattle.affc_system.proofs.SystemLemmas.{row_of}
use Rattle.affc_ast.specs.declared.tree.Compare.{Compare}
use Rattle.affc_ast.specs.declared.tree.Ix.{Ix}
use Rattle.affc_ast.specs.declared.tree.Rel.{Rel}
use Rattle.affc_ast.specs.declared.tree.Rel.TheVariants.{Less, LessEqual, Greater, GreaterEqual, Equal, NotEqual}
use Rattle.affc_trace.proofs.EndedReads.{append_assoc}
use Rattle.affc_trace.proofs.LastStores.{append_nil}
use Rattle.affc_trace.proofs.Runs.{length_append}
use Rattle.affc_domain.specs.Affine.{form_of, are_small, is_small}
use Rattle.affc_domain.specs.Plain.{is_plain}
use Rattle.affc_domain.specs.Rounds.{Round, Loop, Test, loops_in}
use Rattle.affc_domain.proofs.FormLemmas.{form_width}
use Rattle.affc_domain.proofs.Lists.{both_true}
use Rattle.affc_nest.specs.Domains.{gap_row, compare_rows, test_rows, column_form, number_form, range_rows, box_rows, bounds_of, loop_rows, condition_rows, domain_rows, with_rows}
use Rattle.affc_nest.proofs.WidenLemmas.{plain_small}
use Rattle.affc_nest.specs.Sides.{IsSide}

-- ---- Which forms are sides

near_small : (cs : List ℤ) → IsTrue (are_small cs) → All (λ c. unsigned_abs c ≤ 2 ^ 16) cs
near_small [] h = All-nil (λ c. unsigned_abs c ≤ 2 ^ 16)
near_small (c ∷ cs) h =
    let a = both_true (nat_le (nat_abs c) 65536) (are_small cs) h in
    All-cons (λ c. unsigned_abs c ≤ 2 ^ 16) c cs (leb-true (nat_abs c) 65536 a.0) (near_small cs a.1)

pub small_side : (n : ℕ) (f : Affine) → IsTrue (is_small f) → length f.coefs ≡ n → IsSide n f
small_side n f h w =
    let a = both_true (nat_le (nat_abs f.constant) 16777216) (are_small f.coefs) h in
    let b : unsigned_abs f.constant ≤ 16777216 = leb-true (nat_abs f.constant) 16777216 a.0 in
    record { width = w; coefs_fit = near_small f.coefs a.1; constant_fits = omega arith }

pub plain_side : (n k : ℕ) (e : Ix) → IsTrue (is_plain n e) → IsSide (n + k) (form_of n k e)
plain_side n k e h = small_side (n + k) (form_of n k e) (plain_small n k e h) (form_width n k e)

pub column_side : (n j : ℕ) → IsSide n (column_form n j)
column_side n j = column_within n (2 ^ 16) (2 ^ 32) j (omega arith)

pub number_side : (n : ℕ) (z : ℤ) → unsigned_abs z ≤ 2 ^ 32 → IsSide n (number_form n z)
number_side n z h = number_within n (2 ^ 16) (2 ^ 32) z h

pub side_row : (n : ℕ) (f : Affine) → IsSide n f → IsRow n f
side_row n f s = row_of n (2 ^ 16) (2 ^ 32) f (omega arith) (omega arith) s

-- ---- Their differences

pub gap_is_row : (n : ℕ) (a b : Affine) (k : ℕ) → IsSide n a → IsSide n b → k ≤ 1 → IsRow n (gap_row a b k)
gap_is_row n a b k s t h = row_of n (2 ^ 16 + 2 ^ 16) ((2 ^ 32 + 2 ^ 32) + 1) (gap_row a b k) (omega arith) (omega arith) (gap_within n (2 ^ 16) (2 ^ 32) k a b s t h)

pub gap_fits : (n : ℕ) (a b : Affine) (k : ℕ) → IsSide n a → IsSide n b → k ≤ 1 → FitsRow (gap_row a b k)
gap_fits n a b k s t h = (gap_is_row n a b k s t h).fits

pub gap_width : (n : ℕ) (a b : Affine) (k : ℕ) → IsSide n a → IsSide n b → length (gap_row a b k).coefs ≡ n
gap_width n a b k s t = (difference_within n (2 ^ 16) (2 ^ 32) b a t s).width

pub not_too_wide : (n : ℕ) (a b : Affine) → IsSide n a → IsSide n b → TooWide (mixed_form_magnitudes (pos 1) b (negsuc 0) a) → ⊥
not_too_wide n a b s t w = within.not_too_wide n (2 ^ 16) (2 ^ 32) b a (omega arith) (omega arith) t s w

-- ---- Rows one after the other

pub rows_after : (s t u : Rows) (xs ys : List Affine) → t ≡ with_rows s xs → u ≡ with_rows t ys → u ≡ with_rows s (xs ++ ys)
rows_after s t u xs ys e f =
    f ∙ ap (λ r. with_rows r ys) e ∙ ap (λ (rs : List Affine). let r : Rows = record { columns = s.columns; rows = rs } in r) (append_assoc s.rows xs ys)

pub no_rows : (s : Rows) → s ≡ with_rows s []
no_rows s = ap (λ (rs : List Affine). let r : Rows = record { columns = s.columns; rows = rs } in r) (sym (append_nil s.rows))

pub few_compare : (rel : Rel) (a b : Affine) → length (compare_rows rel a b) ≤ 2
few_compare Less a b = omega arith
few_compare LessEqual a b = omega arith
few_compare Greater a b = omega arith
few_compare GreaterEqual a b = omega arith
few_compare Equal a b = omega arith
few_compare NotEqual a b = omega arith

pub columns_stay : (s t : Rows) (xs : List Affine) → t ≡ with_rows s xs → t.columns ≡ s.columns
columns_stay s t xs e = ap (λ (r : Rows). r.columns) e

pub side_of_column : (n m j : ℕ) (f : Affine) → f ≡ column_form m j → m ≡ n → IsSide n f
side_of_column n m j f e g = subst (λ k. IsSide k f) g (subst (λ h. IsSide m h) (sym e) (column_side m j))

pub side_of_number : (n m : ℕ) (z : ℤ) (f : Affine) → f ≡ number_form m z → m ≡ n → unsigned_abs z ≤ 2 ^ 32 → IsSide n f
side_of_number n m z f e g h = subst (λ k. IsSide k f) g (subst (λ y. IsSide m y) (sym e) (number_side m z h))

pub side_later : (s t : Rows) (xs : List Affine) (f : Affine) → t ≡ with_rows s xs → IsSide s.columns f → IsSide t.columns f
side_later s t xs f e h = subst (λ k. IsSide k f) (sym (columns_stay s t xs e)) h

-- at most two rows for each comparison
pub few_tests : (names more : ℕ) (cs : List Compare) → length (test_rows names more cs) ≤ 2 * length cs
few_tests names more [] = omega arith
few_tests names more (c ∷ cs) =
    let a = few_compare c.rel (form_of names more c.left) (form_of names more c.right) in
    let b = few_tests names more cs in
    let d = length_append (compare_rows c.rel (form_of names more c.left) (form_of names more c.right)) (test_rows names more cs) in
    omega arith

pub loops_after : (s t u : Rows) (names n m : ℕ) (iter : List ℕ) (low : Ix) (rel : Rel) (high : Ix) (r : ℤ × ℤ) (boxes : List (ℤ × ℤ)) (rs : List Round)
    → t ≡ with_rows (with_rows s (bounds_of names low rel high m)) (range_rows (names + m) names r) → m ≡ suc (loops_in rs) → n ≡ suc names → u ≡ with_rows t (loop_rows n boxes rs)
    → u ≡ with_rows s (loop_rows names (r ∷ boxes) (Loop iter low rel high ∷ rs))
loops_after s t u names n m iter low rel high r boxes rs e f g h =
    let e' : t ≡ with_rows (with_rows s (bounds_of names low rel high (suc (loops_in rs)))) (range_rows (names + suc (loops_in rs)) names r) =
    e ∙ ap (λ k. with_rows (with_rows s (bounds_of names low rel high k)) (range_rows (names + k) names r)) f in
    let h' : u ≡ with_rows t (loop_rows (suc names) boxes rs) = h ∙ ap (λ k. with_rows t (loop_rows k boxes rs)) g in
    let tail = rows_after (with_rows s (bounds_of names low rel high (suc (loops_in rs)))) t u (range_rows (names + suc (loops_in rs)) names r) (loop_rows (suc names) boxes rs) e' h' in
    rows_after s (with_rows s (bounds_of names low rel high (suc (loops_in rs)))) u (bounds_of names low rel high (suc (loops_in rs)))
    (range_rows (names + suc (loops_in rs)) names r ++ loop_rows (suc names) boxes rs) refl tail

pub added_twice : {A : Type 0} (a b c xs ys : List A) → b ≡ a ++ xs → c ≡ b ++ ys → c ≡ a ++ (xs ++ ys)
added_twice a b c xs ys e f = f ∙ ap (λ zs. zs ++ ys) e ∙ append_assoc a xs ys

pub few_box : (n j : ℕ) (rs : List (ℤ × ℤ)) → length (box_rows n j rs) ≤ 2 * length rs
few_box n j [] = omega arith
few_box n j (r ∷ rs) = let a = few_box n (suc j) rs in omega arith

pub few_loop_rows : (names : ℕ) (boxes : List (ℤ × ℤ)) (rs : List Round) → length (loop_rows names boxes rs) ≤ 5 * loops_in rs
few_loop_rows names boxes [] = omega arith
few_loop_rows names [] (Loop iter low rel high ∷ rs) = omega arith
few_loop_rows names (r ∷ boxes) (Loop iter low rel high ∷ rs) =
    let k = suc (loops_in rs) in
    let x = column_form (names + k) names in
    let a = few_compare rel x (form_of names k high) in
    let b = few_loop_rows (suc names) boxes rs in
    let d = length_append (bounds_of names low rel high k) (range_rows (names + k) names r ++ loop_rows (suc names) boxes rs) in
    omega arith
few_loop_rows names boxes (Test cond ∷ rs) = few_loop_rows names boxes rs

pub loops_last : (s a t u : Rows) (names n m : ℕ) (iter : List ℕ) (low : Ix) (rel : Rel) (high : Ix) (r : ℤ × ℤ) (boxes all : List (ℤ × ℤ)) (rs whole : List Round)
    → whole ≡ Loop iter low rel high ∷ rs → all ≡ r ∷ boxes → s.columns ≡ names + loops_in whole → m ≡ s.columns - names → n ≡ names + 1
    → a ≡ with_rows s (bounds_of names low rel high m) → t ≡ with_rows a (range_rows a.columns names r) → u ≡ with_rows t (loop_rows n boxes rs)
    → u ≡ with_rows s (loop_rows names all whole)
loops_last s a t u names n m iter low rel high r boxes all rs whole w b columns f g p q h =
    let k : loops_in whole ≡ suc (loops_in rs) = ap loops_in w in
    let m' : m ≡ suc (loops_in rs) = omega (arith, f, columns, k) in
    let n' : n ≡ suc names = omega (arith, g) in
    let wide : a.columns ≡ names + m = columns_stay s a (bounds_of names low rel high m) p ∙ columns ∙ ap (λ j. names + j) (k ∙ sym m') in
    let t' : t ≡ with_rows (with_rows s (bounds_of names low rel high m)) (range_rows (names + m) names r) = q ∙ ap (λ j. with_rows a (range_rows j names r)) wide ∙ ap (λ y. with_rows y (range_rows (names + m) names r)) p in
    loops_after s t u names n m iter low rel high r boxes rs t' m' n' h ∙ ap (λ ys. with_rows s (loop_rows names ys (Loop iter low rel high ∷ rs))) (sym b) ∙ ap (λ ys. with_rows s (loop_rows names all ys)) (sym w)

-- a domain, part by part
pub domain_made : (ps qs : List (ℤ × ℤ)) (context : List Compare) (boxes bs : List (ℤ × ℤ)) (rs : List Round) (a b c d e : Rows) (m n : ℕ)
    → a ≡ record { columns = m + n; rows = [] } → b ≡ with_rows a (box_rows a.columns 0 qs) → c ≡ with_rows b (test_rows m n context) → d ≡ with_rows c (loop_rows m bs rs) → e ≡ with_rows d (condition_rows m rs)
    → m ≡ length ps → n ≡ loops_in rs → qs ≡ ps → bs ≡ boxes
    → e ≡ with_rows (record { columns = length ps + loops_in rs; rows = [] }) (domain_rows ps context boxes rs)
domain_made ps qs context boxes bs rs a b c d e m n p q r s t f g h k =
    let start : Rows = record { columns = length ps + loops_in rs; rows = [] } in
    let p' : a ≡ start = p ∙ ap (λ (j : ℕ). let x : Rows = record { columns = j; rows = [] } in x) (ap (λ j. j + n) f ∙ ap (λ j. length ps + j) g) in
    let q' : b ≡ with_rows start (box_rows (length ps + loops_in rs) 0 ps) = q ∙ ap (λ y. with_rows y (box_rows y.columns 0 qs)) p' ∙ ap (λ ys. with_rows start (box_rows (length ps + loops_in rs) 0 ys)) h in
    let r' : c ≡ with_rows b (test_rows (length ps) (loops_in rs) context) = r ∙ ap (λ j. with_rows b (test_rows j n context)) f ∙ ap (λ j. with_rows b (test_rows (length ps) j context)) g in
    let s' : d ≡ with_rows c (loop_rows (length ps) boxes rs) = s ∙ ap (λ j. with_rows c (loop_rows j bs rs)) f ∙ ap (λ ys. with_rows c (loop_rows (length ps) ys rs)) k in
    let t' : e ≡ with_rows d (condition_rows (length ps) rs) = t ∙ ap (λ j. with_rows d (condition_rows j rs)) f in
    rows_after start b e (box_rows (length ps + loops_in rs) 0 ps) _ q'
    (rows_after b c e (test_rows (length ps) (loops_in rs) context) _ r' (rows_after c d e (loop_rows (length ps) boxes rs) (condition_rows (length ps) rs) s' t'))
