-- The expression of a form is read in `int64_t` where the magnitudes of its terms sum to less than 2^63.
use Rattle.std.proofs.Common.{◌≡◌, ℕ, zero, suc, ◌+◌, ◌-◌, ◌*◌, ◌^◌, ◌<◌, ◌≤◌, ℤ, pos, negsuc, ◌+ℤ◌, ◌-ℤ◌, ◌*ℤ◌, neg_ℤ, List, [], ◌∷◌, ◌++◌, length, get_or, take, drop, min, Ok, refl, sym, ap, subst, ◌∙◌, arith, length-take, length-drop}
use Rattle.std.specs.Prelude.{unsigned_abs}
use Rattle.std.proofs.lemmas.Int.{unsigned_abs-mul}
use Rattle.affc_rows.specs.Forms.{Affine, dot_magnitude, magnitude}
use Rattle.affc_rows.proofs.IntLemmas.{abs-add}
use Rattle.affc_ast.specs.declared.tree.Ix.{Ix}
use Rattle.affc_ast.specs.declared.tree.Ix.TheVariants.{Lit, Neg, Add, Sub, Mul}
use Rattle.affc_ast.specs.Fits.{whole}
use Rattle.affc_ast.specs.Index.{in_int64, index_step, index_value, nodes_of_ix}
use Rattle.affc_trace.proofs.EndedReads.{append_assoc}
use Rattle.affc_trace.proofs.LastStores.{push_append}
use Rattle.affc_trace.proofs.Runs.{length_append}
use Rattle.affc_domain.proofs.Lists.{neg_size, at_seam}
use Rattle.affc_loops.specs.Trees.{name_at, number, times, Term, and_more, sum_of, terms_from, form_tree}
use Rattle.affc_loops.proofs.FormTrees.{whole_neg, whole_add, whole_sub, whole_mul, times_is}
use Rattle.affc_ast.proofs.Steps.{neg_here, add_here, sub_here, mul_here}
use Rattle.affc_safe.specs.Overflow.{IsReadable}
use Rattle.affc_safe.proofs.PlainReads.{small_is_int64}
use Rattle.affc_safe.proofs.Wants.{int64_ok, bind_to}

-- ---- sums and products

pub reads_neg : (a : Ix) (names : List ℤ) → IsReadable a names → unsigned_abs (neg_ℤ (whole a names)) < 2 ^ 63 → IsReadable (Neg a) names
reads_neg a names r h node =
    ap (λ i. i.value node names) (neg_here index_step a)
    ∙ bind_to (index_value a (node + 1) names) (whole a names) (λ x. in_int64 node (neg_ℤ x)) (neg_ℤ (whole a names)) (r (node + 1)) (int64_ok node (neg_ℤ (whole a names)) (small_is_int64 (neg_ℤ (whole a names)) h))
    ∙ ap (λ z. Ok z) (sym (whole_neg a names))

pub reads_add : (a b : Ix) (names : List ℤ) → IsReadable a names → IsReadable b names → unsigned_abs (whole a names +ℤ whole b names) < 2 ^ 63 → IsReadable (Add a b) names
reads_add a b names r q h node =
    ap (λ i. i.value node names) (add_here index_step a b)
    ∙ bind_to (index_value a (node + 1) names) (whole a names) _ _ (r (node + 1))
    (bind_to (index_value b (node + 1 + nodes_of_ix a) names) (whole b names) (λ y. in_int64 node (whole a names +ℤ y)) _ (q _) (int64_ok node (whole a names +ℤ whole b names) (small_is_int64 (whole a names +ℤ whole b names) h)))
    ∙ ap (λ z. Ok z) (sym (whole_add a b names))

pub reads_sub : (a b : Ix) (names : List ℤ) → IsReadable a names → IsReadable b names → unsigned_abs (whole a names -ℤ whole b names) < 2 ^ 63 → IsReadable (Sub a b) names
reads_sub a b names r q h node =
    ap (λ i. i.value node names) (sub_here index_step a b)
    ∙ bind_to (index_value a (node + 1) names) (whole a names) _ _ (r (node + 1))
    (bind_to (index_value b (node + 1 + nodes_of_ix a) names) (whole b names) (λ y. in_int64 node (whole a names -ℤ y)) _ (q _) (int64_ok node (whole a names -ℤ whole b names) (small_is_int64 (whole a names -ℤ whole b names) h)))
    ∙ ap (λ z. Ok z) (sym (whole_sub a b names))

pub reads_mul : (a b : Ix) (names : List ℤ) → IsReadable a names → IsReadable b names → unsigned_abs (whole a names *ℤ whole b names) < 2 ^ 63 → IsReadable (Mul a b) names
reads_mul a b names r q h node =
    ap (λ i. i.value node names) (mul_here index_step a b)
    ∙ bind_to (index_value a (node + 1) names) (whole a names) _ _ (r (node + 1))
    (bind_to (index_value b (node + 1 + nodes_of_ix a) names) (whole b names) (λ y. in_int64 node (whole a names *ℤ y)) _ (q _) (int64_ok node (whole a names *ℤ whole b names) (small_is_int64 (whole a names *ℤ whole b names) h)))
    ∙ ap (λ z. Ok z) (sym (whole_mul a b names))

pub reads_name : (n : ℕ) (names : List ℤ) → IsReadable (name_at n) names
reads_name n names node = refl

reads_lit : (z : ℤ) (names : List ℤ) → IsReadable (Lit z) names
reads_lit z names node = refl

pub reads_number : (z : ℤ) (names : List ℤ) → unsigned_abs z < 2 ^ 63 → IsReadable (number z) names
reads_number (pos n) names h = reads_lit (pos n) names
reads_number (negsuc n) names h = reads_neg (Lit (pos (suc n))) names (reads_lit (pos (suc n)) names) h

-- ---- terms

abbrev term_sizes : List Term → List ℤ → ℕ
term_sizes [] names = 0
term_sizes ((c, x) ∷ ts) names = unsigned_abs c * unsigned_abs (get_or names x (pos 0)) + term_sizes ts names

times_size : (m x : ℕ) (names : List ℤ) → unsigned_abs (whole (times m x) names) ≡ suc m * unsigned_abs (get_or names x (pos 0))
times_size m x names = ap unsigned_abs (times_is m x names) ∙ unsigned_abs-mul (pos (suc m)) (get_or names x (pos 0))

reads_times : (m x : ℕ) (names : List ℤ) → suc m * unsigned_abs (get_or names x (pos 0)) < 2 ^ 63 → IsReadable (times m x) names
reads_times zero x names h = reads_name x names
reads_times (suc m) x names h =
    let s : unsigned_abs (pos (suc (suc m)) *ℤ get_or names x (pos 0)) ≡ suc (suc m) * unsigned_abs (get_or names x (pos 0)) = unsigned_abs-mul (pos (suc (suc m))) (get_or names x (pos 0)) in
    reads_mul (Lit (pos (suc (suc m)))) (name_at x) names (reads_lit _ names) (reads_name x names) (omega arith)

sub_size : (a b : ℤ) → unsigned_abs (a -ℤ b) ≤ unsigned_abs a + unsigned_abs b
sub_size a b = subst (λ n. unsigned_abs (a -ℤ b) ≤ unsigned_abs a + n) (neg_size b) (abs-add a (neg_ℤ b))

reads_more : (ts : List Term) (e : Ix) (c : ℤ) (names : List ℤ) → IsReadable e names → unsigned_abs (whole e names) + term_sizes ts names + unsigned_abs c < 2 ^ 63 → IsReadable (and_more e ts c) names
reads_more [] e (pos zero) names r h = r
reads_more [] e (pos (suc n)) names r h =
    let s : unsigned_abs (whole e names +ℤ pos (suc n)) ≤ unsigned_abs (whole e names) + unsigned_abs (pos (suc n)) = abs-add (whole e names) (pos (suc n)) in
    reads_add e (Lit (pos (suc n))) names r (reads_lit _ names) (omega arith)
reads_more [] e (negsuc n) names r h =
    let s : unsigned_abs (whole e names -ℤ pos (suc n)) ≤ unsigned_abs (whole e names) + unsigned_abs (pos (suc n)) = sub_size (whole e names) (pos (suc n)) in
    reads_sub e (Lit (pos (suc n))) names r (reads_lit _ names) (omega arith)
reads_more ((pos zero, x) ∷ ts) e c names r h =
    let k : unsigned_abs (whole e names) + term_sizes ts names + unsigned_abs c < 2 ^ 63 = omega arith in
    reads_more ts e c names r k
reads_more ((pos (suc m), x) ∷ ts) e c names r h =
    let size : unsigned_abs (whole (times m x) names) ≡ suc m * unsigned_abs (get_or names x (pos 0)) = times_size m x names in
    let all : unsigned_abs (whole e names) + (suc m * unsigned_abs (get_or names x (pos 0)) + term_sizes ts names) + unsigned_abs c < 2 ^ 63 = h in
    let s : unsigned_abs (whole e names +ℤ whole (times m x) names) ≤ unsigned_abs (whole e names) + unsigned_abs (whole (times m x) names) = abs-add (whole e names) (whole (times m x) names) in
    let w : unsigned_abs (whole (Add e (times m x)) names) ≡ unsigned_abs (whole e names +ℤ whole (times m x) names) = ap unsigned_abs (whole_add e (times m x) names) in
    reads_more ts (Add e (times m x)) c names (reads_add e (times m x) names r (reads_times m x names (omega arith)) (omega arith)) (omega arith)
reads_more ((negsuc m, x) ∷ ts) e c names r h =
    let size : unsigned_abs (whole (times m x) names) ≡ suc m * unsigned_abs (get_or names x (pos 0)) = times_size m x names in
    let all : unsigned_abs (whole e names) + (suc m * unsigned_abs (get_or names x (pos 0)) + term_sizes ts names) + unsigned_abs c < 2 ^ 63 = h in
    let s : unsigned_abs (whole e names -ℤ whole (times m x) names) ≤ unsigned_abs (whole e names) + unsigned_abs (whole (times m x) names) = sub_size (whole e names) (whole (times m x) names) in
    let w : unsigned_abs (whole (Sub e (times m x)) names) ≡ unsigned_abs (whole e names -ℤ whole (times m x) names) = ap unsigned_abs (whole_sub e (times m x) names) in
    reads_more ts (Sub e (times m x)) c names (reads_sub e (times m x) names r (reads_times m x names (omega arith)) (omega arith)) (omega arith)

reads_sum : (ts : List Term) (c : ℤ) (names : List ℤ) → term_sizes ts names + unsigned_abs c < 2 ^ 63 → IsReadable (sum_of ts c) names
reads_sum [] c names h = let k : unsigned_abs c < 2 ^ 63 = omega arith in reads_number c names k
reads_sum ((pos zero, x) ∷ ts) c names h =
    let k : term_sizes ts names + unsigned_abs c < 2 ^ 63 = omega arith in
    reads_sum ts c names k
reads_sum ((pos (suc m), x) ∷ ts) c names h =
    let size : unsigned_abs (whole (times m x) names) ≡ suc m * unsigned_abs (get_or names x (pos 0)) = times_size m x names in
    let all : suc m * unsigned_abs (get_or names x (pos 0)) + term_sizes ts names + unsigned_abs c < 2 ^ 63 = h in
    reads_more ts (times m x) c names (reads_times m x names (omega arith)) (omega arith)
reads_sum ((negsuc m, x) ∷ ts) c names h =
    let size : unsigned_abs (whole (times m x) names) ≡ suc m * unsigned_abs (get_or names x (pos 0)) = times_size m x names in
    let all : suc m * unsigned_abs (get_or names x (pos 0)) + term_sizes ts names + unsigned_abs c < 2 ^ 63 = h in
    let w : unsigned_abs (whole (Neg (times m x)) names) ≡ unsigned_abs (whole (times m x) names) = ap unsigned_abs (whole_neg (times m x) names) ∙ neg_size (whole (times m x) names) in
    let n : unsigned_abs (neg_ℤ (whole (times m x) names)) ≡ unsigned_abs (whole (times m x) names) = neg_size (whole (times m x) names) in
    reads_more ts (Neg (times m x)) c names (reads_neg (times m x) names (reads_times m x names (omega arith)) (omega arith)) (omega arith)

-- ---- a form

sizes_append : (ts us : List Term) (names : List ℤ) → term_sizes (ts ++ us) names ≡ term_sizes ts names + term_sizes us names
sizes_append [] us names = omega arith
sizes_append ((c, x) ∷ ts) us names =
    let h : term_sizes (ts ++ us) names ≡ term_sizes ts names + term_sizes us names = sizes_append ts us names in
    omega arith

sizes_at : (cs before xs after : List ℤ) (from : ℕ) → from ≡ length before → length cs ≡ length xs → term_sizes (terms_from from cs) (before ++ (xs ++ after)) ≡ dot_magnitude cs xs
sizes_at [] before xs after from e l = refl
sizes_at (c ∷ cs) before [] after from e l = absurd (omega arith)
sizes_at (c ∷ cs) before (x ∷ xs) after from e l =
    let pushed : length (before ++ x ∷ []) ≡ length before + 1 = length_append before (x ∷ []) in
    ap (λ n. unsigned_abs c * unsigned_abs (get_or (before ++ x ∷ (xs ++ after)) n (pos 0)) + term_sizes (terms_from (suc from) cs) (before ++ x ∷ (xs ++ after))) e
    ∙ ap (λ z. unsigned_abs c * unsigned_abs z + term_sizes (terms_from (suc from) cs) (before ++ x ∷ (xs ++ after))) (at_seam before x (xs ++ after))
    ∙ ap (λ l. unsigned_abs c * unsigned_abs x + term_sizes (terms_from (suc from) cs) l) (sym (push_append before x (xs ++ after)))
    ∙ ap (λ z. unsigned_abs c * unsigned_abs x + z) (sizes_at cs (before ++ x ∷ []) xs after (suc from) (omega arith) (omega arith))

size_parts : (cs p xs : List ℤ) → length p ≤ length cs → dot_magnitude (drop (length p) cs) xs + dot_magnitude (take (length p) cs) p ≡ dot_magnitude cs (p ++ xs)
size_parts cs [] xs l = let e : dot_magnitude cs xs + 0 ≡ dot_magnitude cs xs = omega arith in e
size_parts [] (y ∷ p) xs l = absurd (omega arith)
size_parts (c ∷ cs) (y ∷ p) xs l =
    let h : dot_magnitude (drop (length p) cs) xs + dot_magnitude (take (length p) cs) p ≡ dot_magnitude cs (p ++ xs) = size_parts cs p xs (omega arith) in
    omega arith

pub form_reads : (f : Affine) (p t xs after : List ℤ) (first from : ℕ) → first ≡ length p → from ≡ length (p ++ t) → length f.coefs ≡ length p + length xs → magnitude f (p ++ xs) < 2 ^ 63
    → IsReadable (form_tree first from f) (p ++ (t ++ (xs ++ after)))
form_reads f p t xs after first from e g l h =
    let names : List ℤ = p ++ (t ++ (xs ++ after)) in
    let q : ℕ = length p in
    let late : List Term = terms_from from (drop q f.coefs) in
    let early : List Term = terms_from 0 (take q f.coefs) in
    let dropped : length (drop q f.coefs) ≡ length f.coefs - q = length-drop q f.coefs in
    let enough : q ≤ length f.coefs = omega arith in
    let shorter : length (take q f.coefs) ≡ min q (length f.coefs) = length-take q f.coefs in
    let taken : length (take q f.coefs) ≡ q = omega arith in
    let last : term_sizes late names ≡ dot_magnitude (drop q f.coefs) xs =
    ap (term_sizes late) (sym (append_assoc p t (xs ++ after))) ∙ sizes_at (drop q f.coefs) (p ++ t) xs after from g (omega arith) in
    let front : term_sizes early names ≡ dot_magnitude (take q f.coefs) p = sizes_at (take q f.coefs) [] p (t ++ (xs ++ after)) 0 refl taken in
    let both : term_sizes (late ++ early) names ≡ term_sizes late names + term_sizes early names = sizes_append late early names in
    let whole_size : dot_magnitude (drop q f.coefs) xs + dot_magnitude (take q f.coefs) p ≡ dot_magnitude f.coefs (p ++ xs) = size_parts f.coefs p xs enough in
    subst (λ n. IsReadable (form_tree n from f) names) (sym e) (reads_sum (late ++ early) f.constant names (omega arith))
