-- The expression of a form has the form's value.
use Rattle.std.proofs.Common.{◌≡◌, ℕ, zero, suc, ◌+◌, ◌-◌, ◌≤◌, ℤ, pos, negsuc, ◌+ℤ◌, ◌-ℤ◌, ◌*ℤ◌, neg_ℤ, List, [], ◌∷◌, ◌++◌, length, get_or, take, drop, min, refl, sym, ap, ◌∙◌, arith, length-take, length-drop}
use Rattle.std.proofs.lemmas.Int.{ints}
use Rattle.affc_rows.specs.Forms.{Affine, dot, value}
use Rattle.affc_ast.specs.declared.tree.Ix.{Ix}
use Rattle.affc_ast.specs.declared.tree.Ix.TheVariants.{Lit, Neg, Add, Sub, Mul}
use Rattle.affc_ast.specs.Fits.{whole_step, whole}
use Rattle.affc_rows.proofs.IntLemmas.{neg-mul}
use Rattle.affc_trace.proofs.EndedReads.{append_assoc}
use Rattle.affc_trace.proofs.Runs.{length_append}
use Rattle.affc_trace.proofs.LastStores.{push_append}
use Rattle.affc_domain.proofs.Lists.{at_seam}
use Rattle.affc_loops.specs.Trees.{name_at, number, times, Term, and_more, sum_of, terms_from, form_tree}
use Rattle.affc_ast.proofs.Steps.{neg_here, add_here, sub_here, mul_here}

-- ---- whole numbers

pub whole_neg : (a : Ix) (names : List ℤ) → whole (Neg a) names ≡ neg_ℤ (whole a names)
whole_neg a names = ap (λ w. (w names).value) (neg_here whole_step a)

pub whole_add : (a b : Ix) (names : List ℤ) → whole (Add a b) names ≡ whole a names +ℤ whole b names
whole_add a b names = ap (λ w. (w names).value) (add_here whole_step a b)

pub whole_sub : (a b : Ix) (names : List ℤ) → whole (Sub a b) names ≡ whole a names -ℤ whole b names
whole_sub a b names = ap (λ w. (w names).value) (sub_here whole_step a b)

pub whole_mul : (a b : Ix) (names : List ℤ) → whole (Mul a b) names ≡ whole a names *ℤ whole b names
whole_mul a b names = ap (λ w. (w names).value) (mul_here whole_step a b)

pub number_is : (z : ℤ) (names : List ℤ) → whole (number z) names ≡ z
number_is (pos n) names = refl
number_is (negsuc n) names = whole_neg (Lit (pos (suc n))) names

one_of : (v : ℤ) → v ≡ pos 1 *ℤ v
one_of v = omega (arith, ints)

pub times_is : (m x : ℕ) (names : List ℤ) → whole (times m x) names ≡ pos (suc m) *ℤ get_or names x (pos 0)
times_is zero x names = one_of (get_or names x (pos 0))
times_is (suc m) x names = whole_mul (Lit (pos (suc (suc m)))) (name_at x) names

abbrev sum_value : List Term → List ℤ → ℤ
sum_value [] names = pos 0
sum_value ((c, x) ∷ ts) names = (c *ℤ get_or names x (pos 0)) +ℤ sum_value ts names

plus_nothing : (w : ℤ) → w ≡ (w +ℤ pos 0) +ℤ pos 0
plus_nothing w = omega (arith, ints)

plus_constant : (w : ℤ) (n : ℕ) → w +ℤ pos (suc n) ≡ (w +ℤ pos 0) +ℤ pos (suc n)
plus_constant w n = omega (arith, ints)

less_constant : (w : ℤ) (n : ℕ) → w -ℤ pos (suc n) ≡ (w +ℤ pos 0) +ℤ negsuc n
less_constant w n = omega (arith, ints)

left_out : (w v s c : ℤ) → (w +ℤ s) +ℤ c ≡ (w +ℤ ((pos 0 *ℤ v) +ℤ s)) +ℤ c
left_out w v s c = omega (arith, ints)

put_in : (w a t k s c : ℤ) → a ≡ w +ℤ t → t ≡ k → (a +ℤ s) +ℤ c ≡ (w +ℤ (k +ℤ s)) +ℤ c
put_in w a t k s c e f = omega (arith, ints)

taken_out : (w a t k s c : ℤ) → a ≡ w -ℤ t → neg_ℤ t ≡ k → (a +ℤ s) +ℤ c ≡ (w +ℤ (k +ℤ s)) +ℤ c
taken_out w a t k s c e f = omega (arith, ints)

neg_times : (m : ℕ) (v : ℤ) → neg_ℤ (pos (suc m) *ℤ v) ≡ negsuc m *ℤ v
neg_times m v = sym (neg-mul (pos (suc m)) v)

pub neg_times_is : (m x : ℕ) (names : List ℤ) → neg_ℤ (whole (times m x) names) ≡ negsuc m *ℤ get_or names x (pos 0)
neg_times_is m x names = ap neg_ℤ (times_is m x names) ∙ neg_times m (get_or names x (pos 0))

and_more_is : (ts : List Term) (e : Ix) (c : ℤ) (names : List ℤ) → whole (and_more e ts c) names ≡ (whole e names +ℤ sum_value ts names) +ℤ c
and_more_is [] e (pos zero) names = plus_nothing (whole e names)
and_more_is [] e (pos (suc n)) names = whole_add e (Lit (pos (suc n))) names ∙ plus_constant (whole e names) n
and_more_is [] e (negsuc n) names = whole_sub e (Lit (pos (suc n))) names ∙ less_constant (whole e names) n
and_more_is ((pos zero, x) ∷ ts) e c names = and_more_is ts e c names ∙ left_out (whole e names) (get_or names x (pos 0)) (sum_value ts names) c
and_more_is ((pos (suc m), x) ∷ ts) e c names =
    and_more_is ts (Add e (times m x)) c names
    ∙ put_in (whole e names) (whole (Add e (times m x)) names) (whole (times m x) names) (pos (suc m) *ℤ get_or names x (pos 0)) (sum_value ts names) c (whole_add e (times m x) names) (times_is m x names)
and_more_is ((negsuc m, x) ∷ ts) e c names =
    and_more_is ts (Sub e (times m x)) c names
    ∙ taken_out (whole e names) (whole (Sub e (times m x)) names) (whole (times m x) names) (negsuc m *ℤ get_or names x (pos 0)) (sum_value ts names) c (whole_sub e (times m x) names) (neg_times_is m x names)

alone : (c : ℤ) → c ≡ pos 0 +ℤ c
alone c = omega (arith, ints)

first_left_out : (v s c : ℤ) → s +ℤ c ≡ ((pos 0 *ℤ v) +ℤ s) +ℤ c
first_left_out v s c = omega (arith, ints)

first_is : (a k s c : ℤ) → a ≡ k → (a +ℤ s) +ℤ c ≡ (k +ℤ s) +ℤ c
first_is a k s c e = omega (arith, ints)

sum_is : (ts : List Term) (c : ℤ) (names : List ℤ) → whole (sum_of ts c) names ≡ sum_value ts names +ℤ c
sum_is [] c names = number_is c names ∙ alone c
sum_is ((pos zero, x) ∷ ts) c names = sum_is ts c names ∙ first_left_out (get_or names x (pos 0)) (sum_value ts names) c
sum_is ((pos (suc m), x) ∷ ts) c names =
    and_more_is ts (times m x) c names
    ∙ first_is (whole (times m x) names) (pos (suc m) *ℤ get_or names x (pos 0)) (sum_value ts names) c (times_is m x names)
sum_is ((negsuc m, x) ∷ ts) c names =
    and_more_is ts (Neg (times m x)) c names
    ∙ first_is (whole (Neg (times m x)) names) (negsuc m *ℤ get_or names x (pos 0)) (sum_value ts names) c (whole_neg (times m x) names ∙ neg_times_is m x names)

-- ---- terms at names

grouped : (a b c : ℤ) → a +ℤ (b +ℤ c) ≡ (a +ℤ b) +ℤ c
grouped a b c = omega (arith, ints)

sum_append : (ts us : List Term) (names : List ℤ) → sum_value (ts ++ us) names ≡ sum_value ts names +ℤ sum_value us names
sum_append [] us names = alone (sum_value us names)
sum_append ((c, x) ∷ ts) us names =
    ap (λ z. (c *ℤ get_or names x (pos 0)) +ℤ z) (sum_append ts us names)
    ∙ grouped (c *ℤ get_or names x (pos 0)) (sum_value ts names) (sum_value us names)

terms_at : (cs before xs after : List ℤ) (from : ℕ) → from ≡ length before → length cs ≡ length xs → sum_value (terms_from from cs) (before ++ (xs ++ after)) ≡ dot cs xs
terms_at [] before xs after from e l = refl
terms_at (c ∷ cs) before [] after from e l = absurd (omega arith)
terms_at (c ∷ cs) before (x ∷ xs) after from e l =
    let pushed : length (before ++ x ∷ []) ≡ length before + 1 = length_append before (x ∷ []) in
    ap (λ n. (c *ℤ get_or (before ++ x ∷ (xs ++ after)) n (pos 0)) +ℤ sum_value (terms_from (suc from) cs) (before ++ x ∷ (xs ++ after))) e
    ∙ ap (λ z. (c *ℤ z) +ℤ sum_value (terms_from (suc from) cs) (before ++ x ∷ (xs ++ after))) (at_seam before x (xs ++ after))
    ∙ ap (λ l. (c *ℤ x) +ℤ sum_value (terms_from (suc from) cs) l) (sym (push_append before x (xs ++ after)))
    ∙ ap (λ z. (c *ℤ x) +ℤ z) (terms_at cs (before ++ x ∷ []) xs after (suc from) (omega arith) (omega arith))

no_first : (d : ℤ) → d +ℤ pos 0 ≡ d
no_first d = omega (arith, ints)

regrouped : (d k a w : ℤ) → d +ℤ a ≡ w → d +ℤ (k +ℤ a) ≡ k +ℤ w
regrouped d k a w e = omega (arith, ints)

dot_parts : (cs p xs : List ℤ) → length p ≤ length cs → dot (drop (length p) cs) xs +ℤ dot (take (length p) cs) p ≡ dot cs (p ++ xs)
dot_parts cs [] xs l = no_first (dot cs xs)
dot_parts [] (y ∷ p) xs l = absurd (omega arith)
dot_parts (c ∷ cs) (y ∷ p) xs l =
    regrouped (dot (drop (length p) cs) xs) (c *ℤ y) (dot (take (length p) cs) p) (dot cs (p ++ xs)) (dot_parts cs p xs (omega arith))

with_constant : (a b d w c : ℤ) → a ≡ b → b ≡ d → d ≡ w → a +ℤ c ≡ w +ℤ c
with_constant a b d w c e f g = ap (λ z. z +ℤ c) (e ∙ f ∙ g)

-- where the form's last columns are the names behind those of t
pub form_is : (f : Affine) (p t xs after : List ℤ) (first from : ℕ) → first ≡ length p → from ≡ length (p ++ t) → length f.coefs ≡ length p + length xs
    → whole (form_tree first from f) (p ++ (t ++ (xs ++ after))) ≡ value f (p ++ xs)
form_is f p t xs after first from e g l =
    let names : List ℤ = p ++ (t ++ (xs ++ after)) in
    let q : ℕ = length p in
    let late : List Term = terms_from from (drop q f.coefs) in
    let early : List Term = terms_from 0 (take q f.coefs) in
    let dropped : length (drop q f.coefs) ≡ length f.coefs - q = length-drop q f.coefs in
    let enough : q ≤ length f.coefs = omega arith in
    let shorter : length (take q f.coefs) ≡ min q (length f.coefs) = length-take q f.coefs in
    let taken : length (take q f.coefs) ≡ q = omega arith in
    let last : sum_value late names ≡ dot (drop q f.coefs) xs =
    ap (sum_value late) (sym (append_assoc p t (xs ++ after))) ∙ terms_at (drop q f.coefs) (p ++ t) xs after from g (omega arith) in
    let front : sum_value early names ≡ dot (take q f.coefs) p = terms_at (take q f.coefs) [] p (t ++ (xs ++ after)) 0 refl taken in
    ap (λ n. whole (form_tree n from f) names) e
    ∙ sum_is (late ++ early) f.constant names
    ∙ with_constant (sum_value (late ++ early) names) (sum_value late names +ℤ sum_value early names) (dot (drop q f.coefs) xs +ℤ dot (take q f.coefs) p) (dot f.coefs (p ++ xs)) f.constant
    (sum_append late early names)
    (ap (λ z. z +ℤ sum_value early names) last ∙ ap (λ z. dot (drop q f.coefs) xs +ℤ z) front)
    (dot_parts f.coefs p xs enough)
