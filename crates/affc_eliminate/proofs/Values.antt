-- Values of rows at points with one column changed, and of rows that are mixtures of others.
use Rattle.std.proofs.Common.{◌≡◌, ℕ, zero, suc, ◌<◌, ◌≤◌, List, [], ◌∷◌, length, map, set, get_or, ℤ, pos, ◌+ℤ◌, ◌*ℤ◌, neg_ℤ, refl, sym, ap, subst, ◌∙◌, arith}
use Rattle.std.proofs.lemmas.Int.{ints}
use Rattle.std.proofs.lemmas.List.{get_or_append_left, get_or_push}
use lib.IntN.{*ℤ-zero, *ℤ_comm}
use Rattle.affc_rows.specs.Forms.{Affine, dot}
use Rattle.affc_rows.proofs.IntLemmas.{mul-add, mul_assoc}
use Rattle.affc_farkas.specs.Multiples.{entry_of}
use Rattle.affc_farkas.specs.Rational.{scaled_value}
use Rattle.affc_farkas.proofs.Between.{swap}
use Rattle.affc_eliminate.specs.Points.{with_value}

-- ---- Points with one column changed

scaled_dot : (s : ℤ) (cs xs : List ℤ) → dot cs (map (λ c. s *ℤ c) xs) ≡ s *ℤ dot cs xs
scaled_dot s [] xs = sym (*ℤ-zero s)
scaled_dot s (c ∷ cs) [] = sym (*ℤ-zero s)
scaled_dot s (c ∷ cs) (x ∷ xs) =
    ap (λ z. z +ℤ dot cs (map (λ c. s *ℤ c) xs)) (swap c s x) ∙ ap (λ z. (s *ℤ (c *ℤ x)) +ℤ z) (scaled_dot s cs xs) ∙ sym (mul-add s (c *ℤ x) (dot cs xs))

regroup : (a b c d e f : ℤ) → a ≡ b +ℤ c → d ≡ c → e ≡ f → a +ℤ e ≡ b +ℤ (d +ℤ f)
regroup a b c d e f p q r = omega (arith, ints)

middle : (a b c d : ℤ) → a ≡ b → a +ℤ (c +ℤ d) ≡ c +ℤ (b +ℤ d)
middle a b c d e = omega (arith, ints)

-- the value y + s x of the column, over the divisor s
moved_dot : (k : ℕ) (s y : ℤ) (cs xs : List ℤ) → length cs ≡ length xs → k < length xs
    → dot cs (set (map (λ c. s *ℤ c) xs) k (y +ℤ (s *ℤ get_or xs k (pos 0)))) ≡ (get_or cs k (pos 0) *ℤ y) +ℤ (s *ℤ dot cs xs)
moved_dot k s y [] [] h lt = absurd (omega arith)
moved_dot k s y [] (x ∷ xs) h lt = absurd (omega arith)
moved_dot k s y (c ∷ cs) [] h lt = absurd (omega arith)
moved_dot zero s y (c ∷ cs) (x ∷ xs) h lt =
    regroup (c *ℤ (y +ℤ (s *ℤ x))) (c *ℤ y) (c *ℤ (s *ℤ x)) (s *ℤ (c *ℤ x)) (dot cs (map (λ c. s *ℤ c) xs)) (s *ℤ dot cs xs) (mul-add c y (s *ℤ x)) (swap s c x) (scaled_dot s cs xs)
    ∙ ap (λ z. (c *ℤ y) +ℤ z) (sym (mul-add s (c *ℤ x) (dot cs xs)))
moved_dot (suc k) s y (c ∷ cs) (x ∷ xs) h lt =
    ap (λ z. (c *ℤ (s *ℤ x)) +ℤ z) (moved_dot k s y cs xs (omega arith) (omega arith))
    ∙ middle (c *ℤ (s *ℤ x)) (s *ℤ (c *ℤ x)) (get_or cs k (pos 0) *ℤ y) (s *ℤ dot cs xs) (swap c s x)
    ∙ ap (λ z. (get_or cs k (pos 0) *ℤ y) +ℤ z) (sym (mul-add s (c *ℤ x) (dot cs xs)))

pub entry_inside : (f : Affine) (j : ℕ) → j < length f.coefs → entry_of f j ≡ get_or f.coefs j (pos 0)
entry_inside f j h = get_or_append_left f.coefs (f.constant ∷ []) (pos 0) j h

pub entry_last : (f : Affine) (n : ℕ) → length f.coefs ≡ n → entry_of f n ≡ f.constant
entry_last f n h = get_or_push f.coefs f.constant (pos 0) n h

joined : (a b c d e : ℤ) → a ≡ b +ℤ c → a +ℤ d ≡ b +ℤ (c +ℤ d)
joined a b c d e p = omega (arith, ints)

-- the number that stands in the column for the rational shift y / s
abbrev pub shifted : ℕ → List ℤ → (s y : ℤ) → ℤ
shifted k x s y = y +ℤ (s *ℤ get_or x k (pos 0))

pub moved_value : (k : ℕ) (x : List ℤ) (d s y : ℤ) (f : Affine) → length f.coefs ≡ length x → k < length x
    → scaled_value f (with_value k x s (shifted k x s y)) (s *ℤ d) ≡ (entry_of f k *ℤ y) +ℤ (s *ℤ scaled_value f x d)
moved_value k x d s y f h lt =
    let e = moved_dot k s y f.coefs x h lt in
    let i = entry_inside f k (subst (λ n. k < n) (sym h) lt) in
    ap (λ z. dot f.coefs (with_value k x s (shifted k x s y)) +ℤ z) (mul_assoc s d f.constant)
    ∙ joined (dot f.coefs (with_value k x s (shifted k x s y))) (get_or f.coefs k (pos 0) *ℤ y) (s *ℤ dot f.coefs x) (s *ℤ (d *ℤ f.constant)) (pos 0) e
    ∙ ap (λ z. (get_or f.coefs k (pos 0) *ℤ y) +ℤ z) (sym (mul-add s (dot f.coefs x) (d *ℤ f.constant)))
    ∙ ap (λ z. (z *ℤ y) +ℤ (s *ℤ scaled_value f x d)) (sym i)

back_and_forth : (y w : ℤ) → (y +ℤ neg_ℤ w) +ℤ w ≡ y
back_and_forth y w = omega (arith, ints)

-- each value is such a shift
pub shift_of : (k : ℕ) (x : List ℤ) (s y : ℤ) → shifted k x s (y +ℤ neg_ℤ (s *ℤ get_or x k (pos 0))) ≡ y
shift_of k x s y = back_and_forth y (s *ℤ get_or x k (pos 0))

-- ---- Mixtures

nothing : (h s t : ℤ) → h *ℤ pos 0 ≡ (s *ℤ pos 0) +ℤ (t *ℤ pos 0)
nothing h s t = omega (arith, ints, *ℤ-zero h, *ℤ-zero s, *ℤ-zero t)

term : (h s t r f g x : ℤ) → h *ℤ r ≡ (s *ℤ f) +ℤ (t *ℤ g) → h *ℤ (r *ℤ x) ≡ (s *ℤ (f *ℤ x)) +ℤ (t *ℤ (g *ℤ x))
term h s t r f g x e =
    sym (mul_assoc h r x) ∙ ap (λ z. z *ℤ x) e ∙ *ℤ_comm ((s *ℤ f) +ℤ (t *ℤ g)) x ∙ mul-add x (s *ℤ f) (t *ℤ g)
    ∙ ap (λ z. z +ℤ (x *ℤ (t *ℤ g))) (*ℤ_comm x (s *ℤ f) ∙ mul_assoc s f x)
    ∙ ap (λ z. (s *ℤ (f *ℤ x)) +ℤ z) (*ℤ_comm x (t *ℤ g) ∙ mul_assoc t g x)

two_sums : (a b c d e f : ℤ) → (a +ℤ b) +ℤ (c +ℤ d) ≡ (a +ℤ c) +ℤ (b +ℤ d)
two_sums a b c d e f = omega (arith, ints)

pub sum_of_sums : (h s t a b c d e f : ℤ) → h *ℤ a ≡ (s *ℤ c) +ℤ (t *ℤ e) → h *ℤ b ≡ (s *ℤ d) +ℤ (t *ℤ f)
    → h *ℤ (a +ℤ b) ≡ (s *ℤ (c +ℤ d)) +ℤ (t *ℤ (e +ℤ f))
sum_of_sums h s t a b c d e f p q =
    mul-add h a b ∙ ap (λ z. z +ℤ (h *ℤ b)) p ∙ ap (λ z. ((s *ℤ c) +ℤ (t *ℤ e)) +ℤ z) q
    ∙ two_sums (s *ℤ c) (t *ℤ e) (s *ℤ d) (t *ℤ f) h h
    ∙ ap (λ z. z +ℤ ((t *ℤ e) +ℤ (t *ℤ f))) (sym (mul-add s c d)) ∙ ap (λ z. (s *ℤ (c +ℤ d)) +ℤ z) (sym (mul-add t e f))

mixed_dot : (h s t : ℤ) (rs fs gs xs : List ℤ) → length rs ≡ length fs → length gs ≡ length fs
    → ((j : ℕ) → j < length fs → h *ℤ get_or rs j (pos 0) ≡ (s *ℤ get_or fs j (pos 0)) +ℤ (t *ℤ get_or gs j (pos 0)))
    → h *ℤ dot rs xs ≡ (s *ℤ dot fs xs) +ℤ (t *ℤ dot gs xs)
mixed_dot h s t [] [] [] xs p q e = nothing h s t
mixed_dot h s t [] [] (g ∷ gs) xs p q e = absurd (omega arith)
mixed_dot h s t [] (f ∷ fs) gs xs p q e = absurd (omega arith)
mixed_dot h s t (r ∷ rs) [] gs xs p q e = absurd (omega arith)
mixed_dot h s t (r ∷ rs) (f ∷ fs) [] xs p q e = absurd (omega arith)
mixed_dot h s t (r ∷ rs) (f ∷ fs) (g ∷ gs) [] p q e = nothing h s t
mixed_dot h s t (r ∷ rs) (f ∷ fs) (g ∷ gs) (x ∷ xs) p q e =
    sum_of_sums h s t (r *ℤ x) (dot rs xs) (f *ℤ x) (dot fs xs) (g *ℤ x) (dot gs xs)
    (term h s t r f g x (e 0 (omega arith)))
    (mixed_dot h s t rs fs gs xs (omega arith) (omega arith) (λ j lt. e (suc j) (omega arith)))

times_left : (h s t d r f g : ℤ) → h *ℤ r ≡ (s *ℤ f) +ℤ (t *ℤ g) → h *ℤ (d *ℤ r) ≡ (s *ℤ (d *ℤ f)) +ℤ (t *ℤ (d *ℤ g))
times_left h s t d r f g e =
    swap h d r ∙ ap (λ z. d *ℤ z) e ∙ mul-add d (s *ℤ f) (t *ℤ g) ∙ ap (λ z. z +ℤ (d *ℤ (t *ℤ g))) (swap d s f) ∙ ap (λ z. (s *ℤ (d *ℤ f)) +ℤ z) (swap d t g)

-- h times each entry of r is s times that of f and t times that of g
abbrev pub AreMixed : (h s t : ℤ) → (f g r : Affine) → Type 0
AreMixed h s t f g r = (j : ℕ) → j ≤ length f.coefs → h *ℤ entry_of r j ≡ (s *ℤ entry_of f j) +ℤ (t *ℤ entry_of g j)

pub mixed_value : (h s t : ℤ) (f g r : Affine) (x : List ℤ) (d : ℤ) → length r.coefs ≡ length f.coefs → length g.coefs ≡ length f.coefs → AreMixed h s t f g r
    → h *ℤ scaled_value r x d ≡ (s *ℤ scaled_value f x d) +ℤ (t *ℤ scaled_value g x d)
mixed_value h s t f g r x d p q e =
    let n = length f.coefs in
    sum_of_sums h s t (dot r.coefs x) (d *ℤ r.constant) (dot f.coefs x) (d *ℤ f.constant) (dot g.coefs x) (d *ℤ g.constant)
    (mixed_dot h s t r.coefs f.coefs g.coefs x p q (λ j lt.
    ap (λ z. h *ℤ z) (sym (entry_inside r j (subst (λ m. j < m) (sym p) lt)))
    ∙ e j (omega arith)
    ∙ ap (λ z. (s *ℤ z) +ℤ (t *ℤ entry_of g j)) (entry_inside f j lt)
    ∙ ap (λ z. (s *ℤ get_or f.coefs j (pos 0)) +ℤ (t *ℤ z)) (entry_inside g j (subst (λ m. j < m) (sym q) lt))))
    (times_left h s t d r.constant f.constant g.constant
    (ap (λ z. h *ℤ z) (sym (entry_last r n p)) ∙ e n (omega arith)
    ∙ ap (λ z. (s *ℤ z) +ℤ (t *ℤ entry_of g n)) (entry_last f n refl) ∙ ap (λ z. (s *ℤ f.constant) +ℤ (t *ℤ z)) (entry_last g n q)))
