-- Spread forms: their values and widths; a form is known by its values.
use Rattle.std.proofs.Common.{◌≡◌, ℕ, zero, suc, ◌+◌, ◌≤◌, ℤ, pos, ◌+ℤ◌, ◌*ℤ◌, List, [], ◌∷◌, ◌++◌, length, take, drop, replicate, refl, sym, ap, subst, ◌∙◌, arith}
use Rattle.std.proofs.lemmas.Int.{ints}
use Rattle.affc_rows.specs.Forms.{Affine, value, dot, values_of, HaveColumns}
use Rattle.affc_rows.proofs.SizeLemmas.{spread_width}
use Rattle.affc_rows.proofs.ValueLemmas.{length-composed}
use Rattle.affc_trace.specs.Inverses.{zeros, columns_from}
use Rattle.affc_trace.proofs.EndedReads.{append_assoc}
use Rattle.affc_trace.proofs.Recovers.{length-zeros}
use Rattle.affc_trace.proofs.Runs.{length_append}
use Rattle.affc_domain.proofs.ColumnLemmas.{append_columns, values_append}
use Rattle.affc_domain.proofs.FormLemmas.{dot_widened}
use Rattle.affc_order.specs.Posed.{form_at}
use Rattle.affc_order.specs.Spread.{spread}
use Rattle.affc_order.proofs.ColumnLemmas.{at_value, from_width, from_long, segment_at}

-- ---- Values

no_term : (x d e : ℤ) → d ≡ e → (pos 0 *ℤ x) +ℤ d ≡ e
no_term x d e h = omega (arith, ints)

dot_between : (ks cs xs ns : List ℤ) (n : ℕ) → length cs ≡ length xs → dot (replicate (length ks) (pos 0) ++ (cs ++ replicate n (pos 0))) (ks ++ (xs ++ ns)) ≡ dot cs xs
dot_between [] cs xs ns n e = dot_widened cs xs ns n e
dot_between (k ∷ ks) cs xs ns n e = no_term k (dot (replicate (length ks) (pos 0) ++ (cs ++ replicate n (pos 0))) (ks ++ (xs ++ ns))) (dot cs xs) (dot_between ks cs xs ns n e)

dot_spread : (p ks xs ns cs : List ℤ) (n : ℕ) → length cs ≡ length p + length xs
    → dot (take (length p) cs ++ (replicate (length ks) (pos 0) ++ (drop (length p) cs ++ replicate n (pos 0)))) (p ++ (ks ++ (xs ++ ns))) ≡ dot cs (p ++ xs)
dot_spread [] ks xs ns cs n e = dot_between ks cs xs ns n (omega (arith, e))
dot_spread (q ∷ p) ks xs ns [] n e = absurd (omega arith)
dot_spread (q ∷ p) ks xs ns (c ∷ cs) n e = ap (λ d. (c *ℤ q) +ℤ d) (dot_spread p ks xs ns cs n (omega (arith, e)))

-- a spread form has the form's value, whatever the other columns hold
pub spread_value : (p ks xs ns : List ℤ) (m k n : ℕ) (f : Affine) → m ≡ length p → k ≡ length ks → length f.coefs ≡ length p + length xs
    → value (spread m k n f) (p ++ (ks ++ (xs ++ ns))) ≡ value f (p ++ xs)
spread_value p ks xs ns m k n f e g w =
    ap (λ i. value (spread i k n f) (p ++ (ks ++ (xs ++ ns)))) e ∙ ap (λ i. value (spread (length p) i n f) (p ++ (ks ++ (xs ++ ns)))) g
    ∙ ap (λ d. d +ℤ f.constant) (dot_spread p ks xs ns f.coefs n w)

-- ---- A form is known by its values

dot_of_zeros : (cs : List ℤ) (n : ℕ) → dot cs (zeros n) ≡ pos 0
dot_of_zeros [] n = refl
dot_of_zeros (c ∷ cs) zero = refl
dot_of_zeros (c ∷ cs) (suc n) = no_product c (dot cs (zeros n)) (dot_of_zeros cs n)
  where
    no_product : (c d : ℤ) → d ≡ pos 0 → (c *ℤ pos 0) +ℤ d ≡ pos 0
    no_product c d e = omega (arith, ints)

same_coefs : (cs ds : List ℤ) → length cs ≡ length ds → ((xs : List ℤ) → length xs ≡ length cs → dot cs xs ≡ dot ds xs) → cs ≡ ds
same_coefs [] [] w h = refl
same_coefs [] (d ∷ ds) w h = absurd (omega arith)
same_coefs (c ∷ cs) [] w h = absurd (omega arith)
same_coefs (c ∷ cs) (d ∷ ds) w h =
    let n = length cs in
    let first : c ≡ d = one_product c d (dot cs (zeros n)) (dot ds (zeros n)) (dot_of_zeros cs n) (dot_of_zeros ds n) (h (pos 1 ∷ zeros n) (ap suc (length-zeros n))) in
    let rest : cs ≡ ds = same_coefs cs ds (omega (arith, w)) (λ xs e. no_products c d (dot cs xs) (dot ds xs) (h (pos 0 ∷ xs) (ap suc e))) in
    ap (λ z. z ∷ cs) first ∙ ap (λ zs. d ∷ zs) rest
  where
    one_product : (c d x y : ℤ) → x ≡ pos 0 → y ≡ pos 0 → (c *ℤ pos 1) +ℤ x ≡ (d *ℤ pos 1) +ℤ y → c ≡ d
    one_product c d x y e f g = omega (arith, ints)

    no_products : (c d x y : ℤ) → (c *ℤ pos 0) +ℤ x ≡ (d *ℤ pos 0) +ℤ y → x ≡ y
    no_products c d x y g = omega (arith, ints)

pub same_form : (f g : Affine) → length f.coefs ≡ length g.coefs → ((xs : List ℤ) → length xs ≡ length f.coefs → value f xs ≡ value g xs) → f ≡ g
same_form f g w h =
    let n = length f.coefs in
    let constant : f.constant ≡ g.constant =
    alone (dot f.coefs (zeros n)) (dot g.coefs (zeros n)) f.constant g.constant (dot_of_zeros f.coefs n) (dot_of_zeros g.coefs n) (h (zeros n) (length-zeros n)) in
    let coefs : f.coefs ≡ g.coefs = same_coefs f.coefs g.coefs w (λ xs e. less (dot f.coefs xs) (dot g.coefs xs) f.constant g.constant constant (h xs e)) in
    λ i. record { coefs = coefs i; constant = constant i }
  where
    alone : (x y c d : ℤ) → x ≡ pos 0 → y ≡ pos 0 → x +ℤ c ≡ y +ℤ d → c ≡ d
    alone x y c d e f g = omega (arith, ints)

    less : (x y c d : ℤ) → c ≡ d → x +ℤ c ≡ y +ℤ d → x ≡ y
    less x y c d e f = omega (arith, ints)

-- ---- A form at columns

-- a list cut in two
pub cut : (m : ℕ) (xs : List ℤ) → m ≤ length xs → (us : List ℤ) × (vs : List ℤ) × (xs ≡ us ++ vs) × (length us ≡ m)
cut zero xs h = ([], xs, refl, refl)
cut (suc m) [] h = absurd (omega arith)
cut (suc m) (x ∷ xs) h = let r = cut m xs (omega (arith, h)) in (x ∷ r.0, r.1, ap (λ ys. x ∷ ys) r.2, ap suc r.3)

-- a form over the parameters and iterators, put at the columns of the parameters and so many from another column on
pub at_columns : (m k l n : ℕ) (f : Affine) → length f.coefs ≡ m + l
    → form_at (((m + k) + l) + n) (columns_from (((m + k) + l) + n) 0 m ++ columns_from (((m + k) + l) + n) (m + k) l) f ≡ spread m k n f
at_columns m k l n f w =
    same_form (form_at (columns) images f) (spread m k n f) (length-composed f.coefs images 0 columns ∙ sym (spread_width m k l n f w)) (λ zs e.
    let a = cut m zs (enough zs (e ∙ long)) in
    let b = cut k a.1 (enough_next m k l n zs a.0 a.1 (e ∙ long) a.2 a.3) in
    let c = cut l b.1 (enough_last m k l n zs a.0 a.1 b.0 b.1 (e ∙ long) a.2 a.3 b.2 b.3) in
    let is : zs ≡ a.0 ++ (b.0 ++ (c.0 ++ c.1)) = a.2 ∙ ap (λ ys. a.0 ++ ys) b.2 ∙ ap (λ ys. a.0 ++ (b.0 ++ ys)) c.2 in
    by_parts zs a.0 b.0 c.0 c.1 is a.3 b.3 c.3 (e ∙ long))
  where
    columns : ℕ
    columns = ((m + k) + l) + n

    images : List Affine
    images = columns_from (((m + k) + l) + n) 0 m ++ columns_from (((m + k) + l) + n) (m + k) l

    long : length (form_at (((m + k) + l) + n) (columns_from (((m + k) + l) + n) 0 m ++ columns_from (((m + k) + l) + n) (m + k) l) f).coefs ≡ ((m + k) + l) + n
    long = length-composed f.coefs (columns_from (((m + k) + l) + n) 0 m ++ columns_from (((m + k) + l) + n) (m + k) l) 0 (((m + k) + l) + n)

    enough : (zs : List ℤ) → length zs ≡ ((m + k) + l) + n → m ≤ length zs
    enough zs e = omega (arith, e)

    enough_next : (m k l n : ℕ) (zs us vs : List ℤ) → length zs ≡ ((m + k) + l) + n → zs ≡ us ++ vs → length us ≡ m → k ≤ length vs
    enough_next m k l n zs us vs e is w = omega (arith, e, w, ap length is, length_append us vs)

    enough_last : (m k l n : ℕ) (zs us vs xs ys : List ℤ) → length zs ≡ ((m + k) + l) + n → zs ≡ us ++ vs → length us ≡ m → vs ≡ xs ++ ys → length xs ≡ k → l ≤ length ys
    enough_last m k l n zs us vs xs ys e is w is' w' = omega (arith, e, w, w', ap length is, length_append us vs, ap length is', length_append xs ys)

    by_parts : (zs p ks xs ns : List ℤ) → zs ≡ p ++ (ks ++ (xs ++ ns)) → length p ≡ m → length ks ≡ k → length xs ≡ l → length zs ≡ ((m + k) + l) + n
        → value (form_at (((m + k) + l) + n) (columns_from (((m + k) + l) + n) 0 m ++ columns_from (((m + k) + l) + n) (m + k) l) f) zs ≡ value (spread m k n f) zs
    by_parts zs p ks xs ns is u v x e =
        let c = ((m + k) + l) + n in
        let gs : List Affine = columns_from c 0 m in
        let hs : List Affine = columns_from c (m + k) l in
        let front : values_of gs zs ≡ p = segment_at zs [] p (ks ++ (xs ++ ns)) c 0 m is (sym e) refl (sym u) in
        let between : length (p ++ ks) ≡ m + k = length_append p ks ∙ ap (λ i. i + length ks) u ∙ ap (λ i. m + i) v in
        let back : values_of hs zs ≡ xs = segment_at zs (p ++ ks) xs ns c (m + k) l (is ∙ sym (append_assoc p ks (xs ++ ns))) (sym e) (sym between) (sym x) in
        let width : HaveColumns (length zs) (gs ++ hs) = subst (λ i. HaveColumns i (gs ++ hs)) (sym e) (append_columns c gs hs (from_width c 0 m) (from_width c (m + k) l)) in
        let many : length (gs ++ hs) ≡ length f.coefs = length_append gs hs ∙ ap (λ i. i + length hs) (from_long c 0 m) ∙ ap (λ i. m + i) (from_long c (m + k) l) ∙ sym w in
        let whole : length f.coefs ≡ length p + length xs = w ∙ ap (λ i. i + l) (sym u) ∙ ap (λ i. length p + i) (sym x) in
        ap (λ i. value (form_at i (gs ++ hs) f) zs) (sym e) ∙ at_value (gs ++ hs) f zs many width
        ∙ ap (value f) (values_append gs hs zs ∙ ap (λ ys. ys ++ values_of hs zs) front ∙ ap (λ ys. p ++ ys) back)
        ∙ sym (spread_value p ks xs ns m k n f (sym u) (sym v) whole) ∙ ap (value (spread m k n f)) (sym is)
