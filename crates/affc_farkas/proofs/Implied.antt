-- A row implies another where both are parallel and its constant is the less, and a constant at least 0 is implied by nothing.
use Rattle.std.proofs.Common.{◌≡◌, ℕ, suc, ◌<◌, List, [], ◌∷◌, length, get_or, ℤ, pos, ◌+ℤ◌, ◌*ℤ◌, neg_ℤ, ◌≤ℤ◌, sym, ap, ◌∙◌, arith}
use Rattle.std.proofs.lemmas.Int.{ints}
use lib.IntN.{*ℤ_comm, *ℤ-zero}
use Rattle.affc_rows.specs.Forms.{Affine, dot}
use Rattle.affc_rows.proofs.IntLemmas.{mul-add, mul_assoc, neg-mul}
use Rattle.affc_farkas.specs.Multiples.{entry_of}
use Rattle.affc_farkas.specs.Rational.{scaled_value}
use Rattle.affc_farkas.proofs.Sound.{dot-cancelled}
use Rattle.affc_farkas.proofs.Between.{nonneg_product, cancel, swap}

term : (m n c e x : ℤ) → c *ℤ m ≡ e *ℤ n → m *ℤ (c *ℤ x) ≡ n *ℤ (e *ℤ x)
term m n c e x h = sym (mul_assoc m c x) ∙ ap (λ z. z *ℤ x) (*ℤ_comm m c ∙ h ∙ *ℤ_comm e n) ∙ mul_assoc n e x

dot-parallel : (m n : ℤ) (cs es xs : List ℤ) → length cs ≡ length es → ((j : ℕ) → j < length cs → get_or cs j (pos 0) *ℤ m ≡ get_or es j (pos 0) *ℤ n) → m *ℤ dot cs xs ≡ n *ℤ dot es xs
dot-parallel m n [] [] xs l h = *ℤ-zero m ∙ sym (*ℤ-zero n)
dot-parallel m n [] (e ∷ es) xs l h = absurd (omega arith)
dot-parallel m n (c ∷ cs) [] xs l h = absurd (omega arith)
dot-parallel m n (c ∷ cs) (e ∷ es) [] l h = *ℤ-zero m ∙ sym (*ℤ-zero n)
dot-parallel m n (c ∷ cs) (e ∷ es) (x ∷ xs) l h =
    mul-add m (c *ℤ x) (dot cs xs)
    ∙ ap (λ z. z +ℤ (m *ℤ dot cs xs)) (term m n c e x (h 0 (omega arith)))
    ∙ ap (λ z. (n *ℤ (e *ℤ x)) +ℤ z) (dot-parallel m n cs es xs (omega arith) (λ j lt. h (suc j) (omega arith)))
    ∙ sym (mul-add n (e *ℤ x) (dot es xs))

-- a product with a factor that is at least 0 keeps the order
keeps' : (w u v : ℤ) → pos 0 ≤ℤ w → w ≡ u +ℤ neg_ℤ v → v ≤ℤ u
keeps' w u v h e = omega (arith, ints)

mul-neg' : (d a : ℤ) → d *ℤ neg_ℤ a ≡ neg_ℤ (d *ℤ a)
mul-neg' d a = *ℤ_comm d (neg_ℤ a) ∙ neg-mul a d ∙ ap neg_ℤ (*ℤ_comm a d)

room : (a b : ℤ) → a ≤ℤ b → pos 0 ≤ℤ (b +ℤ neg_ℤ a)
room a b h = omega (arith, ints)

keeps : (d a b : ℤ) → pos 0 ≤ℤ d → a ≤ℤ b → (d *ℤ a) ≤ℤ (d *ℤ b)
keeps d a b h k = keeps' (d *ℤ (b +ℤ neg_ℤ a)) (d *ℤ b) (d *ℤ a) (nonneg_product d (b +ℤ neg_ℤ a) h (room a b k)) (mul-add d b (neg_ℤ a) ∙ ap (λ z. (d *ℤ b) +ℤ z) (mul-neg' d a))

join : (w mf ng p q md nd mc nc : ℤ) → pos 0 ≤ℤ mf → mf ≡ md +ℤ mc → ng ≡ nd +ℤ nc → md ≡ nd → mc ≡ p → nc ≡ q → p ≤ℤ q → pos 0 ≤ℤ ng
join w mf ng p q md nd mc nc h e f g i j k = omega (arith, ints)

weaken : (d : ℤ) → pos 1 ≤ℤ d → pos 0 ≤ℤ d
weaken d h = omega (arith, ints)

pub implied : (m n : ℤ) (f g : Affine) → pos 1 ≤ℤ m → pos 1 ≤ℤ n → length f.coefs ≡ length g.coefs
    → ((j : ℕ) → j < length f.coefs → get_or f.coefs j (pos 0) *ℤ m ≡ get_or g.coefs j (pos 0) *ℤ n)
    → (f.constant *ℤ m) ≤ℤ (g.constant *ℤ n)
    → (x : List ℤ) (d : ℤ) → pos 1 ≤ℤ d → pos 0 ≤ℤ scaled_value f x d → pos 0 ≤ℤ scaled_value g x d
implied m n f g one two l h k x d three met =
    let mf = nonneg_product m (scaled_value f x d) (weaken m one) met in
    let e = mul-add m (dot f.coefs x) (d *ℤ f.constant) in
    let i = mul-add n (dot g.coefs x) (d *ℤ g.constant) in
    let p = swap m d f.constant ∙ ap (λ z. d *ℤ z) (*ℤ_comm m f.constant) in
    let q = swap n d g.constant ∙ ap (λ z. d *ℤ z) (*ℤ_comm n g.constant) in
    cancel n (scaled_value g x d) two
    (join (pos 0) (m *ℤ scaled_value f x d) (n *ℤ scaled_value g x d) (d *ℤ (f.constant *ℤ m)) (d *ℤ (g.constant *ℤ n)) (m *ℤ dot f.coefs x) (n *ℤ dot g.coefs x) (m *ℤ (d *ℤ f.constant)) (n *ℤ (d *ℤ g.constant))
    mf e i (dot-parallel m n f.coefs g.coefs x l h) p q (keeps d (f.constant *ℤ m) (g.constant *ℤ n) (weaken d three) k))

only_constant : (v u w : ℤ) → v ≡ pos 0 → pos 0 ≤ℤ w → pos 0 ≤ℤ (v +ℤ w)
only_constant v u w e h = omega (arith, ints)

-- a row without coefficients and with a constant of at least 0 holds everywhere
pub holds_everywhere : (f : Affine) (x : List ℤ) (d : ℤ) → ((j : ℕ) → j < length f.coefs → entry_of f j ≡ pos 0) → pos 0 ≤ℤ f.constant → pos 1 ≤ℤ d → pos 0 ≤ℤ scaled_value f x d
holds_everywhere f x d zeros h one = only_constant (dot f.coefs x) (pos 0) (d *ℤ f.constant) (dot-cancelled f x zeros) (nonneg_product d f.constant (weaken d one) h)
