-- Mixtures of small forms don't pass 2^126.
use Rattle.std.proofs.Common.{◌≡◌, ℕ, ◌*◌, ◌^◌, ◌<◌, ◌≤◌, ℤ, true, IsTrue, List, [], ◌∷◌, length, sym, ◌∙◌, arith, inl, inr}
use Rattle.std.specs.Prelude.{unsigned_abs, nat_le, nat_abs}
use Rattle.std.proofs.Math.Nat.{mul-le-mul_left, mul-le-mul_right}
use Rattle.std.proofs.lemmas.Bool.{leb-true}
use Rattle.affc_rows.proofs.ValueLemmas.{length-mixed}
use Rattle.affc_rows.specs.Forms.{Affine, mixed_form, TooWide, mixed_magnitudes, mixed_form_magnitudes, entry_magnitude}
use Rattle.affc_domain.proofs.Lists.{both_true}
use Rattle.affc_domain.specs.Affine.{are_small, is_small}

product_below : (a b : ℕ) → a ≤ 2 ^ 24 → b ≤ 2 ^ 24 → a * b ≤ 2 ^ 48
product_below a b h k =
    let p : a * b ≤ a * 2 ^ 24 = mul-le-mul_left a k in
    let q : a * 2 ^ 24 ≤ 2 ^ 24 * 2 ^ 24 = mul-le-mul_right (2 ^ 24) h in
    omega arith

small_entry : (c : ℤ) → (n : ℕ) → nat_le (nat_abs c) n ≡ true → unsigned_abs c ≤ n
small_entry c n e = leb-true (nat_abs c) n e

entry_below : (s c t d : ℤ) → unsigned_abs s ≤ 2 ^ 24 → unsigned_abs t ≤ 2 ^ 24 → unsigned_abs c ≤ 2 ^ 24 → unsigned_abs d ≤ 2 ^ 24 → 2 ^ 126 < entry_magnitude s c t d → ⊥
entry_below s c t d h k m n w =
    let p = product_below (unsigned_abs s) (unsigned_abs c) h m in
    let q = product_below (unsigned_abs t) (unsigned_abs d) k n in
    absurd (omega arith)

not_wide : (s t : ℤ) (cs ds : List ℤ) → unsigned_abs s ≤ 2 ^ 24 → unsigned_abs t ≤ 2 ^ 24 → IsTrue (are_small cs) → IsTrue (are_small ds) → TooWide (mixed_magnitudes s cs t ds) → ⊥
not_wide s t [] ds h k f g w = w
not_wide s t (c ∷ cs) [] h k f g w = w
not_wide s t (c ∷ cs) (d ∷ ds) h k f g (inl w) =
    let a = both_true (nat_le (nat_abs c) 65536) (are_small cs) f in
    let b = both_true (nat_le (nat_abs d) 65536) (are_small ds) g in
    let x : unsigned_abs c ≤ 65536 = small_entry c 65536 a.0 in
    let y : unsigned_abs d ≤ 65536 = small_entry d 65536 b.0 in
    entry_below s c t d h k (omega arith) (omega arith) w
not_wide s t (c ∷ cs) (d ∷ ds) h k f g (inr w) =
    let a = both_true (nat_le (nat_abs c) 65536) (are_small cs) f in
    let b = both_true (nat_le (nat_abs d) 65536) (are_small ds) g in
    not_wide s t cs ds h k a.1 b.1 w

pub mixture_fits : (s : ℤ) (f : Affine) (t : ℤ) (g : Affine) → unsigned_abs s ≤ 2 ^ 24 → unsigned_abs t ≤ 2 ^ 24 → IsTrue (is_small f) → IsTrue (is_small g) → TooWide (mixed_form_magnitudes s f t g) → ⊥
mixture_fits s f t g h k u v (inl w) =
    let a = both_true (nat_le (nat_abs f.constant) 16777216) (are_small f.coefs) u in
    let b = both_true (nat_le (nat_abs g.constant) 16777216) (are_small g.coefs) v in
    let x : unsigned_abs f.constant ≤ 16777216 = small_entry f.constant 16777216 a.0 in
    let y : unsigned_abs g.constant ≤ 16777216 = small_entry g.constant 16777216 b.0 in
    entry_below s f.constant t g.constant h k (omega arith) (omega arith) w
mixture_fits s f t g h k u v (inr w) =
    let a = both_true (nat_le (nat_abs f.constant) 16777216) (are_small f.coefs) u in
    let b = both_true (nat_le (nat_abs g.constant) 16777216) (are_small g.coefs) v in
    not_wide s t f.coefs g.coefs h k a.1 b.1 w

pub constant_small : (f : Affine) → IsTrue (is_small f) → unsigned_abs f.constant ≤ 2 ^ 24
constant_small f u =
    let a = both_true (nat_le (nat_abs f.constant) 16777216) (are_small f.coefs) u in
    let x : unsigned_abs f.constant ≤ 16777216 = small_entry f.constant 16777216 a.0 in
    omega arith

pub mixture_width : (s : ℤ) (f : Affine) (t : ℤ) (g : Affine) (n : ℕ) → length f.coefs ≡ n → length g.coefs ≡ n → length (mixed_form s f t g).coefs ≡ n
mixture_width s f t g n h k = length-mixed s f.coefs t g.coefs (h ∙ sym k) ∙ h
