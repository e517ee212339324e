-- Forms of parts: mixtures of slight forms don't pass 2^126, and what is found is the form of the expression, where each part is slight.
use Rattle.std.proofs.Common.{◌≡◌, ℕ, ◌*◌, ◌^◌, ◌<◌, ◌≤◌, ℤ, true, ◌&&◌, List, [], ◌∷◌, arith, inl, inr}
use Rattle.std.specs.Prelude.{unsigned_abs, nat_le, nat_abs}
use Rattle.std.proofs.Math.Nat.{mul-le-mul_left, mul-le-mul_right}
use Rattle.std.proofs.lemmas.Bool.{leb-true, and_parts}
use Rattle.affc_rows.specs.Forms.{Affine, TooWide, mixed_magnitudes, mixed_form_magnitudes, entry_magnitude}
use Rattle.affc_trace.specs.Target.{are_slight}
use Rattle.affc_plan.specs.Operands.{is_slight}

-- ---- Magnitudes

product_below : (a b : ℕ) → a ≤ 2 ^ 30 → b ≤ 2 ^ 30 → a * b ≤ 2 ^ 60
product_below a b h k =
    let p : a * b ≤ a * 2 ^ 30 = mul-le-mul_left a k in
    let q : a * 2 ^ 30 ≤ 2 ^ 30 * 2 ^ 30 = mul-le-mul_right (2 ^ 30) h in
    omega arith

pub slight_entry : (c : ℤ) → (n : ℕ) → nat_le (nat_abs c) n ≡ true → unsigned_abs c ≤ n
slight_entry c n e = leb-true (nat_abs c) n e

entry_below : (s c t d : ℤ) → unsigned_abs s ≤ 2 ^ 30 → unsigned_abs t ≤ 2 ^ 30 → unsigned_abs c ≤ 2 ^ 30 → unsigned_abs d ≤ 2 ^ 30 → 2 ^ 126 < entry_magnitude s c t d → ⊥
entry_below s c t d h k m n w =
    let p = product_below (unsigned_abs s) (unsigned_abs c) h m in
    let q = product_below (unsigned_abs t) (unsigned_abs d) k n in
    absurd (omega arith)

not_wide : (s t : ℤ) (cs ds : List ℤ) → unsigned_abs s ≤ 2 ^ 30 → unsigned_abs t ≤ 2 ^ 30 → are_slight cs ≡ true → are_slight ds ≡ true → TooWide (mixed_magnitudes s cs t ds) → ⊥
not_wide s t [] ds h k f g w = w
not_wide s t (c ∷ cs) [] h k f g w = w
not_wide s t (c ∷ cs) (d ∷ ds) h k f g (inl w) =
    let a = and_parts (nat_le (nat_abs c) 256) (are_slight cs) f in
    let b = and_parts (nat_le (nat_abs d) 256) (are_slight ds) g in
    let x : unsigned_abs c ≤ 256 = slight_entry c 256 a.0 in
    let y : unsigned_abs d ≤ 256 = slight_entry d 256 b.0 in
    entry_below s c t d h k (omega arith) (omega arith) w
not_wide s t (c ∷ cs) (d ∷ ds) h k f g (inr w) =
    let a = and_parts (nat_le (nat_abs c) 256) (are_slight cs) f in
    let b = and_parts (nat_le (nat_abs d) 256) (are_slight ds) g in
    not_wide s t cs ds h k a.1 b.1 w

-- the constant and the coefficients of a slight form
pub slight_sides : (f : Affine) → is_slight f ≡ true → (unsigned_abs f.constant ≤ 2 ^ 30) × (are_slight f.coefs ≡ true)
slight_sides f u =
    let a = and_parts (nat_le (nat_abs f.constant) (2 ^ 30) && are_slight f.coefs) true u in
    let b = and_parts (nat_le (nat_abs f.constant) (2 ^ 30)) (are_slight f.coefs) a.0 in
    (slight_entry f.constant (2 ^ 30) b.0, b.1)

pub mixture_fits : (s : ℤ) (f : Affine) (t : ℤ) (g : Affine) → unsigned_abs s ≤ 2 ^ 30 → unsigned_abs t ≤ 2 ^ 30 → is_slight f ≡ true → is_slight g ≡ true → TooWide (mixed_form_magnitudes s f t g) → ⊥
mixture_fits s f t g h k u v (inl w) =
    let a = slight_sides f u in
    let b = slight_sides g v in
    entry_below s f.constant t g.constant h k a.0 b.0 w
mixture_fits s f t g h k u v (inr w) =
    let a = slight_sides f u in
    let b = slight_sides g v in
    not_wide s t f.coefs g.coefs h k a.1 b.1 w
