-- Mixtures of small forms are small.
use Rattle.std.proofs.Common.{◌≡◌, ℕ, zero, suc, ◌+◌, ◌*◌, ◌^◌, ◌<◌, ◌≤◌, List, [], ◌∷◌, length, drop, replicate, lit≤, get_or, refl, ℤ, pos, negsuc, ◌+ℤ◌, ◌-ℤ◌, ◌*ℤ◌, sym, ap, subst, ◌∙◌, arith, add-one}
use Rattle.std.specs.Prelude.{unsigned_abs}
use Rattle.std.specs.List.{All}
use Rattle.std.proofs.lemmas.List.Elements.{All-nil, All-cons, All-head, All-tail, All-weaker}
use Rattle.std.proofs.lemmas.Int.{ints, unsigned_abs-mul}
use Rattle.std.proofs.Math.Nat.{mul-le-mul_left, mul_comm}
use Rattle.affc_rows.specs.Forms.{Affine, dot, value, mixed, mixed_form}
use Rattle.affc_system.specs.Pairs.{IsSubscript}
use Rattle.affc_domain.proofs.FormLemmas.{dot_zeros}
use Rattle.affc_conflicts.specs.differences.Differences.{apart, IsSmall, IsApart}
use Rattle.affc_rows.proofs.FormLemmas.{sum_step}
use Rattle.affc_rows.proofs.IntLemmas.{abs-add, one-mul}
use Rattle.affc_rows.proofs.ValueLemmas.{value-mixed, length-mixed}

-- the magnitude of a multiple
pub times : (n : ℕ) (c d : ℤ) (b : ℕ) → unsigned_abs c ≤ n → unsigned_abs d ≤ b → unsigned_abs c * unsigned_abs d ≤ n * b
times n c d b h k =
    let p : unsigned_abs c * unsigned_abs d ≤ unsigned_abs c * b = mul-le-mul_left (unsigned_abs c) k in
    let q : b * unsigned_abs c ≤ b * n = mul-le-mul_left b h in
    omega (arith, p, q, mul_comm b n, mul_comm b (unsigned_abs c))

pub entry_within : (n : ℕ) (a c d : ℤ) (m b : ℕ) → unsigned_abs c ≤ n → unsigned_abs a ≤ m → unsigned_abs d ≤ b → unsigned_abs ((pos 1 *ℤ a) +ℤ (c *ℤ d)) ≤ m + n * b
entry_within n a c d m b h k l =
    let e = one-mul a in
    let s = abs-add (pos 1 *ℤ a) (c *ℤ d) in
    let f = ap unsigned_abs e in
    let g = unsigned_abs-mul c d in
    let t = times n c d b h l in
    omega (arith, s, f, g, t)

pub mixed_within : (n : ℕ) (us ds : List ℤ) (c : ℤ) (m b : ℕ) → unsigned_abs c ≤ n → All (λ v. unsigned_abs v ≤ m) us → All (λ v. unsigned_abs v ≤ b) ds
    → All (λ v. unsigned_abs v ≤ m + n * b) (mixed (pos 1) us c ds)
mixed_within n [] ds c m b h k l = All-nil (λ v. unsigned_abs v ≤ m + n * b)
mixed_within n (a ∷ us) [] c m b h k l = All-nil (λ v. unsigned_abs v ≤ m + n * b)
mixed_within n (a ∷ us) (d ∷ ds) c m b h k l =
    All-cons (λ v. unsigned_abs v ≤ m + n * b) ((pos 1 *ℤ a) +ℤ (c *ℤ d)) (mixed (pos 1) us c ds)
    (entry_within n a c d m b h (All-head (λ v. unsigned_abs v ≤ m) a us k) (All-head (λ v. unsigned_abs v ≤ b) d ds l))
    (mixed_within n us ds c m b h (All-tail (λ v. unsigned_abs v ≤ m) a us k) (All-tail (λ v. unsigned_abs v ≤ b) d ds l))

pub value_plus : (f g : Affine) (c : ℤ) (z : List ℤ) → length f.coefs ≡ length g.coefs → length f.coefs ≡ length z → value (mixed_form (pos 1) f c g) z ≡ value f z +ℤ (c *ℤ value g z)
value_plus f g c z h k = value-mixed (pos 1) f c g z h k ∙ ap (λ v. v +ℤ (c *ℤ value g z)) (one-mul (value f z))

pub value_minus : (f g : Affine) (z : List ℤ) → length f.coefs ≡ length g.coefs → length f.coefs ≡ length z → value (mixed_form (pos 1) f (negsuc 0) g) z ≡ value f z -ℤ value g z
value_minus f g z h k = value_plus f g (negsuc 0) z h k ∙ minus_one (value f z) (value g z)
  where
    minus_one : (a b : ℤ) → a +ℤ (negsuc 0 *ℤ b) ≡ a -ℤ b
    minus_one a b = omega (arith, ints)

-- one component of what is left
apart-drop' : (i : ℕ) (cs : List ℤ) (xs ys : List Affine) (d e : Affine) (z : List ℤ) → i < length cs → i < length xs → i < length ys
    → apart (drop i cs) (drop i xs) (drop i ys) z ≡ (get_or cs i (pos 0) *ℤ (value (get_or xs i d) z -ℤ value (get_or ys i e) z)) +ℤ apart (drop (suc i) cs) (drop (suc i) xs) (drop (suc i) ys) z
apart-drop' zero (c ∷ cs) (x ∷ xs) (y ∷ ys) d e z h k l = refl
apart-drop' (suc i) (c ∷ cs) (x ∷ xs) (y ∷ ys) d e z h k l = apart-drop' i cs xs ys d e z (omega arith) (omega arith) (omega arith)
apart-drop' i [] xs ys d e z h k l = absurd (omega arith)
apart-drop' i (c ∷ cs) [] ys d e z h k l = absurd (omega arith)
apart-drop' i (c ∷ cs) (x ∷ xs) [] d e z h k l = absurd (omega arith)

apart-drop : (i : ℕ) (cs : List ℤ) (xs ys : List Affine) (d e : Affine) (z : List ℤ) → i < length cs → i < length xs → i < length ys
    → apart (drop i cs) (drop i xs) (drop i ys) z ≡ (get_or cs i (pos 0) *ℤ (value (get_or xs i d) z -ℤ value (get_or ys i e) z)) +ℤ apart (drop (i + 1) cs) (drop (i + 1) xs) (drop (i + 1) ys) z
apart-drop i cs xs ys d e z h k l = rw add-one (apart-drop' i cs xs ys d e z h k l)

pub apart_step : (i : ℕ) (cs : List ℤ) (xs ys : List Affine) (x y : Affine) (z : List ℤ) (new old whole : ℤ) → i < length cs → i < length xs → i < length ys → x ≡ get_or xs i x → y ≡ get_or ys i y
    → new ≡ old +ℤ (get_or cs i (pos 0) *ℤ (value x z -ℤ value y z)) → old +ℤ apart (drop i cs) (drop i xs) (drop i ys) z ≡ whole
    → new +ℤ apart (drop (i + 1) cs) (drop (i + 1) xs) (drop (i + 1) ys) z ≡ whole
apart_step i cs xs ys x y z new old whole h k l a b n w =
    let c : ℤ = get_or cs i (pos 0) in
    let e : new ≡ old +ℤ (c *ℤ (value (get_or xs i x) z -ℤ value (get_or ys i y) z)) =
    n ∙ ap (λ u. old +ℤ (c *ℤ (value u z -ℤ value y z))) a ∙ ap (λ u. old +ℤ (c *ℤ (value (get_or xs i x) z -ℤ value u z))) b in
    sum_step new old _ _ _ whole e (apart-drop i cs xs ys x y z h k l) w

pub zero_value : (n : ℕ) (cs : List ℤ) (z : List ℤ) → cs ≡ replicate n (pos 0) → value (record { coefs = cs; constant = pos 0 }) z ≡ pos 0
zero_value n cs z e = ap (λ v. dot v z +ℤ pos 0) e ∙ ap (λ v. v +ℤ pos 0) (dot_zeros n z)

-- ---- the two mixtures

pub minus_is : (columns : ℕ) (x y f : Affine) → IsSubscript columns x → IsSubscript columns y → f ≡ mixed_form (pos 1) x (negsuc 0) y → IsApart columns x y f
minus_is columns x y f h k e =
    let same : length x.coefs ≡ length y.coefs = h.width ∙ sym k.width in
    subst (IsApart columns x y) (sym e) (record {
      width = length-mixed (pos 1) x.coefs (negsuc 0) y.coefs same ∙ h.width;
      coefs_fit = All-weaker (λ v. unsigned_abs v ≤ 65536 + 1 * 65536) (λ v. unsigned_abs v ≤ 2 ^ 17) (λ v l. omega arith) (mixed (pos 1) x.coefs (negsuc 0) y.coefs)
          (mixed_within 1 x.coefs y.coefs (negsuc 0) 65536 65536 (lit≤ tt) h.coefs_fit k.coefs_fit);
      constant_fits = let l = entry_within 1 x.constant (negsuc 0) y.constant 16777216 16777216 (lit≤ tt) h.constant_fits k.constant_fits in omega arith;
      holds = λ z len. value_minus x y z same (h.width ∙ sym len);
    })

module _ (columns n : ℕ) (sum f : Affine) (c : ℤ) (few : n < 8) (h : IsSmall columns n sum) (small : unsigned_abs c ≤ 256) (width : length f.coefs ≡ columns) (coefs : All (λ v. unsigned_abs v ≤ 2 ^ 17) f.coefs)
    (constant : unsigned_abs f.constant ≤ 2 ^ 25) where
  same : length sum.coefs ≡ length f.coefs
  same = h.width ∙ sym width

  pub plus_small : (g : Affine) → g ≡ mixed_form (pos 1) sum c f → IsSmall columns (n + 1) g
  plus_small g e = subst (IsSmall columns (n + 1)) (sym e) (record {
    width = length-mixed (pos 1) sum.coefs c f.coefs same ∙ h.width;
    coefs_fit = All-weaker (λ v. unsigned_abs v ≤ n * 2 ^ 25 + 256 * 2 ^ 17) (λ v. unsigned_abs v ≤ (n + 1) * 2 ^ 25) (λ v l. omega arith) (mixed (pos 1) sum.coefs c f.coefs)
        (mixed_within 256 sum.coefs f.coefs c (n * 2 ^ 25) (2 ^ 17) small h.coefs_fit coefs);
    constant_fits = let l = entry_within 256 sum.constant c f.constant (n * 2 ^ 33) (2 ^ 25) small h.constant_fits constant in omega arith;
  })

  pub plus_value : (g : Affine) → g ≡ mixed_form (pos 1) sum c f → (z : List ℤ) → length z ≡ columns → value g z ≡ value sum z +ℤ (c *ℤ value f z)
  plus_value g e z len = ap (λ u. value u z) e ∙ value_plus sum f c z same (h.width ∙ sym len)
