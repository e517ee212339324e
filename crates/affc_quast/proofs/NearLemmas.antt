-- The way of a point through a tree within the limits stays within machine numbers.
use Rattle.std.proofs.Common.{◌≡◌, ℕ, suc, ◌+◌, ◌*◌, ◌^◌, ◌≤◌, ℤ, pos, Bool, true, false, if◌then◌else◌, List, [], ◌∷◌, ◌++◌, length, sym, subst, arith}
use Rattle.std.specs.Prelude.{int_le, unsigned_abs, max, IfSome}
use Rattle.std.specs.List.{All}
use Rattle.std.proofs.lemmas.List.Elements.{All-nil, All-cons, All-head, All-tail, All-append}
use Rattle.std.proofs.Math.Nat.{mul-le-mul_left, mul-le-mul_right}
use Rattle.affc_rows.specs.Forms.{Affine, value, values_of, dot_magnitude, HaveColumns}
use Rattle.affc_ast.specs.Index.{floor_of}
use Rattle.affc_domain.proofs.ColumnLemmas.{first_columns, later_columns}
use Rattle.affc_domain.proofs.Lists.{length_push}
use Rattle.affc_quast.specs.Limits.{Shaped, FitsForm, FitsTree, widest}
use Rattle.affc_quast.specs.Paths.{IsNear, HasValue, HasNearValue, OnSide, LeadsNear}
use Rattle.affc_quast.specs.Trees.{Tree, Test, Div, Source, Input, named_at, quotients_at, depth_of}

product_below : (a b : ℕ) → a ≤ 2 ^ 24 → b ≤ 2 ^ 60 → a * b ≤ 2 ^ 84
product_below a b h k =
    let p : a * b ≤ a * 2 ^ 60 = mul-le-mul_left a k in
    let q : a * 2 ^ 60 ≤ 2 ^ 24 * 2 ^ 60 = mul-le-mul_right (2 ^ 60) h in
    omega arith

dot_below : (cs xs : List ℤ) → All (λ c. unsigned_abs c ≤ 2 ^ 24) cs → All IsNear xs → dot_magnitude cs xs ≤ length cs * 2 ^ 84
dot_below [] xs a b = omega arith
dot_below (c ∷ cs) [] a b = omega arith
dot_below (c ∷ cs) (x ∷ xs) a b =
    let i = dot_below cs xs (All-tail (λ c. unsigned_abs c ≤ 2 ^ 24) c cs a) (All-tail IsNear x xs b) in
    let p = product_below (unsigned_abs c) (unsigned_abs x) (All-head (λ c. unsigned_abs c ≤ 2 ^ 24) c cs a) (All-head IsNear x xs b) in
    omega arith

pub has_value : (f : Affine) (xs : List ℤ) → length f.coefs ≡ length xs → FitsForm widest f → All IsNear xs → length xs ≤ 528 → HasValue f xs
has_value f xs w fits near few =
    let d = dot_below f.coefs xs fits.coefs_fit near in
    let k = fits.constant_fits in
    record { width = w; fits = small (dot_magnitude f.coefs xs) (unsigned_abs f.constant) (length f.coefs) (length xs) d k w few }
  where
    small : (d k m n : ℕ) → d ≤ m * 2 ^ 84 → k ≤ 2 ^ 50 → m ≡ n → n ≤ 528 → d + k ≤ 2 ^ 126
    small d k m n a b e h = omega (arith, a, b, e, h)

has_values : (fs : List Affine) (xs : List ℤ) → HaveColumns (length xs) fs → All (FitsForm widest) fs → All IsNear xs → length xs ≤ 528 → All IsNear (values_of fs xs) → All (HasNearValue xs) fs
has_values [] xs w fits near few values = All-nil (HasNearValue xs)
has_values (f ∷ fs) xs w fits near few values =
    All-cons (HasNearValue xs) f fs
    (record { fits = has_value f xs (first_columns (length xs) f fs w) (All-head (FitsForm widest) f fs fits) near few; near = All-head IsNear (value f xs) (values_of fs xs) values })
    (has_values fs xs (later_columns (length xs) f fs w) (All-tail (FitsForm widest) f fs fits) near few (All-tail IsNear (value f xs) (values_of fs xs) values))

less_left : (n d e : ℕ) → n + suc (max d e) ≤ 528 → n + d ≤ 528
less_left n d e h = grind (arith, h)

less_right : (n d e : ℕ) → n + suc (max d e) ≤ 528 → n + e ≤ 528
less_right n d e h = grind (arith, h)

pub leads_near : (tree : Tree) (xs : List ℤ) → Shaped (length xs) tree → FitsTree widest tree → length xs + depth_of tree ≤ 528 → All IsNear xs → All IsNear (quotients_at tree xs)
    → IfSome (named_at tree xs) (λ b. All IsNear b.iterators) → LeadsNear tree xs
leads_near (Test f on off) xs h g few near quotients named = (
  has_value f xs h.0 g.0 near (fewer (length xs) (max (depth_of on) (depth_of off)) few),
  side (int_le (pos 0) (value f xs)) (λ q m. leads_near on xs h.1 g.1 (less_left (length xs) (depth_of on) (depth_of off) few) near q m)
      (λ q m. leads_near off xs h.2 g.2 (less_right (length xs) (depth_of on) (depth_of off) few) near q m) quotients named,
)
  where
    fewer : (n d : ℕ) → n + suc d ≤ 528 → n ≤ 528
    fewer n d h = omega (arith, h)

    side : (t : Bool) → (All IsNear (quotients_at on xs) → IfSome (named_at on xs) (λ b. All IsNear b.iterators) → LeadsNear on xs)
        → (All IsNear (quotients_at off xs) → IfSome (named_at off xs) (λ b. All IsNear b.iterators) → LeadsNear off xs)
        → All IsNear (if t then quotients_at on xs else quotients_at off xs) → IfSome (if t then named_at on xs else named_at off xs) (λ b. All IsNear b.iterators)
        → OnSide t (LeadsNear on xs) (LeadsNear off xs)
    side true a b q m = a q m
    side false a b q m = b q m
leads_near (Div f by rest) xs h g few near quotients named =
    let q = floor_of (value f xs) by in
    let n : IsNear q = All-head IsNear q (quotients_at rest (xs ++ q ∷ [])) quotients in
    let wide : suc (length xs) ≡ length (xs ++ q ∷ []) = sym (length_push xs q) in (
      record { fits = has_value f xs h.0 g.0 near (fewer (length xs) (depth_of rest) few); some = h.1; near = n },
      leads_near rest (xs ++ q ∷ []) (subst (λ k. Shaped k rest) wide h.2) g.2 (subst (λ k. k + depth_of rest ≤ 528) wide (moved (length xs) (depth_of rest) few))
          (All-append IsNear xs (q ∷ []) near (All-cons IsNear q [] n (All-nil IsNear))) (All-tail IsNear q (quotients_at rest (xs ++ q ∷ [])) quotients) named,
    )
  where
    fewer : (n d : ℕ) → n + suc d ≤ 528 → n ≤ 528
    fewer n d h = omega (arith, h)

    moved : (n d : ℕ) → n + suc d ≤ 528 → suc n + d ≤ 528
    moved n d h = omega (arith, h)
leads_near (Source s forms) xs h g few near quotients named = has_values forms xs h g near (fewer (length xs) few) named
  where
    fewer : (n : ℕ) → n + 0 ≤ 528 → n ≤ 528
    fewer n h = omega (arith, h)
leads_near Input xs h g few near quotients named = tt
