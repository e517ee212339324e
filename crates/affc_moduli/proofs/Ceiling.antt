-- Elements within their extents lie at most 2^53 apart along a row, so that each question keeps the limits.
use Rattle.std.proofs.Common.{◌≡◌, ℕ, suc, ◌+◌, ◌*◌, ◌^◌, ◌<◌, ◌≤◌, List, [], ◌∷◌, length, take, ℤ, pos, ◌+ℤ◌, ◌-ℤ◌, ◌*ℤ◌, neg_ℤ, ◌≤ℤ◌, ◌<ℤ◌, sym, subst, ◌∙◌, arith}
use Rattle.std.specs.Prelude.{unsigned_abs, slice_get, Some}
use Rattle.std.specs.List.{All}
use Rattle.std.proofs.lemmas.Int.{ints, unsigned_abs-mul}
use Rattle.std.proofs.lemmas.List.Elements.{All-nil, All-cons, All-head, All-tail, All-weaker}
use Rattle.std.proofs.Math.Nat.{mul-le-mul_left, mul_comm}
use Rattle.affc_rows.specs.Forms.{Affine, dot, value, values_of}
use Rattle.affc_rows.proofs.IntLemmas.{abs-add}
use Rattle.affc_system.specs.Systems.{Rows, IsRow}
use Rattle.affc_system.specs.Boxes.{InBox}
use Rattle.affc_system.specs.Pairs.{IsSubscript}
use Rattle.affc_system.specs.declared.pairs.PairSystem.{PairSystem}
use Rattle.affc_split.specs.maximum.Regions.{InRegion, IsAskable, AreAskable}
use Rattle.affc_split.specs.declared.maximum.region.Region.{Region}
use Rattle.affc_conflicts.specs.differences.Differences.{apart}
use Rattle.affc_conflicts.specs.Conditions.{InContext, IsNear, LiesWithin, IsConflict}
use Rattle.affc_moduli.specs.Slices.{AreSlices}
use Rattle.affc_moduli.specs.Distances.{AreForward, AreBackward, IsDifference}
use Rattle.affc_moduli.proofs.Apart.{apart-turned}

times : (c d : ℤ) (n b : ℕ) → unsigned_abs c ≤ n → unsigned_abs d ≤ b → unsigned_abs (c *ℤ d) ≤ n * b
times c d n b h k =
    let p : unsigned_abs c * unsigned_abs d ≤ unsigned_abs c * b = mul-le-mul_left (unsigned_abs c) k in
    let q : b * unsigned_abs c ≤ b * n = mul-le-mul_left b h in
    omega (arith, p, q, mul_comm b n, mul_comm b (unsigned_abs c), unsigned_abs-mul c d)

near_value : (lo hi x : ℤ) → unsigned_abs lo ≤ 2 ^ 24 → unsigned_abs hi ≤ 2 ^ 24 → lo ≤ℤ x → x ≤ℤ hi → unsigned_abs x ≤ 2 ^ 24
near_value lo hi x a b h k = omega (arith, ints)

sum_near : (a b : ℤ) (n : ℕ) → unsigned_abs a ≤ 65536 * 2 ^ 24 → unsigned_abs b ≤ n * 2 ^ 40 → unsigned_abs (a +ℤ b) ≤ suc n * 2 ^ 40
sum_near a b n h k = omega (arith, abs-add a b)

dot_near : (cs : List ℤ) (rs : List (ℤ × ℤ)) (xs : List ℤ) → All (λ c. unsigned_abs c ≤ 65536) cs → All IsNear rs → InBox rs xs → unsigned_abs (dot cs xs) ≤ length rs * 2 ^ 40
dot_near [] rs xs h k b = omega arith
dot_near (c ∷ cs) rs [] h k b = omega arith
dot_near (c ∷ cs) [] (x ∷ xs) h k b = absurd b
dot_near (c ∷ cs) (r ∷ rs) (x ∷ xs) h k b =
    let near = All-head IsNear r rs k in
    let here = times c x 65536 (2 ^ 24) (All-head (λ c. unsigned_abs c ≤ 65536) c cs h) (near_value r.0 r.1 x near.low near.high b.0 b.1) in
    sum_near (c *ℤ x) (dot cs xs) (length rs) here (dot_near cs rs xs (All-tail (λ c. unsigned_abs c ≤ 65536) c cs h) (All-tail IsNear r rs k) b.2)

four : (d k : ℤ) (n : ℕ) → n ≤ 4 → unsigned_abs d ≤ n * 2 ^ 40 → unsigned_abs k ≤ 16777216 → (d +ℤ k) ≤ℤ pos (2 ^ 43)
four d k n h a b = omega (arith, ints)

extent_near : (n : ℕ) (e : Affine) (rs : List (ℤ × ℤ)) (p : List ℤ) → n ≤ 4 → length rs ≡ n → IsSubscript n e → All IsNear rs → InBox rs p → value e p ≤ℤ pos (2 ^ 43)
extent_near n e rs p few len subscript near inside =
    four (dot e.coefs p) e.constant n few (subst (λ m. unsigned_abs (dot e.coefs p) ≤ m * 2 ^ 40) len (dot_near e.coefs rs p subscript.coefs_fit near inside)) subscript.constant_fits

abbrev pub AreNearAt : List Affine → List ℤ → Type 0
AreNearAt extents p = All (λ e. value e p ≤ℤ pos (2 ^ 43)) extents

gap_near : (x y e : ℤ) → pos 0 ≤ℤ x → x <ℤ e → pos 0 ≤ℤ y → y <ℤ e → e ≤ℤ pos (2 ^ 43) → unsigned_abs (x -ℤ y) ≤ 2 ^ 43
gap_near x y e a b c d h = omega (arith, ints)

value_near : (x e : ℤ) → pos 0 ≤ℤ x → x <ℤ e → e ≤ℤ pos (2 ^ 43) → unsigned_abs x ≤ 2 ^ 43
value_near x e a b h = omega (arith, ints)

pub lies_near : (xs extents : List Affine) (p z : List ℤ) → AreNearAt extents p → LiesWithin extents p (values_of xs z) → All (λ f. unsigned_abs (value f z) ≤ 2 ^ 43) xs
lies_near [] es p z k a = All-nil (λ f. unsigned_abs (value f z) ≤ 2 ^ 43)
lies_near (x ∷ xs) [] p z k a = absurd a
lies_near (x ∷ xs) (e ∷ es) p z k a =
    All-cons (λ f. unsigned_abs (value f z) ≤ 2 ^ 43) x xs (value_near (value x z) (value e p) a.0 a.1 (All-head (λ e. value e p ≤ℤ pos (2 ^ 43)) e es k))
    (lies_near xs es p z (All-tail (λ e. value e p ≤ℤ pos (2 ^ 43)) e es k) a.2)

sum_far : (a b : ℤ) (n : ℕ) → unsigned_abs a ≤ 256 * 2 ^ 43 → unsigned_abs b ≤ n * 2 ^ 51 → unsigned_abs (a +ℤ b) ≤ suc n * 2 ^ 51
sum_far a b n h k = omega (arith, abs-add a b)

apart_near : (cs : List ℤ) (xs ys extents : List Affine) (p z : List ℤ) → All (λ c. unsigned_abs c ≤ 256) cs → AreNearAt extents p
    → LiesWithin extents p (values_of xs z) → LiesWithin extents p (values_of ys z) → unsigned_abs (apart cs xs ys z) ≤ length cs * 2 ^ 51
apart_near [] xs ys es p z h k a b = omega arith
apart_near (c ∷ cs) [] ys es p z h k a b = omega arith
apart_near (c ∷ cs) (x ∷ xs) [] es p z h k a b = omega arith
apart_near (c ∷ cs) (x ∷ xs) (y ∷ ys) [] p z h k a b = absurd a
apart_near (c ∷ cs) (x ∷ xs) (y ∷ ys) (e ∷ es) p z h k a b =
    let near : value e p ≤ℤ pos (2 ^ 43) = All-head (λ e. value e p ≤ℤ pos (2 ^ 43)) e es k in
    let here = times c (value x z -ℤ value y z) 256 (2 ^ 43) (All-head (λ c. unsigned_abs c ≤ 256) c cs h) (gap_near (value x z) (value y z) (value e p) a.0 a.1 b.0 b.1 near) in
    sum_far (c *ℤ (value x z -ℤ value y z)) (apart cs xs ys z) (length cs) here
    (apart_near cs xs ys es p z (All-tail (λ c. unsigned_abs c ≤ 256) c cs h) (All-tail (λ e. value e p ≤ℤ pos (2 ^ 43)) e es k) a.2 b.2)

at_most : (a v : ℤ) (n : ℕ) → v ≡ a → n ≤ 4 → unsigned_abs a ≤ n * 2 ^ 51 → v ≤ℤ pos (2 ^ 53)
at_most a v n e h k = omega (arith, ints)

turned_size : (a b : ℤ) (n : ℕ) → b ≡ neg_ℤ a → unsigned_abs a ≤ n → unsigned_abs b ≤ n
turned_size a b n e h = omega (arith, ints)

module _ (context : Rows) (ranges : List (ℤ × ℤ)) (rows extents : List Affine) (k : ℕ) (systems : List PairSystem) (regions : List Region) (cs : List ℤ)
    (few : context.columns ≤ 4) (ranges_each : length ranges ≡ context.columns) (near : All IsNear ranges) (subscripts : All (IsSubscript context.columns) extents)
    (dimensions : length cs ≡ length extents) (few_dimensions : length cs ≤ 4) (before : k < length extents) (small : All (λ c. unsigned_abs c ≤ 256) cs)
    (conflicts : (i : ℕ) (s : PairSystem) → slice_get systems i ≡ Some s → IsConflict context ranges extents s) (slices : AreSlices context ranges rows k systems regions) where
  pub near_extents : (p : List ℤ) → InContext context ranges p → AreNearAt extents p
  near_extents p here = All-weaker (IsSubscript context.columns) (λ e. value e p ≤ℤ pos (2 ^ 43)) (λ e subscript. extent_near context.columns e ranges p few ranges_each subscript near here.inside) extents subscripts

  pub apart_bound : (i : ℕ) (s : PairSystem) (r : Region) (z : List ℤ) → slice_get systems i ≡ Some s → slice_get regions i ≡ Some r → InRegion r z → unsigned_abs (apart cs s.x.items s.y.items z) ≤ length cs * 2 ^ 51
  apart_bound i s r z at there inside =
      let held = ((slices.slices i s r at there).holds z).0 inside in
      let conflict = conflicts i s at in
      apart_near cs s.x.items s.y.items extents (take context.columns z) z small (near_extents (take context.columns z) held.in_context) (conflict.x_within z held.meets) (conflict.y_within z held.meets)

  pub room : (i : ℕ) (s : PairSystem) (r : Region) → slice_get systems i ≡ Some s → slice_get regions i ≡ Some r → length r.system.rows + 2 ≤ 1024
  room i s r at there =
      let a = (slices.slices i s r at there).few in
      let b = (conflicts i s at).room in
      omega arith

  pub row_of : (i : ℕ) (s : PairSystem) (r : Region) (f : Affine) (xs ys : List Affine) → slice_get systems i ≡ Some s → slice_get regions i ≡ Some r → IsDifference s.system.columns cs xs ys f → IsRow r.system.columns f
  row_of i s r f xs ys at there d = record {
    width = d.small.width ∙ sym (slices.slices i s r at there).columns;
    fits = record {
      coefs_fit = All-weaker (λ c. unsigned_abs c ≤ 4 * 2 ^ 25) (λ c. unsigned_abs c ≤ 2 ^ 40) (λ c h. omega arith) f.coefs d.small.coefs_fit;
      constant_fits = let h = d.small.constant_fits in omega arith;
    };
  }

  askable : (i : ℕ) (s : PairSystem) (r : Region) (f : Affine) (xs ys : List Affine) → slice_get systems i ≡ Some s → slice_get regions i ≡ Some r → IsDifference s.system.columns cs xs ys f
      → ((z : List ℤ) → InRegion r z → unsigned_abs (apart cs xs ys z) ≤ length cs * 2 ^ 51) → IsAskable r f (pos (2 ^ 53))
  askable i s r f xs ys at there d bound = record {
    measure = record {
      width = d.small.width ∙ sym (slices.slices i s r at there).columns;
      coefs_fit = All-weaker (λ c. unsigned_abs c ≤ 4 * 2 ^ 25) (λ c. unsigned_abs c ≤ 2 ^ 40) (λ c h. omega arith) f.coefs d.small.coefs_fit;
      constant_fits = let h = d.small.constant_fits in omega arith;
    };
    room = let h = room i s r at there in omega arith;
    bounded = λ z inside. at_most (apart cs xs ys z) (value f z) (length cs) (d.holds z (inside.meets.width ∙ (slices.slices i s r at there).columns)) few_dimensions (bound z inside);
  }

  pub askable_forward : (fs : List Affine) → AreForward systems cs fs → ((i : ℕ) (r : Region) → slice_get regions i ≡ Some r → (s : PairSystem) × (slice_get systems i ≡ Some s)) → AreAskable regions fs (pos (2 ^ 53))
  askable_forward fs forward system i r f there at_f =
      let s = system i r there in
      askable i s.0 r f s.0.x.items s.0.y.items s.1 there (forward i s.0 f s.1 at_f) (λ z inside. apart_bound i s.0 r z s.1 there inside)

  pub askable_backward : (gs : List Affine) → AreBackward systems cs gs → ((i : ℕ) (r : Region) → slice_get regions i ≡ Some r → (s : PairSystem) × (slice_get systems i ≡ Some s)) → AreAskable regions gs (pos (2 ^ 53))
  askable_backward gs backward system i r f there at_f =
      let s = system i r there in
      askable i s.0 r f s.0.y.items s.0.x.items s.1 there (backward i s.0 f s.1 at_f)
      (λ z inside. turned_size _ _ _ (apart-turned cs s.0.x.items s.0.y.items z) (apart_bound i s.0 r z s.1 there inside))
