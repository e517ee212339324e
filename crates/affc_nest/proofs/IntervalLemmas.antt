-- The ends of a form's values over a box, at its corners.
use Rattle.std.proofs.Common.{◌≡◌, ℕ, suc, ◌+◌, ◌*◌, ◌^◌, ◌<◌, ◌≤◌, ℤ, ◌≤ℤ◌, true, false, List, [], ◌∷◌, length, refl, sym, ap, ◌∙◌, subst, arith, inl, inr}
use Rattle.std.proofs.Common.{to_z, of_z}
use Rattle.std.proofs.Common.{IsTrue, ◌++◌, if◌then◌else◌}
use Rattle.std.proofs.lemmas.Bool.{leb-true}
use Rattle.std.proofs.lemmas.List.Elements.{All-nil, All-cons}
use Rattle.std.specs.List.{All}
use Rattle.std.specs.Prelude.{unsigned_abs, nat_abs, int_lt, not, ◌&&◌, FitsSigned}
use Rattle.std.specs.Int.{w64, w128}
use Rattle.std.proofs.lemmas.Int.{ints, to_z-of_z, fits_signed_from_abs}
use Rattle.affc_rows.specs.Forms.{Affine, value, dot, dot_magnitude, magnitude}
use Rattle.affc_rows.proofs.IntLemmas.{abs-add}
use Rattle.affc_rows.proofs.SizeLemmas.{Below, dot_abs, dot_below}
use Rattle.affc_system.specs.Boxes.{IsBox, InBox, IsCorner, corner}
use Rattle.affc_system.specs.Pairs.{WithinReach}
use Rattle.affc_system.proofs.BoxLemmas.{corner_in_box, corner_is_corner, value_least, value_greatest}
use Rattle.affc_ast.specs.declared.tree.Ix.{Ix}
use Rattle.affc_ast.specs.declared.tree.Rel.{Rel}
use Rattle.affc_trace.proofs.EndedReads.{append_assoc}
use Rattle.affc_trace.proofs.Runs.{length_append}
use Rattle.affc_domain.specs.Affine.{form_of}
use Rattle.affc_domain.specs.Ranges.{Never, Wide, outermost, is_near, last_of, range_of, entered, ranges_of}
use Rattle.affc_domain.specs.Rounds.{Round, Loop}
use Rattle.affc_domain.proofs.Lists.{both_true}
use Rattle.affc_nest.specs.declared.ranges.Fit.{Fit}
use Rattle.affc_nest.specs.declared.ranges.Fit.TheVariants.{Near, Missed, Far}
use Rattle.affc_domain.specs.Plain.{is_plain}
use Rattle.affc_nest.specs.Fits.{FitSays}
use Rattle.affc_nest.specs.Frames.{plain_at}
use Rattle.affc_nest.specs.Sides.{IsSide, NearRanges}

antisymmetric : (x y : ℤ) → x ≤ℤ y → y ≤ℤ x → x ≡ y
antisymmetric x y h g = omega (arith, ints)

pub least_is : (f : Affine) (rs : List (ℤ × ℤ)) (z : ℤ) → IsBox rs → length f.coefs ≡ length rs
    → ((x : List ℤ) → InBox rs x → z ≤ℤ value f x) → (x : List ℤ) × InBox rs x × (value f x ≡ z) → z ≡ value f (corner false f.coefs rs)
least_is f rs z box l below at =
    antisymmetric z (value f (corner false f.coefs rs)) (below (corner false f.coefs rs) (corner_in_box rs (corner false f.coefs rs) box (corner_is_corner false f.coefs rs l)))
    (subst (λ y. value f (corner false f.coefs rs) ≤ℤ y) at.2 (value_least f rs at.0 l at.1))

pub greatest_is : (f : Affine) (rs : List (ℤ × ℤ)) (z : ℤ) → IsBox rs → length f.coefs ≡ length rs
    → ((x : List ℤ) → InBox rs x → value f x ≤ℤ z) → (x : List ℤ) × InBox rs x × (value f x ≡ z) → z ≡ value f (corner true f.coefs rs)
greatest_is f rs z box l above at =
    antisymmetric z (value f (corner true f.coefs rs)) (subst (λ y. y ≤ℤ value f (corner true f.coefs rs)) at.2 (value_greatest f rs at.0 l at.1))
    (above (corner true f.coefs rs) (corner_in_box rs (corner true f.coefs rs) box (corner_is_corner true f.coefs rs l)))

corner_below : (rs : List (ℤ × ℤ)) (xs : List ℤ) → NearRanges rs → IsCorner rs xs → Below (2 ^ 32) xs
corner_below rs [] b h = All-nil (λ x. unsigned_abs x ≤ 2 ^ 32)
corner_below [] (x ∷ xs) b h = absurd h
corner_below (r ∷ rs) (x ∷ xs) b h =
    All-cons (λ x. unsigned_abs x ≤ 2 ^ 32) x xs (elim h.0 [ inl e ↦ subst (λ y. unsigned_abs y ≤ 2 ^ 32) (sym e) b.0 | inr e ↦ subst (λ y. unsigned_abs y ≤ 2 ^ 32) (sym e) b.1 ]) (corner_below rs xs b.2 h.1)

corner_dot : (cs : List ℤ) (rs : List (ℤ × ℤ)) (xs : List ℤ) → Below (2 ^ 16) cs → NearRanges rs → IsCorner rs xs → dot_magnitude cs xs ≤ length cs * (2 ^ 16 * 2 ^ 32)
corner_dot cs rs xs a b h = dot_below (2 ^ 16) (2 ^ 32) cs xs a (corner_below rs xs b h)

pub not_past : (f : Affine) (rs : List (ℤ × ℤ)) → IsSide (length rs) f → NearRanges rs → length rs ≤ 128 → (x : List ℤ) × IsCorner rs x × (2 ^ 126 < magnitude f x) → ⊥
not_past f rs s near few past =
    let d = corner_dot f.coefs rs past.0 s.coefs_fit near past.1 in
    let w : length f.coefs ≡ length rs = s.width in
    let k = s.constant_fits in
    let g : 2 ^ 126 < dot_magnitude f.coefs past.0 + unsigned_abs f.constant = past.2 in
    absurd (omega arith)

-- at a corner of near ranges a side is far from the limits of i128
pub corner_small : (f : Affine) (rs : List (ℤ × ℤ)) (xs : List ℤ) → IsSide (length rs) f → NearRanges rs → length rs ≤ 128 → IsCorner rs xs → unsigned_abs (value f xs) ≤ 2 ^ 60
corner_small f rs xs s near few at =
    let a = abs-add (dot f.coefs xs) f.constant in
    let b = dot_abs f.coefs xs in
    let d = corner_dot f.coefs rs xs s.coefs_fit near at in
    let w : length f.coefs ≡ length rs = s.width in
    let k = s.constant_fits in
    omega arith

pub fits_wide : (z v : ℤ) → z ≡ v → unsigned_abs v ≤ 2 ^ 62 → to_z w128 (of_z w128 z) ≡ v
fits_wide z v e h =
    let g : unsigned_abs z ≤ 2 ^ 62 = subst (λ y. unsigned_abs y ≤ 2 ^ 62) (sym e) h in
    let f : FitsSigned w128 z = fits_signed_from_abs w128 z (below g) in
    to_z-of_z w128 z f ∙ e
  where
    below : {n : ℕ} → n ≤ 2 ^ 62 → n < 2 ^ 127
    below h = omega arith

pub same_range : (r : ℤ × ℤ) → unsigned_abs r.0 ≤ 2 ^ 32 → unsigned_abs r.1 ≤ 2 ^ 32 → (to_z w64 (of_z w64 r.0), to_z w64 (of_z w64 r.1)) ≡ r
same_range r h g =
    let f : FitsSigned w64 r.0 = fits_signed_from_abs w64 r.0 (below h) in
    let k : FitsSigned w64 r.1 = fits_signed_from_abs w64 r.1 (below g) in
    ap (λ (x : ℤ). let p : ℤ × ℤ = (x, to_z w64 (of_z w64 r.1)) in p) (to_z-of_z w64 r.0 f) ∙ ap (λ (x : ℤ). let p : ℤ × ℤ = (r.0, x) in p) (to_z-of_z w64 r.1 k)
  where
    below : {n : ℕ} → n ≤ 2 ^ 32 → n < 2 ^ 63
    below h = omega arith

pub less_wide : {n : ℕ} → n ≤ 2 ^ 60 → n ≤ 2 ^ 62
less_wide h = omega arith

pub range_is : (outer : List (ℤ × ℤ)) (n : ℕ) (low : Ix) (rel : Rel) (high : Ix) (f g : Affine) (x y x' y' : ℤ) → n ≡ length outer → f ≡ form_of n 0 low → g ≡ form_of n 0 high
    → x ≡ value f (corner false f.coefs outer) → y ≡ last_of rel (value g (corner true g.coefs outer)) → x' ≡ x → y' ≡ y
    → ◌≡◌ {A = ℤ × ℤ} (x', y') (range_of outer low rel high)
range_is outer n low rel high f g x y x' y' m e h p q u v =
    let a : x' ≡ (range_of outer low rel high).0 = u ∙ p ∙ ap (λ (k : Affine). value k (corner false k.coefs outer)) (e ∙ ap (λ j. form_of j 0 low) m) in
    let b : y' ≡ (range_of outer low rel high).1 = v ∙ q ∙ ap (λ (k : Affine). last_of rel (value k (corner true k.coefs outer))) (h ∙ ap (λ j. form_of j 0 high) m) in
    ap (λ (z : ℤ). let r : ℤ × ℤ = (z, y') in r) a ∙ ap (λ (z : ℤ). let r : ℤ × ℤ = ((range_of outer low rel high).0, z) in r) b

-- ---- What the rule says of a loop

pub far_is : (outer : List (ℤ × ℤ)) (iter : List ℕ) (low : Ix) (rel : Rel) (high : Ix) (rs whole : List Round) (r : ℤ × ℤ) → whole ≡ Loop iter low rel high ∷ rs
    → r ≡ range_of outer low rel high → int_lt r.1 r.0 ≡ false → (is_near r.0 && is_near r.1) ≡ false → ranges_of outer whole ≡ Wide 0
far_is outer iter low rel high rs whole r w e h far =
    ap (ranges_of outer) w ∙ ap (λ q. entered q (ranges_of (outer ++ q ∷ []) rs)) (sym e)
    ∙ ap (λ t. if t then Never else (if not (is_near r.0 && is_near r.1) then Wide 0 else outermost r (ranges_of (outer ++ r ∷ []) rs))) h
    ∙ ap (λ t. if not t then Wide 0 else outermost r (ranges_of (outer ++ r ∷ []) rs)) far

near_is : (outer : List (ℤ × ℤ)) (iter : List ℕ) (low : Ix) (rel : Rel) (high : Ix) (rs whole : List Round) (r : ℤ × ℤ) → whole ≡ Loop iter low rel high ∷ rs
    → r ≡ range_of outer low rel high → int_lt r.1 r.0 ≡ false → (is_near r.0 && is_near r.1) ≡ true → ranges_of outer whole ≡ outermost r (ranges_of (outer ++ r ∷ []) rs)
near_is outer iter low rel high rs whole r w e h near =
    ap (ranges_of outer) w ∙ ap (λ q. entered q (ranges_of (outer ++ q ∷ []) rs)) (sym e)
    ∙ ap (λ t. if t then Never else (if not (is_near r.0 && is_near r.1) then Wide 0 else outermost r (ranges_of (outer ++ r ∷ []) rs))) h
    ∙ ap (λ t. if not t then Wide 0 else outermost r (ranges_of (outer ++ r ∷ []) rs)) near

pub fit_outside : (f : Fit) (outer all own own' made : List (ℤ × ℤ)) (iter : List ℕ) (low : Ix) (rel : Rel) (high : Ix) (rs whole : List Round) (r : ℤ × ℤ) (depth : ℕ) → whole ≡ Loop iter low rel high ∷ rs
    → r ≡ range_of outer low rel high → int_lt r.1 r.0 ≡ false → (is_near r.0 && is_near r.1) ≡ true → all ≡ outer ++ r ∷ [] → own' ≡ own ++ r ∷ []
    → FitSays f all rs own' made (depth + 1) → FitSays f outer whole own made depth
fit_outside Near outer all own own' made iter low rel high rs whole r depth w e h near a o says =
    let i = near_is outer iter low rel high rs whole r w e h near in
    (r ∷ says.0, i ∙ ap (λ q. outermost r (ranges_of q rs)) (sym a) ∙ ap (outermost r) says.1, says.2 ∙ ap (λ q. q ++ says.0) o ∙ append_assoc own (r ∷ []) says.0)
fit_outside Missed outer all own own' made iter low rel high rs whole r depth w e h near a o says =
    near_is outer iter low rel high rs whole r w e h near ∙ ap (λ q. outermost r (ranges_of q rs)) (sym a) ∙ ap (outermost r) says
fit_outside (Far n) outer all own own' made iter low rel high rs whole r depth w e h near a o says =
    (suc says.0, near_is outer iter low rel high rs whole r w e h near ∙ ap (λ q. outermost r (ranges_of q rs)) (sym a) ∙ ap (outermost r) says.1, says.2 ∙ deeper depth says.0)
  where
    deeper : (d k : ℕ) → (d + 1) + k ≡ d + suc k
    deeper d k = omega arith

-- ---- One range more

close_abs : (z : ℤ) → is_near z ≡ true → unsigned_abs z ≤ 2 ^ 31
close_abs z h = leb-true (nat_abs z) (2 ^ 31) h

pub close_range : (r : ℤ × ℤ) → IsTrue (is_near r.0 && is_near r.1) → (unsigned_abs r.0 ≤ 2 ^ 32) × (unsigned_abs r.1 ≤ 2 ^ 32)
close_range r h =
    let a = both_true (is_near r.0) (is_near r.1) h in
    let b = close_abs r.0 a.0 in
    let d = close_abs r.1 a.1 in
    (wider b, wider d)
  where
    wider : {n : ℕ} → n ≤ 2 ^ 31 → n ≤ 2 ^ 32
    wider h = omega arith

pub reach : (r : ℤ × ℤ) → (unsigned_abs r.0 ≤ 2 ^ 32) × (unsigned_abs r.1 ≤ 2 ^ 32) → WithinReach r
reach r h = record { low = further h.0; high = further h.1 }
  where
    further : {n : ℕ} → n ≤ 2 ^ 32 → n ≤ 2 ^ 60
    further h = omega arith

pub near_reach : (rs : List (ℤ × ℤ)) → NearRanges rs → All WithinReach rs
near_reach [] h = All-nil WithinReach
near_reach (r ∷ rs) h = All-cons WithinReach r rs (reach r (h.0, h.1)) (near_reach rs h.2)

near_push : (rs : List (ℤ × ℤ)) (r : ℤ × ℤ) → NearRanges rs → (unsigned_abs r.0 ≤ 2 ^ 32) × (unsigned_abs r.1 ≤ 2 ^ 32) → NearRanges (rs ++ r ∷ [])
near_push [] r n h = (h.0, h.1, tt)
near_push (q ∷ rs) r n h = (n.0, n.1, near_push rs r n.2 h)

pub near_more : (rs all : List (ℤ × ℤ)) (r : ℤ × ℤ) → all ≡ rs ++ r ∷ [] → NearRanges rs → IsTrue (is_near r.0 && is_near r.1) → NearRanges all
near_more rs all r e n h = subst NearRanges (sym e) (near_push rs r n (close_range r h))

pub one_longer : (rs all : List (ℤ × ℤ)) (r : ℤ × ℤ) → all ≡ rs ++ r ∷ [] → length all ≡ suc (length rs)
one_longer rs all r e = ap length e ∙ length_append rs (r ∷ []) ∙ plus_one (length rs)
  where
    plus_one : (n : ℕ) → n + 1 ≡ suc n
    plus_one n = omega arith

pub less_wider : {n : ℕ} → n ≤ 2 ^ 61 → n ≤ 2 ^ 62
less_wider h = omega arith

pub last_fits : (rel : Rel) (z v : ℤ) → z ≡ v → unsigned_abs z ≤ 2 ^ 60 → last_of rel (to_z w128 (of_z w128 z)) ≡ last_of rel v
last_fits rel z v e h = ap (last_of rel) (fits_wide z z refl (less_wide h) ∙ e)

pub small_again : (z : ℤ) → unsigned_abs z ≤ 2 ^ 62 → unsigned_abs (to_z w128 (of_z w128 z)) ≤ 2 ^ 62
small_again z h = subst (λ y. unsigned_abs y ≤ 2 ^ 62) (sym (fits_wide z z refl h)) h

pub again : (x y : ℤ) → unsigned_abs x ≤ 2 ^ 62 → unsigned_abs y ≤ 2 ^ 62 → ◌≡◌ {A = ℤ × ℤ} (to_z w128 (of_z w128 x), to_z w128 (of_z w128 y)) (x, y)
again x y h g =
    ap (λ (z : ℤ). let r : ℤ × ℤ = (z, to_z w128 (of_z w128 y)) in r) (fits_wide x x refl h) ∙ ap (λ (z : ℤ). let r : ℤ × ℤ = (x, z) in r) (fits_wide y y refl g)

pub plain_inside : (n m : ℕ) (iter : List ℕ) (low : Ix) (rel : Rel) (high : Ix) (rs whole : List Round) → whole ≡ Loop iter low rel high ∷ rs → m ≡ suc n → IsTrue (plain_at n whole) → IsTrue (plain_at m rs)
plain_inside n m iter low rel high rs whole w e h =
    let a : IsTrue (plain_at n (Loop iter low rel high ∷ rs)) = subst (λ q. IsTrue (plain_at n q)) w h in
    let b = both_true (is_plain n low) (is_plain n high && plain_at (suc n) rs) a in
    let d = both_true (is_plain n high) (plain_at (suc n) rs) b.1 in
    subst (λ k. IsTrue (plain_at k rs)) (sym e) d.1

pub fewer_inside : (n m k l : ℕ) → k ≡ suc l → m ≡ suc n → n + k ≤ 128 → m + l ≤ 128
fewer_inside n m k l e f h = omega arith
