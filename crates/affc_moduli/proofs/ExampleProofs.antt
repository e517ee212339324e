-- The examples, from the points of their pairs.
use Rattle.std.proofs.Common.{◌≡◌, ℕ, zero, suc, ◌+◌, ◌*◌, ◌^◌, ◌<◌, ◌≤◌, ℤ, pos, negsuc, ◌+ℤ◌, ◌-ℤ◌, ◌≤ℤ◌, ◌<ℤ◌, List, [], ◌∷◌, length, take, get_or, Some, None, refl, sym, ap, subst, ◌∙◌, inl, inr, arith, lit≤}
use Rattle.std.specs.Prelude.{slice_get, unsigned_abs}
use Rattle.std.specs.List.{All, Contains}
use Rattle.std.proofs.lemmas.Int.{ints}
use Rattle.std.proofs.lemmas.List.Elements.{All-nil, All-cons}
use Rattle.std.proofs.lemmas.Option.{none-some, same_Some}
use Rattle.affc_rows.specs.Forms.{Affine, value, values_of}
use Rattle.affc_system.specs.Boxes.{InBox}
use Rattle.affc_system.specs.ElementPairs.{IsPairAt, IsPairOf}
use Rattle.affc_system.specs.Systems.{Rows, IsPoint, Met}
use Rattle.affc_system.specs.declared.pairs.PairSystem.{PairSystem}
use Rattle.affc_system.proofs.SystemLemmas.{all_from_met, met_from_all}
use Rattle.affc_split.specs.maximum.Regions.{InRegion}
use Rattle.affc_split.specs.declared.maximum.region.Region.{Region}
use Rattle.affc_rows.specs.Vocabulary.{AreOpposite}
use Rattle.affc_basis.specs.declared.fold.Mark.{Mark}
use Rattle.affc_basis.specs.declared.fold.Mark.TheVariants.{Least, Bound}
use Rattle.affc_basis.specs.declared.fold.Modulus.{Modulus}
use Rattle.affc_basis.specs.Examples.{x0, number, two_more, two_rows, marked}
use Rattle.affc_basis.specs.Folds.{IsEnough}
use Rattle.affc_basis.specs.Moduli.{IsModulus}
use Rattle.affc_basis.specs.Slices.{along, InSlice, IsGreatest}
use Rattle.affc_conflicts.specs.Conditions.{InContext}
use Rattle.affc_conflicts.specs.differences.Differences.{apart}
use Rattle.affc_moduli.specs.Distances.{IsForward, IsBackward}
use Rattle.affc_moduli.specs.Enough.{IsBelow, AreBelow}
use Rattle.affc_moduli.specs.Examples.{form, near, AreNear, any, up_to_four, IsOfPairs, row, ahead, behind, flat, AreInPlane, pair, bound, IsDoneBy, IsKeptBy, TwoIsFarthest, OneSideIsTooLittle, ThreeSuits, ThreeIsDone, BoundsAreConstants, BoundsComeLast, MarksMayTurn, RowsAreSuccessive, BarredByParallels}

abbrev i_form : Affine
i_form = form (pos 0) (pos 1) (pos 0) (pos 0)

abbrev j_form : Affine
j_form = form (pos 0) (pos 0) (pos 1) (pos 0)

-- what is made of the two elements
of_pair : (s : PairSystem) → AreNear s → (P : List Affine → List Affine → Type 0) → P (i_form ∷ []) (j_form ∷ []) → P s.x.items s.y.items
of_pair s a P h = subst (λ xs. P xs s.y.items) (sym a.first) (subst (P (i_form ∷ [])) (sym a.second) h)

to_pair : (s : PairSystem) → AreNear s → (P : List Affine → List Affine → Type 0) → P s.x.items s.y.items → P (i_form ∷ []) (j_form ∷ [])
to_pair s a P h = subst (P (i_form ∷ [])) a.second (subst (λ xs. P xs s.y.items) a.first h)

-- ---- Points

record AreOf (z : List ℤ) : Type 0 where
  n : ℤ
  i : ℤ
  j : ℤ
  is : z ≡ n ∷ i ∷ j ∷ []
  low : pos 0 ≤ℤ i
  after : (i +ℤ pos 1) ≤ℤ j
  close : j ≤ℤ (i +ℤ pos 2)
  within : j ≤ℤ (n +ℤ pos 1)

low_of : (n i j : ℤ) → Met (n ∷ i ∷ j ∷ []) near.rows → pos 0 ≤ℤ i
low_of n i j m = omega (arith, ints, m.0)

after_of : (n i j : ℤ) → Met (n ∷ i ∷ j ∷ []) near.rows → (i +ℤ pos 1) ≤ℤ j
after_of n i j m = omega (arith, ints, m.1.0)

close_of : (n i j : ℤ) → Met (n ∷ i ∷ j ∷ []) near.rows → j ≤ℤ (i +ℤ pos 2)
close_of n i j m = omega (arith, ints, m.1.1.0)

within_of : (n i j : ℤ) → Met (n ∷ i ∷ j ∷ []) near.rows → j ≤ℤ (n +ℤ pos 1)
within_of n i j m = omega (arith, ints, m.1.1.1.0)

are_of : (z : List ℤ) → IsPoint near z → AreOf z
are_of [] p = absurd (omega (arith, p.width))
are_of (n ∷ []) p = absurd (omega (arith, p.width))
are_of (n ∷ i ∷ []) p = absurd (omega (arith, p.width))
are_of (n ∷ i ∷ j ∷ k ∷ more) p = absurd (omega (arith, p.width))
are_of (n ∷ i ∷ j ∷ []) p =
    let m = met_from_all (n ∷ i ∷ j ∷ []) near.rows p.meets in
    record { n = n; i = i; j = j; is = refl; low = low_of n i j m; after = after_of n i j m; close = close_of n i j m; within = within_of n i j m }

meets_near : (n i j : ℤ) → pos 0 ≤ℤ i → (i +ℤ pos 1) ≤ℤ j → j ≤ℤ (i +ℤ pos 2) → j ≤ℤ (n +ℤ pos 1) → Met (n ∷ i ∷ j ∷ []) near.rows
meets_near n i j a b c d = (omega (arith, ints), (omega (arith, ints), (omega (arith, ints), (omega (arith, ints), tt))))

is_point : (n i j : ℤ) → pos 0 ≤ℤ i → (i +ℤ pos 1) ≤ℤ j → j ≤ℤ (i +ℤ pos 2) → j ≤ℤ (n +ℤ pos 1) → IsPoint near (n ∷ i ∷ j ∷ [])
is_point n i j a b c d = record { width = refl; meets = all_from_met (n ∷ i ∷ j ∷ []) near.rows (meets_near n i j a b c d) }

-- 0 and 2 are a pair where N is 2 or 3
ends : (n : ℤ) → pos 1 ≤ℤ n → IsPoint near (n ∷ pos 0 ∷ pos 2 ∷ [])
ends n h = is_point n (pos 0) (pos 2) (omega (arith, ints)) (omega (arith, ints)) (omega (arith, ints)) (omega (arith, ints))

neighbours : IsPoint near (pos 2 ∷ pos 0 ∷ pos 1 ∷ [])
neighbours = is_point (pos 2) (pos 0) (pos 1) (omega (arith, ints)) (omega (arith, ints)) (omega (arith, ints)) (omega (arith, ints))

ends_inside : (r : Region) → IsOfPairs r → InRegion r (pos 3 ∷ pos 0 ∷ pos 2 ∷ [])
ends_inside r o = record {
  meets = subst (λ (q : Rows). IsPoint q (pos 3 ∷ pos 0 ∷ pos 2 ∷ [])) (sym o.points) (ends (pos 3) (omega (arith, ints)));
  inside = subst (λ b. InBox b (pos 3 ∷ pos 0 ∷ pos 2 ∷ [])) (sym o.ranges)
      (omega (arith, ints), omega (arith, ints), (omega (arith, ints), omega (arith, ints), (omega (arith, ints), omega (arith, ints), tt)));
}

of_region : (r : Region) → IsOfPairs r → (z : List ℤ) → InRegion r z → AreOf z
of_region r o z h = are_of z (subst (λ (q : Rows). IsPoint q z) o.points h.meets)

-- ---- One of one

the_one : {A : Type 0} (a b : A) (i : ℕ) → slice_get (a ∷ []) i ≡ Some b → a ≡ b
the_one a b zero e = same_Some a b e
the_one a b (suc i) e = absurd (none-some b e)

-- ---- Distances

apart_is : (n i j : ℤ) → apart row (i_form ∷ []) (j_form ∷ []) (n ∷ i ∷ j ∷ []) ≡ i -ℤ j
apart_is n i j = omega (arith, ints)

far : (i j d : ℤ) → d ≡ i -ℤ j → (i +ℤ pos 1) ≤ℤ j → j ≤ℤ (i +ℤ pos 2) → unsigned_abs d ≤ 2
far i j d e a b = omega (arith, ints)

within_two : (z : List ℤ) → AreOf z → unsigned_abs (apart row (i_form ∷ []) (j_form ∷ []) z) ≤ 2
within_two z a =
    subst (λ w. unsigned_abs (apart row (i_form ∷ []) (j_form ∷ []) w) ≤ 2) (sym a.is)
    (far a.i a.j (apart row (i_form ∷ []) (j_form ∷ []) (a.n ∷ a.i ∷ a.j ∷ [])) (apart_is a.n a.i a.j) a.after a.close)

not_one : ◌≤◌ 2 1 → ⊥
not_one h = omega arith

nearer : ◌≡◌ {A = ℕ} 1 2 → ⊥
nearer e = omega arith

too_far : (n i j : ℤ) → n ∷ i ∷ j ∷ [] ≡ pos 3 ∷ pos 0 ∷ pos 3 ∷ [] → j ≤ℤ (i +ℤ pos 2) → ⊥
too_far n i j e h = apart_from i j (ap (λ zs. second zs) e) (ap (λ zs. third zs) e) h
  where
    second : List ℤ → ℤ
    second (a ∷ b ∷ c) = b
    second _ = pos 0

    third : List ℤ → ℤ
    third (a ∷ b ∷ c ∷ d) = c
    third _ = pos 0

    apart_from : (i j : ℤ) → i ≡ pos 0 → j ≡ pos 3 → j ≤ℤ (i +ℤ pos 2) → ⊥
    apart_from i j e f h = omega (arith, ints, e, f, h)

pub two_is_farthest : TwoIsFarthest
two_is_farthest s r a o = (
  λ i t q z at at_q inside.
      subst (λ (t : PairSystem). unsigned_abs (apart row t.x.items t.y.items z) ≤ 2) (the_one s t i at)
      (of_pair s a (λ xs ys. unsigned_abs (apart row xs ys z) ≤ 2) (within_two z (of_region r o z (subst (λ (q : Region). InRegion q z) (sym (the_one r q i at_q)) inside)))),
  λ h. not_one (to_pair s a (λ xs ys. unsigned_abs (apart row xs ys (pos 3 ∷ pos 0 ∷ pos 2 ∷ [])) ≤ 1) (h 0 s r (pos 3 ∷ pos 0 ∷ pos 2 ∷ []) refl refl (ends_inside r o))),
  record {
    system = s;
    region = r;
    system_there = refl;
    region_there = refl;
    inside = ends_inside r o;
    apart_by = of_pair s a (λ xs ys. unsigned_abs (apart row xs ys (pos 3 ∷ pos 0 ∷ pos 2 ∷ [])) ≡ 2) refl;
  },
  λ h. nearer (to_pair s a (λ xs ys. unsigned_abs (apart row xs ys (pos 3 ∷ pos 0 ∷ pos 1 ∷ [])) ≡ 2)
      (subst (λ (t : PairSystem). unsigned_abs (apart row t.x.items t.y.items (pos 3 ∷ pos 0 ∷ pos 1 ∷ [])) ≡ 2) (sym (the_one s h.system 0 h.system_there)) h.apart_by)),
  λ h. (let k = of_region r o (pos 3 ∷ pos 0 ∷ pos 3 ∷ []) (subst (λ (q : Region). InRegion q (pos 3 ∷ pos 0 ∷ pos 3 ∷ [])) (sym (the_one r h.region 0 h.region_there)) h.inside) in too_far k.n k.i k.j (sym k.is) k.close),
)

-- ---- Sides

ahead_is : (z : List ℤ) → length z ≡ 3 → value ahead z ≡ apart row (i_form ∷ []) (j_form ∷ []) z
ahead_is [] w = absurd (omega (arith, w))
ahead_is (n ∷ []) w = absurd (omega (arith, w))
ahead_is (n ∷ i ∷ []) w = absurd (omega (arith, w))
ahead_is (n ∷ i ∷ j ∷ k ∷ more) w = absurd (omega (arith, w))
ahead_is (n ∷ i ∷ j ∷ []) w = omega (arith, ints)

behind_is : (z : List ℤ) → length z ≡ 3 → value behind z ≡ apart row (j_form ∷ []) (i_form ∷ []) z
behind_is [] w = absurd (omega (arith, w))
behind_is (n ∷ []) w = absurd (omega (arith, w))
behind_is (n ∷ i ∷ []) w = absurd (omega (arith, w))
behind_is (n ∷ i ∷ j ∷ k ∷ more) w = absurd (omega (arith, w))
behind_is (n ∷ i ∷ j ∷ []) w = omega (arith, ints)

small_coefs : (a b c : ℤ) → unsigned_abs a ≤ 4 * 2 ^ 25 → unsigned_abs b ≤ 4 * 2 ^ 25 → unsigned_abs c ≤ 4 * 2 ^ 25 → All (λ c. unsigned_abs c ≤ 4 * 2 ^ 25) (a ∷ b ∷ c ∷ [])
small_coefs a b c h g k =
    All-cons (λ c. unsigned_abs c ≤ 4 * 2 ^ 25) a (b ∷ c ∷ []) h (All-cons (λ c. unsigned_abs c ≤ 4 * 2 ^ 25) b (c ∷ []) g (All-cons (λ c. unsigned_abs c ≤ 4 * 2 ^ 25) c [] k (All-nil (λ c. unsigned_abs c ≤ 4 * 2 ^ 25))))

columns_are : (s : PairSystem) → AreNear s → s.system.columns ≡ 3
columns_are s a = ap (λ (q : Rows). q.columns) a.points

is_forward : (s : PairSystem) → AreNear s → IsForward row s ahead
is_forward s a = record {
  small = record { width = sym (columns_are s a); coefs_fit = small_coefs (pos 0) (pos 1) (negsuc 0) (lit≤ tt) (lit≤ tt) (lit≤ tt); constant_fits = lit≤ tt };
  holds = λ z w. of_pair s a (λ xs ys. value ahead z ≡ apart row xs ys z) (ahead_is z (w ∙ columns_are s a));
}

is_backward : (s : PairSystem) → AreNear s → IsBackward row s behind
is_backward s a = record {
  small = record { width = sym (columns_are s a); coefs_fit = small_coefs (pos 0) (negsuc 0) (pos 1) (lit≤ tt) (lit≤ tt) (lit≤ tt); constant_fits = lit≤ tt };
  holds = λ z w. of_pair s a (λ xs ys. value behind z ≡ apart row ys xs z) (behind_is z (w ∙ columns_are s a));
}

not_opposite : pos 2 ≡ negsuc 1 → ⊥
not_opposite e = omega (arith, ints, e)

not_forward : (s : PairSystem) → AreNear s → IsForward row s behind → ⊥
not_forward s a f = not_opposite (to_pair s a (λ xs ys. value behind (pos 3 ∷ pos 0 ∷ pos 2 ∷ []) ≡ apart row xs ys (pos 3 ∷ pos 0 ∷ pos 2 ∷ [])) (f.holds (pos 3 ∷ pos 0 ∷ pos 2 ∷ []) (sym (columns_are s a))))

not_backward : (s : PairSystem) → AreNear s → IsBackward row s ahead → ⊥
not_backward s a f = not_opposite (sym (to_pair s a (λ xs ys. value ahead (pos 3 ∷ pos 0 ∷ pos 2 ∷ []) ≡ apart row ys xs (pos 3 ∷ pos 0 ∷ pos 2 ∷ [])) (f.holds (pos 3 ∷ pos 0 ∷ pos 2 ∷ []) (sym (columns_are s a)))))

-- a number at the first column of a point
number_at : (m : ℕ) (n : ℤ) → value (number m) (n ∷ []) ≡ pos m
number_at m n = omega (arith, ints)

ahead_below : (m : ℕ) → 1 ≤ m → (z : List ℤ) → AreOf z → value ahead z <ℤ value (number m) (take 1 z)
ahead_below m h z a = subst (λ w. value ahead w <ℤ value (number m) (take 1 w)) (sym a.is) (of_numbers a.n a.i a.j a.after)
  where
    of_numbers : (n i j : ℤ) → (i +ℤ pos 1) ≤ℤ j → value ahead (n ∷ i ∷ j ∷ []) <ℤ value (number m) (n ∷ [])
    of_numbers n i j g = omega (arith, ints)

behind_below : (m : ℕ) → 3 ≤ m → (z : List ℤ) → AreOf z → value behind z <ℤ value (number m) (take 1 z)
behind_below m h z a = subst (λ w. value behind w <ℤ value (number m) (take 1 w)) (sym a.is) (of_numbers a.n a.i a.j a.close)
  where
    of_numbers : (n i j : ℤ) → j ≤ℤ (i +ℤ pos 2) → value behind (n ∷ i ∷ j ∷ []) <ℤ value (number m) (n ∷ [])
    of_numbers n i j g = omega (arith, ints)

all_below : (r : Region) (f : Affine) (m : ℕ) → IsOfPairs r → ((z : List ℤ) → AreOf z → value f z <ℤ value (number m) (take 1 z)) → AreBelow (r ∷ []) (f ∷ []) (number m)
all_below r f m o h i q g at at_g =
    subst (λ (q : Region). IsBelow q g (number m)) (the_one r q i at) (subst (λ g. IsBelow r g (number m)) (the_one f g i at_g) (λ z inside. h z (of_region r o z inside)))

not_below : (m : ℕ) → m ≤ 2 → (r : Region) → IsOfPairs r → AreBelow (r ∷ []) (behind ∷ []) (number m) → ⊥
not_below m small r o h = two_below (value (number m) (pos 3 ∷ [])) m (number_at m (pos 3)) small (h 0 r behind refl refl (pos 3 ∷ pos 0 ∷ pos 2 ∷ []) (ends_inside r o))
  where
    two_below : (v : ℤ) (m : ℕ) → v ≡ pos m → m ≤ 2 → pos 2 <ℤ v → ⊥
    two_below v m e h g = omega (arith, ints)

pub one_side_is_too_little : OneSideIsTooLittle
one_side_is_too_little s r a o = (
  is_forward s a,
  not_forward s a,
  is_backward s a,
  not_backward s a,
  all_below r ahead 1 o (ahead_below 1 (lit≤ tt)),
  not_below 1 (lit≤ tt) r o,
)

-- ---- Constants

number_fits : (m : ℕ) → m ≤ 10 → IsModulus 1 (number m)
number_fits m h = record { width = refl; coefs_fit = All-cons (λ c. unsigned_abs c ≤ 2 ^ 30) (pos 0) [] (lit≤ tt) (All-nil (λ c. unsigned_abs c ≤ 2 ^ 30)); constant_fits = omega (arith, h) }

-- a p of the context is one number
number_in : (m : ℕ) (p : List ℤ) → length p ≡ 1 → value (number m) p ≡ pos m
number_in m [] w = absurd (omega (arith, w))
number_in m (n ∷ []) w = number_at m n
number_in m (n ∷ k ∷ p) w = absurd (omega (arith, w))

at_least_one : (v : ℤ) (m : ℕ) → v ≡ pos m → 1 ≤ m → pos 1 ≤ℤ v
at_least_one v m e h = omega (arith, ints)

at_most : (v w : ℤ) (m : ℕ) → v ≡ pos m → w ≡ pos m → v ≤ℤ w
at_most v w m e f = omega (arith, ints)

two_in_context : InContext any up_to_four (pos 2 ∷ [])
two_in_context = record { meets = record { width = refl; meets = All-nil _ }; inside = (omega (arith, ints), omega (arith, ints), tt) }

pub three_suits : ThreeSuits
three_suits c r k o = (
  record {
    limits = subst (λ n. IsModulus n (number 3)) (sym (ap (λ (q : Rows). q.columns) k.points)) (number_fits 3 (lit≤ tt));
    positive = λ p inside. at_least_one (value (number 3) p) 3 (number_in 3 p (width p inside)) (lit≤ tt);
    most = λ p inside. at_most (value (number 3) p) (pos 3) 3 (number_in 3 p (width p inside)) refl;
    forward = all_below r ahead 3 o (ahead_below 3 (lit≤ tt));
    backward = all_below r behind 3 o (behind_below 3 (lit≤ tt));
  },
  λ h. not_below 2 (lit≤ tt) r o h.backward,
  λ h. not_below 1 (lit≤ tt) r o h.backward,
  λ h. too_great (h.most (pos 2 ∷ []) two_inside),
)
  where
    width : (p : List ℤ) → InRegion c p → length p ≡ 1
    width p inside = inside.meets.width ∙ ap (λ (q : Rows). q.columns) k.points

    two_inside : InRegion c (pos 2 ∷ [])
    two_inside = record { meets = subst (λ (q : Rows). IsPoint q (pos 2 ∷ [])) (sym k.points) two_in_context.meets; inside = subst (λ b. InBox b (pos 2 ∷ [])) (sym k.ranges) two_in_context.inside }

    too_great : pos 4 ≤ℤ pos 3 → ⊥
    too_great h = omega (arith, ints, h)

-- ---- Pairs

one_of : (s t : PairSystem) → Contains (s ∷ []) t → s ≡ t
one_of s t (zero, lt, e) = e
one_of s t (suc k, lt, e) = absurd (omega (arith, lt))

along_row : (i j : ℤ) → (i +ℤ pos 1) ≤ℤ j → j ≤ℤ (i +ℤ pos 2) → (along x0 (i ∷ []) (j ∷ []) ≤ 2) × (along x0 (j ∷ []) (i ∷ []) ≤ 2)
along_row i j h g = (omega (arith, ints), omega (arith, ints))

element : (n i j : ℤ) → (values_of (i_form ∷ []) (n ∷ i ∷ j ∷ []) ≡ i ∷ []) × (values_of (j_form ∷ []) (n ∷ i ∷ j ∷ []) ≡ j ∷ [])
element n i j = (ap (λ v. v ∷ []) (omega (arith, ints)), ap (λ v. v ∷ []) (omega (arith, ints)))

module _ (s : PairSystem) (a : AreNear s) where
  at_pair : (p x y : List ℤ) → IsPairAt s p x y → (along x0 x y ≤ 2) × (along x0 y x ≤ 2)
  at_pair p x y h =
      let k = are_of h.point (subst (λ (q : Rows). IsPoint q h.point) a.points h.meets) in
      let e = element k.n k.i k.j in
      let first : k.i ∷ [] ≡ x = sym e.0 ∙ ap (values_of (i_form ∷ [])) (sym k.is) ∙ ap (λ fs. values_of fs h.point) (sym a.first) ∙ h.first in
      let second : k.j ∷ [] ≡ y = sym e.1 ∙ ap (values_of (j_form ∷ [])) (sym k.is) ∙ ap (λ fs. values_of fs h.point) (sym a.second) ∙ h.second in
      subst (λ y. (along x0 x y ≤ 2) × (along x0 y x ≤ 2)) second (subst (λ x. (along x0 x (k.j ∷ []) ≤ 2) × (along x0 (k.j ∷ []) x ≤ 2)) first (along_row k.i k.j k.after k.close))

  two_apart : (p x y : List ℤ) → IsPairOf (s ∷ []) p x y → along x0 x y ≤ 2
  two_apart p x y h =
      let b : AreNear h.system = subst AreNear (one_of s h.system h.there) a in
      let same : (u v : List ℤ) → IsPairAt h.system p u v → IsPairAt s p u v = λ u v k. subst (λ (t : PairSystem). IsPairAt t p u v) (sym (one_of s h.system h.there)) k in
      elim h.either [ inl k ↦ (at_pair p x y (same x y k)).0 | inr k ↦ (at_pair p y x (same y x k)).1 ]

  -- 0 and j at N = 2
  shown : (j : ℤ) → IsPoint near (pos 2 ∷ pos 0 ∷ j ∷ []) → IsPairAt s (pos 2 ∷ []) (pos 0 ∷ []) (j ∷ [])
  shown j p = record {
    point = pos 2 ∷ pos 0 ∷ j ∷ [];
    meets = subst (λ (q : Rows). IsPoint q (pos 2 ∷ pos 0 ∷ j ∷ [])) (sym a.points) p;
    parameters = refl;
    first = subst (λ fs. values_of fs (pos 2 ∷ pos 0 ∷ j ∷ []) ≡ pos 0 ∷ []) (sym a.first) (element (pos 2) (pos 0) j).0;
    second = subst (λ fs. values_of fs (pos 2 ∷ pos 0 ∷ j ∷ []) ≡ j ∷ []) (sym a.second) (element (pos 2) (pos 0) j).1;
  }

  abbrev Live : List ℤ → List ℤ → Type 0
  Live = IsPairOf (s ∷ []) (pos 2 ∷ [])

  forth : Live (pos 0 ∷ []) (pos 2 ∷ [])
  forth = record { system = s; there = (0, omega arith, refl); either = inl (shown (pos 2) (ends (pos 2) (omega (arith, ints)))) }

  back : Live (pos 2 ∷ []) (pos 0 ∷ [])
  back = record { system = s; there = (0, omega arith, refl); either = inr (shown (pos 2) (ends (pos 2) (omega (arith, ints)))) }

  in_slice : (x y : List ℤ) → Live x y → InSlice Live (x0 ∷ []) 0 x y
  in_slice x y h = record { pair = h; agrees = λ j r k at. absurd (omega (arith, k)) }

  greatest : IsGreatest Live (x0 ∷ []) 0 x0 2
  greatest = record { most = λ x y h. two_apart (pos 2 ∷ []) x y h.pair; attained = inr (pos 0 ∷ [], pos 2 ∷ [], in_slice (pos 0 ∷ []) (pos 2 ∷ []) forth, refl) }

  enough : (m : ℕ) → 3 ≤ m → IsEnough (InContext any up_to_four) (IsPairOf (s ∷ [])) (x0 ∷ []) 0 x0 (number m)
  enough m h p here = (
    at_least_one (value (number m) p) m (number_in m p here.meets.width) (omega (arith, h)),
    λ x y g. above (value (number m) p) m (along x0 x y) (number_in m p here.meets.width) h (two_apart p x y g.pair),
  )
    where
      above : (v : ℤ) (m d : ℕ) → v ≡ pos m → 3 ≤ m → d ≤ 2 → pos d <ℤ v
      above v m d e h g = omega (arith, ints)

  not_enough : IsEnough (InContext any up_to_four) (IsPairOf (s ∷ [])) (x0 ∷ []) 0 x0 (number 2) → ⊥
  not_enough h = two_below ((h (pos 2 ∷ []) two_in_context).1 (pos 0 ∷ []) (pos 2 ∷ []) (in_slice (pos 0 ∷ []) (pos 2 ∷ []) forth))
    where
      two_below : pos 2 <ℤ pos 2 → ⊥
      two_below g = omega (arith, ints, g)

  done : (x y : ℕ) → Live (pos x ∷ []) (pos y ∷ []) → along x0 (pos x ∷ []) (pos y ∷ []) ≡ 2 → IsDoneBy s (marked 3 (pair x y))
  done x y live far = record {
    limits = number_fits 3 (lit≤ tt);
    enough = enough 3 (lit≤ tt);
    mark = record {
      in_context = two_in_context;
      highest = λ q here. at_most (value (number 3) q) (pos 3) 3 (number_in 3 q here.meets.width) refl;
      greatest = 2;
      is_greatest = greatest;
      value_there = refl;
      attains = (in_slice (pos x ∷ []) (pos y ∷ []) live, far, lit≤ tt);
    };
    marked = λ e. cc;
  }

  one_less : (g : ℕ) → ◌≡◌ {A = ℤ} (pos 3) (pos (g + 1)) → g ≡ 2
  one_less g e = omega (arith, ints, e)

  no_such : (g d : ℕ) → ◌≡◌ {A = ℤ} (pos 3) (pos (g + 1)) → d ≡ g → d ≤ 1 → ⊥
  no_such g d e f h = omega (arith, ints, e, f, h)

  too_many : (g : ℕ) → ◌≡◌ {A = ℤ} (pos 4) (pos (g + 1)) → 2 ≡ g → ⊥
  too_many g e f = omega (arith, ints, e, f)

  pub three_done : IsDoneBy s (marked 3 (pair 0 2)) × IsDoneBy s (marked 3 (pair 2 0)) × (IsDoneBy s (marked 3 (pair 0 1)) → ⊥) × (IsDoneBy s (marked 3 None) → ⊥)
      × (IsDoneBy s (marked 2 (pair 0 1)) → ⊥) × (IsDoneBy s (marked 4 (pair 0 2)) → ⊥) × (IsDoneBy s (bound (number 3)) → ⊥)
  three_done = (
    done 0 2 forth refl,
    done 2 0 back refl,
    λ h. no_such h.mark.greatest 1 h.mark.value_there h.mark.attains.1 (lit≤ tt),
    λ h. no_such h.mark.greatest 0 h.mark.value_there (sym h.mark.attains) (lit≤ tt),
    λ h. not_enough h.enough,
    λ h. too_many h.mark.greatest h.mark.value_there h.mark.attains.1,
    λ h. h.marked refl,
  )

  kept : (m : ℕ) → 3 ≤ m → m ≤ 10 → IsKeptBy s (bound (number m))
  kept m h g = record { limits = number_fits m g; enough = enough m h; mark = tt; flat = λ e. refl }

  not_zero : ◌≡◌ {A = List ℤ} (pos 1 ∷ []) (pos 0 ∷ []) → ⊥
  not_zero e = cc

  pub constants : IsKeptBy s (bound (number 3)) × IsKeptBy s (bound (number 7)) × (IsKeptBy s (bound (number 2)) → ⊥) × (IsKeptBy s (bound two_more) → ⊥)
  constants = (kept 3 (lit≤ tt) (lit≤ tt), kept 7 (lit≤ tt) (lit≤ tt), λ h. not_enough h.enough, λ h. not_zero (h.flat refl))

pub three_is_done : ThreeIsDone
three_is_done = three_done

pub bounds_are_constants : BoundsAreConstants
bounds_are_constants = constants

-- ---- Marks

pub bounds_come_last : BoundsComeLast
bounds_come_last = (
  λ k m at none. record { most = 3; limit = refl; reached = lit≤ tt },
  λ h. not_spent (h 0 (bound (number 3)) refl refl).most (h 0 (bound (number 3)) refl refl).limit (h 0 (bound (number 3)) refl refl).reached,
  λ k m at none. absurd (is_marked m (the_one (marked 3 (pair 0 2)) m k at) none),
)
  where
    not_spent : (most : ℕ) → Some 3 ≡ Some most → most ≤ 2 → ⊥
    not_spent most e h = let f : ◌≡◌ {A = ℕ} 3 most = same_Some 3 most e in omega (arith, f, h)

    is_marked : (m : Modulus) → marked 3 (pair 0 2) ≡ m → m.mark ≡ Bound → ⊥
    is_marked m e none = let f = ap (λ (m : Modulus). m.mark) e ∙ none in cc

-- the first subscript of a mark's second element
second_in : Mark → ℤ
second_in (Least p (Some pair)) = get_or pair.1 0 (pos 0)
second_in _ = pos 0

two_not_one : ◌≡◌ {A = ℤ} (pos 1) (pos 2) → ⊥
two_not_one e = omega (arith, ints, e)

zero_not_one : ◌≡◌ {A = ℤ} (pos 1) (pos 0) → ⊥
zero_not_one e = omega (arith, ints, e)

three_not_four : ◌≡◌ {A = ℤ} (pos 4) (pos 3) → ⊥
three_not_four e = omega (arith, ints, e)

pub marks_may_turn : MarksMayTurn
unfolding second_in
marks_may_turn = (
  inr (refl, refl),
  inl refl,
  λ h. elim h [ inl e ↦ two_not_one (ap (λ (m : Modulus). second_in m.mark) e) | inr f ↦ zero_not_one (ap second_in f.1) ],
  λ h. elim h [ inl e ↦ three_not_four (ap (λ (m : Modulus). m.form.constant) e) | inr f ↦ three_not_four (ap (λ (f : Affine). f.constant) f.0) ],
)

-- ---- Slices

in_plane : (s : PairSystem) → AreInPlane s → (P : List Affine → List Affine → Type 0)
    → P (flat (pos 0) (pos 0) (pos 0) ∷ flat (pos 1) (pos 0) (pos 0) ∷ []) (flat (pos 0) (pos 1) (pos 0) ∷ flat (pos 1) (pos 0) (pos 3) ∷ []) → P s.x.items s.y.items
in_plane s a P h = subst (λ xs. P xs s.y.items) (sym a.first) (subst (P (flat (pos 0) (pos 0) (pos 0) ∷ flat (pos 1) (pos 0) (pos 0) ∷ [])) (sym a.second) h)

of_plane : (s : PairSystem) → AreInPlane s → (P : List Affine → List Affine → Type 0) → P s.x.items s.y.items
    → P (flat (pos 0) (pos 0) (pos 0) ∷ flat (pos 1) (pos 0) (pos 0) ∷ []) (flat (pos 0) (pos 1) (pos 0) ∷ flat (pos 1) (pos 0) (pos 3) ∷ [])
of_plane s a P h = subst (P (flat (pos 0) (pos 0) (pos 0) ∷ flat (pos 1) (pos 0) (pos 0) ∷ [])) a.second (subst (λ xs. P xs s.y.items) a.first h)

abbrev Agree : (k : ℕ) (z : List ℤ) → List Affine → List Affine → Type 0
Agree k z xs ys = (j : ℕ) (r : Affine) → j < k → slice_get two_rows j ≡ Some r → along r (values_of xs z) (values_of ys z) ≡ 0

first_agrees : (j : ℕ) (r : Affine) → j < 1 → slice_get two_rows j ≡ Some r
    → along r (values_of (flat (pos 0) (pos 0) (pos 0) ∷ flat (pos 1) (pos 0) (pos 0) ∷ []) (pos 7 ∷ pos 0 ∷ [])) (values_of (flat (pos 0) (pos 1) (pos 0) ∷ flat (pos 1) (pos 0) (pos 3) ∷ []) (pos 7 ∷ pos 0 ∷ [])) ≡ 0
first_agrees zero r h at = subst (λ r. along r (pos 0 ∷ pos 7 ∷ []) (pos 0 ∷ pos 10 ∷ []) ≡ 0) (same_Some _ r at) refl
first_agrees (suc j) r h at = absurd (omega (arith, h))

one_not_zero : ◌≡◌ {A = ℕ} 1 0 → ⊥
one_not_zero e = omega arith

three_not_zero : ◌≡◌ {A = ℕ} 3 0 → ⊥
three_not_zero e = omega arith

pub rows_are_successive : RowsAreSuccessive
rows_are_successive s a = (
  in_plane s a (Agree 1 (pos 7 ∷ pos 0 ∷ [])) first_agrees,
  λ h. one_not_zero (of_plane s a (Agree 1 (pos 7 ∷ pos 1 ∷ [])) h 0 _ (omega arith) refl),
  λ j r h at. absurd (omega (arith, h)),
  λ h. three_not_zero (of_plane s a (Agree 2 (pos 7 ∷ pos 0 ∷ [])) h 1 _ (omega arith) refl),
)

-- ---- Parallel rows

pub barred_by_parallels : BarredByParallels
barred_by_parallels = (
  record { other = _; there = refl; opposite = (refl, tt); low = omega (arith, ints) },
  λ h. not_low h.other.constant (ap (λ (f : Affine). f.constant) (same_Some _ h.other h.there)) h.low,
  λ h. not_turned h.other (same_Some _ h.other h.there) h.opposite,
)
  where
    not_low : (c : ℤ) → negsuc 2 ≡ c → (c +ℤ pos 3) <ℤ pos 0 → ⊥
    not_low c e h = omega (arith, ints, e, h)

    two_not_zero : ◌≡◌ {A = ℤ} (pos 2) (pos 0) → ⊥
    two_not_zero e = omega (arith, ints, e)

    not_turned : (f : Affine) → record { coefs = pos 1 ∷ []; constant = negsuc 2 } ≡ f → AreOpposite f.coefs (pos 1 ∷ []) → ⊥
    not_turned f e h = let k : AreOpposite (pos 1 ∷ []) (pos 1 ∷ []) = subst (λ (f : Affine). AreOpposite f.coefs (pos 1 ∷ [])) (sym e) h in two_not_zero k.0
