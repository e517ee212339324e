-- Points of a system at the opposite of each point.
use Rattle.std.proofs.Common.{◌≡◌, ℕ, suc, ◌^◌, ◌≤◌, ℤ, pos, neg_ℤ, ◌+ℤ◌, ◌*ℤ◌, ◌≤ℤ◌, ◌<ℤ◌, List, [], ◌∷◌, length, map, refl, sym, ap, subst, ◌∙◌, inl, inr, arith}
use Rattle.std.specs.Prelude.{unsigned_abs}
use Rattle.std.specs.List.{All}
use Rattle.std.proofs.lemmas.Int.{ints}
use Rattle.std.proofs.lemmas.List.Elements.{All-nil, All-cons, All-head, All-tail}
use Rattle.affc_rows.specs.Forms.{Affine, dot, value}
use Rattle.affc_system.specs.Boxes.{InBox}
use Rattle.affc_system.specs.Order.{LexLe}
use Rattle.affc_system.specs.Pairs.{WithinReach}
use Rattle.affc_system.specs.Systems.{Rows, IsRow, Meets, IsPoint}
use Rattle.affc_leaf.specs.Points.{IsLeastPoint}
use Rattle.affc_latest.specs.Opposites.{opposite_row, opposite_system, opposite_range, opposite_box, IsGreatestPoint}

-- ---- Numbers

twice : (x : ℤ) → neg_ℤ (neg_ℤ x) ≡ x
twice x = omega (arith, ints)

same_product : (c x : ℤ) → neg_ℤ c *ℤ neg_ℤ x ≡ c *ℤ x
same_product c x = grind (arith, ints)

both_sides : (x y : ℤ) → x ≤ℤ y → neg_ℤ y ≤ℤ neg_ℤ x
both_sides x y h = omega (arith, ints)

pub as_far : (x : ℤ) (n : ℕ) → unsigned_abs x ≤ n → unsigned_abs (neg_ℤ x) ≤ n
as_far x n h = grind (arith, ints)

-- ---- Lists

abbrev opposites : List ℤ → List ℤ
opposites xs = map neg_ℤ xs

twice_all : (xs : List ℤ) → map neg_ℤ (map neg_ℤ xs) ≡ xs
twice_all [] = refl
twice_all (x ∷ xs) = ap (λ y. y ∷ map neg_ℤ (map neg_ℤ xs)) (twice x) ∙ ap (λ ys. x ∷ ys) (twice_all xs)

same_length : (xs : List ℤ) → length (map neg_ℤ xs) ≡ length xs
same_length [] = refl
same_length (x ∷ xs) = ap suc (same_length xs)

same_dot : (cs xs : List ℤ) → dot (map neg_ℤ cs) (map neg_ℤ xs) ≡ dot cs xs
same_dot [] xs = refl
same_dot (c ∷ cs) [] = refl
same_dot (c ∷ cs) (x ∷ xs) = ap (λ z. z +ℤ dot (map neg_ℤ cs) (map neg_ℤ xs)) (same_product c x) ∙ ap (λ z. (c *ℤ x) +ℤ z) (same_dot cs xs)

same_value : (f : Affine) (xs : List ℤ) → value (opposite_row f) (map neg_ℤ xs) ≡ value f xs
same_value f xs = ap (λ z. z +ℤ f.constant) (same_dot f.coefs xs)

-- ---- Rows and systems

pub far_coefs : (cs : List ℤ) → All (λ c. unsigned_abs c ≤ 2 ^ 40) cs → All (λ c. unsigned_abs c ≤ 2 ^ 40) (map neg_ℤ cs)
far_coefs [] h = All-nil (λ c. unsigned_abs c ≤ 2 ^ 40)
far_coefs (c ∷ cs) h = All-cons (λ c. unsigned_abs c ≤ 2 ^ 40) (neg_ℤ c) (map neg_ℤ cs) (as_far c (2 ^ 40) (All-head (λ c. unsigned_abs c ≤ 2 ^ 40) c cs h)) (far_coefs cs (All-tail (λ c. unsigned_abs c ≤ 2 ^ 40) c cs h))

pub opposite_is_row : (n : ℕ) (f : Affine) → IsRow n f → IsRow n (opposite_row f)
opposite_is_row n f r = record { width = same_length f.coefs ∙ r.width; fits = record { coefs_fit = far_coefs f.coefs r.fits.coefs_fit; constant_fits = r.fits.constant_fits } }

rows_met : (xs : List ℤ) (rows : List Affine) → All (Meets xs) rows → All (Meets (map neg_ℤ xs)) (map opposite_row rows)
rows_met xs [] m = All-nil (Meets (map neg_ℤ xs))
rows_met xs (r ∷ rows) m =
    All-cons (Meets (map neg_ℤ xs)) (opposite_row r) (map opposite_row rows) (subst (λ z. pos 0 ≤ℤ z) (sym (same_value r xs)) (All-head (Meets xs) r rows m)) (rows_met xs rows (All-tail (Meets xs) r rows m))

met_rows : (xs : List ℤ) (rows : List Affine) → All (Meets (map neg_ℤ xs)) (map opposite_row rows) → All (Meets xs) rows
met_rows xs [] m = All-nil (Meets xs)
met_rows xs (r ∷ rows) m =
    All-cons (Meets xs) r rows (subst (λ z. pos 0 ≤ℤ z) (same_value r xs) (All-head (Meets (map neg_ℤ xs)) (opposite_row r) (map opposite_row rows) m))
    (met_rows xs rows (All-tail (Meets (map neg_ℤ xs)) (opposite_row r) (map opposite_row rows) m))

to_opposite : (s : Rows) (xs : List ℤ) → IsPoint s xs → IsPoint (opposite_system s) (map neg_ℤ xs)
to_opposite s xs m = record { width = same_length xs ∙ m.width; meets = rows_met xs s.rows m.meets }

from_opposite : (s : Rows) (zs : List ℤ) → IsPoint (opposite_system s) zs → IsPoint s (map neg_ℤ zs)
from_opposite s zs m = record { width = same_length zs ∙ m.width; meets = met_rows (map neg_ℤ zs) s.rows (subst (λ ys. All (Meets ys) (map opposite_row s.rows)) (sym (twice_all zs)) m.meets) }

-- ---- Boxes

in_opposite : (rs : List (ℤ × ℤ)) (xs : List ℤ) → InBox rs xs → InBox (opposite_box rs) (map neg_ℤ xs)
in_opposite [] [] h = tt
in_opposite [] (x ∷ xs) h = absurd h
in_opposite (r ∷ rs) [] h = absurd h
in_opposite (r ∷ rs) (x ∷ xs) h = (both_sides x r.1 h.1, both_sides r.0 x h.0, in_opposite rs xs h.2)

out_of_opposite : (rs : List (ℤ × ℤ)) (zs : List ℤ) → InBox (opposite_box rs) zs → InBox rs (map neg_ℤ zs)
out_of_opposite [] [] h = tt
out_of_opposite [] (x ∷ xs) h = absurd h
out_of_opposite (r ∷ rs) [] h = absurd h
out_of_opposite (r ∷ rs) (z ∷ zs) h = (other r.0 z h.1, this r.1 z h.0, out_of_opposite rs zs h.2)
  where
    other : (l z : ℤ) → z ≤ℤ neg_ℤ l → l ≤ℤ neg_ℤ z
    other l z h = omega (arith, ints)

    this : (u z : ℤ) → neg_ℤ u ≤ℤ z → neg_ℤ z ≤ℤ u
    this u z h = omega (arith, ints)

pub opposite_reach : (rs : List (ℤ × ℤ)) → All WithinReach rs → All WithinReach (opposite_box rs)
opposite_reach [] h = All-nil WithinReach
opposite_reach (r ∷ rs) h =
    let w = All-head WithinReach r rs h in
    All-cons WithinReach (opposite_range r) (opposite_box rs) (record { low = as_far r.1 (2 ^ 60) w.high; high = as_far r.0 (2 ^ 60) w.low }) (opposite_reach rs (All-tail WithinReach r rs h))

-- points of near boxes are near
pub near_inside : (rs : List (ℤ × ℤ)) (xs : List ℤ) → All WithinReach rs → InBox rs xs → All (λ x. unsigned_abs x ≤ 2 ^ 60) xs
near_inside [] [] w h = All-nil (λ x. unsigned_abs x ≤ 2 ^ 60)
near_inside [] (x ∷ xs) w h = absurd h
near_inside (r ∷ rs) [] w h = absurd h
near_inside (r ∷ rs) (x ∷ xs) w h =
    let v = All-head WithinReach r rs w in
    All-cons (λ x. unsigned_abs x ≤ 2 ^ 60) x xs (between r.0 r.1 x v.low v.high h.0 h.1) (near_inside rs xs (All-tail WithinReach r rs w) h.2)
  where
    between : (l u x : ℤ) → unsigned_abs l ≤ 2 ^ 60 → unsigned_abs u ≤ 2 ^ 60 → l ≤ℤ x → x ≤ℤ u → unsigned_abs x ≤ 2 ^ 60
    between l u x a b c d = grind (arith, ints)

-- ---- Order

turned : (xs zs : List ℤ) → LexLe zs (map neg_ℤ xs) → length xs ≡ length zs → LexLe xs (map neg_ℤ zs)
turned [] zs h e = tt
turned (x ∷ xs) [] h e = absurd (omega (arith, e))
turned (x ∷ xs) (z ∷ zs) (inl h) e = inl (less x z h)
  where
    less : (x z : ℤ) → z <ℤ neg_ℤ x → x <ℤ neg_ℤ z
    less x z h = omega (arith, ints)
turned (x ∷ xs) (z ∷ zs) (inr h) e = inr (equal x z h.0, turned xs zs h.1 (omega (arith, e)))
  where
    equal : (x z : ℤ) → z ≡ neg_ℤ x → x ≡ neg_ℤ z
    equal x z h = omega (arith, ints)

pub greatest : (s : Rows) (rs : List (ℤ × ℤ)) (zs : List ℤ) → IsLeastPoint (opposite_system s) (opposite_box rs) zs → IsGreatestPoint s rs (map neg_ℤ zs)
greatest s rs zs m = record {
  inside = out_of_opposite rs zs m.inside;
  meets = from_opposite s zs m.meets;
  greatest = λ xs h g. turned xs zs (m.least (map neg_ℤ xs) (in_opposite rs xs h) (to_opposite s xs g)) (g.width ∙ sym m.meets.width);
}

pub none : (s : Rows) (rs : List (ℤ × ℤ)) → ((zs : List ℤ) → InBox (opposite_box rs) zs → IsPoint (opposite_system s) zs → ⊥) → (xs : List ℤ) → InBox rs xs → IsPoint s xs → ⊥
none s rs n xs h g = n (map neg_ℤ xs) (in_opposite rs xs h) (to_opposite s xs g)

-- ---- As the code holds them

module _ (s turned : Rows) (rs turned_rs : List (ℤ × ℤ)) (is : turned ≡ opposite_system s) (box : turned_rs ≡ map opposite_range rs) where
  pub reach_there : All WithinReach rs → All WithinReach turned_rs
  reach_there h = subst (All WithinReach) (sym box) (opposite_reach rs h)

  pub greatest_there : (zs : List ℤ) → IsLeastPoint turned turned_rs zs → IsGreatestPoint s rs (map neg_ℤ zs)
  greatest_there zs m = greatest s rs zs (subst (λ b. IsLeastPoint (opposite_system s) b zs) box (subst (λ t. IsLeastPoint t turned_rs zs) is m))

  pub none_there : ((zs : List ℤ) → InBox turned_rs zs → IsPoint turned zs → ⊥) → (xs : List ℤ) → InBox rs xs → IsPoint s xs → ⊥
  none_there n = none s rs (λ zs h g. n zs (subst (λ b. InBox b zs) (sym box) h) (subst (λ t. IsPoint t zs) (sym is) g))

  pub near_there : (zs : List ℤ) → All WithinReach rs → IsLeastPoint turned turned_rs zs → All (λ x. unsigned_abs x ≤ 2 ^ 60) zs
  near_there zs h m = near_inside turned_rs zs (reach_there h) m.inside
