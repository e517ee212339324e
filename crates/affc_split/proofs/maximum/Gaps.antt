-- Where the gap up to a ceiling is least, the form is greatest.
use Rattle.std.proofs.Common.{◌≡◌, ◌+◌, ◌-◌, ◌≤◌, ◌^◌, List, [], ◌∷◌, length, map, take, drop, slice_index_or, ℤ, pos, ◌+ℤ◌, ◌-ℤ◌, ◌*ℤ◌, ◌≤ℤ◌, ◌<ℤ◌, arith, inl, inr, sym, subst}
use Rattle.std.specs.Prelude.{unsigned_abs}
use Rattle.std.proofs.lemmas.List.{take_all}
use Rattle.std.proofs.lemmas.Int.{ints, by_lt_z}
use Rattle.std.specs.List.{All}
use Rattle.std.proofs.lemmas.List.Elements.{All-nil, All-cons, All-head, All-tail}
use Rattle.affc_rows.specs.Forms.{Affine, dot, value}
use Rattle.affc_system.specs.Systems.{Rows, Meets, IsPoint}
use Rattle.affc_system.specs.Boxes.{InBox}
use Rattle.affc_system.specs.Order.{LexLe}
use Rattle.affc_leaf.specs.Points.{IsLeastPoint}
use Rattle.affc_farkas.specs.declared.proof.Proof.{Proof}
use Rattle.affc_split.specs.declared.search.Answer.{Answer}
use Rattle.affc_split.specs.declared.search.Answer.TheVariants.{Empty}
use Rattle.affc_split.specs.Answers.{IfEmpty}
use Rattle.affc_split.specs.maximum.Regions.{InRegion, IsBounded, IsMost}
use Rattle.affc_split.specs.maximum.Gaps.{behind, gap_system, gap_box}
use Rattle.affc_split.specs.declared.maximum.region.Region.{Region}

to_front : (t d k : ℤ) → pos 0 ≤ℤ (d +ℤ k) → pos 0 ≤ℤ (((pos 0 *ℤ t) +ℤ d) +ℤ k)
to_front t d k h = omega (arith, ints, h)

from_front : (t d k : ℤ) → pos 0 ≤ℤ (((pos 0 *ℤ t) +ℤ d) +ℤ k) → pos 0 ≤ℤ (d +ℤ k)
from_front t d k h = omega (arith, ints, h)

all_to_front : (t : ℤ) (z : List ℤ) (rows : List Affine) → All (Meets z) rows → All (Meets (t ∷ z)) (map (behind (pos 0)) rows)
all_to_front t z [] h = All-nil (Meets (t ∷ z))
all_to_front t z (r ∷ rs) h =
    All-cons (Meets (t ∷ z)) (behind (pos 0) r) (map (behind (pos 0)) rs) (to_front t (dot r.coefs z) r.constant (All-head (Meets z) r rs h)) (all_to_front t z rs (All-tail (Meets z) r rs h))

all_from_front : (t : ℤ) (z : List ℤ) (rows : List Affine) → All (Meets (t ∷ z)) (map (behind (pos 0)) rows) → All (Meets z) rows
all_from_front t z [] h = All-nil (Meets z)
all_from_front t z (r ∷ rs) h =
    let P = Meets (t ∷ z) in
    let more = map (behind (pos 0)) rs in
    All-cons (Meets z) r rs (from_front t (dot r.coefs z) r.constant (All-head P (behind (pos 0) r) more h)) (all_from_front t z rs (All-tail P (behind (pos 0) r) more h))

gap_meets : (t d k c : ℤ) → c ≤ℤ ((d +ℤ k) +ℤ t) → pos 0 ≤ℤ (((pos 1 *ℤ t) +ℤ d) +ℤ (k -ℤ c))
gap_meets t d k c h = omega (arith, ints, h)

gap_reached : (t d k c : ℤ) → pos 0 ≤ℤ (((pos 1 *ℤ t) +ℤ d) +ℤ (k -ℤ c)) → c ≤ℤ ((d +ℤ k) +ℤ t)
gap_reached t d k c h = omega (arith, ints, h)

-- a point of the region behind a number that is at least the gap
gap_point : (r : Region) (f : Affine) (ceiling t : ℤ) (z : List ℤ) → InRegion r z → ceiling ≤ℤ (value f z +ℤ t) → IsPoint (gap_system r.system f ceiling) (t ∷ z)
gap_point r f ceiling t z i h =
    let row : Affine = behind (pos 1) (record f { constant = f.constant -ℤ ceiling }) in
    let first : Meets (t ∷ z) row = gap_meets t (dot f.coefs z) f.constant ceiling h in
    record {
      width = omega (arith, i.meets.width);
      meets = All-cons (Meets (t ∷ z)) row (map (behind (pos 0)) r.system.rows) first (all_to_front t z r.system.rows i.meets.meets);
    }

not_behind : (t u : ℤ) (z w : List ℤ) → LexLe (t ∷ z) (u ∷ w) → t ≤ℤ u
not_behind t u z w h = elim h [ inl l ↦ omega (arith, ints, l) | inr e ↦ (let s = e.0 in omega (arith, ints, s)) ]

-- the gap of a point at which the form is above the floor is in its range
low_gap : (v c : ℤ) → v ≤ℤ c → pos 0 ≤ℤ (c -ℤ v)
low_gap v c h = omega (arith, ints, h)

high_gap : (v c b : ℤ) → b <ℤ v → (c -ℤ v) ≤ℤ ((c -ℤ b) -ℤ pos 1)
high_gap v c b h = omega (arith, ints, h)

whole_gap : (v c : ℤ) → c ≤ℤ (v +ℤ (c -ℤ v))
whole_gap v c = omega (arith, ints)

turned : (t c v : ℤ) → t ≤ℤ (c -ℤ v) → v ≤ℤ (c -ℤ t)
turned t c v h = omega (arith, ints, h)

over_floor : (t c b : ℤ) → t ≤ℤ ((c -ℤ b) -ℤ pos 1) → b <ℤ (c -ℤ t)
over_floor t c b h = omega (arith, ints, h)

under : (v b m : ℤ) → v ≤ℤ b → b <ℤ m → v ≤ℤ m
under v b m h k = omega (arith, ints, h, k)

both : (v t c : ℤ) → v ≤ℤ (c -ℤ t) → c ≤ℤ (v +ℤ t) → v ≡ (c -ℤ t)
both v t c h k = omega (arith, ints, h, k)

pub gap_most : (r : Region) (f : Affine) (floor ceiling t : ℤ) (z : List ℤ) → IsBounded r f ceiling → IsLeastPoint (gap_system r.system f ceiling) (gap_box r.ranges floor ceiling) (t ∷ z)
    → (floor <ℤ (ceiling -ℤ t)) × IsMost r f (ceiling -ℤ t) z
gap_most r f floor ceiling t z bounded first =
    let row : Affine = behind (pos 1) (record f { constant = f.constant -ℤ ceiling }) in
    let more = map (behind (pos 0)) r.system.rows in
    let P = Meets (t ∷ z) in
    let inside : InRegion r z = record {
      meets = record { width = omega (arith, first.meets.width); meets = all_from_front t z r.system.rows (All-tail P row more first.meets.meets) };
      inside = first.inside.2;
    } in
    let reach : ceiling ≤ℤ (value f z +ℤ t) = gap_reached t (dot f.coefs z) f.constant ceiling (All-head P row more first.meets.meets) in
    let above : floor <ℤ (ceiling -ℤ t) = over_floor t ceiling floor first.inside.1 in
    let most : IsBounded r f (ceiling -ℤ t) = λ w i. by_lt_z floor (value f w)
    (λ more_than. turned t ceiling (value f w) (not_behind t (ceiling -ℤ value f w) z w (first.least ((ceiling -ℤ value f w) ∷ w)
    (low_gap (value f w) ceiling (bounded w i), high_gap (value f w) ceiling floor more_than, i.inside)
    (gap_point r f ceiling (ceiling -ℤ value f w) w i (whole_gap (value f w) ceiling)))))
    (λ at_most. under (value f w) floor (ceiling -ℤ t) at_most above) in
    (above, record { bounded = most; inside = inside; attained = both (value f z) t ceiling (most z inside) reach })

pub gap_none : (r : Region) (f : Affine) (floor ceiling : ℤ) → IsBounded r f ceiling → ((x : List ℤ) → InBox (gap_box r.ranges floor ceiling) x → IsPoint (gap_system r.system f ceiling) x → ⊥)
    → IsBounded r f floor
gap_none r f floor ceiling bounded none = λ w i. by_lt_z floor (value f w)
    (λ more_than. absurd (none ((ceiling -ℤ value f w) ∷ w)
    (low_gap (value f w) ceiling (bounded w i), high_gap (value f w) ceiling floor more_than, i.inside)
    (gap_point r f ceiling (ceiling -ℤ value f w) w i (whole_gap (value f w) ceiling))))
    (λ at_most. at_most)

-- ---- The least point, as a list

abbrev pub front : List ℤ → ℤ
front point = slice_index_or point 0 (pos 0)

abbrev pub behind_front : List ℤ → List ℤ
behind_front point = take (length point - 1) (drop 1 point)

pub front_in : (r : Region) (f : Affine) (floor ceiling : ℤ) (point : List ℤ) → IsLeastPoint (gap_system r.system f ceiling) (gap_box r.ranges floor ceiling) point
    → (pos 0 ≤ℤ front point) × (front point ≤ℤ ((ceiling -ℤ floor) -ℤ pos 1))
front_in r f floor ceiling [] first = absurd first.inside
front_in r f floor ceiling (t ∷ z) first = (first.inside.0, first.inside.1)

pub front_most : (r : Region) (f : Affine) (floor ceiling : ℤ) (point : List ℤ) → IsBounded r f ceiling → IsLeastPoint (gap_system r.system f ceiling) (gap_box r.ranges floor ceiling) point
    → (floor <ℤ (ceiling -ℤ front point)) × IsMost r f (ceiling -ℤ front point) (behind_front point)
front_most r f floor ceiling [] bounded first = absurd first.inside
front_most r f floor ceiling (t ∷ z) bounded first =
    let m = gap_most r f floor ceiling t z bounded first in
    (m.0, subst (λ y. IsMost r f (ceiling -ℤ t) y) (sym (take_all (length (t ∷ z) - 1) z (omega arith))) m.1)

pub near_gap : (floor ceiling t : ℤ) → unsigned_abs floor ≤ 2 ^ 55 → unsigned_abs ceiling ≤ 2 ^ 55 → pos 0 ≤ℤ t → t ≤ℤ ((ceiling -ℤ floor) -ℤ pos 1) → unsigned_abs t ≤ 2 ^ 56
near_gap floor ceiling t a b h k = omega (arith, ints, a, b, h, k)

pub near_most : (floor ceiling t : ℤ) → unsigned_abs floor ≤ 2 ^ 55 → unsigned_abs ceiling ≤ 2 ^ 55 → pos 0 ≤ℤ t → t ≤ℤ ((ceiling -ℤ floor) -ℤ pos 1) → unsigned_abs (ceiling -ℤ t) ≤ 2 ^ 55
near_most floor ceiling t a b h k = omega (arith, ints, a, b, h, k)

pub none_above : (r : Region) (f : Affine) (floor ceiling : ℤ) (s : Rows) (rs : List (ℤ × ℤ)) (a : Answer) (p : Proof) → s ≡ gap_system r.system f ceiling → rs ≡ gap_box r.ranges floor ceiling → a ≡ Empty p
    → IfEmpty a (λ _. (x : List ℤ) → InBox rs x → IsPoint s x → ⊥) → IsBounded r f ceiling → IsBounded r f floor
none_above r f floor ceiling s rs a p e b i h bounded =
    let none : (x : List ℤ) → InBox rs x → IsPoint s x → ⊥ = subst (λ o. IfEmpty o (λ _. (x : List ℤ) → InBox rs x → IsPoint s x → ⊥)) i h in
    gap_none r f floor ceiling bounded (λ x inside there. none x (subst (λ q. InBox q x) (sym b) inside) (subst (λ q. IsPoint q x) (sym e) there))
