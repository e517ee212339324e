-- The values of the trees of ends, and that they are read.
use Rattle.std.proofs.Common.{◌≡◌, ℕ, zero, suc, ◌+◌, ℤ, pos, negsuc, ◌+ℤ◌, ◌-ℤ◌, ◌*ℤ◌, ◌≤ℤ◌, ◌<ℤ◌, neg_ℤ, false, if◌then◌else◌, List, Ok, Err, refl, sym, ap, subst, ◌∙◌, arith}
use Rattle.std.specs.Prelude.{int_lt}
use Rattle.std.specs.Int.{int_max, int_min}
use Rattle.std.proofs.lemmas.Int.{ints}
use Rattle.affc_rows.proofs.IntLemmas.{mul-add}
use Rattle.affc_system.proofs.BoxLemmas.{grows}
use Rattle.affc_ast.specs.declared.tree.Ix.{Ix}
use Rattle.affc_ast.specs.declared.tree.Ix.TheVariants.{Min, Max, Floord, Ceild}
use Rattle.affc_ast.specs.Cause.{Overflow}
use Rattle.affc_ast.specs.Fits.{whole_step, whole}
use Rattle.affc_ast.specs.Index.{floor_of, ceiling_of, divided, index_step, index_value, nodes_of_ix}
use Rattle.affc_ast.proofs.Steps.{min_here, max_here, floord_here, ceild_here}
use Rattle.affc_safe.specs.Overflow.{IsReadable}
use Rattle.affc_safe.proofs.Wants.{bind_to}
use Rattle.affc_loops.specs.Ends.{rounded_up, rounded_down}

-- ---- floors and ceilings

-- what a floor by k + 1 is
abbrev IsFloor : (k : ℕ) → (z q : ℤ) → Type 0
IsFloor k z q = (pos 0 ≤ℤ (z -ℤ (pos (suc k) *ℤ q))) × ((z -ℤ (pos (suc k) *ℤ q)) ≤ℤ pos k)

floor_is : (k : ℕ) (z : ℤ) → IsFloor k z (floor_of z (pos (suc k)))
floor_is k (pos a) = (omega (arith, ints), omega (arith, ints))
floor_is k (negsuc a) = (omega (arith, ints), omega (arith, ints))

at_most : (x y : ℤ) → ((y +ℤ pos 1) ≤ℤ x → ⊥) → x ≤ℤ y
at_most x y n = grind (arith, ints)

-- a number is at most the floor exactly where its product is at most the number that is divided
pub to_floor : (k : ℕ) (z y : ℤ) → (pos (suc k) *ℤ y) ≤ℤ z → y ≤ℤ floor_of z (pos (suc k))
to_floor k z y h = by (floor_of z (pos (suc k))) (floor_is k z)
  where
    past : (a b c : ℤ) → a ≤ℤ b → a ≡ c +ℤ (pos (suc k) *ℤ pos 1) → (z -ℤ c) ≤ℤ pos k → b ≤ℤ z → ⊥
    past a b c l e i j = omega (arith, ints)

    by : (q : ℤ) → IsFloor k z q → y ≤ℤ q
    by q f = at_most y q (λ l. past _ _ (pos (suc k) *ℤ q) (grows (suc k) (q +ℤ pos 1) y l) (mul-add (pos (suc k)) q (pos 1)) f.1 h)

pub from_floor : (k : ℕ) (z y : ℤ) → y ≤ℤ floor_of z (pos (suc k)) → (pos (suc k) *ℤ y) ≤ℤ z
from_floor k z y h = through _ _ (grows (suc k) y (floor_of z (pos (suc k))) h) (floor_is k z).0
  where
    through : (a b : ℤ) → a ≤ℤ b → pos 0 ≤ℤ (z -ℤ b) → a ≤ℤ z
    through a b l g = omega (arith, ints)

turned : (a b : ℤ) → a ≤ℤ b → neg_ℤ b ≤ℤ neg_ℤ a
turned a b h = omega (arith, ints)

turned_back : (a b : ℤ) → neg_ℤ a ≤ℤ b → neg_ℤ b ≤ℤ a
turned_back a b h = omega (arith, ints)

mul-neg : (k : ℕ) (y : ℤ) → pos (suc k) *ℤ neg_ℤ y ≡ neg_ℤ (pos (suc k) *ℤ y)
mul-neg k (pos zero) = omega (arith, ints)
mul-neg k (pos (suc n)) = omega (arith, ints)
mul-neg k (negsuc n) = omega (arith, ints)

-- and at least the ceiling where its product is at least that number
pub to_ceiling : (k : ℕ) (z y : ℤ) → z ≤ℤ (pos (suc k) *ℤ y) → ceiling_of z (pos (suc k)) ≤ℤ y
to_ceiling k z y h = turned_back y _ (to_floor k (neg_ℤ z) (neg_ℤ y) (subst (λ w. w ≤ℤ neg_ℤ z) (sym (mul-neg k y)) (turned z _ h)))

pub from_ceiling : (k : ℕ) (z y : ℤ) → ceiling_of z (pos (suc k)) ≤ℤ y → z ≤ℤ (pos (suc k) *ℤ y)
from_ceiling k z y h = turned_over z _ (subst (λ w. w ≤ℤ neg_ℤ z) (mul-neg k y) (from_floor k (neg_ℤ z) (neg_ℤ y) (turned_back _ y h)))
  where
    turned_over : (a b : ℤ) → neg_ℤ b ≤ℤ neg_ℤ a → a ≤ℤ b
    turned_over a b h = omega (arith, ints)

-- ---- one node

pub whole_min : (a b : Ix) (names : List ℤ) → whole (Min a b) names ≡ int_min (whole a names) (whole b names)
whole_min a b names = ap (λ w. (w names).value) (min_here whole_step a b)

pub whole_max : (a b : Ix) (names : List ℤ) → whole (Max a b) names ≡ int_max (whole a names) (whole b names)
whole_max a b names = ap (λ w. (w names).value) (max_here whole_step a b)

whole_floord : (a : Ix) (n : ℤ) (names : List ℤ) → whole (Floord a n) names ≡ floor_of (whole a names) n
whole_floord a n names = ap (λ w. (w names).value) (floord_here whole_step a n)

whole_ceild : (a : Ix) (n : ℤ) (names : List ℤ) → whole (Ceild a n) names ≡ ceiling_of (whole a names) n
whole_ceild a n names = ap (λ w. (w names).value) (ceild_here whole_step a n)

pub reads_min : (a b : Ix) (names : List ℤ) → IsReadable a names → IsReadable b names → IsReadable (Min a b) names
reads_min a b names r q node =
    ap (λ i. i.value node names) (min_here index_step a b)
    ∙ bind_to (index_value a (node + 1) names) (whole a names) _ _ (r (node + 1))
    (bind_to (index_value b (node + 1 + nodes_of_ix a) names) (whole b names) (λ y. Ok (int_min (whole a names) y)) _ (q _) refl)
    ∙ ap (λ z. Ok z) (sym (whole_min a b names))

pub reads_max : (a b : Ix) (names : List ℤ) → IsReadable a names → IsReadable b names → IsReadable (Max a b) names
reads_max a b names r q node =
    ap (λ i. i.value node names) (max_here index_step a b)
    ∙ bind_to (index_value a (node + 1) names) (whole a names) _ _ (r (node + 1))
    (bind_to (index_value b (node + 1 + nodes_of_ix a) names) (whole b names) (λ y. Ok (int_max (whole a names) y)) _ (q _) refl)
    ∙ ap (λ z. Ok z) (sym (whole_max a b names))

no_less : (k : ℕ) → int_lt (pos (suc k)) (pos 1) ≡ false
no_less k = grind (arith, ints)

reads_floord : (a : Ix) (k : ℕ) (names : List ℤ) → IsReadable a names → IsReadable (Floord a (pos (suc k))) names
reads_floord a k names r node =
    ap (λ i. i.value node names) (floord_here index_step a (pos (suc k)))
    ∙ bind_to (index_value a (node + 1) names) (whole a names) (λ x. divided node floor_of x (pos (suc k))) (floor_of (whole a names) (pos (suc k))) (r (node + 1))
    (ap (λ b. if b then Err (Overflow node) else Ok (floor_of (whole a names) (pos (suc k)))) (no_less k))
    ∙ ap (λ z. Ok z) (sym (whole_floord a (pos (suc k)) names))

reads_ceild : (a : Ix) (k : ℕ) (names : List ℤ) → IsReadable a names → IsReadable (Ceild a (pos (suc k))) names
reads_ceild a k names r node =
    ap (λ i. i.value node names) (ceild_here index_step a (pos (suc k)))
    ∙ bind_to (index_value a (node + 1) names) (whole a names) (λ x. divided node ceiling_of x (pos (suc k))) (ceiling_of (whole a names) (pos (suc k))) (r (node + 1))
    (ap (λ b. if b then Err (Overflow node) else Ok (ceiling_of (whole a names) (pos (suc k)))) (no_less k))
    ∙ ap (λ z. Ok z) (sym (whole_ceild a (pos (suc k)) names))

-- ---- quotients

pub reads_up : (a : Ix) (c : ℤ) (names : List ℤ) → pos 0 <ℤ c → IsReadable a names → IsReadable (rounded_up a c) names
reads_up a (pos zero) names h r = absurd (omega (arith, ints))
reads_up a (pos (suc zero)) names h r = r
reads_up a (pos (suc (suc k))) names h r = reads_ceild a (suc k) names r
reads_up a (negsuc k) names h r = absurd (omega (arith, ints))

pub reads_down : (a : Ix) (c : ℤ) (names : List ℤ) → pos 0 <ℤ c → IsReadable a names → IsReadable (rounded_down a c) names
reads_down a (pos zero) names h r = absurd (omega (arith, ints))
reads_down a (pos (suc zero)) names h r = r
reads_down a (pos (suc (suc k))) names h r = reads_floord a (suc k) names r
reads_down a (negsuc k) names h r = absurd (omega (arith, ints))

once : (z y : ℤ) → z ≤ℤ (pos 1 *ℤ y) → z ≤ℤ y
once z y h = omega (arith, ints)

once_back : (z y : ℤ) → (pos 1 *ℤ y) ≤ℤ z → y ≤ℤ z
once_back z y h = omega (arith, ints)

pub up_is : (a : Ix) (c : ℤ) (names : List ℤ) (y : ℤ) → pos 0 <ℤ c → whole a names ≤ℤ (c *ℤ y) → whole (rounded_up a c) names ≤ℤ y
up_is a (pos zero) names y h l = absurd (omega (arith, ints))
up_is a (pos (suc zero)) names y h l = once _ y l
up_is a (pos (suc (suc k))) names y h l = subst (λ z. z ≤ℤ y) (sym (whole_ceild a (pos (suc (suc k))) names)) (to_ceiling (suc k) (whole a names) y l)
up_is a (negsuc k) names y h l = absurd (omega (arith, ints))

pub down_is : (a : Ix) (c : ℤ) (names : List ℤ) (y : ℤ) → pos 0 <ℤ c → (c *ℤ y) ≤ℤ whole a names → y ≤ℤ whole (rounded_down a c) names
down_is a (pos zero) names y h l = absurd (omega (arith, ints))
down_is a (pos (suc zero)) names y h l = once_back _ y l
down_is a (pos (suc (suc k))) names y h l = subst (λ z. y ≤ℤ z) (sym (whole_floord a (pos (suc (suc k))) names)) (to_floor (suc k) (whole a names) y l)
down_is a (negsuc k) names y h l = absurd (omega (arith, ints))

-- and back
once_more : (z y : ℤ) → z ≤ℤ y → z ≤ℤ (pos 1 *ℤ y)
once_more z y h = omega (arith, ints)

once_less : (z y : ℤ) → y ≤ℤ z → (pos 1 *ℤ y) ≤ℤ z
once_less z y h = omega (arith, ints)

pub up_back : (a : Ix) (c : ℤ) (names : List ℤ) (y : ℤ) → pos 0 <ℤ c → whole (rounded_up a c) names ≤ℤ y → whole a names ≤ℤ (c *ℤ y)
up_back a (pos zero) names y h l = absurd (omega (arith, ints))
up_back a (pos (suc zero)) names y h l = once_more _ y l
up_back a (pos (suc (suc k))) names y h l = from_ceiling (suc k) (whole a names) y (subst (λ z. z ≤ℤ y) (whole_ceild a (pos (suc (suc k))) names) l)
up_back a (negsuc k) names y h l = absurd (omega (arith, ints))

pub down_back : (a : Ix) (c : ℤ) (names : List ℤ) (y : ℤ) → pos 0 <ℤ c → y ≤ℤ whole (rounded_down a c) names → (c *ℤ y) ≤ℤ whole a names
down_back a (pos zero) names y h l = absurd (omega (arith, ints))
down_back a (pos (suc zero)) names y h l = once_less _ y l
down_back a (pos (suc (suc k))) names y h l = from_floor (suc k) (whole a names) y (subst (λ z. y ≤ℤ z) (whole_floord a (pos (suc (suc k))) names) l)
down_back a (negsuc k) names y h l = absurd (omega (arith, ints))
