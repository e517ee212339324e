-- What the search asks of a part of the box, and what it answers, with ends of ranges as calls pass them.
use Rattle.std.proofs.Common.{◌≡◌, ◌==◌, ℕ, suc, ◌+◌, ◌-◌, ◌^◌, ◌<◌, ◌≤◌, ℤ, pos, negsuc, ◌+ℤ◌, ◌-ℤ◌, ◌≤ℤ◌, ◌<ℤ◌, Bool, true, false, to_z, of_z, w64, rules, List, [], ◌∷◌, ◌++◌, length, get_or, take, drop, refl, sym, ap, subst, ◌∙◌, arith}
use lib.Signed.{lt_z}
use mir.Val.{SFits}
use Rattle.std.specs.Prelude.{IsNone}
use Rattle.std.specs.List.{All}
use Rattle.std.proofs.lemmas.Bool.Decides.{nat_tests}
use Rattle.std.proofs.lemmas.Int.{ints, to_z-of_z}
use Rattle.std.proofs.lemmas.List.Elements.{All-tail}
use Rattle.affc_split.specs.Budgets.{Account, IsLater}
use Rattle.affc_domain.proofs.Lists.{first_and_rest}
use Rattle.affc_nest.specs.declared.nest.Access.{Access}
use Rattle.affc_nest.specs.declared.nest.Entry.{Entry}
use Rattle.affc_nest.specs.declared.nest.Nest.{Nest}
use Rattle.affc_quast.specs.Trees.{Tree, depth_of}
use Rattle.affc_dataflow.specs.Searches.{Covers, part_box, Fuel, IsSlight, IsSlightRange}
use Rattle.affc_dataflow.proofs.HalfLemmas.{low_fuel, high_fuel}
use Rattle.affc_dataflow.proofs.SlightLemmas.{middle_slight, next_slight}

-- ---- Numbers as calls pass them

slight_fits : (z : ℤ) → IsSlight z → SFits w64 z
slight_fits (pos n) h = record { sfits = small n h }
  where
    small : (n : ℕ) → n ≤ 2 ^ 40 → n < 2 ^ 63
    small n h = omega (arith, h)
slight_fits (negsuc n) h = record { sfits = small n h }
  where
    small : (n : ℕ) → suc n ≤ 2 ^ 40 → n < 2 ^ 63
    small n h = omega (arith, h)

pub passed : (z : ℤ) → IsSlight z → to_z w64 (of_z w64 z) ≡ z
passed z h = to_z-of_z w64 z (slight_fits z h)

-- a number more, where both are passed
pub next_passed : (z : ℤ) → IsSlight z → IsSlight (z +ℤ pos 1) → to_z w64 (of_z w64 (to_z w64 (of_z w64 z) +ℤ pos 1)) ≡ z +ℤ pos 1
next_passed z h g = ap (λ y. to_z w64 (of_z w64 (y +ℤ pos 1))) (passed z h) ∙ passed (z +ℤ pos 1) g

-- a test of numbers that are passed
pub less_passed : (low high low' high' : ℤ) → low' ≡ low → high' ≡ high → lt_z low' high' ≡ true → low <ℤ high
less_passed low high low' high' a b h = subst (λ z. z <ℤ high) a (subst (λ z. low' <ℤ z) b (less low' high' h))
  where
    less : (x y : ℤ) → lt_z x y ≡ true → x <ℤ y
    less x y h = omega (arith, ints)

pub not_less_passed : (low high low' high' : ℤ) → low' ≡ low → high' ≡ high → lt_z low' high' ≡ false → high ≤ℤ low
not_less_passed low high low' high' a b h = subst (λ z. high ≤ℤ z) a (subst (λ z. z ≤ℤ low') b (less low' high' h))
  where
    less : (x y : ℤ) → lt_z x y ≡ false → y ≤ℤ x
    less x y h = omega (arith, ints)

-- ---- Parts

-- what is asked of the range of the first column that isn't one number, and of the others
pub record IsPart (left : ℕ) (low high : ℤ) (rest : List (ℤ × ℤ)) : Type 0 where
  pub ordered : low ≤ℤ high
  pub slight : IsSlightRange (low, high)
  pub fuel : Fuel left ((low, high) ∷ rest)

pub part_passed : (left : ℕ) (low high low' high' : ℤ) (rest : List (ℤ × ℤ)) → low' ≡ low → high' ≡ high → IsPart left low high rest → IsPart left low' high' rest
part_passed left low high low' high' rest a b h = subst (λ z. IsPart left z high' rest) (sym a) (subst (λ z. IsPart left low z rest) (sym b) h)

pub covers_passed : (nest : Nest) (e : Entry) (x : Access) (point : List ℤ) (low high low' high' : ℤ) (rest : List (ℤ × ℤ)) (left : ℕ) (tree : Tree) → low' ≡ low → high' ≡ high
    → Covers nest e x (part_box point low' high' rest) left tree → Covers nest e x (part_box point low high rest) left tree
covers_passed nest e x point low high low' high' rest left tree a b h =
    subst (λ z. Covers nest e x (part_box point z high rest) left tree) a (subst (λ z. Covers nest e x (part_box point low' z rest) left tree) b h)

-- a number between the ends of a range, as near to both
pub record IsMiddle (low high at : ℤ) : Type 0 where
  pub low_in : low ≤ℤ at
  pub high_in : at <ℤ high
  pub low_half : ((at -ℤ low) +ℤ (at -ℤ low)) ≤ℤ (high -ℤ low)
  pub high_half : ((high -ℤ at) +ℤ (high -ℤ at)) ≤ℤ ((high -ℤ low) +ℤ pos 1)

pub middle_passed : (low high low' high' at : ℤ) → low' ≡ low → high' ≡ high → low' ≤ℤ at → at <ℤ high' → ((at -ℤ low') +ℤ (at -ℤ low')) ≤ℤ (high' -ℤ low')
    → ((high' -ℤ at) +ℤ (high' -ℤ at)) ≤ℤ ((high' -ℤ low') +ℤ pos 1) → IsMiddle low high at
middle_passed low high low' high' at a b c d e f =
    subst (λ z. IsMiddle z high at) a (subst (λ z. IsMiddle low' z at) b (record { low_in = c; high_in = d; low_half = e; high_half = f }))

module _ (left : ℕ) (low high at : ℤ) (rest : List (ℤ × ℤ)) (m : IsMiddle low high at) (less : low <ℤ high) (slight : IsSlightRange (low, high)) (fuel : Fuel left ((low, high) ∷ rest)) where
  pub some_left : 1 ≤ left
  some_left = (low_fuel left low high at rest less m.low_in m.low_half fuel).0

  pub at_slight : IsSlight at
  at_slight = middle_slight low high at slight.0 slight.1 m.low_in m.high_in

  pub behind_slight : IsSlight (at +ℤ pos 1)
  behind_slight = next_slight low high at slight.0 slight.1 m.low_in m.high_in

  pub low_part : IsPart (left - 1) low at rest
  low_part = record { ordered = m.low_in; slight = (slight.0, at_slight); fuel = (low_fuel left low high at rest less m.low_in m.low_half fuel).1 }

  pub high_part : IsPart (left - 1) (at +ℤ pos 1) high rest
  high_part = record { ordered = behind at high m.high_in; slight = (behind_slight, slight.1); fuel = high_fuel left low high at rest less m.high_in m.high_half fuel }
    where
      behind : (x y : ℤ) → x <ℤ y → (x +ℤ pos 1) ≤ℤ y
      behind x y h = omega (arith, ints)

-- ---- One number more

pub equal_ends : (low high : ℤ) → low ≤ℤ high → high ≤ℤ low → high ≡ low
equal_ends low high h k = omega (arith, ints)

pub first_there : (rs : List (ℤ × ℤ)) (d : ℤ × ℤ) → 1 ≤ length rs → rs ≡ get_or rs 0 d ∷ take (length rs - 1) (drop 1 rs)
first_there [] d h = absurd (omega (arith, h))
first_there (r ∷ rs) d h = first_and_rest (r ∷ rs) r h refl

pub next_width : (point whole : List ℤ) (x : ℤ) (rs more : List (ℤ × ℤ)) (r : ℤ × ℤ) (n : ℕ) → whole ≡ point ++ x ∷ [] → rs ≡ r ∷ more → (length point + 1) + length rs ≡ n → (length whole + 1) + length more ≡ n
next_width point whole x rs more r n w q e = sum (length point) (length whole) (length rs) (length more) n (ap length w ∙ longer point x) (ap length q) e
  where
    longer : (point : List ℤ) (x : ℤ) → length (point ++ x ∷ []) ≡ length point + 1
    longer [] x = omega arith
    longer (y ∷ point) x = let h = longer point x in omega (arith, h)

    sum : (p w k m n : ℕ) → w ≡ p + 1 → k ≡ suc m → (p + 1) + k ≡ n → (w + 1) + m ≡ n
    sum p w k m n a b c = omega (arith, a, b, c)

pub rest_all : (P : ℤ × ℤ → Type 0) (rs more : List (ℤ × ℤ)) (r : ℤ × ℤ) → rs ≡ r ∷ more → All P rs → All P more
rest_all P rs more r q h = All-tail P r more (subst (All P) q h)

-- ---- The whole box

pub nothing_whole : (nest : Nest) (e : Entry) (x : Access) (ranges : List (ℤ × ℤ)) (left : ℕ) (tree : Tree) → length ranges < 1 → Covers nest e x [] 0 tree → Covers nest e x ranges left tree
nothing_whole nest e x [] left tree l h = record {
  right = h.right;
  within = record { shaped = h.within.shaped; stores = h.within.stores; fits = h.within.fits; short = none (depth_of tree) h.within.short; few = h.within.few };
}
  where
    none : (d : ℕ) → d ≤ 0 → d ≤ left
    none d h = omega (arith, h)
nothing_whole nest e x (r ∷ ranges) left tree l h = absurd (omega (arith, l))

pub first_whole : (nest : Nest) (e : Entry) (x : Access) (ranges rest : List (ℤ × ℤ)) (r : ℤ × ℤ) (low high : ℤ) (left : ℕ) (tree : Tree) → ranges ≡ r ∷ rest → low ≡ r.0 → high ≡ r.1
    → Covers nest e x (part_box [] low high rest) left tree → Covers nest e x ranges left tree
first_whole nest e x ranges rest r low high left tree q a b h = subst (λ rs. Covers nest e x rs left tree) (sym q) (covers_passed nest e x [] r.0 r.1 low high rest left tree a b h)

-- ---- Lists that code goes along

pub not_empty : (t : Bool) (n : ℕ) → t ≡ (n == 0) → t ≡ false → n ≡ 0 → ⊥
not_empty t n e f z = first_of (grind (arith, nat_tests), grind arith, search (rules))

pub few_from : {A : Type 0} (xs ys : List A) → xs ≡ ys → length ys ≤ 16 → 0 + length xs ≤ 16
few_from xs ys e h = count (length xs) (length ys) (ap length e) h
  where
    count : (n m : ℕ) → n ≡ m → m ≤ 16 → 0 + n ≤ 16
    count n m e h = omega (arith, e, h)

-- ---- Budgets

pub then_later : (a b c : Account) → IsLater a b → IsLater b c → IsLater a c
then_later a b c h g = record {
  limit = g.limit ∙ h.limit;
  grows = through a.spent b.spent c.spent h.grows g.grows;
  uncounted = λ n. g.uncounted (subst IsNone (sym h.limit) n) ∙ h.uncounted n;
}
  where
    through : (x y z : ℕ) → x ≤ y → y ≤ z → x ≤ z
    through x y z h g = omega (arith, h, g)
