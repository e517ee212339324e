-- Numbers within 2^40, and counts of columns.
use Rattle.std.proofs.Common.{◌≡◌, ℕ, ◌+◌, ◌^◌, ◌≤◌, ℤ, pos, ◌+ℤ◌, ◌≤ℤ◌, ◌<ℤ◌, Fits, w32, rules, List, [], ◌∷◌, ◌++◌, length, sym, subst, arith}
use Rattle.std.specs.Prelude.{unsigned_abs}
use Rattle.std.specs.List.{All}
use Rattle.std.proofs.lemmas.Int.{ints}
use Rattle.std.proofs.lemmas.List.Elements.{All-nil, All-cons, All-append}
use Rattle.affc_nest.specs.declared.nest.Access.{Access}
use Rattle.affc_nest.specs.declared.nest.Entry.{Entry}
use Rattle.affc_nest.specs.declared.nest.Nest.{Nest}
use Rattle.affc_nest.proofs.QuestionProofs.{nest_few, few_numbered}
use Rattle.affc_dataflow.specs.Searches.{IsSlight, IsLoad}
use Rattle.affc_latest.proofs.BesideLemmas.{is_nest}

-- between two such numbers
pub middle_slight : (low high at : ℤ) → IsSlight low → IsSlight high → low ≤ℤ at → at <ℤ high → IsSlight at
middle_slight low high at a b h g = inner low high at a b h g
  where
    inner : (l u x : ℤ) → unsigned_abs l ≤ 2 ^ 40 → unsigned_abs u ≤ 2 ^ 40 → l ≤ℤ x → x <ℤ u → unsigned_abs x ≤ 2 ^ 40
    inner l u x a b c d = grind (arith, ints)

pub next_slight : (low high at : ℤ) → IsSlight low → IsSlight high → low ≤ℤ at → at <ℤ high → IsSlight (at +ℤ pos 1)
next_slight low high at a b h g = inner low high at a b h g
  where
    inner : (l u x : ℤ) → unsigned_abs l ≤ 2 ^ 40 → unsigned_abs u ≤ 2 ^ 40 → l ≤ℤ x → x <ℤ u → unsigned_abs (x +ℤ pos 1) ≤ 2 ^ 40
    inner l u x a b c d = grind (arith, ints)

pub one_more_slight : (point whole : List ℤ) (x : ℤ) → whole ≡ point ++ x ∷ [] → All IsSlight point → IsSlight x → All IsSlight whole
one_more_slight point whole x e h g = subst (All IsSlight) (sym e) (All-append IsSlight point (x ∷ []) h (All-cons IsSlight x [] g (All-nil IsSlight)))

-- ---- Counts

pub few_fit : (n : ℕ) → n ≤ 128 → Fits w32 n
few_fit n h = first_of (omega (arith, h), search (rules, h), grind (arith, h))

pub few_columns : (nest : Nest) (e : Entry) (x : Access) (number : ℕ) → IsLoad nest e x number → length nest.params + length e.loops ≤ 10
few_columns nest e x number h =
    let n = is_nest nest h.nested in
    sum (length nest.params) (length e.loops) (nest_few nest n) (few_numbered nest e n h.touched.there)
  where
    sum : (a b : ℕ) → a ≤ 4 → b ≤ 6 → a + b ≤ 10
    sum a b h g = omega (arith, h, g)

pub front_fits : (n k a b : ℕ) → (n + 1) + k ≡ a + b → a + b ≤ 10 → Fits w32 n
front_fits n k a b e h = few_fit n (few n k (a + b) e h)
  where
    few : (n k s : ℕ) → (n + 1) + k ≡ s → s ≤ 10 → n ≤ 128
    few n k s e h = omega (arith, e, h)

pub back_fits : (n k a b : ℕ) → (n + 1) + k ≡ a + b → a + b ≤ 10 → Fits w32 k
back_fits n k a b e h = few_fit k (few n k (a + b) e h)
  where
    few : (n k s : ℕ) → (n + 1) + k ≡ s → s ≤ 10 → k ≤ 128
    few n k s e h = omega (arith, e, h)
