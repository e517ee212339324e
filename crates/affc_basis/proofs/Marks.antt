-- A true mark is of a modulus that is needed.
use Rattle.std.proofs.Common.{◌≡◌, ℕ, ◌+◌, ◌<◌, ◌≤◌, ℤ, pos, ◌≤ℤ◌, ◌<ℤ◌, List, ap, ◌⊎◌, inl, inr, arith, Option, Some, None}
use Rattle.std.proofs.lemmas.Int.{ints}
use Rattle.affc_rows.specs.Forms.{Affine, value}
use Rattle.affc_basis.specs.Slices.{along, InSlice}
use Rattle.affc_basis.specs.Folds.{AttainsBy}
use Rattle.affc_basis.specs.Laws.{LeastMarkIsNeed, NeedIsLeast, ObeyingIsEnough}

at_most : (u v : ℤ) (n d : ℕ) → pos d <ℤ u → u ≤ℤ v → v ≡ pos n → d < n
at_most u v n d h k e = omega (arith, ints)

up_to : (u v : ℤ) (n : ℕ) → u ≤ℤ v → v ≡ pos n → u ≤ℤ pos n
up_to u v n h e = omega (arith, ints)

at_most_of : (u : ℤ) (m d : ℕ) → pos d <ℤ u → u ≤ℤ pos m → d < m
at_most_of u m d h k = omega (arith, ints)

one_at_most : (u : ℤ) (n m : ℕ) → n ≡ 1 → pos 1 ≤ℤ u → u ≡ pos m → n ≤ m
one_at_most u n m e h k = omega (arith, ints)

module _ (InContext : List ℤ → Type 0) (pairs : List ℤ → List ℤ → List ℤ → Type 0) where
  least_by : (rows : List Affine) (k : ℕ) (row modulus : Affine) (p : List ℤ) → InContext p → (greatest : ℕ) (pair : Option (List ℤ × List ℤ)) → AttainsBy (pairs p) rows k row pair greatest
      → (greatest + 1 ≡ 1) ⊎ ((q : List ℤ) × InContext q × (x : List ℤ) × (y : List ℤ) × InSlice (pairs q) rows k x y × (along row x y + 1 ≡ greatest + 1))
  least_by rows k row modulus p here greatest None e = inl (ap (λ u. u + 1) e)
  least_by rows k row modulus p here greatest (Some pair) e = inr (p, here, pair.0, pair.1, e.0, ap (λ u. u + 1) e.1)

  pub least_mark_is_need : LeastMarkIsNeed InContext pairs
  least_mark_is_need rows k row modulus p pair enough mark =
      let n : ℕ = mark.greatest + 1 in (
        n,
        mark.value_there,
        record { most = λ q here. up_to (value modulus q) (value modulus p) n (mark.highest q here) mark.value_there; attained = (p, mark.in_context, mark.value_there) },
        record {
          positive = omega arith;
          exceeds = λ q here x y slice. at_most (value modulus q) (value modulus p) n (along row x y) ((enough q here).1 x y slice) (mark.highest q here) mark.value_there;
          least = least_by rows k row modulus p mark.in_context mark.greatest pair mark.attains;
        },
      )

  pub need_is_least : NeedIsLeast InContext pairs
  need_is_least rows k row modulus n m need enough greatest = elim need.least [
    | inl e ↦ (let at = greatest.attained in one_at_most (value modulus at.0) n m e (enough at.0 at.1).0 at.2)
    | inr f ↦ (let d : along row f.2 f.3 < m = at_most_of (value modulus f.0) m (along row f.2 f.3) ((enough f.0 f.1).1 f.2 f.3 f.4) (greatest.most f.0 f.1) in omega (arith, f.5))
  ]

  pub obeying_is_enough : ObeyingIsEnough InContext pairs
  obeying_is_enough fold k row modulus at at_b obeys p here = obeys p here k row modulus at at_b
