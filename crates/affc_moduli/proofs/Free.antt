-- Bounds of distances that are found without a question.
use Rattle.std.proofs.Common.{◌≡◌, ℕ, ◌+◌, ◌^◌, ◌≤◌, List, length, ℤ, pos, negsuc, ◌≤ℤ◌, refl, sym, subst, arith, inl, inr, ◌⊎◌}
use Rattle.std.specs.Prelude.{slice_get, Some}
use Rattle.std.proofs.lemmas.Int.{ints}
use Rattle.affc_rows.specs.Forms.{Affine, value}
use Rattle.affc_system.specs.declared.pairs.PairSystem.{PairSystem}
use Rattle.affc_split.specs.maximum.Regions.{IsBounded, AreBounded, AreAskable}
use Rattle.affc_split.specs.maximum.Searches.{AreBoundedBefore}
use Rattle.affc_split.specs.declared.maximum.region.Region.{Region}
use Rattle.affc_moduli.specs.Distances.{AreForward, AreBackward, AreOver}
use Rattle.affc_moduli.specs.Ended.{IsCeiling, IsFar}
use Rattle.affc_moduli.proofs.Farthest.{bounded_both}
use Rattle.affc_moduli.proofs.Ties.{before_raised, before_more, before_all}

up : (u v w : ℤ) → u ≤ℤ v → v ≤ℤ w → u ≤ℤ w
up u v w h k = omega (arith, ints)

near_by : (u v w m : ℤ) → (w ≡ u) ⊎ (w ≡ v) → u ≤ℤ m → v ≤ℤ m → w ≤ℤ m
near_by u v w m (inl e) h k = subst (λ x. x ≤ℤ m) (sym e) h
near_by u v w m (inr e) h k = subst (λ x. x ≤ℤ m) (sym e) k

-- one region more, whose forms are bounded
pub one_more : (i : ℕ) (regions : List Region) (fs gs : List Affine) (r : Region) (f g : Affine) → slice_get regions i ≡ Some r → slice_get fs i ≡ Some f → slice_get gs i ≡ Some g → (a b once c v : ℤ)
    → IsCeiling i regions fs gs a → IsBounded r f b → b ≤ℤ pos (2 ^ 53) → IsBounded r g c → c ≤ℤ pos (2 ^ 53) → a ≤ℤ once → b ≤ℤ once → (once ≡ a) ⊎ (once ≡ b) → once ≤ℤ v → c ≤ℤ v → (v ≡ once) ⊎ (v ≡ c) → IsCeiling (i + 1) regions fs gs v
one_more i regions fs gs r f g at there here a b once c v ceiling fb fnear gb gnear h k e h' k' e' = record {
  natural = up (pos 0) a v ceiling.natural (up a once v h h');
  near = near_by once c v (pos (2 ^ 53)) e' (near_by a b once (pos (2 ^ 53)) e ceiling.near fnear) gnear;
  forward = before_more i regions fs v r f at there (before_raised i regions fs a v (up a once v h h') ceiling.forward) (λ z inside. up (value f z) b v (fb z inside) (up b once v k h'));
  backward = before_more i regions gs v r g at here (before_raised i regions gs a v (up a once v h h') ceiling.backward) (λ z inside. up (value g z) c v (gb z inside) k');
}

-- what is found so far bounds the regions that were asked, and no distance is above the greatest
pub known_ceiling : (i : ℕ) (regions : List Region) (fs gs : List Affine) → AreAskable regions fs (pos (2 ^ 53)) → AreAskable regions gs (pos (2 ^ 53)) → (level v : ℤ) → pos 0 ≤ℤ v → v ≤ℤ pos (2 ^ 53) → (v ≡ level) ⊎ (v ≡ pos (2 ^ 53))
    → AreBoundedBefore i regions fs level → AreBoundedBefore i regions gs level → IsCeiling i regions fs gs v
known_ceiling i regions fs gs ready_fs ready_gs level v h k (inl e) low high = record {
  natural = h;
  near = k;
  forward = subst (λ w. AreBoundedBefore i regions fs w) (sym e) low;
  backward = subst (λ w. AreBoundedBefore i regions gs w) (sym e) high;
}
known_ceiling i regions fs gs ready_fs ready_gs level v h k (inr e) low high = record {
  natural = h;
  near = k;
  forward = subst (λ w. AreBoundedBefore i regions fs w) (sym e) (λ j r f l at there. (ready_fs j r f at there).bounded);
  backward = subst (λ w. AreBoundedBefore i regions gs w) (sym e) (λ j r g l at there. (ready_gs j r g at there).bounded);
}

natural_number : (v : ℤ) → pos 0 ≤ℤ v → (n : ℕ) × (v ≡ pos n)
natural_number (pos n) h = (n, refl)
natural_number (negsuc n) h = absurd (omega (arith, ints))

small_number : (v : ℤ) (n : ℕ) → v ≡ pos n → v ≤ℤ pos (2 ^ 53) → n ≤ 2 ^ 53
small_number v n e h = omega (arith, ints)

-- bounds of all regions bound the distances
pub far_of : (systems : List PairSystem) (regions : List Region) (cs : List ℤ) (fs gs : List Affine) → length regions ≡ length systems → length fs ≡ length systems → length gs ≡ length systems → AreOver systems regions → AreForward systems cs fs
    → AreBackward systems cs gs → (v : ℤ) → IsCeiling (length regions) regions fs gs v → IsFar systems regions cs v
far_of systems regions cs fs gs regions_each fs_each gs_each over forward backward v ceiling =
    let n = natural_number v ceiling.natural in (
      n.0,
      n.1,
      small_number v n.0 n.1 ceiling.near,
      bounded_both systems regions cs fs gs regions_each fs_each gs_each over forward backward n.0
          (subst (λ w. AreBounded regions fs w) n.1 (before_all (length regions) regions fs v (omega arith) ceiling.forward))
          (subst (λ w. AreBounded regions gs w) n.1 (before_all (length regions) regions gs v (omega arith) ceiling.backward)),
    )
