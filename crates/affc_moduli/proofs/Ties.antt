-- The search for the greatest distance, and the points that have it.
use Rattle.std.proofs.Common.{◌≡◌, ℕ, ◌+◌, ◌^◌, ◌≤◌, Bool, true, false, IsTrue, List, length, ℤ, pos, negsuc, ◌+ℤ◌, ◌≤ℤ◌, ◌<ℤ◌, refl, sym, ap, subst, ◌∙◌, arith, inl, inr}
use Rattle.std.specs.Prelude.{unsigned_abs, slice_get, Option, Some, None, IfSome, IfNone}
use Rattle.std.proofs.lemmas.Int.{ints}
use Rattle.std.proofs.lemmas.Option.{same_Some, slice_get_within}
use Rattle.affc_rows.specs.Forms.{Affine, value}
use Rattle.affc_system.specs.declared.pairs.PairSystem.{PairSystem}
use Rattle.affc_split.specs.maximum.Regions.{InRegion, IsBounded, AreBounded}
use Rattle.affc_split.specs.maximum.Searches.{AreBoundedBefore}
use Rattle.affc_split.specs.declared.maximum.region.Region.{Region}
use Rattle.affc_split.specs.declared.maximum.several.Found.{Found}
use Rattle.affc_moduli.specs.declared.extremes.Candidate.{Candidate}
use Rattle.affc_moduli.specs.declared.extremes.Sought.{Sought}
use Rattle.affc_moduli.specs.Distances.{AreForward, AreBackward, AreOver, AreApartWithin, IsApartAt, IsFarthest}
use Rattle.affc_moduli.specs.Shown.{IsDistance, IsTie, IsSought}
use Rattle.affc_moduli.proofs.Farthest.{bounded_both}
use Rattle.affc_moduli.proofs.Lifted.{before_or_at}

pub not_true : (b : Bool) → b ≡ false → IsTrue b → ⊥
not_true true e h = absurd (cc)
not_true false e h = absurd (cc)

natural_of : (v : ℤ) → pos 1 ≤ℤ v → pos 0 ≤ℤ v
natural_of v h = omega (arith, ints)

pub rises : (a b c : ℤ) → a ≤ℤ b → b ≤ℤ c → a ≤ℤ c
rises a b c h k = omega (arith, ints)

pub positive_by : (floor v : ℤ) → pos 0 ≤ℤ floor → floor <ℤ v → pos 1 ≤ℤ v
positive_by floor v h k = omega (arith, ints)

pub reached_by : (level floor v : ℤ) → level ≤ℤ (floor +ℤ pos 1) → floor <ℤ v → level ≤ℤ v
reached_by level floor v h k = omega (arith, ints)

module _ (systems : List PairSystem) (regions : List Region) (cs : List ℤ) where
  pub one_found : (start : ℤ) (s : Sought) (c : Candidate) → s.level ≡ c.found.value → s.best ≡ Some c → unsigned_abs c.found.value ≤ 2 ^ 55 → IsTie systems regions cs c.found.value c.found → IsSought systems regions cs start s
  one_found start s c e b near tie = record {
    natural = subst (λ (v : ℤ). pos 0 ≤ℤ v) (sym e) (natural_of c.found.value tie.positive);
    near = subst (λ (v : ℤ). unsigned_abs v ≤ 2 ^ 55) (sym e) near;
    best = subst (λ (o : Option Candidate). IfSome o (λ q. IsTie systems regions cs s.level q.found)) (sym b) (subst (λ (v : ℤ). IsTie systems regions cs v c.found) (sym e) tie);
    none = subst (λ (o : Option Candidate). IfNone o (s.level ≡ start)) (sym b) tt;
  }

  pub tie_at : (found : Found) (s : PairSystem) (r : Region) (f : Affine) → slice_get systems found.number ≡ Some s → slice_get regions found.number ≡ Some r → IsDistance cs s r f
      → InRegion r found.point.items → value f found.point.items ≡ found.value → pos 1 ≤ℤ found.value → IsTie systems regions cs found.value found
  tie_at found s r f at there along inside attained positive = record {
    value = refl;
    positive = positive;
    apart = record {
      system = s;
      region = r;
      system_there = at;
      region_there = there;
      inside = inside;
      apart_by = sym (along found.point.items inside) ∙ ap unsigned_abs attained;
    };
  }

  farthest_some : (level : ℤ) (n : ℕ) → level ≡ pos n → AreApartWithin systems regions cs n → (found : Found) → IsTie systems regions cs level found → IsFarthest systems regions cs (Some found)
  farthest_some level n e within found tie = (
    n,
    tie.value ∙ e,
    one_at_least level n e tie.positive,
    within,
    subst (λ (m : ℕ). IsApartAt systems regions cs found.number found.point.items m) (ap unsigned_abs e) tie.apart,
  )
    where
      one_at_least : (v : ℤ) (n : ℕ) → v ≡ pos n → pos 1 ≤ℤ v → 1 ≤ n
      one_at_least v n e h = omega (arith, ints)

  natural : (v : ℤ) → pos 0 ≤ℤ v → (n : ℕ) × (v ≡ pos n)
  natural (pos n) h = (n, refl)
  natural (negsuc n) h = absurd (omega (arith, ints))

  some_farthest : (level : ℤ) (n : ℕ) → level ≡ pos n → AreApartWithin systems regions cs n → (o : Option Candidate) → IfSome o (λ c. IsTie systems regions cs level c.found) → IfSome o (λ c. IsFarthest systems regions cs (Some c.found))
  some_farthest level n e within None tie = tt
  some_farthest level n e within (Some c) tie = farthest_some level n e within c.found tie

  none_farthest : (level : ℤ) (n : ℕ) → level ≡ pos n → AreApartWithin systems regions cs n → (o : Option Candidate) → IfNone o (level ≡ pos 0) → IfNone o (IsFarthest systems regions cs None)
  none_farthest level n e within (Some c) h = tt
  none_farthest level n e within None h = subst (λ (m : ℕ). AreApartWithin systems regions cs m) (nothing level n e h) within
    where
      nothing : (v : ℤ) (n : ℕ) → v ≡ pos n → v ≡ pos 0 → n ≡ 0
      nothing v n e f = omega (arith, ints)

  module _ (fs gs : List Affine) (regions_each : length regions ≡ length systems) (fs_each : length fs ≡ length systems) (gs_each : length gs ≡ length systems) (over : AreOver systems regions)
      (forward : AreForward systems cs fs) (backward : AreBackward systems cs gs) (start : ℤ) (s : Sought) (sought : IsSought systems regions cs start s) (low : AreBounded regions fs s.level) (high : AreBounded regions gs s.level) where
    within : AreApartWithin systems regions cs (natural s.level sought.natural).0
    within =
        let n = natural s.level sought.natural in
        bounded_both systems regions cs fs gs regions_each fs_each gs_each over forward backward n.0 (subst (λ (v : ℤ). AreBounded regions fs v) n.1 low) (subst (λ (v : ℤ). AreBounded regions gs v) n.1 high)

    pub best_is_farthest : IfSome s.best (λ c. IsFarthest systems regions cs (Some c.found))
    best_is_farthest = let n = natural s.level sought.natural in some_farthest s.level n.0 n.1 within s.best sought.best

    at_zero : (o : Option Candidate) → IfNone o (s.level ≡ start) → IfNone o (start ≡ pos 0) → IfNone o (s.level ≡ pos 0)
    at_zero None h k = h ∙ k
    at_zero (Some c) h k = tt

    pub none_is_farthest : IfNone s.best (start ≡ pos 0) → IfNone s.best (IsFarthest systems regions cs None)
    none_is_farthest h = let n = natural s.level sought.natural in none_farthest s.level n.0 n.1 within s.best (at_zero s.best sought.none h)

up : (u v w : ℤ) → u ≤ℤ v → v ≤ℤ w → u ≤ℤ w
up u v w h k = omega (arith, ints)

-- the first regions are bounded by what is greater, and one region more
pub before_raised : (n : ℕ) (regions : List Region) (fs : List Affine) (a b : ℤ) → a ≤ℤ b → AreBoundedBefore n regions fs a → AreBoundedBefore n regions fs b
before_raised n regions fs a b h before i r f l at there z inside = up (value f z) a b (before i r f l at there z inside) h

pub before_more : (n : ℕ) (regions : List Region) (fs : List Affine) (b : ℤ) (r : Region) (f : Affine) → slice_get regions n ≡ Some r → slice_get fs n ≡ Some f → AreBoundedBefore n regions fs b → IsBounded r f b
    → AreBoundedBefore (n + 1) regions fs b
before_more n regions fs b r f at_r at_f before this i q g l at_q at_g = elim (before_or_at i n l) [
  | inl m ↦ before i q g m at_q at_g
  | inr e ↦
      let same_r : r ≡ q = same_Some r q (sym at_r ∙ ap (slice_get regions) (sym e) ∙ at_q) in
      let same_f : f ≡ g = same_Some f g (sym at_f ∙ ap (slice_get fs) (sym e) ∙ at_g) in
      subst (λ (w : Affine). IsBounded q w b) same_f (subst (λ (w : Region). IsBounded w f b) same_r this)
]

pub before_all : (n : ℕ) (regions : List Region) (fs : List Affine) (b : ℤ) → length regions ≤ n → AreBoundedBefore n regions fs b → AreBounded regions fs b
before_all n regions fs b h before i r f at there = before i r f (let k = slice_get_within regions i r at in omega arith) at there
