-- One row: what the greatest distance says of its modulus.
use Rattle.std.proofs.Common.{◌≡◌, ℕ, ◌+◌, ◌≤◌, inl, inr, List, [], ◌∷◌, length, take, replicate, ℤ, pos, ◌≤ℤ◌, ◌<ℤ◌, zero, suc, refl, sym, ap, subst, ◌∙◌, arith}
use Rattle.std.specs.Prelude.{unsigned_abs, slice_get, Some, None}
use Rattle.std.proofs.lemmas.Int.{ints}
use Rattle.affc_rows.specs.Forms.{Affine, value, values_of}
use Rattle.affc_system.specs.Systems.{Rows}
use Rattle.affc_system.specs.declared.pairs.PairSystem.{PairSystem}
use Rattle.affc_split.specs.maximum.Regions.{InRegion}
use Rattle.affc_split.specs.declared.maximum.region.Region.{Region}
use Rattle.affc_domain.proofs.FormLemmas.{dot_zeros}
use Rattle.affc_conflicts.specs.differences.Differences.{apart}
use Rattle.affc_basis.specs.Slices.{along, InSlice}
use Rattle.affc_basis.specs.Folds.{IsEnough, IsLeastMark}
use Rattle.affc_system.specs.ElementPairs.{IsPairOf}
use Rattle.affc_conflicts.specs.Conditions.{InContext}
use Rattle.affc_moduli.specs.Slices.{AreSlices}
use Rattle.affc_moduli.specs.Distances.{AreApartWithin, HaveDimensions}
use Rattle.affc_moduli.proofs.Apart.{apart-dot}
use Rattle.affc_moduli.proofs.Covers.{covered, in_slice}

abbrev pub number : (parameters n : ℕ) → Affine
number parameters n = record { coefs = replicate parameters (pos 0); constant = pos n }

pub value_of_number : (parameters n : ℕ) (p : List ℤ) → value (number parameters n) p ≡ pos n
value_of_number parameters n p = omega (arith, ints, dot_zeros parameters p)

positive : (v : ℤ) (n : ℕ) → v ≡ pos (n + 1) → pos 1 ≤ℤ v
positive v n h = omega (arith, ints)

above : (v : ℤ) (n d : ℕ) → v ≡ pos (n + 1) → d ≤ n → pos d <ℤ v
above v n d h k = omega (arith, ints)

same_values : (u v : ℤ) (n : ℕ) → u ≡ pos n → v ≡ pos n → u ≤ℤ v
same_values u v n h k = omega (arith, ints)

module _ (context : Rows) (ranges : List (ℤ × ℤ)) (rows : List Affine) (k : ℕ) (row : Affine) (systems : List PairSystem) (regions : List Region)
    (slices : AreSlices context ranges rows k systems regions) (wide : HaveDimensions systems (length row.coefs)) where
  at_point : (i : ℕ) (s : PairSystem) (z : List ℤ) → slice_get systems i ≡ Some s → along row (values_of s.x.items z) (values_of s.y.items z) ≡ unsigned_abs (apart row.coefs s.x.items s.y.items z)
  at_point i s z at = ap unsigned_abs (sym (apart-dot row.coefs s.x.items s.y.items z (wide i s at).0 (wide i s at).1))

  pub within : (n : ℕ) → AreApartWithin systems regions row.coefs n → (p x y : List ℤ) → InContext context ranges p → InSlice (IsPairOf systems p) rows k x y → along row x y ≤ n
  within n far p x y here slice =
      let c = covered context ranges rows k systems regions slices p x y here slice in
      let e : along row x y ≡ unsigned_abs (apart row.coefs c.system.x.items c.system.y.items c.point) = c.distances row ∙ at_point c.number c.system c.point c.system_there in
      subst (λ d. d ≤ n) (sym e) (far c.number c.system c.region c.point c.system_there c.region_there c.inside)

  pub enough : (n : ℕ) → AreApartWithin systems regions row.coefs n → IsEnough (InContext context ranges) (IsPairOf systems) rows k row (number context.columns (n + 1))
  enough n far p here =
      let v = value_of_number context.columns (n + 1) p in
      (positive _ n v, λ x y slice. above _ n (along row x y) v (within n far p x y here slice))

  pub least_none : (p : List ℤ) → InContext context ranges p → AreApartWithin systems regions row.coefs 0
      → IsLeastMark (InContext context ranges) (IsPairOf systems) rows k row (number context.columns 1) p None
  least_none p here far = record {
    in_context = here;
    highest = λ q there. same_values _ _ 1 (value_of_number context.columns 1 q) (value_of_number context.columns 1 p);
    greatest = 0;
    is_greatest = record { most = λ x y slice. within 0 far p x y here slice; attained = inl refl };
    value_there = value_of_number context.columns 1 p;
    attains = refl;
  }

  pub least_some : (n number' : ℕ) (z : List ℤ) (x y : List ℤ) (s : PairSystem) (r : Region) → AreApartWithin systems regions row.coefs n → 1 ≤ n
      → slice_get systems number' ≡ Some s → slice_get regions number' ≡ Some r → InRegion r z → unsigned_abs (apart row.coefs s.x.items s.y.items z) ≡ n
      → values_of s.x.items z ≡ x → values_of s.y.items z ≡ y
      → IsLeastMark (InContext context ranges) (IsPairOf systems) rows k row (number context.columns (n + 1)) (take context.columns z) (Some (x, y))
  least_some n i z x y s r far some at there inside by ex ey =
      let p : List ℤ = take context.columns z in
      let shown = in_slice context ranges rows k systems regions slices i s r z at there inside in
      let slice : InSlice (IsPairOf systems p) rows k x y =
      subst (λ v. InSlice (IsPairOf systems p) rows k x v) ey (subst (λ v. InSlice (IsPairOf systems p) rows k v (values_of s.y.items z)) ex shown.1) in
      let e : along row x y ≡ n = ap (λ v. along row v y) (sym ex) ∙ ap (λ v. along row (values_of s.x.items z) v) (sym ey) ∙ at_point i s z at ∙ by in
      record {
        in_context = shown.0;
        highest = λ q there. same_values _ _ (n + 1) (value_of_number context.columns (n + 1) q) (value_of_number context.columns (n + 1) p);
        greatest = n;
        is_greatest = record { most = λ u v other. within n far p u v shown.0 other; attained = inr (x, y, slice, e) };
        value_there = value_of_number context.columns (n + 1) p;
        attains = (slice, e, some);
      }
