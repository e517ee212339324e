-- The pairs of a slice are those at the points of its regions.
use Rattle.std.proofs.Common.{◌≡◌, ℕ, zero, suc, ◌<◌, inl, inr, List, [], ◌∷◌, length, take, ℤ, refl, sym, ap, subst, ◌∙◌, arith}
use Rattle.std.specs.Prelude.{slice_get, Some}
use Rattle.std.proofs.lemmas.Option.{slice_get_within, slice_get-get_or, get_or_from_slice_get}
use Rattle.std.specs.List.{Contains}
use Rattle.affc_rows.specs.Forms.{Affine, values_of}
use Rattle.affc_system.specs.Systems.{Rows}
use Rattle.affc_system.specs.declared.pairs.PairSystem.{PairSystem}
use Rattle.affc_split.specs.maximum.Regions.{InRegion}
use Rattle.affc_split.specs.declared.maximum.region.Region.{Region}
use Rattle.affc_basis.specs.Slices.{along, InSlice}
use Rattle.affc_system.specs.ElementPairs.{IsPairAt, IsPairOf}
use Rattle.affc_conflicts.specs.Conditions.{InContext}
use Rattle.affc_moduli.specs.Slices.{AreSlices}
use Rattle.affc_conflicts.proofs.Turned.{along-turned}

-- a pair stands at a point of a region, with the same distance along every row
pub record IsCovered (systems : List PairSystem) (regions : List Region) (parameters : ℕ) (p x y : List ℤ) : Type 0 where
  pub number : ℕ
  pub system : PairSystem
  pub region : Region
  pub point : List ℤ
  pub system_there : slice_get systems number ≡ Some system
  pub region_there : slice_get regions number ≡ Some region
  pub inside : InRegion region point
  pub at : take parameters point ≡ p
  pub distances : (row : Affine) → along row x y ≡ along row (values_of system.x.items point) (values_of system.y.items point)

pub some_at : {X : Type 0} (xs : List X) (i : ℕ) → i < length xs → (v : X) × (slice_get xs i ≡ Some v)
some_at [] i h = absurd (omega arith)
some_at (x ∷ xs) zero h = (x, refl)
some_at (x ∷ xs) (suc i) h = some_at xs i (omega arith)

-- an element of a list and its number
pub place_of : {X : Type 0} (xs : List X) (x : X) → Contains xs x → (i : ℕ) × (slice_get xs i ≡ Some x)
place_of xs x h = (h.0, slice_get-get_or xs h.0 x h.1 ∙ ap Some h.2)

pub is_held : {X : Type 0} (xs : List X) (i : ℕ) (x : X) → slice_get xs i ≡ Some x → Contains xs x
is_held xs i x e = (i, slice_get_within xs i x e, get_or_from_slice_get xs i x x e)

module _ (context : Rows) (ranges : List (ℤ × ℤ)) (rows : List Affine) (k : ℕ) (systems : List PairSystem) (regions : List Region) (slices : AreSlices context ranges rows k systems regions) where
  -- the distances of a pair that stands at a point, in one of the orders
  distance_at : (s : PairSystem) (p x y : List ℤ) (pair : IsPairAt s p x y) (row : Affine) → along row x y ≡ along row (values_of s.x.items pair.point) (values_of s.y.items pair.point)
  distance_at s p x y pair row =
      ap (λ v. along row v y) (sym pair.first) ∙ ap (λ v. along row (values_of s.x.items pair.point) v) (sym pair.second)

  covered_by : (i : ℕ) (s : PairSystem) (p x y a b : List ℤ) → slice_get systems i ≡ Some s → InContext context ranges p → (pair : IsPairAt s p a b)
      → ((row : Affine) → along row x y ≡ along row a b)
      → ((j : ℕ) (row : Affine) → j < k → slice_get rows j ≡ Some row → along row x y ≡ 0) → IsCovered systems regions context.columns p x y
  covered_by i s p x y a b at here pair same agrees =
      let there : i < length regions = subst (λ n. i < n) (sym slices.one_each) (slice_get_within systems i s at) in
      let region = some_at regions i there in
      let width : length p ≡ context.columns = here.meets.width in
      let first : take context.columns pair.point ≡ p = ap (λ n. take n pair.point) (sym width) ∙ pair.parameters in
      let far : (row : Affine) → along row x y ≡ along row (values_of s.x.items pair.point) (values_of s.y.items pair.point) = λ row. same row ∙ distance_at s p a b pair row in
      record {
        number = i;
        system = s;
        region = region.0;
        point = pair.point;
        system_there = at;
        region_there = region.1;
        inside = ((slices.slices i s region.0 at region.1).holds pair.point).1 (record {
          meets = pair.meets;
          in_context = subst (InContext context ranges) (sym first) here;
          agrees = λ j row h g. sym (far row) ∙ agrees j row h g;
        });
        at = first;
        distances = far;
      }

  pub covered : (p x y : List ℤ) → InContext context ranges p → InSlice (IsPairOf systems p) rows k x y → IsCovered systems regions context.columns p x y
  covered p x y here slice =
      let pair = slice.pair in
      let place = place_of systems pair.system pair.there in
      elim pair.either [
        | inl e ↦ covered_by place.0 pair.system p x y x y place.1 here e (λ row. refl) slice.agrees
        | inr e ↦ covered_by place.0 pair.system p x y y x place.1 here e (λ row. along-turned row y x) slice.agrees
      ]

  -- and a point of a region shows a pair of the slice
  pub in_slice : (i : ℕ) (s : PairSystem) (r : Region) (z : List ℤ) → slice_get systems i ≡ Some s → slice_get regions i ≡ Some r → InRegion r z
      → InContext context ranges (take context.columns z) × InSlice (IsPairOf systems (take context.columns z)) rows k (values_of s.x.items z) (values_of s.y.items z)
  in_slice i s r z at there inside =
      let held = ((slices.slices i s r at there).holds z).0 inside in
      let width : length (take context.columns z) ≡ context.columns = held.in_context.meets.width in (
        held.in_context,
        record {
          pair = record {
            system = s;
            there = is_held systems i s at;
            either = inl (record { point = z; meets = held.meets; parameters = ap (λ n. take n z) width; first = refl; second = refl });
          };
          agrees = held.agrees;
        },
      )
