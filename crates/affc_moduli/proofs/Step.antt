-- What one row's step asks for and gives.
use Rattle.std.proofs.Common.{◌≡◌, ℕ, ◌+◌, ◌*◌, ◌^◌, ◌<◌, ◌≤◌, List, length, take, ℤ, pos, sym, subst, ◌∙◌, arith}
use Rattle.std.specs.Prelude.{unsigned_abs, slice_get, get_or, Some}
use Rattle.std.specs.List.{All}
use Rattle.std.proofs.lemmas.List.Elements.{All-weaker}
use Rattle.std.proofs.lemmas.Option.{slice_get_within, slice_get-get_or}
use Rattle.affc_rows.specs.Forms.{Affine, value}
use Rattle.affc_system.specs.Systems.{Rows, IsRow}
use Rattle.affc_system.specs.declared.pairs.PairSystem.{PairSystem}
use Rattle.affc_split.specs.maximum.Regions.{InRegion, AreAskable}
use Rattle.affc_split.specs.declared.maximum.region.Region.{Region}
use Rattle.affc_conflicts.specs.differences.Differences.{apart}
use Rattle.affc_conflicts.specs.Conditions.{IsConflict}
use Rattle.affc_conflicts.proofs.Decided.{all_at}
use Rattle.affc_moduli.specs.Ready.{AreReady}
use Rattle.affc_moduli.specs.Slices.{AreSlices, AreNarrowed}
use Rattle.affc_moduli.specs.Distances.{AreForward, AreBackward, AreOver, HaveDimensions}
use Rattle.affc_moduli.proofs.Covers.{some_at}
use Rattle.affc_moduli.proofs.Narrowed.{all_narrowed}
use Rattle.affc_moduli.proofs.Ceiling.{askable_forward, askable_backward, room, row_of, apart_bound, lies_near, near_extents}

module _ (context : Rows) (ranges : List (ℤ × ℤ)) (extents rows : List Affine) (systems : List PairSystem) (ready : AreReady context ranges extents rows systems) (k : ℕ) (row : Affine) (at : slice_get rows k ≡ Some row)
    (regions : List Region) (slices : AreSlices context ranges rows k systems regions) where
  conflict : (i : ℕ) (s : PairSystem) → slice_get systems i ≡ Some s → IsConflict context ranges extents s
  conflict = all_at (IsConflict context ranges extents) systems ready.conflicts

  width : length row.coefs ≡ length rows
  width = all_at (λ (g : Affine). length g.coefs ≡ length rows) rows ready.row_columns k row at

  pub dimensions : length row.coefs ≡ length extents
  dimensions = width ∙ sym ready.dimensions

  pub few : length row.coefs ≤ 4
  few = subst (λ n. n ≤ 4) (sym width) ready.few_rows

  pub small : All (λ c. unsigned_abs c ≤ 256) row.coefs
  small = all_at (λ (f : Affine). All (λ c. unsigned_abs c ≤ 256) f.coefs) rows ready.row_bounds k row at

  before : k < length extents
  before = subst (λ n. k < n) (sym ready.dimensions) (slice_get_within rows k row at)

  pub wide : HaveDimensions systems (length row.coefs)
  wide i s there = ((conflict i s there).x_each ∙ sym dimensions, (conflict i s there).y_each ∙ sym dimensions)

  pub over : AreOver systems regions
  over i s r there here = (slices.slices i s r there here).columns

  pub parameters_within : All (λ (s : PairSystem). context.columns ≤ s.system.columns) systems
  parameters_within = All-weaker (IsConflict context ranges extents) (λ (s : PairSystem). context.columns ≤ s.system.columns) (λ s h. h.parameters) systems ready.conflicts

  system_of : (i : ℕ) (r : Region) → slice_get regions i ≡ Some r → (s : PairSystem) × (slice_get systems i ≡ Some s)
  system_of i r here = some_at systems i (subst (λ n. i < n) slices.one_each (slice_get_within regions i r here))

  pub ready_forward : (fs : List Affine) → AreForward systems row.coefs fs → AreAskable regions fs (pos (2 ^ 53))
  ready_forward fs forward =
      askable_forward context ranges rows extents k systems regions row.coefs ready.few ready.parameters ready.near ready.subscripts dimensions few before small conflict slices fs forward system_of

  pub ready_backward : (gs : List Affine) → AreBackward systems row.coefs gs → AreAskable regions gs (pos (2 ^ 53))
  ready_backward gs backward =
      askable_backward context ranges rows extents k systems regions row.coefs ready.few ready.parameters ready.near ready.subscripts dimensions few before small conflict slices gs backward system_of

  pub rows_forward : (fs : List Affine) → AreForward systems row.coefs fs → (i : ℕ) (r : Region) (f : Affine) → slice_get regions i ≡ Some r → slice_get fs i ≡ Some f → IsRow r.system.columns f
  rows_forward fs forward i r f here there =
      let s = system_of i r here in
      row_of context ranges rows extents k systems regions row.coefs ready.few ready.parameters ready.near ready.subscripts dimensions few before small conflict slices i s.0 r f s.0.x.items s.0.y.items s.1 here (forward i s.0 f s.1 there)

  pub rows_backward : (gs : List Affine) → AreBackward systems row.coefs gs → (i : ℕ) (r : Region) (f : Affine) → slice_get regions i ≡ Some r → slice_get gs i ≡ Some f → IsRow r.system.columns f
  rows_backward gs backward i r f here there =
      let s = system_of i r here in
      row_of context ranges rows extents k systems regions row.coefs ready.few ready.parameters ready.near ready.subscripts dimensions few before small conflict slices i s.0 r f s.0.y.items s.0.x.items s.1 here (backward i s.0 f s.1 there)

  pub roomy : All (λ r. length r.system.rows + 2 ≤ 1024) regions
  roomy i d h =
      let here : slice_get regions i ≡ Some (get_or regions i d) = slice_get-get_or regions i d h in
      let s = system_of i (get_or regions i d) here in
      room context ranges rows extents k systems regions row.coefs ready.few ready.parameters ready.near ready.subscripts dimensions few before small conflict slices i s.0 (get_or regions i d) s.1 here

  pub next : (fs gs : List Affine) (narrower : List Region) → length fs ≡ length systems → length gs ≡ length systems → AreForward systems row.coefs fs → AreBackward systems row.coefs gs → AreNarrowed regions fs gs narrower
      → AreSlices context ranges rows (k + 1) systems narrower
  next fs gs narrower fs_each gs_each forward backward narrow = all_narrowed context ranges rows k row at systems regions narrower fs gs fs_each gs_each wide forward backward slices narrow

  -- the elements at a point, and their distance
  pub x_near : (i : ℕ) (s : PairSystem) (r : Region) (z : List ℤ) → slice_get systems i ≡ Some s → slice_get regions i ≡ Some r → InRegion r z → All (λ f. unsigned_abs (value f z) ≤ 2 ^ 43) s.x.items
  x_near i s r z there here inside =
      let held = ((slices.slices i s r there here).holds z).0 inside in
      lies_near s.x.items extents (take context.columns z) z
      (near_extents context ranges rows extents k systems regions row.coefs ready.few ready.parameters ready.near ready.subscripts dimensions few before small conflict slices (take context.columns z) held.in_context)
      ((conflict i s there).x_within z held.meets)

  pub y_near : (i : ℕ) (s : PairSystem) (r : Region) (z : List ℤ) → slice_get systems i ≡ Some s → slice_get regions i ≡ Some r → InRegion r z → All (λ f. unsigned_abs (value f z) ≤ 2 ^ 43) s.y.items
  y_near i s r z there here inside =
      let held = ((slices.slices i s r there here).holds z).0 inside in
      lies_near s.y.items extents (take context.columns z) z
      (near_extents context ranges rows extents k systems regions row.coefs ready.few ready.parameters ready.near ready.subscripts dimensions few before small conflict slices (take context.columns z) held.in_context)
      ((conflict i s there).y_within z held.meets)

  pub distance_near : (n i : ℕ) (s : PairSystem) (r : Region) (z : List ℤ) → slice_get systems i ≡ Some s → slice_get regions i ≡ Some r → InRegion r z → unsigned_abs (apart row.coefs s.x.items s.y.items z) ≡ n → n ≤ 2 ^ 53
  distance_near n i s r z there here inside e =
      let b = apart_bound context ranges rows extents k systems regions row.coefs ready.few ready.parameters ready.near ready.subscripts dimensions few before small conflict slices i s r z there here inside in
      at_most n (unsigned_abs (apart row.coefs s.x.items s.y.items z)) (length row.coefs) e few b
    where
      at_most : (n a m : ℕ) → a ≡ n → m ≤ 4 → a ≤ m * 2 ^ 51 → n ≤ 2 ^ 53
      at_most n a m e h k = omega arith
