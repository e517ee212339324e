-- What follows of what is asked.
use Rattle.std.proofs.Common.{◌≡◌, ◌⊎◌, inl, inr, ◌^◌, ◌≤◌, List, length, ℤ, pos, ◌≤ℤ◌, Option, Some, None, sym, ap, subst, ◌∙◌, arith}
use Rattle.std.specs.Prelude.{unsigned_abs, slice_get, option_map, IfSome, IfNone}
use Rattle.std.specs.List.{All}
use Rattle.std.proofs.lemmas.Int.{ints}
use Rattle.affc_rows.specs.Forms.{Affine, HaveColumns, value}
use Rattle.affc_system.specs.Systems.{Rows}
use Rattle.affc_split.specs.maximum.Regions.{InRegion, IsBounded, AreAskable, AreBounded}
use Rattle.affc_split.specs.declared.maximum.region.Region.{Region}
use Rattle.affc_split.specs.declared.maximum.several.Found.{Found}
use Rattle.affc_basis.specs.declared.fold.Modulus.{Modulus}
use Rattle.affc_moduli.specs.declared.asked.Aim.{Aim}
use Rattle.affc_moduli.specs.declared.asked.AskedRow.{AskedRow}
use Rattle.affc_moduli.specs.declared.asked.Way.{Way}
use Rattle.affc_moduli.specs.declared.extremes.Candidate.{Candidate}
use Rattle.affc_moduli.specs.declared.extremes.Sought.{Sought}
use Rattle.affc_moduli.specs.Asked.{IsAsked, IsWay, IsSoughtOf, IsFarthestOf, IsDoneFor}
use Rattle.affc_moduli.specs.Distances.{AreOver, HaveDimensions}
use Rattle.affc_moduli.specs.Ended.{IsCeiling, IsFar}
use Rattle.affc_moduli.specs.Enough.{AreComparable}
use Rattle.affc_moduli.specs.Shown.{IsTie, IsJoined, IsEitherWay}
use Rattle.affc_moduli.proofs.Again.{distance_forward, distance_backward}
use Rattle.affc_moduli.proofs.Free.{far_of}
use Rattle.affc_moduli.proofs.Moved.{extents_wide, comparable_forward, comparable_backward}
use Rattle.affc_moduli.proofs.OtherWay.{done_other_way}
use Rattle.affc_moduli.proofs.Step as step
use Rattle.affc_moduli.proofs.Ties as ties

-- a bound of what is nowhere greater
pub bounded_above : (region : Region) (form : Affine) (b r : ℤ) → IsBounded region form (pos (2 ^ 53)) → IsBounded region form b → (b ≤ℤ r) ⊎ (r ≡ pos (2 ^ 53)) → IsBounded region form r
bounded_above region form b r high low (inl h) = λ z inside. ties.rises (value form z) b r (low z inside) h
bounded_above region form b r high low (inr e) = subst (IsBounded region form) (sym e) high

module _ (asked : AskedRow) (h : IsAsked asked) where
  pub dimensions : length asked.line.row.now.coefs ≡ length asked.given.extents.now
  dimensions = step.dimensions asked.given.context.now asked.given.ranges.now asked.given.extents.now asked.given.rows.now asked.given.pairs.now h.given.ready asked.line.k asked.line.row.now h.line.there asked.regions.now h.slices

  pub few : length asked.given.extents.now ≤ 4
  few = subst (λ n. n ≤ 4) (sym h.given.ready.dimensions) h.given.ready.few_rows

  pub small : All (λ c. unsigned_abs c ≤ 256) asked.line.row.now.coefs
  small = step.small asked.given.context.now asked.given.ranges.now asked.given.extents.now asked.given.rows.now asked.given.pairs.now h.given.ready asked.line.k asked.line.row.now h.line.there asked.regions.now h.slices

  pub wide : HaveDimensions asked.given.pairs.now (length asked.line.row.now.coefs)
  wide = step.wide asked.given.context.now asked.given.ranges.now asked.given.extents.now asked.given.rows.now asked.given.pairs.now h.given.ready asked.line.k asked.line.row.now h.line.there asked.regions.now h.slices

  pub over : AreOver asked.given.pairs.now asked.regions.now
  over = step.over asked.given.context.now asked.given.ranges.now asked.given.extents.now asked.given.rows.now asked.given.pairs.now h.given.ready asked.line.k asked.line.row.now h.line.there asked.regions.now h.slices

  pub fs_ready : AreAskable asked.regions.now asked.line.fs.now (pos (2 ^ 53))
  fs_ready =
      step.ready_forward asked.given.context.now asked.given.ranges.now asked.given.extents.now asked.given.rows.now asked.given.pairs.now h.given.ready asked.line.k asked.line.row.now h.line.there asked.regions.now h.slices
      asked.line.fs.now h.line.forward

  pub gs_ready : AreAskable asked.regions.now asked.line.gs.now (pos (2 ^ 53))
  gs_ready =
      step.ready_backward asked.given.context.now asked.given.ranges.now asked.given.extents.now asked.given.rows.now asked.given.pairs.now h.given.ready asked.line.k asked.line.row.now h.line.there asked.regions.now h.slices
      asked.line.gs.now h.line.backward

  -- the forms may be compared with a modulus over the columns of the context
  pub wide_extents : (context : Rows) → context ≡ asked.given.context.now → HaveColumns context.columns asked.given.extents.now
  wide_extents context e = subst (λ (q : Rows). HaveColumns q.columns asked.given.extents.now) (sym e) (extents_wide asked.given.context.now.columns asked.given.extents.now h.given.ready.subscripts)

  pub fs_comparable : (context : Rows) → context ≡ asked.given.context.now → AreComparable context.columns asked.regions.now asked.line.fs.now
  fs_comparable context e =
      subst (λ (q : Rows). AreComparable q.columns asked.regions.now asked.line.fs.now) (sym e)
      (comparable_forward asked.given.context.now asked.given.ranges.now asked.given.extents.now asked.given.rows.now asked.given.pairs.now h.given.ready asked.line.k asked.line.row.now h.line.there asked.regions.now h.slices
      asked.line.fs.now h.line.forward)

  pub gs_comparable : (context : Rows) → context ≡ asked.given.context.now → AreComparable context.columns asked.regions.now asked.line.gs.now
  gs_comparable context e =
      subst (λ (q : Rows). AreComparable q.columns asked.regions.now asked.line.gs.now) (sym e)
      (comparable_backward asked.given.context.now asked.given.ranges.now asked.given.extents.now asked.given.rows.now asked.given.pairs.now h.given.ready asked.line.k asked.line.row.now h.line.there asked.regions.now h.slices
      asked.line.gs.now h.line.backward)

  pub fs_each : length asked.line.fs.now ≡ length asked.regions.now
  fs_each = h.line.fs_each ∙ sym h.slices.one_each

  pub gs_each : length asked.line.gs.now ≡ length asked.regions.now
  gs_each = h.line.gs_each ∙ sym h.slices.one_each

  -- ---- One way of a system

  pub way_forward : (way : Way) → slice_get asked.given.pairs.now way.number ≡ Some way.system.now → slice_get asked.regions.now way.number ≡ Some way.region.now → slice_get asked.line.fs.now way.number ≡ Some way.form.now → IsWay asked way
  way_forward way here there at = record {
    system = here;
    region = there;
    askable = fs_ready way.number way.region.now way.form.now there at;
    distance = distance_forward asked.given.pairs.now asked.regions.now asked.line.row.now.coefs asked.line.fs.now h.line.forward over way.number way.system.now way.region.now way.form.now here there at;
  }

  pub way_backward : (way : Way) → slice_get asked.given.pairs.now way.number ≡ Some way.system.now → slice_get asked.regions.now way.number ≡ Some way.region.now → slice_get asked.line.gs.now way.number ≡ Some way.form.now → IsWay asked way
  way_backward way here there at = record {
    system = here;
    region = there;
    askable = gs_ready way.number way.region.now way.form.now there at;
    distance = distance_backward asked.given.pairs.now asked.regions.now asked.line.row.now.coefs asked.line.gs.now h.line.backward over way.number way.system.now way.region.now way.form.now here there at;
  }

  -- ---- All ways

  -- a bound of all regions
  pub far : (v : ℤ) → IsCeiling (length asked.regions.now) asked.regions.now asked.line.fs.now asked.line.gs.now v → IsFar asked.given.pairs.now asked.regions.now asked.line.row.now.coefs v
  far v ceiling =
      far_of asked.given.pairs.now asked.regions.now asked.line.row.now.coefs asked.line.fs.now asked.line.gs.now h.slices.one_each h.line.fs_each h.line.gs_each over h.line.forward h.line.backward v ceiling

  found_of : (o : Option Candidate) → IfSome o (λ c. IsFarthestOf asked (Some c.found)) → IfNone o (IsFarthestOf asked None) → IsFarthestOf asked (option_map (λ (c : Candidate). c.found) o)
  found_of None some none = none
  found_of (Some c) some none = some

  -- what is found in the end
  pub farthest_of : (start : ℤ) (s : Sought) → IsSoughtOf asked start s → AreBounded asked.regions.now asked.line.fs.now s.level → AreBounded asked.regions.now asked.line.gs.now s.level → IfNone s.best (start ≡ pos 0)
      → IsFarthestOf asked (option_map (λ (c : Candidate). c.found) s.best)
  farthest_of start s sought low high missed =
      found_of s.best
      (ties.best_is_farthest asked.given.pairs.now asked.regions.now asked.line.row.now.coefs asked.line.fs.now asked.line.gs.now h.slices.one_each h.line.fs_each h.line.gs_each over h.line.forward h.line.backward start s sought low high)
      (ties.none_is_farthest asked.given.pairs.now asked.regions.now asked.line.row.now.coefs asked.line.fs.now asked.line.gs.now h.slices.one_each h.line.fs_each h.line.gs_each over h.line.forward h.line.backward start s sought low high missed)

-- two elements at a point of one way's region, at which the form has this value
pub tie_of : (asked : AskedRow) (way : Way) → IsWay asked way → (found : Found) (most : ℤ) (point : List ℤ) → found.number ≡ way.number → found.value ≡ most → found.point.items ≡ point → InRegion way.region.now point
    → value way.form.now point ≡ most → pos 1 ≤ℤ most → IsTie asked.given.pairs.now asked.regions.now asked.line.row.now.coefs found.value found
tie_of asked way w found most point n v p inside attained positive =
    ties.tie_at asked.given.pairs.now asked.regions.now asked.line.row.now.coefs found way.system.now way.region.now way.form.now
    (subst (λ i. slice_get asked.given.pairs.now i ≡ Some way.system.now) (sym n) w.system) (subst (λ i. slice_get asked.regions.now i ≡ Some way.region.now) (sym n) w.region) w.distance
    (subst (InRegion way.region.now) (sym p) inside) (ap (value way.form.now) p ∙ attained ∙ sym v) (subst (λ (u : ℤ). pos 1 ≤ℤ u) (sym v) positive)

-- what is known with a candidate more
pub joined_sought : (asked : AskedRow) (start : ℤ) (s : Sought) (c : Candidate) (after : Sought) → IsSoughtOf asked start s → IsTie asked.given.pairs.now asked.regions.now asked.line.row.now.coefs c.found.value c.found
    → unsigned_abs c.found.value ≤ 2 ^ 55 → IsJoined s c after → IsSoughtOf asked start after
joined_sought asked start s c after sought tie near (inl h) = subst (IsSoughtOf asked start) (sym h.0) sought
joined_sought asked start s c after sought tie near (inr h) = ties.one_found asked.given.pairs.now asked.regions.now asked.line.row.now.coefs start after c h.0 h.1 near tie

pub joined_level : (s : Sought) (c : Candidate) (after : Sought) → IsJoined s c after → after.level ≡ c.found.value
joined_level s c after (inl h) = ap (λ (q : Sought). q.level) h.0 ∙ sym h.1
joined_level s c after (inr h) = h.0

-- the modulus with its elements in either order
pub done_either_way : (asked : AskedRow) (old new : Modulus) → IsEitherWay old new → IsDoneFor asked.given asked.line old → IsDoneFor asked.given asked.line new
done_either_way asked old new (inl e) done = subst (IsDoneFor asked.given asked.line) (sym e) done
done_either_way asked old new (inr e) done =
    done_other_way asked.given.context.now asked.given.ranges.now asked.given.pairs.now asked.given.rows.now asked.line.k asked.line.row.now old new done e.0 e.1

pub same_coefs : (cs : List ℤ) (old new : Modulus) → IsEitherWay old new → old.form.coefs ≡ cs → new.form.coefs ≡ cs
same_coefs cs old new (inl e) flat = ap (λ (m : Modulus). m.form.coefs) e ∙ flat
same_coefs cs old new (inr e) flat = ap (λ (f : Affine). f.coefs) e.0 ∙ flat
