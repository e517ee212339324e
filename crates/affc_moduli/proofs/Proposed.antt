-- A proposed form: if it exceeds every distance and is nowhere above the need, it is enough, and the mark of the need is its mark.
use Rattle.std.proofs.Common.{◌≡◌, ℕ, ◌+◌, ◌<◌, List, length, take, ℤ, pos, neg_ℤ, ◌≤ℤ◌, ◌<ℤ◌, sym, ap, subst, ◌∙◌, arith}
use Rattle.std.specs.Prelude.{unsigned_abs, Option, Some, None}
use Rattle.std.proofs.lemmas.Int.{ints}
use Rattle.std.proofs.lemmas.Option.{slice_get_within}
use Rattle.affc_rows.specs.Forms.{Affine, value}
use Rattle.affc_system.specs.Systems.{Rows}
use Rattle.affc_system.specs.declared.pairs.PairSystem.{PairSystem}
use Rattle.affc_split.specs.declared.maximum.region.Region.{Region}
use Rattle.affc_conflicts.specs.differences.Differences.{apart}
use Rattle.affc_basis.specs.Slices.{along, InSlice}
use Rattle.affc_basis.specs.declared.fold.Mark.{Mark}
use Rattle.affc_basis.specs.declared.fold.Mark.TheVariants.{Least, Bound}
use Rattle.affc_basis.specs.Folds.{IsEnough, IsLeastMark, IsTrueOf, AttainsBy}
use Rattle.affc_system.specs.ElementPairs.{IsPairOf}
use Rattle.affc_conflicts.specs.Conditions.{InContext}
use Rattle.affc_moduli.specs.Slices.{AreSlices}
use Rattle.affc_moduli.specs.Distances.{AreForward, AreBackward, HaveDimensions}
use Rattle.affc_moduli.specs.Enough.{AreBelow}
use Rattle.affc_moduli.proofs.Apart.{apart-dot, apart-turned}
use Rattle.affc_moduli.proofs.Covers.{covered, some_at}

both_below : (a b v : ℤ) → b ≡ neg_ℤ a → a <ℤ v → b <ℤ v → pos (unsigned_abs a) <ℤ v
both_below a b v e h k = omega (arith, ints)

same_value : (u v : ℤ) (g : ℕ) → u ≡ pos (g + 1) → pos g <ℤ v → v ≤ℤ u → v ≡ pos (g + 1)
same_value u v g e h k = omega (arith, ints)

from_zero : (g : ℕ) (v : ℤ) → g ≡ 0 → pos 1 ≤ℤ v → pos g <ℤ v
from_zero g v e h = omega (arith, ints)

at_top : (w u v : ℤ) (g : ℕ) → w ≤ℤ u → u ≡ pos (g + 1) → v ≡ pos (g + 1) → w ≤ℤ v
at_top w u v g h e f = omega (arith, ints)

module _ (context : Rows) (ranges : List (ℤ × ℤ)) (rows : List Affine) (k : ℕ) (row : Affine) (systems : List PairSystem) (regions : List Region)
    (slices : AreSlices context ranges rows k systems regions) (wide : HaveDimensions systems (length row.coefs)) (b : Affine) (parameters : length b.coefs ≡ context.columns)
    (positive : (p : List ℤ) → InContext context ranges p → pos 1 ≤ℤ value b p) where
  pub enough_by : (fs gs : List Affine) → length fs ≡ length systems → length gs ≡ length systems → AreForward systems row.coefs fs → AreBackward systems row.coefs gs → AreBelow regions fs b → AreBelow regions gs b
      → IsEnough (InContext context ranges) (IsPairOf systems) rows k row b
  enough_by fs gs fs_each gs_each forward backward low high p here = (
    positive p here,
    λ x y slice.
        let c = covered context ranges rows k systems regions slices p x y here slice in
        let s = c.system in
        let i = c.number in
        let z = c.point in
        let there : i < length systems = slice_get_within systems i s c.system_there in
        let f = some_at fs i (subst (λ n. i < n) (sym fs_each) there) in
        let g = some_at gs i (subst (λ n. i < n) (sym gs_each) there) in
        let width : length z ≡ s.system.columns = c.inside.meets.width ∙ (slices.slices i s c.region c.system_there c.region_there).columns in
        let at : value b (take (length b.coefs) z) ≡ value b p = ap (λ n. value b (take n z)) parameters ∙ ap (value b) c.at in
        let vf = (forward i s f.0 c.system_there f.1).holds z width in
        let vg = (backward i s g.0 c.system_there g.1).holds z width in
        let lf : apart row.coefs s.x.items s.y.items z <ℤ value b p = subst (λ v. v <ℤ value b p) vf (subst (λ v. value f.0 z <ℤ v) at (low i c.region f.0 c.region_there f.1 z c.inside)) in
        let lg : apart row.coefs s.y.items s.x.items z <ℤ value b p = subst (λ v. v <ℤ value b p) vg (subst (λ v. value g.0 z <ℤ v) at (high i c.region g.0 c.region_there g.1 z c.inside)) in
        let e : along row x y ≡ unsigned_abs (apart row.coefs s.x.items s.y.items z) = c.distances row ∙ ap unsigned_abs (sym (apart-dot row.coefs s.x.items s.y.items z (wide i s c.system_there).0 (wide i s c.system_there).1)) in
        subst (λ n. pos n <ℤ value b p) (sym e) (both_below _ _ (value b p) (apart-turned row.coefs s.x.items s.y.items z) lf lg),
  )

  above_greatest : (p : List ℤ) (pair : Option (List ℤ × List ℤ)) (g : ℕ) → AttainsBy (IsPairOf systems p) rows k row pair g → pos 1 ≤ℤ value b p
      → ((x y : List ℤ) → InSlice (IsPairOf systems p) rows k x y → pos (along row x y) <ℤ value b p) → pos g <ℤ value b p
  above_greatest p None g attains one far = from_zero g (value b p) attains one
  above_greatest p (Some pair) g attains one far = subst (λ n. pos n <ℤ value b p) attains.1 (far pair.0 pair.1 attains.0)

  -- the mark of a form that is nowhere passed is one of this form
  pub mark_moves : (old : Affine) (p : List ℤ) (pair : Option (List ℤ × List ℤ)) → IsEnough (InContext context ranges) (IsPairOf systems) rows k row b → ((q : List ℤ) → InContext context ranges q → value b q ≤ℤ value old p)
      → IsLeastMark (InContext context ranges) (IsPairOf systems) rows k row old p pair → IsLeastMark (InContext context ranges) (IsPairOf systems) rows k row b p pair
  mark_moves old p pair enough top mark =
      let g = mark.greatest in
      let far = enough p mark.in_context in
      let v : value b p ≡ pos (g + 1) = same_value (value old p) (value b p) g mark.value_there (above_greatest p pair g mark.attains far.0 far.1) (top p mark.in_context) in
      record {
        in_context = mark.in_context;
        highest = λ q there. at_top (value b q) (value old p) (value b p) g (top q there) mark.value_there v;
        greatest = g;
        is_greatest = mark.is_greatest;
        value_there = v;
        attains = mark.attains;
      }

  pub marks_move : (old : Affine) (m : Mark) → IsEnough (InContext context ranges) (IsPairOf systems) rows k row b → ((p q : List ℤ) → InContext context ranges q → value b q ≤ℤ value old p)
      → IsTrueOf (InContext context ranges) (IsPairOf systems) rows k row old m → IsTrueOf (InContext context ranges) (IsPairOf systems) rows k row b m
  marks_move old (Least p pair) enough top h = mark_moves old p pair enough (top p) h
  marks_move old Bound enough top h = tt
