-- Both forms of a distance are bounded by what bounds it.
use Rattle.std.proofs.Common.{◌≡◌, ℕ, ◌<◌, List, length, ℤ, pos, ◌≤ℤ◌, sym, subst, ◌∙◌}
use Rattle.std.proofs.lemmas.Option.{slice_get_within}
use Rattle.affc_rows.specs.Forms.{Affine}
use Rattle.affc_system.specs.declared.pairs.PairSystem.{PairSystem}
use Rattle.affc_split.specs.maximum.Regions.{AreBounded}
use Rattle.affc_split.specs.declared.maximum.region.Region.{Region}
use Rattle.affc_conflicts.specs.differences.Differences.{apart}
use Rattle.affc_moduli.specs.Distances.{AreForward, AreBackward, AreOver, AreApartWithin}
use Rattle.affc_moduli.proofs.Apart.{apart-turned, within_both}
use Rattle.affc_moduli.proofs.Covers.{some_at}

module _ (systems : List PairSystem) (regions : List Region) (cs : List ℤ) (fs gs : List Affine) (regions_each : length regions ≡ length systems)
    (fs_each : length fs ≡ length systems) (gs_each : length gs ≡ length systems) (over : AreOver systems regions)
    (forward : AreForward systems cs fs) (backward : AreBackward systems cs gs) where
  pub bounded_both : (n : ℕ) → AreBounded regions fs (pos n) → AreBounded regions gs (pos n) → AreApartWithin systems regions cs n
  bounded_both n low high i s r z at there inside =
      let here : i < length systems = slice_get_within systems i s at in
      let f = some_at fs i (subst (λ m. i < m) (sym fs_each) here) in
      let g = some_at gs i (subst (λ m. i < m) (sym gs_each) here) in
      let width : length z ≡ s.system.columns = inside.meets.width ∙ over i s r at there in
      let vf = (forward i s f.0 at f.1).holds z width in
      let vg = (backward i s g.0 at g.1).holds z width in
      within_both (apart cs s.x.items s.y.items z) (apart cs s.y.items s.x.items z) n (apart-turned cs s.x.items s.y.items z)
      (subst (λ v. v ≤ℤ pos n) vf (low i r f.0 there f.1 z inside))
      (subst (λ v. v ≤ℤ pos n) vg (high i r g.0 there g.1 z inside))
