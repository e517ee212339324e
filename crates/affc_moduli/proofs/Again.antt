-- Distances are the values of forms, without their sign.
use Rattle.std.proofs.Common.{◌≡◌, ℕ, List, ℤ, ap, ◌∙◌, arith}
use Rattle.std.specs.Prelude.{unsigned_abs, slice_get, Some}
use Rattle.affc_rows.specs.Forms.{Affine, value}
use Rattle.affc_system.specs.declared.pairs.PairSystem.{PairSystem}
use Rattle.affc_split.specs.declared.maximum.region.Region.{Region}
use Rattle.affc_conflicts.specs.differences.Differences.{apart}
use Rattle.affc_conflicts.proofs.Turned.{same_size}
use Rattle.affc_moduli.specs.Distances.{AreForward, AreBackward, AreOver}
use Rattle.affc_moduli.specs.Shown.{IsDistance}
use Rattle.affc_moduli.proofs.Apart.{apart-turned}

module _ (systems : List PairSystem) (regions : List Region) (cs : List ℤ) where
  pub distance_forward : (fs : List Affine) → AreForward systems cs fs → AreOver systems regions → (i : ℕ) (s : PairSystem) (r : Region) (f : Affine) → slice_get systems i ≡ Some s → slice_get regions i ≡ Some r → slice_get fs i ≡ Some f
      → IsDistance cs s r f
  distance_forward fs forward over i s r f at there form z inside = ap unsigned_abs ((forward i s f at form).holds z (inside.meets.width ∙ over i s r at there))

  pub distance_backward : (gs : List Affine) → AreBackward systems cs gs → AreOver systems regions → (i : ℕ) (s : PairSystem) (r : Region) (g : Affine) → slice_get systems i ≡ Some s → slice_get regions i ≡ Some r → slice_get gs i ≡ Some g
      → IsDistance cs s r g
  distance_backward gs backward over i s r g at there form z inside =
      same_size (value g z) (apart cs s.x.items s.y.items z) ((backward i s g at form).holds z (inside.meets.width ∙ over i s r at there) ∙ apart-turned cs s.x.items s.y.items z)
