use Rattle.std.proofs.Common.{◌-ℤ◌, pos, arith}
use Rattle.std.specs.Prelude.{FitsSigned}
use Rattle.std.specs.Int.{w64}
use Rattle.std.proofs.lemmas.Int.{to_z-of_z, fits_signed_from_abs}
use Rattle.affc_split.proofs.maximum.Bounds.{lowered_search, near_lowered}
use Rattle.affc_split.proofs.maximum.search.lowered.Goals as goal

pub returns-clause-search : goal.returns-clause-search
returns-clause-search c =
    let s = c.args.search in
    let h = c.requires.search in
    let near = near_lowered s c.args.at h c.requires.above c.requires.within in
    let a : FitsSigned w64 c.args.at = c.ranges.at in
    let lo : FitsSigned w64 s.low = fits_signed_from_abs w64 s.low (let b = h.low_near in omega arith) in
    let hi : FitsSigned w64 (c.args.at -ℤ pos 1) = fits_signed_from_abs w64 (c.args.at -ℤ pos 1) (omega (arith, near)) in
    simp to_z-of_z (lowered_search s c.args.at h c.requires.above c.requires.within c.requires.none)
