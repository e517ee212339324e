use Rattle.std.proofs.Common.{◌≡◌, map}
use Rattle.std.specs.Prelude.{take}
use Rattle.affc_basis.specs.Listed.{shape_of, shapes_of}
use Rattle.affc_basis.proofs.listing.bases.Given as goal

abbrev pub invariant-loop-i : goal.invariant-loop-i
invariant-loop-i g l = map shape_of l.bases ≡ take l.i (shapes_of l.rows l.inverses)
