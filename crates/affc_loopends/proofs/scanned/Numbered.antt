-- What the definitions give of bounds.
use Rattle.std.proofs.Common.{refl}
use Rattle.affc_loopends.specs.scanned.Examples.{RowsOfBounds, LooseAreNumbered}

pub rows_of_bounds : RowsOfBounds
rows_of_bounds lower upper why = (refl, refl)

pub loose_are_numbered : LooseAreNumbered
loose_are_numbered lower upper why other e f first second = rw (first, second) refl
