use Rattle.std.proofs.Common.{◌≡◌, map}
use Rattle.std.specs.Prelude.{take}
use Rattle.affc_basis.specs.Listed.{linear}
use Rattle.affc_basis.proofs.listing.forms.Given as goal

abbrev pub invariant-loop-row : goal.invariant-loop-row
invariant-loop-row g l = l.forms ≡ map linear (take l.row-index l.rows)
