use Rattle.std.proofs.Common.{ℕ, ◌-◌, ◌<◌, length}
use Rattle.affc_rows.specs.Forms.{columns_of}
use Rattle.affc_trace.specs.Inverses.{GivesColumn}
use Rattle.affc_plan.proofs.Composable.{images_of}
use Rattle.affc_plan.proofs.maps.first_lost.Given as goal

abbrev pub invariant-loop-k : goal.invariant-loop-k
invariant-loop-k l = (j : ℕ) → j < l.k → GivesColumn l.inverse (images_of l.forms l.inverse) (columns_of l.forms - length l.inverse) j
