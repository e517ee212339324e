use Rattle.affc_safe.proofs.OverflowProofs as x
use Rattle.affc_safe.proofs.examples.wide.Goals as goal

pub returns : goal.returns
returns c = record { assignments = x.wide_assignments; extents = x.wide_extents; nothing = x.nothing_overflows }
