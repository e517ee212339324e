use Rattle.std.proofs.Common.{◌∙◌}
use Rattle.affc_life.proofs.BasisLemmas.{none_broken}
use Rattle.affc_check.proofs.made.basis_copied.Goals as goal

pub unreachable-requires : goal.unreachable-requires
unreachable-requires c =
    none_broken c.args.basis.now c.in_ok-rows.rows c.in_ok-inverse.inverse c.in-Err._broken.component (c.in_ok-rows.ensures ∙ c.as_slice.ensures) (c.in_ok-inverse.ensures ∙ c.as_slice-2.ensures) c.in-Err.ensures.broken
