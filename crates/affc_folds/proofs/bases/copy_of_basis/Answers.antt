use Rattle.std.proofs.Common.{◌∙◌}
use Rattle.affc_life.proofs.BasisLemmas.{none_broken}
use Rattle.affc_folds.proofs.bases.copy_of_basis.Goals as goal

pub unreachable-requires : goal.unreachable-requires
unreachable-requires c =
    none_broken c.args.basis.now c.from_vec-rows.result c.from_vec-inverse.result c.in-Err._broken.component (c.from_vec-rows.ensures ∙ c.in_ok-copies.ensures ∙ c.as_slice.ensures)
    (c.from_vec-inverse.ensures ∙ c.in_ok-copies-2.ensures ∙ c.as_slice-2.ensures) c.in-Err.ensures.broken
