use Rattle.std.proofs.Common.{subst}
use Rattle.affc_basis.specs.Bases.{AreComponents}
use Rattle.affc_basis.proofs.basis.given.Goals as goal

pub invariant_of-result : goal.invariant_of-result
invariant_of-result c =
    let rows = c.as_slice.ensures in
    let inverse = c.as_slice-2.ensures in
    record {
      square = c.requires.square;
      row_bounds = c.requires.row_bounds;
      inverse_bounds = c.requires.inverse_bounds;
      identity = subst (λ r. AreComponents r c.args.inverse) rows (subst (λ i. AreComponents c.as_slice.result.now i) inverse c.in-None.ensures.none);
    }
