use Rattle.std.proofs.Common.{sym, subst, ◌∙◌}
use Rattle.affc_system.specs.Systems.{FitsRow}
use Rattle.affc_nest.proofs.RowLemmas.{gap_fits}
use Rattle.affc_nest.proofs.rows.add_gap.Goals as goal

pub add-requires-clause-row : goal.add-requires-clause-row
add-requires-clause-row c = record {
  width = c.in_ok-row.ensures.width ∙ c.requires.first.width;
  fits = subst FitsRow (sym c.in_ok-row.ensures.value) (gap_fits c.args.system.now.columns c.args.a.now c.args.b.now c.args.k c.requires.first c.requires.second c.requires.step);
}
