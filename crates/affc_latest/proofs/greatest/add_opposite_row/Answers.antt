use Rattle.std.proofs.Common.{sym, subst}
use Rattle.affc_system.specs.Systems.{IsRow}
use Rattle.affc_latest.proofs.OppositeLemmas.{opposite_is_row}
use Rattle.affc_latest.proofs.greatest.add_opposite_row.Goals as goal

pub add-requires-clause-row : goal.add-requires-clause-row
add-requires-clause-row c = subst (IsRow c.args.system.now.columns) (sym c.in_ok-turned.ensures.value) (opposite_is_row c.args.system.now.columns c.args.row.now c.requires.row)
