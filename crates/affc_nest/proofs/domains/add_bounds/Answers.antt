use Rattle.affc_nest.proofs.RowLemmas.{side_of_column, side_later}
use Rattle.affc_nest.proofs.domains.add_bounds.Goals as goal

pub add_gap-requires-clause-second : goal.add_gap-requires-clause-second
add_gap-requires-clause-second c = side_of_column _ _ _ _ c.in_ok-x.ensures.value c.columns.ensures.value

pub add_compare-requires-clause-first : goal.add_compare-requires-clause-first
add_compare-requires-clause-first c = side_later c.args.system.now c.add_gap.new.system _ _ c.in_ok-add_gap.ensures (side_of_column _ _ _ _ c.in_ok-x.ensures.value c.columns.ensures.value)
