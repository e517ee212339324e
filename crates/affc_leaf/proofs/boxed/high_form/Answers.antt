use Rattle.affc_leaf.proofs.BoxRows.{column_opposite}
use Rattle.affc_leaf.proofs.boxed.high_form.Goals as goal

pub opposite-requires : goal.opposite-requires
opposite-requires c = column_opposite _ _ c.in_ok-column.column c.in_ok-column.ensures.value
