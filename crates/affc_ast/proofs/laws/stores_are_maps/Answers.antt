use Rattle.affc_ast.proofs.Stores.{stored, others, in_order, one}
use Rattle.affc_ast.proofs.laws.stores_are_maps.Goals as goal

pub returns : goal.returns
returns c = record { stored = stored; others = others; in_order = in_order; one = one }
