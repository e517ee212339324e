use Rattle.affc_leaf.proofs.Orders.{lex_total, lex_same}
use Rattle.affc_leaf.proofs.laws.points_are_ordered.Goals as goal

pub returns : goal.returns
returns c = record { total = lex_total; same = lex_same }
