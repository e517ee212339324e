use Rattle.affc_farkas.proofs.DepthLemmas.{few_at_nodes, own_rows, fullest}
use Rattle.affc_farkas.proofs.laws.most_rows_by_depth.Goals as goal

pub returns : goal.returns
returns c = record { few = few_at_nodes; above = own_rows; reached = λ above proof. let f = fullest above proof in (f.rows, f.stand, f.many) }
