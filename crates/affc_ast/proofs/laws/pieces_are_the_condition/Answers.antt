use Rattle.affc_ast.proofs.CapLemmas as q
use Rattle.affc_ast.proofs.PieceLemmas as p
use Rattle.affc_ast.proofs.laws.pieces_are_the_condition.Goals as goal

pub returns : goal.returns
returns c = record { truth = p.truth; counted = p.counted; sums = q.sums; products = q.products }
