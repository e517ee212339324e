use Rattle.std.proofs.Common.{◌+◌, ◌*◌}
use Rattle.affc_ast.specs.Index.{nodes_of_ix}
use Rattle.affc_cprint.proofs.index.+ix.Given as goal

abbrev pub decreases-ix : goal.decreases-ix
decreases-ix l = 2 * nodes_of_ix l.e.now

abbrev pub decreases-opposite : goal.decreases-opposite
decreases-opposite l = 2 * nodes_of_ix l.a.now + 1

abbrev pub decreases-sum : goal.decreases-sum
decreases-sum l = 2 * (nodes_of_ix l.a.now + nodes_of_ix l.b.now) + 1

abbrev pub decreases-product : goal.decreases-product
decreases-product l = 2 * (nodes_of_ix l.a.now + nodes_of_ix l.b.now) + 1

abbrev pub decreases-call : goal.decreases-call
decreases-call l = 2 * (nodes_of_ix l.a.now + nodes_of_ix l.b.now) + 1

abbrev pub decreases-quotient : goal.decreases-quotient
decreases-quotient l = 2 * nodes_of_ix l.a.now + 1
