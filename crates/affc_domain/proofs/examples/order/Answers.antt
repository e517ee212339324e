use Rattle.affc_domain.proofs.ExampleProofs as x
use Rattle.affc_domain.proofs.examples.order.Goals as goal

pub returns : goal.returns
returns c = record { numbers_of_loops = x.numbers_of_loops; shared_loops = x.shared_loops; before_by_iterators = x.before_by_iterators; order_of_the_shared_loop = x.order_of_the_shared_loop }
