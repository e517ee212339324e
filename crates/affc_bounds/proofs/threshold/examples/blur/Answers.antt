use Rattle.affc_bounds.proofs.threshold.ExampleProofs.{of_the_blur, of_nothing}
use Rattle.affc_bounds.proofs.threshold.examples.blur.Goals as goal

pub returns-clause-sizes : goal.returns-clause-sizes
returns-clause-sizes c = of_the_blur

pub returns-clause-nothing : goal.returns-clause-nothing
returns-clause-nothing c = of_nothing
