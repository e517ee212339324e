use Rattle.std.proofs.Common.{rules}
use Rattle.affc_weigh.specs.Costs.{sum_cost}
use Rattle.affc_weigh.proofs.Rising.{named_never_fall, answers_never_fall}
use Rattle.affc_weigh.proofs.examples.by_sum.Goals as goal

pub asked-requires-clause-never_falls : goal.asked-requires-clause-never_falls
asked-requires-clause-never_falls c = answers_never_fall _ sum_cost (λ moduli answer e. search rules) named_never_fall.sums
