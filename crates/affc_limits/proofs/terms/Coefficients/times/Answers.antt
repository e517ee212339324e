use Rattle.std.proofs.Common.{rules, ◌*ℤ◌, ap, ◌∙◌}
use Rattle.affc_limits.specs.Terms.{coefficient}
use Rattle.affc_limits.proofs.TermLaws.{nothing_times, scaled-times}
use Rattle.affc_limits.proofs.terms.Coefficients.times.Goals as goal

pub returns-then-is_empty : goal.returns-then-is_empty
returns-then-is_empty c = λ w. nothing_times w c.args.self.scale c.args.self.terms c.args.by.now (search rules)

pub returns : goal.returns
returns c = λ w. ap (λ z. coefficient w c.args.self.terms *ℤ z) c.in_ok-scaled.ensures ∙ scaled-times c.args.self.scale (coefficient w c.args.self.terms) c.args.by.now
