use Rattle.std.proofs.Common.{rules, subst}
use Rattle.affc_eliminate.specs.Points.{Implies}
use Rattle.affc_eliminate.proofs.project.refutation.refute.Goals as goal

pub refuted_by-requires-clause-implies : goal.refuted_by-requires-clause-implies
refuted_by-requires-clause-implies c = λ kept other w a.
    let m = a.says.met in
    subst (λ k. Implies k other) a.shows.0 (subst (λ o. Implies a.first.now o) a.shows.1 (search rules))
