use Rattle.std.proofs.Common.{subst}
use Rattle.affc_check.specs.Walked.{IsNumberOf}
use Rattle.affc_check.proofs.fold_looks.first_sought.Goals as goal

pub returns-in-None : goal.returns-in-None
returns-in-None c = λ z n. absurd (subst (λ o. IsNumberOf o z) c.in-None.is n)

pub returns-in-Some : goal.returns-in-Some
returns-in-Some c = λ z n. c.first_of.ensures z (subst (λ o. IsNumberOf o z) c.in-Some.is n)
