use Rattle.std.proofs.Common.{◌≡◌, ℕ, subst}
use Rattle.affc_check.specs.Answers.{FailsAtQuestion, FailsAtPoint}
use Rattle.affc_check.specs.Looked.{Stands}
use Rattle.affc_check.specs.declared.fault.CheckFault.TheVariants as fault
use Rattle.affc_check.proofs.AllLemmas.{leaves_valid, leaves_spare}
use Rattle.affc_check.proofs.check.verdict.Goals as goal

same_proof : (k n : ℕ) → fault.Proof k ≡ fault.Proof n → k ≡ n
same_proof k n e = cc

same_shown : (k n : ℕ) → fault.Shown k ≡ fault.Shown n → k ≡ n
same_shown k n e = cc

pub returns-in-Holding-clause-ok : goal.returns-in-Holding-clause-ok
returns-in-Holding-clause-ok c = λ is proofs s.
    let h = (subst (λ l. Stands l is proofs) c.in-Holding.is s).0 in
    (leaves_valid is proofs _ h, leaves_spare is proofs _ h)

pub returns-in-Unproved-clause-proof : goal.returns-in-Unproved-clause-proof
returns-in-Unproved-clause-proof c = λ n e is proofs s. subst (FailsAtQuestion is proofs) (same_proof c.in-Unproved.item n e) (subst (λ l. Stands l is proofs) c.in-Unproved.is s)

pub returns-in-Unmet-clause-shown : goal.returns-in-Unmet-clause-shown
returns-in-Unmet-clause-shown c = λ n e is proofs s. subst (FailsAtPoint is proofs) (same_shown c.in-Unmet.item n e) (subst (λ l. Stands l is proofs) c.in-Unmet.is s)
