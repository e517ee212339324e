-- What looking at proofs of questions came to.
use Rattle.std.specs.Prelude.{List}
use Rattle.affc_system.specs.Systems.{Rows}
use Rattle.affc_farkas.specs.declared.proof.Proof.{Proof}
use Rattle.affc_products.specs.Blocks.{AreProved, FailsAt}
use Rattle.affc_products.specs.declared.step.Step.{Step}
use Rattle.affc_products.specs.declared.step.Step.TheVariants.{Passed, Failed}

-- each question has a proof and some are left, or the first without one is named
abbrev pub IsStep : List Rows → (proofs : List Proof) → Step → Type 0
IsStep questions proofs (Passed left) = AreProved questions proofs left.now
IsStep questions proofs (Failed number) = FailsAt questions proofs number
