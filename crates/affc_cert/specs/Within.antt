-- Certificates within the limits, for a program of some layout.
use Rattle.affc_cert.specs.Certificates.{Certificate}
use Rattle.affc_cert.specs.declared.layout.Layout.{Layout}
use Rattle.affc_certvalue.specs.fold.Limits.{IsFoldWithin}
use Rattle.affc_certvalue.specs.proof.Limits.{IsProofWithin}
use Rattle.affc_cert.specs.tree.Within.{IsTreeWithin}
use Rattle.affc_certvalue.specs.Limits.{IsWord}
use Rattle.std.specs.List.{All, AllZip}
use Rattle.std.specs.Prelude.{◌≡◌, length}

-- a value for each parameter, a tree for each load, a fold for each temporary, and proofs
pub record IsWithin (layout : Layout) (c : Certificate) : Type 0 where
  pub each : length c.context ≡ layout.parameters
  pub words : All IsWord c.context
  pub trees : AllZip IsTreeWithin layout.loads c.trees
  pub folds : AllZip (IsFoldWithin layout.parameters) layout.temporaries c.folds
  pub proofs : All IsProofWithin c.proofs
