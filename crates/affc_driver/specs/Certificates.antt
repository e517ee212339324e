-- The certificate of what is made of a source.
use Rattle.std.specs.Prelude.{ℕ, List, [], Option, Some, None}
use Rattle.affc_ast.specs.declared.tree.ArrayId.{ArrayId}
use Rattle.affc_basis.specs.declared.fold.Fold.{Fold}
use Rattle.affc_nest.specs.declared.nest.Nest.{Nest}
use Rattle.affc_schedtext.specs.declared.plan.Plan.{Plan}
use Rattle.affc_certify.specs.Certified.{IsCertified}
use Rattle.affc_driver.specs.declared.wanted.Wanted.{Wanted}
use Rattle.affc_driver.specs.declared.wanted.Wanted.TheVariants.{Text, Certificate}

-- where a certificate is wanted, there is one of these folds
abbrev pub HasCertificate : Wanted → Nest → Plan → (certificate : Option (List ℕ)) → List (ArrayId × Fold) → Type 0
HasCertificate Text nest plan certificate folds = Unit {0}
HasCertificate Certificate nest plan None folds = ⊥
HasCertificate Certificate nest plan (Some text) folds = IsCertified nest plan text folds

-- the text of a certificate, if there is one
abbrev pub certificate_text : Option (List ℕ) → List ℕ
certificate_text None = []
certificate_text (Some text) = text
