use Rattle.std.proofs.Common.{sym, subst}
use Rattle.std.specs.Prelude.{None, option_map}
use Rattle.std.proofs.lemmas.Result.{IfOk-weaker}
use Rattle.affc_driver.specs.Certificates.{HasCertificate}
use Rattle.affc_driver.proofs.temporaries.folds_under.Goals as goal

pub returns-in_ok-folded-in-Text-clause-certified : goal.returns-in_ok-folded-in-Text-clause-certified
returns-in_ok-folded-in-Text-clause-certified g c = subst (λ wanted. HasCertificate wanted c.args.compiled.now.nest.now c.args.compiled.now.plan.now None c.in_ok-folded-in-Text.folded.folds) (sym c.in-Text.is) tt

pub returns-in-Certificate-clause-certified : goal.returns-in-Certificate-clause-certified
returns-in-Certificate-clause-certified g c =
    IfOk-weaker c.certified_folds.result _ _
    (λ d h. subst (λ wanted. HasCertificate wanted c.args.compiled.now.nest.now c.args.compiled.now.plan.now (option_map (λ t. t.items) d.certificate) d.folded.folds) (sym c.in-Certificate.is) h) c.certified_folds.ensures.certified

pub folds_alone-requires : goal.folds_alone-requires
folds_alone-requires g c = record { compiled = c.requires.compiled }

pub certified_folds-requires : goal.certified_folds-requires
certified_folds-requires g c = record { compiled = c.requires.compiled }
