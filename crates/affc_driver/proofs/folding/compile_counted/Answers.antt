use Rattle.std.proofs.Common.{sym, subst}
use Rattle.std.specs.Prelude.{option_map}
use Rattle.affc_nest.specs.Nests.{nest_of}
use Rattle.affc_driver.specs.Certificates.{HasCertificate}
use Rattle.affc_driver.specs.Made.{AreDecided}
use Rattle.affc_driver.proofs.Refused.{refuses_each}
use Rattle.affc_driver.proofs.folding.compile_counted.Goals as goal

pub returns-in-Err-clause-err : goal.returns-in-Err-clause-err
returns-in-Err-clause-err g c = refuses_each c.args.program.now c.args.plan.now c.in-Err.refusal c.in-Err.ensures.err

pub returns-in-Ok-finish-clause-ok : goal.returns-in-Ok-finish-clause-ok
returns-in-Ok-finish-clause-ok g c =
    let A = g.F.Cost.answers c.args.cost.now.cost in
    let decided =
    subst (λ folds. AreDecided A c.args.program.now c.args.plan.now c.folds_under.new.budget folds c.as_slice-choices.result.now) (sym c.as_slice-folds.ensures)
    (subst (λ choices. AreDecided A c.args.program.now c.args.plan.now c.folds_under.new.budget c.in_ok-folded.field-0.folded.folds choices) (sym c.as_slice-choices.ensures) c.in_ok-folded.ensures.decided) in
    record {
      within = c.in-Ok.ensures.within;
      folds = c.as_slice-folds.result.now;
      choices = c.as_slice-choices.result.now;
      decided = decided;
      is = c.in-Ok-finish.ensures.ok;
      total = c.in-Ok-finish.ensures.total;
      certified =
          subst (λ folds. HasCertificate c.args.wanted (nest_of c.args.program.now) c.args.plan.now (option_map (λ text. text.items) c.in_ok-folded.field-0.certificate) folds) (sym c.as_slice-folds.ensures)
          (subst (λ nest. HasCertificate c.args.wanted nest c.args.plan.now (option_map (λ text. text.items) c.in_ok-folded.field-0.certificate) c.in_ok-folded.field-0.folded.folds) c.requires.nest c.in_ok-folded.ensures.certified);
    }

pub folds_under-requires : goal.folds_under-requires
folds_under-requires g c = record {
  compiled = record {
    plain = c.requires.plain;
    arrays = c.requires.arrays;
    is = c.requires.nest;
    within = c.in-Ok.ensures.within;
    fits = c.requires.fits;
    slight = c.requires.slight;
  };
}
