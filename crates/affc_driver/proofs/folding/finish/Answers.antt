use Rattle.std.proofs.Common.{◌∙◌, sym, ap, subst}
use Rattle.affc_cprint.specs.Layout.{printed_text}
use Rattle.affc_report.specs.Folds.{fold_report}
use Rattle.affc_scan.specs.Laws.{IsNestFor}
use Rattle.affc_loopends.specs.scanned.Scanned.{Scans}
use Rattle.affc_schedtext.specs.Outline.{outline}
use Rattle.affc_driver.proofs.folding.finish.Goals as goal

pub scan-requires : goal.scan-requires
scan-requires c = record {
  nest = subst (λ q. IsNestFor q c.args.nest.now c.args.plan.now.schedule) (sym c.in_ok-other.ensures)
      (c.folds_are_scanned.ensures.law c.args.program.now c.args.nest.now c.args.plan.now.schedule c.args.folds.now
      (record { plain = c.requires.plain; near = c.requires.within.near; scheduled = c.requires.fits; limits = c.requires.slight }) c.requires.in_program c.requires.nest);
}

pub returns-in-Ok-clause-ok : goal.returns-in-Ok-clause-ok
returns-in-Ok-clause-ok c = record {
  scanned = c.in_ok-scanned.scanned;
  scans = subst (λ q. Scans q c.args.plan.now.schedule c.in_ok-scanned.scanned) c.in_ok-other.ensures c.in_ok-scanned.ensures;
  printed = c.in-Ok.ensures.text;
  told =
      c.in_ok-report.ensures
      ∙ ap (λ o. fold_report o c.args.folds.now c.args.choices.now c.as_slice-loose.result.now) c.in_ok-outline.ensures
      ∙ ap (fold_report (outline c.args.program.now) c.args.folds.now c.args.choices.now) c.as_slice-loose.ensures.value;
}
