-- What is reported of a compilation.
use Rattle.std.specs.Prelude.{ℕ, List}
use Rattle.affc_ast.specs.declared.tree.ArrayId.{ArrayId}
use Rattle.affc_ast.specs.declared.tree.Program.{Program}
use Rattle.affc_basis.specs.declared.fold.Fold.{Fold}
use Rattle.affc_weigh.specs.declared.choice.Choice.{Choice}
use Rattle.affc_schedtext.specs.Outline.{outline}
use Rattle.affc_report.specs.Folds.{fold_report}
use Rattle.affc_loopends.specs.declared.scanned.scanned.Loose.{Loose}

-- the folds of its temporaries, in order of declaration, and their costs, and then the components that are loose
abbrev pub report_text : Program → List (ArrayId × Fold) → List (ArrayId × Choice) → List Loose → List ℕ
report_text program folds choices loose = fold_report (outline program) folds choices loose
