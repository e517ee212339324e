use Rattle.affc_folds.proofs.SystemExamples as x
use Rattle.affc_folds.proofs.examples.systems.Goals as goal

pub returns : goal.returns
returns c = record { void = x.void_in_the_box; copies = x.copies_in_all; kept = x.kept_or_not; added = x.added_or_not }
