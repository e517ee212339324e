use Rattle.affc_certvalue.proofs.fold.Products.{broken_draft}
use Rattle.affc_certvalue.proofs.fold.build.multiplied.Goals as goal

pub returns-in-Err-clause-none : goal.returns-in-Err-clause-none
returns-in-Err-clause-none c = broken_draft c.args.draft c.in-Err.field-0.component c.in-Err.ensures.broken
