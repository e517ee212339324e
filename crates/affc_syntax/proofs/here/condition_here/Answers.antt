use Rattle.affc_syntax.specs.draft.Drafts.{cond}
use Rattle.affc_syntax.proofs.Readers.{counted_gives}
use Rattle.affc_syntax.proofs.here.condition_here.Goals as goal

pub returns-clause-read : goal.returns-clause-read
returns-clause-read c = counted_gives c.args.symbols.now cond c.condition-answer.result c.counted.result _ c.counted.ensures c.condition-answer.ensures
