use Rattle.affc_syntax.specs.draft.Drafts.{value}
use Rattle.affc_syntax.proofs.Readers.{counted_gives}
use Rattle.affc_syntax.proofs.here.value_here.Goals as goal

pub returns-clause-read : goal.returns-clause-read
returns-clause-read c = counted_gives c.args.symbols.now value c.whole_value-answer.result c.counted.result _ c.counted.ensures c.whole_value-answer.ensures
