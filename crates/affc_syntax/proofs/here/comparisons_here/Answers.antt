use Rattle.std.proofs.Common.{map}
use Rattle.affc_syntax.specs.draft.Drafts.{compare}
use Rattle.affc_syntax.proofs.Readers.{counted_gives}
use Rattle.affc_syntax.proofs.here.comparisons_here.Goals as goal

pub returns-clause-read : goal.returns-clause-read
returns-clause-read c = counted_gives c.args.symbols.now (map compare) c.comparisons-answer.result c.counted.result _ c.counted.ensures c.comparisons-answer.ensures
