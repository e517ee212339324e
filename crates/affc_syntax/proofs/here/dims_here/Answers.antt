use Rattle.std.proofs.Common.{map}
use Rattle.affc_syntax.specs.draft.Drafts.{ix}
use Rattle.affc_syntax.proofs.Readers.{counted_gives}
use Rattle.affc_syntax.proofs.here.dims_here.Goals as goal

pub returns-clause-read : goal.returns-clause-read
returns-clause-read c = counted_gives c.args.symbols.now (map ix) c.dims-answer.result c.counted.result _ c.counted.ensures c.dims-answer.ensures
