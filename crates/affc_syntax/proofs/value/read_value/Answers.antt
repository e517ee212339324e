use Rattle.std.proofs.Common.{map, subst}
use Rattle.affc_syntax.specs.draft.Symbols.{seen}
use Rattle.affc_syntax.specs.draft.Drafts.{value}
use Rattle.affc_syntax.specs.Readers.{Gives}
use Rattle.affc_syntax.proofs.ValueExact.{value_exact}
use Rattle.affc_syntax.proofs.Readers.{counted_gives}
use Rattle.affc_syntax.proofs.value.read_value.Goals as goal

pub returns-clause-read : goal.returns-clause-read
returns-clause-read c =
    counted_gives c.args.symbols.now value c.whole_value-answer.result c.counted.result _ c.counted.ensures
    (subst (Gives (map seen c.args.symbols.now) value c.whole_value-answer.result) (value_exact c.args.prelude c.args.room c.args.symbols.now c.args.next c.requires) c.whole_value-answer.ensures)
