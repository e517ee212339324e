use Rattle.std.proofs.Common.{map, subst}
use Rattle.affc_syntax.specs.draft.Symbols.{seen}
use Rattle.affc_syntax.specs.draft.Drafts.{ix}
use Rattle.affc_syntax.specs.Readers.{Gives}
use Rattle.affc_syntax.proofs.IxExact.{inside_exact}
use Rattle.affc_syntax.proofs.Readers.{counted_gives}
use Rattle.affc_syntax.proofs.expression.read_inside.Goals as goal

pub returns-clause-read : goal.returns-clause-read
returns-clause-read c =
    counted_gives c.args.symbols.now ix c.inside-answer.result c.counted.result _ c.counted.ensures
    (subst (Gives (map seen c.args.symbols.now) ix c.inside-answer.result) (inside_exact c.args.prelude c.args.room c.args.symbols.now c.args.next c.requires) c.inside-answer.ensures)
