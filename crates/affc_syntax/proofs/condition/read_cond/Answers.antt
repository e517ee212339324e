use Rattle.std.proofs.Common.{true, map, subst}
use Rattle.affc_syntax.specs.draft.Symbols.{seen}
use Rattle.affc_syntax.specs.draft.Drafts.{cond}
use Rattle.affc_syntax.specs.Readers.{Gives}
use Rattle.affc_syntax.proofs.CondExact.{cond_exact}
use Rattle.affc_syntax.proofs.Readers.{counted_gives}
use Rattle.affc_syntax.proofs.condition.read_cond.Goals as goal

pub returns-clause-read : goal.returns-clause-read
returns-clause-read c =
    counted_gives c.args.symbols.now cond c.condition-answer.result c.counted.result _ c.counted.ensures
    (subst (Gives (map seen c.args.symbols.now) cond c.condition-answer.result) (cond_exact c.args.prelude true c.args.room c.args.symbols.now c.args.next c.requires) c.condition-answer.ensures)
