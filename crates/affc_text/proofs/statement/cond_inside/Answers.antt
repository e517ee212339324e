use Rattle.std.proofs.Common.{length, drop, map, subst}
use Rattle.affc_syntax.specs.draft.Symbols.{seen}
use Rattle.affc_syntax.specs.draft.Drafts.{cond}
use Rattle.affc_syntax.specs.Readers.{Gives}
use Rattle.affc_text.proofs.StmtReads.{cond_inside_on}
use Rattle.affc_text.proofs.statement.cond_inside.Goals as goal

pub returns : goal.returns
returns c = subst (Gives (map seen c.args.symbols.now) cond c.condition_here.result) (cond_inside_on c.args.prelude (length c.args.symbols.now) c.args.room (drop c.args.next (map seen c.args.symbols.now)) c.if-room-eq0.false) c.condition_here.ensures.read
