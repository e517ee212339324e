use Rattle.std.proofs.Common.{pos}
use Rattle.affc_decide.proofs.Said.{if_err}
use Rattle.affc_decide.proofs.block.begin.Goals as goal

pub returns-in_err-columns-clause-none : goal.returns-in_err-columns-clause-none
returns-in_err-columns-clause-none c = if_err c.from_residual.result (λ e k n says. absurd (c.in_err-columns.ensures.none (pos k) says))

pub returns-in_err-rows-clause-none : goal.returns-in_err-rows-clause-none
returns-in_err-rows-clause-none c = if_err c.from_residual-in_err-rows.result (λ e k n says says_rows. absurd (c.in_err-rows.ensures.none (pos n) says_rows))
