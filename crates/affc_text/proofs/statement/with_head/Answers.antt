use Rattle.std.proofs.Common.{ap, sym, ◌∙◌}
use Rattle.affc_grammar.specs.Draft.{if_cond}
use Rattle.affc_syntax.specs.draft.Drafts.{cond}
use Rattle.affc_syntax.proofs.draft.Outs.{stmt-If}
use Rattle.affc_text.specs.Parts.{with_head, head_seen, stmts}
use Rattle.affc_text.proofs.statement.with_head.Goals as goal

pub returns-in-If : goal.returns-in-If
returns-in-If c =
    stmt-If c.in-If.at c.in-If.cond c.args.body c.new.result
    ∙ ap (λ l. if_cond c.in-If.at (cond c.in-If.cond) (stmts c.args.body) (stmts l)) c.new.ensures
    ∙ ap (λ k. with_head (head_seen k) (stmts c.args.body)) (sym c.in-If.is)

pub returns-in-Else : goal.returns-in-Else
returns-in-Else c = stmt-If c.in-Else.at c.in-Else.cond c.in-Else.first c.args.body ∙ ap (λ k. with_head (head_seen k) (stmts c.args.body)) (sym c.in-Else.is)
