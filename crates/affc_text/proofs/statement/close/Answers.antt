use Rattle.std.proofs.Common.{ap, map, ◌∙◌}
use Rattle.affc_text.specs.declared.statement.Head.TheVariants as h
use Rattle.affc_text.specs.Parts.{head_seen, close, stmts}
use Rattle.affc_text.proofs.StmtReads.{close_on}
use Rattle.affc_text.proofs.statement.close.Goals as goal

pub returns-in-If : goal.returns-in-If
returns-in-If c = close_on c.loop-h.heads c.pop.new.self c.in-Some.h (h.If c.in-If.at c.in-If.cond) c.loop-h.s (stmts c.in_ok-body.body) c.in-Some.ensures c.in-If.is c.in_ok-body.ensures.stmts ∙ c.loop-h.invariant

pub loop-h-preserved-in-For : goal.loop-h-preserved-in-For
loop-h-preserved-in-For c =
    ap (close (map head_seen c.pop.new.self)) c.with_head-s.ensures
    ∙ close_on c.loop-h.heads c.pop.new.self c.in-Some.h (h.For c.in-For.head) c.loop-h.s (stmts c.in_ok-body.body) c.in-Some.ensures c.in-For.is c.in_ok-body.ensures.stmts
    ∙ c.loop-h.invariant

pub loop-h-preserved : goal.loop-h-preserved
loop-h-preserved c =
    ap (close (map head_seen c.pop.new.self)) c.with_head-s-in-Else.ensures
    ∙ close_on c.loop-h.heads c.pop.new.self c.in-Some.h (h.Else c.in-Else.at c.in-Else.cond c.in-Else.first) c.loop-h.s (stmts c.in_ok-body.body) c.in-Some.ensures c.in-Else.is c.in_ok-body.ensures.stmts
    ∙ c.loop-h.invariant
