use Rattle.std.proofs.Common.{◌∙◌}
use Rattle.affc_plain.proofs.JoinedTests.{not_joined, with_other}
use Rattle.affc_plain.proofs.joined.+statements.Goals as goal
use Rattle.affc_plain.proofs.joined.+statements.Goals.{stmt_joined-then-is_empty, stmt_joined-else-is_empty}

pub stmt_joined-returns-else-is_joined : goal.stmt_joined-returns-else-is_joined
stmt_joined-returns-else-is_joined t c = elim c.if-is_empty.branch [
  | stmt_joined-then-is_empty w ↦ not_joined c.args.s.now c.in-If.cond c.in-If.body c.in-If.other c.if-is_empty.value c.in-If.is c.if-is_joined.false (w.value-is ∙ w.is_joined.ensures)
  | stmt_joined-else-is_empty w ↦ with_other c.args.s.now c.in-If.cond c.in-If.body c.in-If.other c.if-is_empty.value c.is_empty.result c.in-If.is c.if-is_joined.false c.is_empty.ensures w.if-is_empty.false
]
