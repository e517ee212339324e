use Rattle.std.proofs.Common.{◌≡◌, drop}
use Rattle.affc_cert.specs.tree.Trees.{loops_at}
use Rattle.affc_cert.proofs.tree.judge.find_loops.Given as goal

abbrev pub invariant-loop-statement : goal.invariant-loop-statement
invariant-loop-statement l = loops_at l.number (drop l.statement-index l.statements) ≡ loops_at l.number l.statements
