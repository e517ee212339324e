use Rattle.affc_lex.proofs.ScopLines.{Dropped}
use Rattle.affc_lex.proofs.scop.drop_scop_lines.Given as goal

abbrev pub invariant-loop-at : goal.invariant-loop-at
invariant-loop-at l = Dropped l.text l.initial.tokens.items l.tokens.items l.at l.kept l.left
