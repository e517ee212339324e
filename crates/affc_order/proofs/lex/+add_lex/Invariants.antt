use Rattle.affc_order.proofs.lex.+add_lex.Given as goal

abbrev pub decreases-add_lex : goal.decreases-add_lex
decreases-add_lex l = l.n
