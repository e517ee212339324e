use Rattle.affc_cprint.proofs.stmt.+indent.Given as goal

abbrev pub decreases-indent : goal.decreases-indent
decreases-indent l = l.level
