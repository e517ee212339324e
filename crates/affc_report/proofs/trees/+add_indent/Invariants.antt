use Rattle.affc_report.proofs.trees.+add_indent.Given as goal

abbrev pub decreases-add_indent : goal.decreases-add_indent
decreases-add_indent l = l.level
