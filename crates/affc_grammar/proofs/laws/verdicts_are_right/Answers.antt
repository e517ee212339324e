-- The lemmas.
use Rattle.affc_grammar.proofs.Verdicts.{reads_derives, derives_reads, syntax_stops, name_refused_there, product_there, limit_there}
use Rattle.affc_grammar.proofs.laws.verdicts_are_right.Goals as goal

pub returns-clause-read : goal.returns-clause-read
returns-clause-read c = λ ss tree. (reads_derives ss tree, derives_reads ss tree)

pub returns-clause-stopped : goal.returns-clause-stopped
returns-clause-stopped c = syntax_stops

pub returns-clause-refused : goal.returns-clause-refused
returns-clause-refused c = name_refused_there

pub returns-clause-not_affine : goal.returns-clause-not_affine
returns-clause-not_affine c = product_there

pub returns-clause-passed : goal.returns-clause-passed
returns-clause-passed c = limit_there
