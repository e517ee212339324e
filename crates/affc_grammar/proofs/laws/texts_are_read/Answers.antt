-- The lemmas.
use Rattle.affc_grammar.proofs.Texts.{text_spelled, text_read, stops_at, enough_room, within_limit}
use Rattle.affc_grammar.proofs.laws.texts_are_read.Goals as goal

pub returns-clause-spelled : goal.returns-clause-spelled
returns-clause-spelled c = text_spelled

pub returns-clause-read : goal.returns-clause-read
returns-clause-read c = λ room c w. text_read c room w

pub returns-clause-stopped : goal.returns-clause-stopped
returns-clause-stopped c = stops_at

pub returns-clause-enough : goal.returns-clause-enough
returns-clause-enough c = enough_room

pub returns-clause-within : goal.returns-clause-within
returns-clause-within c = within_limit
