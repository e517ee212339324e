use Rattle.std.proofs.Common.{Err, length, map, subst}
use Rattle.affc_lex.specs.Lexes.{lexemes}
use Rattle.affc_syntax.specs.draft.Symbols.{seen}
use Rattle.affc_text.specs.Answers.{IsRead}
use Rattle.affc_parse.proofs.Joined.{text_written, text_stops, not_deep}
use Rattle.affc_parse.proofs.program.draft_of.Goals as goal

pub returns-in-Ok-clause-draft : goal.returns-in-Ok-clause-draft
returns-in-Ok-clause-draft c = text_written (lexemes c.args.text.now c.args.tokens.now) (map seen c.args.symbols.now) c.args.room c.in-Ok.draft c.requires.its_symbols c.in-Ok.ensures

pub returns-in-Err-At-clause-fault : goal.returns-in-Err-At-clause-fault
returns-in-Err-At-clause-fault c =
    text_stops c.args.text.now (lexemes c.args.text.now c.args.tokens.now) (map seen c.args.symbols.now) c.args.room c.in-Err-At.at c.place_of.result c.requires.shape c.requires.its_symbols
    (subst (λ f. IsRead c.args.room (map seen c.args.symbols.now) (Err f)) c.in-Err-At.field-0-is c.in-Err-At.ensures) c.place_of.ensures

pub returns-in-Err-Deep-clause-fault : goal.returns-in-Err-Deep-clause-fault
returns-in-Err-Deep-clause-fault c =
    not_deep c.args.text.now (map seen c.args.symbols.now) c.args.room (length c.args.text.now) c.requires.enough (subst (λ f. IsRead c.args.room (map seen c.args.symbols.now) (Err f)) c.in-Err-Deep.field-0-is c.in-Err-Deep.ensures)
