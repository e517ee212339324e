use Rattle.std.proofs.Common.{Err}
use Rattle.affc_lex.specs.Lexes.{lexemes}
use Rattle.affc_syntax.specs.draft.Drafts as drafts
use Rattle.affc_parse.proofs.Joined.{product_answer}
use Rattle.affc_parse.proofs.program.affine.Goals as goal

pub returns-in-Some : goal.returns-in-Some
returns-in-Some c = product_answer c.args.text.now (lexemes c.args.text.now c.args.tokens.now) (drafts.text c.args.draft.now) c.args.tree c.in-Some.at c.place_of.result c.requires.shape c.requires.written c.requires.named c.in-Some.ensures c.place_of.ensures
