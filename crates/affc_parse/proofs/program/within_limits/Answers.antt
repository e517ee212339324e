use Rattle.std.proofs.Common.{◌≡◌, subst}
use Rattle.affc_lex.specs.Lexes.{lexemes}
use Rattle.std.specs.Option.{option_map}
use Rattle.affc_syntax.specs.draft.Drafts as drafts
use Rattle.affc_syntax.specs.draft.Symbols.{passed_seen}
use Rattle.affc_grammar.specs.Limits.{limits_of, least, passed}
use Rattle.affc_parse.proofs.Joined.{tree_answer, limit_answer}
use Rattle.affc_parse.proofs.program.within_limits.Goals as goal

pub returns-in-None : goal.returns-in-None
returns-in-None c =
    tree_answer c.args.text.now (lexemes c.args.text.now c.args.tokens.now) (drafts.text c.args.draft.now) c.args.tree c.args.prelude c.requires.shape c.requires.limits c.requires.written c.requires.named c.requires.affine
    (subst (λ o. option_map passed_seen o ≡ least (passed (limits_of c.args.prelude) (drafts.text c.args.draft.now))) c.in-None.is c.in_ok-limit_fault.ensures)

pub returns-in-Some : goal.returns-in-Some
returns-in-Some c =
    limit_answer c.args.text.now (lexemes c.args.text.now c.args.tokens.now) (drafts.text c.args.draft.now) c.args.tree c.args.prelude c.in-Some.passed c.place_of.result c.requires.shape c.requires.limits c.requires.written c.requires.named c.requires.affine
    (subst (λ o. option_map passed_seen o ≡ least (passed (limits_of c.args.prelude) (drafts.text c.args.draft.now))) c.in-Some.is c.in_ok-limit_fault.ensures) c.place_of.ensures
