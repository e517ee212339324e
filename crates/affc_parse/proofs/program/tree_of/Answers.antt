use Rattle.std.proofs.Common.{Err, sym, subst, ap, ◌∙◌}
use Rattle.affc_lex.specs.Lexes.{lexemes}
use Rattle.affc_syntax.specs.draft.Drafts as drafts
use Rattle.affc_grammar.specs.Reads.{place_of}
use Rattle.affc_names.specs.Answers.{Answers as Named}
use Rattle.affc_parse.specs.Answers.{Answers}
use Rattle.affc_parse.specs.declared.fault.ParseFault.TheVariants.{Name}
use Rattle.affc_parse.proofs.Joined.{name_answer}
use Rattle.affc_parse.proofs.program.tree_of.Goals as goal

pub returns-in-Err-Refused : goal.returns-in-Err-Refused
returns-in-Err-Refused c =
    subst (λ why. Answers c.args.text.now (Err (Name c.place_of.result why))) (sym c.in-Err-Refused.why-is)
    (name_answer c.args.text.now (lexemes c.args.text.now c.args.tokens.now) (drafts.text c.args.draft.now) c.in-Err-Refused.at c.place_of.result c.in-Err-Refused.why c.requires.shape c.requires.written
    (subst (λ f. Named (Err f) (drafts.text c.args.draft.now)) c.in-Err-Refused.field-0-is c.in-Err-Refused.ensures)
    (c.place_of.ensures ∙ ap (place_of c.args.text.now (lexemes c.args.text.now c.args.tokens.now)) c.in-Err-Refused.at-is))
