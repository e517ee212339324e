use Rattle.std.proofs.Common.{sym, ap, ◌∙◌, subst}
use Rattle.affc_lex.specs.Faults.{FirstFault}
use Rattle.affc_lex.specs.Cutting.{earlier}
use Rattle.affc_lex.proofs.Exact.{refused_first, lexes_from, first_fault}
use Rattle.affc_lex.proofs.read_text.Goals as goal

pub returns-in-Some-clause-fault : goal.returns-in-Some-clause-fault
returns-in-Some-clause-fault c = refused_first c.args.text.now c.in-Some.at c.in-Ok.ensures.whole (sym c.first_refused-refused.ensures ∙ c.in-Some.is)

pub returns-in-None-clause-tokens : goal.returns-in-None-clause-tokens
returns-in-None-clause-tokens c =
    lexes_from c.args.text.now c.in-Ok.tokens.items c.drop_scop_lines.new.tokens.items c.in-Ok.ensures (sym c.first_refused-refused.ensures ∙ c.in-None.is) c.drop_scop_lines.ensures.tokens

pub returns-in-Err-clause-fault : goal.returns-in-Err-clause-fault
returns-in-Err-clause-fault c =
    subst (FirstFault c.args.text.now) (sym (c.first_of.ensures ∙ ap (earlier c.in-Err.fault) c.first_refused-refused.ensures)) (first_fault c.args.text.now c.in-Err.fault c.in-Err.ensures)
