use Rattle.std.proofs.Common.{take, sym, subst, ◌∙◌, ◌<◌}
use Rattle.std.proofs.lemmas.List.{length-take-le}
use Rattle.affc_lex.specs.Faults.{FirstFault}
use Rattle.affc_plan.proofs.FrontLaws.{no_byte, no_number, one_less}
use Rattle.affc_plan.proofs.ShorterTexts.{open_within, none_inside}
use Rattle.affc_plan.proofs.front.lexed.Goals as goal

pub returns-in-Err-OpenComment : goal.returns-in-Err-OpenComment
returns-in-Err-OpenComment c =
    let text = c.args.text.now in
    let opens = (subst (FirstFault (take c.args.to text)) c.in-Err-OpenComment.field-0-is c.in-Err-OpenComment.ensures.fault).0 in (
      subst (λ n. c.in-Err-OpenComment.at < n) (length-take-le c.args.to text c.requires.within) (open_within (take c.args.to text) c.in-Err-OpenComment.at opens),
      λ n ts lt le x. none_inside text c.args.to c.in-Err-OpenComment.at n opens lt le ts x,
    )

pub returns-in-Err-BadByte : goal.returns-in-Err-BadByte
returns-in-Err-BadByte c = one_less c.args.text.now c.args.to c.requires.some (λ ts h. no_byte _ (sym c.in-Err-BadByte.field-0-is ∙ c.in-Err-BadByte.ensures.only ts h))

pub returns-in-Err-LongNumber : goal.returns-in-Err-LongNumber
returns-in-Err-LongNumber c = one_less c.args.text.now c.args.to c.requires.some (λ ts h. no_number _ (sym c.in-Err-LongNumber.field-0-is ∙ c.in-Err-LongNumber.ensures.only ts h))
