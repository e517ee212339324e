use Rattle.std.proofs.Common.{sym, subst}
use Rattle.affc_lex.specs.Lexes.{lexemes}
use Rattle.affc_plan.specs.Lines.{IsFew}
use Rattle.affc_plan.proofs.FewLaws.{plain_is_few}
use Rattle.affc_plan.proofs.StageLaws.{kept_tokens, right_draft, answers}
use Rattle.affc_plan.proofs.reading.read.Goals as goal

pub ruled-requires-clause-few : goal.ruled-requires-clause-few
ruled-requires-clause-few c = subst IsFew (sym c.in_ok-outline.ensures) (plain_is_few c.args.program.now c.requires.plain c.requires.counted)

pub planned-requires-clause-few : goal.planned-requires-clause-few
planned-requires-clause-few c = subst IsFew (sym c.in_ok-outline.ensures) (plain_is_few c.args.program.now c.requires.plain c.requires.counted)

pub planned-requires-clause-order : goal.planned-requires-clause-order
planned-requires-clause-order c =
    let text = c.args.text.now in
    let o = c.in_ok-outline.outline in
    let ts = c.in_ok-tokens.tokens.items in
    let d = c.in_ok-draft.draft in
    (right_draft text o (lexemes text ts) d (kept_tokens text o c.deref.result.now c.deref-2.result.now ts d c.deref.ensures.value c.in_ok-draft.ensures.draft c.deref-2.ensures.value c.in_ok-ruled.ensures.keeps)).0

pub planned-requires-clause-folds : goal.planned-requires-clause-folds
planned-requires-clause-folds c =
    let text = c.args.text.now in
    let o = c.in_ok-outline.outline in
    let ts = c.in_ok-tokens.tokens.items in
    let d = c.in_ok-draft.draft in
    (right_draft text o (lexemes text ts) d (kept_tokens text o c.deref.result.now c.deref-2.result.now ts d c.deref.ensures.value c.in_ok-draft.ensures.draft c.deref-2.ensures.value c.in_ok-ruled.ensures.keeps)).1

pub planned-requires-clause-lines : goal.planned-requires-clause-lines
planned-requires-clause-lines c =
    let text = c.args.text.now in
    let o = c.in_ok-outline.outline in
    let ts = c.in_ok-tokens.tokens.items in
    let d = c.in_ok-draft.draft in
    (right_draft text o (lexemes text ts) d (kept_tokens text o c.deref.result.now c.deref-2.result.now ts d c.deref.ensures.value c.in_ok-draft.ensures.draft c.deref-2.ensures.value c.in_ok-ruled.ensures.keeps)).2

pub returns : goal.returns
returns c =
    let text = c.args.text.now in
    let o = c.in_ok-outline.outline in
    let ts = c.in_ok-tokens.tokens.items in
    let d = c.in_ok-draft.draft in
    answers text c.args.program.now o c.in_ok-outline.ensures (lexemes text ts) d
    (kept_tokens text o c.deref.result.now c.deref-2.result.now ts d c.deref.ensures.value c.in_ok-draft.ensures.draft c.deref-2.ensures.value c.in_ok-ruled.ensures.keeps) c.planned.result c.planned.ensures.plan c.planned.ensures.fault
