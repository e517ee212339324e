use Rattle.std.proofs.Common.{◌≡◌, rules, sym, ap, subst, ◌∙◌, FitsSigned, w64}
use Rattle.std.specs.Int.{w128}
use Rattle.std.proofs.lemmas.Int.{to_z-of_z}
use Rattle.std.proofs.lemmas.Result.{IfOk-weaker}
use Rattle.affc_nest.specs.Domains.{number_form}
use Rattle.affc_nest.specs.Wide.{IsWide}
use Rattle.affc_questions.proofs.SizeLemmas.{word_wide}
use Rattle.affc_questions.proofs.rows.word.Goals as goal

pub returns-clause-wide : goal.returns-clause-wide
returns-clause-wide c =
    let n = c.args.columns in
    let word : FitsSigned w64 c.args.n = c.ranges.n in
    let fit : FitsSigned w128 c.from.result = search rules in
    let same : c.from.result ≡ c.args.n = search rules in
    IfOk-weaker c.number.result _ (IsWide n)
    (λ f e. subst (IsWide n) (sym (e ∙ ap (number_form n) (to_z-of_z w128 c.from.result fit ∙ same))) (word_wide n c.args.n word)) c.number.ensures.value
