use Rattle.std.proofs.Common.{rules, IsTrue, ◌++◌, ◌∷◌, [], ◌∙◌, sym}
use Rattle.affc_products.proofs.ChoiceLemmas.{none_within, no_question, kept_within, past_unkept}
use Rattle.affc_products.proofs.block.Block.of.Goals as goal

pub returns-then-not-has_choice-clause-same : goal.returns-then-not-has_choice-clause-same
returns-then-not-has_choice-clause-same c =
    let n : ¬ (IsTrue c.has_choice.result) = search rules in
    let e = rw c.as_slice.ensures at c.has_choice.ensures in
    c.no_questions.ensures ∙ sym (no_question c.args.columns c.args.front.now (c.args.factors.now ++ c.args.tails ∷ []) (λ h. n (e.1 h)))

pub returns-then-not-has_choice-clause-within : goal.returns-then-not-has_choice-clause-within
returns-then-not-has_choice-clause-within c =
    let n : ¬ (IsTrue c.has_choice.result) = search rules in
    let e = rw c.as_slice.ensures at c.has_choice.ensures in
    none_within c.args.columns c.args.front.now (c.args.factors.now ++ c.args.tails ∷ []) (λ h. n (e.1 h))

pub returns-clause-within : goal.returns-clause-within
returns-clause-within c =
    let t : IsTrue c.keep.result = search rules in
    let e = rw c.as_slice-2.ensures at c.keep.ensures in
    kept_within c.args.columns c.args.front.now c.args.factors.now c.args.tails (e.0 t)

pub returns-then-not-keep-clause-past : goal.returns-then-not-keep-clause-past
returns-then-not-keep-clause-past c =
    let t : IsTrue c.has_choice.result = search rules in
    let n : ¬ (IsTrue c.keep.result) = search rules in
    let e = rw c.as_slice.ensures at c.has_choice.ensures in
    let f = rw c.as_slice-2.ensures at c.keep.ensures in
    past_unkept c.args.columns c.args.front.now c.args.factors.now c.args.tails (e.0 t) (λ k. n (f.1 k))
