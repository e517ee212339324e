use Rattle.std.proofs.Common.{List, sym, ap, subst, ◌∙◌}
use Rattle.std.proofs.lemmas.Result.{IfOk-weaker}
use Rattle.affc_sched.specs.Touched.{Each}
use Rattle.affc_questions.specs.Asked.{IsAlong}
use Rattle.affc_life.specs.declared.clash.ClashProduct.{ClashProduct}
use Rattle.affc_check.specs.Made.{IsMarkFit, MarkFits}
use Rattle.affc_check.specs.Walked.{StandsFor, clashes_in}
use Rattle.affc_check.specs.list.Certs.{least_said}
use Rattle.affc_check.specs.list.Items.{mark_of}
use Rattle.affc_check.specs.list.Walks.{clash_systems}
use Rattle.affc_check.proofs.KeptLemmas.{same_mark_of, mark_fits}
use Rattle.affc_check.proofs.WalkedLemmas.{each_along}
use Rattle.affc_check.proofs.made.mark_said.Goals as goal

pub mark-requires-clause-along : goal.mark-requires-clause-along
mark-requires-clause-along c =
    let a = c.args.along.now in
    let cs = clashes_in c.args.of.now c.args.array in
    let kept = c.in_ok-kept-in-Some.kept in
    let same = c.in_ok-kept-in-Some.ensures cs (subst (λ o. StandsFor o c.in_ok-sought-in-Some.sought cs) c.in-Some.is c.in_ok-sought-in-Some.ensures) in
    subst (λ (ps : List ClashProduct). Each (IsAlong a.rows.now a.row.now a.modulus.now) (clash_systems ps)) (sym c.as_slice.ensures.value)
    (each_along a.rows.now a.row.now a.modulus.now (clash_systems kept.products.items) (λ s i. c.requires.along s (same.among s i)))

pub mark-requires-clause-fits : goal.mark-requires-clause-fits
mark-requires-clause-fits c =
    let cs = clashes_in c.args.of.now c.args.array in
    let kept = c.in_ok-kept-in-Some.kept in
    let same = c.in_ok-kept-in-Some.ensures cs (subst (λ o. StandsFor o c.in_ok-sought-in-Some.sought cs) c.in-Some.is c.in_ok-sought-in-Some.ensures) in
    subst (λ (ps : List ClashProduct). IsMarkFit (clash_systems ps) (least_said kept.least)) (sym c.as_slice.ensures.value)
    (mark_fits cs c.in-Some.shown kept same (subst (λ o. MarkFits cs (least_said o)) c.in-Some.is c.requires.fit))

pub returns-in-None : goal.returns-in-None
returns-in-None c = λ ss e. ap (λ o. mark_of ss c.args.along.now.row.now (least_said o)) (sym c.in-None.is)

pub returns-in_ok-kept-in-Some : goal.returns-in_ok-kept-in-Some
returns-in_ok-kept-in-Some c =
    let row = c.args.along.now.row.now in
    let cs = clashes_in c.args.of.now c.args.array in
    let kept = c.in_ok-kept-in-Some.kept in
    let same = c.in_ok-kept-in-Some.ensures cs (subst (λ o. StandsFor o c.in_ok-sought-in-Some.sought cs) c.in-Some.is c.in_ok-sought-in-Some.ensures) in
    IfOk-weaker c.mark.result _ _
    (λ m h ss e. h ∙ ap (λ (ps : List ClashProduct). mark_of (clash_systems ps) row (least_said kept.least)) c.as_slice.ensures.value ∙ same_mark_of row cs ss e c.in-Some.shown kept same
    ∙ ap (λ o. mark_of ss row (least_said o)) (sym c.in-Some.is)) c.mark.ensures
