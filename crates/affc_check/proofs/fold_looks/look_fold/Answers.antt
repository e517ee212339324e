use Rattle.std.proofs.Common.{List, [], map, sym, ap, subst, inl, inr, ◌∙◌}
use Rattle.std.proofs.lemmas.Result.{err_from_is_err_and, IfOk-weaker, IfErr-weaker}
use Rattle.affc_rows.specs.Forms.{Affine}
use Rattle.affc_quast.specs.Seen.{trees_of}
use Rattle.affc_certvalue.specs.declared.fold.fold.CertModulus.{CertModulus}
use Rattle.affc_check.specs.Looked.{AreLooked}
use Rattle.affc_check.specs.Walked.{AreRowsAlong, clashes_in}
use Rattle.affc_check.specs.list.Certs.{modulus_said}
use Rattle.affc_check.specs.list.Items.{rows_items, fold_items}
use Rattle.affc_check.specs.list.Limits.{AnyPasses}
use Rattle.affc_check.specs.list.Walks.{fold_shown}
use Rattle.affc_check.proofs.FoldLookLemmas.{fold_looked}
use Rattle.affc_check.proofs.LookLemmas.{looked_twice}
use Rattle.affc_check.proofs.list.FoldLemmas.{clashes_asked, fold_past, fold_is_said}
use Rattle.affc_check.proofs.fold_looks.look_fold.Goals as goal

pub returns-in_err-walked-clause-past : goal.returns-in_err-walked-clause-past
returns-in_err-walked-clause-past c =
    let p = err_from_is_err_and c.from_residual.result c.from_residual.ensures.1 in
    rw (p.1, p.2) (λ l. elim (c.in_err-walked.ensures.past l) [ inl large ↦ inl large | inr passes ↦ absurd passes.there ])

pub look_rows-requires-clause-fits : goal.look_rows-requires-clause-fits
look_rows-requires-clause-fits c = c.in_ok-walked.ensures.ok.fits

pub look_rows-requires-clause-asked : goal.look_rows-requires-clause-asked
look_rows-requires-clause-asked c =
    let of = c.args.of.now in
    let fold = c.args.fold.now in
    let cs = clashes_in of fold.array in
    subst (λ (r : List Affine). AreRowsAlong of.nest.now cs r r c.as_slice-moduli.result.now) (sym c.as_slice-rows.ensures)
    (subst (λ (ms : List CertModulus). AreRowsAlong of.nest.now cs fold.basis.rows fold.basis.rows ms) (sym c.as_slice-moduli.ensures)
    (clashes_asked of.nest.now of.schedule.now (trees_of of.flow.now) fold c.requires.setting.asked c.requires.fold))

pub returns-clause-ok : goal.returns-clause-ok
returns-clause-ok c =
    let of = c.args.of.now in
    let fold = c.args.fold.now in
    let walked = c.in_ok-walked.ensures.ok in
    let ss = walked.systems in
    let is = ap (λ (r : List Affine). rows_items of.nest.now ss r 0 r (map modulus_said c.as_slice-moduli.result.now)) c.as_slice-rows.ensures
    ∙ ap (λ (ms : List CertModulus). rows_items of.nest.now ss fold.basis.rows 0 fold.basis.rows (map modulus_said ms)) c.as_slice-moduli.ensures in
    IfOk-weaker c.look_rows.result _ _
    (λ new h. fold_looked of.nest.now of.schedule.now (trees_of of.flow.now) fold ss c.args.looked new walked.are walked.fits
    (looked_twice c.args.looked c.in_ok-walked.walked.looked new [] (fold_items of.nest.now (fold_shown fold ss)) walked.looked
    (subst (AreLooked c.in_ok-walked.walked.looked new) is (h ss walked.are)))) c.look_rows.ensures.ok

pub returns-clause-past : goal.returns-clause-past
returns-clause-past c =
    let of = c.args.of.now in
    let fold = c.args.fold.now in
    let trees = trees_of of.flow.now in
    let walked = c.in_ok-walked.ensures.ok in
    let ss = walked.systems in
    let is = ap (λ (r : List Affine). rows_items of.nest.now ss r 0 r (map modulus_said c.as_slice-moduli.result.now)) c.as_slice-rows.ensures
    ∙ ap (λ (ms : List CertModulus). rows_items of.nest.now ss fold.basis.rows 0 fold.basis.rows (map modulus_said ms)) c.as_slice-moduli.ensures in
    IfErr-weaker c.look_rows.result _ _
    (λ e h l. fold_past of.nest.now of.schedule.now trees fold (fold_shown fold ss) (fold_is_said of.nest.now of.schedule.now trees fold ss walked.are) (subst AnyPasses is (h l ss walked.are))) c.look_rows.ensures.past
