use Rattle.std.proofs.Common.{◌≡◌, ◌+◌, length, refl, ap, sym, subst, arith, ◌∙◌}
use Rattle.std.proofs.lemmas.Result.{err_from_is_err_and, IfOk-weaker, IfErr-weaker}
use Rattle.affc_order.proofs.CodeLemmas.{is_nest}
use Rattle.affc_sched.specs.Touched.{Each}
use Rattle.affc_quast.specs.Seen.{trees_of}
use Rattle.affc_quast.specs.declared.quast.Flow.{Flow}
use Rattle.affc_check.specs.Looked.{PartsLooked, FoldsLooked}
use Rattle.affc_check.specs.declared.checks.Looked.TheVariants.{Holding}
use Rattle.affc_check.specs.list.Limits.{AnyPasses}
use Rattle.affc_check.specs.list.Listed.{IsFirstPart}
use Rattle.affc_check.specs.list.Passes.{FoldPasses, items_by_tree}
use Rattle.affc_check.specs.list.Walks.{IsFoldAsked}
use Rattle.affc_check.proofs.AllLemmas.{all_looked}
use Rattle.affc_check.proofs.list.ListingLemmas.{folds_asked, tree_is_first, fold_is_first}
use Rattle.affc_check.proofs.looks.look_items.Goals as goal

pub look_bounds-requires : goal.look_bounds-requires
look_bounds-requires c = is_nest c.args.of.now.nest.now c.args.of.now.schedule.now c.requires.setting.asked.scheduled

pub look_parts-requires-clause-nested : goal.look_parts-requires-clause-nested
look_parts-requires-clause-nested c = is_nest c.args.of.now.nest.now c.args.of.now.schedule.now c.requires.setting.asked.scheduled

pub look_folds-requires-clause-folds : goal.look_folds-requires-clause-folds
look_folds-requires-clause-folds c =
    let nest = c.args.of.now.nest.now in
    subst (λ (f : Flow). Each (IsFoldAsked nest (trees_of f)) c.as_slice-folds.result.now) (sym c.requires.flow)
    (folds_asked nest c.args.cert.now c.as_slice-folds.result.now c.requires.certificate c.as_slice-folds.ensures)

pub returns-in_err-trees-clause-past : goal.returns-in_err-trees-clause-past
returns-in_err-trees-clause-past c =
    let nest = c.args.of.now.nest.now in
    let is = c.requires.setting.parts.said ∙ ap (λ (f : Flow). items_by_tree nest (trees_of f)) c.requires.flow in
    let p = err_from_is_err_and c.from_residual-in_err-trees.result c.from_residual-in_err-trees.ensures.1 in
    rw (p.1, p.2) (λ n e. tree_is_first nest c.args.of.now.schedule.now c.args.cert.now n (subst (λ xs. IsFirstPart AnyPasses 1 xs n) is (c.in_err-trees.ensures.past n e)))

pub returns-clause-past : goal.returns-clause-past
returns-clause-past c =
    let nest = c.args.of.now.nest.now in
    let schedule = c.args.of.now.schedule.now in
    let cert = c.args.cert.now in
    let is = c.requires.setting.parts.said ∙ ap (λ (f : Flow). items_by_tree nest (trees_of f)) c.requires.flow in
    let many : c.len.result ≡ length cert.flow.trees = c.len.ensures in
    let first : c.in-Some.first ≡ length cert.flow.trees + 1 = omega (arith, many, c.in-Some.ensures) in
    let none = (subst (PartsLooked c.in_ok-bounds.bounds c.in_ok-trees.trees) is c.in_ok-trees.ensures.ok).within in
    IfErr-weaker c.look_folds.result _ _
    (λ e h n q. fold_is_first nest schedule cert c.as_slice-folds.result.now c.in-Some.first n c.as_slice-folds.ensures first none
    (subst (λ (f : Flow). IsFirstPart (FoldPasses nest schedule (trees_of f)) c.in-Some.first c.as_slice-folds.result.now n) c.requires.flow (h n q))) c.look_folds.ensures.past

pub returns-clause-ok : goal.returns-clause-ok
returns-clause-ok c =
    let nest = c.args.of.now.nest.now in
    let schedule = c.args.of.now.schedule.now in
    let is = c.requires.setting.parts.said ∙ ap (λ (f : Flow). items_by_tree nest (trees_of f)) c.requires.flow in
    IfOk-weaker c.look_folds.result _ _
    (λ new h. all_looked nest schedule c.args.cert.now c.as_slice-2.result.now c.as_slice-folds.result.now c.as_slice-2.ensures c.as_slice-folds.ensures
    (Holding c.as_slice.result 0) c.in_ok-bounds.bounds c.in_ok-trees.trees c.in_ok-legal.legal new (c.as_slice.ensures, refl) c.in_ok-bounds.ensures (subst (PartsLooked c.in_ok-bounds.bounds c.in_ok-trees.trees) is c.in_ok-trees.ensures.ok)
    c.in_ok-legal.ensures (subst (λ (f : Flow). FoldsLooked nest schedule (trees_of f) c.as_slice-folds.result.now c.in_ok-legal.legal new) c.requires.flow h)) c.look_folds.ensures.ok
