use Rattle.std.proofs.Common.{◌≡◌, ◌+◌, ℕ, List, [], ◌∷◌, ap, ◌∙◌}
use Rattle.std.proofs.lemmas.Result.{IfOk-weaker}
use Rattle.affc_ast.specs.declared.tree.Compare.{Compare}
use Rattle.affc_loops.specs.Loops.{box_tests, time_tests, if_any, guarded, moved_assign}
use Rattle.affc_nest.specs.Frames.{all_seen}
use Rattle.affc_nest.specs.Sites.{place}
use Rattle.affc_scan.proofs.BlockSteps.{tested_is}
use Rattle.affc_scan.proofs.blocks.tested.Goals as goal

pub returns : goal.returns
returns c =
    let m : ℕ = c.args.first in
    let from : ℕ = c.args.first + c.args.more in
    let boxes : List Compare = box_tests from c.args.ranges.now in
    let times : List Compare = time_tests m from m c.args.forms.now in
    let inner : c.in_ok-body-2.body ≡ guarded m c.args.more from (all_seen c.args.site.now.frames.items) (moved_assign m c.args.more (place c.args.site.now).assignment ∷ []) =
    c.in_ok-body-2.ensures ∙ ap (λ fs. guarded m c.args.more from (all_seen fs) c.in_ok-body.body) c.as_slice.ensures.value
    ∙ ap (guarded m c.args.more from (all_seen c.args.site.now.frames.items)) (c.in_ok-body.ensures ∙ ap (λ s. s ∷ []) c.in_ok-statement.ensures) in
    IfOk-weaker c.under-2.result _ _
    (λ x e.
    tested_is boxes times c.in_ok-boxed.boxed c.in_ok-timed.timed c.new.result c.new-2.result c.in_ok-body-2.body c.in_ok-body-3.body x c.in_ok-boxed.ensures c.new-2.ensures c.in_ok-timed.ensures c.new.ensures c.in_ok-body-3.ensures e
    ∙ ap (λ y. if_any boxes (if_any times y)) inner)
    c.under-2.ensures
