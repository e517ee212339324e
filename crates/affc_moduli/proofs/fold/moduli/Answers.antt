use Rattle.std.proofs.Common.{◌≡◌, ◌<◌, length, sym, subst}
use Rattle.std.specs.Prelude.{IfOk}
use Rattle.std.proofs.lemmas.Option.{slice_get_within}
use Rattle.affc_conflicts.specs.Conditions.{IsConflict}
use Rattle.affc_conflicts.proofs.Decided.{all_at}
use Rattle.affc_moduli.specs.Slices.{AreSlices}
use Rattle.affc_moduli.specs.Rows.{AreKept}
use Rattle.affc_moduli.proofs.Covers.{some_at}
use Rattle.affc_moduli.proofs.Narrowed.{begun}
use Rattle.affc_moduli.proofs.Whole.{limits, obeys, admissible}
use Rattle.affc_moduli.proofs.Results.{both}
use Rattle.affc_moduli.proofs.fold.moduli.Goals as goal

pub all_rows-requires-clause-slices : goal.all_rows-requires-clause-slices
all_rows-requires-clause-slices c =
    let slices = begun c.args.context.now c.args.ranges.now c.as_slice-rows.result.now c.args.extents.now c.args.pairs.now c.in-Ok.regions.items
    (all_at (IsConflict c.args.context.now c.args.ranges.now c.args.extents.now) c.args.pairs.now c.requires.conflicts) c.in-Ok.ensures in
    subst (AreSlices c.args.context.now c.args.ranges.now c.as_slice-rows.result.now 0 c.args.pairs.now) (sym c.as_mut_slice.ensures.value) slices

pub returns-clause-limits : goal.returns-clause-limits
returns-clause-limits c =
    let done = subst (λ rs. IfOk c.all_rows.result (λ ms. AreKept c.args.context.now c.args.ranges.now c.args.pairs.now rs ms)) c.as_slice-rows.ensures c.all_rows.ensures.kept in
    let each = subst (λ rs. IfOk c.all_rows.result (λ ms. length ms ≡ length rs)) c.as_slice-rows.ensures c.all_rows.ensures.one_each in
    both _ _ _ c.all_rows.result (λ ms d e. limits c.args.context.now c.args.ranges.now c.args.basis.now.rows c.args.extents.now c.args.pairs.now ms d e) done each

pub returns-clause-obeys : goal.returns-clause-obeys
returns-clause-obeys c =
    let done = subst (λ rs. IfOk c.all_rows.result (λ ms. AreKept c.args.context.now c.args.ranges.now c.args.pairs.now rs ms)) c.as_slice-rows.ensures c.all_rows.ensures.kept in
    let each = subst (λ rs. IfOk c.all_rows.result (λ ms. length ms ≡ length rs)) c.as_slice-rows.ensures c.all_rows.ensures.one_each in
    both _ _ _ c.all_rows.result (λ ms d e. λ p here. obeys c.args.context.now c.args.ranges.now c.args.basis.now.rows c.args.extents.now c.args.pairs.now ms d e p here) done each

pub returns-clause-admissible : goal.returns-clause-admissible
returns-clause-admissible c =
    let done = subst (λ rs. IfOk c.all_rows.result (λ ms. AreKept c.args.context.now c.args.ranges.now c.args.pairs.now rs ms)) c.as_slice-rows.ensures c.all_rows.ensures.kept in
    let each = subst (λ rs. IfOk c.all_rows.result (λ ms. length ms ≡ length rs)) c.as_slice-rows.ensures c.all_rows.ensures.one_each in
    both _ _ _ c.all_rows.result
    (λ ms d e. λ p here. admissible c.args.context.now c.args.ranges.now c.args.extents.now c.args.basis.now c.args.pairs.now ms d e c.requires.conflicts c.requires.dimensions p here) done each

pub returns-clause-marks : goal.returns-clause-marks
returns-clause-marks c =
    let done = subst (λ rs. IfOk c.all_rows.result (λ ms. AreKept c.args.context.now c.args.ranges.now c.args.pairs.now rs ms)) c.as_slice-rows.ensures c.all_rows.ensures.kept in
    both _ _ _ c.all_rows.result (λ ms d e. λ k row m a b. (d k row m a b).mark) done done

pub returns-clause-flat : goal.returns-clause-flat
returns-clause-flat c =
    let rows = c.args.basis.now.rows in
    let done = subst (λ rs. IfOk c.all_rows.result (λ ms. AreKept c.args.context.now c.args.ranges.now c.args.pairs.now rs ms)) c.as_slice-rows.ensures c.all_rows.ensures.kept in
    let each = subst (λ rs. IfOk c.all_rows.result (λ ms. length ms ≡ length rs)) c.as_slice-rows.ensures c.all_rows.ensures.one_each in
    both _ _ _ c.all_rows.result
    (λ ms d e. λ k m at is.
    let row = some_at rows k (subst (λ n. k < n) e (slice_get_within ms k m at)) in
    (d k row.0 m row.1 at).flat is) done each
