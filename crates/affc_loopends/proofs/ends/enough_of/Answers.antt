use Rattle.std.proofs.Common.{◌-◌}
use Rattle.affc_farkas.proofs.Lists.{on_value, on_fault}
use Rattle.affc_loopends.specs.Steps.{AreEnough}
use Rattle.affc_loopends.proofs.Chosen.{found_end, found_one_end, found_large, found_few, found_printable}
use Rattle.affc_loopends.proofs.ends.enough_of.Goals as goal

pub large_among-requires : goal.large_among-requires
large_among-requires c = found_few c.args.lower (c.args.columns - 1) c.args.columns c.args.rows.now c.in-Ok.chosen.items c.as_slice.result.now c.requires.columns c.requires.widths c.in-Ok.ensures c.as_slice.ensures.value

pub returns-in-Some-clause-stop : goal.returns-in-Some-clause-stop
returns-in-Some-clause-stop c = λ system column width all.
    found_large system c.args.lower c.args.columns column c.args.ranges.now c.args.rows.now c.in-Ok.chosen.items c.as_slice.result.now c.in-Some.place c.in-Ok-clone.row c.index.result.now c.in-Ok.ensures c.as_slice.ensures.value
    c.in-Some.ensures.some.0 c.in-Some.ensures.some.1 c.in-Ok-clone.ensures.cases c.index.ensures all

pub narrowed-requires-clause-printable : goal.narrowed-requires-clause-printable
narrowed-requires-clause-printable c =
    found_printable c.args.lower (c.args.columns - 1) c.args.columns c.args.ranges.now c.args.rows.now c.in-Ok.chosen.items c.as_slice.result.now c.as_slice-2.result.now c.requires.widths c.in-Ok.ensures c.as_slice.ensures.value c.as_slice-2.ensures.value
    c.in_default-large_among.ensures.none

pub returns-clause-ok : goal.returns-clause-ok
returns-clause-ok c =
    on_value c.narrowed.result (λ v. AreEnough c.args.columns c.as_slice-2.result.now v.items) _
    (λ v h column width. found_end c.args.lower c.args.columns column c.args.ranges.now c.args.rows.now c.in-Ok.chosen.items c.as_slice.result.now c.as_slice-2.result.now v.items width c.in-Ok.ensures c.as_slice.ensures.value
    c.as_slice-2.ensures.value c.in_default-large_among.ensures.none h) c.narrowed.ensures.ok

pub returns-clause-stop : goal.returns-clause-stop
returns-clause-stop c =
    on_fault c.narrowed.result _ _
    (λ e h system column width all. h system column c.args.ranges.now width
    (found_one_end system c.args.lower c.args.columns column c.args.rows.now c.in-Ok.chosen.items c.as_slice-2.result.now width c.in-Ok.ensures c.as_slice-2.ensures.value all)) c.narrowed.ensures.stop
