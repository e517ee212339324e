use Rattle.std.proofs.Common.{◌-◌, true, false}
use Rattle.affc_loopends.proofs.Remaining.{end_few, end_printed, flat_printed, found_left}
use Rattle.affc_loopends.proofs.ends.both_ends.Goals as goal

pub left_of_both-requires-clause-few_lower : goal.left_of_both-requires-clause-few_lower
left_of_both-requires-clause-few_lower c = end_few true c.args.columns c.args.ranges.now c.args.rows.now c.in_ok-lower.lower.items c.requires.some c.in_ok-lower.ensures.ok

pub left_of_both-requires-clause-few_upper : goal.left_of_both-requires-clause-few_upper
left_of_both-requires-clause-few_upper c = end_few false c.args.columns c.args.ranges.now c.args.rows.now c.in_ok-upper.upper.items c.requires.some c.in_ok-upper.ensures.ok

pub left_of_both-requires-clause-lower : goal.left_of_both-requires-clause-lower
left_of_both-requires-clause-lower c =
    end_printed true c.args.columns c.args.ranges.now c.args.rows.now c.in_ok-lower.lower.items c.requires.some c.requires.widths c.in_ok-lower.ensures.ok

pub left_of_both-requires-clause-upper : goal.left_of_both-requires-clause-upper
left_of_both-requires-clause-upper c =
    end_printed false c.args.columns c.args.ranges.now c.args.rows.now c.in_ok-upper.upper.items c.requires.some c.requires.widths c.in_ok-upper.ensures.ok

pub left_of_both-requires-clause-flat : goal.left_of_both-requires-clause-flat
left_of_both-requires-clause-flat c =
    flat_printed c.args.columns (c.args.columns - 1) c.args.ranges.now c.args.rows.now c.in-Ok.flat.items c.as_slice.result.now c.requires.widths c.in-Ok.ensures c.as_slice.ensures.value

pub returns-clause-ok : goal.returns-clause-ok
returns-clause-ok c =
    found_left c.args.columns c.args.ranges.now c.args.rows.now c.in_ok-lower.lower.items c.in_ok-upper.upper.items c.in-Ok.flat.items c.as_slice.result.now c.in-Ok-left_of_both.ends.0.items c.in-Ok-left_of_both.ends.1.items
    c.in_ok-lower.ensures.ok c.in_ok-upper.ensures.ok c.in-Ok.ensures c.as_slice.ensures.value c.in-Ok-left_of_both.ensures.lower c.in-Ok-left_of_both.ensures.upper
