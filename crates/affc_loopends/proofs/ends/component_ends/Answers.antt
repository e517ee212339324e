use Rattle.std.proofs.Common.{subst, ◌+◌}
use Rattle.std.specs.List.{All}
use Rattle.affc_system.specs.Systems.{IsRow}
use Rattle.affc_loopends.specs.Whys.{IsWhy}
use Rattle.affc_loopends.proofs.Both.{plus_one}
use Rattle.affc_loopends.proofs.Bounded.{all_projected, found_ends, system_widths}
use Rattle.affc_loopends.proofs.ends.component_ends.Goals as goal

pub returns-in-Ok : goal.returns-in-Ok
returns-in-Ok c =
    let h = rw c.in-Rows.is at c.in_ok-rows.ensures in
    found_ends c.args.system.now c.args.column (c.args.column + 1) c.requires.inside
    (system_widths c.args.system.now.columns c.args.system.now.rows (subst (All (IsRow c.args.system.now.columns)) c.rows-fit.ensures.rows c.rows-fit.ensures.fit)) (plus_one c.args.column)
    c.in-Rows.rows.items c.as_slice.result.now c.in-Rows.made.items h.0 h.1 c.as_slice.ensures.value c.args.ranges.now c.ranges-in-Rows.result.now c.in-Ok.lower.items c.in-Ok.upper.items c.ranges-in-Rows.ensures.ranges
    c.in-Ok.ensures.ok

pub returns-in-Err-Loose : goal.returns-in-Err-Loose
returns-in-Err-Loose c =
    let h = rw c.in-Rows.is at c.in_ok-rows.ensures in
    let stop = rw c.in-Err-Loose.field-0-is at c.in-Err-Loose.ensures.stop in
    subst (λ rs. IsWhy c.args.system.now c.args.column rs c.in-Err-Loose.why) c.ranges-in-Rows.ensures.ranges
    (stop c.args.system.now c.args.column (plus_one c.args.column)
    (all_projected c.args.system.now c.args.column (c.args.column + 1) c.requires.inside
    (system_widths c.args.system.now.columns c.args.system.now.rows (subst (All (IsRow c.args.system.now.columns)) c.rows-fit.ensures.rows c.rows-fit.ensures.fit)) (plus_one c.args.column)
    c.in-Rows.rows.items c.as_slice.result.now c.in-Rows.made.items h.0 h.1 c.as_slice.ensures.value))
