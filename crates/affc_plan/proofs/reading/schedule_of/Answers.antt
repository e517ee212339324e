use Rattle.std.proofs.Common.{map, refl, sym, subst}
use Rattle.affc_trace.specs.declared.schedule.Schedule.TheVariants as schedule
use Rattle.affc_schedtext.specs.Answers.{AreMapsOfLines, IsScheduleOfOrder}
use Rattle.affc_schedtext.specs.Seen.{line_seen, order_seen}
use Rattle.affc_plan.specs.Maps.{IsRightOrder}
use Rattle.affc_plan.specs.Times.{AreRightTimes}
use Rattle.affc_plan.proofs.StageLaws.{right_times}
use Rattle.affc_plan.proofs.reading.schedule_of.Goals as goal

pub maps-requires-clause-right : goal.maps-requires-clause-right
maps-requires-clause-right c =
    let o = c.args.outline.now in
    let right = subst (λ d. IsRightOrder o (order_seen d)) c.in-Time.is c.requires.right in
    subst (AreRightTimes o c.in-Time.length) (sym c.as_slice.ensures) (right_times o c.in-Time.length c.in-Time.lines right.2)

pub returns-in_ok-maps-in-Time-clause-schedule : goal.returns-in_ok-maps-in-Time-clause-schedule
returns-in_ok-maps-in-Time-clause-schedule c =
    let o = c.args.outline.now in
    let n = c.in-Time.length in
    let maps = c.in_ok-maps-in-Time.maps in
    subst (λ d. IsScheduleOfOrder o (order_seen d) (schedule.Time n maps)) (sym c.in-Time.is)
    (refl, subst (λ ls. AreMapsOfLines o n (map line_seen ls) maps) c.as_slice.ensures c.in_ok-maps-in-Time.ensures.maps)
