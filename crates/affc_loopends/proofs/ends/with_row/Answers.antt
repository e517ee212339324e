use Rattle.std.proofs.Common.{subst, sym, ◌∙◌, arith}
use Rattle.affc_loopends.specs.Whys.{AreOfOneEnd}
use Rattle.affc_loopends.proofs.Chosen.{few_enough, found_enough}
use Rattle.affc_loopends.proofs.ends.with_row.Goals as goal

pub returns-then-len-le-MOST_ROWS-clause-ok : goal.returns-then-len-le-MOST_ROWS-clause-ok
returns-then-len-le-MOST_ROWS-clause-ok c =
    few_enough c.args.columns _ c.push.new.self.items c.in-Ok.ensures.items (omega (arith, c.push.new.self.ok, c.len.ensures, c.if-len-le-MOST_ROWS.true))

pub returns-in-Ok-Some-clause-ok : goal.returns-in-Ok-Some-clause-ok
returns-in-Ok-Some-clause-ok c =
    let h = rw c.in-Ok-Some.field-0-is at c.in-Ok-Some.ensures.some in
    found_enough c.args.columns c.args.kept.items c.push.new.self.items c.as_slice.result.now c.remove.new.self.items c.args.row c.in-Ok-Some.place c.in-Ok.ensures.items c.as_slice.ensures.value c.requires.few
    (omega (arith, c.push.new.self.ok, c.len.ensures, c.if-len-le-MOST_ROWS.false)) h.0 c.remove.ensures.items h.1

pub returns-in-Err-clause-stop : goal.returns-in-Err-clause-stop
returns-in-Err-clause-stop c = λ system column ranges width ends.
    c.in-Err.ensures.stop system column ranges width (subst (AreOfOneEnd system column) (sym (c.as_slice.ensures.value ∙ c.in-Ok.ensures.items)) ends)
