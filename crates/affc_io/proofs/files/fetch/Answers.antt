use Rattle.affc_io.proofs.Held.{found_at, copied_holds}
use Rattle.affc_io.proofs.files.fetch.Goals as goal

pub returns-in-Some-clause-ok : goal.returns-in-Some-clause-ok
returns-in-Some-clause-ok c =
    let h = found_at _ _ _ _ _ c.in-Some.ensures.found c.deref.ensures.value
    in copied_holds c.bounded_copy.result c.args.files.now c.args.name.now c.deref.result.now 67108864 h c.bounded_copy.ensures.ok

pub returns-in-Some-clause-long : goal.returns-in-Some-clause-long
returns-in-Some-clause-long c = λ l.
    (c.deref.result.now, (found_at _ _ _ _ _ c.in-Some.ensures.found c.deref.ensures.value, c.bounded_copy.ensures.long l))
