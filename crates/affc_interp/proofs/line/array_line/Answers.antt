use Rattle.std.proofs.Common.{arith, Fits, w64, rules}
use Rattle.affc_interp.proofs.DataLines.{no_array_end, array_here, as_many}
use Rattle.affc_interp.proofs.line.array_line.Goals as goal

pub returns-in-Some-counted_end : goal.returns-in-Some-counted_end
returns-in-Some-counted_end c m w =
    array_here c.args.name.now c.args.text.now c.in-Some.spaced.now c.in-Some.ensures c.in_ok-values.values.items c.in_ok-values.behind.now c.in_ok-values.ensures c.args.count c.len.result c.in-Some-counted_end.rest.now
    (as_many c.in_ok-values.values c.len.result c.len.ensures) c.in-Some-counted_end.ensures.0 c.in-Some-counted_end.ensures.1 m w

pub returns : goal.returns
returns c m w =
    let f : Fits w64 c.len.result = search rules in
    no_array_end c.args.name.now c.args.text.now c.in-Some.spaced.now c.in-Some.ensures c.in_ok-values.values.items c.in_ok-values.behind.now c.in_ok-values.ensures c.args.count c.len.result
    (as_many c.in_ok-values.values c.len.result c.len.ensures) (omega arith) c.in-None.ensures m w
