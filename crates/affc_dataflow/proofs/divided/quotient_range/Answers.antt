use Rattle.std.proofs.Common.{rules}
use Rattle.std.specs.Prelude.{FitsSigned}
use Rattle.std.specs.Int.{w64, w128}
use Rattle.std.proofs.lemmas.Int.{to_z-of_z}
use Rattle.affc_dataflow.proofs.GuessLemmas.{ends_are}
use Rattle.affc_dataflow.proofs.divided.quotient_range.Goals as goal

pub returns-clause-holds : goal.returns-clause-holds
returns-clause-holds c =
    let fit_low : FitsSigned w128 c.in-Ok.low = search rules in
    let fit_high : FitsSigned w128 c.in-Ok.high = search rules in
    let fit_by : FitsSigned w64 c.args.by = c.ranges.by in
    ends_are c.args.ranges.now c.args.form.now c.args.by c.in-Ok.low c.in-Ok.high c.quotient_ends.result c.requires.by (c.in-Ok.ensures.bounds)
    (simp to_z-of_z at c.quotient_ends.ensures.first) (simp to_z-of_z at c.quotient_ends.ensures.last) c.quotient_ends.ensures.near
