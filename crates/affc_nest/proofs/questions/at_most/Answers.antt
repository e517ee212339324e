use Rattle.std.specs.Prelude.{FitsSigned}
use Rattle.std.specs.Int.{w128}
use Rattle.std.proofs.lemmas.Int.{to_z-of_z}
use Rattle.affc_nest.proofs.RowLemmas.{side_of_number}
use Rattle.affc_nest.proofs.questions.at_most.Goals as goal

pub add_gap-requires-clause-second : goal.add_gap-requires-clause-second
add_gap-requires-clause-second c =
    let f : FitsSigned w128 c.args.bound = c.ranges.bound in
    side_of_number _ _ _ _ c.in_ok-end.ensures.value c.columns.ensures.value (simp to_z-of_z c.requires.bound)
