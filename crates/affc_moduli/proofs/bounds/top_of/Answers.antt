use Rattle.std.proofs.Common.{rules}
use Rattle.std.specs.Prelude.{FitsSigned}
use Rattle.std.specs.Int.{w128}
use Rattle.std.proofs.lemmas.Int.{to_z-of_z}
use Rattle.affc_moduli.proofs.bounds.top_of.Goals as goal

pub returns : goal.returns
returns c = λ z inside.
    let fits : FitsSigned w128 c.top_over.result = search rules in
    simp to_z-of_z (c.top_over.ensures z inside.inside)
