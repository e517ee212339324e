-- The nodes of the proofs of a stack, whose last comes first.
use Rattle.affc_certvalue.specs.proof.Proofs.{steps_of}
use Rattle.affc_certvalue.specs.proof.Values.{nodes_of}
use Rattle.affc_farkas.specs.declared.proof.Proof.{Proof}
use Rattle.serde_json.specs.Data.{Data}
use Rattle.std.specs.Prelude.{List, [], ◌∷◌, ◌++◌}

abbrev pub stack_nodes : List Proof → List Data
stack_nodes [] = []
stack_nodes (p ∷ ps) = stack_nodes ps ++ nodes_of (steps_of p)
