-- Leaves among what is to be done while a tree grows.
use Rattle.affc_quast.specs.declared.quast.Quast.{Quast}
use Rattle.affc_dataflow.specs.declared.grown.Move.{Move}
use Rattle.affc_dataflow.specs.declared.grown.Move.TheVariants as move
use Rattle.affc_dataflow.specs.declared.grown.Step.{Step}
use Rattle.affc_dataflow.specs.declared.grown.Step.TheVariants as step

-- P holds of the leaf, where that is what is to be done with a candidate
abbrev pub IfStepLeaf : Step → (Quast → Type 0) → Type 0
IfStepLeaf (step.Leaf t) P = P t
IfStepLeaf (step.Open at row) P = Unit {0}
IfStepLeaf (step.Division d) P = Unit {0}
IfStepLeaf step.Held P = Unit {0}
IfStepLeaf step.Excluded P = Unit {0}

-- P holds of the leaf, where that is what is to be done under a path
abbrev pub IfLeaf : Move → (Quast → Type 0) → Type 0
IfLeaf (move.Leaf t) P = P t
IfLeaf (move.Test test) P = Unit {0}
IfLeaf (move.Division wanted queue) P = Unit {0}
IfLeaf (move.Again queue) P = Unit {0}
IfLeaf move.Nothing P = Unit {0}
