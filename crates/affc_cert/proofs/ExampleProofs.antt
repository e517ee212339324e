-- The examples hold.
use Rattle.affc_cert.specs.Examples.{ProofsAreJudged, MultipliersAreJudged, TreesAreJudged, FoldsAreJudged, RefusalsAreInOrder, PartsAreNumbered, ObjectsAreJudged}
use Rattle.serde_json.specs.Events.{items_len}
use Rattle.std.proofs.Common.{refl, lt-ltb}

pub proofs_are_judged : ProofsAreJudged
proofs_are_judged = (refl, refl, refl, refl, refl, refl, refl, refl, refl, refl, refl, refl, refl, refl, refl, refl, refl, refl, refl, λ x. refl)

pub multipliers_are_judged : MultipliersAreJudged
multipliers_are_judged = (refl, refl, refl, refl, refl, refl, refl, refl, refl, refl, λ x. refl, λ ds h. rw (lt-ltb 1024 (items_len ds) h) refl)

pub trees_are_judged : TreesAreJudged
trees_are_judged = (refl, refl, refl, refl, refl, refl, refl, refl, refl, refl, refl, refl, refl, refl, refl, refl, λ x. refl, refl, refl, refl, refl, refl, refl, refl)

pub folds_are_judged : FoldsAreJudged
folds_are_judged = (refl, refl, refl, refl, refl, refl, refl, refl, refl, refl, refl, refl, refl, refl, refl, refl, λ x. refl, refl, refl, refl, refl)

pub refusals_are_in_order : RefusalsAreInOrder
refusals_are_in_order = (refl, refl, refl, refl, refl, refl, refl, refl)

pub parts_are_numbered : PartsAreNumbered
parts_are_numbered = (λ t. refl, λ t. refl, λ t d h. rw h refl, λ t d h. rw h refl, λ t d h. rw h refl, λ t d h. rw h refl, λ t d h. refl)

pub objects_are_judged : ObjectsAreJudged
objects_are_judged = (refl, refl, refl, refl, refl, refl, refl, refl, refl, refl, refl, refl, refl, refl, refl, λ x. refl)
