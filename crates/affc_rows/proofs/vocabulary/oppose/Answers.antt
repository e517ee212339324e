use Rattle.std.proofs.Common.{refl}
use Rattle.std.specs.Prelude.{FitsSigned}
use Rattle.std.specs.Int.{w128}
use Rattle.std.proofs.lemmas.Int.{to_z-of_z}
use Rattle.affc_rows.proofs.VocabularyLemmas.{opposite_is, is_opposite}
use Rattle.affc_rows.proofs.vocabulary.oppose.Goals as goal

pub returns-then-is_negated : goal.returns-then-is_negated
returns-then-is_negated c =
    let fx : FitsSigned w128 c.args.x = c.ranges.x in
    let fy : FitsSigned w128 c.args.y = c.ranges.y in
    let e = simp to_z-of_z at c.if-is_negated.ensures in (
      (λ t. opposite_is c.args.xs.now c.args.x c.args.ys.now c.args.y (e.0 refl) (c.are_opposite.ensures.0 t)),
      (λ h. c.are_opposite.ensures.1 (is_opposite c.args.xs.now c.args.x c.args.ys.now c.args.y h).1),
    )
