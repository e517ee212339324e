use Rattle.std.proofs.Common.{rules, ◌≡◌, pos, ◌<ℤ◌, subst}
use Rattle.std.proofs.lemmas.Bool.{OnTrue_at}
use Rattle.std.proofs.lemmas.Int.{to_z-of_z}
use Rattle.std.specs.Int.{w128}
use Rattle.std.specs.List.{All}
use Rattle.std.specs.Prelude.{FitsSigned}
use Rattle.affc_rows.specs.Forms.{Affine}
use Rattle.affc_system.specs.Systems.{IsRow}
use Rattle.affc_farkas.specs.Multiples.{multiple_sum}
use Rattle.affc_leaf.specs.Bounds.{top_value}
use Rattle.affc_leaf.proofs.Steps.{none_below}
use Rattle.affc_leaf.proofs.firsts.is_none_by.Goals as goal

pub returns : goal.returns
returns c =
    λ yes.
    let system = c.args.system.now in
    let bounds = c.args.bounds.now in
    let by = c.args.by.now in
    let k = c.in-Some.constant in
    let sum : Affine = multiple_sum system.columns system.rows by in
    let fit = subst (λ rs. All (IsRow system.columns) rs) c.rows-rows.ensures.rows c.rows-rows.ensures.fit in
    let fk : FitsSigned w128 k = search rules in
    let made : Affine = record { coefs = c.sum_rows.new.sum; constant = k } in
    let whole : made ≡ sum = c.in-Some.ensures.sum in
    let shown = OnTrue_at yes c.is_below_zero.ensures.below in
    let under = simp to_z-of_z at shown in
    let below : top_value sum bounds <ℤ pos 0 = subst (λ f. top_value f bounds <ℤ pos 0) whole under in
    none_below system bounds by c.requires.width fit c.in-Some.ensures.there below
