use Rattle.std.proofs.Common.{◌≡◌, List, ℤ, ◌≤ℤ◌, ◌+ℤ◌, ◌∙◌, rules, true, ap, subst}
use Rattle.std.specs.Prelude.{FitsSigned}
use Rattle.std.specs.Int.{w128}
use Rattle.std.proofs.lemmas.Int.{to_z-of_z}
use Rattle.affc_rows.specs.Forms.{Affine, dot, value}
use Rattle.affc_system.specs.Boxes.{corner}
use Rattle.affc_system.proofs.BoxLemmas.{value_greatest}
use Rattle.affc_moduli.proofs.tops.top_over.Goals as goal

at_corner : (t k l : ℤ) (cs ds : List ℤ) (rs qs : List (ℤ × ℤ)) → t ≡ dot cs (corner true cs rs) +ℤ k → cs ≡ ds → rs ≡ qs → k ≡ l → dot ds (corner true ds qs) +ℤ l ≡ t
at_corner t k l cs ds rs qs e f g h = cc

pub returns : goal.returns
returns c = λ x inside.
    let fits : FitsSigned w128 c.sum_over.result = search rules in
    let begun : FitsSigned w128 c.row.inside.constant = search rules in
    let coefs = c.as_slice.ensures ∙ ap (λ (f : Affine). f.coefs) c.row.view_is in
    let constant = ap (λ (f : Affine). f.constant) c.row.view_is in
    let sum = simp to_z-of_z at c.sum_over.ensures in
    simp to_z-of_z (
    subst (λ z. value c.args.row.now x ≤ℤ z) (at_corner _ _ _ _ _ _ _ sum coefs c.ranges-2.ensures.ranges constant)
    (value_greatest c.args.row.now c.args.ranges.now x c.requires.row.width inside)
    )
