use Rattle.std.proofs.Common.{Some, FitsSigned, w64, rules, refl, ap, ◌∙◌}
use Rattle.std.proofs.lemmas.Int.{to_z-of_z}
use Rattle.affc_check.proofs.KeptLemmas.{keeps_pair}
use Rattle.affc_check.proofs.fold_looks.keep.Goals as goal

pub returns-in_ok-products-in-Some : goal.returns-in_ok-products-in-Some
returns-in_ok-products-in-Some c =
    let n = c.in_ok-products-in-Some.number in
    let point = c.in_ok-point-in-Some.point in
    let f : FitsSigned w64 n = search rules in
    keeps_pair c.args.least.now c.args.sought _ _ c.in-Some._number n c.in-Some.point point refl (c.in_ok-p.ensures ∙ c.as_slice.ensures) (ap (λ z. Some (z, point)) (to_z-of_z w64 n f)) (c.in_ok-point-in-Some.ensures ∙ c.as_slice-in-Some.ensures)
    c.in-Some.is c.in_ok-products-in-Some.ensures
