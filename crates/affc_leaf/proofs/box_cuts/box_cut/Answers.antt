use Rattle.std.proofs.Common.{rules, ◌≡◌, ◌++◌, subst, List, ℤ, length}
use Rattle.std.specs.Prelude.{IfSome, FitsSigned}
use Rattle.std.specs.Int.{w64, w128}
use Rattle.std.specs.List.{All}
use Rattle.std.proofs.lemmas.Int.{to_z-of_z}
use Rattle.affc_rows.specs.Forms.{Affine}
use Rattle.affc_system.specs.Systems.{FitsRow, IsRow}
use Rattle.affc_farkas.specs.Multiples.{multiple_sum, AreMultipliers}
use Rattle.affc_leaf.specs.Cuts.{IsDivided}
use Rattle.affc_leaf.specs.BoxCuts.{without}
use Rattle.affc_leaf.specs.Leaves.{corner_rows, SameSum}
use Rattle.affc_leaf.proofs.BoxCuts.{box_cut}
use Rattle.affc_leaf.proofs.box_cuts.box_cut.Goals as goal

pub returns : goal.returns
returns c =
    let system = c.args.system.now in
    let bounds = c.args.bounds.now in
    let own = c.args.own.now in
    let first = c.in-Some.first in
    let g = c.args.g in
    let row = c.in-Some-2.field-0.row in
    let part = c.in-Some-2.field-0.part.items in
    let sum = multiple_sum system.columns system.rows own in
    let ff : FitsSigned w128 first = search rules in
    let fg : FitsSigned w64 g = search rules in
    let fit = subst (λ rs. All (IsRow system.columns) rs) c.rows-rows.ensures.rows c.rows-rows.ensures.fit in
    let before : Affine = record { coefs = c.sum_rows.new.sum; constant = first } in
    let s : before ≡ sum = c.in-Some.ensures.sum in
    let divided = simp to_z-of_z at c.in_ok-part.ensures.divided in
    let d : IsDivided (without before part bounds) g row = subst (λ o. IfSome o (λ d. IsDivided (without before d.part.items bounds) g d.row)) c.in-Some-2.is divided in
    let whole : IsDivided (without sum part bounds) g row = subst (λ f. IsDivided (without f part bounds) g row) s d in
    let width = subst (λ o. IfSome o (λ d. length d.part.items ≡ length bounds)) c.in-Some-2.is c.in_ok-part.ensures.width in
    let fits = subst (λ o. IfSome o (λ d. FitsRow d.row)) c.in-Some-2.is c.in_ok-part.ensures.fits in
    let same = subst (λ o. IfSome o (λ m. SameSum m (own ++ corner_rows c.as_slice.result.now bounds))) c.in-Some-3.is c.in_ok-by.ensures.sum in
    let kept = subst (λ (l : List ℤ). SameSum c.in-Some-3.by (own ++ corner_rows l bounds)) c.as_slice.ensures.value same in
    let rules_kept = subst (λ o. IfSome o AreMultipliers) c.in-Some-3.is c.in_ok-by.ensures.rules in
    let cut = box_cut system bounds own c.in-Some-3.by part g row (record { width = c.requires.width; fit = fit; there = c.in-Some.ensures.there; part_width = width }) rules_kept kept whole fits in
    simp to_z-of_z (record { cut = cut })
