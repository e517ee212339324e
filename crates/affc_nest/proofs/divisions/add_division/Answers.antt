use Rattle.std.proofs.Common.{◌≡◌, ◌+◌, ◌++◌, ◌∷◌, [], pos, FitsSigned, w64, sym, ap, subst, ◌∙◌}
use Rattle.std.proofs.lemmas.Int.{to_z-of_z}
use Rattle.affc_rows.specs.Forms.{Affine}
use Rattle.affc_trace.proofs.EndedReads.{append_assoc}
use Rattle.affc_nest.specs.Domains.{gap_row}
use Rattle.affc_nest.specs.Questions.{widened}
use Rattle.affc_nest.specs.Divisions.{multiple}
use Rattle.affc_nest.specs.Wide.{IsWide}
use Rattle.affc_nest.proofs.WideLemmas.{multiple_wide, widened_wide, within_64}
use Rattle.affc_nest.proofs.divisions.add_division.Goals as goal

pub add_gap_row-requires-2-clause-first : goal.add_gap_row-requires-2-clause-first
add_gap_row-requires-2-clause-first c = subst (IsWide (c.args.columns + 1)) (sym c.in_ok-whole.ensures) (widened_wide c.args.columns c.args.form.now c.requires.form)

pub add_gap_row-requires-2-clause-second : goal.add_gap_row-requires-2-clause-second
add_gap_row-requires-2-clause-second c =
    let fit : FitsSigned w64 c.args.by = c.ranges.by in
    let bound = within_64 c.args.by fit in
    let is : c.in_ok-high.high ≡ multiple c.args.columns c.args.by c.args.by = simp to_z-of_z at c.in_ok-high.ensures in
    subst (IsWide (c.args.columns + 1)) (sym is) (multiple_wide c.args.columns c.args.by c.args.by bound bound)

pub returns : goal.returns
returns c =
    let low : Affine = multiple c.args.columns c.args.by (pos 0) in
    let whole : Affine = widened 1 c.args.form.now in
    let high : Affine = multiple c.args.columns c.args.by c.args.by in
    let fit : FitsSigned w64 c.args.by = c.ranges.by in
    let low_is : c.in_ok-low.low ≡ low = simp to_z-of_z at c.in_ok-low.ensures in
    let high_is : c.in_ok-high.high ≡ high = simp to_z-of_z at c.in_ok-high.ensures in
    c.in_ok-add_gap_row-2.ensures ∙ ap (λ rows. rows ++ gap_row c.in_ok-whole.whole c.in_ok-high.high 1 ∷ []) c.in_ok-add_gap_row.ensures
    ∙ append_assoc c.args.out.now (gap_row c.in_ok-low.low c.in_ok-whole.whole 0 ∷ []) (gap_row c.in_ok-whole.whole c.in_ok-high.high 1 ∷ [])
    ∙ ap (λ (l : Affine). c.args.out.now ++ gap_row l c.in_ok-whole.whole 0 ∷ gap_row c.in_ok-whole.whole c.in_ok-high.high 1 ∷ []) low_is
    ∙ ap (λ (w : Affine). c.args.out.now ++ gap_row low w 0 ∷ gap_row w c.in_ok-high.high 1 ∷ []) c.in_ok-whole.ensures
    ∙ ap (λ (h : Affine). c.args.out.now ++ gap_row low whole 0 ∷ gap_row whole h 1 ∷ []) high_is
