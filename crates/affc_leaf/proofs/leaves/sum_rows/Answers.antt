use Rattle.std.proofs.Common.{rules, ◌≡◌, ℕ, ◌+◌, ◌-◌, ◌<◌, List, get_or, drop, length, ℤ, pos, ◌+ℤ◌, ◌*ℤ◌, sym, ap, subst, ◌∙◌, arith}
use Rattle.std.specs.Prelude.{FitsSigned}
use Rattle.std.specs.Int.{w128}
use Rattle.std.specs.List.{All}
use Rattle.std.proofs.lemmas.Int.{to_z-of_z}
use Rattle.std.proofs.lemmas.List.{drop_more, get_or_read}
use Rattle.std.proofs.lemmas.List.Elements.{All-cons}
use mir.Val.{to_z}
use Rattle.affc_rows.specs.Forms.{Affine, mixed, mixed_form}
use Rattle.affc_farkas.specs.Multiples.{row_at, multiple_sum, zero_row}
use Rattle.affc_leaf.proofs.Adding.{form_is}
use Rattle.affc_leaf.proofs.leaves.sum_rows.Goals as goal

-- one row more is added
summed : (columns : ℕ) (rows : List Affine) (by : List (ℕ × ℕ)) (k : ℕ) (row : Affine) (sum coefs : List ℤ) (constant total : ℤ) → k < length by
    → row ≡ row_at columns rows (get_or by k (0, 0)).0 → record { coefs = sum; constant = constant } ≡ multiple_sum columns rows (drop (k + 1) by)
    → coefs ≡ mixed (pos (get_or by k (0, 0)).1) row.coefs (pos 1) sum → total ≡ (pos (get_or by k (0, 0)).1 *ℤ row.constant) +ℤ (pos 1 *ℤ constant)
    → record { coefs = coefs; constant = total } ≡ multiple_sum columns rows (drop k by)
summed columns rows by k row sum coefs constant total here row_is so_far coefs_are total_is =
    let p = get_or by k (0, 0) in
    form_is (record { coefs = coefs; constant = total }) (mixed_form (pos p.1) row (pos 1) (record { coefs = sum; constant = constant })) coefs_are total_is
    ∙ ap (mixed_form (pos p.1) row (pos 1)) so_far
    ∙ ap (λ (f : Affine). mixed_form (pos p.1) f (pos 1) (multiple_sum columns rows (drop (k + 1) by))) row_is
    ∙ sym (ap (multiple_sum columns rows) (drop_more by k (0, 0) here))

pub loop-left-preserved : goal.loop-left-preserved
loop-left-preserved c =
    let columns = c.args.system.now.columns in
    let rows = c.args.system.now.rows in
    let by = c.args.by.now in
    let k = c.loop-left.left - 1 in
    let p = get_or by k (0, 0) in
    let row = c.index-rows-row.result in
    let constant = to_z w128 c.loop-left.constant-bits in
    let total = c.in_ok-constant.constant in
    let within = c.loop-left.invariant.within in
    let here : k < length by = omega arith in
    let next : c.loop-left.left ≡ k + 1 = omega arith in
    let row_is : row ≡ row_at columns rows p.0 =
    get_or_read c.rows-rows.result.now p.0 row c.if-row-rows.false c.index-rows-row.is (zero_row columns) ∙ ap (λ rs. row_at columns rs p.0) c.rows-rows.ensures.rows in
    let so_far = subst (λ n. record { coefs = c.loop-left.sum; constant = constant } ≡ multiple_sum columns rows (drop n by)) next c.loop-left.invariant.sum in
    let fs : FitsSigned w128 c.from.result = search rules in
    let ft : FitsSigned w128 c.from-in-loop-left.result = search rules in
    let fr : FitsSigned w128 c.form.inside.constant = search rules in
    let fn : FitsSigned w128 total = search rules in
    let added = simp to_z-of_z at c.if-not-add_multiple.ensures in
    let coefs_are : c.add_multiple.new.sum ≡ mixed (pos p.1) row.coefs (pos 1) c.loop-left.sum =
    added ∙ ap (λ t. mixed t c.as_slice.result.now (pos 1) c.loop-left.sum) c.from.ensures
    ∙ ap (λ l. mixed (pos p.1) l (pos 1) c.loop-left.sum) (c.as_slice.ensures ∙ ap (λ (r : Affine). r.coefs) c.form.view_is) in
    let more = simp to_z-of_z at c.in_ok-constant.ensures in
    let total_is : total ≡ (pos p.1 *ℤ row.constant) +ℤ (pos 1 *ℤ constant) =
    more ∙ ap (λ t. (t *ℤ c.form.inside.constant) +ℤ (pos 1 *ℤ constant)) c.from-in-loop-left.ensures
    ∙ ap (λ t. (pos p.1 *ℤ t) +ℤ (pos 1 *ℤ constant)) (ap (λ (r : Affine). r.constant) c.form.view_is) in
    let P = λ (q : ℕ × ℕ). q.0 < length rows in
    let row_there : p.0 < length rows = subst (λ (rs : List Affine). p.0 < length rs) c.rows-rows.ensures.rows c.if-row-rows.false in
    record {
      sum = simp to_z-of_z (summed columns rows by k row c.loop-left.sum c.add_multiple.new.sum constant total here row_is so_far coefs_are total_is);
      there = subst (All P) (sym (drop_more by k (0, 0) here)) (All-cons P p (drop (k + 1) by) row_there (subst (λ n. All P (drop n by)) next c.loop-left.invariant.there));
      within = omega arith;
    }
