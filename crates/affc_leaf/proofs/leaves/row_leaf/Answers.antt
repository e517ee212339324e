use Rattle.std.proofs.Common.{◌≡◌, ◌<◌, ◌∷◌, ◌++◌, ◌∙◌, ap, sym, subst, List, [], ℕ, length, slice_index_or, pos, ◌<ℤ◌}
use Rattle.std.proofs.lemmas.List.Elements.{All-nil, All-cons}
use Rattle.std.specs.Prelude.{IfSome}
use Rattle.std.specs.List.{All}
use Rattle.affc_rows.specs.Forms.{Affine}
use Rattle.affc_system.specs.Systems.{IsRow}
use Rattle.affc_farkas.specs.Multiples.{row_at, zero_row, multiple_sum, AreMultipliers}
use Rattle.affc_leaf.specs.Bounds.{top_value}
use Rattle.affc_leaf.specs.Leaves.{corner_rows, SameSum, IsLeafBy}
use Rattle.affc_leaf.proofs.Sums.{sum_of_one}
use Rattle.affc_leaf.proofs.Adding.{other_default}
use Rattle.affc_leaf.proofs.Refuting.{leaf_empty}
use Rattle.affc_leaf.proofs.leaves.row_leaf.Goals as goal

pub returns-in-Some-clause-answer : goal.returns-in-Some-clause-answer
returns-in-Some-clause-answer c =
    let columns = c.args.system.now.columns in
    let rows = c.args.system.now.rows in
    let bounds = c.args.bounds.now in
    let one : List (ℕ × ℕ) = (c.args.row, 1) ∷ [] in
    let fit = subst (λ rs. All (IsRow columns) rs) c.rows-rows.ensures.rows c.rows-rows.ensures.fit in
    let width : length (row_at columns rows c.args.row).coefs ≡ columns = (fit c.args.row (zero_row columns) c.requires.there).width in
    let e = sum_of_one columns rows c.args.row width in
    let q : c.as_slice.result.now ≡ (multiple_sum columns rows one).coefs =
    c.as_slice.ensures ∙ ap (λ (g : Affine). g.coefs) (c.form.view_is ∙ c.index-rows-row.is ∙ ap (λ l. slice_index_or l c.args.row c.index-rows-row.result) c.rows-rows.ensures.rows ∙ other_default rows c.args.row c.index-rows-row.result (zero_row columns) c.requires.there ∙ sym e) in
    let inside : All (λ (p : ℕ × ℕ). p.0 < length rows) one = All-cons (λ (p : ℕ × ℕ). p.0 < length rows) (c.args.row, 1) [] c.requires.there (All-nil (λ (p : ℕ × ℕ). p.0 < length rows)) in
    let below : top_value (multiple_sum columns rows one) bounds <ℤ pos 0 = subst (λ f. top_value f bounds <ℤ pos 0) (sym e) c.requires.below in
    let leaf = c.in-Some.leaf.value in
    let many : c.push.new.self.items ≡ one = c.in_ok-push.ensures.items ∙ ap (λ l. l ++ one) c.in_ok-by.ensures.items in
    let a = subst (λ o. IfSome o (λ p. IsLeafBy (λ m. SameSum m (c.push.new.self.items ++ corner_rows c.as_slice.result.now bounds) × AreMultipliers m) p.value)) c.in-Some.is c.in_ok-leaf.ensures.multipliers in
    let b = subst (λ l. IsLeafBy (λ m. SameSum m (l ++ corner_rows c.as_slice.result.now bounds) × AreMultipliers m) leaf) many a in
    let d = subst (λ cs. IsLeafBy (λ m. SameSum m (one ++ corner_rows cs bounds) × AreMultipliers m) leaf) q b in
    leaf_empty c.args.system.now bounds c.args.next one leaf (record { width = c.requires.width; fit = fit; there = inside; below = below }) d
