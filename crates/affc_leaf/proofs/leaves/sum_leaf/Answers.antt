use Rattle.std.proofs.Common.{rules, ◌≡◌, ◌<◌, ◌++◌, ap, subst, ℕ, length, pos, ◌<ℤ◌}
use Rattle.std.specs.Prelude.{IfOk, IfSome, FitsSigned}
use Rattle.std.specs.Int.{w128}
use Rattle.std.specs.List.{All}
use Rattle.std.proofs.lemmas.Int.{to_z-of_z}
use Rattle.affc_rows.specs.Forms.{Affine}
use Rattle.affc_system.specs.Systems.{IsRow}
use Rattle.affc_farkas.specs.Multiples.{multiple_sum, AreMultipliers}
use Rattle.affc_leaf.specs.Bounds.{top_value}
use Rattle.affc_leaf.specs.Leaves.{corner_rows, SameSum, IsLeafBy}
use Rattle.affc_leaf.proofs.Refuting.{leaf_answer}
use Rattle.affc_leaf.proofs.leaves.sum_leaf.Goals as goal

pub returns-clause-answer : goal.returns-clause-answer
returns-clause-answer c =
    let system = c.args.system.now in
    let bounds = c.args.bounds.now in
    let by = c.args.by.items in
    let k = c.in-Some.constant in
    let sum : Affine = multiple_sum system.columns system.rows by in
    let fit = subst (λ rs. All (IsRow system.columns) rs) c.rows-rows.ensures.rows c.rows-rows.ensures.fit in
    let fk : FitsSigned w128 k = search rules in
    let made : Affine = record { coefs = c.sum_rows.new.sum; constant = k } in
    let e : made ≡ multiple_sum system.columns system.rows c.as_slice.result.now = c.in-Some.ensures.sum in
    let whole : made ≡ sum = subst (λ l. made ≡ multiple_sum system.columns system.rows l) c.as_slice.ensures.value e in
    let under = simp to_z-of_z at c.if-not-is_below_zero.ensures.below in
    let below : top_value sum bounds <ℤ pos 0 = subst (λ f. top_value f bounds <ℤ pos 0) whole under in
    let there = subst (λ l. All (λ (p : ℕ × ℕ). p.0 < length system.rows) l) c.as_slice.ensures.value c.in-Some.ensures.there in
    let d = subst (λ cs. IfOk c.leaf_with.result (λ o. IfSome o (λ p. IsLeafBy (λ m. SameSum m (by ++ corner_rows cs bounds) × AreMultipliers m) p.value)))
    (ap (λ (f : Affine). f.coefs) whole) c.leaf_with.ensures.multipliers in
    leaf_answer system bounds c.args.next by c.leaf_with.result (record { width = c.requires.width; fit = fit; there = there; below = below }) d
