use Rattle.std.proofs.Common.{rules, ◌≡◌, ◌<◌, ◌++◌, ap, subst, ℕ, length, pos, ◌<ℤ◌}
use Rattle.std.specs.Prelude.{IfOk, IfSome, FitsSigned}
use Rattle.std.specs.Int.{w128}
use Rattle.std.specs.List.{All}
use Rattle.std.proofs.lemmas.Int.{to_z-of_z}
use Rattle.affc_rows.specs.Forms.{Affine}
use Rattle.affc_system.specs.Systems.{IsRow}
use Rattle.affc_farkas.specs.Multiples.{AreMultipliers}
use Rattle.affc_leaf.specs.Bounds.{top_value}
use Rattle.affc_leaf.specs.BoxCuts.{behind, sum_with}
use Rattle.affc_leaf.specs.Leaves.{corner_rows, SameSum, IsLeafBy}
use Rattle.affc_leaf.proofs.BoxCuts.{leaf_answer_with}
use Rattle.affc_leaf.proofs.box_cuts.leaf_below.Goals as goal

pub returns : goal.returns
returns c =
    let system = c.args.system.now in
    let bounds = c.args.bounds.now in
    let cuts = c.args.cuts.now.rows in
    let own = c.args.own.now in
    let over = c.args.over.now in
    let next = c.args.next in
    let k = c.in-Some.constant in
    let fit = subst (λ rs. All (IsRow system.columns) rs) c.rows-rows.ensures.rows c.rows-rows.ensures.fit in
    let cuts_fit = subst (λ n. All (IsRow n) cuts) c.requires.columns (subst (λ rs. All (IsRow c.args.cuts.now.columns) rs) c.rows-cuts.ensures.rows c.rows-cuts.ensures.fit) in
    let fk : FitsSigned w128 k = search rules in
    let made : Affine = record { coefs = c.sum_both.new.sum; constant = k } in
    let whole : made ≡ sum_with system cuts own over = subst (λ o. IfSome o (λ k. record { coefs = c.sum_both.new.sum; constant = k } ≡ sum_with system cuts own over)) c.in-Some.is c.in_ok-constant.ensures.sum in
    let there = subst (λ o. IfSome o (λ k. All (λ (p : ℕ × ℕ). p.0 < length system.rows) own)) c.in-Some.is c.in_ok-constant.ensures.there in
    let over_there = subst (λ o. IfSome o (λ k. All (λ (p : ℕ × ℕ). p.0 < length cuts) over)) c.in-Some.is c.in_ok-constant.ensures.over_there in
    let under = simp to_z-of_z at c.if-not-is_below_zero.ensures.below in
    let below : top_value (sum_with system cuts own over) bounds <ℤ pos 0 = subst (λ f. top_value f bounds <ℤ pos 0) whole under in
    let by : c.in-Some-2.by.items ≡ own ++ behind next over = subst (λ o. IfSome o (λ v. v.items ≡ own ++ behind next over)) c.in-Some-2.is c.in_ok-by.ensures in
    let a = subst (λ cs. IfOk c.leaf_with.result (λ o. IfSome o (λ p. IsLeafBy (λ m. SameSum m (c.in-Some-2.by.items ++ corner_rows cs bounds) × AreMultipliers m) p.value)))
    (ap (λ (f : Affine). f.coefs) whole) c.leaf_with.ensures.multipliers in
    let d = subst (λ l. IfOk c.leaf_with.result (λ o. IfSome o (λ p. IsLeafBy (λ m. SameSum m (l ++ corner_rows (sum_with system cuts own over).coefs bounds) × AreMultipliers m) p.value))) by a in
    record {
      answer = leaf_answer_with system bounds next cuts own over c.leaf_with.result (record { width = c.requires.width; fit = fit; cuts_fit = cuts_fit; there = there; over_there = over_there; below = below }) d;
    }
