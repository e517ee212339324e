use Rattle.std.proofs.Common.{rules, ◌≡◌, ◌<◌, ◌+◌, length, pos, ◌-ℤ◌, ◌≤ℤ◌, ◌<ℤ◌, subst, sym, ◌∙◌, slice_set}
use Rattle.std.proofs.lemmas.Int.{to_z-of_z}
use Rattle.std.specs.Int.{w64}
use Rattle.std.specs.Prelude.{FitsSigned}
use Rattle.affc_leaf.specs.Bounds.{bound_at, lowered, no_bound}
use Rattle.affc_leaf.specs.Fronts.{IsFront, IsPinned, pinned}
use Rattle.affc_leaf.specs.Parts.{NoneIn}
use Rattle.affc_leaf.proofs.Pinning.{pin_front, pin_pinned, other_bound}
use Rattle.affc_leaf.proofs.firsts.pin.Goals as goal

pub returns-clause-pinned : goal.returns-clause-pinned
returns-clause-pinned c =
    let part = c.args.part.now.items in
    let bound = c.index-bound.result.now in
    let given : FitsSigned w64 c.args.value = c.ranges.value in
    let there : c.args.column < length part = search rules in
    let is : bound ≡ bound_at part c.args.column = c.index-bound.ensures ∙ other_bound part c.args.column bound no_bound there in
    let low : bound.low ≤ℤ c.args.value = search rules in
    let high : c.args.value ≤ℤ bound.high = search rules in
    let fact : IsPinned c.args.system.now.columns (pinned part c.args.column c.args.value) (c.args.column + 1) = pin_pinned c.args.system.now.columns part c.args.column c.args.value c.requires there (subst (λ b. b.low ≤ℤ c.args.value) is low) (subst (λ b. c.args.value ≤ℤ b.high) is high) in
    let made : IsPinned c.args.system.now.columns (slice_set part c.args.column (record bound { low = c.args.value; high = c.args.value })) (c.args.column + 1) =
    subst (λ b. IsPinned c.args.system.now.columns (slice_set part c.args.column (record b { low = c.args.value; high = c.args.value })) (c.args.column + 1)) (sym is) fact in
    simp to_z-of_z (λ yes. made)

pub returns-clause-front : goal.returns-clause-front
returns-clause-front c =
    let part = c.args.part.now.items in
    let bound = c.index-bound.result.now in
    let given : FitsSigned w64 c.args.value = c.ranges.value in
    let there : c.args.column < length part = search rules in
    let is : bound ≡ bound_at part c.args.column = c.index-bound.ensures ∙ other_bound part c.args.column bound no_bound there in
    let low : bound.low ≤ℤ c.args.value = search rules in
    let high : c.args.value ≤ℤ bound.high = search rules in
    let shown = c.in_ok-is_none_below.ensures c.if-not-branch.false in
    let plain = simp to_z-of_z at shown in
    let none : (bound_at part c.args.column).low <ℤ c.args.value → NoneIn c.args.system.now (lowered part c.args.column (c.args.value -ℤ pos 1) (bound_at part c.args.column).high_row) =
    subst (λ l. (bound_at l c.args.column).low <ℤ c.args.value → NoneIn c.args.system.now (lowered l c.args.column (c.args.value -ℤ pos 1) (bound_at l c.args.column).high_row)) c.as_slice.ensures.value plain in
    let fact : IsFront c.args.system.now part (pinned part c.args.column c.args.value) = pin_front c.args.system.now part c.args.column c.args.value (bound_at part c.args.column).high_row there c.requires.single (subst (λ b. b.low ≤ℤ c.args.value) is low) (subst (λ b. c.args.value ≤ℤ b.high) is high) none in
    let made : IsFront c.args.system.now part (slice_set part c.args.column (record bound { low = c.args.value; high = c.args.value })) =
    subst (λ b. IsFront c.args.system.now part (slice_set part c.args.column (record b { low = c.args.value; high = c.args.value }))) (sym is) fact in
    simp to_z-of_z (λ yes. made)
