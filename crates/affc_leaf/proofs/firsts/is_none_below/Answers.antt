use Rattle.std.proofs.Common.{rules, pos, ◌-ℤ◌, ◌<ℤ◌, sym, subst, ◌∙◌}
use Rattle.std.proofs.lemmas.Int.{to_z-of_z}
use Rattle.std.specs.Int.{w64}
use Rattle.std.specs.List.{All}
use Rattle.std.specs.Prelude.{FitsSigned, IsTrue}
use Rattle.std.proofs.lemmas.Result.{IfOk-weaker}
use Rattle.affc_leaf.specs.Parts.{NoneIn}
use Rattle.affc_leaf.specs.Bounds.{IsBound, lowered, bound_at}
use Rattle.affc_leaf.proofs.Pinning.{lowered_ranges}
use Rattle.affc_leaf.proofs.firsts.is_none_below.Goals as goal

pub is_none_by-requires-clause-ranges : goal.is_none_by-requires-clause-ranges
is_none_by-requires-clause-ranges c =
    let bounds = c.args.bounds.now in
    let row = (bound_at bounds c.args.column).high_row in
    let given : FitsSigned w64 c.args.value = c.ranges.value in
    let fits : FitsSigned w64 (c.args.value -ℤ pos 1) = search rules in
    let e = simp to_z-of_z at c.in_ok-below.ensures in
    subst (All IsBound) (sym (c.as_slice.ensures.value ∙ e)) (lowered_ranges bounds c.args.column c.args.value row c.requires.ranges c.requires.there (search rules) (search rules))

pub returns : goal.returns
returns c =
    let bounds = c.args.bounds.now in
    let system = c.args.system.now in
    let row = (bound_at bounds c.args.column).high_row in
    let given : FitsSigned w64 c.args.value = c.ranges.value in
    let fits : FitsSigned w64 (c.args.value -ℤ pos 1) = search rules in
    let e = simp to_z-of_z at c.in_ok-below.ensures in
    IfOk-weaker c.is_none_by.result _
    (λ b. IsTrue b → (bound_at bounds c.args.column).low <ℤ c.args.value → NoneIn system (lowered bounds c.args.column (c.args.value -ℤ pos 1) row))
    (λ b h yes less. subst (NoneIn system) (c.as_slice.ensures.value ∙ e) (h yes)) c.is_none_by.ensures
