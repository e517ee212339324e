use Rattle.std.proofs.Common.{[], sym, ◌∙◌}
use Rattle.std.proofs.Common.{to_z-of_z}
use Rattle.std.proofs.lemmas.Bool.{true≢false}
use mir.Syntax.{w64}
use mir.Val.{SFits}
use Rattle.affc_interp.proofs.DataLines.{fits_so, unspaced, unnumbered, unended, outside, only_line}
use Rattle.affc_interp.proofs.line.number_line.Goals as goal

pub returns-in_default-after : goal.returns-in_default-after
returns-in_default-after c = unspaced c.args.name.now c.args.low c.args.high c.args.text.now c.in-Some.signed.now [] [] c.in-Some.ensures c.in_default-after.ensures

pub returns-in_default-integer : goal.returns-in_default-integer
returns-in_default-integer c = unnumbered c.args.name.now c.args.low c.args.high c.args.text.now c.in-Some.signed.now c.in-Some-after.digits.now [] c.in-Some.ensures c.in-Some-after.ensures c.ranges.low c.ranges.high c.in_default-integer.ensures

pub returns-in_default-line_end : goal.returns-in_default-line_end
returns-in_default-line_end c =
    unended c.args.name.now c.args.low c.args.high c.args.text.now c.in-Some.signed.now c.in-Some-after.digits.now c.in-Some-integer.behind.now c.in-Some.ensures c.in-Some-after.ensures c.ranges.low c.ranges.high
    c.in-Some-integer.value c.in-Some-integer.ensures c.in_default-line_end.ensures

pub returns-else-is_between : goal.returns-else-is_between
returns-else-is_between c =
    let l : SFits w64 c.args.low = c.ranges.low in
    let h : SFits w64 c.args.high = c.ranges.high in
    let f : SFits w64 c.in-Some-integer.value = fits_so c.in-Some-integer.value c.in-Some-integer.ensures.0 in
    outside c.args.name.now c.args.low c.args.high c.args.text.now c.in-Some.signed.now c.in-Some-after.digits.now c.in-Some-integer.behind.now c.in-Some.ensures c.in-Some-after.ensures c.ranges.low c.ranges.high
    c.in-Some-integer.value c.in-Some-integer.ensures (λ t. true≢false (sym t ∙ sym (simp to_z-of_z at c.is_between.ensures) ∙ c.if-is_between.false))

pub returns-then-is_between : goal.returns-then-is_between
returns-then-is_between c =
    let l : SFits w64 c.args.low = c.ranges.low in
    let h : SFits w64 c.args.high = c.ranges.high in
    let f : SFits w64 c.in-Some-integer.value = fits_so c.in-Some-integer.value c.in-Some-integer.ensures.0 in
    simp to_z-of_z (
    only_line c.args.name.now c.args.low c.args.high c.args.text.now c.in-Some.signed.now c.in-Some-after.digits.now c.in-Some-integer.behind.now c.in-Some.ensures c.in-Some-after.ensures c.ranges.low c.ranges.high
    c.in-Some-integer.value c.in-Some-line_end.rest.now c.in-Some-integer.ensures c.in-Some-line_end.ensures (sym (simp to_z-of_z at c.is_between.ensures) ∙ c.if-is_between.true))
