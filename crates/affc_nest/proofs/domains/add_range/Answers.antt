use Rattle.std.proofs.Common.{◌≡◌, ◌≤◌, ◌^◌, rules, subst, sym}
use Rattle.std.specs.Prelude.{FitsSigned, unsigned_abs}
use Rattle.std.specs.Int.{w64, w128}
use Rattle.std.proofs.lemmas.Int.{to_z-of_z}
use Rattle.affc_nest.proofs.RowLemmas.{side_of_column, side_of_number, side_later}
use Rattle.affc_nest.proofs.domains.add_range.Goals as goal

pub add_gap-requires-clause-first : goal.add_gap-requires-clause-first
add_gap-requires-clause-first c =
    let f : FitsSigned w64 c.args.low = c.ranges.low in
    let from : c.from.result ≡ c.args.low = simp to_z-of_z at c.from.ensures in
    let wide : FitsSigned w128 c.from.result = search rules in
    side_of_number _ _ _ _ c.in_ok-least.ensures.value c.columns-columns.ensures.value (simp to_z-of_z (subst (λ z. unsigned_abs z ≤ 2 ^ 32) (sym from) c.requires.low))

pub add_gap-requires-clause-second : goal.add_gap-requires-clause-second
add_gap-requires-clause-second c = side_of_column _ _ _ _ c.in_ok-x.ensures.value c.columns-columns.ensures.value

pub add_gap-requires-2-clause-first : goal.add_gap-requires-2-clause-first
add_gap-requires-2-clause-first c = side_later c.args.system.now c.add_gap.new.system _ _ c.in_ok-add_gap.ensures (side_of_column _ _ _ _ c.in_ok-x.ensures.value c.columns-columns.ensures.value)

pub add_gap-requires-2-clause-second : goal.add_gap-requires-2-clause-second
add_gap-requires-2-clause-second c =
    let f : FitsSigned w64 c.args.high = c.ranges.high in
    let from : c.from-2.result ≡ c.args.high = simp to_z-of_z at c.from-2.ensures in
    let wide : FitsSigned w128 c.from-2.result = search rules in
    side_later c.args.system.now c.add_gap.new.system _ _ c.in_ok-add_gap.ensures
    (side_of_number _ _ _ _ c.in_ok-greatest.ensures.value c.columns-columns.ensures.value (simp to_z-of_z (subst (λ z. unsigned_abs z ≤ 2 ^ 32) (sym from) c.requires.high)))
