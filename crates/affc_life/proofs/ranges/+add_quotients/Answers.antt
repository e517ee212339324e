use Rattle.std.proofs.Common.{◌≡◌, ◌∷◌, [], ◌-◌, ◌++◌, pos, ◌≤ℤ◌, FitsSigned, w64, length, take, drop, refl, sym, subst, rules, arith, ap}
use Rattle.std.proofs.lemmas.Result.{on_ok_weaker}
use Rattle.std.proofs.lemmas.Int.{to_z-of_z}
use Rattle.affc_domain.proofs.Lists.{first_and_rest}
use Rattle.affc_nest.specs.Divisions.{quotient_range}
use Rattle.affc_life.proofs.QuotientLemmas.{corner_fits, first_light, quotient_asks, quotient_near, quotient_few, quotient_made}
use Rattle.affc_life.proofs.ranges.+add_quotients.Goals as goal

pub add_quotient-requires-clause-width : goal.add_quotient-requires-clause-width
add_quotient-requires-clause-width t c =
    (first_light c.args.ranges.now c.args.divisions.now (take (length c.args.divisions.now - 1) (drop 1 c.args.divisions.now)) c.division-item.result (first_and_rest c.args.divisions.now c.division-item.result c.in-len1-up.len_at_least c.division-item.is) c.requires.divisions).0.width

pub add_quotient-requires-clause-by : goal.add_quotient-requires-clause-by
add_quotient-requires-clause-by t c =
    let fit_by : FitsSigned w64 c.division-item.result.by = search rules in
    subst (λ z. pos 1 ≤ℤ z) (sym (to_z-of_z w64 c.division-item.result.by fit_by))
    (first_light c.args.ranges.now c.args.divisions.now (take (length c.args.divisions.now - 1) (drop 1 c.args.divisions.now)) c.division-item.result (first_and_rest c.args.divisions.now c.division-item.result c.in-len1-up.len_at_least c.division-item.is) c.requires.divisions).1

pub add_quotient-requires-clause-fits : goal.add_quotient-requires-clause-fits
add_quotient-requires-clause-fits t c =
    λ x at. corner_fits c.args.ranges.now c.division-item.result.form x
    (first_light c.args.ranges.now c.args.divisions.now (take (length c.args.divisions.now - 1) (drop 1 c.args.divisions.now)) c.division-item.result (first_and_rest c.args.divisions.now c.division-item.result c.in-len1-up.len_at_least c.division-item.is) c.requires.divisions).0
    c.requires.near (omega (arith, c.requires.few)) at

pub add_quotients-requires : goal.add_quotients-requires
add_quotients-requires t c =
    let ds = c.args.divisions.now in
    let d = c.division-item.result in
    let rest = take (length ds - 1) (drop 1 ds) in
    let is = first_and_rest ds d c.in-len1-up.len_at_least c.division-item.is in
    let long = ap length is in
    let fit_by : FitsSigned w64 c.division-item.result.by = search rules in
    let grown : c.add_quotient.new.ranges ≡ c.args.ranges.now ++ quotient_range c.args.ranges.now d.form d.by ∷ [] = simp to_z-of_z at c.in_ok-add_quotient-in-len1-up.ensures in (
      omega (arith, long),
      (
        quotient_asks c.args.ranges.now c.add_quotient.new.ranges ds rest d is (quotient_range c.args.ranges.now d.form d.by) refl grown c.requires.divisions,
        (
          quotient_near c.args.ranges.now c.add_quotient.new.ranges ds rest d is (quotient_range c.args.ranges.now d.form d.by) refl grown c.requires.near,
          quotient_few c.args.ranges.now c.add_quotient.new.ranges ds rest d is (quotient_range c.args.ranges.now d.form d.by) refl grown c.requires.few,
        ),
      ),
    )

pub returns-in_ok-add_quotient-in-len1-up : goal.returns-in_ok-add_quotient-in-len1-up
returns-in_ok-add_quotient-in-len1-up t c =
    let ds = c.args.divisions.now in
    let d = c.division-item.result in
    let rest = take (length ds - 1) (drop 1 ds) in
    let is = first_and_rest ds d c.in-len1-up.len_at_least c.division-item.is in
    let fit_by : FitsSigned w64 c.division-item.result.by = search rules in
    let grown : c.add_quotient.new.ranges ≡ c.args.ranges.now ++ quotient_range c.args.ranges.now d.form d.by ∷ [] = simp to_z-of_z at c.in_ok-add_quotient-in-len1-up.ensures in
    on_ok_weaker c.add_quotients.result
    (quotient_made c.args.ranges.now c.add_quotient.new.ranges ds rest d is (quotient_range c.args.ranges.now d.form d.by) refl grown c.add_quotients.new.ranges)
    c.add_quotients.ensures
