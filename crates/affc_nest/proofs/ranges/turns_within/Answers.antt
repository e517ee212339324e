use Rattle.std.proofs.Common.{IsTrue, length, sym, subst, refl, ap, ◌∙◌}
use Rattle.affc_domain.specs.Plain.{is_plain}
use Rattle.affc_nest.proofs.IntervalLemmas.{range_is, fits_wide, less_wide, less_wider, last_fits, small_again}
use Rattle.affc_nest.proofs.ranges.turns_within.Goals as goal

pub form_over-requires : goal.form_over-requires
form_over-requires c = subst (λ xs. IsTrue (is_plain (length xs) c.args.low.now)) (sym c.ranges-2.ensures.ranges) c.requires.first

pub form_over-requires-2 : goal.form_over-requires-2
form_over-requires-2 c = subst (λ xs. IsTrue (is_plain (length xs) c.args.high.now)) (sym c.ranges-2.ensures.ranges) c.requires.last

pub returns-clause-value : goal.returns-clause-value
returns-clause-value c =
    range_is c.args.outer.now (length c.ranges-2.result.now) c.args.low.now c.args.rel c.args.high.now c.in_ok-from.from c.in_ok-to.to c.least-first.result c.last.result _ _
    (ap length c.ranges-2.ensures.ranges) c.in_ok-from.ensures.value c.in_ok-to.ensures.value c.least-first.ensures.value
    (c.last.ensures.value ∙ last_fits c.args.rel c.greatest-end.result _ c.greatest-end.ensures.value c.greatest-end.ensures.small)
    (fits_wide c.least-first.result c.least-first.result refl (less_wide c.least-first.ensures.small)) (fits_wide c.last.result c.last.result refl (less_wider c.last.ensures.small))

pub returns-clause-small : goal.returns-clause-small
returns-clause-small c = (small_again c.least-first.result (less_wide c.least-first.ensures.small), small_again c.last.result (less_wider c.last.ensures.small))
