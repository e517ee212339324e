use Rattle.std.proofs.Common.{ap, ◌∙◌, ◌<◌, ◌≤ℤ◌, ◌<ℤ◌, ◌-ℤ◌, ℤ, arith}
use Rattle.std.specs.Prelude.{unsigned_abs}
use Rattle.std.proofs.lemmas.Int.{ints}
use Rattle.affc_split.specs.declared.maximum.search.Objective.{Objective}
use Rattle.affc_split.proofs.maximum.Laters.{same, then_later}
use Rattle.affc_split.proofs.maximum.search.maximum.Goals as goal

pub returns-in_err-search-clause-later : goal.returns-in_err-search-clause-later
returns-in_err-search-clause-later c = then_later c.args.budget.now c.loop-search.budget c.step.new.budget c.loop-search.invariant.later c.step.ensures.later

smaller : (a b c d : ℤ) → c ≤ℤ d → (d -ℤ c) <ℤ (b -ℤ a) → unsigned_abs (d -ℤ c) < unsigned_abs (b -ℤ a)
smaller a b c d h k = omega (arith, ints)

pub loop-search-smaller : goal.loop-search-smaller
loop-search-smaller c = smaller c.loop-search.search.low c.loop-search.search.high c.in_ok-search.search.low c.in_ok-search.search.high c.in_ok-search.ensures.order c.in_ok-search.ensures.less

pub loop-search-init : goal.loop-search-init
loop-search-init c = record {
  search = c.begun-search.ensures.search;
  region = ap (λ (a : Objective). a.region.now) c.begun-search.ensures.objective;
  form = ap (λ (a : Objective). a.form.now) c.begun-search.ensures.objective;
  floor = ap (λ (a : Objective). a.floor) c.begun-search.ensures.objective;
  later = same c.args.budget.now;
}

pub loop-search-preserved : goal.loop-search-preserved
loop-search-preserved c = record {
  search = c.in_ok-search.ensures.search;
  region = ap (λ (a : Objective). a.region.now) c.in_ok-search.ensures.objective ∙ c.loop-search.invariant.region;
  form = ap (λ (a : Objective). a.form.now) c.in_ok-search.ensures.objective ∙ c.loop-search.invariant.form;
  floor = ap (λ (a : Objective). a.floor) c.in_ok-search.ensures.objective ∙ c.loop-search.invariant.floor;
  later = then_later c.args.budget.now c.loop-search.budget c.step.new.budget c.loop-search.invariant.later c.step.ensures.later;
}
