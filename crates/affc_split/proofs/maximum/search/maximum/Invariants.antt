use Rattle.std.proofs.Common.{◌≡◌, ◌-ℤ◌}
use Rattle.std.specs.Prelude.{unsigned_abs}
use Rattle.affc_split.specs.maximum.Searches.{IsSearch}
use Rattle.affc_split.specs.Budgets.{IsLater}
use Rattle.affc_split.proofs.maximum.search.maximum.Given as goal

abbrev pub invariant-loop-search : goal.invariant-loop-search
invariant-loop-search l = record {
  search : IsSearch l.search;
  region : l.search.objective.region.now ≡ l.fn.region;
  form : l.search.objective.form.now ≡ l.fn.form;
  floor : l.search.objective.floor ≡ l.fn.floor;
  later : IsLater l.fn.budget l.budget;
}

abbrev pub decreases-loop-search : goal.decreases-loop-search
decreases-loop-search l = unsigned_abs (l.search.high -ℤ l.search.low)
