use Rattle.std.proofs.Common.{◌≡◌, ◌<◌, length}
use Rattle.affc_split.specs.Budgets.{IsLater}
use Rattle.affc_moduli.specs.Asked.{AreSlicesOf}
use Rattle.affc_moduli.specs.Rows.{AreKept, AreMarkedOr}
use Rattle.affc_moduli.proofs.fold.all_rows.Given as goal

abbrev pub invariant-loop-k : goal.invariant-loop-k
invariant-loop-k l = record {
  count : length l.made ≡ l.k;
  kept : AreKept l.given.context.now l.given.ranges.now l.given.pairs.now l.given.rows.now l.made;
  bound : AreMarkedOr l.budget l.made;
  slices : l.k < length l.given.rows.now → AreSlicesOf l.given l.k l.regions;
  later : IsLater l.fn.budget l.budget;
}
