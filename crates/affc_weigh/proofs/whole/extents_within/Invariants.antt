use Rattle.std.proofs.Common.{◌≡◌, ◌≤◌, ◌^◌, length}
use Rattle.std.specs.List.{All}
use Rattle.affc_weigh.proofs.whole.extents_within.Given as goal

abbrev pub invariant-loop-extent : goal.invariant-loop-extent
invariant-loop-extent l = record {
  values : All (λ n. (1 ≤ n) × (n ≤ 2 ^ 60)) l.values;
  count : length l.values ≡ l.extent-index;
}
