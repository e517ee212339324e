use Rattle.std.proofs.Common.{◌≡◌, ◌-◌, ◌≤◌, ◌++◌, string_bytes}
use Rattle.std.specs.List.{flat_map, range_with_len}
use Rattle.affc_generate.specs.Stages as specs
use Rattle.affc_generate.proofs.stages.add_stages.Given as goal

abbrev pub invariant-loop-k : goal.invariant-loop-k
invariant-loop-k l = (1 ≤ l.k) × (string_bytes l.out ≡ string_bytes l.initial.out ++ flat_map (specs.stage l.fn.stages) (range_with_len 1 (l.k - 1)))
