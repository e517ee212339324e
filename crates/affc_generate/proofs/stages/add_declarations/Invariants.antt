use Rattle.std.proofs.Common.{◌≡◌, ◌++◌, string_bytes}
use Rattle.std.specs.List.{flat_map, range_with_len}
use Rattle.affc_generate.specs.Stages as specs
use Rattle.affc_generate.proofs.stages.add_declarations.Given as goal

abbrev pub invariant-loop-k : goal.invariant-loop-k
invariant-loop-k l = string_bytes l.out ≡ string_bytes l.initial.out ++ flat_map (specs.declaration l.fn.stages) (range_with_len 0 l.k)
