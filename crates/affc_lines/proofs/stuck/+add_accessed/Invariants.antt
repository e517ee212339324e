use Rattle.std.proofs.Common.{◌≡◌, ◌++◌, take}
use Rattle.affc_interp.specs.Arrays.{values_in}
use Rattle.affc_lines.proofs.Accesses.{accessed_among}
use Rattle.affc_lines.proofs.stuck.+add_accessed.Given as goal

abbrev pub invariant-add_each_accessed-loop-stmt : goal.invariant-add_each_accessed-loop-stmt
invariant-add_each_accessed-loop-stmt l = values_in l.each.items ≡ values_in l.initial.each.items ++ accessed_among (take l.stmt-index l.stmts)
