use Rattle.std.proofs.Common.{◌≡◌, ◌+◌, length, take}
use Rattle.std.specs.List.{flat_map}
use Rattle.affc_lines.proofs.Iterators.{rounds_in}
use Rattle.affc_lines.proofs.meaning.+iterators.Given as goal

-- the statements that were passed are before the number
abbrev pub invariant-iterator_among-loop-stmt : goal.invariant-iterator_among-loop-stmt
invariant-iterator_among-loop-stmt l = l.fn.left ≡ length (flat_map rounds_in (take l.stmt-index l.stmts)) + l.rest
