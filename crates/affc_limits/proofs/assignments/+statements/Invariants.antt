use Rattle.std.proofs.Common.{◌≡◌, map, drop, fold}
use Rattle.affc_syntax.specs.draft.Drafts.{stmt}
use Rattle.affc_limits.specs.Assignments.{count_in, round_of}
use Rattle.affc_limits.proofs.assignments.+statements.Given as goal

abbrev pub invariant-with_stmts-loop-item : goal.invariant-with_stmts-loop-item
invariant-with_stmts-loop-item l = fold (count_in (round_of l.round)) l.made (map stmt (drop l.item-index l.body)) ≡ fold (count_in (round_of l.round)) l.fn.tally (map stmt l.body)
