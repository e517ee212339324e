use Rattle.std.proofs.Common.{◌≡◌, ◌+◌, ◌*◌, ◌≤◌, drop, map}
use Rattle.affc_ast.specs.Conditions.{reading_of, nodes_of_cond, nodes_of_entries, all_read, some_read}
use Rattle.affc_interp.proofs.index.+is_true.Given as goal

abbrev pub decreases-is_true : goal.decreases-is_true
decreases-is_true l = 2 * nodes_of_cond l.c.now

abbrev pub decreases-all_true : goal.decreases-all_true
decreases-all_true l = 2 * nodes_of_entries (map reading_of l.entries.now) + 1

abbrev pub decreases-some_true : goal.decreases-some_true
decreases-some_true l = 2 * nodes_of_entries (map reading_of l.entries.now) + 1

abbrev pub invariant-all_true-loop-entry : goal.invariant-all_true-loop-entry
invariant-all_true-loop-entry l = record {
  read : all_read (map reading_of l.entries) l.node l.names ≡ all_read (map reading_of (drop l.entry-index l.entries)) l.here l.names;
  nodes : l.here + nodes_of_entries (map reading_of (drop l.entry-index l.entries)) ≡ l.node + nodes_of_entries (map reading_of l.entries);
  later : l.node ≤ l.here;
}

abbrev pub invariant-some_true-loop-entry : goal.invariant-some_true-loop-entry
invariant-some_true-loop-entry l = record {
  read : some_read (map reading_of l.entries) l.node l.names ≡ some_read (map reading_of (drop l.entry-index l.entries)) l.here l.names;
  nodes : l.here + nodes_of_entries (map reading_of (drop l.entry-index l.entries)) ≡ l.node + nodes_of_entries (map reading_of l.entries);
  later : l.node ≤ l.here;
}
