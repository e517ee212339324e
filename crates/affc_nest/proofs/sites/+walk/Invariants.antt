use Rattle.std.proofs.Common.{◌≡◌, ◌+◌, ◌++◌, drop, map}
use Rattle.affc_ast.specs.Recursion.{by_stmt}
use Rattle.affc_nest.specs.Frames.{all_seen}
use Rattle.affc_nest.specs.Sites.{places, loops_of, in_turn, walked_step}
use Rattle.affc_nest.proofs.sites.+walk.Given as goal

abbrev pub invariant-walk_all-loop-s : goal.invariant-walk_all-loop-s
invariant-walk_all-loop-s l = record {
  number : l.after + loops_of (map (by_stmt walked_step) (drop l.s-index l.body)) ≡ l.fn.next + loops_of (map (by_stmt walked_step) l.body);
  sites : places l.out.items ++ in_turn (map (by_stmt walked_step) (drop l.s-index l.body)) (all_seen l.frames) l.loops l.after
      ≡ places l.fn.out.items ++ in_turn (map (by_stmt walked_step) l.body) (all_seen l.frames) l.loops l.fn.next;
}
