use Rattle.std.proofs.Common.{◌≡◌, map, drop}
use Rattle.affc_syntax.specs.draft.Drafts.{stmt}
use Rattle.affc_limits.specs.Bodies.{on_with, no_bodies}
use Rattle.affc_limits.proofs.bodies.+statements.Given as goal

abbrev pub invariant-bodies_of_all-loop-item : goal.invariant-bodies_of_all-loop-item
invariant-bodies_of_all-loop-item l = on_with l.left l.inside (map stmt (drop l.item-index l.body)) ≡ on_with l.left no_bodies (map stmt l.body)
