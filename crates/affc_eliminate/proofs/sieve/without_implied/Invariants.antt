use Rattle.affc_eliminate.specs.Sieves.{AreSieved}
use Rattle.affc_eliminate.proofs.sieve.without_implied.Given as goal

abbrev pub invariant-loop-other : goal.invariant-loop-other
invariant-loop-other g l = AreSieved (g.F.Test.answers l.screen.test) l.yielded l.row l.left.items
