use Rattle.std.proofs.Common.{take, false}
use Rattle.std.specs.List.{All}
use Rattle.affc_eliminate.proofs.sieve.implies_none.Given as goal

abbrev pub invariant-loop-other : goal.invariant-loop-other
invariant-loop-other g l = All (λ k. g.F.Test.answers l.screen.test l.row k.row false) (take l.other-index l.others)
