use Rattle.std.proofs.Common.{take, false}
use Rattle.std.specs.List.{All}
use Rattle.affc_eliminate.proofs.sieve.is_implied.Given as goal

abbrev pub invariant-loop-other : goal.invariant-loop-other
invariant-loop-other g l = All (λ k. g.F.Test.answers l.screen.test k.row l.row false) (take l.other-index l.others)
