use Rattle.affc_eliminate.proofs.Opposed.{HaveNone}
use Rattle.affc_eliminate.proofs.opposites.opposites.Given as goal

abbrev pub invariant-loop-positive : goal.invariant-loop-positive
invariant-loop-positive l = HaveNone l.rows l.column l.positive
