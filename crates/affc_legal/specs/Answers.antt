-- What a stop of the search for proofs says.
use Rattle.std.specs.Prelude.{ℤ, List}
use Rattle.affc_ast.specs.declared.tree.Instance.{Instance}
use Rattle.affc_split.specs.declared.budget.Stop.{Stop}
use Rattle.affc_split.specs.declared.budget.Stop.TheVariants as stop
use Rattle.affc_legal.specs.declared.legality.SchedStop.{SchedStop}
use Rattle.affc_legal.specs.declared.legality.SchedStop.TheVariants.{Illegal, Budget, Memory}

-- P holds of the dependence that is turned round, where the stop names one
abbrev pub IfIllegal : SchedStop → ((p : List ℤ) → (a b : Instance) → Type 0) → Type 0
IfIllegal (Illegal p a b) P = P p a b
IfIllegal Budget P = Unit {0}
IfIllegal Memory P = Unit {0}

-- a decision that stops
abbrev pub stop_of : Stop → SchedStop
stop_of stop.Budget = Budget
stop_of stop.Memory = Memory
