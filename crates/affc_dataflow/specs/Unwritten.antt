-- Loads of temporaries that nothing has stored.
use Rattle.std.specs.Prelude.{◌≡◌, ℕ, ℤ, List, IsTrue, Some, None, slice_get}
use Rattle.affc_ast.specs.declared.tree.Instance.{Instance}
use Rattle.affc_ast.specs.declared.tree.Program.{Program}
use Rattle.affc_ast.specs.Store.{Element}
use Rattle.affc_ast.specs.Trace.{trace, loads_of}
use Rattle.affc_split.specs.declared.budget.Stop.{Stop}
use Rattle.affc_split.specs.declared.budget.Stop.TheVariants as stop
use Rattle.affc_trace.specs.Dataflow.{IsSource}
use Rattle.affc_trace.specs.Law.{IsIn}
use Rattle.affc_trace.specs.Laws.{IsInContext}
use Rattle.affc_nest.specs.declared.nest.Nest.{Nest}
use Rattle.affc_nest.specs.Laws.{HasNest, NamesArrays}
use Rattle.affc_nest.specs.Nests.{nest_of}
use Rattle.affc_flow.specs.Questions.{is_temporary}
use Rattle.affc_dataflow.specs.declared.stop.FlowStop.{FlowStop}
use Rattle.affc_dataflow.specs.declared.stop.FlowStop.TheVariants.{Unwritten, Budget, Memory}

-- at p of the context this load of an instance is of an element of a temporary, of this number, and no instance before stores it
pub record LoadsUnwritten (program : Program) (array access : ℕ) (p : List ℤ) (b : Instance) : Type 0 where
  pub context : IsInContext program p
  pub runs : IsIn b (trace program p)
  pub element : Element
  pub of_array : array ≡ element.0
  pub loaded : slice_get (loads_of program p b) access ≡ Some element
  pub temporary : IsTrue (is_temporary (nest_of program) element.0)
  pub none : IsSource program p b element None

abbrev pub IsUnwritten : Nest → (array access : ℕ) → (p : List ℤ) → Instance → Type 0
IsUnwritten nest array access p b = (program : Program) → nest ≡ nest_of program → HasNest program → NamesArrays program → LoadsUnwritten program array access p b

-- P holds of the load, where the stop names one
abbrev pub IfUnwritten : FlowStop → ((array access : ℕ) → (p : List ℤ) → Instance → Type 0) → Type 0
IfUnwritten (Unwritten array access p b) P = P array.0 access p b
IfUnwritten Budget P = Unit {0}
IfUnwritten Memory P = Unit {0}

-- a decision that stops
abbrev pub stop_of : Stop → FlowStop
stop_of stop.Budget = Budget
stop_of stop.Memory = Memory
