-- What a certificate that is accepted shows.
use Rattle.std.specs.Prelude.{◌≡◌, ℕ, ◌≤◌, ℤ, IsTrue, List, length, map}
use Rattle.affc_ast.specs.declared.tree.ArrayId.{ArrayId}
use Rattle.affc_ast.specs.declared.tree.Program.{Program}
use Rattle.affc_ast.specs.Meaning.{arrays_of}
use Rattle.affc_trace.specs.Dataflow.{LivePair}
use Rattle.affc_trace.specs.Law.{IsIn}
use Rattle.affc_trace.specs.Target.{IsScheduleOf}
use Rattle.affc_basis.specs.declared.fold.Fold.{Fold}
use Rattle.affc_nest.specs.declared.nest.Nest.{Nest}
use Rattle.affc_nest.specs.Laws.{HasNest, NamesArrays}
use Rattle.affc_nest.specs.Nests.{nest_of}
use Rattle.affc_quast.specs.Seen.{trees_of}
use Rattle.affc_flow.specs.Questions.{is_temporary}
use Rattle.affc_life.specs.Folding.{IsFoldFor}
use Rattle.affc_schedtext.specs.declared.plan.Plan.{Plan}
use Rattle.affc_check.specs.Laws.{IsShown}
use Rattle.affc_accept.specs.declared.fault.AcceptFault.{AcceptFault}
use Rattle.affc_accept.specs.declared.fault.AcceptFault.TheVariants.{Memory}
use Rattle.affc_accept.specs.Accepted.{IsAccepted}
use Rattle.affc_accept.specs.Layouts.{temporaries_from}
use Rattle.affc_accept.specs.Refusals.{AcceptRefuses}

-- no array parameter is declared as a temporary, as in any program that a text gives
abbrev pub HasTemporariesLast : Program → Type 0
HasTemporariesLast program = (array : ℕ) → IsTrue (is_temporary (nest_of program) array) → length (arrays_of program.params) ≤ array

-- The folds of the temporaries of at least one dimension, in order. Throughout the context each keeps the elements of each pair of
-- its array apart, and what its marks say of its moduli is true.
pub record AreRightFolds (program : Program) (pairs : ℕ → List ℤ → List ℤ → List ℤ → Type 0) (folds : List (ArrayId × Fold)) : Type 0 where
  pub arrays : map (λ (f : ArrayId × Fold). f.0.0) folds ≡ map (λ (t : ℕ × ℕ). t.0) (temporaries_from 0 (nest_of program).arrays)
  pub each : (array : ArrayId) (fold : Fold) → IsIn (array, fold) folds → IsFoldFor program pairs array.0 fold

-- A certificate that is accepted shows that the program's accesses are right, the schedule is legal and the folds are right.
abbrev pub AcceptedShows : Type 0
AcceptedShows = (program : Program) (plan : Plan) (text : List ℕ) (folds : List (ArrayId × Fold))
    → HasNest program → NamesArrays program → HasTemporariesLast program → IsScheduleOf program plan.schedule
    → (a : IsAccepted (nest_of program) plan text folds)
    → IsShown program plan.schedule (trees_of a.cert.flow) a.is_checked.are.folds × AreRightFolds program (LivePair program plan.schedule) folds

-- It is refused, if at all, for want of memory.
abbrev pub AcceptedIsNotRefused : Type 0
AcceptedIsNotRefused = (nest : Nest) (plan : Plan) (text : List ℕ) (folds : List (ArrayId × Fold)) (fault : AcceptFault)
    → IsAccepted nest plan text folds → AcceptRefuses nest plan text fault → fault ≡ Memory
