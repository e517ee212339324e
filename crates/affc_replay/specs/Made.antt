-- What is made of a program and its plan with a certificate.
use Rattle.std.specs.Prelude.{◌≡◌, ℕ, ◌≤◌, IsTrue, List, [], length, Some, None, slice_get}
use Rattle.affc_ast.specs.declared.tree.ArrayId.{ArrayId}
use Rattle.affc_ast.specs.declared.tree.Decl.{Decl}
use Rattle.affc_ast.specs.declared.tree.Program.{Program}
use Rattle.affc_ast.specs.Meaning.{arrays_of}
use Rattle.affc_trace.specs.Dataflow.{LivePair}
use Rattle.affc_trace.specs.Target.{IsScheduleOf, within_limits}
use Rattle.affc_domain.specs.Arrays.{declared_arrays}
use Rattle.affc_domain.specs.Plain.{IsPlain}
use Rattle.affc_domain.specs.Ranges.{first_wide}
use Rattle.affc_basis.specs.declared.fold.Fold.{Fold}
use Rattle.affc_nest.specs.declared.nest.Nest.{Nest}
use Rattle.affc_nest.specs.Laws.{NamesArrays}
use Rattle.affc_nest.specs.Nests.{nest_of}
use Rattle.affc_schedtext.specs.declared.plan.Plan.{Plan}
use Rattle.affc_bounds.specs.Faults.{StaysWithin}
use Rattle.affc_flow.specs.Questions.{is_temporary}
use Rattle.affc_accept.specs.Accepted.{IsAccepted}
use Rattle.affc_accept.specs.Laws.{HasTemporariesLast}
use Rattle.affc_driver.specs.Made.{IsMadeOf}
use Rattle.affc_driver.specs.Plans.{LegalThroughout, WrittenThroughout}
use Rattle.affc_replay.specs.Folds.{AreAll, FoldAll}

-- exactly the temporaries are declared as such, as in any program that a text gives
pub record HasOwnTemporaries (program : Program) : Type 0 where
  pub last : HasTemporariesLast program
  pub own : (array : ℕ) (d : Decl) → slice_get (declared_arrays program) array ≡ Some d → length (arrays_of program.params) ≤ array → IsTrue (is_temporary (nest_of program) array)

-- a plain program whose iterators keep their ranges, its nest, and a plan whose schedule is one of it
pub record IsReplaying (program : Program) (nest : Nest) (plan : Plan) : Type 0 where
  pub plain : IsPlain program
  pub arrays : NamesArrays program
  pub temporaries : HasOwnTemporaries program
  pub near : first_wide program ≡ None
  pub is : nest ≡ nest_of program
  pub fits : IsScheduleOf program plan.schedule
  pub slight : IsTrue (within_limits plan.schedule)

-- the certificate shows that the program keeps to its arrays, that each load of a temporary is written before, that the plan's
-- schedule is legal, and these folds
pub record IsDecided (program : Program) (plan : Plan) (certificate : List ℕ) (folds : List (ArrayId × Fold)) : Type 0 where
  pub shown : List (ArrayId × Fold)
  pub accepted : IsAccepted (nest_of program) plan certificate shown
  pub are_all : AreAll (nest_of program) shown folds
  pub within : StaysWithin program
  pub written : WrittenThroughout program
  pub legal : LegalThroughout program plan.schedule
  pub fold_all : FoldAll program (LivePair program plan.schedule) folds

-- text and report are made with such folds
pub record IsReplayed (program : Program) (plan : Plan) (certificate text report : List ℕ) : Type 0 where
  pub folds : List (ArrayId × Fold)
  pub decided : IsDecided program plan certificate folds
  pub made : IsMadeOf program plan folds [] text report
