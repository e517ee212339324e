-- Programs that stand for a source with its elements at places. The loops of a folded program are made of such a one, and so
-- folds are no part of making loops.
use Rattle.std.specs.Prelude.{◌≡◌, ℕ, ℤ, IsTrue, List, Some}
use Rattle.affc_ast.specs.declared.tree.ArrayId.{ArrayId}
use Rattle.affc_ast.specs.declared.tree.Instance.{Instance}
use Rattle.affc_ast.specs.declared.tree.Program.{Program}
use Rattle.affc_ast.specs.Fits.{Fits}
use Rattle.affc_ast.specs.Meaning.{State, Ended, meaning}
use Rattle.affc_ast.specs.Store.{Element, Store}
use Rattle.affc_ast.specs.Trace.{trace}
use Rattle.affc_trace.specs.declared.schedule.Schedule.{Schedule}
use Rattle.affc_trace.specs.Dataflow.{Legal, LivePair}
use Rattle.affc_trace.specs.Effects.{effect, has_no_locals}
use Rattle.affc_trace.specs.Law.{IsIn, at_place}
use Rattle.affc_trace.specs.Laws.{IsInContext}
use Rattle.affc_trace.specs.Orders.{Touches}
use Rattle.affc_domain.specs.Rounds.{rounds}
use Rattle.affc_safe.specs.Overflow.{NeverOverflows}
use Rattle.affc_safe.specs.Safe.{LiesWithin, HasExtents}
use Rattle.affc_loops.specs.Laws.{HasLoops}
use Rattle.affc_basis.specs.declared.fold.Fold.{Fold}
use Rattle.affc_basis.specs.FoldLists.{AreFoldsIn}
use Rattle.affc_basis.specs.Folds.{Obeys, fold_of, place}

-- ---- At given values of the parameters

-- It has no locals, its instances are the source's, and each does what it does in the source, with each element at its place.
pub record StandsFor (other source : Program) (place : Element → Element) (p : List ℤ) : Type 0 where
  pub bare : IsTrue (has_no_locals other)
  pub same_trace : trace other p ≡ trace source p
  pub same_effects : (b : Instance) → IsIn b (trace source p) → effect other p b ≡ at_place place (effect source p b)

-- the places of what the source touches lie within the other program's extents
abbrev pub PlacesLieWithin : (other source : Program) → (place : Element → Element) → (p : List ℤ) → Type 0
PlacesLieWithin other source place p = (b : Instance) (x : Element) → IsIn b (trace source p) → Touches (effect source p) b x → LiesWithin other p (place x)

-- It stands for the source, and runs wherever its loads find values: it never overflows, and its extents are at least 1 and
-- hold the places.
pub record Replaces (other source : Program) (place : Element → Element) (p : List ℤ) : Type 0 where
  pub stands : StandsFor other source place p
  pub small : NeverOverflows other p
  pub extents : HasExtents other p
  pub within : PlacesLieWithin other source place p

-- ---- With folds, throughout the context

-- What is shown of a source, its schedule and its folds: under the legal schedule it has loops, its runs end for all data that
-- fit, and the folds are of temporaries and obey.
pub record HasFoldedLoops (source : Program) (schedule : Schedule) (folds : List (ArrayId × Fold)) : Type 0 where
  pub loops : HasLoops source schedule
  pub ends : (p : List ℤ) (store : Store) → Fits source p store → (end : State) × (meaning source p store ≡ Ended end)
  pub legal : (p : List ℤ) → IsInContext source p → Legal source schedule p
  pub folds_in : AreFoldsIn source folds
  pub obeys : (p : List ℤ) → IsInContext source p → (array : ℕ) (fold : Fold) → fold_of folds array ≡ Some fold → Obeys (LivePair source schedule array p) fold p

-- And of the program that the loops are made of: the source's declarations, loops and conditions, and that it replaces the
-- source at the places of the folds.
pub record ReplacesFolded (other source : Program) (folds : List (ArrayId × Fold)) : Type 0 where
  pub name : other.name ≡ source.name
  pub params : other.params ≡ source.params
  pub context : other.context ≡ source.context
  pub same_rounds : rounds other ≡ rounds source
  pub replaces : (p : List ℤ) → IsInContext source p → Replaces other source (place folds p) p
