-- What a compilation's answers say of a source and of its runs.
use Rattle.std.specs.Prelude.{◌≡◌, ◌≢◌, ◌≤◌, ◌↔◌, ◌⊎◌, ℕ, ℤ, false, IsTrue, List, [], ◌∷◌, length, Option, Some, None, slice_get}
use Rattle.affc_ast.specs.declared.tree.ArrayId.{ArrayId}
use Rattle.affc_ast.specs.declared.tree.Instance.{Instance}
use Rattle.affc_ast.specs.declared.tree.Program.{Program}
use Rattle.affc_ast.specs.Compiles.{Compiles}
use Rattle.affc_ast.specs.Fits.{Fits}
use Rattle.affc_ast.specs.Follows.{in_source_order, own_place}
use Rattle.affc_ast.specs.Meaning.{State, Ended, meaning}
use Rattle.affc_ast.specs.Store.{Store}
use Rattle.affc_grammar.specs.Reads.{Reads}
use Rattle.affc_cprint.specs.Layout.{printed_text}
use Rattle.affc_trace.specs.declared.schedule.Schedule.TheVariants.{Time}
use Rattle.affc_trace.specs.declared.schedule.TimeMap.{TimeMap}
use Rattle.affc_trace.specs.Dataflow.{LivePair}
use Rattle.affc_trace.specs.Effects.{has_no_locals}
use Rattle.affc_trace.specs.Laws.{IsInContext}
use Rattle.affc_domain.specs.Ranges.{first_wide}
use Rattle.affc_split.specs.Budgets.{Account}
use Rattle.affc_nest.specs.Laws.{NamesArrays}
use Rattle.affc_loops.specs.Loops.{Scheduled, scheduled}
use Rattle.affc_loopends.specs.declared.scanned.scanned.Scanned.{Scanned}
use Rattle.affc_loopends.specs.scanned.Laws.{RunsTightly}
use Rattle.affc_loopends.specs.scanned.Scanned.{Scans}
use Rattle.affc_basis.specs.declared.fold.Fold.{Fold}
use Rattle.affc_basis.specs.Folds.{fold_of}
use Rattle.affc_plain.specs.Laws.{IsBare}
use Rattle.affc_rewrite.specs.Rewrite.{folded_program}
use Rattle.affc_weigh.specs.declared.choice.Choice.{Choice}
use Rattle.affc_weigh.specs.Choices.{choice_of}
use Rattle.affc_weigh.specs.Costs.{NeverFalls}
use Rattle.affc_weigh.specs.Laws.{IsStoredCost}
use Rattle.affc_life.specs.Folding.{given_for}
use Rattle.affc_folds.specs.Folding.{AreFoldsUnder, IsLeftWhole, HasBound}
use Rattle.affc_folds.specs.Laws.{AnswersModuli, IsListedFold, IsSettled}
use Rattle.affc_schedtext.specs.declared.plan.Plan.{Plan}
use Rattle.affc_bounds.specs.Faults.{StaysWithin}
use Rattle.affc_bounds.specs.Laws.{IsStuckAt}
use Rattle.affc_bounds.specs.declared.fault.MeaningFault.{MeaningFault}
use Rattle.affc_bounds.specs.declared.fault.MeaningFault.TheVariants.{IteratorRange, Context, Extent, Bounds}
use Rattle.affc_quast.specs.Trees.{Tree}
use Rattle.affc_legal.specs.Violations.{IsViolation}
use Rattle.affc_driver.specs.Accounts.{free, IsUnlimited, FoldsWith, IsShort}
use Rattle.affc_driver.specs.Flows.{NameThroughout, FlowsTo}
use Rattle.affc_driver.specs.Folds.{FoldsTo}
use Rattle.affc_driver.specs.Plans.{HasPlan, LegalThroughout, WrittenThroughout}
use Rattle.affc_driver.specs.Refusals.{HasMeaningFault, HasUnwritten, IsIllegal, RefusalSays, FlowRefusalSays}
use Rattle.affc_driver.specs.Reports.{report_text}
use Rattle.affc_driver.specs.declared.refusal.Refusal.{Refusal}
use Rattle.affc_driver.specs.declared.refusal.Refusal.TheVariants.{Budget, Memory}

-- ---- Runs

-- from all data that fit, the run ends
abbrev pub NeverStuck : Program → Type 0
NeverStuck program = (p : List ℤ) (store : Store) → Fits program p store → (end : State) × (meaning program p store ≡ Ended end)

-- ---- What is compiled

-- In the program that a text reads as, each access names an array and has its subscripts.
abbrev pub ReadsNamingArrays : Type 0
ReadsNamingArrays = (text : List ℕ) (program : Program) → Reads text program → NamesArrays program

-- A program without locals that is never stuck compiles itself, in its own order and with each array at its own place.
abbrev pub CompilesItself : Type 0
CompilesItself = (program : Program) → IsTrue (has_no_locals program) → NeverStuck program → Compiles program program (λ _. in_source_order) (λ _. own_place)

-- The program that a text without the prelude reads as is never stuck, where it stays within and each load of a temporary is
-- written before.
abbrev pub WithinNeverStuck : Type 0
WithinNeverStuck = (text : List ℕ) (program : Program) → Reads text program → IsBare program → StaysWithin program → WrittenThroughout program → NeverStuck program

-- Each is where trees name the sources of all loads, and of a load of a temporary always one.
abbrev pub NamedIsWritten : Type 0
NamedIsWritten = (text : List ℕ) (program : Program) (trees : List Tree)
    → Reads text program → IsBare program → StaysWithin program → NameThroughout program trees → WrittenThroughout program

-- So what is printed of the scanned loops of a legal schedule, with folds of the program under it, compiles the text.
abbrev pub PrintedCompiles : (Answers : List ℕ → ℕ → Type 0) → Type 0
PrintedCompiles Answers = (text : List ℕ) (schedule : Option (List ℕ)) (program : Program) (plan : Plan) (budget : Account) (folds : List (ArrayId × Fold)) (choices : List (ArrayId × Choice)) (s : Scanned)
    → Reads text program → IsBare program → StaysWithin program → WrittenThroughout program
    → HasPlan program schedule plan → LegalThroughout program plan.schedule → AreFoldsUnder Answers program (LivePair program plan.schedule) plan.folds budget folds choices
    → Scans (folded_program program folds) plan.schedule s → FoldsTo Answers text schedule budget (printed_text s.program) (report_text program folds choices s.loose.items)

-- Where one statement alone can have instances under a schedule by times, and no component is loose, each turn of the printed loops extends to a
-- point of its time set.
abbrev pub TextsRunTightly : (Answers : List ℕ → ℕ → Type 0) → Type 0
TextsRunTightly Answers = (text : List ℕ) (schedule : Option (List ℕ)) (budget : Account) (folded report : List ℕ) (r : FoldsTo Answers text schedule budget folded report)
    → (length_of_time : ℕ) (maps : List TimeMap) (e : Scheduled) → r.plan.schedule ≡ Time length_of_time maps → scheduled r.compiles.source maps ≡ e ∷ [] → r.scanned.loose.items ≡ []
    → RunsTightly r.compiles.source (folded_program r.compiles.source r.folds) maps e r.compiles.target

-- Each temporary has a fold, no modulus is a bound alone, and no price of a basis is missing.
abbrev pub AreFull : Program → List (ArrayId × Fold) → List (ArrayId × Choice) → Type 0
AreFull program folds choices =
    (¬ (IsLeftWhole program folds))
    × ((array : ℕ) (fold : Fold) → fold_of folds array ≡ Some fold → ¬ (HasBound fold))
    × ((array : ℕ) (fold : Fold) (choice : Choice) (j : ℕ) → fold_of folds array ≡ Some fold → choice_of choices array ≡ Some choice → slice_get choice.prices j ≢ Some None)

-- So it is without a limit on what is spent, or with one of at least the threshold.
abbrev pub UnlimitedFoldsAll : (Answers : List ℕ → ℕ → Type 0) → Type 0
UnlimitedFoldsAll Answers = (text : List ℕ) (schedule : Option (List ℕ)) (left : Account) (folded report : List ℕ) (r : FoldsWith Answers text schedule left folded report)
    → IsUnlimited r.folds_to.compiles.source r.folds_to.plan.schedule left.limit
    → AreFull r.folds_to.compiles.source r.folds_to.folds r.folds_to.choices

-- Where the schedule gives no basis for a temporary, all its moduli are marked and no price of another basis is missing, no other
-- large enough fold over a listed basis costs less.
abbrev pub NoneIsCheaper : (Answers : List ℕ → ℕ → Type 0) → Type 0
NoneIsCheaper Answers = (text : List ℕ) (schedule : Option (List ℕ)) (budget : Account) (folded report : List ℕ)
    → NeverFalls Answers → (r : FoldsTo Answers text schedule budget folded report)
    → (array : ℕ) (fold : Fold) (choice : Choice) → fold_of r.folds array ≡ Some fold → choice_of r.choices array ≡ Some choice
    → given_for r.plan.folds array (length fold.basis.rows) ≡ None → IsSettled fold choice
    → (other : Fold) (cost : ℕ) → IsListedFold r.compiles.source (LivePair r.compiles.source r.plan.schedule) array (length fold.basis.rows) other
    → IsStoredCost Answers (IsInContext r.compiles.source) other cost → choice.cost ≤ cost

-- ---- What is refused

-- What a fault says of the runs: that the context is empty, that no data fit; that an extent or an access is wrong at p, that
-- each run there is stuck. The interval rule is the language's own, and says nothing of runs.
abbrev pub ShowsInRuns : Program → MeaningFault → Type 0
ShowsInRuns program (IteratorRange statement loop) = Unit {0}
ShowsInRuns program Context = (p : List ℤ) (store : Store) → ¬ (Fits program p store)
ShowsInRuns program (Extent array p) = IsStuckAt program p
ShowsInRuns program (Bounds array access p instance) = IsStuckAt program p

abbrev pub FaultsShow : Type 0
FaultsShow = (text : List ℕ) (schedule : Option (List ℕ)) (program : Program) (fault : MeaningFault)
    → Reads text program → HasMeaningFault text schedule fault → ShowsInRuns program fault

-- Where a load of a temporary is unwritten at p, each run there is stuck.
abbrev pub UnwrittenShows : Type 0
UnwrittenShows = (text : List ℕ) (schedule : Option (List ℕ)) (program : Program) (array access : ℕ) (p : List ℤ) (instance : Instance)
    → Reads text program → HasUnwritten text schedule array access p instance → IsStuckAt program p

-- What is shown of a schedule that isn't legal is a dependence that it turns round, whichever plan the schedule is read as.
abbrev pub IllegalShows : Type 0
IllegalShows = (text : List ℕ) (schedule : Option (List ℕ)) (program : Program) (plan : Plan) (p : List ℤ) (a b : Instance)
    → Reads text program → HasPlan program schedule plan → IsIllegal text schedule p a b → IsViolation program plan.schedule p a b

-- ---- Completeness

-- The text reads as a program without the prelude, within the interval rule, that some data fit and that is never stuck; the
-- schedule has a plan of it, whose schedule is legal.
pub record IsFoldable (text : List ℕ) (schedule : Option (List ℕ)) : Type 0 where
  pub program : Program
  pub reads : Reads text program
  pub plain : IsBare program
  pub near : first_wide program ≡ None
  pub some : (p : List ℤ) × IsInContext program p
  pub never_stuck : NeverStuck program
  pub plan : Plan
  pub planned : HasPlan program schedule plan
  pub legal : LegalThroughout program plan.schedule

-- What a text is folded to where nothing is limited: each temporary along the basis that the schedule gives for it, or else the cheapest
-- that is listed, by the least moduli and with their marks.
pub record FoldsFully (Answers : List ℕ → ℕ → Type 0) (text : List ℕ) (schedule : Option (List ℕ)) (folded report : List ℕ) : Type 0 where
  pub folds_to : FoldsTo Answers text schedule free folded report
  pub full : AreFull folds_to.compiles.source folds_to.folds folds_to.choices

-- Exactly such a text has one that it is so folded to, by a stored cost that answers to all moduli.
abbrev pub FoldableIsFolded : (Answers : List ℕ → ℕ → Type 0) → Type 0
FoldableIsFolded Answers = AnswersModuli Answers → (text : List ℕ) (schedule : Option (List ℕ))
    → IsFoldable text schedule ↔ ((folded : List ℕ) × ((report : List ℕ) × FoldsFully Answers text schedule folded report))

-- Whatever is left of a budget, and by any stored cost, no other text has one.
abbrev pub FoldedIsFoldable : (Answers : List ℕ → ℕ → Type 0) → Type 0
FoldedIsFoldable Answers = (text : List ℕ) (schedule : Option (List ℕ)) (budget : Account) (folded report : List ℕ) → FoldsTo Answers text schedule budget folded report → IsFoldable text schedule

-- It is refused, if at all, for want of budget or of memory.
abbrev pub FoldableIsNotRefused : Type 0
FoldableIsNotRefused = (text : List ℕ) (schedule : Option (List ℕ)) (refusal : Refusal)
    → IsFoldable text schedule → RefusalSays text schedule refusal → (refusal ≡ Budget) ⊎ (refusal ≡ Memory)

-- Without a limit on what is spent, or with one of at least the threshold, it is for want of memory.
abbrev pub UnlimitedIsNotRefused : Type 0
UnlimitedIsNotRefused = (text : List ℕ) (schedule : Option (List ℕ)) (limit : Option ℕ) (refusal : Refusal) (f : IsFoldable text schedule)
    → IsUnlimited f.program f.plan.schedule limit → RefusalSays text schedule refusal → (refusal ≡ Budget → IsShort text schedule limit) → refusal ≡ Memory

-- The text reads as a program without the prelude, within the interval rule, that some data fit and that is never stuck.
pub record IsSound (text : List ℕ) : Type 0 where
  pub program : Program
  pub reads : Reads text program
  pub plain : IsBare program
  pub near : first_wide program ≡ None
  pub some : (p : List ℤ) × IsInContext program p
  pub never_stuck : NeverStuck program

-- Only of such a text trees are told.
abbrev pub FlowsAreSound : Type 0
FlowsAreSound = (text told : List ℕ) → FlowsTo text told → IsSound text

-- They are refused, if at all, for want of budget or of memory.
abbrev pub SoundIsNotRefused : Type 0
SoundIsNotRefused = (text : List ℕ) (refusal : Refusal) → IsSound text → FlowRefusalSays text refusal → (refusal ≡ Budget) ⊎ (refusal ≡ Memory)
