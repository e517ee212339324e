-- What the program promises, in the words of its user: when it has to succeed, and what a folded text is.
use Rattle.std.specs.Prelude.{◌≡◌, ◌≢◌, ◌≤◌, ◌⊎◌, ◌++◌, ℕ, ℤ, List, [], ◌∷◌, length, Option, None, Some, Ok, Err, codes, slice_get}
use Rattle.affc_io.specs.Count.{Rose}
use Rattle.affc_io.specs.Files.{Holds, held_under}
use Rattle.affc_io.specs.Reads.{Read}
use Rattle.affc_io.specs.State.{Files}
use Rattle.affc_io.specs.Taken.{grown}
use Rattle.affc_io.specs.declared.folder.ReadFault.{ReadFault}
use Rattle.affc_io.specs.declared.folder.TheConstants.{LONGEST_READ}
use Rattle.affc_ast.specs.declared.tree.ArrayId.{ArrayId}
use Rattle.affc_ast.specs.declared.tree.Program.{Program}
use Rattle.affc_ast.specs.Fits.{Fits, outputs}
use Rattle.affc_ast.specs.Follows.{Follows}
use Rattle.affc_ast.specs.Meaning.{State, Ended, meaning}
use Rattle.affc_ast.specs.Store.{Store}
use Rattle.affc_grammar.specs.Reads.{Reads, ReadsWide}
use Rattle.affc_interp.specs.DataText.{output_text}
use Rattle.affc_trace.specs.Laws.{in_target_order}
use Rattle.affc_split.specs.Budgets.{Account}
use Rattle.affc_basis.specs.declared.fold.Fold.{Fold}
use Rattle.affc_basis.specs.Folds.{fold_of, place}
use Rattle.affc_weigh.specs.declared.choice.Choice.{Choice}
use Rattle.affc_weigh.specs.Choices.{choice_of}
use Rattle.affc_loopends.specs.declared.scanned.scanned.Loose.{Loose}
use Rattle.affc_schedtext.specs.declared.plan.Plan.{Plan}
use Rattle.affc_folds.specs.Folding.{IsLeftWhole, HasBound}
use Rattle.affc_driver.specs.Accounts.{IsUnlimited, FoldsWith}
use Rattle.affc_driver.specs.Laws.{IsFoldable, IsSound}
use Rattle.affc_driver.specs.Plans.{HasPlan}
use Rattle.affc_driver.specs.Reports.{report_text}
use Rattle.affc_replay.specs.Laws.{IsValid}
use Rattle.affc_words.specs.declared.words.Settings.{Settings}
use Rattle.affc_words.specs.Command.{Command, Fold as FoldBy, Replay, Run, Flow, command_of}
use Rattle.affc_lines.specs.Lines.{status_of, unread_words, line_of}
use Rattle.affc_lines.specs.Told.{Told}
use Rattle.affc_lines.specs.declared.refusal.Refusal.{Refusal}
use Rattle.affc_lines.specs.declared.refusal.UnreadWhy.{UnreadWhy}
use Rattle.affc_cli.specs.Budgets.{answers_of}
use Rattle.affc_cli.specs.Outside.{Outside, IsRead, answered}
use Rattle.affc_cli.specs.Promise.{Serves, written_file, names_of}
use Rattle.affc_cli.specs.Refusal.{IsWhy}
use Rattle.affc_cli.specs.Run.{Runnable, outcome}

-- ---- A call, its files and its faults

-- The words are those of the command, and this is what the program did with them.
pub record IsServed (command : Command) (before now : Outside) (status : ℕ) : Type 0 where
  pub words : List (List ℕ)
  pub stand_for : command_of words ≡ Some command
  pub serves : Serves words before now status

-- The folder tells that the name holds the text, which is no longer than a read answers.
pub record IsGiven (held : Option Files) (name text : List ℕ) : Type 0 where
  pub holds : held_under held name ≡ Some text
  pub short : length text ≤ LONGEST_READ

-- the same of a name that may be left out; there is no text without a name
abbrev pub IsGivenAny : Option Files → (name text : Option (List ℕ)) → Type 0
IsGivenAny held None text = text ≡ None
IsGivenAny held (Some name) None = ⊥
IsGivenAny held (Some name) (Some text) = IsGiven held name text

-- No fault was counted: none of the three counts rose, and none stands at its type's end, where it couldn't.
pub record NoFault (before now : Outside) : Type 0 where
  pub folder : ¬ (Rose before.folder.faults now.folder.faults)
  pub out : ¬ (Rose before.out.faults now.out.faults)
  pub err : ¬ (Rose before.err.faults now.err.faults)

-- ---- Where the program has to succeed

-- The output got a text, and the error stream its report, that are made of the source and the schedule. There each temporary is
-- folded, each modulus is marked as least, and each other listed basis is priced.
pub record IsFoldedWhole (source : List ℕ) (schedule : Option (List ℕ)) (settings : Settings) (before now : Outside) : Type 0 where
  pub text : List ℕ
  pub report : List ℕ
  pub out : now.out.taken ≡ grown before.out.taken text
  pub err : now.err.taken ≡ grown before.err.taken report
  pub left : Account
  pub made : FoldsWith (answers_of settings.cost) source schedule left text report
  pub none_whole : ¬ (IsLeftWhole made.folds_to.compiles.source made.folds_to.folds)
  pub none_bound : (array : ℕ) (fold : Fold) → fold_of made.folds_to.folds array ≡ Some fold → ¬ (HasBound fold)
  pub all_priced : (array : ℕ) (fold : Fold) (choice : Choice) (number : ℕ) → fold_of made.folds_to.folds array ≡ Some fold
      → choice_of made.folds_to.choices array ≡ Some choice → slice_get choice.prices number ≢ Some None

-- `fold`, where no fault is counted: the files are given, the source reads within the limits and without the prelude, its context
-- isn't empty, the interval rule is met, it is never stuck, the schedule reads and is legal (`IsFoldable`), and no budget is given or
-- it is at least the threshold. It folds the whole, or memory is short.
abbrev pub FoldEnds : Type 0
FoldEnds = (source : List ℕ) (schedule : Option (List ℕ)) (settings : Settings) (file : Option (List ℕ)) (before now : Outside) (status : ℕ)
    (text : List ℕ) (order : Option (List ℕ)) (f : IsFoldable text order)
    → IsServed (FoldBy source schedule settings file) before now status → NoFault before now
    → IsGiven before.folder.held source text → IsGivenAny before.folder.held schedule order
    → IsUnlimited f.program f.plan.schedule settings.budget
    → ((status ≡ 0) × IsFoldedWhole text order settings before now) ⊎ (status ≡ 9)

-- `flow`, where no fault is counted, the file is given, and the source is as for `fold`, but for a schedule (`IsSound`).
abbrev pub FlowEnds : Type 0
FlowEnds = (source : List ℕ) (before now : Outside) (status : ℕ) (text : List ℕ)
    → IsServed (Flow source) before now status → NoFault before now
    → IsGiven before.folder.held source text → IsSound text → (status ≡ 0) ⊎ (status ≡ 9)

-- `replay`, where no fault is counted, the files are given, and the certificate is a valid one of the source and the schedule.
abbrev pub ReplayEnds : Type 0
ReplayEnds = (source schedule certificate : List ℕ) (before now : Outside) (status : ℕ) (text order shown : List ℕ)
    → IsServed (Replay source schedule certificate) before now status → NoFault before now
    → IsGiven before.folder.held source text → IsGiven before.folder.held schedule order → IsGiven before.folder.held certificate shown
    → IsValid text order shown → (status ≡ 0) ⊎ (status ≡ 9)

-- What `fold` with a schedule leaves in the file that is named for its certificate, where it ends with status 0, is a valid certificate
-- of the source and the schedule: `replay` takes it.
abbrev pub CertificatesAreValid : Type 0
CertificatesAreValid = (source schedule : List ℕ) (settings : Settings) (file : List ℕ) (before now : Outside) (text order : List ℕ)
    → IsServed (FoldBy source (Some schedule) settings (Some file)) before now 0
    → IsGiven before.folder.held source text → IsGiven before.folder.held schedule order
    → (certificate : List ℕ) × (Holds now.folder.held file certificate × IsValid text order certificate)

-- `run`, where no fault is counted, the files are given, and the source reads as a program that ends on the data within the steps. It
-- writes what the output arrays hold then, or memory is short.
abbrev pub RunEnds : Type 0
RunEnds = (source feed : List ℕ) (limit : ℕ) (before now : Outside) (status : ℕ) (text feed_text : List ℕ) (r : Runnable text feed_text) (last : State)
    → IsServed (Run source feed limit) before now status → NoFault before now
    → IsGiven before.folder.held source text → IsGiven before.folder.held feed feed_text
    → outcome r ≡ Ended last → last.steps ≤ limit
    → ((status ≡ 0) × (now.out.taken ≡ grown before.out.taken (output_text r.tree (outputs r.tree last.store)))) ⊎ (status ≡ 9)

-- ---- What a folded text is

-- From this store both programs end, and their output arrays hold the same then.
pub record EndAlike (target source : Program) (p : List ℤ) (store : Store) : Type 0 where
  pub target_last : State
  pub target_ends : meaning target p store ≡ Ended target_last
  pub source_last : State
  pub source_ends : meaning source p store ≡ Ended source_last
  pub same_outputs : outputs target target_last.store ≡ outputs source source_last.store

-- The text is a program of the language, with the source's name, parameters and context; and for every value of the parameters in the
-- context, and all contents of the arrays that are handed in, it ends, and so does the source, with the same in each output array.
pub record KeepsOutputs (text source_text : List ℕ) : Type 0 where
  pub source : Program
  pub source_reads : Reads source_text source
  pub target : Program
  pub target_reads : ReadsWide text target
  pub name : target.name ≡ source.name
  pub parameters : target.params ≡ source.params
  pub context : target.context ≡ source.context
  pub runs : (p : List ℤ) (store : Store) → Fits source p store → EndAlike target source p store

-- The command compiles the source of this name in the order of this schedule, if one is named.
abbrev pub Compiling : Command → (source : List ℕ) → (schedule : Option (List ℕ)) → Type 0
Compiling (FoldBy its_source its_schedule settings file) source schedule = (its_source ≡ source) × (its_schedule ≡ schedule)
Compiling (Replay its_source its_schedule certificate) source schedule = (its_source ≡ source) × (Some its_schedule ≡ schedule)
Compiling _ source schedule = ⊥

-- Where `fold` or `replay` ends with status 0, the text that it wrote is a program of the language, and for every parameter value of
-- the declared context and every contents of the arrays handed in, that program ends, without leaving its buffers or the range of
-- `int64_t`, with the same contents of every output array as the source text. To leave them is to be stuck. The source text is what
-- the name held when the call began.
abbrev pub OutputsAreKept : Type 0
OutputsAreKept = (command : Command) (source : List ℕ) (schedule : Option (List ℕ)) (before now : Outside) (source_text : List ℕ)
    → Compiling command source schedule → IsServed command before now 0 → held_under before.folder.held source ≡ Some source_text
    → (text : List ℕ) × ((now.out.taken ≡ grown before.out.taken text) × KeepsOutputs text source_text)

-- The same of the source text that the first read of the call answered, whether or not the folder tells what it holds.
abbrev pub OutputsAreKeptAsRead : Type 0
OutputsAreKeptAsRead = (command : Command) (source : List ℕ) (schedule : Option (List ℕ)) (before now : Outside) (source_text : List ℕ) (others : List Read)
    → Compiling command source schedule → IsServed command before now 0 → IsRead ((source, Ok source_text) ∷ others) before.folder now.folder
    → (text : List ℕ) × ((now.out.taken ≡ grown before.out.taken text) × KeepsOutputs text source_text)

-- The text's stores are the source's, in the order of the plan that the schedule reads as, each at its place by folds that the report
-- shows.
pub record KeepsStores (text report source_text : List ℕ) (order : Option (List ℕ)) : Type 0 where
  pub source : Program
  pub source_reads : Reads source_text source
  pub target : Program
  pub target_reads : ReadsWide text target
  pub plan : Plan
  pub planned : HasPlan source order plan
  pub folds : List (ArrayId × Fold)
  pub choices : List (ArrayId × Choice)
  pub loose : List Loose
  pub shown : report ≡ report_text source folds choices loose
  pub runs : (p : List ℤ) (store : Store) → Fits source p store → Follows target source (in_target_order plan.schedule p) (place folds p) p store

-- The same call promises the order of all stores and the place of every element.
abbrev pub StoresFollow : Type 0
StoresFollow = (command : Command) (source : List ℕ) (schedule : Option (List ℕ)) (before now : Outside) (source_text : List ℕ) (order : Option (List ℕ))
    → Compiling command source schedule → IsServed command before now 0
    → IsGiven before.folder.held source source_text → IsGivenAny before.folder.held schedule order
    → (text : List ℕ) × ((report : List ℕ) × ((now.out.taken ≡ grown before.out.taken text) × ((now.err.taken ≡ grown before.err.taken report) × KeepsStores text report source_text order)))

-- ---- Files that aren't read

-- Of these files, in their order, this is the first that wasn't read: the reads of the call are those of the files in front of it, which
-- answered, and its own, which didn't; and the error stream got the line that names it and says why.
pub record IsUnreadTold (names : List (List ℕ)) (before now : Outside) : Type 0 where
  pub front : List (List ℕ)
  pub name : List ℕ
  pub others : List (List ℕ)
  pub order : names ≡ front ++ name ∷ others
  pub texts : List (List ℕ)
  pub each : length texts ≡ length front
  pub fault : ReadFault
  pub reads : IsRead (answered front texts ++ (name, Err fault) ∷ []) before.folder now.folder
  pub why : UnreadWhy
  pub is_why : IsWhy why fault
  pub told : Told before.err.taken before.err now.err (unread_words why ++ name ++ codes "\n")

-- Status 3 tells the first file of the command that wasn't read: those in front of it were.
abbrev pub UnreadIsFirst : Type 0
UnreadIsFirst = (command : Command) (before now : Outside) → IsServed command before now 3 → IsUnreadTold (names_of command) before now

-- Where the last read of the call didn't answer, the command ends with status 3, or memory is short.
abbrev pub UnreadIsTold : Type 0
UnreadIsTold = (command : Command) (before now : Outside) (status : ℕ) (reads : List Read) (name : List ℕ) (fault : ReadFault)
    → IsServed command before now status → IsRead (reads ++ (name, Err fault) ∷ []) before.folder now.folder → (status ≡ 3) ⊎ (status ≡ 9)

-- ---- What is left as it was

-- Status 2 comes only where the words are no command form, and there no other but that of want of memory.
abbrev pub WordsAreTold : Type 0
WordsAreTold = (words : List (List ℕ)) (before now : Outside) (status : ℕ) → Serves words before now status
    → (status ≡ 2 → command_of words ≡ None) × (command_of words ≡ None → (status ≡ 2) ⊎ (status ≡ 9))

-- No name but that of the certificate's file changes what it holds, whatever the status.
abbrev pub OtherFilesStay : Type 0
OtherFilesStay = (words : List (List ℕ)) (before now : Outside) (status : ℕ) (name : List ℕ) → Serves words before now status
    → ((command : Command) → command_of words ≡ Some command → written_file command ≢ Some name)
    → held_under now.folder.held name ≡ held_under before.folder.held name

-- The error stream got the line of a refusal that has the status.
abbrev pub IsLineOf : (before now : Outside) → (status : ℕ) → Type 0
IsLineOf before now status =
    (refusal : Refusal) × ((name : List ℕ) × ((status ≡ status_of refusal) × Told before.err.taken before.err now.err (line_of refusal name)))

-- With all statuses but 0, 9 and 10 no file changed, nothing went to the output, and the error stream got the line of the status.
abbrev pub RefusalsWriteNothing : Type 0
RefusalsWriteNothing = (words : List (List ℕ)) (before now : Outside) (status : ℕ) → Serves words before now status → status ≢ 0 → status ≢ 9 → status ≢ 10
    → (now.folder.held ≡ before.folder.held) × ((now.out.taken ≡ before.out.taken) × IsLineOf before now status)
