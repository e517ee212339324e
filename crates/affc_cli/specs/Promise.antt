-- What the program promises, by the status that it ends with.
use Rattle.std.specs.Prelude.{◌≡◌, ◌≢◌, ◌⊎◌, ℕ, List, [], ◌∷◌, Option, None, Some, MatchOption, Result, Ok, Err, Contains, String, Vec, drop}
use Rattle.std.specs.declared.alloc.Global.{Global}
use Rattle.std.specs.IoError.{error_kind}
use Rattle.std.specs.declared.io.Error.{Error}
use Rattle.std.specs.declared.io.ErrorKind.{ErrorKind}
use Rattle.std.specs.declared.io.ErrorKind.TheVariants.{OutOfMemory}
use Rattle.affc_io.specs.Count.{Rose}
use Rattle.affc_io.specs.Files.{Holds, IsLeft}
use Rattle.affc_io.specs.Front.{IsFront}
use Rattle.affc_io.specs.State.{FolderState}
use Rattle.affc_io.specs.Taken.{grown}
use Rattle.affc_driver.specs.Flows.{FlowsTo}
use Rattle.affc_replay.specs.Replays.{ReplaysTo}
use Rattle.affc_words.specs.declared.words.Settings.{Settings}
use Rattle.affc_words.specs.Command.{Command, Fold, Replay, Run, Flow, Big, command_of, texts_of}
use Rattle.affc_cli.specs.Big.{SumsUp, BigCause}
use Rattle.affc_cli.specs.Budgets.{FoldMakes}
use Rattle.affc_cli.specs.Outside.{Outside, Keeps, IsRead, IsReadInOrder}
use Rattle.affc_lines.specs.Told.{Told}
use Rattle.affc_lines.specs.Lines.{status_of, line_of}
use Rattle.affc_cli.specs.Refusal.{FoldTexts, FoldCause, fold_file, FlowText, FlowCause, RunTexts, RunCause, file_of, ReplayTexts, ReplayCause, replay_file}
use Rattle.affc_cli.specs.Run.{RunsTo}
use Rattle.affc_lines.specs.declared.refusal.Refusal.{Refusal}
use Rattle.affc_lines.specs.declared.refusal.Refusal.TheVariants.{Words, Memory}

-- ---- What each command makes

-- Text and report are what is made of the source and the schedule that were read, by these settings, with a certificate where a file
-- is named for it.
pub record FoldPromises (source : List ℕ) (schedule : Option (List ℕ)) (settings : Settings) (file : Option (List ℕ)) (before now : FolderState) (certificate text report : List ℕ) : Type 0 where
  pub texts : FoldTexts before now source schedule
  pub makes : FoldMakes file texts.source_text texts.schedule_text settings certificate text report

-- Text and report are what the certificate shows of the source and the schedule, all three as they were read.
pub record ReplayPromises (source schedule certificate : List ℕ) (before now : FolderState) (text report : List ℕ) : Type 0 where
  pub texts : ReplayTexts before now source schedule certificate
  pub replays_to : ReplaysTo texts.source_text texts.schedule_text texts.certificate_text text report

-- The text is what the output arrays hold when the source that was read has run on the data text that was read; the report is empty.
pub record RunPromises (source feed : List ℕ) (limit : ℕ) (before now : FolderState) (text report : List ℕ) : Type 0 where
  pub texts : RunTexts before now source feed
  pub runs_to : RunsTo texts.source_text texts.feed_text limit text
  pub no_report : report ≡ []

-- The text tells the last-write trees of the source that was read; the report is empty.
pub record FlowPromises (source : List ℕ) (before now : FolderState) (text report : List ℕ) : Type 0 where
  pub texts : FlowText before now source
  pub flows_to : FlowsTo texts.source_text text
  pub no_report : report ≡ []

-- Nothing was read, and the text sums up what is made of a pipeline of so many stages; the report is empty.
pub record BigPromises (stages : ℕ) (before now : FolderState) (text report : List ℕ) : Type 0 where
  pub reads : IsRead [] before now
  pub sums_up : SumsUp stages text
  pub no_report : report ≡ []

-- The pieces of status 0: the certificate for its file, where one is named, then the text for out, then the report for err.
abbrev pub Promises : Command → (before now : FolderState) → (certificate text report : List ℕ) → Type 0
Promises (Fold source schedule settings file) before now certificate text report = FoldPromises source schedule settings file before now certificate text report
Promises (Replay source schedule shown) before now certificate text report = ReplayPromises source schedule shown before now text report
Promises (Run source feed limit) before now certificate text report = RunPromises source feed limit before now text report
Promises (Flow source) before now certificate text report = FlowPromises source before now text report
Promises (Big stages) before now certificate text report = BigPromises stages before now text report

-- The file that a command writes: that of the certificate, where it is named.
abbrev pub written_file : Command → Option (List ℕ)
written_file (Fold source schedule settings file) = file
written_file _ = None

-- The statuses that a command ends with.
abbrev pub statuses_of : Command → List ℕ
statuses_of (Fold source schedule settings file) = 0 ∷ 3 ∷ 4 ∷ 5 ∷ 6 ∷ 7 ∷ 8 ∷ 9 ∷ 10 ∷ []
statuses_of (Replay source schedule certificate) = 0 ∷ 3 ∷ 4 ∷ 5 ∷ 6 ∷ 9 ∷ 10 ∷ 11 ∷ []
statuses_of (Run source feed limit) = 0 ∷ 3 ∷ 4 ∷ 5 ∷ 9 ∷ 10 ∷ 12 ∷ 13 ∷ []
statuses_of (Flow source) = 0 ∷ 3 ∷ 4 ∷ 5 ∷ 9 ∷ 10 ∷ []
statuses_of (Big stages) = 0 ∷ 4 ∷ 5 ∷ 6 ∷ 7 ∷ 9 ∷ 10 ∷ []

-- The line of a refused command.
abbrev pub refusal_line : Command → Refusal → List ℕ
refusal_line (Fold source schedule settings file) refusal = line_of refusal (fold_file refusal source schedule)
refusal_line (Replay source schedule certificate) refusal = line_of refusal (replay_file refusal source schedule certificate)
refusal_line (Run source feed limit) refusal = line_of refusal (file_of refusal source feed)
refusal_line (Flow source) refusal = line_of refusal source
refusal_line (Big stages) refusal = line_of refusal []

-- The files that a command reads, in order.
abbrev pub names_of : Command → List (List ℕ)
names_of (Fold source None settings file) = source ∷ []
names_of (Fold source (Some schedule) settings file) = source ∷ schedule ∷ []
names_of (Replay source schedule certificate) = source ∷ schedule ∷ certificate ∷ []
names_of (Run source feed limit) = source ∷ feed ∷ []
names_of (Flow source) = source ∷ []
names_of (Big stages) = []

-- When a command is refused so.
abbrev pub Cause : Command → Refusal → FolderState → FolderState → Type 0
Cause (Fold source schedule settings file) refusal before now = FoldCause refusal source schedule settings before now
Cause (Replay source schedule certificate) refusal before now = ReplayCause refusal source schedule certificate before now
Cause (Run source feed limit) refusal before now = RunCause refusal source feed limit before now
Cause (Flow source) refusal before now = FlowCause refusal source before now
Cause (Big stages) refusal before now = IsRead [] before now × BigCause stages refusal

-- ---- How far the pieces are written

-- These are the pieces that the command makes of what it read.
pub record Makes (command : Command) (before now : Outside) : Type 0 where
  pub certificate : List ℕ
  pub text : List ℕ
  pub report : List ℕ
  pub promised : Promises command before.folder now.folder certificate text report

-- the file holds the certificate, where one is named
abbrev pub IsFiled : (file : Option (List ℕ)) → (certificate : List ℕ) → FolderState → Type 0
IsFiled None certificate now = Unit {0}
IsFiled (Some file) certificate now = Holds now.held file certificate

-- All pieces were written.
pub record Written (command : Command) (before now : Outside) : Type 0 where
  pub makes : Makes command before now
  pub filed : IsFiled (written_file command) makes.certificate now.folder
  pub out : now.out.taken ≡ grown before.out.taken makes.text
  pub err : now.err.taken ≡ grown before.err.taken makes.report

-- The write of the certificate's file failed: the file holds a front of the certificate, or nothing, as before. Nothing went to out.
pub record FiledInPart (command : Command) (before now : Outside) : Type 0 where
  pub makes : Makes command before now
  pub file : List ℕ
  pub named : written_file command ≡ Some file
  pub left : IsLeft before.folder.held now.folder.held file makes.certificate
  pub out : now.out.taken ≡ before.out.taken

-- The certificate was written, where its file is named, and a front of the text, which isn't the whole.
pub record WrittenInPart (command : Command) (before now : Outside) : Type 0 where
  pub makes : Makes command before now
  pub filed : IsFiled (written_file command) makes.certificate now.folder
  pub front : List ℕ
  pub is_front : IsFront makes.text front
  pub cut : front ≢ makes.text
  pub out : now.out.taken ≡ grown before.out.taken front

-- The certificate and the text were written, and behind them a front of the report, which isn't the whole.
pub record ReportedInPart (command : Command) (before now : Outside) : Type 0 where
  pub makes : Makes command before now
  pub filed : IsFiled (written_file command) makes.certificate now.folder
  pub out : now.out.taken ≡ grown before.out.taken makes.text
  pub front : List ℕ
  pub is_front : IsFront makes.report front
  pub cut : front ≢ makes.report

-- ---- How a command ends

-- No file was written, nothing went to out, and err got the line of a refusal that has this status and its cause.
pub record IsRefused (command : Command) (before now : Outside) (status : ℕ) : Type 0 where
  pub refusal : Refusal
  pub is_status : status ≡ status_of refusal
  pub cause : Cause command refusal before.folder now.folder
  pub names : now.folder.held ≡ before.folder.held
  pub out : now.out.taken ≡ before.out.taken
  pub told : Told before.err.taken before.err now.err (refusal_line command refusal)

-- Memory was short before the first piece was begun; no file was written, nothing went to out, and err got the line.
pub record ShortBefore (command : Command) (before now : Outside) : Type 0 where
  pub reads : IsReadInOrder (names_of command) before.folder now.folder
  pub names : now.folder.held ≡ before.folder.held
  pub out : now.out.taken ≡ before.out.taken
  pub told : Told before.err.taken before.err now.err (line_of Memory [])

-- The folder was short of memory while the certificate was written; err got the line.
pub record ShortFiling (command : Command) (before now : Outside) : Type 0 where
  pub written : FiledInPart command before now
  pub short : Rose before.folder.shortages now.folder.shortages
  pub told : Told before.err.taken before.err now.err (line_of Memory [])

-- out was short of memory while the text was written; err got the line behind that.
pub record ShortWithin (command : Command) (before now : Outside) : Type 0 where
  pub written : WrittenInPart command before now
  pub short : Rose before.out.shortages now.out.shortages
  pub told : Told before.err.taken before.err now.err (line_of Memory [])

-- err was short of memory while the report was written; it got the line behind that.
pub record ShortBehind (command : Command) (before now : Outside) : Type 0 where
  pub written : ReportedInPart command before now
  pub short : Rose before.err.shortages now.err.shortages
  pub told : Told (grown before.err.taken written.front) before.err now.err (line_of Memory [])

-- The write of the certificate failed; the pieces end there, and no line is written.
pub record FailedFiling (command : Command) (before now : Outside) : Type 0 where
  pub written : FiledInPart command before now
  pub fault : Rose before.folder.faults now.folder.faults
  pub silent : now.err.taken ≡ before.err.taken

-- A write to out failed; the pieces end there, and no line is written.
pub record FailedWithin (command : Command) (before now : Outside) : Type 0 where
  pub written : WrittenInPart command before now
  pub fault : Rose before.out.faults now.out.faults
  pub silent : now.err.taken ≡ before.err.taken

-- A write to err failed; the report ends there, and no line is written.
pub record FailedBehind (command : Command) (before now : Outside) : Type 0 where
  pub written : ReportedInPart command before now
  pub fault : Rose before.err.faults now.err.faults
  pub err : now.err.taken ≡ grown before.err.taken written.front

-- short of memory before the pieces, or in one of them
abbrev pub Short : Command → (before now : Outside) → Type 0
Short command before now = ShortBefore command before now ⊎ (ShortFiling command before now ⊎ (ShortWithin command before now ⊎ ShortBehind command before now))

-- failed in one of the pieces
abbrev pub Failed : Command → (before now : Outside) → Type 0
Failed command before now = FailedFiling command before now ⊎ (FailedWithin command before now ⊎ FailedBehind command before now)

-- What a command does, by its status: done, short of memory, failed in writing, or refused. All names but the certificate's file stay.
pub record Runs (command : Command) (before now : Outside) (status : ℕ) : Type 0 where
  pub answers : Contains (statuses_of command) status
  pub keeps : Keeps (written_file command) before now
  pub done : status ≡ 0 → Written command before now
  pub short : status ≡ 9 → Short command before now
  pub failed : status ≡ 10 → Failed command before now
  pub refused : status ≢ 0 → status ≢ 9 → status ≢ 10 → IsRefused command before now status

-- Nothing was read, nothing went to out, and err got this refusal's line.
pub record IsSaid (said : Refusal) (before now : Outside) (status : ℕ) : Type 0 where
  pub is_status : status ≡ status_of said
  pub keeps : Keeps None before now
  pub folder : now.folder ≡ before.folder
  pub out : now.out ≡ before.out
  pub told : Told before.err.taken before.err now.err (line_of said [])

-- What words get that are no command form: status 2 and its line, or those of want of memory.
abbrev pub WordsRefused : (before now : Outside) → (status : ℕ) → Type 0
WordsRefused before now status = IsSaid Words before now status ⊎ IsSaid Memory before now status

-- What the program does: the command that the words stand for, and status 2 only where they stand for none.
abbrev pub Serves : (words : List (List ℕ)) → (before now : Outside) → (status : ℕ) → Type 0
Serves words before now status =
    MatchOption (command_of words) (WordsRefused before now status) (λ command. Runs command before now status)

-- Where the system gives no words: want of memory for them is told, and any other reason is answered as words that are
-- no command form.
pub record GivesNone (kind : ErrorKind) (before now : Outside) (status : ℕ) : Type 0 where
  pub short : kind ≡ OutOfMemory → IsSaid Memory before now status
  pub others : kind ≢ OutOfMemory → IsSaid Words before now status

-- What the program does with the words that the system gives, of which the first is its name, or with none.
abbrev pub ServesGiven : Result (Vec (String Global) Global) Error → (before now : Outside) → (status : ℕ) → Type 0
ServesGiven (Ok words) before now status = Serves (texts_of (drop 1 words.items)) before now status
ServesGiven (Err error) before now status = GivesNone (error_kind error) before now status
