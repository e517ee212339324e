-- When a command is refused.
use Rattle.std.specs.Prelude.{◌≡◌, ◌⊎◌, ◌++◌, ℕ, ◌≤◌, List, [], ◌∷◌, length, Option, None, Some, Ok, Err}
use Rattle.affc_io.specs.Count.{Rose}
use Rattle.affc_io.specs.Files.{Holds, NotHeld, TooLong}
use Rattle.affc_io.specs.Reads.{Read}
use Rattle.affc_io.specs.State.{Files, FolderState}
use Rattle.affc_io.specs.declared.folder.ReadFault.{ReadFault}
use Rattle.affc_io.specs.declared.folder.ReadFault.TheVariants as read
use Rattle.affc_io.specs.declared.folder.TheConstants.{LONGEST_READ}
use Rattle.affc_driver.specs.Accounts.{IsShort}
use Rattle.affc_words.specs.declared.words.Settings.{Settings}
use Rattle.affc_driver.specs.Refusals.{IsSourceRefused, IsPrinted}
use Rattle.affc_lines.specs.Meaning.{IsMeantLine}
use Rattle.affc_cli.specs.Outside.{IsRead, answered}
use Rattle.affc_cli.specs.Replay.{ReplayTextCause}
use Rattle.affc_cli.specs.Run.{RunTextCause}
use Rattle.affc_lines.specs.Schedule.{IsSchedLine, IsIllegalLine}
use Rattle.affc_lines.specs.declared.refusal.Operand.TheVariants as operand
use Rattle.affc_lines.specs.declared.refusal.Refusal.{Refusal}
use Rattle.affc_lines.specs.declared.refusal.Refusal.TheVariants.{Unread, Source, Printed, Schedule, Meaning, Illegal, Budget, Memory}
use Rattle.affc_lines.specs.declared.refusal.UnreadWhy.{UnreadWhy}
use Rattle.affc_lines.specs.declared.refusal.UnreadWhy.TheVariants.{Unreadable, Long}

-- why the file of this name isn't read, from the folder before and after
abbrev pub IsUnread : UnreadWhy → (name : List ℕ) → FolderState → FolderState → Type 0
IsUnread Unreadable name before now = Rose before.faults now.faults ⊎ NotHeld name before now
IsUnread Long name before now = TooLong name before now

-- the fault that a read answered is told so
abbrev pub IsWhy : UnreadWhy → ReadFault → Type 0
IsWhy Unreadable fault = (fault ≡ read.Failed) ⊎ (fault ≡ read.Missing)
IsWhy Long fault = fault ≡ read.Long

-- the names hold these texts, where that is told, and none is longer than a read answers
abbrev pub AreHeld : Option Files → (names texts : List (List ℕ)) → Type 0
AreHeld held [] [] = Unit {0}
AreHeld held (name ∷ names) (text ∷ texts) = Holds held name text × ((length text ≤ LONGEST_READ) × AreHeld held names texts)
AreHeld held _ _ = ⊥

-- The reads of this call are those of the files in front, which answered what they hold, and that of this file, which answered a fault
-- that is told so.
pub record IsFirstUnread (why : UnreadWhy) (front : List (List ℕ)) (name : List ℕ) (before now : FolderState) : Type 0 where
  pub texts : List (List ℕ)
  pub held : AreHeld before.held front texts
  pub fault : ReadFault
  pub reads : IsRead (answered front texts ++ (name, Err fault) ∷ []) before now
  pub is_why : IsWhy why fault
  pub unread : IsUnread why name before now

-- ---- `fold`

-- When a source with a schedule is refused so, by these settings. Want of memory may come at any time, and the end of a budget
-- where there is one that is below the threshold.
abbrev pub TextCause : (source : List ℕ) → (schedule : Option (List ℕ)) → (settings : Settings) → Refusal → Type 0
TextCause source schedule settings (Source fault) = IsSourceRefused source fault
TextCause source schedule settings (Printed place) = IsPrinted source place
TextCause source schedule settings (Schedule line) = IsSchedLine source schedule line
TextCause source schedule settings (Meaning line) = IsMeantLine source schedule line
TextCause source schedule settings (Illegal line) = IsIllegalLine source schedule line
TextCause source schedule settings Budget = IsShort source schedule settings.budget
TextCause source schedule settings Memory = Unit {0}
TextCause source schedule settings _ = ⊥

-- the text that a name holds, where that is told; no text where there is no name
abbrev pub HoldsAny : Option Files → (name text : Option (List ℕ)) → Type 0
HoldsAny held None text = text ≡ None
HoldsAny held (Some name) None = ⊥
HoldsAny held (Some name) (Some text) = Holds held name text

-- the read of a name that may be left out; there is none without a name
abbrev pub answered_any : (name text : Option (List ℕ)) → List Read
answered_any (Some name) (Some text) = (name, Ok text) ∷ []
answered_any _ _ = []

-- The source and the schedule as the reads of this call answered them, in this order: what the names held, where that is told.
pub record FoldTexts (before now : FolderState) (source : List ℕ) (schedule : Option (List ℕ)) : Type 0 where
  pub source_text : List ℕ
  pub source_held : Holds before.held source source_text
  pub schedule_text : Option (List ℕ)
  pub schedule_held : HoldsAny before.held schedule schedule_text
  pub reads : IsRead ((source, Ok source_text) ∷ answered_any schedule schedule_text) before now

-- they were read, and are refused so
pub record TextRefused (refusal : Refusal) (before now : FolderState) (source : List ℕ) (schedule : Option (List ℕ)) (settings : Settings) : Type 0 where
  pub texts : FoldTexts before now source schedule
  pub cause : TextCause texts.source_text texts.schedule_text settings refusal

-- the schedule isn't read, where one is named
abbrev pub IsScheduleUnread : UnreadWhy → (source : List ℕ) → (schedule : Option (List ℕ)) → FolderState → FolderState → Type 0
IsScheduleUnread why source None before now = ⊥
IsScheduleUnread why source (Some schedule) before now = IsFirstUnread why (source ∷ []) schedule before now

-- When `fold` is refused so, from the folder before and after its files were read: the source first, then the schedule, and no
-- text is looked at before. Want of memory may come at any time.
abbrev pub FoldCause : Refusal → (source : List ℕ) → (schedule : Option (List ℕ)) → (settings : Settings) → FolderState → FolderState → Type 0
FoldCause (Unread operand.Source why) source schedule settings before now = IsFirstUnread why [] source before now
FoldCause (Unread operand.Schedule why) source schedule settings before now = IsScheduleUnread why source schedule before now
FoldCause Memory source schedule settings before now = Unit {0}
FoldCause refusal source schedule settings before now = TextRefused refusal before now source schedule settings

-- the file that a refusal of `fold` means: the schedule's, or the source's
abbrev pub fold_file : Refusal → (source : List ℕ) → (schedule : Option (List ℕ)) → List ℕ
fold_file (Unread operand.Schedule why) source (Some schedule) = schedule
fold_file _ source schedule = source

-- ---- `flow`

-- When the trees of a source are refused so. Want of memory may come at any time.
abbrev pub FlowTextCause : (source : List ℕ) → Refusal → Type 0
FlowTextCause source (Source fault) = IsSourceRefused source fault
FlowTextCause source (Printed place) = IsPrinted source place
FlowTextCause source (Meaning line) = IsMeantLine source None line
FlowTextCause source Memory = Unit {0}
FlowTextCause source _ = ⊥

-- The source as the read of this call answered it: what the name held, where that is told.
pub record FlowText (before now : FolderState) (source : List ℕ) : Type 0 where
  pub source_text : List ℕ
  pub source_held : Holds before.held source source_text
  pub reads : IsRead ((source, Ok source_text) ∷ []) before now

-- it was read, and is refused so
pub record FlowRefused (refusal : Refusal) (before now : FolderState) (source : List ℕ) : Type 0 where
  pub texts : FlowText before now source
  pub cause : FlowTextCause texts.source_text refusal

-- When `flow` is refused so, from the folder before and after its file was read. Want of memory may come at any time.
abbrev pub FlowCause : Refusal → (source : List ℕ) → FolderState → FolderState → Type 0
FlowCause (Unread operand.Source why) source before now = IsFirstUnread why [] source before now
FlowCause Memory source before now = Unit {0}
FlowCause refusal source before now = FlowRefused refusal before now source

-- ---- `run`

-- The source and the data text as the reads of this call answered them, in this order: what the names held, where that is told.
pub record RunTexts (before now : FolderState) (source feed : List ℕ) : Type 0 where
  pub source_text : List ℕ
  pub source_held : Holds before.held source source_text
  pub feed_text : List ℕ
  pub feed_held : Holds before.held feed feed_text
  pub reads : IsRead ((source, Ok source_text) ∷ (feed, Ok feed_text) ∷ []) before now

-- both were read, and their texts are refused so
pub record TextsRefused (refusal : Refusal) (before now : FolderState) (source feed : List ℕ) (limit : ℕ) : Type 0 where
  pub texts : RunTexts before now source feed
  pub cause : RunTextCause texts.source_text texts.feed_text limit refusal

-- When `run` is refused so, from the folder before and after both files were read: the source first, then the data, and
-- no text is looked at before. Want of memory may come at any time.
abbrev pub RunCause : Refusal → (source feed : List ℕ) → (limit : ℕ) → FolderState → FolderState → Type 0
RunCause (Unread operand.Source why) source feed limit before now = IsFirstUnread why [] source before now
RunCause (Unread operand.Data why) source feed limit before now = IsFirstUnread why (source ∷ []) feed before now
RunCause Memory source feed limit before now = Unit {0}
RunCause refusal source feed limit before now = TextsRefused refusal before now source feed limit

-- the file that a refusal of `run` means: the data's, or the source's
abbrev pub file_of : Refusal → (source feed : List ℕ) → List ℕ
file_of (Unread operand.Data why) source feed = feed
file_of _ source feed = source

-- ---- `replay`

-- The source, the schedule and the certificate as the reads of this call answered them, in this order: what the names held, where
-- that is told.
pub record ReplayTexts (before now : FolderState) (source schedule certificate : List ℕ) : Type 0 where
  pub source_text : List ℕ
  pub source_held : Holds before.held source source_text
  pub schedule_text : List ℕ
  pub schedule_held : Holds before.held schedule schedule_text
  pub certificate_text : List ℕ
  pub certificate_held : Holds before.held certificate certificate_text
  pub reads : IsRead ((source, Ok source_text) ∷ (schedule, Ok schedule_text) ∷ (certificate, Ok certificate_text) ∷ []) before now

-- all were read, and their texts are refused so
pub record ReplayRefused (refusal : Refusal) (before now : FolderState) (source schedule certificate : List ℕ) : Type 0 where
  pub texts : ReplayTexts before now source schedule certificate
  pub cause : ReplayTextCause texts.source_text texts.schedule_text texts.certificate_text refusal

-- When `replay` is refused so, from the folder before and after its files were read: the source first, then the schedule, then the
-- certificate, and no text is looked at before. Want of memory may come at any time.
abbrev pub ReplayCause : Refusal → (source schedule certificate : List ℕ) → FolderState → FolderState → Type 0
ReplayCause (Unread operand.Source why) source schedule certificate before now = IsFirstUnread why [] source before now
ReplayCause (Unread operand.Schedule why) source schedule certificate before now = IsFirstUnread why (source ∷ []) schedule before now
ReplayCause (Unread operand.Certificate why) source schedule certificate before now =
    IsFirstUnread why (source ∷ schedule ∷ []) certificate before now
ReplayCause Memory source schedule certificate before now = Unit {0}
ReplayCause refusal source schedule certificate before now = ReplayRefused refusal before now source schedule certificate

-- the file that a refusal of `replay` means: the schedule's, the certificate's, or the source's
abbrev pub replay_file : Refusal → (source schedule certificate : List ℕ) → List ℕ
replay_file (Unread operand.Schedule why) source schedule certificate = schedule
replay_file (Unread operand.Certificate why) source schedule certificate = certificate
replay_file _ source schedule certificate = source
