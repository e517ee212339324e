-- How a command ends at the folder and the two sinks.
use Rattle.std.specs.Prelude.{◌≡◌, ◌≢◌, ◌⊎◌, ℕ, List, [], ◌∷◌, Option, Some, None, Result, Ok, Err}
use Rattle.affc_io.specs.Count.{Rose}
use Rattle.affc_io.specs.Files.{Holds, IsLeft}
use Rattle.affc_io.specs.Front.{IsFront}
use Rattle.affc_io.specs.State.{FolderState, SinkState}
use Rattle.affc_io.specs.declared.folder.ReadFault.{ReadFault}
use Rattle.affc_io.specs.declared.folder.ReadFault.TheVariants as read
use Rattle.affc_io.specs.Taken.{grown}
use Rattle.affc_lines.specs.Told.{Told, IsTold}
use Rattle.affc_cli.specs.Outside.{IsRead}
use Rattle.affc_lines.specs.Lines.{line_of}
use Rattle.affc_cli.specs.Refusal.{IsFirstUnread}
use Rattle.affc_cli.specs.declared.pieces.Pieces.{Pieces}
use Rattle.affc_lines.specs.declared.refusal.Operand.{Operand}
use Rattle.affc_lines.specs.declared.refusal.Refusal.{Refusal}
use Rattle.affc_lines.specs.declared.refusal.Refusal.TheVariants.{Unread, Memory}
use Rattle.affc_lines.specs.declared.refusal.UnreadWhy.TheVariants.{Unreadable, Long}

-- ---- Text and report

-- err took the report
pub record IsReported (report : List ℕ) (err now_err : SinkState) (status : ℕ) : Type 0 where
  pub is_status : status ≡ 0
  pub taken : now_err.taken ≡ grown err.taken report

-- err was short of memory behind a front of the report, which isn't the whole, and that was told
pub record IsReportShort (report : List ℕ) (err now_err : SinkState) (status : ℕ) : Type 0 where
  pub is_status : status ≡ 9
  pub front : List ℕ
  pub is_front : IsFront report front
  pub cut : front ≢ report
  pub short : Rose err.shortages now_err.shortages
  pub told : Told (grown err.taken front) err now_err (line_of Memory [])

-- a write to err failed behind a front of the report, which isn't the whole, and nothing was told
pub record IsReportFailed (report : List ℕ) (err now_err : SinkState) (status : ℕ) : Type 0 where
  pub is_status : status ≡ 10
  pub front : List ℕ
  pub is_front : IsFront report front
  pub cut : front ≢ report
  pub fault : Rose err.faults now_err.faults
  pub taken : now_err.taken ≡ grown err.taken front

-- what becomes of a report
abbrev pub Reports : (report : List ℕ) → (err now_err : SinkState) → (status : ℕ) → Type 0
Reports report err now_err status = IsReported report err now_err status ⊎ IsReportShort report err now_err status ⊎ IsReportFailed report err now_err status

-- out took the text, and the report followed
pub record IsPut (text report : List ℕ) (out now_out err now_err : SinkState) (status : ℕ) : Type 0 where
  pub taken : now_out.taken ≡ grown out.taken text
  pub reports : Reports report err now_err status

-- out was short of memory behind a front of the text, which isn't the whole, and that was told
pub record IsPutShort (text : List ℕ) (out now_out err now_err : SinkState) (status : ℕ) : Type 0 where
  pub is_status : status ≡ 9
  pub front : List ℕ
  pub is_front : IsFront text front
  pub cut : front ≢ text
  pub taken : now_out.taken ≡ grown out.taken front
  pub short : Rose out.shortages now_out.shortages
  pub told : Told err.taken err now_err (line_of Memory [])

-- a write to out failed behind a front of the text, which isn't the whole, and nothing was told
pub record IsPutFailed (text : List ℕ) (out now_out err now_err : SinkState) (status : ℕ) : Type 0 where
  pub is_status : status ≡ 10
  pub front : List ℕ
  pub is_front : IsFront text front
  pub cut : front ≢ text
  pub taken : now_out.taken ≡ grown out.taken front
  pub fault : Rose out.faults now_out.faults
  pub silent : now_err.taken ≡ err.taken

-- what becomes of a text and a report
abbrev pub Puts : (text report : List ℕ) → (out now_out err now_err : SinkState) → (status : ℕ) → Type 0
Puts text report out now_out err now_err status =
    IsPut text report out now_out err now_err status ⊎ (IsPutShort text out now_out err now_err status ⊎ IsPutFailed text out now_out err now_err status)

-- the refusal was told, and out took nothing
pub record IsRefusal (refusal : Refusal) (name : List ℕ) (out now_out err now_err : SinkState) (status : ℕ) : Type 0 where
  pub untouched : now_out.taken ≡ out.taken
  pub told : IsTold refusal name err now_err status

-- what becomes of a command's text and report, or of its refusal, in which `name` is the file that is meant
abbrev pub Ends : Result Pieces Refusal → (name : List ℕ) → (out now_out err now_err : SinkState) → (status : ℕ) → Type 0
Ends (Ok made) name out now_out err now_err status = Puts made.text.items made.report.items out now_out err now_err status
Ends (Err refusal) name out now_out err now_err status = IsRefusal refusal name out now_out err now_err status

-- ---- How a command ends that writes a file first

-- the file holds the certificate, and the other pieces followed
pub record IsFiledFirst (file certificate text report : List ℕ) (now : FolderState) (out now_out err now_err : SinkState) (status : ℕ) : Type 0 where
  pub filed : Holds now.held file certificate
  pub puts : Puts text report out now_out err now_err status

-- the folder was short of memory, and that was told
pub record IsFilingShort (file certificate : List ℕ) (before now : FolderState) (out now_out err now_err : SinkState) (status : ℕ) : Type 0 where
  pub is_status : status ≡ 9
  pub left : IsLeft before.held now.held file certificate
  pub short : Rose before.shortages now.shortages
  pub untouched : now_out.taken ≡ out.taken
  pub told : Told err.taken err now_err (line_of Memory [])

-- the write failed, and nothing was told
pub record IsFilingFailed (file certificate : List ℕ) (before now : FolderState) (out now_out err now_err : SinkState) (status : ℕ) : Type 0 where
  pub is_status : status ≡ 10
  pub left : IsLeft before.held now.held file certificate
  pub fault : Rose before.faults now.faults
  pub untouched : now_out.taken ≡ out.taken
  pub silent : now_err.taken ≡ err.taken

-- what becomes of a command's pieces, or of its refusal, with the folder before and after
abbrev pub EndsFiled : Result Pieces Refusal → (file name : List ℕ) → (before now : FolderState) → (out now_out err now_err : SinkState) → (status : ℕ) → Type 0
EndsFiled (Ok made) file name before now out now_out err now_err status =
    IsFiledFirst file made.certificate.items made.text.items made.report.items now out now_out err now_err status
    ⊎ (IsFilingShort file made.certificate.items before now out now_out err now_err status ⊎ IsFilingFailed file made.certificate.items before now out now_out err now_err status)
EndsFiled (Err refusal) file name before now out now_out err now_err status = (now ≡ before) × IsRefusal refusal name out now_out err now_err status

-- the same, where a file may be named
abbrev pub EndsWith : (file : Option (List ℕ)) → Result Pieces Refusal → (name : List ℕ) → (before now : FolderState) → (out now_out err now_err : SinkState) → (status : ℕ) → Type 0
EndsWith None made name before now out now_out err now_err status = (now ≡ before) × Ends made name out now_out err now_err status
EndsWith (Some file) made name before now out now_out err now_err status = EndsFiled made file name before now out now_out err now_err status

-- ---- Reading a file

-- the name was read once, and this was answered
abbrev pub IsReadOnce : (name : List ℕ) → FolderState → FolderState → Type 0
IsReadOnce name before now = (answer : Result (List ℕ) ReadFault) × IsRead ((name, answer) ∷ []) before now

-- the refusal of this file, whose read answered the fault
abbrev pub unread_as : Operand → ReadFault → Refusal
unread_as file read.Failed = Unread file Unreadable
unread_as file read.Missing = Unread file Unreadable
unread_as file read.Long = Unread file Long
unread_as file read.Memory = Memory

-- when this file isn't read behind those in front, and the command is refused so; want of memory may come at any time
abbrev pub UnheldCause : Operand → Refusal → (front : List (List ℕ)) → (name : List ℕ) → FolderState → FolderState → Type 0
UnheldCause file (Unread which why) front name before now = (which ≡ file) × IsFirstUnread why front name before now
UnheldCause file Memory front name before now = Unit {0}
UnheldCause file _ front name before now = ⊥
