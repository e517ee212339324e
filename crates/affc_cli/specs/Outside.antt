-- The outside at one moment, and what becomes of it in a call.
use Rattle.std.specs.Prelude.{◌≡◌, ◌≢◌, ◌≤◌, ◌++◌, ℕ, List, [], ◌∷◌, Option, Some, None, Result, Ok, Err, is_some}
use Rattle.affc_io.specs.Files.{held_under}
use Rattle.affc_io.specs.Reads.{Read}
use Rattle.affc_io.specs.State.{Files, FolderState, SinkState, SinkCounts}
use Rattle.affc_io.specs.declared.folder.ReadFault.{ReadFault}

-- The folder and the two standard streams.
pub record Outside : Type 0 where
  pub folder : FolderState
  pub out : SinkState
  pub err : SinkState

abbrev pub outside : (folder : FolderState) (out err : SinkState) → Outside
outside folder out err = record { folder = folder; out = out; err = err }

-- all names but this one hold what they held
pub record OthersStay (file : List ℕ) (before now : Option Files) : Type 0 where
  pub told : is_some now ≡ is_some before
  pub others : (other : List ℕ) → other ≢ file → held_under now other ≡ held_under before other

-- all names hold what they held, but for the file, where one is named
abbrev pub NamesStay : (file : Option (List ℕ)) → (before now : Option Files) → Type 0
NamesStay None before now = now ≡ before
NamesStay (Some file) before now = OthersStay file before now

-- All names but the file stay, where one is named, and no count falls.
pub record Keeps (file : Option (List ℕ)) (before now : Outside) : Type 0 where
  pub names : NamesStay file before.folder.held now.folder.held
  pub faults : before.folder.faults ≤ now.folder.faults
  pub shortages : before.folder.shortages ≤ now.folder.shortages
  pub out : SinkCounts before.out now.out
  pub err : SinkCounts before.err now.err

-- In a part of a call in which nothing is read all names but the file stay, where one is named, and no count falls.
pub record KeepsBut (file : Option (List ℕ)) (before now : FolderState) : Type 0 where
  pub names : NamesStay file before.held now.held
  pub faults : before.faults ≤ now.faults
  pub shortages : before.shortages ≤ now.shortages
  pub reads : now.reads ≡ before.reads

-- The reads of this call, in order, and what each answered.
abbrev pub IsRead : (reads : List Read) → FolderState → FolderState → Type 0
IsRead reads before now = now.reads ≡ before.reads ++ reads

-- reads of these names that answered these texts
abbrev pub answered : (names texts : List (List ℕ)) → List Read
answered (name ∷ names) (text ∷ texts) = (name, Ok text) ∷ answered names texts
answered _ _ = []

-- what has to hold behind a read: the first where it answered, and the second where it didn't
abbrev pub Behind : Result (List ℕ) ReadFault → (text_read failed : Type 0) → Type 0
Behind (Ok text) text_read failed = text_read
Behind (Err fault) text_read failed = failed

-- They are reads of these names from the first on, each once and in their order, and none is behind one that didn't answer.
abbrev pub AreInOrder : (names : List (List ℕ)) → (reads : List Read) → Type 0
AreInOrder names [] = Unit {0}
AreInOrder [] (read ∷ reads) = ⊥
AreInOrder (name ∷ names) (read ∷ reads) = (read.0 ≡ name) × Behind read.1 (AreInOrder names reads) (reads ≡ [])

-- The reads of this call are of these names, in their order, and end with the first that didn't answer, if not before.
abbrev pub IsReadInOrder : (names : List (List ℕ)) → FolderState → FolderState → Type 0
IsReadInOrder names before now = (reads : List Read) × (AreInOrder names reads × IsRead reads before now)
