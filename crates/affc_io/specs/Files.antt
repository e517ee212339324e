-- What the names of a folder hold, where the folder tells it.
use Rattle.std.specs.Prelude.{◌≡◌, ◌<◌, ◌⊎◌, ℕ, List, length, Option, None, Some, IfSome, MatchOption}
use Rattle.affc_io.specs.Count.{Rose}
use Rattle.affc_io.specs.Front.{IsFront}
use Rattle.affc_io.specs.State.{Files, FolderState}
use Rattle.affc_io.specs.declared.folder.TheConstants.{LONGEST_READ}

-- what the name holds, as far as the folder tells
abbrev pub held_under : Option Files → List ℕ → Option (List ℕ)
held_under None name = None
held_under (Some files) name = files name

-- the name holds these bytes, where that is told
abbrev pub Holds : Option Files → List ℕ → List ℕ → Type 0
Holds held name bytes = IfSome held (λ files. files name ≡ Some bytes)

-- more bytes are held than a read answers
abbrev pub IsLong : Option (List ℕ) → Type 0
IsLong held = (bytes : List ℕ) × ((held ≡ Some bytes) × (LONGEST_READ < length bytes))

-- The name isn't held. Where that isn't told, the count of faults rose.
abbrev pub NotHeld : List ℕ → FolderState → FolderState → Type 0
NotHeld name before now = MatchOption before.held (Rose before.faults now.faults) (λ files. files name ≡ None)

-- The name holds more bytes than a read answers. Where that isn't told, the count of faults rose.
abbrev pub TooLong : List ℕ → FolderState → FolderState → Type 0
TooLong name before now = MatchOption before.held (Rose before.faults now.faults) (λ files. IsLong (files name))

-- After a write that failed, the name holds a front of the bytes, or isn't held, as before.
abbrev pub IsLeft : Option Files → Option Files → List ℕ → List ℕ → Type 0
IsLeft old None name bytes = Unit {0}
IsLeft old (Some files) name bytes = IsFrontHeld (files name) ⊎ ((held_under old name ≡ None) × (files name ≡ None))
  where
    IsFrontHeld : Option (List ℕ) → Type 0
    IsFrontHeld held = (front : List ℕ) × ((held ≡ Some front) × IsFront bytes front)
