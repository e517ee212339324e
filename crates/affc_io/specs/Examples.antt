-- A folder of two files: what it holds, what is left of it after a write that failed, and its counts.
use Rattle.std.specs.Prelude.{◌≡◌, ◌<◌, ◌-◌, ◌^◌, ◌⊎◌, ℕ, List, [], ◌∷◌, length, Option, None, Some, Result, Ok, Err, if◌then◌else◌}
use Rattle.std.specs.Str.{bytes_eq}
use Rattle.affc_io.specs.Count.{Rose, StaysWhereTold}
use Rattle.affc_io.specs.Files.{Holds, NotHeld, TooLong, IsLeft}
use Rattle.affc_io.specs.Reads.{Read}
use Rattle.affc_io.specs.State.{Files, FolderState}
use Rattle.affc_io.specs.declared.folder.ReadFault.{ReadFault}
use Rattle.affc_io.specs.declared.folder.ReadFault.TheVariants.{Failed, Missing, Memory}
use Rattle.affc_io.specs.declared.folder.TheConstants.{LONGEST_READ}

abbrev pub a : List ℕ
a = 97 ∷ []

abbrev pub b : List ℕ
b = 98 ∷ []

abbrev pub c : List ℕ
c = 99 ∷ []

-- these bytes under `a`, or nothing; `b` is empty, and `c` isn't held
abbrev pub two_with : Option (List ℕ) → Files
two_with held name = if bytes_eq name a then held else (if bytes_eq name b then Some [] else None)

abbrev pub two : Files
two = two_with (Some (7 ∷ 8 ∷ []))

-- a folder that tells what it holds, or doesn't, and has counted so many faults
abbrev pub folder : Option Files → (faults : ℕ) → FolderState
folder held faults = record { held = held; faults = faults; shortages = 0; reads = [] }

-- ---- What is held

-- all bytes of the name and no others
abbrev pub AllBytesAreHeld : Type 0
AllBytesAreHeld = Holds (Some two) a (7 ∷ 8 ∷ []) × Holds (Some two) b [] × (¬ (Holds (Some two) a (7 ∷ []))) × (¬ (Holds (Some two) c []))

-- a name that is held isn't missing, whatever was counted; where nothing is told a fault was counted
abbrev pub MissingIsNotHeld : Type 0
MissingIsNotHeld = NotHeld c (folder (Some two) 0) (folder (Some two) 0) × (¬ (NotHeld b (folder (Some two) 0) (folder (Some two) 1)))
    × NotHeld b (folder None 0) (folder None 1) × (¬ (NotHeld c (folder None 0) (folder None 0)))

-- bytes past the limit are too long, as many as it are not
abbrev pub LongIsPastTheLimit : Type 0
LongIsPastTheLimit = ((bytes : List ℕ) → LONGEST_READ < length bytes → TooLong a (folder (Some (two_with (Some bytes))) 0) (folder (Some (two_with (Some bytes))) 0))
    × ((bytes : List ℕ) → length bytes ≡ LONGEST_READ → ¬ (TooLong a (folder (Some (two_with (Some bytes))) 0) (folder (Some (two_with (Some bytes))) 1)))
    × (¬ (TooLong c (folder (Some two) 0) (folder (Some two) 1)))
    × TooLong a (folder None 0) (folder None 1) × (¬ (TooLong a (folder None 0) (folder None 0)))

-- ---- After a write of three bytes that failed

-- a front of them is left, which may be none, and not what was held before; a name that was held doesn't go, and one that wasn't may stay so
abbrev pub AFrontIsLeft : Type 0
AFrontIsLeft = IsLeft (Some two) (Some (two_with (Some (1 ∷ 2 ∷ [])))) a (1 ∷ 2 ∷ 3 ∷ []) × IsLeft (Some two) (Some (two_with (Some []))) a (1 ∷ 2 ∷ 3 ∷ [])
    × (¬ (IsLeft (Some two) (Some two) a (1 ∷ 2 ∷ 3 ∷ []))) × (¬ (IsLeft (Some two) (Some (two_with None)) a (1 ∷ 2 ∷ 3 ∷ [])))
    × IsLeft (Some two) (Some two) c (1 ∷ 2 ∷ 3 ∷ [])

-- ---- Counts

-- one more, and no less; at the end of its type a count has risen where it stands
abbrev pub CountsRiseToTheirEnd : Type 0
CountsRiseToTheirEnd = Rose 0 1 × (¬ (Rose 1 1)) × (¬ (Rose 1 0)) × Rose (2 ^ 64 - 1) (2 ^ 64 - 1)

abbrev pub StaysOnlyWhereTold : Type 0
StaysOnlyWhereTold = StaysWhereTold (Some two) 3 3 × (¬ (StaysWhereTold (Some two) 3 4)) × StaysWhereTold {A = Files} None 3 4

-- ---- Reads

-- this was answered, or want of memory
abbrev pub IsOrShort : Result (List ℕ) ReadFault → Result (List ℕ) ReadFault → Type 0
IsOrShort wanted answer = (answer ≡ wanted) ⊎ (answer ≡ Err Memory)

-- in their order: all that `a` holds, that the read of `b` failed, though it is held, and that `c` isn't
abbrev pub AreThreeReads : List Read → Type 0
AreThreeReads reads = (first third : Result (List ℕ) ReadFault)
    × ((reads ≡ (a, first) ∷ (b, Err Failed) ∷ (c, third) ∷ []) × (IsOrShort (Ok (7 ∷ 8 ∷ [])) first × IsOrShort (Err Missing) third))
