-- What writing a whole piece answers.
use Rattle.std.specs.Prelude.{ℕ, List, take, Result, Ok, Err}
use Rattle.affc_io.specs.declared.put.PutFault.{PutFault}
use Rattle.affc_io.specs.declared.put.PutCause.{PutCause}
use Rattle.affc_io.specs.declared.put.PutCause.TheVariants.{Fault, Memory}

-- what was taken of the piece: all of it, or as many bytes as the fault says, from the front
abbrev pub put_of : {T : Type 0} → Result T PutFault → List ℕ → List ℕ
put_of (Ok x) bytes = bytes
put_of (Err fault) bytes = take fault.written bytes

-- a fault comes only where the first holds, and want of memory only where the second does
abbrev pub IsCausedBy : PutCause → Type 0 → Type 0 → Type 0
IsCausedBy Fault fault memory = fault
IsCausedBy Memory fault memory = memory
