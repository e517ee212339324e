-- What the reads of a folder answered.
use Rattle.std.specs.Prelude.{ℕ, List, Result, Ok, Err, Vec}
use Rattle.std.specs.declared.alloc.Global.{Global}
use Rattle.affc_io.specs.declared.folder.ReadFault.{ReadFault}

-- the name that was read, and the bytes that were answered, or the fault
abbrev pub Read : Type 0
Read = List ℕ × Result (List ℕ) ReadFault

-- the bytes of an answer, or its fault
abbrev pub answer_of : Result (Vec ℕ Global) ReadFault → Result (List ℕ) ReadFault
answer_of (Ok bytes) = Ok bytes.items
answer_of (Err fault) = Err fault
