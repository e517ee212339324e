-- Which answers the folder and the sinks in memory count, as faults and as wants of memory.
use Rattle.std.specs.Prelude.{ℕ, List, length, ◌==◌, ◌&&◌, nat_lt, Bool, true, false, Result, Ok, Err}
use Rattle.affc_io.specs.declared.folder.ReadFault.{ReadFault}
use Rattle.affc_io.specs.declared.folder.WriteFault.{WriteFault}
use Rattle.affc_io.specs.declared.sink.SinkFault.{SinkFault}
use Rattle.affc_io.specs.declared.folder.ReadFault.TheVariants as read
use Rattle.affc_io.specs.declared.folder.WriteFault.TheVariants as written
use Rattle.affc_io.specs.declared.sink.SinkFault.TheVariants as sink

abbrev pub read_failed : {T : Type 0} → Result T ReadFault → Bool
read_failed (Err read.Failed) = true
read_failed answer = false

abbrev pub read_short : {T : Type 0} → Result T ReadFault → Bool
read_short (Err read.Memory) = true
read_short answer = false

abbrev pub write_failed : {T : Type 0} → Result T WriteFault → Bool
write_failed (Err written.Failed) = true
write_failed answer = false

abbrev pub write_short : {T : Type 0} → Result T WriteFault → Bool
write_short (Err written.Memory) = true
write_short answer = false

-- it failed, or took none of a piece that isn't empty
abbrev pub sink_failed : Result ℕ SinkFault → List ℕ → Bool
sink_failed (Ok count) bytes = count == 0 && nat_lt 0 (length bytes)
sink_failed (Err sink.Failed) bytes = true
sink_failed (Err sink.Memory) bytes = false

abbrev pub sink_short : Result ℕ SinkFault → Bool
sink_short (Err sink.Memory) = true
sink_short answer = false
