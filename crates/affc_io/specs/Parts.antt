-- What the folder and the sinks in memory keep, and what their calls do with it.
use Rattle.std.specs.Prelude.{ℕ, List, [], ◌==◌, Bool, min, Option, None, Some, if◌then◌else◌}
use Rattle.std.specs.List.{list_any}
use Rattle.affc_io.specs.Memory.{NamedFile, held_in}
use Rattle.affc_io.specs.Reads.{Read}
use Rattle.affc_io.specs.State.{FolderState, SinkState}
use Rattle.affc_io.specs.declared.memory.MemFolder.{MemFolder}
use Rattle.affc_io.specs.declared.memory.MemSink.{MemSink}
use Rattle.affc_io.specs.declared.memory.SureSink.{SureSink}

-- the files, in the order in which their names came
abbrev pub folder_files : MemFolder → List NamedFile
folder_files folder = folder.files.items

-- the numbers of the calls that fail
abbrev pub folder_fails : MemFolder → List ℕ
folder_fails folder = folder.fails.items

-- the number of the next call
abbrev pub folder_calls : MemFolder → ℕ
folder_calls folder = folder.calls

abbrev pub folder_faults : MemFolder → ℕ
folder_faults folder = folder.faults

abbrev pub folder_shortages : MemFolder → ℕ
folder_shortages folder = folder.shortages

-- what each read answered, in order
abbrev pub folder_reads : MemFolder → List Read
folder_reads folder = folder.log.reads

-- what it tells: what its names hold, its counts, and its reads
abbrev pub folder_state : MemFolder → FolderState
folder_state folder = record {
  held = Some (held_in (folder_files folder));
  faults = folder_faults folder;
  shortages = folder_shortages folder;
  reads = folder_reads folder;
}

-- the bytes taken so far
abbrev pub mem_bytes : MemSink → List ℕ
mem_bytes sink = sink.bytes.items

-- how many bytes the first write takes at most
abbrev pub mem_first : MemSink → ℕ
mem_first sink = sink.first

-- the numbers of the calls that fail
abbrev pub mem_fails : MemSink → List ℕ
mem_fails sink = sink.fails.items

-- the number of the next call
abbrev pub mem_calls : MemSink → ℕ
mem_calls sink = sink.calls

abbrev pub mem_faults : MemSink → ℕ
mem_faults sink = sink.faults

abbrev pub mem_shortages : MemSink → ℕ
mem_shortages sink = sink.shortages

-- what it tells: the bytes taken so far, and its counts
abbrev pub mem_state : MemSink → SinkState
mem_state sink = record { taken = Some (mem_bytes sink); faults = mem_faults sink; shortages = mem_shortages sink }

-- the bytes taken so far
abbrev pub sure_bytes : SureSink → List ℕ
sure_bytes sink = sink.bytes.items

abbrev pub sure_shortages : SureSink → ℕ
sure_shortages sink = sink.shortages

-- what it tells: the bytes taken so far, and its counts, of which that of faults never rises
abbrev pub sure_state : SureSink → SinkState
sure_state sink = record { taken = Some (sure_bytes sink); faults = 0; shortages = sure_shortages sink }

-- the call with this number is one of those that fail
abbrev pub is_listed : List ℕ → ℕ → Bool
is_listed fails call = list_any (λ listed. listed == call) fails

-- how many of so many bytes the write with this number takes: of the first at most `first`, of the others all
abbrev pub share_of : ℕ → ℕ → ℕ → ℕ
share_of first call len = if call == 0 then min len first else len

-- a file that is there is empty, and none is made
abbrev pub emptied : Option (List ℕ) → Option (List ℕ)
emptied None = None
emptied (Some bytes) = Some []
