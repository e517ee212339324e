-- What a folder or a sink is at one moment, and what no call of it turns back.
use Rattle.std.specs.Prelude.{◌≡◌, ◌≤◌, ℕ, List, Option}
use Rattle.affc_io.specs.Reads.{Read}

-- what each name holds: a list of bytes, or nothing
abbrev pub Files : Type 0
Files = List ℕ → Option (List ℕ)

-- A folder: what its names hold, where it tells that, how many faults it has counted, how many calls have answered
-- want of memory, and what each read answered, in order.
pub record FolderState : Type 0 where
  pub held : Option Files
  pub faults : ℕ
  pub shortages : ℕ
  pub reads : List Read

-- A sink: what it has taken, where it tells that, how many faults it has counted, and how many calls have answered want
-- of memory.
pub record SinkState : Type 0 where
  pub taken : Option (List ℕ)
  pub faults : ℕ
  pub shortages : ℕ

-- No name changes, and no count falls.
pub record FolderKeeps (before now : FolderState) : Type 0 where
  pub names : now.held ≡ before.held
  pub faults : before.faults ≤ now.faults
  pub shortages : before.shortages ≤ now.shortages

-- No count falls.
pub record SinkCounts (before now : SinkState) : Type 0 where
  pub faults : before.faults ≤ now.faults
  pub shortages : before.shortages ≤ now.shortages
