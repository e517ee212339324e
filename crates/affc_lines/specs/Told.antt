-- What is told of a refusal.
use Rattle.std.specs.Prelude.{◌≡◌, ◌⊎◌, ℕ, ℤ, List, Option, Some, None}
use Rattle.affc_ast.specs.declared.tree.Program.{Program}
use Rattle.affc_interp.specs.Budget.{Stop, StuckBy, OutOfSteps}
use Rattle.affc_io.specs.Count.{Rose}
use Rattle.affc_io.specs.Front.{IsFront}
use Rattle.affc_io.specs.State.{SinkState}
use Rattle.affc_io.specs.Taken.{grown}
use Rattle.affc_lines.specs.Lines.{status_of, line_of}
use Rattle.affc_lines.specs.Stuck.{stuck_line}
use Rattle.affc_lines.specs.declared.refusal.Refusal.{Refusal}
use Rattle.affc_lines.specs.declared.refusal.Refusal.TheVariants.{Stuck, Memory, Steps}

-- In this call a write to the sink failed, or was short of memory.
abbrev pub Falters : SinkState → SinkState → Type 0
Falters before now = Rose before.faults now.faults ⊎ Rose before.shortages now.shortages

-- Behind `start` the sink took the whole line, or a front of it where a write failed or was short of memory.
pub record Told (start : Option (List ℕ)) (before now : SinkState) (line : List ℕ) : Type 0 where
  pub front : List ℕ
  pub is_front : IsFront line front
  pub taken : now.taken ≡ grown start front
  pub whole : (front ≡ line) ⊎ Falters before now

-- The line of the refusal was told, or that of want of memory, and this is the status of it.
pub record IsTold (refusal : Refusal) (name : List ℕ) (before now : SinkState) (status : ℕ) : Type 0 where
  pub said : Refusal
  pub is : (said ≡ refusal) ⊎ (said ≡ Memory)
  pub is_status : status ≡ status_of said
  pub told : Told before.taken before now (line_of said name)

-- The refusal of a run of the program with these numbers that stops so. Want of memory may come in place of a line.
abbrev pub RefusesStop : Option Stop → Program → (p : List ℤ) → Refusal → Type 0
RefusesStop None program p refusal = refusal ≡ Memory
RefusesStop (Some OutOfSteps) program p refusal = refusal ≡ Steps
RefusesStop (Some (StuckBy cause)) program p refusal = (refusal ≡ Stuck (stuck_line program p cause)) ⊎ (refusal ≡ Memory)
