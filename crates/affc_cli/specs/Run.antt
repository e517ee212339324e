-- What `run` does with a source and its data, and what is wrong with others. `feed` is the data text, DATA's.
use Rattle.std.specs.Prelude.{◌≡◌, ◌≤◌, ◌<◌, ℕ, ℤ, List}
use Rattle.affc_ast.specs.declared.tree.Program.{Program}
use Rattle.affc_ast.specs.Cause.{Cause}
use Rattle.affc_ast.specs.Fits.{outputs}
use Rattle.affc_ast.specs.Meaning.{State, Outcome, Ended, Stuck, meaning}
use Rattle.affc_grammar.specs.Reads.{Reads}
use Rattle.affc_interp.specs.DataText.{FeedReads, IsWrongLine, output_text}
use Rattle.affc_interp.specs.Runs.{start, steps_of}
use Rattle.affc_driver.specs.Refusals.{IsSourceFault}
use Rattle.affc_lines.specs.Stuck.{stuck_line}
use Rattle.affc_lines.specs.declared.refusal.Refusal.{Refusal}
use Rattle.affc_lines.specs.declared.refusal.Refusal.TheVariants.{Source, Stuck as StuckRun, Memory, Steps, Data}

-- The source reads as a program, with the prelude or without it, and the data text is data of it: the numbers p, and the
-- values of each array.
pub record Runnable (source feed : List ℕ) : Type 0 where
  pub tree : Program
  pub reads : Reads source tree
  pub p : List ℤ
  pub values : List (List ℕ)
  pub feeds : FeedReads feed tree p values

-- the run of the program on the data
abbrev pub outcome : {source feed : List ℕ} → Runnable source feed → Outcome
outcome r = meaning r.tree r.p (start r.tree r.p r.values)

-- The run ends within the limit, and the text is what its output arrays hold then.
pub record RunsTo (source feed : List ℕ) (limit : ℕ) (text : List ℕ) : Type 0 where
  pub of : Runnable source feed
  pub last : State
  pub ends : outcome of ≡ Ended last
  pub within : last.steps ≤ limit
  pub written : text ≡ output_text of.tree (outputs of.tree last.store)

-- The run is stuck within the limit, and the line says why.
pub record IsStuck (source feed : List ℕ) (limit : ℕ) (line : List ℕ) : Type 0 where
  pub of : Runnable source feed
  pub cause : Cause
  pub steps : ℕ
  pub stuck : outcome of ≡ Stuck cause steps
  pub within : steps ≤ limit
  pub its_line : line ≡ stuck_line of.tree of.p cause

-- The run takes more steps than the limit before it ends or is stuck.
pub record TakesMore (source feed : List ℕ) (limit : ℕ) : Type 0 where
  pub of : Runnable source feed
  pub more : limit < steps_of (outcome of)

-- The source reads as a program, and the line of this number is the first of the data text that is wrong as data of it.
pub record HasWrongLine (source feed : List ℕ) (number : ℕ) : Type 0 where
  pub tree : Program
  pub reads : Reads source tree
  pub wrong : IsWrongLine feed tree number

-- When a source and a data text are refused so. Want of memory may come at any time.
abbrev pub RunTextCause : (source feed : List ℕ) → (limit : ℕ) → Refusal → Type 0
RunTextCause source feed limit (Source fault) = IsSourceFault source fault
RunTextCause source feed limit (StuckRun line) = IsStuck source feed limit line
RunTextCause source feed limit Memory = Unit {0}
RunTextCause source feed limit Steps = TakesMore source feed limit
RunTextCause source feed limit (Data number) = HasWrongLine source feed number
RunTextCause source feed limit _ = ⊥
