-- The command forms as clap commands, and what these make of words.
use Rattle.std.specs.Prelude.{◌≡◌, Bool, true, false, List, [], ◌∷◌, ℕ, Option, Some, None, codes}
use Rattle.clap.specs.Faults.{fault_of}
use Rattle.clap.specs.Matches.{found_of}
use Rattle.clap.specs.Simple.{App, matches_of, new_rule, new_shape}
use Rattle.clap.specs.Walk.{Rule, rows_of}
use Rattle.clap.specs.declared.parser.matches.ArgMatches.{ArgMatches}
use Rattle.affc_words.specs.Command.{Word, Operand, Named, End, Stray, word_of}

-- The matches where the words have no fault, and nothing where they have one.
abbrev pub Parses : App → List (List ℕ) → Option ArgMatches → Type 0
Parses app words None = fault_of app words ≡ [] → ⊥
Parses app words (Some m) = (fault_of app words ≡ []) × (rows_of (found_of m) ≡ matches_of app words)

-- a word that has to be there
abbrev pub operand_rule : (id : List ℕ) → Rule
operand_rule id = record (new_rule id) { required = true }

-- a word that may be there
abbrev pub further_rule : (id : List ℕ) → Rule
further_rule id = new_rule id

-- `--name value`
abbrev pub option_rule : (name : List ℕ) → Rule
option_rule name = record (new_rule name) { long = Some name }

abbrev pub app_with : (name : List ℕ) → List Rule → App
app_with name rules = record { top = record (new_shape name) { rules = rules; no_binary_name = true; disable_help_flag = true }; subs = [] }

-- `fold SRC [SCHED] [--budget N] [--cost NAME] [--cert FILE]`
abbrev pub fold_app : App
fold_app =
    app_with (codes "fold")
    (operand_rule (codes "source") ∷ further_rule (codes "schedule") ∷ option_rule (codes "budget") ∷ option_rule (codes "cost") ∷ option_rule (codes "cert") ∷ [])

-- `replay SRC SCHED CERT`
abbrev pub replay_app : App
replay_app = app_with (codes "replay") (operand_rule (codes "source") ∷ operand_rule (codes "schedule") ∷ operand_rule (codes "certificate") ∷ [])

-- `run SRC DATA [--steps N]`
abbrev pub run_app : App
run_app = app_with (codes "run") (operand_rule (codes "source") ∷ operand_rule (codes "data") ∷ option_rule (codes "steps") ∷ [])

-- `flow SRC`
abbrev pub flow_app : App
flow_app = app_with (codes "flow") (operand_rule (codes "source") ∷ [])

-- `big N`
abbrev pub big_app : App
big_app = app_with (codes "big") (operand_rule (codes "stages") ∷ [])

abbrev pub clean_by : Word → (behind : Bool) → Bool
clean_by Operand behind = behind
clean_by (Named name value) behind = behind
clean_by End behind = true
clean_by Stray behind = false

-- no word before the first `--` begins with one hyphen alone
abbrev pub is_clean : List (List ℕ) → Bool
is_clean [] = true
is_clean (word ∷ behind) = clean_by (word_of word) (is_clean behind)
