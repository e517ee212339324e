-- The words of the command line.
use Rattle.std.specs.Prelude.{Bool, true, not, ◌&&◌, ◌==◌, ℕ, nat_le, List, [], ◌∷◌, length, map, filter, Option, Some, None, option_map, option_and_then, find, codes, if◌then◌else◌, String, string_bytes}
use Rattle.std.specs.Char.{is_ascii_digit}
use Rattle.std.specs.List.{list_all, list_any, before_first, after_first}
use Rattle.std.specs.Str.{bytes_eq}
use Rattle.std.specs.Str.Parse.{digits_value}
use Rattle.std.specs.declared.alloc.Global.{Global}
use Rattle.affc_words.specs.declared.words.CostName.{CostName}
use Rattle.affc_words.specs.declared.words.CostName.TheVariants.{Words, Sum, Powers}
use Rattle.affc_words.specs.declared.words.Settings.{Settings}

-- The command forms.
pub data Command : Type 0 where
  Fold : (source : List ℕ) (schedule : Option (List ℕ)) (settings : Settings) (certificate : Option (List ℕ)) → Command
  Replay : (source schedule certificate : List ℕ) → Command
  Run : (source feed : List ℕ) (steps : ℕ) → Command
  Flow : (source : List ℕ) → Command
  Big : (stages : ℕ) → Command

-- the bytes of each word
abbrev pub texts_of : List (String Global) → List (List ℕ)
texts_of words = map string_bytes words

-- ---- A word that stands before the first `--`

-- an operand, `--name` or `--name=value`, `--` itself, or a word with a hyphen in front that is none of these
pub data Word : Type 0 where
  Operand : Word
  Named : (name : List ℕ) (value : Option (List ℕ)) → Word
  End : Word
  Stray : Word

abbrev pub is_equals : ℕ → Bool
is_equals b = b == 61

-- what stands behind the first `=`
abbrev pub value_in : List ℕ → Option (List ℕ)
value_in text = if list_any is_equals text then Some (after_first is_equals text) else None

-- a word by what follows its two hyphens
abbrev pub behind_two : List ℕ → Word
behind_two [] = End
behind_two (b ∷ rest) = Named (before_first is_equals (b ∷ rest)) (value_in (b ∷ rest))

-- a word by what follows its first hyphen
abbrev pub behind_one : List ℕ → Word
behind_one [] = Stray
behind_one (b ∷ rest) = if b == 45 then behind_two rest else Stray

abbrev pub word_of : List ℕ → Word
word_of [] = Operand
word_of (b ∷ rest) = if b == 45 then behind_one rest else Operand

-- ---- Words taken apart

-- The operands, and the options, each a name and its value.
pub record Parts : Type 0 where
  pub operands : List (List ℕ)
  pub options : List (List ℕ × List ℕ)

abbrev pub with_operand : List ℕ → Option Parts → Option Parts
with_operand word None = None
with_operand word (Some p) = Some (record { operands = word ∷ p.operands; options = p.options })

abbrev pub with_option : List ℕ → List ℕ → Option Parts → Option Parts
with_option name value None = None
with_option name value (Some p) = Some (record { operands = p.operands; options = (name, value) ∷ p.options })

-- A word with the words behind it. `before` is the name of an option that waits for its value; `apart` takes the words behind.
abbrev pub by_word : (before : Option (List ℕ)) → Word → (word : List ℕ) (behind : List (List ℕ)) → (apart : Option (List ℕ) → Option Parts) → Option Parts
by_word (Some name) Operand word behind apart = with_option name word (apart None)
by_word (Some name) _ word behind apart = None
by_word None Operand word behind apart = with_operand word (apart None)
by_word None (Named name (Some value)) word behind apart = with_option name value (apart None)
by_word None (Named name None) word behind apart = apart (Some name)
by_word None End word behind apart = Some (record { operands = behind; options = [] })
by_word None Stray word behind apart = None

-- The operands and the options of these words: `--name value` and `--name=value` are options, all words behind `--` are operands, and no other word begins with a hyphen.
abbrev pub parts_of : (before : Option (List ℕ)) → List (List ℕ) → Option Parts
parts_of None [] = Some (record { operands = []; options = [] })
parts_of (Some name) [] = None
parts_of before (word ∷ behind) = by_word before (word_of word) word behind (λ waiting. parts_of waiting behind)

-- ---- The forms

abbrev pub among : List ℕ → List (List ℕ) → Bool
among name names = list_any (λ n. bytes_eq n name) names

-- the names without this one
abbrev pub without : List ℕ → List (List ℕ) → List (List ℕ)
without name names = filter (λ n. not (bytes_eq n name)) names

-- each option has one of these names, and no two have the same
abbrev pub are_options : List (List ℕ) → List (List ℕ × List ℕ) → Bool
are_options names [] = true
are_options names (o ∷ options) = among o.0 names && are_options (without o.0 names) options

-- the value of the option of this name
abbrev pub value_of : List ℕ → List (List ℕ × List ℕ) → Option (List ℕ)
value_of name options = option_map (λ o. o.1) (find (λ o. bytes_eq o.0 name) options)

-- one to nineteen decimal digits that write a number from 1 to the most
abbrev pub number_to : (most : ℕ) → List ℕ → Option ℕ
number_to most text =
    let n = digits_value 10 text in
    if nat_le 1 (length text) && nat_le (length text) 19 && list_all is_ascii_digit text && nat_le 1 n && nat_le n most then Some n else None

-- the N of `--steps N`
abbrev pub steps_of : Option (List ℕ) → Option ℕ
steps_of None = Some 10000000
steps_of (Some text) = number_to 1000000000000 text

-- the N of `big N`
abbrev pub stages_of : List ℕ → Option ℕ
stages_of text = number_to 62 text

-- the N of `--budget N`, or none
abbrev pub budget_of : Option (List ℕ) → Option (Option ℕ)
budget_of None = Some None
budget_of (Some text) = option_map Some (number_to 9223372036854775807 text)

-- the NAME of `--cost NAME`
abbrev pub cost_of : Option (List ℕ) → Option CostName
cost_of None = Some Words
cost_of (Some text) =
    if bytes_eq text (codes "words") then Some Words
    else if bytes_eq text (codes "sum") then Some Sum
    else if bytes_eq text (codes "powers") then Some Powers
    else None

abbrev pub settings_with : Option (Option ℕ) → Option CostName → Option Settings
settings_with None cost = None
settings_with (Some budget) None = None
settings_with (Some budget) (Some cost) = Some (record { budget = budget; cost = cost })

abbrev pub settings_of : (budget cost : Option (List ℕ)) → Option Settings
settings_of budget cost = settings_with (budget_of budget) (cost_of cost)

abbrev pub is_empty : List ℕ → Bool
is_empty word = length word == 0

-- a name that isn't empty, where there is one
abbrev pub is_named : Option (List ℕ) → Bool
is_named None = true
is_named (Some name) = not (is_empty name)

abbrev pub fold_by : (source : List ℕ) (schedule : Option (List ℕ)) (settings : Option Settings) (certificate : Option (List ℕ)) → Option Command
fold_by source schedule settings certificate =
    if is_named certificate then option_map (λ s. Fold source schedule s certificate) settings else None

abbrev pub fold_options : List (List ℕ)
fold_options = codes "budget" ∷ codes "cost" ∷ codes "cert" ∷ []

abbrev pub fold_with : (source : List ℕ) (schedule : Option (List ℕ)) (options : List (List ℕ × List ℕ)) → Option Command
fold_with source schedule options =
    if are_options fold_options options
    then fold_by source schedule (settings_of (value_of (codes "budget") options) (value_of (codes "cost") options)) (value_of (codes "cert") options) else None

-- `fold SRC [SCHED] [--budget N] [--cost NAME] [--cert FILE]`
abbrev pub fold_of : (operands : List (List ℕ)) (options : List (List ℕ × List ℕ)) → Option Command
fold_of (source ∷ []) options = fold_with source None options
fold_of (source ∷ schedule ∷ []) options = fold_with source (Some schedule) options
fold_of _ options = None

-- `replay SRC SCHED CERT`
abbrev pub replay_of : (operands : List (List ℕ)) (options : List (List ℕ × List ℕ)) → Option Command
replay_of (source ∷ schedule ∷ certificate ∷ []) options = if are_options [] options then Some (Replay source schedule certificate) else None
replay_of _ options = None

-- `run SRC DATA [--steps N]`
abbrev pub run_of : (operands : List (List ℕ)) (options : List (List ℕ × List ℕ)) → Option Command
run_of (source ∷ feed ∷ []) options =
    if are_options (codes "steps" ∷ []) options
    then option_map (Run source feed) (steps_of (value_of (codes "steps") options)) else None
run_of _ options = None

-- `flow SRC`
abbrev pub flow_of : (operands : List (List ℕ)) (options : List (List ℕ × List ℕ)) → Option Command
flow_of (source ∷ []) options = if are_options [] options then Some (Flow source) else None
flow_of _ options = None

-- `big N`
abbrev pub big_of : (operands : List (List ℕ)) (options : List (List ℕ × List ℕ)) → Option Command
big_of (stages ∷ []) options = if are_options [] options then option_map Big (stages_of stages) else None
big_of _ options = None

abbrev pub form_of : (name : List ℕ) → Parts → Option Command
form_of name parts =
    if bytes_eq name (codes "fold") then fold_of parts.operands parts.options
    else if bytes_eq name (codes "replay") then replay_of parts.operands parts.options
    else if bytes_eq name (codes "run") then run_of parts.operands parts.options
    else if bytes_eq name (codes "flow") then flow_of parts.operands parts.options
    else if bytes_eq name (codes "big") then big_of parts.operands parts.options
    else None

-- what a name with the words behind it stands for
abbrev pub answer : (name : List ℕ) → (words : List (List ℕ)) → Option Command
answer name words = option_and_then (form_of name) (parts_of None words)

-- What the words stand for, if they are one of the command forms: no word is empty, the first is the command's name, and the others are its operands and options.
abbrev pub command_of : List (List ℕ) → Option Command
command_of [] = None
command_of (name ∷ words) =
    if list_any is_empty words then None
    else answer name words
