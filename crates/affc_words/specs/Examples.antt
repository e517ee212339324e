-- What words stand for, at examples.
use Rattle.std.specs.Prelude.{◌≡◌, true, is_none, List, [], ◌∷◌, ℕ, map, None, Some, codes}
use Rattle.std.specs.List.{list_all}
use Rattle.affc_words.specs.Command.{Fold, Replay, Run, Flow, Big, command_of}
use Rattle.affc_words.specs.declared.words.CostName.{CostName}
use Rattle.affc_words.specs.declared.words.CostName.TheVariants.{Words as Plain, Sum, Powers}
use Rattle.affc_words.specs.declared.words.Settings.{Settings}

abbrev pub Words : Type 0
Words = List (List ℕ)

-- by words and without a budget, with one, and by another cost
abbrev pub plain : Settings
plain = record { budget = None; cost = Plain }

abbrev pub within : ℕ → Settings
within n = record { budget = Some n; cost = Plain }

abbrev pub by : CostName → Settings
by cost = record { budget = None; cost = cost }

abbrev pub AreNone : List Words → Type 0
AreNone lists = list_all (λ words. is_none (command_of words)) lists ≡ true

-- too few words, or too many
abbrev pub CountsAreRight : Type 0
CountsAreRight = AreNone (
    []
    ∷ (codes "fold" ∷ [])
    ∷ (codes "fold" ∷ codes "a" ∷ codes "b" ∷ codes "c" ∷ [])
    ∷ (codes "fold" ∷ codes "a" ∷ codes "b" ∷ codes "--" ∷ codes "c" ∷ [])
    ∷ (codes "fold" ∷ codes "--" ∷ [])
    ∷ (codes "run" ∷ codes "a" ∷ [])
    ∷ (codes "run" ∷ codes "a" ∷ codes "b" ∷ codes "c" ∷ [])
    ∷ (codes "flow" ∷ [])
    ∷ (codes "flow" ∷ codes "a" ∷ codes "b" ∷ [])
    ∷ (codes "replay" ∷ codes "a" ∷ [])
    ∷ (codes "replay" ∷ codes "a" ∷ codes "b" ∷ [])
    ∷ (codes "replay" ∷ codes "a" ∷ codes "b" ∷ codes "c" ∷ codes "d" ∷ [])
    ∷ (codes "big" ∷ [])
    ∷ (codes "big" ∷ codes "8" ∷ codes "8" ∷ [])
    ∷ [])

-- an unknown name, or a word that asks for help or a version
abbrev pub NamesAreKnown : Type 0
NamesAreKnown = AreNone (
    (codes "unfold" ∷ codes "a" ∷ [])
    ∷ (codes "help" ∷ [])
    ∷ (codes "--help" ∷ [])
    ∷ (codes "fold" ∷ codes "--help" ∷ [])
    ∷ (codes "fold" ∷ codes "-h" ∷ [])
    ∷ (codes "run" ∷ codes "a" ∷ codes "b" ∷ codes "--version" ∷ [])
    ∷ (codes "run" ∷ codes "a" ∷ codes "b" ∷ codes "-V" ∷ [])
    ∷ [])

-- an empty word or value, or a word with a hyphen in front that is no option
abbrev pub WordsAreWhole : Type 0
WordsAreWhole = AreNone (
    ([] ∷ [])
    ∷ (codes "fold" ∷ [] ∷ [])
    ∷ (codes "run" ∷ [] ∷ codes "b" ∷ [])
    ∷ (codes "fold" ∷ codes "--" ∷ [] ∷ [])
    ∷ (codes "fold" ∷ codes "a" ∷ [] ∷ [])
    ∷ (codes "fold" ∷ codes "-" ∷ [])
    ∷ (codes "fold" ∷ codes "-x" ∷ [])
    ∷ (codes "run" ∷ codes "a" ∷ codes "b" ∷ codes "--steps=" ∷ [])
    ∷ (codes "run" ∷ codes "a" ∷ codes "b" ∷ codes "--steps" ∷ [] ∷ [])
    ∷ (codes "fold" ∷ codes "a" ∷ codes "--cert=" ∷ [])
    ∷ (codes "fold" ∷ codes "a" ∷ codes "--cert" ∷ [] ∷ [])
    ∷ (codes "replay" ∷ codes "a" ∷ codes "b" ∷ [] ∷ [])
    ∷ (codes "replay" ∷ codes "a" ∷ codes "b" ∷ codes "-c" ∷ [])
    ∷ (codes "big" ∷ codes "-8" ∷ [])
    ∷ [])

-- an option that the form hasn't, twice, without its value, or with one that is no such number
abbrev pub OptionsAreTheForms : Type 0
OptionsAreTheForms = AreNone (
    (codes "fold" ∷ codes "a" ∷ codes "--steps" ∷ codes "5" ∷ [])
    ∷ (codes "fold" ∷ codes "a" ∷ codes "--=b" ∷ [])
    ∷ (codes "fold" ∷ codes "a" ∷ codes "--budget" ∷ [])
    ∷ (codes "fold" ∷ codes "a" ∷ codes "--budget" ∷ codes "0" ∷ [])
    ∷ (codes "fold" ∷ codes "a" ∷ codes "--budget=9223372036854775808" ∷ [])
    ∷ (codes "fold" ∷ codes "a" ∷ codes "--budget=00000000000000000007" ∷ [])
    ∷ (codes "fold" ∷ codes "--budget=5" ∷ codes "a" ∷ codes "--budget" ∷ codes "5" ∷ [])
    ∷ (codes "fold" ∷ codes "--budget" ∷ codes "a" ∷ [])
    ∷ (codes "fold" ∷ codes "--budget=5" ∷ [])
    ∷ (codes "fold" ∷ codes "a" ∷ codes "--cost" ∷ [])
    ∷ (codes "fold" ∷ codes "a" ∷ codes "--cost=" ∷ [])
    ∷ (codes "fold" ∷ codes "a" ∷ codes "--cost" ∷ codes "word" ∷ [])
    ∷ (codes "fold" ∷ codes "a" ∷ codes "--cost=Sum" ∷ [])
    ∷ (codes "fold" ∷ codes "--cost=sum" ∷ codes "a" ∷ codes "--cost" ∷ codes "sum" ∷ [])
    ∷ (codes "run" ∷ codes "a" ∷ codes "b" ∷ codes "--cost=sum" ∷ [])
    ∷ (codes "run" ∷ codes "a" ∷ codes "b" ∷ codes "--budget=5" ∷ [])
    ∷ (codes "flow" ∷ codes "a" ∷ codes "--budget=5" ∷ [])
    ∷ (codes "flow" ∷ codes "a" ∷ codes "--cert=c" ∷ [])
    ∷ (codes "fold" ∷ codes "a" ∷ codes "--cert" ∷ [])
    ∷ (codes "fold" ∷ codes "a" ∷ codes "--cert" ∷ codes "-c" ∷ [])
    ∷ (codes "fold" ∷ codes "--cert=c" ∷ codes "a" ∷ codes "--cert" ∷ codes "c" ∷ [])
    ∷ (codes "fold" ∷ codes "--cert" ∷ codes "a" ∷ [])
    ∷ (codes "replay" ∷ codes "a" ∷ codes "b" ∷ codes "--cert=c" ∷ [])
    ∷ (codes "replay" ∷ codes "a" ∷ codes "b" ∷ codes "c" ∷ codes "--budget=5" ∷ [])
    ∷ (codes "big" ∷ codes "8" ∷ codes "--budget=5" ∷ [])
    ∷ (codes "big" ∷ codes "0" ∷ [])
    ∷ (codes "big" ∷ codes "63" ∷ [])
    ∷ (codes "big" ∷ codes "+8" ∷ [])
    ∷ (codes "big" ∷ codes "8x" ∷ [])
    ∷ (codes "big" ∷ codes "00000000000000000007" ∷ [])
    ∷ (codes "run" ∷ codes "a" ∷ codes "b" ∷ codes "--step=5" ∷ [])
    ∷ (codes "run" ∷ codes "a" ∷ codes "b" ∷ codes "--steps" ∷ [])
    ∷ (codes "run" ∷ codes "a" ∷ codes "--steps" ∷ codes "--" ∷ codes "b" ∷ [])
    ∷ (codes "run" ∷ codes "--steps=5" ∷ codes "a" ∷ codes "b" ∷ codes "--steps=5" ∷ [])
    ∷ (codes "run" ∷ codes "a" ∷ codes "b" ∷ codes "--steps" ∷ codes "0" ∷ [])
    ∷ (codes "run" ∷ codes "a" ∷ codes "b" ∷ codes "--steps" ∷ codes "-5" ∷ [])
    ∷ (codes "run" ∷ codes "a" ∷ codes "b" ∷ codes "--steps=-5" ∷ [])
    ∷ (codes "run" ∷ codes "a" ∷ codes "b" ∷ codes "--steps=+5" ∷ [])
    ∷ (codes "run" ∷ codes "a" ∷ codes "b" ∷ codes "--steps=5=5" ∷ [])
    ∷ (codes "run" ∷ codes "a" ∷ codes "b" ∷ codes "--steps=1000000000001" ∷ [])
    ∷ (codes "run" ∷ codes "a" ∷ codes "b" ∷ codes "--steps=00000000000000000007" ∷ [])
    ∷ [])

-- words behind `--` are operands, whatever they begin with
abbrev pub OperandsFollowTheEnd : Type 0
OperandsFollowTheEnd = map command_of (
    (codes "fold" ∷ codes "a" ∷ [])
    ∷ (codes "fold" ∷ codes "a" ∷ codes "--" ∷ [])
    ∷ (codes "fold" ∷ codes "--" ∷ codes "-" ∷ [])
    ∷ (codes "fold" ∷ codes "--" ∷ codes "--" ∷ [])
    ∷ (codes "fold" ∷ codes "help" ∷ [])
    ∷ (codes "fold" ∷ codes "a" ∷ codes "b" ∷ [])
    ∷ (codes "fold" ∷ codes "a" ∷ codes "--" ∷ codes "-b" ∷ [])
    ∷ (codes "run" ∷ codes "--" ∷ codes "-a" ∷ codes "-b" ∷ [])
    ∷ (codes "run" ∷ codes "a" ∷ codes "b" ∷ codes "--" ∷ [])
    ∷ (codes "flow" ∷ codes "--" ∷ codes "-a" ∷ [])
    ∷ (codes "replay" ∷ codes "a" ∷ codes "b" ∷ codes "c" ∷ [])
    ∷ (codes "replay" ∷ codes "a" ∷ codes "--" ∷ codes "-b" ∷ codes "--" ∷ [])
    ∷ (codes "big" ∷ codes "1" ∷ [])
    ∷ (codes "big" ∷ codes "62" ∷ codes "--" ∷ [])
    ∷ (codes "big" ∷ codes "--" ∷ codes "007" ∷ [])
    ∷ [])
    ≡ Some (Fold (codes "a") None plain None)
    ∷ Some (Fold (codes "a") None plain None)
    ∷ Some (Fold (codes "-") None plain None)
    ∷ Some (Fold (codes "--") None plain None)
    ∷ Some (Fold (codes "help") None plain None)
    ∷ Some (Fold (codes "a") (Some (codes "b")) plain None)
    ∷ Some (Fold (codes "a") (Some (codes "-b")) plain None)
    ∷ Some (Run (codes "-a") (codes "-b") 10000000)
    ∷ Some (Run (codes "a") (codes "b") 10000000)
    ∷ Some (Flow (codes "-a"))
    ∷ Some (Replay (codes "a") (codes "b") (codes "c"))
    ∷ Some (Replay (codes "a") (codes "-b") (codes "--"))
    ∷ Some (Big 1)
    ∷ Some (Big 62)
    ∷ Some (Big 7)
    ∷ []

-- an option stands anywhere before `--`, with its value in the same word or the next
abbrev pub OptionsStandAnywhere : Type 0
OptionsStandAnywhere = map command_of (
    (codes "run" ∷ codes "a" ∷ codes "--steps=5" ∷ codes "b" ∷ [])
    ∷ (codes "run" ∷ codes "--steps" ∷ codes "5" ∷ codes "a" ∷ codes "b" ∷ [])
    ∷ (codes "run" ∷ codes "a" ∷ codes "b" ∷ codes "--steps" ∷ codes "007" ∷ [])
    ∷ (codes "run" ∷ codes "a" ∷ codes "b" ∷ codes "--steps" ∷ codes "1" ∷ [])
    ∷ (codes "run" ∷ codes "a" ∷ codes "b" ∷ codes "--steps" ∷ codes "0000000000000000007" ∷ [])
    ∷ (codes "run" ∷ codes "a" ∷ codes "--steps=1000000000000" ∷ codes "--" ∷ codes "--steps=5" ∷ [])
    ∷ (codes "fold" ∷ codes "--budget=9223372036854775807" ∷ codes "a" ∷ [])
    ∷ (codes "fold" ∷ codes "a" ∷ codes "--budget" ∷ codes "0000000000000000001" ∷ [])
    ∷ (codes "fold" ∷ codes "--" ∷ codes "--budget=5" ∷ [])
    ∷ (codes "fold" ∷ codes "a" ∷ codes "--budget" ∷ codes "5" ∷ codes "b" ∷ [])
    ∷ (codes "fold" ∷ codes "--cost=sum" ∷ codes "a" ∷ [])
    ∷ (codes "fold" ∷ codes "a" ∷ codes "--cost" ∷ codes "powers" ∷ codes "b" ∷ [])
    ∷ (codes "fold" ∷ codes "a" ∷ codes "--cost=words" ∷ codes "--budget=5" ∷ [])
    ∷ (codes "fold" ∷ codes "a" ∷ codes "--cert" ∷ codes "c" ∷ [])
    ∷ (codes "fold" ∷ codes "--cert=a" ∷ codes "a" ∷ codes "b" ∷ codes "--budget=5" ∷ [])
    ∷ (codes "fold" ∷ codes "a" ∷ codes "--cert=-c" ∷ [])
    ∷ (codes "fold" ∷ codes "a" ∷ codes "--cert=c=d" ∷ [])
    ∷ [])
    ≡ Some (Run (codes "a") (codes "b") 5)
    ∷ Some (Run (codes "a") (codes "b") 5)
    ∷ Some (Run (codes "a") (codes "b") 7)
    ∷ Some (Run (codes "a") (codes "b") 1)
    ∷ Some (Run (codes "a") (codes "b") 7)
    ∷ Some (Run (codes "a") (codes "--steps=5") 1000000000000)
    ∷ Some (Fold (codes "a") None (within 9223372036854775807) None)
    ∷ Some (Fold (codes "a") None (within 1) None)
    ∷ Some (Fold (codes "--budget=5") None plain None)
    ∷ Some (Fold (codes "a") (Some (codes "b")) (within 5) None)
    ∷ Some (Fold (codes "a") None (by Sum) None)
    ∷ Some (Fold (codes "a") (Some (codes "b")) (by Powers) None)
    ∷ Some (Fold (codes "a") None (within 5) None)
    ∷ Some (Fold (codes "a") None plain (Some (codes "c")))
    ∷ Some (Fold (codes "a") (Some (codes "b")) (within 5) (Some (codes "a")))
    ∷ Some (Fold (codes "a") None plain (Some (codes "-c")))
    ∷ Some (Fold (codes "a") None plain (Some (codes "c=d")))
    ∷ []
