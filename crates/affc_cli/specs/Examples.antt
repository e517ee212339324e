-- What the definitions say of a folder of two files. Each value was found by hand from the rules.
use Rattle.std.specs.Prelude.{◌≡◌, ◌==◌, ℕ, Bool, true, false, List, [], ◌∷◌, map, Some, None, Ok, Err, codes}
use Rattle.std.specs.List.{list_any}
use Rattle.affc_io.specs.Examples.{a, b, c, two, two_with}
use Rattle.affc_io.specs.Reads.{Read}
use Rattle.affc_io.specs.State.{Files, SinkState}
use Rattle.affc_io.specs.declared.folder.ReadFault.TheVariants as read
use Rattle.affc_driver.specs.Flows.{FlowsTo}
use Rattle.affc_replay.specs.Replays.{ReplaysTo}
use Rattle.affc_words.specs.declared.words.CostName.TheVariants.{Words as ByWords, Sum, Powers}
use Rattle.affc_words.specs.Command.{Fold, Replay, Run, Flow, Big}
use Rattle.affc_cli.specs.Big.{plain, summary}
use Rattle.affc_cli.specs.Budgets.{answers_of, FoldsWithin, CertifiedWithin}
use Rattle.affc_cli.specs.Outside.{Outside, AreInOrder}
use Rattle.affc_cli.specs.Promise.{statuses_of, names_of, Makes, IsRefused}
use Rattle.affc_cli.specs.Refusal.{HoldsAny}
use Rattle.affc_cli.specs.Run.{RunsTo}

-- ---- A name that may be left out

-- no text without a name, and the whole text that it holds with one
abbrev pub NoNameIsNoText : Type 0
NoNameIsNoText = HoldsAny (Some two) None None × (¬ (HoldsAny (Some two) None (Some [])))
    × HoldsAny (Some two) (Some a) (Some (7 ∷ 8 ∷ [])) × (¬ (HoldsAny (Some two) (Some a) (Some (7 ∷ [])))) × (¬ (HoldsAny (Some two) (Some a) None))
    × (¬ (HoldsAny (Some two) (Some c) None)) × (¬ (HoldsAny (Some two) (Some c) (Some [])))

-- ---- What is promised

abbrev pub sink : (taken : List ℕ) → SinkState
sink taken = record { taken = Some taken; faults = 0; shortages = 0 }

-- the folder holds these files, counted so many faults and was read so, and the output and the error stream took these bytes
abbrev pub beside : Files → (faults : ℕ) → (reads : List Read) → (out err : List ℕ) → Outside
beside files faults reads out err = record { folder = record { held = Some files; faults = faults; shortages = 0; reads = reads }; out = sink out; err = sink err }

-- no fault was counted
abbrev pub at : Files → (reads : List Read) → (out err : List ℕ) → Outside
at files reads out err = beside files 0 reads out err

abbrev pub start : Outside
start = at two [] [] []

-- of what the names held when the call began, whatever they hold now, and also where the certificate goes to the source's own name
abbrev pub PromisedOfWhatWasHeld : Type 0
PromisedOfWhatWasHeld = (now : Outside)
    → ((m : Makes (Fold a None plain None) start now) → (cost : ℕ) × FoldsWithin (7 ∷ 8 ∷ []) None plain m.text m.report cost)
    × ((m : Makes (Fold a (Some b) plain (Some a)) start now) → CertifiedWithin (7 ∷ 8 ∷ []) (Some []) plain m.certificate m.text m.report)
    × ((m : Makes (Replay b a b) start now) → ReplaysTo [] (7 ∷ 8 ∷ []) [] m.text m.report)
    × ((m : Makes (Run a b 3) start now) → RunsTo (7 ∷ 8 ∷ []) [] 3 m.text)
    × ((m : Makes (Flow a) start now) → FlowsTo (7 ∷ 8 ∷ []) m.text)

-- ---- Statuses

-- whether `fold`, `replay`, `run`, `flow` and `big` end with a status
abbrev pub who_ends_with : (status : ℕ) → List Bool
who_ends_with status = map (λ command. list_any (λ s. s == status) (statuses_of command)) (Fold a None plain None ∷ Replay a b c ∷ Run a b 1 ∷ Flow a ∷ Big 8 ∷ [])

abbrev pub these : (fold replay run flow big : Bool) → List Bool
these fold replay run flow big = fold ∷ replay ∷ run ∷ flow ∷ big ∷ []

-- 0, 4, 5, 9 and 10 of each, 3 of each that reads files, 6 of those with a schedule, 7 and 8 where one is searched for, 11 of `replay`
-- alone, 12 and 13 of `run` alone
abbrev pub WhoEndsWithWhat : Type 0
WhoEndsWithWhat =
    (who_ends_with 0 ≡ these true true true true true)
    × (who_ends_with 1 ≡ these false false false false false)
    × (who_ends_with 2 ≡ these false false false false false)
    × (who_ends_with 3 ≡ these true true true true false)
    × (who_ends_with 4 ≡ these true true true true true)
    × (who_ends_with 5 ≡ these true true true true true)
    × (who_ends_with 6 ≡ these true true false false true)
    × (who_ends_with 7 ≡ these true false false false true)
    × (who_ends_with 8 ≡ these true false false false false)
    × (who_ends_with 9 ≡ these true true true true true)
    × (who_ends_with 10 ≡ these true true true true true)
    × (who_ends_with 11 ≡ these false true false false false)
    × (who_ends_with 12 ≡ these false false true false false)
    × (who_ends_with 13 ≡ these false false true false false)
    × (who_ends_with 14 ≡ these false false false false false)

-- ---- Reads

-- the source first, then the schedule or the data, then the certificate
abbrev pub FilesInOrder : Type 0
FilesInOrder =
    (names_of (Fold a None plain (Some c)) ≡ a ∷ [])
    × (names_of (Fold a (Some b) plain (Some c)) ≡ a ∷ b ∷ [])
    × (names_of (Replay a b c) ≡ a ∷ b ∷ c ∷ [])
    × (names_of (Run a b 1) ≡ a ∷ b ∷ [])
    × (names_of (Flow a) ≡ a ∷ [])
    × (names_of (Big 8) ≡ [])

-- what the names answer: two bytes of `a`, none of `b`, and that `c` isn't held
abbrev pub of_a : Read
of_a = (a, Ok (7 ∷ 8 ∷ []))

abbrev pub of_b : Read
of_b = (b, Ok [])

abbrev pub of_c : Read
of_c = (c, Err read.Missing)

-- each once and in their order, none behind one that didn't answer, and none of another file
abbrev pub ReadsStopAtTheFirst : Type 0
ReadsStopAtTheFirst = AreInOrder (a ∷ c ∷ b ∷ []) [] × AreInOrder (a ∷ c ∷ b ∷ []) (of_a ∷ []) × AreInOrder (a ∷ c ∷ b ∷ []) (of_a ∷ of_c ∷ []) × AreInOrder (a ∷ b ∷ c ∷ []) (of_a ∷ of_b ∷ of_c ∷ [])
    × (¬ (AreInOrder (a ∷ c ∷ b ∷ []) (of_a ∷ of_c ∷ of_b ∷ [])))
    × (¬ (AreInOrder (a ∷ c ∷ b ∷ []) (of_c ∷ [])))
    × (¬ (AreInOrder (a ∷ c ∷ b ∷ []) (of_a ∷ of_a ∷ [])))
    × (¬ (AreInOrder (a ∷ []) (of_a ∷ of_b ∷ [])))

-- ---- A refusal

abbrev pub line : List ℕ
line = codes "affc: read c\n"

-- `flow c`, where nothing is held under c: one read, status 3 and its whole line
abbrev pub RefusalsAreTold : Type 0
RefusalsAreTold = IsRefused (Flow c) start (at two (of_c ∷ []) [] line) 3
    × (¬ (IsRefused (Flow c) start (at two (of_c ∷ []) [] line) 4))
    × (¬ (IsRefused (Flow a) start (at two ((a, Err read.Missing) ∷ []) [] line) 3))
    × (¬ (IsRefused (Flow c) start (at two [] [] line) 3))
    × (¬ (IsRefused (Flow c) start (at two ((c, Err read.Long) ∷ []) [] line) 3))
    × (¬ (IsRefused (Flow c) start (at (two_with None) (of_c ∷ []) [] line) 3))
    × (¬ (IsRefused (Flow c) start (at two (of_c ∷ []) (10 ∷ []) line) 3))
    × (¬ (IsRefused (Flow c) start (at two (of_c ∷ []) [] []) 3))
    × (¬ (IsRefused (Flow c) start (at two (of_c ∷ []) [] (codes "affc: read a\n")) 3))

-- `fold a c`: c is told behind the read of a, which answered; not where that failed, whatever the read of c answered, and not where a
-- wasn't read
abbrev pub UnreadIsToldBehind : Type 0
UnreadIsToldBehind = IsRefused (Fold a (Some c) plain None) start (at two (of_a ∷ of_c ∷ []) [] line) 3
    × (¬ (IsRefused (Fold a (Some c) plain None) start (beside two 1 ((a, Err read.Failed) ∷ of_c ∷ []) [] line) 3))
    × (¬ (IsRefused (Fold a (Some c) plain None) start (beside two 1 ((a, Err read.Failed) ∷ []) [] line) 3))
    × (¬ (IsRefused (Fold a (Some c) plain None) start (at two (of_c ∷ []) [] line) 3))

-- ---- Costs, and the lines of `big`

-- 3 and 5: their product, their sum, and the product of 4 and 8
abbrev pub CostsByName : Type 0
CostsByName = answers_of ByWords (3 ∷ 5 ∷ []) 15 × (¬ (answers_of ByWords (3 ∷ 5 ∷ []) 8)) × answers_of Sum (3 ∷ 5 ∷ []) 8 × answers_of Powers (3 ∷ 5 ∷ []) 32

abbrev pub EightStages : Type 0
EightStages = summary 8 24 ≡ codes "stages 8\nstatements 9\nwhole 8072\nfolded 24\n"
