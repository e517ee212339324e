-- What reading data answers.
use Rattle.std.specs.Prelude.{◌≡◌, ℕ, ◌+◌, ◌<◌, ℤ, Bool, List, ◌++◌, length, Result, Ok, Err}
use denote.Ref.{Bor}
use Rattle.affc_ast.specs.declared.tree.Param.{Param}
use Rattle.affc_ast.specs.declared.tree.Program.{Program}
use Rattle.affc_interp.specs.declared.feed.Feed.{Feed}
use Rattle.affc_interp.specs.declared.feed.FeedFault.{FeedFault}
use Rattle.affc_interp.specs.declared.feed.FeedFault.TheVariants.{Line, Memory}
use Rattle.affc_interp.specs.Arrays.{values_in}
use Rattle.affc_interp.specs.DataText.{HasLines, FeedReads, RightUpTo, IsWrongLine}

-- the data, and the only data that the text gives; or the first line that is wrong
abbrev pub AnswersFeed : Result Feed FeedFault → (text : List ℕ) → Program → Type 0
AnswersFeed (Ok feed) text program =
    FeedReads text program feed.params.items (values_in feed.arrays.items)
    × ((p : List ℤ) (values : List (List ℕ)) → FeedReads text program p values → (feed.params.items ≡ p) × (values_in feed.arrays.items ≡ values))
AnswersFeed (Err (Line n)) text program = IsWrongLine text program n
AnswersFeed (Err Memory) text program = Unit {0}

-- the lines of some parameters, and no others are there
abbrev pub OnlyLines : (before : List ℤ) → List Param → (p : List ℤ) → (values : List (List ℕ)) → (text rest : List ℕ) → Type 0
OnlyLines before ps p values text rest =
    HasLines before ps p values text rest
    × ((q : List ℤ) (others : List (List ℕ)) (more : List ℕ) → HasLines before ps q others text more → (p ≡ q) × (values ≡ others) × (rest ≡ more))

-- the lines' numbers and values stand behind those that were there, or the first line that is wrong
abbrev pub ReadsLines : Result (Bor (List ℕ)) FeedFault → List Param → (text : List ℕ) → (line : ℕ) → (p0 p1 : List ℤ) → (values0 values1 : List (List ℕ)) → Type 0
ReadsLines (Ok rest) ps text line p0 p1 values0 values1 =
    (p : List ℤ) × (values : List (List ℕ)) × (p1 ≡ p0 ++ p) × (values1 ≡ values0 ++ values) × OnlyLines p0 ps p values text rest.now
ReadsLines (Err (Line n)) ps text line p0 p1 values0 values1 = (m : ℕ) × (n ≡ line + m) × (m < length ps) × RightUpTo p0 ps text m
ReadsLines (Err Memory) ps text line p0 p1 values0 values1 = Unit {0}

abbrev pub SaysWhole : Result Bool FeedFault → Bool → Type 0
SaysWhole (Ok b) test = b ≡ test
SaysWhole (Err (Line n)) test = ⊥
SaysWhole (Err Memory) test = Unit {0}
