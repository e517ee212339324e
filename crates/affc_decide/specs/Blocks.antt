-- Blocks of lines: a system, its box, its limit, and what is expected of it.
use Rattle.std.specs.Prelude.{◌≡◌, ◌≢◌, ℕ, pos, ◌≤◌, ◌<◌, List, [], ◌∷◌, ◌++◌, length, codes, ℤ, Option, Some, None, IsSome, Vec}
use Rattle.std.specs.List.{All, AllZip}
use Rattle.std.specs.declared.alloc.Global.{Global}
use Rattle.affc_rows.specs.Forms.{Affine}
use Rattle.affc_system.specs.Boxes.{IsBox}
use Rattle.affc_system.specs.Pairs.{WithinReach}
use Rattle.affc_system.specs.Systems.{IsRow}
use Rattle.affc_split.specs.declared.search.Answer.{Answer}
use Rattle.affc_split.specs.declared.search.Answer.TheVariants as answer
use Rattle.affc_decide.specs.Words.{AreWords, Says}
use Rattle.affc_decide.specs.declared.block.Block.{Block}
use Rattle.affc_decide.specs.declared.block.Kind.{Kind}
use Rattle.affc_decide.specs.declared.block.Kind.TheVariants as kind
use Rattle.affc_decide.specs.declared.block.Line.{Line}
use Rattle.affc_decide.specs.declared.block.Line.TheVariants as line

-- the words say these numbers, one each
abbrev pub Say : List (List ℕ) → List ℤ → Type 0
Say words numbers = AllZip Says words numbers

-- the ends of ranges, each low end before its high end
abbrev pub ends_of : List (ℤ × ℤ) → List ℤ
ends_of [] = []
ends_of (r ∷ rs) = r.0 ∷ r.1 ∷ ends_of rs

-- the word stands first in lines of this kind
abbrev pub IsKind : Kind → List ℕ → Type 0
IsKind (kind.System) word = word ≡ codes "system"
IsKind (kind.Ranges) word = word ≡ codes "ranges"
IsKind (kind.Limit) word = word ≡ codes "limit"
IsKind (kind.Expect) word = word ≡ codes "expect"
IsKind (kind.Row) word = (word ≢ codes "system") × (word ≢ codes "ranges") × (word ≢ codes "limit") × (word ≢ codes "expect")

-- ---- What a line says

pub data Said : Type 0 where
  Blank : Said
  System : (columns rows : ℕ) → Said
  Ranges : (ranges : List (ℤ × ℤ)) → Said
  Limit : (limit : ℕ) → Said
  Row : (row : Affine) → Said
  ExpectEmpty : Said
  ExpectAny : Said
  ExpectStopped : Said
  ExpectPoint : (point : List ℤ) → Said

-- these words say it
abbrev pub IsSaid : Said → List (List ℕ) → Type 0
IsSaid Blank words = words ≡ []
IsSaid (System columns rows) words = (name : List ℕ) × (c : List ℕ) × (r : List ℕ)
    × (words ≡ codes "system" ∷ name ∷ codes "columns" ∷ c ∷ codes "rows" ∷ r ∷ []) × Says c (pos columns) × Says r (pos rows)
IsSaid (Ranges ranges) words = (more : List (List ℕ)) × (words ≡ codes "ranges" ∷ more) × Say more (ends_of ranges)
IsSaid (Limit limit) words = (word : List ℕ) × (words ≡ codes "limit" ∷ word ∷ []) × Says word (pos limit)
IsSaid (Row row) words = Say words (row.coefs ++ row.constant ∷ [])
IsSaid ExpectEmpty words = words ≡ codes "expect" ∷ codes "empty" ∷ []
IsSaid ExpectAny words = words ≡ codes "expect" ∷ codes "any" ∷ []
IsSaid ExpectStopped words = words ≡ codes "expect" ∷ codes "stopped" ∷ []
IsSaid (ExpectPoint point) words = (more : List (List ℕ)) × (words ≡ codes "expect" ∷ codes "point" ∷ more) × Say more point

-- ---- What it does to the block before it

-- a block of which the first line alone is read
abbrev pub begun : (columns rows : ℕ) → Block
begun columns rows = record { columns = columns; rows = rows; limit = 1000000; system = record { columns = columns; rows = [] }; ranges = None }

-- the row may come now, behind a box, and is added
pub record AddsRow (before : Block) (row : Affine) (after : Option Block) : Type 0 where
  pub boxed : IsSome before.ranges
  pub room : length before.system.rows < before.rows
  pub few : length before.system.rows < 1024
  pub fits : IsRow before.system.columns row
  pub added : after ≡ Some (record before { system = record before.system { rows = before.system.rows ++ row ∷ [] } })

-- the line may come after `before`, leaves `after`, and adds `added`
abbrev pub IsTaken : Said → Option Block → Line → Option Block → Type 0
IsTaken Blank before added after = (added ≡ line.Nothing) × (after ≡ before)
IsTaken (System columns rows) before added after = (added ≡ line.Nothing) × (columns ≤ 128) × (rows ≤ 1024) × (after ≡ Some (begun columns rows))
IsTaken (Ranges ranges) before added after = (b : Block) × (before ≡ Some b) × (added ≡ line.Nothing)
    × IsBox ranges × (length ranges ≡ b.columns) × (after ≡ Some (record b { ranges = Some ranges }))
IsTaken (Limit limit) before added after = (b : Block) × (before ≡ Some b) × (added ≡ line.Nothing) × (after ≡ Some (record b { limit = limit }))
IsTaken (Row row) before added after = (b : Block) × (before ≡ Some b) × (added ≡ line.Nothing) × AddsRow b row after
IsTaken ExpectEmpty before added after = (added ≡ line.Empty) × (after ≡ before)
IsTaken ExpectAny before added after = (added ≡ line.Any) × (after ≡ before)
IsTaken ExpectStopped before added after = (added ≡ line.Stopped) × (after ≡ before)
IsTaken (ExpectPoint point) before added after = (v : Vec ℤ Global) × (added ≡ line.Point v) × (v.items ≡ point) × (after ≡ before)

-- the words say a line that may come here, and this is what it does
abbrev pub Takes : List (List ℕ) → Option Block → Line → Option Block → Type 0
Takes words before added after = (said : Said) × IsSaid said words × IsTaken said before added after

-- no line that the words say may come here
abbrev pub TakesNone : List (List ℕ) → Option Block → Type 0
TakesNone words before = (added : Line) (after : Option Block) → Takes words before added after → ⊥

-- the line's words may come here, and this is what they do; no line that they say may come
abbrev pub TakesLine : List ℕ → Option Block → Line → Option Block → Type 0
TakesLine text before added after = (words : List (List ℕ)) × AreWords text words × Takes words before added after

abbrev pub TakesNoLine : List ℕ → Option Block → Type 0
TakesNoLine text before = (words : List (List ℕ)) × AreWords text words × TakesNone words before

-- ---- What is decided

-- all rows that the first line told have come, and a box that `decide` takes
pub record IsReady (block : Block) : Type 0 where
  pub rows : length block.system.rows ≡ block.rows
  pub boxed : (ranges : List (ℤ × ℤ)) × (block.ranges ≡ Some ranges) × (length ranges ≡ block.system.columns) × All WithinReach ranges

-- the answer is the one that the line expects
abbrev pub IsExpected : Answer → Line → Type 0
IsExpected (answer.Empty proof) (line.Empty) = Unit {0}
IsExpected (answer.Point point) (line.Point wanted) = point.items ≡ wanted.items
IsExpected (answer.Point point) (line.Any) = Unit {0}
IsExpected found expected = ⊥
