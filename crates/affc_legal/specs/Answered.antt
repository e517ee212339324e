-- What the questions of a list have shown: proofs in order, or the first point of any of them.
use Rattle.std.specs.Prelude.{◌≡◌, ◌+◌, ◌⊎◌, ℤ, List, [], ◌∷◌, ◌++◌, length, Option, Some, None}
use Rattle.std.specs.List.{All}
use Rattle.affc_farkas.specs.declared.proof.Proof.{Proof}
use Rattle.affc_farkas.specs.Proofs.{ValidProof}
use Rattle.affc_leaf.specs.Boxed.{with_box}
use Rattle.affc_system.specs.Boxes.{InBox}
use Rattle.affc_system.specs.Order.{LexLe}
use Rattle.affc_system.specs.Pairs.{WithinReach}
use Rattle.affc_system.specs.Systems.{Rows, IsPoint}
use Rattle.affc_trace.specs.Law.{IsIn}
use Rattle.affc_nest.specs.declared.nest.Entry.{Entry}
use Rattle.affc_nest.specs.declared.nest.Nest.{Nest}
use Rattle.affc_nest.specs.Parts.{coordinates, statement_of}
use Rattle.affc_order.specs.Systems.{loops_of}
use Rattle.affc_sched.specs.Laws.{parameters_at, first_at, second_at}
use Rattle.affc_sched.specs.Questions.{Question}
use Rattle.affc_legal.specs.Violations.{spot_of}
use Rattle.affc_legal.specs.declared.violation.Violation.{Violation}

-- ---- Proofs

-- the question has no point in its ranges, and this is a proof of it
pub record IsShown (question : Question) (proof : Proof) : Type 0 where
  pub valid : ValidProof (with_box question.system question.ranges) proof
  pub none : (x : List ℤ) → InBox question.ranges x → IsPoint question.system x → ⊥

abbrev pub AreShown : List Question → List Proof → Type 0
AreShown [] [] = Unit {0}
AreShown [] (p ∷ ps) = ⊥
AreShown (q ∷ qs) [] = ⊥
AreShown (q ∷ qs) (p ∷ ps) = IsShown q p × AreShown qs ps

-- the list has grown by a proof for each of these questions, in order
pub record Settles (questions : List Question) (old new : List Proof) : Type 0 where
  pub made : List Proof
  pub grown : new ≡ old ++ made
  pub shown : AreShown questions made

-- ---- Points

-- where the instances at a point of a question stand
abbrev pub spot_at : Nest → Question → (point : List ℤ) → List ℤ
spot_at nest q point = spot_of (parameters_at nest q point) (first_at nest q point) (second_at nest q point)

-- what stands at a point of one of these questions
pub record IsFoundAt (nest : Nest) (questions : List Question) (found : Violation) : Type 0 where
  pub question : Question
  pub asked : IsIn question questions
  pub point : List ℤ
  pub meets : IsPoint question.system point
  pub p : found.p ≡ parameters_at nest question point
  pub a : found.a ≡ first_at nest question point
  pub b : found.b ≡ second_at nest question point

-- and no point of them in their ranges stands at an earlier spot
pub record IsFirstOf (nest : Nest) (questions : List Question) (found : Violation) : Type 0 where
  pub key : found.key ≡ spot_of found.p found.a found.b
  pub there : IsFoundAt nest questions found
  pub first : (q : Question) (point : List ℤ) → IsIn q questions → InBox q.ranges point → IsPoint q.system point → LexLe found.key (spot_at nest q point)

abbrev pub AreAnswered : Nest → List Question → (old new : List Proof) → Option Violation → Type 0
AreAnswered nest questions old new None = Settles questions old new
AreAnswered nest questions old new (Some found) = IsFirstOf nest questions found

-- the one whose key comes first, if there are any
abbrev pub IsNearer : (a b nearer : Option Violation) → Type 0
IsNearer None b nearer = nearer ≡ b
IsNearer (Some x) None nearer = nearer ≡ Some x
IsNearer (Some x) (Some y) nearer = ((nearer ≡ Some x) × LexLe x.key y.key) ⊎ ((nearer ≡ Some y) × LexLe y.key x.key)

-- ---- What is asked

-- the question of a system on two parts
abbrev pub question_on : (a b : Entry) → (ranges : List (ℤ × ℤ)) → Rows → Question
question_on a b ranges system = record { first = a.part; second = b.part; system = system; ranges = ranges }

-- what a nest says of a part's entry: its loops and its statement's number
pub record IsFoundAs (nest : Nest) (e : Entry) : Type 0 where
  pub loops : loops_of nest e.part ≡ e.loops
  pub statement : statement_of nest e.part ≡ e.statement

-- ranges of the parameters and of the coordinates of these parts, that may be searched
pub record AreRanges (nest : Nest) (first second : Entry) (ranges : List (ℤ × ℤ)) : Type 0 where
  pub reach : All WithinReach ranges
  pub first_found : IsFoundAs nest first
  pub second_found : IsFoundAs nest second
  pub each : length ranges ≡ (length nest.params + coordinates first) + coordinates second
