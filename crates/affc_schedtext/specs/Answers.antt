-- What is answered of a schedule's text: its plan, or the first of the rules that it breaks.
use Rattle.std.specs.Prelude.{◌≡◌, ◌⊎◌, ℕ, ◌-◌, ◌<◌, ◌≤◌, Bool, true, false, List, [], ◌∷◌, ◌++◌, length, take, slice_get, Some, Result, Ok, Err}
use Rattle.std.specs.List.{All}
use Rattle.affc_lex.specs.declared.token.LexFault.{LexFault}
use Rattle.affc_lex.specs.Lexes.{Lexeme, Lexes}
use Rattle.affc_lex.specs.Faults.{IsFault as IsLexFault, fault_place}
use Rattle.affc_rows.specs.Forms.{Affine, columns_of}
use Rattle.affc_ast.specs.declared.tree.ArrayId.{ArrayId}
use Rattle.affc_ast.specs.declared.tree.Program.{Program}
use Rattle.affc_trace.specs.declared.schedule.TimeMap.{TimeMap}
use Rattle.affc_trace.specs.declared.schedule.Schedule.{Schedule}
use Rattle.affc_trace.specs.declared.schedule.Schedule.TheVariants as schedule
use Rattle.affc_trace.specs.Inverses.{columns_from, GivesColumn, AreInverse}
use Rattle.affc_basis.specs.declared.basis.Basis.{Basis}
use Rattle.affc_basis.specs.Bases.{AreComponents, IsFirstBroken}
use Rattle.affc_grammar.specs.Grammar.{Symbol}
use Rattle.affc_grammar.specs.Reads.{symbols, place_of}
use Rattle.affc_schedtext.specs.declared.plan.Plan.{Plan}
use Rattle.affc_schedtext.specs.declared.plan.SchedFault.{SchedFault}
use Rattle.affc_schedtext.specs.declared.plan.SchedFault.TheVariants as fault
use Rattle.affc_schedtext.specs.Outline.{Outline, outline, statement_of, array_of}
use Rattle.affc_schedtext.specs.Grammar.{Text, text_symbols, Begins, Refuses, IsProduct}
use Rattle.affc_schedtext.specs.Draft.{LineDraft, OrderDraft, source, time, Draft, text_draft}
use Rattle.affc_schedtext.specs.Rules.{Sides, statement_sides, fold_sides, there_forms, back_forms, Breach, statement, length_of_line, fold, limit, place_in, breaches}

-- ---- Where the grammar is broken

abbrev pub IsFirstProduct : List Symbol → ℕ → Type 0
IsFirstProduct ss at = IsProduct ss at × ((other : ℕ) → IsProduct ss other → at ≤ other)

abbrev pub HasNoProduct : List Symbol → Type 0
HasNoProduct ss = (at : ℕ) → IsProduct ss at → ⊥

-- no text goes on with the first of the rest, where there is one
abbrev pub IsFurthest : Outline → (before rest : List Symbol) → Type 0
IsFurthest o before [] = Unit {0}
IsFurthest o before (x ∷ rest) = Refuses o before (x ∷ rest)

-- Nor do the symbols end there as a text does; where they are cut off, something else stands behind the last one.
abbrev pub Stops : Outline → (is_cut : Bool) → (before rest : List Symbol) → Type 0
Stops o true before [] = Unit {0}
Stops o is_cut before rest = Refuses o before rest

-- The first of the symbols, by its number, that can't stand there: the "*" of a product of names among those that begin a text, else the first with
-- which no text goes on, or behind the last one.
pub record IsStop (o : Outline) (is_cut : Bool) (symbols : List Symbol) (at : ℕ) : Type 0 where
  pub before : List Symbol
  pub rest : List Symbol
  pub split : symbols ≡ before ++ rest
  pub begins : Begins o before
  pub furthest : IsFurthest o before rest
  pub cause : IsFirstProduct before at ⊎ (HasNoProduct before × (at ≡ length before) × Stops o is_cut before rest)

-- These are the tokens of the longest beginning of the text, up to this place, that has tokens: what stands before a fault of the lexer, without a
-- comment in which this stands.
pub record AreBefore (text : List ℕ) (place : ℕ) (tokens : List Lexeme) : Type 0 where
  pub to : ℕ
  pub within : to ≤ place
  pub lexes : Lexes (take to text) tokens
  pub longest : (n : ℕ) (others : List Lexeme) → to < n → n ≤ place → Lexes (take n text) others → ⊥

-- In a text that has tokens, the one at the place can't stand there.
pub record StopsText (text : List ℕ) (o : Outline) (place : ℕ) : Type 0 where
  pub tokens : List Lexeme
  pub lexes : Lexes text tokens
  pub at : ℕ
  pub stop : IsStop o false (symbols tokens) at
  pub its_place : place ≡ place_of text tokens at

-- In a text that has none, one before its first fault can't stand there, or else the place is that of the fault.
pub record StopsFront (text : List ℕ) (o : Outline) (place : ℕ) : Type 0 where
  pub fault : LexFault
  pub stands : IsLexFault text fault
  pub first : (other : LexFault) → IsLexFault text other → fault_place fault ≤ fault_place other
  pub tokens : List Lexeme
  pub before : AreBefore text (fault_place fault) tokens
  pub at : ℕ
  pub stop : IsStop o true (symbols tokens) at
  pub its_place : place ≡ place_of (take (fault_place fault) text) tokens at

-- ---- What a text of the grammar says

-- The text's tokens are those of a text of the grammar, without a product of names.
pub record Spells (text : List ℕ) (o : Outline) : Type 0 where
  pub tokens : List Lexeme
  pub lexes : Lexes text tokens
  pub written : Text o
  pub spelled : symbols tokens ≡ text_symbols written
  pub affine : HasNoProduct (symbols tokens)

abbrev pub draft_of : {text : List ℕ} {o : Outline} → Spells text o → Draft
draft_of s = text_draft s.written

abbrev pub breaches_of : {text : List ℕ} {o : Outline} → Spells text o → List Breach
breaches_of {text} {o} s = breaches o (length s.tokens) (draft_of s)

-- This is the first of the rules that it breaks.
pub record Breaks (text : List ℕ) (o : Outline) (place : ℕ) (breach : Breach) : Type 0 where
  pub spells : Spells text o
  pub others : List Breach
  pub first : breaches_of spells ≡ breach ∷ others
  pub its_place : place ≡ place_of text spells.tokens (place_in breach)

-- It breaks none of them.
pub record Keeps (text : List ℕ) (o : Outline) : Type 0 where
  pub spells : Spells text o
  pub none : breaches_of spells ≡ []

-- ---- Forms that are undone

-- the first inverse form that, with the time forms put in, isn't its iterator
pub record IsFirstLost (forms inverse : List Affine) (k : ℕ) : Type 0 where
  pub within : k < length inverse
  pub lost : ¬ (GivesColumn inverse (columns_from (columns_of forms) 0 (columns_of forms - length inverse) ++ forms) (columns_of forms - length inverse) k)
  pub before : (j : ℕ) → j < k → GivesColumn inverse (columns_from (columns_of forms) 0 (columns_of forms - length inverse) ++ forms) (columns_of forms - length inverse) j

abbrev pub IsUndone : Sides → Type 0
IsUndone s = AreInverse (there_forms s) (back_forms s)

abbrev pub IsBasis : Sides → Type 0
IsBasis s = AreComponents (there_forms s) (back_forms s)

-- The first line with an inverse form that isn't its iterator; those before it are undone.
pub record LosesIterator (o : Outline) (n : ℕ) (lines : List LineDraft) (number component : ℕ) : Type 0 where
  pub front : List LineDraft
  pub line : LineDraft
  pub others : List LineDraft
  pub split : lines ≡ front ++ line ∷ others
  pub before : All (λ l. IsUndone (statement_sides o n l)) front
  pub its_number : statement_of o line.name ≡ Some number
  pub lost : IsFirstLost (there_forms (statement_sides o n line)) (back_forms (statement_sides o n line)) component

-- The first fold whose lists are no basis.
pub record LosesSubscript (o : Outline) (folds : List LineDraft) (array component : ℕ) : Type 0 where
  pub front : List LineDraft
  pub line : LineDraft
  pub others : List LineDraft
  pub split : folds ≡ front ++ line ∷ others
  pub before : All (λ l. IsBasis (fold_sides o l)) front
  pub its_array : array_of o line.name ≡ Some array
  pub broken : IsFirstBroken (there_forms (fold_sides o line)) (back_forms (fold_sides o line)) component

abbrev pub StatementsLose : Outline → OrderDraft → (number component : ℕ) → Type 0
StatementsLose o source s k = ⊥
StatementsLose o (time at n lines) s k = LosesIterator o n lines s k

abbrev pub StatementsUndone : Outline → OrderDraft → Type 0
StatementsUndone o source = Unit {0}
StatementsUndone o (time at n lines) = All (λ l. IsUndone (statement_sides o n l)) lines

-- ---- Plans

-- the map has the forms of the line
pub record IsMapOfLine (sides : Sides) (m : TimeMap) : Type 0 where
  pub forms : m.forms ≡ there_forms sides
  pub inverse : m.inverse ≡ back_forms sides

-- each line's map stands at its statement's number
abbrev pub AreMapsOfLines : Outline → (length_of_time : ℕ) → List LineDraft → List TimeMap → Type 0
AreMapsOfLines o n lines maps = (length maps ≡ length o.statements) × All (λ l. (s : ℕ) × (m : TimeMap) × (statement_of o l.name ≡ Some s) × (slice_get maps s ≡ Some m) × IsMapOfLine (statement_sides o n l) m) lines

abbrev pub IsScheduleOfOrder : Outline → OrderDraft → Schedule → Type 0
IsScheduleOfOrder o source schedule.Source = Unit {0}
IsScheduleOfOrder o (time at n lines) (schedule.Time length_of_time maps) = (length_of_time ≡ n) × AreMapsOfLines o n lines maps
IsScheduleOfOrder o _ _ = ⊥

-- a basis for each fold, in order
abbrev pub AreBasesOfLines : Outline → List LineDraft → List (ArrayId × Basis) → Type 0
AreBasesOfLines o [] [] = Unit {0}
AreBasesOfLines o (l ∷ ls) (f ∷ fs) = (array_of o l.name ≡ Some f.0.0) × (f.1.rows ≡ there_forms (fold_sides o l)) × (f.1.inverse ≡ back_forms (fold_sides o l)) × AreBasesOfLines o ls fs
AreBasesOfLines o _ _ = ⊥

-- The text reads as the plan.
pub record PlanReads (text : List ℕ) (program : Program) (plan : Plan) : Type 0 where
  pub keeps : Keeps text (outline program)
  pub schedule : IsScheduleOfOrder (outline program) (draft_of keeps.spells).order plan.schedule
  pub folds : AreBasesOfLines (outline program) (draft_of keeps.spells).folds plan.folds

-- The text reads as no plan, and this is the first cause.
abbrev pub IsFault : List ℕ → Program → SchedFault → Type 0
IsFault text program (fault.Syntax place) = StopsText text (outline program) place ⊎ StopsFront text (outline program) place
IsFault text program (fault.Statement place) = (at : ℕ) × Breaks text (outline program) place (statement at)
IsFault text program (fault.Length place) = (at : ℕ) × Breaks text (outline program) place (length_of_line at)
IsFault text program (fault.Fold place) = (at : ℕ) × Breaks text (outline program) place (fold at)
IsFault text program (fault.Limit place) = (at : ℕ) × Breaks text (outline program) place (limit at)
IsFault text program (fault.Inverse s k) = (kept : Keeps text (outline program)) × StatementsLose (outline program) (draft_of kept.spells).order s k
IsFault text program (fault.Basis array k) = (kept : Keeps text (outline program)) × StatementsUndone (outline program) (draft_of kept.spells).order × LosesSubscript (outline program) (draft_of kept.spells).folds array.0 k
IsFault text program fault.Memory = Unit {0}

abbrev pub Answers : List ℕ → Program → Result Plan SchedFault → Type 0
Answers text program (Ok plan) = PlanReads text program plan
Answers text program (Err f) = IsFault text program f
