-- What the stages of reading a schedule's text answer.
use Rattle.std.specs.Prelude.{◌≡◌, ◌⊎◌, ℕ, true, List, [], length, take, drop}
use Rattle.affc_lex.specs.Lexes.{Lexeme, Lexes}
use Rattle.affc_grammar.specs.Grammar.{Symbol}
use Rattle.affc_grammar.specs.Reads.{symbols, place_of}
use Rattle.affc_schedtext.specs.declared.draft.Draft as code
use Rattle.affc_schedtext.specs.declared.plan.Plan.{Plan}
use Rattle.affc_schedtext.specs.declared.plan.SchedFault.{SchedFault}
use Rattle.affc_schedtext.specs.declared.plan.SchedFault.TheVariants as fault
use Rattle.affc_schedtext.specs.declared.outline.Outline.{Outline}
use Rattle.affc_schedtext.specs.Grammar.{Text, text_symbols, Begins}
use Rattle.affc_schedtext.specs.Draft.{OrderDraft, source, time, Draft, text_draft}
use Rattle.affc_schedtext.specs.Rules.{statement, length_of_line, fold, limit, wrong_statements, statements_in, has_all}
use Rattle.affc_schedtext.specs.Answers.{IsFirstProduct, HasNoProduct, IsFurthest, IsStop, AreBefore, StopsText, StopsFront, Breaks, LosesSubscript, StatementsLose, StatementsUndone, IsScheduleOfOrder, AreBasesOfLines}
use Rattle.affc_schedtext.specs.Seen.{draft_seen}

-- ---- The grammar

-- the first product among the symbols before, or else the symbol behind them
abbrev pub IsStopBehind : (before : List Symbol) → ℕ → Type 0
IsStopBehind before at = IsFirstProduct before at ⊎ (HasNoProduct before × (at ≡ length before))

-- so many symbols begin a text of the grammar, and with the next one none does
pub record IsReach (o : Outline) (symbols : List Symbol) (to : ℕ) : Type 0 where
  pub begins : Begins o (take to symbols)
  pub furthest : IsFurthest o (take to symbols) (drop to symbols)

-- these are the tokens of the text, which is one of the grammar without a product of names, and this is its draft
pub record IsDraftOf (text : List ℕ) (o : Outline) (tokens : List Lexeme) (d : code.Draft) : Type 0 where
  pub lexes : Lexes text tokens
  pub written : Text o
  pub spelled : symbols tokens ≡ text_symbols written
  pub affine : HasNoProduct (symbols tokens)
  pub is_draft : draft_seen d ≡ text_draft written

-- the place of the symbol that can't stand before a fault of the lexer, or else of this fault
pub record IsFrontPlace (text : List ℕ) (o : Outline) (of_fault place : ℕ) : Type 0 where
  pub tokens : List Lexeme
  pub before : AreBefore text of_fault tokens
  pub at : ℕ
  pub stop : IsStop o true (symbols tokens) at
  pub its_place : place ≡ place_of (take of_fault text) tokens at

abbrev pub SyntaxFault : List ℕ → Outline → SchedFault → Type 0
SyntaxFault text o (fault.Syntax place) = StopsText text o place ⊎ StopsFront text o place
SyntaxFault text o fault.Memory = Unit {0}
SyntaxFault text o _ = ⊥

-- ---- The rules

abbrev pub BreachFault : List ℕ → Outline → SchedFault → Type 0
BreachFault text o (fault.Statement place) = (at : ℕ) × Breaks text o place (statement at)
BreachFault text o (fault.Length place) = (at : ℕ) × Breaks text o place (length_of_line at)
BreachFault text o (fault.Fold place) = (at : ℕ) × Breaks text o place (fold at)
BreachFault text o (fault.Limit place) = (at : ℕ) × Breaks text o place (limit at)
BreachFault text o fault.Memory = Unit {0}
BreachFault text o _ = ⊥

-- each statement has one line
abbrev pub HasLines : Outline → OrderDraft → Type 0
HasLines o source = Unit {0}
HasLines o (time at n lines) = (wrong_statements o [] lines ≡ []) × (has_all (length o.statements) (statements_in o lines) ≡ true)

-- ---- The forms

abbrev pub OrderFault : Outline → OrderDraft → SchedFault → Type 0
OrderFault o d (fault.Inverse s k) = StatementsLose o d s k
OrderFault o d fault.Memory = Unit {0}
OrderFault o d _ = ⊥

abbrev pub FormsFault : Outline → Draft → SchedFault → Type 0
FormsFault o d (fault.Inverse s k) = StatementsLose o d.order s k
FormsFault o d (fault.Basis array k) = StatementsUndone o d.order × LosesSubscript o d.folds array.0 k
FormsFault o d fault.Memory = Unit {0}
FormsFault o d _ = ⊥

pub record IsPlanOf (o : Outline) (d : Draft) (plan : Plan) : Type 0 where
  pub schedule : IsScheduleOfOrder o d.order plan.schedule
  pub folds : AreBasesOfLines o d.folds plan.folds
