-- What a schedule's text says: its lines, with the numbers of tokens. Such a number (`at`) counts the text's tokens from 0.
use Rattle.std.specs.Prelude.{ℕ, ◌+◌, List, [], ◌∷◌, ◌++◌, length}
use Rattle.affc_lex.specs.Bytes.{decimal}
use Rattle.affc_grammar.specs.Grammar.{Name}
use Rattle.affc_grammar.specs.Draft.{IxDraft, ix_draft}
use Rattle.affc_schedtext.specs.Outline.{Outline, Scope, Words, Lists, Presence}
use Rattle.affc_schedtext.specs.Grammar as g
use Rattle.affc_schedtext.specs.Grammar.{FormText, FormsText, GivenText, FreeText, EntriesText, InverseText, LineText, StmtsText, OrderText, Text, forms_symbols, entry_symbols, free_symbols, head_symbols, stmts_symbols, text_symbols}

pub record LineDraft : Type 0 where
  -- the Word that names the statement or the array
  pub at : ℕ
  pub name : Name
  pub forms : List IxDraft
  pub inverse : List IxDraft

pub data OrderDraft : Type 0 where
  source : OrderDraft
  -- `at` is the number of the length's token
  time : (at : ℕ) → (length_of_time : ℕ) → List LineDraft → OrderDraft

pub record Draft : Type 0 where
  pub order : OrderDraft
  pub folds : List LineDraft

-- ---- From the grammar. The first argument is the number of the first token.

abbrev pub forms_draft : {scope : Scope} → ℕ → FormsText scope → List IxDraft
forms_draft at (g.one_form a) = ix_draft at a.written ∷ []
forms_draft at (g.and_form fs a) = forms_draft at fs ++ ix_draft (at + length (forms_symbols fs) + 1) a.written ∷ []

abbrev pub given_draft : {scope : Scope} {ws : List Name} → ℕ → GivenText scope ws → List IxDraft
given_draft at (g.last_entry w a) = ix_draft (at + 2) a.written ∷ []
given_draft at (g.entry_then w a others) = ix_draft (at + 2) a.written ∷ given_draft (at + length (entry_symbols w a) + 1) others

abbrev pub free_draft : {scope : Scope} → ℕ → FreeText scope → List IxDraft
free_draft at (g.one_entry w a) = ix_draft (at + 2) a.written ∷ []
free_draft at (g.and_entry others w a) = free_draft at others ++ ix_draft (at + length (free_symbols others) + 3) a.written ∷ []

abbrev pub entries_draft : {scope : Scope} {words : Words} → ℕ → EntriesText scope words → List IxDraft
entries_draft at (g.given e) = given_draft at e
entries_draft at (g.free e) = free_draft at e

abbrev pub inverse_draft : {scope : Scope} {words : Words} {presence : Presence} → ℕ → InverseText scope words presence → List IxDraft
inverse_draft at g.without = []
inverse_draft at (g.written e) = entries_draft (at + 1) e
inverse_draft at g.skipped = []
inverse_draft at (g.taken e) = free_draft (at + 1) e

abbrev pub line_draft : {lists : Name → Lists} {presence : Name → Presence} → ℕ → LineText lists presence → LineDraft
line_draft at l = record { at = at; name = l.name; forms = forms_draft (at + 3) l.forms; inverse = inverse_draft (at + length (head_symbols l.name l.forms)) l.inverse }

abbrev pub stmts_draft : {o : Outline} {n : ℕ} → ℕ → StmtsText o n → List LineDraft
stmts_draft at g.no_stmts = []
stmts_draft at (g.and_stmt ss l) = stmts_draft at ss ++ line_draft (at + length (stmts_symbols ss)) l ∷ []

-- the length stands behind "time", and the statements behind its ";"
abbrev pub order_draft : {o : Outline} → OrderText o → OrderDraft
order_draft g.source = source
order_draft (g.time digits ss) = time 1 (decimal digits) (stmts_draft 3 ss)

abbrev pub text_draft : {o : Outline} → Text o → Draft
text_draft (g.order s) = record { order = order_draft s; folds = [] }
text_draft (g.and_fold c l) = record { order = (text_draft c).order; folds = (text_draft c).folds ++ line_draft (length (text_symbols c) + 1) l ∷ [] }
