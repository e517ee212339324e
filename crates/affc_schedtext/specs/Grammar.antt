-- The grammar of schedules, with the names that may stand in their forms. Each type is a rule and each of its cases a way to write it; `.._symbols` is
-- how it is written. The line of the grammar stands above the type: "a" is this token, [ a ] is a or nothing, { a } is any number of a, a | b is a or b.
use Rattle.std.specs.Prelude.{◌≡◌, ℕ, ◌+◌, Bool, false, not, ◌||◌, List, [], ◌∷◌, ◌++◌, length, codes, IsTrue, is_some}
use Rattle.std.specs.List.{list_all, list_any}
use Rattle.affc_lex.specs.Bytes.{decimal}
use Rattle.affc_grammar.specs.Grammar.{Symbol, Name, Digits, word, number, mark, is_word_kind, IxText, TermText, FactorText, ix_symbols, term_symbols, factor_symbols}
use Rattle.affc_schedtext.specs.Outline.{Outline, Scope, Words, these, any, Lists, Presence, never, always, maybe, statement_lists, statement_presence, fold_lists, fold_presence}

-- ---- Forms

abbrev pub is_name : Symbol → Bool
is_name s = is_word_kind s.kind

-- whether it is no name, or one that stands for a column
abbrev pub is_seen : Scope → Symbol → Bool
is_seen scope s = not (is_name s) || is_some (scope s.bytes)

abbrev pub all_seen : Scope → List Symbol → Bool
all_seen scope ss = list_all (is_seen scope) ss

-- form = ix without calls, each of whose names stands for a column
pub record FormText (scope : Scope) : Type 0 where
  pub written : IxText false
  pub seen : IsTrue (all_seen scope (ix_symbols written))

abbrev pub form_symbols : {scope : Scope} → FormText scope → List Symbol
form_symbols f = ix_symbols f.written

-- form { "," form }
pub data FormsText (scope : Scope) : Type 0 where
  one_form : FormText scope → FormsText scope
  and_form : FormsText scope → FormText scope → FormsText scope

abbrev pub forms_symbols : {scope : Scope} → FormsText scope → List Symbol
forms_symbols (one_form a) = form_symbols a
forms_symbols (and_form fs a) = forms_symbols fs ++ mark (codes ",") ∷ form_symbols a

-- ---- Inverse forms

-- Word "=" form { "," Word "=" form }, with these words
pub data GivenText (scope : Scope) : List Name → Type 0 where
  last_entry : (w : Name) → FormText scope → GivenText scope (w ∷ [])
  entry_then : {ws : List Name} → (w : Name) → FormText scope → GivenText scope ws → GivenText scope (w ∷ ws)

abbrev pub entry_symbols : {scope : Scope} → Name → FormText scope → List Symbol
entry_symbols w a = word w ∷ mark (codes "=") ∷ form_symbols a

abbrev pub given_symbols : {scope : Scope} {ws : List Name} → GivenText scope ws → List Symbol
given_symbols (last_entry w a) = entry_symbols w a
given_symbols (entry_then w a g) = entry_symbols w a ++ mark (codes ",") ∷ given_symbols g

-- Word "=" form { "," Word "=" form }
pub data FreeText (scope : Scope) : Type 0 where
  one_entry : Name → FormText scope → FreeText scope
  and_entry : FreeText scope → Name → FormText scope → FreeText scope

abbrev pub free_symbols : {scope : Scope} → FreeText scope → List Symbol
free_symbols (one_entry w a) = entry_symbols w a
free_symbols (and_entry g w a) = free_symbols g ++ mark (codes ",") ∷ entry_symbols w a

-- with the words that stand there
pub data EntriesText (scope : Scope) : Words → Type 0 where
  given : {w : Name} {ws : List Name} → GivenText scope (w ∷ ws) → EntriesText scope (these w ws)
  free : FreeText scope → EntriesText scope any

abbrev pub entries_symbols : {scope : Scope} {words : Words} → EntriesText scope words → List Symbol
entries_symbols (given g) = given_symbols g
entries_symbols (free g) = free_symbols g

-- [ ";" Word "=" form { "," Word "=" form } ]
pub data InverseText (scope : Scope) (words : Words) : Presence → Type 0 where
  without : InverseText scope words never
  written : EntriesText scope words → InverseText scope words always
  skipped : InverseText scope words maybe
  taken : FreeText scope → InverseText scope words maybe

abbrev pub inverse_symbols : {scope : Scope} {words : Words} {presence : Presence} → InverseText scope words presence → List Symbol
inverse_symbols without = []
inverse_symbols (written e) = mark (codes ";") ∷ entries_symbols e
inverse_symbols skipped = []
inverse_symbols (taken g) = mark (codes ";") ∷ free_symbols g

-- ---- Lines

-- Word ":" "(" form { "," form } ")" [ ";" Word "=" form { "," Word "=" form } ] ";"
pub record LineText (lists : Name → Lists) (presence : Name → Presence) : Type 0 where
  pub name : Name
  pub forms : FormsText (lists name).there
  pub inverse : InverseText (lists name).back (lists name).words (presence name)

abbrev pub head_symbols : {scope : Scope} → Name → FormsText scope → List Symbol
head_symbols w fs = word w ∷ mark (codes ":") ∷ mark (codes "(") ∷ (forms_symbols fs ++ mark (codes ")") ∷ [])

-- without the last ";"
abbrev pub open_symbols : {lists : Name → Lists} {presence : Name → Presence} → LineText lists presence → List Symbol
open_symbols l = head_symbols l.name l.forms ++ inverse_symbols l.inverse

abbrev pub line_symbols : {lists : Name → Lists} {presence : Name → Presence} → LineText lists presence → List Symbol
line_symbols l = open_symbols l ++ mark (codes ";") ∷ []

-- { stmt }
pub data StmtsText (o : Outline) (length_of_time : ℕ) : Type 0 where
  no_stmts : StmtsText o length_of_time
  and_stmt : StmtsText o length_of_time → LineText (statement_lists o length_of_time) (statement_presence o) → StmtsText o length_of_time

abbrev pub stmts_symbols : {o : Outline} {n : ℕ} → StmtsText o n → List Symbol
stmts_symbols no_stmts = []
stmts_symbols (and_stmt ss l) = stmts_symbols ss ++ line_symbols l

-- "source" ";" | "time" Number ";" { stmt }
pub data OrderText (o : Outline) : Type 0 where
  source : OrderText o
  time : (digits : Digits) → StmtsText o (decimal digits) → OrderText o

abbrev pub time_symbols : Digits → List Symbol
time_symbols digits = word (codes "time") ∷ number digits ∷ []

abbrev pub order_symbols : {o : Outline} → OrderText o → List Symbol
order_symbols source = word (codes "source") ∷ mark (codes ";") ∷ []
order_symbols (time digits ss) = time_symbols digits ++ mark (codes ";") ∷ stmts_symbols ss

-- { fold }
-- fold = "fold" Word ":" "(" form { "," form } ")" ";" Word "=" form { "," Word "=" form } ";"
pub data Text (o : Outline) : Type 0 where
  order : OrderText o → Text o
  and_fold : Text o → LineText (fold_lists o) fold_presence → Text o

abbrev pub text_symbols : {o : Outline} → Text o → List Symbol
text_symbols (order s) = order_symbols s
text_symbols (and_fold c l) = text_symbols c ++ word (codes "fold") ∷ line_symbols l

-- ---- Texts that go on, and texts that stop

-- the symbols begin a text of the grammar
abbrev pub Begins : Outline → List Symbol → Type 0
Begins o symbols = (c : Text o) × (rest : List Symbol) × (text_symbols c ≡ symbols ++ rest)

-- with the next symbol, or with the end where there is none, the symbols before begin no text
abbrev pub Refuses : Outline → List Symbol → List Symbol → Type 0
Refuses o before [] = (c : Text o) → text_symbols c ≡ before → ⊥
Refuses o before (x ∷ others) = (c : Text o) (tail : List Symbol) → text_symbols c ≡ before ++ x ∷ tail → ⊥

-- The first place at which no text of the grammar goes on as the symbols do; `rest` are those from it on.
pub record StopsAt (o : Outline) (symbols rest : List Symbol) : Type 0 where
  pub before : List Symbol
  pub split : symbols ≡ before ++ rest
  pub begins : Begins o before
  pub refuses : Refuses o before rest

-- ---- Products of names

abbrev pub hold_names : List Symbol → Bool
hold_names ss = list_any is_name ss

-- A product both of whose sides hold names stands among the symbols, and `at` is the number of its "*".
pub record IsProduct (symbols : List Symbol) (at : ℕ) : Type 0 where
  pub front : List Symbol
  pub left : TermText false
  pub right : FactorText false
  pub others : List Symbol
  pub stands : symbols ≡ front ++ (term_symbols left ++ mark (codes "*") ∷ (factor_symbols right ++ others))
  pub left_names : IsTrue (hold_names (term_symbols left))
  pub right_names : IsTrue (hold_names (factor_symbols right))
  pub its_place : at ≡ length front + length (term_symbols left)
