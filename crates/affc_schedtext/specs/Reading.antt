-- Reading a text of the grammar by one token of foresight. `room` is how many brackets may be open at once.
use Rattle.std.specs.Prelude.{ℕ, Bool, true, false, List, [], ◌∷◌, ◌++◌, codes, IsTrue, Option, Some, None, Ok, Err, if◌then◌else◌}
use Rattle.affc_lex.specs.Bytes.{same, decimal}
use Rattle.affc_grammar.specs.Grammar.{Symbol, Name, Digits, word, IxText, ix_symbols}
use Rattle.affc_grammar.specs.Reader.{At, Deep, Read, Reader, give, fail, after, either, on, all, Turn, going, done, until, finished}
use Rattle.affc_grammar.specs.Reading.{this_mark, this_word, any_word, any_number, holding, read_ix}
use Rattle.affc_schedtext.specs.Outline.{Outline, Scope, Words, these, any, Presence, never, always, maybe, statement_lists, statement_presence, fold_lists, fold_presence}
use Rattle.affc_schedtext.specs.Grammar.{is_seen, all_seen, FormText, FormsText, one_form, and_form, GivenText, last_entry, entry_then, FreeText, one_entry, and_entry, EntriesText, given, free, InverseText, without, written, skipped, taken, LineText, head_symbols, open_symbols, StmtsText, no_stmts, and_stmt, source, time, time_symbols, order_symbols, Text, order, and_fold, text_symbols}

-- ---- Forms

-- the tokens before the first name that stands for no column, and those from it on
abbrev pub seen_front : Scope → List Symbol → List Symbol
seen_front scope [] = []
seen_front scope (s ∷ ss) = if is_seen scope s then s ∷ seen_front scope ss else []

abbrev pub unseen_rest : Scope → List Symbol → List Symbol
unseen_rest scope [] = []
unseen_rest scope (s ∷ ss) = if is_seen scope s then unseen_rest scope ss else s ∷ ss

-- with these tokens behind those that are left
abbrev pub followed_by : {A : Type 0} → List Symbol → Read Symbol A → Read Symbol A
followed_by others (Ok x) = Ok (x.0, x.1 ++ others)
followed_by others (Err (At ts)) = Err (At (ts ++ others))
followed_by others (Err Deep) = Err Deep

abbrev pub with_seen : (scope : Scope) (a : IxText false) → Option (IsTrue (all_seen scope (ix_symbols a))) → Reader Symbol (FormText scope)
with_seen scope a None = fail
with_seen scope a (Some h) = give (record { written = a; seen = h })

-- an expression among the tokens before the first name that stands for no column
unfoldable pub read_form : (room : ℕ) (scope : Scope) → Reader Symbol (FormText scope)
read_form room scope ts = followed_by (unseen_rest scope ts) (after (read_ix false room) (λ a. with_seen scope a (holding (all_seen scope (ix_symbols a)))) (seen_front scope ts))

abbrev pub form_more : (room : ℕ) (scope : Scope) → Unit {0} → FormsText scope → Reader Symbol (FormsText scope)
form_more room scope _ fs = after (read_form room scope) λ a. give (and_form fs a)

abbrev pub read_forms : (room : ℕ) (scope : Scope) → Reader Symbol (FormsText scope)
read_forms room scope = after (read_form room scope) λ a. all (this_mark (codes ",")) (form_more room scope) (one_form a)

-- ---- Inverse forms

abbrev pub read_given : (room : ℕ) (scope : Scope) (w : Name) (ws : List Name) → Reader Symbol (GivenText scope (w ∷ ws))
read_given room scope w [] = on (this_word w) λ _. on (this_mark (codes "=")) λ _. after (read_form room scope) λ a. give (last_entry w a)
read_given room scope w (v ∷ vs) =
    on (this_word w) λ _. on (this_mark (codes "=")) λ _. after (read_form room scope) λ a. on (this_mark (codes ",")) λ _. after (read_given room scope v vs) λ g. give (entry_then w a g)

abbrev pub entry_more : (room : ℕ) (scope : Scope) → Unit {0} → FreeText scope → Reader Symbol (FreeText scope)
entry_more room scope _ g = on any_word λ w. on (this_mark (codes "=")) λ _. after (read_form room scope) λ a. give (and_entry g w a)

-- behind the first Word and its "="
abbrev pub read_free : (room : ℕ) (scope : Scope) → Name → Reader Symbol (FreeText scope)
read_free room scope w = after (read_form room scope) λ a. all (this_mark (codes ",")) (entry_more room scope) (one_entry w a)

abbrev pub read_entries : (room : ℕ) (scope : Scope) (words : Words) → Reader Symbol (EntriesText scope words)
read_entries room scope (these w ws) = after (read_given room scope w ws) λ g. give (given g)
read_entries room scope any = on any_word λ w. on (this_mark (codes "=")) λ _. after (read_free room scope w) λ g. give (free g)

-- ---- Lines

-- what stands before a ";"
pub data Front (o : Outline) : Type 0 where
  source_word : Front o
  time_number : Digits → Front o
  stmt_forms : (digits : Digits) → StmtsText o (decimal digits) → (w : Name) → FormsText (statement_lists o (decimal digits) w).there → Front o
  stmt_line : (digits : Digits) → StmtsText o (decimal digits) → LineText (statement_lists o (decimal digits)) (statement_presence o) → Front o
  fold_forms : Text o → (w : Name) → FormsText (fold_lists o w).there → Front o
  fold_line : Text o → LineText (fold_lists o) fold_presence → Front o

abbrev pub part_symbols : {o : Outline} → Front o → List Symbol
part_symbols source_word = word (codes "source") ∷ []
part_symbols (time_number digits) = time_symbols digits
part_symbols (stmt_forms digits ss w fs) = order_symbols (time digits ss) ++ head_symbols w fs
part_symbols (stmt_line digits ss l) = order_symbols (time digits ss) ++ open_symbols l
part_symbols (fold_forms c w fs) = text_symbols c ++ word (codes "fold") ∷ head_symbols w fs
part_symbols (fold_line c l) = text_symbols c ++ word (codes "fold") ∷ open_symbols l

abbrev pub Next : Outline → Type 0
Next o = Reader Symbol (Turn (Front o) (Text o))

-- behind ":"
abbrev pub read_list : (room : ℕ) (scope : Scope) → Reader Symbol (FormsText scope)
read_list room scope = on (this_mark (codes "(")) λ _. after (read_forms room scope) λ fs. on (this_mark (codes ")")) λ _. give fs

-- behind "fold"
abbrev pub read_fold : (o : Outline) (room : ℕ) → Text o → Next o
read_fold o room c = on any_word λ w. on (this_mark (codes ":")) λ _. after (read_list room (fold_lists o w).there) λ fs. give (going (fold_forms c w fs))

abbrev pub next_fold : (o : Outline) (room : ℕ) → Text o → Next o
next_fold o room c = either (this_word (codes "fold")) (λ _. read_fold o room c) (finished (done c))

-- behind a Word that no ":" follows
abbrev pub read_first_fold : (o : Outline) (room : ℕ) → Text o → (is_fold : Bool) → Next o
read_first_fold o room c true = read_fold o room c
read_first_fold o room c false = fail

-- behind a Word
abbrev pub read_stmt : (o : Outline) (room : ℕ) (digits : Digits) → StmtsText o (decimal digits) → Name → Next o
read_stmt o room digits ss w =
    either (this_mark (codes ":")) (λ _. after (read_list room (statement_lists o (decimal digits) w).there) λ fs. give (going (stmt_forms digits ss w fs)))
    (read_first_fold o room (order (time digits ss)) (same w (codes "fold")))

abbrev pub next_stmt : (o : Outline) (room : ℕ) (digits : Digits) → StmtsText o (decimal digits) → Next o
next_stmt o room digits ss = either any_word (read_stmt o room digits ss) (finished (done (order (time digits ss))))

-- behind the first list of a statement's line and its ";"
abbrev pub stmt_more : (o : Outline) (room : ℕ) (digits : Digits) → StmtsText o (decimal digits) → (scope : Scope) (words : Words) (presence : Presence) → (InverseText scope words presence → LineText (statement_lists o (decimal digits)) (statement_presence o)) → Next o
stmt_more o room digits ss scope words never line = next_stmt o room digits (and_stmt ss (line without))
stmt_more o room digits ss scope words always line = after (read_entries room scope words) λ e. give (going (stmt_line digits ss (line (written e))))
stmt_more o room digits ss scope words maybe line =
    either any_word (λ w. either (this_mark (codes "=")) (λ _. after (read_free room scope w) λ g. give (going (stmt_line digits ss (line (taken g))))) (read_stmt o room digits (and_stmt ss (line skipped)) w))
    (finished (done (order (time digits (and_stmt ss (line skipped))))))

-- behind a ";"
abbrev pub part_more : (o : Outline) (room : ℕ) → Unit {0} → Front o → Next o
part_more o room _ source_word = next_fold o room (order source)
part_more o room _ (time_number digits) = next_stmt o room digits no_stmts
part_more o room _ (stmt_forms digits ss w fs) =
    let lists = statement_lists o (decimal digits) w in
    stmt_more o room digits ss lists.back lists.words (statement_presence o w) (λ i. record { name = w; forms = fs; inverse = i })
part_more o room _ (stmt_line digits ss l) = next_stmt o room digits (and_stmt ss l)
part_more o room _ (fold_forms c w fs) = after (read_entries room (fold_lists o w).back (fold_lists o w).words) λ e. give (going (fold_line c (record { name = w; forms = fs; inverse = written e })))
part_more o room _ (fold_line c l) = next_fold o room (and_fold c l)

abbrev pub read_parts : (o : Outline) (room : ℕ) → Front o → Reader Symbol (Text o)
read_parts o room = until (this_mark (codes ";")) (part_more o room)

unfoldable pub read_text : (o : Outline) (room : ℕ) → Reader Symbol (Text o)
read_text o room =
    either (this_word (codes "source")) (λ _. read_parts o room source_word)
    (on (this_word (codes "time")) λ _. on any_number λ digits. read_parts o room (time_number digits))
