-- Reading drafts of schedules. Only the crate's private clauses cite it: `end` is the number behind the last token, so that the first of some tokens
-- at the text's end has the number `end - length tokens`.
use Rattle.std.specs.Prelude.{ℕ, zero, suc, ◌-◌, false, List, [], ◌∷◌, ◌++◌, length, codes, Option, Ok, Err, if◌then◌else◌}
use Rattle.affc_lex.specs.Bytes.{same}
use Rattle.affc_grammar.specs.Grammar.{Symbol, Name}
use Rattle.affc_grammar.specs.Draft.{IxDraft, WordDraft, word_draft, ix_draft}
use Rattle.affc_grammar.specs.Reader.{At, Reader, then_read, Turn, going, done}
use Rattle.affc_grammar.specs.Reading.{this_mark, this_word, any_word, read_ix}
use Rattle.affc_syntax.specs.Ahead.{past, number_value}
use Rattle.affc_syntax.specs.Readers.{on_past, closed, mapped, all_more}
use Rattle.affc_schedtext.specs.Outline.{Outline, Scope, Words, these, any, Presence, never, always, maybe, statement_lists, statement_presence, fold_lists}
use Rattle.affc_schedtext.specs.Draft.{LineDraft, source, time, Draft}
use Rattle.affc_schedtext.specs.Reading.{seen_front, unseen_rest, followed_by}

-- what stands before a ";"
pub data Stage : Type 0 where
  -- what a fold may follow
  folds : Draft → Stage
  -- what a statement's line may follow, where the time has this length
  stmts : (length_of_time : ℕ) → List LineDraft → Stage
  stmt_forms : (length_of_time : ℕ) → List LineDraft → WordDraft → List IxDraft → Stage
  fold_forms : Draft → WordDraft → List IxDraft → Stage

abbrev pub line : WordDraft → (forms inverse : List IxDraft) → LineDraft
line w forms inverse = record { at = w.at; name = w.name; forms = forms; inverse = inverse }

-- the length stands behind "time"
abbrev pub timed : (length_of_time : ℕ) → List LineDraft → Draft
timed n lines = record { order = time 1 n lines; folds = [] }

abbrev pub with_fold : Draft → LineDraft → Draft
with_fold d l = record { order = d.order; folds = d.folds ++ l ∷ [] }

-- ---- Until the whole is read

abbrev pub going_on : {A C : Type 0} → (A → Reader Symbol C) → Turn A C → Reader Symbol C
going_on again (going a) us = again a us
going_on again (done c) us = Ok (c, us)

abbrev pub tries_more : {A C K : Type 0} → (Symbol → Option K) → (K → A → Reader Symbol (Turn A C)) → ℕ → A → Reader Symbol C
tries_more test turn zero left ts = Err (At ts)
tries_more test turn (suc n) left ts = on_past (past test ts) (λ k us. then_read (turn k left us) (going_on (tries_more test turn n))) (Err (At ts))

unfoldable pub until_done : {A C K : Type 0} → (Symbol → Option K) → (K → A → Reader Symbol (Turn A C)) → A → Reader Symbol C
until_done test turn left ts = tries_more test turn (length ts) left ts

-- ---- Forms

abbrev pub form : (end room : ℕ) → Scope → Reader Symbol IxDraft
form end room scope ts = followed_by (unseen_rest scope ts) (mapped (ix_draft (end - length ts)) (read_ix false room (seen_front scope ts)))

abbrev pub form_more : (end room : ℕ) → Scope → Unit {0} → List IxDraft → Reader Symbol (List IxDraft)
form_more end room scope _ es us = then_read (form end room scope us) (λ a vs. Ok (es ++ a ∷ [], vs))

abbrev pub more_forms : (end room : ℕ) → Scope → List IxDraft → Reader Symbol (List IxDraft)
more_forms end room scope = all_more (this_mark (codes ",")) (form_more end room scope)

abbrev pub forms : (end room : ℕ) → Scope → Reader Symbol (List IxDraft)
forms end room scope ts = then_read (form_more end room scope tt [] ts) (more_forms end room scope)

-- behind ":"
abbrev pub list : (end room : ℕ) → Scope → Reader Symbol (List IxDraft)
list end room scope ts = on_past (past (this_mark (codes "(")) ts) (λ _ us. then_read (forms end room scope us) (closed (codes ")"))) (Err (At ts))

-- ---- Inverse forms

-- behind a Word, with its "="
abbrev pub entry : (end room : ℕ) → Scope → List IxDraft → Reader Symbol (List IxDraft)
entry end room scope es ts = on_past (past (this_mark (codes "=")) ts) (λ _ us. form_more end room scope tt es us) (Err (At ts))

abbrev pub given : (end room : ℕ) → Scope → Name → List Name → List IxDraft → Reader Symbol (List IxDraft)
given end room scope w [] es ts = on_past (past (this_word w) ts) (λ _ us. entry end room scope es us) (Err (At ts))
given end room scope w (v ∷ vs) es ts =
    on_past (past (this_word w) ts) (λ _ us.
    then_read (entry end room scope es us) (λ fs xs.
    on_past (past (this_mark (codes ",")) xs) (λ _ ys. given end room scope v vs fs ys) (Err (At xs))))
    (Err (At ts))

abbrev pub free_more : (end room : ℕ) → Scope → Unit {0} → List IxDraft → Reader Symbol (List IxDraft)
free_more end room scope _ es ts = on_past (past any_word ts) (λ _ us. entry end room scope es us) (Err (At ts))

abbrev pub more_free : (end room : ℕ) → Scope → List IxDraft → Reader Symbol (List IxDraft)
more_free end room scope = all_more (this_mark (codes ",")) (free_more end room scope)

-- behind the first Word and its "="
abbrev pub free : (end room : ℕ) → Scope → Reader Symbol (List IxDraft)
free end room scope ts = then_read (form_more end room scope tt [] ts) (more_free end room scope)

abbrev pub entries : (end room : ℕ) → Scope → Words → Reader Symbol (List IxDraft)
entries end room scope (these w ws) ts = given end room scope w ws [] ts
entries end room scope any ts =
    on_past (past any_word ts) (λ _ us.
    on_past (past (this_mark (codes "=")) us) (λ _ vs. free end room scope vs) (Err (At us)))
    (Err (At ts))

-- ---- Lines

abbrev pub Next : Type 0
Next = Reader Symbol (Turn Stage Draft)

-- the text, which ends here
abbrev pub ended : Draft → Next
ended d [] = Ok (done d, [])
ended d (x ∷ ts) = Err (At (x ∷ ts))

-- behind "fold"
abbrev pub fold : (o : Outline) (end room : ℕ) → Draft → Next
fold o end room d ts =
    on_past (past any_word ts) (λ w us.
    on_past (past (this_mark (codes ":")) us) (λ _ vs.
    then_read (list end room (fold_lists o w).there vs) (λ es ws. Ok (going (fold_forms d (word_draft (end - length ts) w) es), ws)))
    (Err (At us)))
    (Err (At ts))

abbrev pub next_fold : (o : Outline) (end room : ℕ) → Draft → Next
next_fold o end room d ts = on_past (past (this_word (codes "fold")) ts) (λ _ us. fold o end room d us) (ended d ts)

-- behind a Word
abbrev pub stmt : (o : Outline) (end room length_of_time : ℕ) → List LineDraft → WordDraft → Next
stmt o end room n lines w ts =
    on_past (past (this_mark (codes ":")) ts) (λ _ us.
    then_read (list end room (statement_lists o n w.name).there us) (λ es vs. Ok (going (stmt_forms n lines w es), vs)))
    (if same w.name (codes "fold") then fold o end room (timed n lines) ts else Err (At ts))

abbrev pub next_stmt : (o : Outline) (end room length_of_time : ℕ) → List LineDraft → Next
next_stmt o end room n lines ts = on_past (past any_word ts) (λ w us. stmt o end room n lines (word_draft (end - length ts) w) us) (ended (timed n lines) ts)

-- behind the first list of a statement's line and its ";"
abbrev pub stmt_more : (o : Outline) (end room length_of_time : ℕ) → List LineDraft → WordDraft → List IxDraft → Scope → Words → Presence → Next
stmt_more o end room n lines w es scope words never ts = next_stmt o end room n (lines ++ line w es [] ∷ []) ts
stmt_more o end room n lines w es scope words always ts = then_read (entries end room scope words ts) (λ fs us. Ok (going (stmts n (lines ++ line w es fs ∷ [])), us))
stmt_more o end room n lines w es scope words maybe ts =
    on_past (past any_word ts) (λ v us.
    on_past (past (this_mark (codes "=")) us) (λ _ vs. then_read (free end room scope vs) (λ fs ws. Ok (going (stmts n (lines ++ line w es fs ∷ [])), ws)))
    (stmt o end room n (lines ++ line w es [] ∷ []) (word_draft (end - length ts) v) us))
    (ended (timed n (lines ++ line w es [] ∷ [])) ts)

-- behind a ";"
abbrev pub stage_more : (o : Outline) (end room : ℕ) → Unit {0} → Stage → Next
stage_more o end room _ (folds d) ts = next_fold o end room d ts
stage_more o end room _ (stmts n lines) ts = next_stmt o end room n lines ts
stage_more o end room _ (stmt_forms n lines w es) ts =
    stmt_more o end room n lines w es (statement_lists o n w.name).back (statement_lists o n w.name).words (statement_presence o w.name) ts
stage_more o end room _ (fold_forms d w es) ts =
    then_read (entries end room (fold_lists o w.name).back (fold_lists o w.name).words ts) (λ fs us. Ok (going (folds (with_fold d (line w es fs))), us))

abbrev pub stages : (o : Outline) (end room : ℕ) → Stage → Reader Symbol Draft
stages o end room = until_done (this_mark (codes ";")) (stage_more o end room)

-- behind "time"
abbrev pub time_behind : (o : Outline) (end room : ℕ) → Reader Symbol Draft
time_behind o end room ts = on_past (past number_value ts) (λ n us. stages o end room (stmts n []) us) (Err (At ts))

abbrev pub text : (o : Outline) (end room : ℕ) → Reader Symbol Draft
text o end room ts =
    on_past (past (this_word (codes "source")) ts) (λ _ us. stages o end room (folds (record { order = source; folds = [] })) us)
    (on_past (past (this_word (codes "time")) ts) (λ _ us. time_behind o end room us) (Err (At ts)))
