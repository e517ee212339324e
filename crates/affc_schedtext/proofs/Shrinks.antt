-- The readers of drafts leave no more tokens than they were given.
use Rattle.std.proofs.Common.{◌≡◌, Bool, true, false, ℕ, ◌-◌, ◌≤◌, List, [], ◌∷◌, ◌++◌, length, Ok, Err, if◌then◌else◌, refl, arith, codes, length-append, ap, ◌+◌}
use Rattle.affc_lex.specs.Bytes.{same}
use Rattle.affc_grammar.specs.Grammar.{Symbol, Name}
use Rattle.affc_grammar.specs.Draft.{IxDraft, WordDraft, word_draft, ix_draft}
use Rattle.affc_grammar.specs.Reader.{At, Deep, Read, then_read, going, done}
use Rattle.affc_grammar.specs.Reading.{this_mark, this_word, any_word, read_ix}
use Rattle.affc_grammar.proofs.Rules.{ix_rule}
use Rattle.affc_syntax.specs.Readers.{closed, mapped}
use Rattle.affc_syntax.proofs.Readers.{Left, Shrinks, left_give, left_fail, left_then, on_test, all_left, closed_left}
use Rattle.affc_schedtext.specs.Outline.{Outline, Scope, Words, these, any, Presence, never, always, maybe, statement_lists, statement_presence, fold_lists}
use Rattle.affc_schedtext.specs.Draft.{LineDraft, Draft}
use Rattle.affc_schedtext.specs.Reading.{seen_front, unseen_rest, followed_by}
use Rattle.affc_schedtext.specs.Drafting.{Stage, folds, stmts, stmt_forms, fold_forms, line, timed, with_fold, form, form_more, more_forms, forms, list, entry, given, free_more, more_free, free, entries, ended, fold, next_fold, stmt, next_stmt, stmt_more, stage_more}
use Rattle.affc_schedtext.proofs.FormRules.{front_and_rest}

left_followed : {A D : Type 0} (f : A → D) (others : List Symbol) (x : Read Symbol A) (n : ℕ) → ((a : A) (us : List Symbol) → x ≡ Ok (a, us) → length us ≤ n) → Left (followed_by others (mapped f x)) (n + length others)
left_followed f others (Ok x) n h = left_give (f x.0) (x.1 ++ others) (n + length others) (let k = h x.0 x.1 refl in omega (arith, k, length-append x.1 others))
left_followed f others (Err (At ts)) n h = left_fail (At (ts ++ others)) (n + length others)
left_followed f others (Err Deep) n h = left_fail Deep (n + length others)

pub form_left : (end room : ℕ) (scope : Scope) → Shrinks (form end room scope)
form_left end room scope ts a us e =
    let front = seen_front scope ts in
    let rest = unseen_rest scope ts in
    let few : length us ≤ length front + length rest = left_followed (ix_draft (end - length ts)) rest (read_ix false room front) (length front) (λ c vs h. let m = (ix_rule false room).reader.ok_left front c vs h in omega (arith, ap length m.1, length-append m.0 vs)) a us e in
    omega (arith, few, ap length (front_and_rest scope ts), length-append front rest)

pub form_more_left : (end room : ℕ) (scope : Scope) (k : Unit {0}) (es : List IxDraft) → Shrinks (form_more end room scope k es)
form_more_left end room scope k es ts = left_then (form end room scope ts) (λ a vs. Ok (es ++ a ∷ [], vs)) (length ts) (form_left end room scope ts) (λ a vs. left_give (es ++ a ∷ []) vs (length vs) (omega arith))

entry_left : (end room : ℕ) (scope : Scope) (es : List IxDraft) → Shrinks (entry end room scope es)
entry_left end room scope es ts = on_test (this_mark (codes "=")) (λ _ us. form_more end room scope tt es us) (Err (At ts)) ts (λ _. form_more_left end room scope tt es) (left_fail (At ts) (length ts))

pub free_more_left : (end room : ℕ) (scope : Scope) (k : Unit {0}) (es : List IxDraft) → Shrinks (free_more end room scope k es)
free_more_left end room scope k es ts = on_test any_word (λ _ us. entry end room scope es us) (Err (At ts)) ts (λ _. entry_left end room scope es) (left_fail (At ts) (length ts))

forms_left : (end room : ℕ) (scope : Scope) → Shrinks (forms end room scope)
forms_left end room scope ts = left_then (form_more end room scope tt [] ts) (more_forms end room scope) (length ts) (form_more_left end room scope tt [] ts) (all_left (this_mark (codes ",")) (form_more end room scope) (form_more_left end room scope))

list_left : (end room : ℕ) (scope : Scope) → Shrinks (list end room scope)
list_left end room scope ts =
    on_test (this_mark (codes "(")) (λ _ us. then_read (forms end room scope us) (closed (codes ")"))) (Err (At ts)) ts (λ _ us. left_then (forms end room scope us) (closed (codes ")")) (length us) (forms_left end room scope us) (closed_left (codes ")"))) (left_fail (At ts) (length ts))

given_left : (end room : ℕ) (scope : Scope) (w : Name) (ws : List Name) (es : List IxDraft) → Shrinks (given end room scope w ws es)
given_left end room scope w [] es ts = on_test (this_word w) (λ _ us. entry end room scope es us) (Err (At ts)) ts (λ _. entry_left end room scope es) (left_fail (At ts) (length ts))
given_left end room scope w (v ∷ vs) es ts =
    on_test (this_word w) _ (Err (At ts)) ts (λ _ us. left_then (entry end room scope es us) _ (length us) (entry_left end room scope es us) (λ fs xs.
    on_test (this_mark (codes ",")) _ (Err (At xs)) xs (λ _ ys. given_left end room scope v vs fs ys) (left_fail (At xs) (length xs))))
    (left_fail (At ts) (length ts))

free_left : (end room : ℕ) (scope : Scope) → Shrinks (free end room scope)
free_left end room scope ts = left_then (form_more end room scope tt [] ts) (more_free end room scope) (length ts) (form_more_left end room scope tt [] ts) (all_left (this_mark (codes ",")) (free_more end room scope) (free_more_left end room scope))

entries_left : (end room : ℕ) (scope : Scope) (words : Words) → Shrinks (entries end room scope words)
entries_left end room scope (these w ws) ts = given_left end room scope w ws [] ts
entries_left end room scope any ts =
    on_test any_word _ (Err (At ts)) ts (λ _ us. on_test (this_mark (codes "=")) (λ _ vs. free end room scope vs) (Err (At us)) us (λ _. free_left end room scope) (left_fail (At us) (length us))) (left_fail (At ts) (length ts))

-- ---- Lines

ended_left : (d : Draft) → Shrinks (ended d)
ended_left d [] = left_give (done d) [] 0 (omega arith)
ended_left d (x ∷ ts) = left_fail (At (x ∷ ts)) (length (x ∷ ts))

module _ (o : Outline) (end room : ℕ) where
  fold_left : (d : Draft) → Shrinks (fold o end room d)
  fold_left d ts =
      on_test any_word _ (Err (At ts)) ts (λ w us.
      on_test (this_mark (codes ":")) _ (Err (At us)) us (λ _ vs.
      left_then (list end room (fold_lists o w).there vs) _ (length vs) (list_left end room (fold_lists o w).there vs) (λ es ws. left_give (going (fold_forms d (word_draft (end - length ts) w) es)) ws (length ws) (omega arith)))
      (left_fail (At us) (length us)))
      (left_fail (At ts) (length ts))

  next_fold_left : (d : Draft) → Shrinks (next_fold o end room d)
  next_fold_left d ts = on_test (this_word (codes "fold")) (λ _ us. fold o end room d us) (ended d ts) ts (λ _. fold_left d) (ended_left d ts)

  stmt_left : (n : ℕ) (lines : List LineDraft) (w : WordDraft) → Shrinks (stmt o end room n lines w)
  stmt_left n lines w ts =
      on_test (this_mark (codes ":")) _ _ ts (λ _ us.
      left_then (list end room (statement_lists o n w.name).there us) _ (length us) (list_left end room (statement_lists o n w.name).there us) (λ es vs. left_give (going (stmt_forms n lines w es)) vs (length vs) (omega arith)))
      (of_fold (same w.name (codes "fold")))
    where
      of_fold : (t : Bool) → Left (if t then fold o end room (timed n lines) ts else Err (At ts)) (length ts)
      of_fold true = fold_left (timed n lines) ts
      of_fold false = left_fail (At ts) (length ts)

  next_stmt_left : (n : ℕ) (lines : List LineDraft) → Shrinks (next_stmt o end room n lines)
  next_stmt_left n lines ts = on_test any_word (λ w us. stmt o end room n lines (word_draft (end - length ts) w) us) (ended (timed n lines) ts) ts (λ w us. stmt_left n lines (word_draft (end - length ts) w) us) (ended_left (timed n lines) ts)

  stmt_more_left : (n : ℕ) (lines : List LineDraft) (w : WordDraft) (es : List IxDraft) (scope : Scope) (words : Words) (presence : Presence) → Shrinks (stmt_more o end room n lines w es scope words presence)
  stmt_more_left n lines w es scope words never ts = next_stmt_left n (lines ++ line w es [] ∷ []) ts
  stmt_more_left n lines w es scope words always ts =
      left_then (entries end room scope words ts) _ (length ts) (entries_left end room scope words ts) (λ fs us. left_give (going (stmts n (lines ++ line w es fs ∷ []))) us (length us) (omega arith))
  stmt_more_left n lines w es scope words maybe ts =
      on_test any_word _ (ended (timed n (lines ++ line w es [] ∷ [])) ts) ts (λ v us.
      on_test (this_mark (codes "=")) _ _ us (λ _ vs. left_then (free end room scope vs) _ (length vs) (free_left end room scope vs) (λ fs ws. left_give (going (stmts n (lines ++ line w es fs ∷ []))) ws (length ws) (omega arith)))
      (stmt_left n (lines ++ line w es [] ∷ []) (word_draft (end - length ts) v) us))
      (ended_left (timed n (lines ++ line w es [] ∷ [])) ts)

  pub stage_more_left : (k : Unit {0}) (s : Stage) → Shrinks (stage_more o end room k s)
  stage_more_left k (folds d) ts = next_fold_left d ts
  stage_more_left k (stmts n lines) ts = next_stmt_left n lines ts
  stage_more_left k (stmt_forms n lines w es) ts =
      stmt_more_left n lines w es (statement_lists o n w.name).back (statement_lists o n w.name).words (statement_presence o w.name) ts
  stage_more_left k (fold_forms d w es) ts =
      left_then (entries end room (fold_lists o w.name).back (fold_lists o w.name).words ts) _ (length ts) (entries_left end room (fold_lists o w.name).back (fold_lists o w.name).words ts) (λ fs us. left_give (going (folds (with_fold d (line w es fs)))) us (length us) (omega arith))
