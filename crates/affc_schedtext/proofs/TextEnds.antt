-- A whole draft is read only where the text ends.
use Rattle.std.proofs.Common.{◌≡◌, ℕ, zero, suc, ◌-◌, Bool, true, false, List, [], ◌∷◌, ◌++◌, length, Option, Some, None, Ok, Err, if◌then◌else◌, sym, ◌∙◌, codes}
use Rattle.affc_lex.specs.Bytes.{same}
use Rattle.affc_grammar.specs.Grammar.{Symbol}
use Rattle.affc_grammar.specs.Draft.{IxDraft, WordDraft, word_draft}
use Rattle.affc_grammar.specs.Reader.{At, Read, Reader, then_read, Turn, going, done}
use Rattle.affc_grammar.specs.Reading.{this_mark, this_word, any_word}
use Rattle.affc_grammar.proofs.Closed.{then_ok, same_ok}
use Rattle.affc_syntax.specs.Ahead.{past, number_value}
use Rattle.affc_syntax.specs.Readers.{on_past}
use Rattle.affc_schedtext.specs.Outline.{Outline, Scope, Words, Presence, never, always, maybe, statement_lists, statement_presence, fold_lists}
use Rattle.affc_schedtext.specs.Draft.{LineDraft, source, Draft}
use Rattle.affc_schedtext.specs.Drafting.{Stage, folds, stmts, stmt_forms, fold_forms, line, timed, with_fold, going_on, tries_more, until_done, list, free, entries, ended, fold, next_fold, stmt, next_stmt, stmt_more, stage_more, stages, text}

-- nothing is left behind what is read
abbrev AtEnd : {C : Type 0} → Read Symbol C → Type 0
AtEnd {C} r = (c : C) (us : List Symbol) → r ≡ Ok (c, us) → us ≡ []

-- nothing is left behind the whole
abbrev DoneAtEnd : {A C : Type 0} → Read Symbol (Turn A C) → Type 0
DoneAtEnd {A} {C} r = (c : C) (us : List Symbol) → r ≡ Ok (done c, us) → us ≡ []

not_going : {A C : Type 0} (a : A) (c : C) → ◌≡◌ {A = Turn A C} (going a) (done c) → ⊥
not_going a c e = absurd (cc)

end_going : {A C : Type 0} (a : A) (us : List Symbol) → DoneAtEnd {A = A} {C = C} (Ok (going a, us))
end_going {A} {C} a us c vs e = absurd (not_going a c (same_ok {T = Symbol} {A = Turn A C} (going a) us (done c) vs e).0)

same_done : {A C : Type 0} (d : C) (ts : List Symbol) (c : C) (us : List Symbol) → ◌≡◌ {A = Read Symbol (Turn A C)} (Ok (done d, ts)) (Ok (done c, us)) → ts ≡ us
same_done {A} {C} d ts c us e = (same_ok {T = Symbol} {A = Turn A C} (done d) ts (done c) us e).1

end_fail : {A C : Type 0} (ts : List Symbol) → DoneAtEnd {A = A} {C = C} (Err (At ts))
end_fail ts c us e = absurd (cc)

end_then : {A B C : Type 0} (r : Read Symbol B) (f : B → Reader Symbol (Turn A C)) → ((b : B) (us : List Symbol) → DoneAtEnd (f b us)) → DoneAtEnd (then_read r f)
end_then r f h c us e = let k = then_ok r f (done c, us) e in h k.0 k.1 c us k.3

end_past : {A C K : Type 0} (o : Option (K × List Symbol)) (next : K → Reader Symbol (Turn A C)) (other : Read Symbol (Turn A C)) → ((k : K) (us : List Symbol) → DoneAtEnd (next k us)) → DoneAtEnd other → DoneAtEnd (on_past o next other)
end_past None next other h l = l
end_past (Some p) next other h l = h p.0 p.1

-- ---- Until the whole is read

module _ {A C K : Type 0} (test : Symbol → Option K) (turn : K → A → Reader Symbol (Turn A C)) (h : (k : K) (left : A) (us : List Symbol) → DoneAtEnd (turn k left us)) where
  behind_turn : (again : A → Reader Symbol C) → ((a : A) (us : List Symbol) → AtEnd (again a us)) → (k : K) (left : A) (us : List Symbol) → AtEnd (then_read (turn k left us) (going_on again))
  behind_turn again i k left us c vs e =
      let m = then_ok (turn k left us) (going_on again) (c, vs) e in
      of_turn m.0 m.1 m.2 m.3
    where
      of_turn : (t : Turn A C) (ws : List Symbol) → turn k left us ≡ Ok (t, ws) → going_on again t ws ≡ Ok (c, vs) → vs ≡ []
      of_turn (going a) ws q r = i a ws c vs r
      of_turn (done d) ws q r = sym (same_ok d ws c vs r).1 ∙ h k left us d ws q

  at_past : (o : Option (K × List Symbol)) (next : K → Reader Symbol C) (ts : List Symbol) → ((k : K) (us : List Symbol) → AtEnd (next k us)) → AtEnd (on_past o next (Err (At ts)))
  at_past None next ts i c us e = absurd (cc)
  at_past (Some p) next ts i c us e = i p.0 p.1 c us e

  tries_end : (n : ℕ) (left : A) (ts : List Symbol) → AtEnd (tries_more test turn n left ts)
  tries_end zero left ts c us e = absurd (cc)
  tries_end (suc n) left ts c us e = at_past (past test ts) (λ k vs. then_read (turn k left vs) (going_on (tries_more test turn n))) ts (behind_one n (tries_end n) left) c us e
    where
      behind_one : (n : ℕ) → ((a : A) (us : List Symbol) → AtEnd (tries_more test turn n a us)) → (left : A) (k : K) (us : List Symbol) → AtEnd (then_read (turn k left us) (going_on (tries_more test turn n)))
      behind_one n i left k us = behind_turn (tries_more test turn n) i k left us

  until_end : (left : A) (ts : List Symbol) → AtEnd (until_done test turn left ts)
  unfolding until_done
  until_end left ts = tries_end (length ts) left ts

-- ---- Lines

ended_end : (d : Draft) (ts : List Symbol) → DoneAtEnd {A = Stage} (ended d ts)
ended_end d [] c us e = sym (same_done d [] c us e)
ended_end d (x ∷ ts) c us e = absurd (cc)

module _ (o : Outline) (end room : ℕ) where
  fold_end : (d : Draft) (ts : List Symbol) → DoneAtEnd (fold o end room d ts)
  fold_end d ts =
      end_past (past any_word ts) _ (Err (At ts)) (λ w us.
      end_past (past (this_mark (codes ":")) us) _ (Err (At us)) (λ _ vs.
      end_then (list end room (fold_lists o w).there vs) _ (λ es ws. end_going (fold_forms d (word_draft (end - length ts) w) es) ws))
      (end_fail us))
      (end_fail ts)

  next_fold_end : (d : Draft) (ts : List Symbol) → DoneAtEnd (next_fold o end room d ts)
  next_fold_end d ts = end_past (past (this_word (codes "fold")) ts) (λ _ us. fold o end room d us) (ended d ts) (λ _ us. fold_end d us) (ended_end d ts)

  stmt_end : (n : ℕ) (lines : List LineDraft) (w : WordDraft) (ts : List Symbol) → DoneAtEnd (stmt o end room n lines w ts)
  stmt_end n lines w ts =
      end_past (past (this_mark (codes ":")) ts) _ _ (λ _ us.
      end_then (list end room (statement_lists o n w.name).there us) _ (λ es vs. end_going (stmt_forms n lines w es) vs))
      (of_fold (same w.name (codes "fold")))
    where
      of_fold : (t : Bool) → DoneAtEnd (if t then fold o end room (timed n lines) ts else Err (At ts))
      of_fold true = fold_end (timed n lines) ts
      of_fold false = end_fail ts

  next_stmt_end : (n : ℕ) (lines : List LineDraft) (ts : List Symbol) → DoneAtEnd (next_stmt o end room n lines ts)
  next_stmt_end n lines ts =
      end_past (past any_word ts) (λ w us. stmt o end room n lines (word_draft (end - length ts) w) us) (ended (timed n lines) ts) (λ w us. stmt_end n lines (word_draft (end - length ts) w) us) (ended_end (timed n lines) ts)

  stmt_more_end : (n : ℕ) (lines : List LineDraft) (w : WordDraft) (es : List IxDraft) (scope : Scope) (words : Words) (presence : Presence) (ts : List Symbol) → DoneAtEnd (stmt_more o end room n lines w es scope words presence ts)
  stmt_more_end n lines w es scope words never ts = next_stmt_end n (lines ++ line w es [] ∷ []) ts
  stmt_more_end n lines w es scope words always ts = end_then (entries end room scope words ts) _ (λ fs us. end_going (stmts n (lines ++ line w es fs ∷ [])) us)
  stmt_more_end n lines w es scope words maybe ts =
      end_past (past any_word ts) _ (ended (timed n (lines ++ line w es [] ∷ [])) ts) (λ v us.
      end_past (past (this_mark (codes "=")) us) _ _ (λ _ vs. end_then (free end room scope vs) _ (λ fs ws. end_going (stmts n (lines ++ line w es fs ∷ [])) ws))
      (stmt_end n (lines ++ line w es [] ∷ []) (word_draft (end - length ts) v) us))
      (ended_end (timed n (lines ++ line w es [] ∷ [])) ts)

  stage_more_end : (k : Unit {0}) (s : Stage) (ts : List Symbol) → DoneAtEnd (stage_more o end room k s ts)
  stage_more_end k (folds d) ts = next_fold_end d ts
  stage_more_end k (stmts n lines) ts = next_stmt_end n lines ts
  stage_more_end k (stmt_forms n lines w es) ts = stmt_more_end n lines w es (statement_lists o n w.name).back (statement_lists o n w.name).words (statement_presence o w.name) ts
  stage_more_end k (fold_forms d w es) ts = end_then (entries end room (fold_lists o w.name).back (fold_lists o w.name).words ts) _ (λ fs us. end_going (folds (with_fold d (line w es fs))) us)

  stages_end : (s : Stage) (ts : List Symbol) → AtEnd (stages o end room s ts)
  stages_end s ts = until_end (this_mark (codes ";")) (stage_more o end room) stage_more_end s ts

  past_end : {K : Type 0} (p : Option (K × List Symbol)) (next : K → Reader Symbol Draft) (other : Read Symbol Draft) → ((k : K) (us : List Symbol) → AtEnd (next k us)) → AtEnd other → AtEnd (on_past p next other)
  past_end None next other h l = l
  past_end (Some p) next other h l = h p.0 p.1

  stopped_end : (ts : List Symbol) → AtEnd {C = Draft} (Err (At ts))
  stopped_end ts c us e = absurd (cc)

  pub text_end : (ts : List Symbol) (d : Draft) (us : List Symbol) → text o end room ts ≡ Ok (d, us) → us ≡ []
  text_end ts =
      past_end (past (this_word (codes "source")) ts) _ _ (λ _ us. stages_end (folds (record { order = source; folds = [] })) us)
      (past_end (past (this_word (codes "time")) ts) _ _ (λ _ us. past_end (past number_value us) _ _ (λ n vs. stages_end (stmts n []) vs) (stopped_end us)) (stopped_end ts))
