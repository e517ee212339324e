-- What is spelled so is read: of each rule, before any tokens that do not go on with it.
use Rattle.std.proofs.Common.{◌≡◌, ℕ, Bool, true, false, List, [], ◌∷◌, ◌++◌, Option, Some, None, Ok, Err, refl, sym, ap, ◌∙◌, subst, codes, cond, append_assoc, append-nil}
use Rattle.std.proofs.lemmas.Bool.{and_parts}
use Rattle.affc_lex.specs.Bytes.{decimal}
use Rattle.affc_grammar.specs.Grammar.{Symbol, Name, Digits, word, mark, ix_symbols}
use Rattle.affc_grammar.specs.Reader.{At, Deep, Read, Reader, then_read, on_some, finished, going, done, give, after, either, all, until, and_on, IsReader}
use Rattle.affc_grammar.specs.Reading.{this_mark, any_word, sum_sign, holding}
use Rattle.affc_grammar.proofs.Tests.{word_test, holding_is}
use Rattle.affc_grammar.proofs.Done.{IsDone, Gets, NotNext, gets_give, gets_after, gets_on, gets_other, gets_end, gets_turn, gets_until, gets_finished}
use Rattle.affc_grammar.proofs.Complete.{EndsIx, regroup, sum_gets}
use Rattle.affc_schedtext.specs.Outline.{Outline, Scope, Words, these, any, Presence, never, always, maybe, statement_lists, statement_presence, fold_lists}
use Rattle.affc_schedtext.specs.Grammar.{is_seen, all_seen, FormText, form_symbols, FormsText, one_form, and_form, forms_symbols, GivenText, last_entry, entry_then, given_symbols, FreeText, one_entry, and_entry, free_symbols, EntriesText, given, free, entries_symbols, InverseText, without, written, skipped, taken, inverse_symbols, LineText, head_symbols, line_symbols, StmtsText, no_stmts, and_stmt, stmts_symbols, source, time, Text, order, and_fold, text_symbols}
use Rattle.affc_schedtext.specs.Reading.{seen_front, unseen_rest, followed_by, with_seen, read_form, form_more, read_forms, read_given, entry_more, read_free, read_entries, Front, source_word, time_number, stmt_forms, stmt_line, fold_forms, fold_line, read_list, Next, read_fold, next_fold, read_stmt, next_stmt, stmt_more, part_more, read_text}
use Rattle.affc_schedtext.proofs.FormRules.{inner, opened, front_and_rest}
use Rattle.affc_schedtext.proofs.TextRules.{form_more_rule, entry_more_rule, part_rule}

-- ---- Forms

front_of : (scope : Scope) (xs ys : List Symbol) → all_seen scope xs ≡ true → (seen_front scope (xs ++ ys) ≡ xs ++ seen_front scope ys) × (unseen_rest scope (xs ++ ys) ≡ unseen_rest scope ys)
front_of scope [] ys e = (refl, refl)
front_of scope (x ∷ xs) ys e =
    let h = and_parts (is_seen scope x) (all_seen scope xs) e in
    let k = front_of scope xs ys h.1 in
    (ap (λ b. cond b (x ∷ seen_front scope (xs ++ ys)) []) h.0 ∙ ap (λ l. x ∷ l) k.0, ap (λ b. cond b (unseen_rest scope (xs ++ ys)) (x ∷ (xs ++ ys))) h.0 ∙ k.1)

not_next_front : {K : Type 0} (test : Symbol → Option K) (scope : Scope) (ts : List Symbol) → NotNext test ts → NotNext test (seen_front scope ts)
not_next_front test scope [] e = tt
not_next_front {K} test scope (t ∷ ts) e = at (is_seen scope t)
  where
    at : (b : Bool) → NotNext test (cond b (t ∷ seen_front scope ts) [])
    at true = e
    at false = tt

followed_done : {A : Type 0} (others : List Symbol) (a : A) (us rest : List Symbol) (r : Read Symbol A) → us ++ others ≡ rest → IsDone a us r → IsDone a rest (followed_by others r)
followed_done {A} others a us rest (Ok x) e d = (λ i. ((d i).0, (d i).1 ++ others)) ∙ ap (λ l. (a, l)) e
followed_done others a us rest (Err (At ts)) e d = d
followed_done others a us rest (Err Deep) e d = d

module _ (room : ℕ) (scope : Scope) where
  with_seen_gets : (c : FormText scope) (rest : List Symbol) → Gets (with_seen scope c.written (holding (all_seen scope (ix_symbols c.written)))) rest c rest
  with_seen_gets c rest = subst (λ h. Gets (with_seen scope c.written h) rest c rest) (sym (holding_is (all_seen scope (ix_symbols c.written)) c.seen)) gets_give

  pub form_gets : (c : FormText scope) (rest : List Symbol) → EndsIx rest → Gets (read_form room scope) (form_symbols c ++ rest) c rest
  form_gets c rest e =
      let k = front_of scope (form_symbols c) rest c.seen in
      let f = seen_front scope rest in
      let ends : EndsIx f = (not_next_front sum_sign scope rest e.0, not_next_front (this_mark (codes "*")) scope rest e.1, not_next_front (this_mark (codes "(")) scope rest e.2) in
      let read : Gets (inner room scope) (form_symbols c ++ f) c f = gets_after _ (sum_gets false c.written room f ends) (with_seen_gets c f) in
      record { is = subst (λ r. IsDone c rest r) (sym (opened room scope (form_symbols c ++ rest) ∙ (λ i. followed_by (k.1 i) (inner room scope (k.0 i))))) (followed_done (unseen_rest scope rest) c f rest (inner room scope (form_symbols c ++ f)) (sym (front_and_rest scope rest)) read.is) }

  form_more_reader : (x : Symbol) (k : Unit {0}) → this_mark (codes ",") x ≡ Some k → (fs : FormsText scope) → IsReader (form_more room scope k fs)
  form_more_reader x k q fs = (form_more_rule room scope k fs).reader

  forms_open : (c : FormsText scope) (rest : List Symbol) (d : FormsText scope) (end : List Symbol) → EndsIx rest → Gets (all (this_mark (codes ",")) (form_more room scope) c) rest d end → Gets (read_forms room scope) (forms_symbols c ++ rest) d end
  forms_open (one_form a) rest d end e h = gets_after _ (form_gets a rest e) h
  forms_open (and_form fs a) rest d end e h =
      regroup (forms_symbols fs) (mark (codes ",") ∷ form_symbols a) rest
      (forms_open fs (mark (codes ",") ∷ (form_symbols a ++ rest)) d end (refl, refl, refl)
      (gets_turn form_more_reader refl (gets_after _ (form_gets a rest e) gets_give) h))

  -- ---- Inverse forms

  given_gets : (w : Name) (ws : List Name) (c : GivenText scope (w ∷ ws)) (rest : List Symbol) → EndsIx rest → NotNext (this_mark (codes ",")) rest → Gets (read_given room scope w ws) (given_symbols c ++ rest) c rest
  given_gets w [] (last_entry _ a) rest e n = gets_on _ _ _ ((word_test w).passes tt) (gets_on _ _ _ refl (gets_after _ (form_gets a rest e) gets_give))
  given_gets w [] (entry_then _ a g) rest e n = elim g [ ]
  given_gets w (v ∷ vs) (entry_then _ a g) rest e n =
      gets_on _ _ _ ((word_test w).passes tt) (gets_on _ _ _ refl (gets_after _ (regroup (form_symbols a) (mark (codes ",") ∷ given_symbols g) rest (form_gets a (mark (codes ",") ∷ (given_symbols g ++ rest)) (refl, refl, refl)))
      (gets_on _ _ _ refl (gets_after _ (given_gets v vs g rest e n) gets_give))))

  entry_more_reader : (x : Symbol) (k : Unit {0}) → this_mark (codes ",") x ≡ Some k → (g : FreeText scope) → IsReader (entry_more room scope k g)
  entry_more_reader x k q g = (entry_more_rule room scope k g).reader

  abbrev first_of : FreeText scope → Name
  first_of (one_entry w a) = w
  first_of (and_entry g w a) = first_of g

  abbrev tail_of : FreeText scope → List Symbol
  tail_of (one_entry w a) = form_symbols a
  tail_of (and_entry g w a) = tail_of g ++ mark (codes ",") ∷ word w ∷ mark (codes "=") ∷ form_symbols a

  free_split : (c : FreeText scope) → free_symbols c ≡ word (first_of c) ∷ mark (codes "=") ∷ tail_of c
  free_split (one_entry w a) = refl
  free_split (and_entry g w a) = ap (λ l. l ++ mark (codes ",") ∷ word w ∷ mark (codes "=") ∷ form_symbols a) (free_split g)

  free_open : (c : FreeText scope) (rest : List Symbol) (d : FreeText scope) (end : List Symbol) → EndsIx rest → Gets (all (this_mark (codes ",")) (entry_more room scope) c) rest d end → Gets (read_free room scope (first_of c)) (tail_of c ++ rest) d end
  free_open (one_entry w a) rest d end e h = gets_after _ (form_gets a rest e) h
  free_open (and_entry g w a) rest d end e h =
      regroup (tail_of g) (mark (codes ",") ∷ word w ∷ mark (codes "=") ∷ form_symbols a) rest
      (free_open g (mark (codes ",") ∷ word w ∷ mark (codes "=") ∷ (form_symbols a ++ rest)) d end (refl, refl, refl)
      (gets_turn entry_more_reader refl (gets_on _ _ _ refl (gets_on _ _ _ refl (gets_after _ (form_gets a rest e) gets_give))) h))

  free_gets : (c : FreeText scope) (rest : List Symbol) → EndsIx rest → NotNext (this_mark (codes ",")) rest → Gets (read_free room scope (first_of c)) (tail_of c ++ rest) c rest
  free_gets c rest e n = free_open c rest c rest e (gets_end _ _ n)

  entries_gets : (words : Words) (c : EntriesText scope words) (rest : List Symbol) → EndsIx rest → NotNext (this_mark (codes ",")) rest → Gets (read_entries room scope words) (entries_symbols c ++ rest) c rest
  entries_gets (these w ws) (given g) rest e n = gets_after _ (given_gets w ws g rest e n) gets_give
  entries_gets any (free g) rest e n =
      subst (λ l. Gets (read_entries room scope any) (l ++ rest) (free g) rest) (sym (free_split g))
      (gets_on _ _ _ refl (gets_on _ _ _ refl (gets_after _ (free_gets g rest e n) gets_give)))

  list_gets : (fs : FormsText scope) (rest : List Symbol) → Gets (read_list room scope) (mark (codes "(") ∷ ((forms_symbols fs ++ mark (codes ")") ∷ []) ++ rest)) fs rest
  list_gets fs rest =
      gets_on _ _ _ refl (gets_after _ (regroup (forms_symbols fs) (mark (codes ")") ∷ []) rest (forms_open fs (mark (codes ")") ∷ rest) fs (mark (codes ")") ∷ rest) (refl, refl, refl) (gets_end _ _ refl)))
      (gets_on _ _ _ refl gets_give))

-- ---- Lines

-- no inverse form begins here
abbrev NoEntry : List Symbol → Type 0
NoEntry [] = Unit {0}
NoEntry (x ∷ rest) = NotNext (this_mark (codes "=")) rest

module _ (o : Outline) (room : ℕ) where
  abbrev parts : Front o → Reader Symbol (Text o)
  parts = until (this_mark (codes ";")) (part_more o room)

  part_reader : (x : Symbol) (k : Unit {0}) → this_mark (codes ";") x ≡ Some k → (p : Front o) → IsReader (part_more o room k p)
  part_reader x k q p = (part_rule o room k p).reader

  -- behind a ";", with what follows it
  turned : (p : Front o) {ts rest : List Symbol} {d : Text o} → Gets (after (part_more o room tt p) (and_on parts)) ts d rest → Gets (parts p) (mark (codes ";") ∷ ts) d rest
  turned p h = gets_until part_reader p refl h

  module _ (digits : Digits) where
    abbrev Line : Type 0
    Line = LineText (statement_lists o (decimal digits)) (statement_presence o)

    head_gets : (ss : StmtsText o (decimal digits)) (w : Name) (fs : FormsText (statement_lists o (decimal digits) w).there) (rest : List Symbol)
        → Gets (read_stmt o room digits ss w) (mark (codes ":") ∷ mark (codes "(") ∷ ((forms_symbols fs ++ mark (codes ")") ∷ []) ++ rest)) (going (stmt_forms digits ss w fs)) rest
    head_gets ss w fs rest = gets_on _ _ _ refl (gets_after _ (list_gets room (statement_lists o (decimal digits) w).there fs rest) gets_give)

    -- where no inverse form begins, none is read
    skipping : {scope : Scope} {words : Words} (ss : StmtsText o (decimal digits)) (line : InverseText scope words maybe → Line) (ts : List Symbol) (d : Text o) (end : List Symbol) → NoEntry ts
        → Gets (after (next_stmt o room digits (and_stmt ss (line skipped))) (and_on parts)) ts d end → Gets (after (stmt_more o room digits ss scope words maybe line) (and_on parts)) ts d end
    unfolding after either
    skipping {scope} {words} ss line [] d end n h = record { is = h.is }
    skipping {scope} {words} ss line (x ∷ ts) d end n h = record { is = at (any_word x) h.is }
      where
        at : (k : Option Name) → IsDone d end (then_read (on_some k (λ w. read_stmt o room digits (and_stmt ss (line skipped)) w ts) (finished (done (order (time digits (and_stmt ss (line skipped))))) (x ∷ ts))) (and_on parts))
            → IsDone d end (then_read (on_some k (λ w. either (this_mark (codes "=")) (λ _. after (read_free room scope w) (λ g. give (going (stmt_line digits ss (line (taken g)))))) (read_stmt o room digits (and_stmt ss (line skipped)) w) ts) (finished (done (order (time digits (and_stmt ss (line skipped))))) (x ∷ ts))) (and_on parts))
        at None g = g
        at (Some w) g = subst (λ r. IsDone d end (then_read r (and_on parts))) (sym (passed w ts n)) g
          where
            passed : (w : Name) (ts : List Symbol) → NotNext (this_mark (codes "=")) ts → either (this_mark (codes "=")) (λ _. after (read_free room scope w) (λ g. give (going (stmt_line digits ss (line (taken g)))))) (read_stmt o room digits (and_stmt ss (line skipped)) w) ts ≡ read_stmt o room digits (and_stmt ss (line skipped)) w ts
            passed w [] n = refl
            passed w (y ∷ ts) n = ap (λ q. on_some q (λ _. after (read_free room scope w) (λ g. give (going (stmt_line digits ss (line (taken g))))) ts) (read_stmt o room digits (and_stmt ss (line skipped)) w (y ∷ ts))) n

    inverse_opens : {scope : Scope} {words : Words} (ss : StmtsText o (decimal digits)) (presence : Presence) (line : InverseText scope words presence → Line) (i : InverseText scope words presence) (rest : List Symbol) (d : Text o) (end : List Symbol) → NoEntry rest
        → Gets (after (next_stmt o room digits (and_stmt ss (line i))) (and_on parts)) rest d end → (p : Front o) → part_more o room tt p ≡ stmt_more o room digits ss scope words presence line
        → Gets (parts p) (inverse_symbols i ++ mark (codes ";") ∷ rest) d end
    inverse_opens {scope} {words} ss never line without rest d end n h p e = turned p (subst (λ r. Gets (after r (and_on parts)) rest d end) (sym e) h)
    inverse_opens {scope} {words} ss always line (written g) rest d end n h p e =
        turned p (subst (λ r. Gets (after r (and_on parts)) (entries_symbols g ++ mark (codes ";") ∷ rest) d end) (sym e)
        (gets_after _ (gets_after _ (entries_gets room scope words g (mark (codes ";") ∷ rest) (refl, refl, refl) refl) gets_give)
        (turned (stmt_line digits ss (line (written g))) h)))
    inverse_opens {scope} {words} ss maybe line skipped rest d end n h p e = turned p (subst (λ r. Gets (after r (and_on parts)) rest d end) (sym e) (skipping ss line rest d end n h))
    inverse_opens {scope} {words} ss maybe line (taken g) rest d end n h p e =
        turned p (subst (λ r. Gets (after r (and_on parts)) (free_symbols g ++ mark (codes ";") ∷ rest) d end) (sym e)
        (gets_after _ (subst (λ l. Gets (stmt_more o room digits ss scope words maybe line) (l ++ mark (codes ";") ∷ rest) (going (stmt_line digits ss (line (taken g)))) (mark (codes ";") ∷ rest)) (sym (free_split room scope g))
        (gets_on _ _ _ refl (gets_on _ _ _ refl (gets_after _ (free_gets room scope g (mark (codes ";") ∷ rest) (refl, refl, refl) refl) gets_give))))
        (turned (stmt_line digits ss (line (taken g))) h)))

    line_opens : (ss : StmtsText o (decimal digits)) (l : Line) (rest : List Symbol) (d : Text o) (end : List Symbol) → NoEntry rest → Gets (after (next_stmt o room digits (and_stmt ss l)) (and_on parts)) rest d end
        → Gets (after (next_stmt o room digits ss) (and_on parts)) (line_symbols l ++ rest) d end
    line_opens ss l rest d end n h =
        subst (λ ts. Gets (after (next_stmt o room digits ss) (and_on parts)) ts d end) (sym (lined (forms_symbols l.forms) (inverse_symbols l.inverse)))
        (gets_after _ (gets_on _ _ _ refl (head_gets ss l.name l.forms (inverse_symbols l.inverse ++ mark (codes ";") ∷ rest)))
        (inverse_opens ss (statement_presence o l.name) (λ i. record { name = l.name; forms = l.forms; inverse = i }) l.inverse rest d end n h (stmt_forms digits ss l.name l.forms) refl))
      where
        lined : (fs is : List Symbol) → (((word l.name ∷ mark (codes ":") ∷ mark (codes "(") ∷ (fs ++ mark (codes ")") ∷ [])) ++ is) ++ mark (codes ";") ∷ []) ++ rest ≡ word l.name ∷ mark (codes ":") ∷ mark (codes "(") ∷ ((fs ++ mark (codes ")") ∷ []) ++ (is ++ mark (codes ";") ∷ rest))
        lined fs is = simp append_assoc

    stmts_open : (c : StmtsText o (decimal digits)) (rest : List Symbol) (d : Text o) (end : List Symbol) → NoEntry rest → Gets (after (next_stmt o room digits c) (and_on parts)) rest d end → Gets (parts (time_number digits)) (mark (codes ";") ∷ (stmts_symbols c ++ rest)) d end
    stmts_open no_stmts rest d end n h = turned (time_number digits) h
    stmts_open (and_stmt ss l) rest d end n h =
        subst (λ ts. Gets (parts (time_number digits)) (mark (codes ";") ∷ ts) d end) (sym (append_assoc (stmts_symbols ss) (line_symbols l) rest))
        (stmts_open ss (line_symbols l ++ rest) d end refl (line_opens ss l rest d end n h))

  -- ---- Folds and texts

  -- what may follow
  abbrev next_of : Text o → Next o
  next_of (order source) = next_fold o room (order source)
  next_of (order (time digits ss)) = next_stmt o room digits ss
  next_of (and_fold c l) = next_fold o room (and_fold c l)

  fold_gets : (c : Text o) (w : Name) (fs : FormsText (fold_lists o w).there) (rest : List Symbol) → Gets (read_fold o room c) (head_symbols w fs ++ rest) (going (fold_forms c w fs)) rest
  fold_gets c w fs rest = gets_on _ _ _ refl (gets_on _ _ _ refl (gets_after _ (list_gets room (fold_lists o w).there fs rest) gets_give))

  fold_next : (c : Text o) (w : Name) (fs : FormsText (fold_lists o w).there) (rest : List Symbol) → Gets (next_of c) (word (codes "fold") ∷ (head_symbols w fs ++ rest)) (going (fold_forms c w fs)) rest
  fold_next (order source) w fs rest = gets_on _ _ _ refl (fold_gets (order source) w fs rest)
  fold_next (order (time digits ss)) w fs rest = gets_on _ _ _ refl (gets_other _ _ refl (fold_gets (order (time digits ss)) w fs rest))
  fold_next (and_fold c l) w fs rest = gets_on _ _ _ refl (fold_gets (and_fold c l) w fs rest)

  fold_opens : (c : Text o) (w : Name) (fs : FormsText (fold_lists o w).there) (i : InverseText (fold_lists o w).back (fold_lists o w).words always) (rest : List Symbol) (d : Text o) (end : List Symbol)
      → Gets (after (next_fold o room (and_fold c (record { name = w; forms = fs; inverse = i }))) (and_on parts)) rest d end
      → Gets (parts (fold_forms c w fs)) (inverse_symbols i ++ mark (codes ";") ∷ rest) d end
  fold_opens c w fs (written g) rest d end h =
      turned (fold_forms c w fs) (gets_after _ (gets_after _ (entries_gets room (fold_lists o w).back (fold_lists o w).words g (mark (codes ";") ∷ rest) (refl, refl, refl) refl) gets_give)
      (turned (fold_line c (record { name = w; forms = fs; inverse = written g })) h))

  text_opens : (c : Text o) (rest : List Symbol) (d : Text o) (end : List Symbol) → NoEntry rest → Gets (after (next_of c) (and_on parts)) rest d end → Gets (read_text o room) (text_symbols c ++ rest) d end
  unfolding read_text
  text_opens (order source) rest d end n h = gets_on _ _ _ refl (turned source_word h)
  text_opens (order (time digits ss)) rest d end n h = gets_other _ _ refl (gets_on _ _ _ refl (gets_on _ _ _ refl (stmts_open digits ss rest d end n h)))
  text_opens (and_fold c l) rest d end n h =
      subst (λ ts. Gets (read_text o room) ts d end) (sym (lined (text_symbols c) (head_symbols l.name l.forms) (inverse_symbols l.inverse)))
      (text_opens c (word (codes "fold") ∷ (head_symbols l.name l.forms ++ (inverse_symbols l.inverse ++ mark (codes ";") ∷ rest))) d end refl
      (gets_after _ (fold_next c l.name l.forms (inverse_symbols l.inverse ++ mark (codes ";") ∷ rest)) (fold_opens c l.name l.forms l.inverse rest d end h)))
    where
      lined : (xs ys is : List Symbol) → (xs ++ word (codes "fold") ∷ ((ys ++ is) ++ mark (codes ";") ∷ [])) ++ rest ≡ xs ++ word (codes "fold") ∷ (ys ++ (is ++ mark (codes ";") ∷ rest))
      lined xs ys is = simp append_assoc

  done_of : (c : Text o) → Gets (after (next_of c) (and_on parts)) [] c []
  done_of (order source) = gets_after _ (gets_other _ _ tt gets_finished) gets_give
  done_of (order (time digits ss)) = gets_after _ (gets_other _ _ tt gets_finished) gets_give
  done_of (and_fold c l) = gets_after _ (gets_other _ _ tt gets_finished) gets_give

  pub text_gets : (c : Text o) → Gets (read_text o room) (text_symbols c) c []
  text_gets c = subst (λ ts. Gets (read_text o room) ts c []) (append-nil (text_symbols c)) (text_opens c [] c [] tt (done_of c))
