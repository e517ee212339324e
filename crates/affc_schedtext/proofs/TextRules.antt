-- Each reader of specs/Reading is a reader of its rule.
use Rattle.std.proofs.Common.{◌≡◌, ℕ, Bool, true, false, List, [], ◌∷◌, ◌++◌, refl, sym, ap, ◌∙◌, codes, append_assoc, append-nil}
use Rattle.affc_lex.specs.Bytes.{same, decimal}
use Rattle.affc_grammar.specs.Grammar.{Symbol, Name, Digits, word, number, mark}
use Rattle.affc_grammar.specs.Reader.{Turn, going, done}
use Rattle.affc_grammar.proofs.Rule.{give_rule, fail_rule, after_rule, nested_rule, then_rule, refront, either_rule, on_rule, all_rule, until_rule, finished_rule, turn_spelled}
use Rattle.affc_grammar.proofs.Tests.{same_bytes, mark_test, word_test, any_word_test, any_number_test}
use Rattle.affc_schedtext.specs.Outline.{Outline, Scope, Words, these, any, Presence, never, always, maybe, statement_lists, statement_presence, fold_lists, fold_presence}
use Rattle.affc_schedtext.specs.Grammar.{FormsText, one_form, and_form, forms_symbols, last_entry, entry_then, given_symbols, FreeText, one_entry, and_entry, free_symbols, EntriesText, given, free, entries_symbols, InverseText, without, written, skipped, taken, inverse_symbols, LineText, head_symbols, open_symbols, StmtsText, no_stmts, and_stmt, source, time, order_symbols, Text, order, and_fold, text_symbols}
use Rattle.affc_schedtext.specs.Reading.{form_more, read_forms, read_given, entry_more, read_free, read_entries, Front, source_word, time_number, stmt_forms, stmt_line, fold_forms, fold_line, part_symbols, read_list, read_fold, next_fold, read_first_fold, read_stmt, next_stmt, stmt_more, part_more, read_parts, read_text}
use Rattle.affc_schedtext.proofs.FormRules.{Exact, form_rule, zero_form}

-- ---- Lists of forms

module _ (room : ℕ) (scope : Scope) where
  pub form_more_rule : (k : Unit {0}) (fs : FormsText scope) → Exact forms_symbols (λ r. forms_symbols fs ++ mark (codes ",") ∷ r) (form_more room scope k fs)
  form_more_rule k fs = after_rule (form_rule room scope) λ a. give_rule (and_form fs a) (λ r. simp append_assoc)

  pub forms_rule : Exact forms_symbols (λ r. r) (read_forms room scope)
  forms_rule = after_rule (form_rule room scope) λ a. all_rule (mark_test (codes ",")) (λ k n. refl) form_more_rule (one_form a)

  pub given_rule : (w : Name) (ws : List Name) → Exact (given_symbols {ws = w ∷ ws}) (λ r. r) (read_given room scope w ws)
  given_rule w [] = on_rule tt (word_test w) (λ k n. refl) λ _. on_rule tt (mark_test (codes "=")) (λ k n. refl) λ _. after_rule (form_rule room scope) λ a. give_rule (last_entry w a) (λ r. refl)
  given_rule w (v ∷ vs) =
      on_rule tt (word_test w) (λ k n. refl) λ _. on_rule tt (mark_test (codes "=")) (λ k n. refl) λ _. after_rule (form_rule room scope) λ a. on_rule tt (mark_test (codes ",")) (λ k n. refl) λ _.
      after_rule (given_rule v vs) λ g. give_rule (entry_then w a g) (λ r. simp append_assoc)

  pub entry_more_rule : (k : Unit {0}) (g : FreeText scope) → Exact free_symbols (λ r. free_symbols g ++ mark (codes ",") ∷ r) (entry_more room scope k g)
  entry_more_rule k g = on_rule (codes "i") any_word_test (λ k n. refl) λ w. on_rule tt (mark_test (codes "=")) (λ k n. refl) λ _. after_rule (form_rule room scope) λ a. give_rule (and_entry g w a) (λ r. simp append_assoc)

  pub free_rule : (w : Name) → Exact free_symbols (λ r. word w ∷ mark (codes "=") ∷ r) (read_free room scope w)
  free_rule w = after_rule (form_rule room scope) λ a. all_rule (mark_test (codes ",")) (λ k n. refl) entry_more_rule (one_entry w a)

  pub entries_rule : (words : Words) → Exact (entries_symbols {words = words}) (λ r. r) (read_entries room scope words)
  entries_rule (these w ws) = after_rule (given_rule w ws) λ g. give_rule (given g) (λ r. refl)
  entries_rule any = on_rule (codes "i") any_word_test (λ k n. refl) λ w. on_rule tt (mark_test (codes "=")) (λ k n. refl) λ _. then_rule (λ x y. refl) (free_rule w) λ g. give_rule (free g) (λ r. refl)

  abbrev list_symbols : FormsText scope → List Symbol
  list_symbols fs = mark (codes "(") ∷ (forms_symbols fs ++ mark (codes ")") ∷ [])

  pub list_rule : Exact list_symbols (λ r. r) (read_list room scope)
  list_rule = on_rule tt (mark_test (codes "(")) (λ k n. refl) λ _. after_rule forms_rule λ fs. on_rule tt (mark_test (codes ")")) (λ k n. refl) λ _. give_rule fs (λ r. simp append_assoc)

-- ---- Lines

module _ (o : Outline) (room : ℕ) where
  abbrev turn_symbols : Turn (Front o) (Text o) → List Symbol
  turn_symbols = turn_spelled part_symbols text_symbols

  pub fold_rule : (c : Text o) → Exact turn_symbols (λ r. text_symbols c ++ word (codes "fold") ∷ r) (read_fold o room c)
  fold_rule c = on_rule (codes "t") any_word_test (λ k n. refl) λ w. on_rule tt (mark_test (codes ":")) (λ k n. refl) λ _. after_rule (list_rule room (fold_lists o w).there) λ fs. give_rule (going (fold_forms c w fs)) (λ r. simp append_assoc)

  pub next_fold_rule : (c : Text o) → Exact turn_symbols (λ r. text_symbols c ++ r) (next_fold o room c)
  next_fold_rule c = either_rule (word_test (codes "fold")) (λ k n. refl) (λ _. fold_rule c) (finished_rule (done c) (append-nil (text_symbols c)))

  module _ (digits : Digits) where
    first_fold_rule : (ss : StmtsText o (decimal digits)) (w : Name) (is_fold : Bool) → same w (codes "fold") ≡ is_fold → Exact turn_symbols (λ r. order_symbols (time digits ss) ++ word w ∷ r) (read_first_fold o room (order (time digits ss)) is_fold)
    first_fold_rule ss w true e = refront (λ r. (λ i. order_symbols (time digits ss) ++ word (sym (same_bytes w (codes "fold") e) i) ∷ r)) (fold_rule (order (time digits ss)))
    first_fold_rule ss w false e =
        fail_rule (going (stmt_forms digits ss w (one_form (zero_form room (statement_lists o (decimal digits) w).there))), mark (codes ":") ∷ mark (codes "(") ∷ (number (codes "0") ∷ mark (codes ")") ∷ []), refl)

    pub stmt_rule : (ss : StmtsText o (decimal digits)) (w : Name) → Exact turn_symbols (λ r. order_symbols (time digits ss) ++ word w ∷ r) (read_stmt o room digits ss w)
    stmt_rule ss w =
        either_rule (mark_test (codes ":")) (λ k n. refl) (λ _. after_rule (list_rule room (statement_lists o (decimal digits) w).there) λ fs. give_rule (going (stmt_forms digits ss w fs)) (λ r. simp append_assoc))
        (first_fold_rule ss w (same w (codes "fold")) refl)

    pub next_stmt_rule : (ss : StmtsText o (decimal digits)) → Exact turn_symbols (λ r. order_symbols (time digits ss) ++ r) (next_stmt o room digits ss)
    next_stmt_rule ss = either_rule any_word_test (λ k n. refl) (stmt_rule ss) (finished_rule (done (order (time digits ss))) (append-nil (order_symbols (time digits ss))))

    abbrev Line : Type 0
    Line = LineText (statement_lists o (decimal digits)) (statement_presence o)

    -- what stands before the statements behind a line
    behind_line : (ss : StmtsText o (decimal digits)) (l : Line) (base : List Symbol) → open_symbols l ≡ base → (r : List Symbol) → order_symbols (time digits (and_stmt ss l)) ++ r ≡ (order_symbols (time digits ss) ++ base) ++ mark (codes ";") ∷ r
    behind_line ss l base e r = ap (λ b. (order_symbols (time digits ss) ++ (b ++ mark (codes ";") ∷ [])) ++ r) e ∙ moved (order_symbols (time digits ss)) base r
      where
        moved : (xs ys r : List Symbol) → (xs ++ (ys ++ mark (codes ";") ∷ [])) ++ r ≡ (xs ++ ys) ++ mark (codes ";") ∷ r
        moved xs ys r = append_assoc xs (ys ++ mark (codes ";") ∷ []) r ∙ ap (λ l. xs ++ l) (append_assoc ys (mark (codes ";") ∷ []) r) ∙ sym (append_assoc xs ys (mark (codes ";") ∷ r))

    module _ (ss : StmtsText o (decimal digits)) (scope : Scope) (words : Words) (base : List Symbol) where
      pub stmt_more_rule : (presence : Presence) (line : InverseText scope words presence → Line) → ((i : InverseText scope words presence) → open_symbols (line i) ≡ base ++ inverse_symbols i)
          → Exact turn_symbols (λ r. (order_symbols (time digits ss) ++ base) ++ mark (codes ";") ∷ r) (stmt_more o room digits ss scope words presence line)
      stmt_more_rule never line h = refront (behind_line ss (line without) base (h without ∙ append-nil base)) (next_stmt_rule (and_stmt ss (line without)))
      stmt_more_rule always line h =
          after_rule (entries_rule room scope words) λ e. give_rule (going (stmt_line digits ss (line (written e)))) (λ r.
          sym (ap (λ b. (order_symbols (time digits ss) ++ b) ++ r) (h (written e)) ∙ moved (order_symbols (time digits ss)) base (entries_symbols e) r))
        where
          moved : (xs ys zs r : List Symbol) → (xs ++ (ys ++ mark (codes ";") ∷ zs)) ++ r ≡ (xs ++ ys) ++ mark (codes ";") ∷ (zs ++ r)
          moved xs ys zs r = simp append_assoc
      stmt_more_rule maybe line h =
          either_rule any_word_test (λ k n. refl) (λ w. either_rule (mark_test (codes "=")) (λ k n. refl)
          (λ _. nested_rule (λ r. (order_symbols (time digits ss) ++ base) ++ mark (codes ";") ∷ r) (λ r. word w ∷ mark (codes "=") ∷ r) (λ x y. refl) (free_rule room scope w) λ g. give_rule (going (stmt_line digits ss (line (taken g)))) (λ r.
          sym (ap (λ b. (order_symbols (time digits ss) ++ b) ++ r) (h (taken g)) ∙ moved (order_symbols (time digits ss)) base (free_symbols g) r)))
          (refront (λ r. behind_line ss (line skipped) base (h skipped ∙ append-nil base) (word w ∷ r)) (stmt_rule (and_stmt ss (line skipped)) w)))
          (finished_rule (done (order (time digits (and_stmt ss (line skipped))))) (sym (behind_line ss (line skipped) base (h skipped ∙ append-nil base) []) ∙ append-nil (order_symbols (time digits (and_stmt ss (line skipped))))))
        where
          moved : (xs ys zs r : List Symbol) → (xs ++ (ys ++ mark (codes ";") ∷ zs)) ++ r ≡ (xs ++ ys) ++ mark (codes ";") ∷ (zs ++ r)
          moved xs ys zs r = simp append_assoc

  -- ---- Parts

  behind_fold : (c : Text o) (l : LineText (fold_lists o) fold_presence) (r : List Symbol) → text_symbols (and_fold c l) ++ r ≡ part_symbols (fold_line c l) ++ mark (codes ";") ∷ r
  behind_fold c l r = moved (text_symbols c) (open_symbols l) r
    where
      moved : (xs ys r : List Symbol) → (xs ++ word (codes "fold") ∷ (ys ++ mark (codes ";") ∷ [])) ++ r ≡ (xs ++ word (codes "fold") ∷ ys) ++ mark (codes ";") ∷ r
      moved xs ys r = simp append_assoc

  fold_more : (c : Text o) (w : Name) (fs : FormsText (fold_lists o w).there) (e : EntriesText (fold_lists o w).back (fold_lists o w).words) (r : List Symbol)
      → part_symbols (fold_forms c w fs) ++ mark (codes ";") ∷ (entries_symbols e ++ r) ≡ part_symbols {o = o} (fold_line c (record { name = w; forms = fs; inverse = written e })) ++ r
  fold_more c w fs e r = moved (text_symbols c) (head_symbols w fs) (entries_symbols e) r
    where
      moved : (xs ys zs r : List Symbol) → (xs ++ word (codes "fold") ∷ ys) ++ mark (codes ";") ∷ (zs ++ r) ≡ (xs ++ word (codes "fold") ∷ (ys ++ mark (codes ";") ∷ zs)) ++ r
      moved xs ys zs r = simp append_assoc

  pub part_rule : (k : Unit {0}) (p : Front o) → Exact turn_symbols (λ r. part_symbols p ++ mark (codes ";") ∷ r) (part_more o room k p)
  part_rule k source_word = next_fold_rule (order source)
  part_rule k (time_number digits) = next_stmt_rule digits no_stmts
  part_rule k (stmt_forms digits ss w fs) =
      stmt_more_rule digits ss (statement_lists o (decimal digits) w).back (statement_lists o (decimal digits) w).words (head_symbols w fs) (statement_presence o w) (λ i. record { name = w; forms = fs; inverse = i }) (λ i. refl)
  part_rule k (stmt_line digits ss l) = refront (behind_line digits ss l (open_symbols l) refl) (next_stmt_rule digits (and_stmt ss l))
  part_rule k (fold_forms c w fs) = after_rule (entries_rule room (fold_lists o w).back (fold_lists o w).words) λ e. give_rule (going (fold_line c (record { name = w; forms = fs; inverse = written e }))) (fold_more c w fs e)
  part_rule k (fold_line c l) = refront (behind_fold c l) (next_fold_rule (and_fold c l))

  -- ---- Each part goes on to a text

  inverse_can : (scope : Scope) (words : Words) (presence : Presence) → InverseText scope words presence
  inverse_can scope words never = without
  inverse_can scope words always = written (entries_rule room scope words).can.0
  inverse_can scope words maybe = skipped

  part_can : (p : Front o) → (c : Text o) × (tail : List Symbol) × (text_symbols c ≡ part_symbols p ++ tail)
  part_can source_word = (order source, mark (codes ";") ∷ [], refl)
  part_can (time_number digits) = (order (time digits no_stmts), mark (codes ";") ∷ [], refl)
  part_can (stmt_line digits ss l) = (order (time digits (and_stmt ss l)), mark (codes ";") ∷ [], sym (append-nil (order_symbols (time digits (and_stmt ss l)))) ∙ behind_line digits ss l (open_symbols l) refl [])
  part_can (fold_line c l) = (and_fold c l, mark (codes ";") ∷ [], sym (append-nil (text_symbols (and_fold c l))) ∙ behind_fold c l [])
  part_can (stmt_forms digits ss w fs) =
      let lists = statement_lists o (decimal digits) w in
      let i : InverseText lists.back lists.words (statement_presence o w) = inverse_can lists.back lists.words (statement_presence o w) in
      (order (time digits (and_stmt ss (record { name = w; forms = fs; inverse = i }))), inverse_symbols i ++ mark (codes ";") ∷ [], moved (order_symbols (time digits ss)) (head_symbols w fs) (inverse_symbols i))
    where
      moved : (xs ys zs : List Symbol) → xs ++ ((ys ++ zs) ++ mark (codes ";") ∷ []) ≡ (xs ++ ys) ++ (zs ++ mark (codes ";") ∷ [])
      moved xs ys zs = simp append_assoc
  part_can (fold_forms c w fs) =
      let e : EntriesText (fold_lists o w).back (fold_lists o w).words = (entries_rule room (fold_lists o w).back (fold_lists o w).words).can.0 in
      (and_fold c (record { name = w; forms = fs; inverse = written e }), mark (codes ";") ∷ (entries_symbols e ++ mark (codes ";") ∷ []), moved (text_symbols c) (head_symbols w fs) (entries_symbols e))
    where
      moved : (xs ys zs : List Symbol) → xs ++ word (codes "fold") ∷ ((ys ++ mark (codes ";") ∷ zs) ++ mark (codes ";") ∷ []) ≡ (xs ++ word (codes "fold") ∷ ys) ++ mark (codes ";") ∷ (zs ++ mark (codes ";") ∷ [])
      moved xs ys zs = simp append_assoc

  pub parts_rule : (p : Front o) → Exact text_symbols (λ r. part_symbols p ++ r) (read_parts o room p)
  parts_rule p = until_rule (mark_test (codes ";")) (λ k n. refl) part_rule part_can p

  pub text_rule : Exact text_symbols (λ r. r) (read_text o room)
  unfolding read_text
  text_rule =
      either_rule (word_test (codes "source")) (λ k n. refl) (λ _. parts_rule source_word)
      (on_rule tt (word_test (codes "time")) (λ k n. refl) λ _. on_rule (codes "1") any_number_test (λ k n. refl) λ digits. parts_rule (time_number digits))
