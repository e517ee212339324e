-- No schedule's text has a Header, so the tokens of one are as they are shown.
use Rattle.std.proofs.Common.{◌≡◌, ℕ, Bool, true, false, List, [], ◌∷◌, ◌++◌, map, refl, sym, ap, ◌∙◌, subst, inl, inr}
use Rattle.std.specs.List.{list_all}
use Rattle.affc_lex.specs.Lexes.{Lexeme}
use Rattle.affc_grammar.specs.Grammar.{Symbol, Name, symbol}
use Rattle.affc_grammar.specs.Reads.{symbols}
use Rattle.affc_parse.specs.Shown.{shown}
use Rattle.affc_parse.proofs.Headers.{is_right, AreRight, on, ix_right}
use Rattle.affc_parse.proofs.ShownBack.{all_same, first_right, next_right, same_right, split_of, symbols-append}
use Rattle.affc_schedtext.specs.declared.outline.Outline.{Outline}
use Rattle.affc_schedtext.specs.Outline.{Scope, Words, Lists, Presence}
use Rattle.affc_schedtext.specs.Grammar as g
use Rattle.affc_schedtext.specs.Grammar.{FormText, FormsText, GivenText, FreeText, EntriesText, InverseText, LineText, StmtsText, OrderText, Text, form_symbols, forms_symbols, entry_symbols, given_symbols, free_symbols, entries_symbols, inverse_symbols, head_symbols, open_symbols, line_symbols, stmts_symbols, order_symbols, text_symbols, Begins, Refuses}
use Rattle.affc_schedtext.specs.Answers.{IsFurthest, Stops, IsStop}

-- ---- Texts of the grammar

form_right : {scope : Scope} (a : FormText scope) → AreRight (form_symbols a)
form_right a = ix_right a.written

forms_right : {scope : Scope} (fs : FormsText scope) → AreRight (forms_symbols fs)
forms_right (g.one_form a) = form_right a
forms_right (g.and_form fs a) = on (forms_symbols fs) _ (forms_right fs) (form_right a)

given_right : {scope : Scope} {ws : List Name} (e : GivenText scope ws) → AreRight (given_symbols e)
given_right (g.last_entry w a) = form_right a
given_right (g.entry_then w a e) = on (entry_symbols w a) _ (form_right a) (given_right e)

free_right : {scope : Scope} (e : FreeText scope) → AreRight (free_symbols e)
free_right (g.one_entry w a) = form_right a
free_right (g.and_entry e w a) = on (free_symbols e) _ (free_right e) (form_right a)

entries_right : {scope : Scope} {words : Words} (e : EntriesText scope words) → AreRight (entries_symbols e)
entries_right (g.given e) = given_right e
entries_right (g.free e) = free_right e

inverse_right : {scope : Scope} {words : Words} {presence : Presence} (i : InverseText scope words presence) → AreRight (inverse_symbols i)
inverse_right g.without = refl
inverse_right (g.written e) = entries_right e
inverse_right g.skipped = refl
inverse_right (g.taken e) = free_right e

head_right : {scope : Scope} (w : Name) (fs : FormsText scope) → AreRight (head_symbols w fs)
head_right w fs = on (forms_symbols fs) _ (forms_right fs) refl

line_right : {lists : Name → Lists} {presence : Name → Presence} (l : LineText lists presence) → AreRight (line_symbols l)
line_right l = on (open_symbols l) _ (on (head_symbols l.name l.forms) (inverse_symbols l.inverse) (head_right l.name l.forms) (inverse_right l.inverse)) refl

stmts_right : {o : Outline} {n : ℕ} (ss : StmtsText o n) → AreRight (stmts_symbols ss)
stmts_right g.no_stmts = refl
stmts_right (g.and_stmt ss l) = on (stmts_symbols ss) _ (stmts_right ss) (line_right l)

order_right : {o : Outline} (c : OrderText o) → AreRight (order_symbols c)
order_right g.source = refl
order_right (g.time digits ss) = stmts_right ss

text_right : {o : Outline} (c : Text o) → AreRight (text_symbols c)
text_right (g.order c) = order_right c
text_right (g.and_fold c l) = on (text_symbols c) _ (text_right c) (line_right l)

-- ---- What is said of the tokens as they are shown

-- the tokens of a text of the grammar
pub spelled_back : {o : Outline} (ts : List Lexeme) (c : Text o) → map shown ts ≡ text_symbols c → map shown ts ≡ symbols ts
spelled_back ts c e = all_same ts (ap (list_all is_right) e ∙ text_right c)

module _ (o : Outline) (before : List Symbol) where
  refuses_back : (back : List Lexeme) → Refuses o before (map shown back) → Refuses o before (symbols back)
  refuses_back [] h = h
  refuses_back (t ∷ ts) h = λ c tail e.
      let right : is_right (symbol t) ≡ true = next_right before (symbol t) tail (ap (list_all is_right) (sym e) ∙ text_right c) in
      h c tail (e ∙ ap (λ x. before ++ x ∷ tail) (sym (same_right t.kind t.bytes right)))

  furthest_back : (back : List Lexeme) → IsFurthest o before (map shown back) → IsFurthest o before (symbols back)
  furthest_back [] h = h
  furthest_back (t ∷ ts) h = refuses_back (t ∷ ts) h

  stops_back : (is_cut : Bool) (back : List Lexeme) → Stops o is_cut before (map shown back) → Stops o is_cut before (symbols back)
  stops_back true [] h = h
  stops_back true (t ∷ ts) h = refuses_back (t ∷ ts) h
  stops_back false [] h = h
  stops_back false (t ∷ ts) h = refuses_back (t ∷ ts) h

-- The tokens stop where what is shown of them does.
pub stop_back : (o : Outline) (is_cut : Bool) (ts : List Lexeme) (at : ℕ) → IsStop o is_cut (map shown ts) at → IsStop o is_cut (symbols ts) at
stop_back o is_cut ts at h =
    let s = split_of ts h.before h.rest h.split in
    let right : AreRight h.before = first_right h.before h.begins.1 (ap (list_all is_right) (sym h.begins.2) ∙ text_right h.begins.0) in
    let front : symbols s.front ≡ h.before = sym (all_same s.front (ap (list_all is_right) s.is_front ∙ right)) ∙ s.is_front in
    record {
      before = h.before;
      rest = symbols s.back;
      split = ap symbols s.joined ∙ symbols-append s.front s.back ∙ ap (λ l. l ++ symbols s.back) front;
      begins = h.begins;
      furthest = furthest_back o h.before s.back (subst (IsFurthest o h.before) (sym s.is_back) h.furthest);
      cause = elim h.cause [
        | inl p ↦ inl p
        | inr q ↦ inr (q.0, q.1, stops_back o h.before is_cut s.back (subst (Stops o is_cut h.before) (sym s.is_back) q.2))
      ];
    }
