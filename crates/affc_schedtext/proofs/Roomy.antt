-- A reader has room where as many brackets may be open as there are tokens.
use Rattle.std.proofs.Common.{◌≡◌, ℕ, zero, suc, ◌+◌, ◌≤◌, Bool, true, false, List, [], ◌∷◌, length, Option, Some, None, Ok, Err, refl, sym, ap, ◌∙◌, codes, IsTrue, arith, length-append, ◌⊎◌, inl, inr}
use Rattle.affc_lex.specs.Bytes.{same, decimal}
use Rattle.affc_grammar.specs.Grammar.{Symbol, Name, Digits, IxText, ix_symbols}
use Rattle.affc_grammar.specs.Limits.{count_open}
use Rattle.affc_grammar.specs.Reader.{At, Deep, Read, Reader, then_read, on_some, give, fail, after, either, many, all, Turn, going, done, tries, until, and_on, finished, Within, IsReader}
use Rattle.affc_grammar.specs.Reading.{read_ix, holding}
use Rattle.affc_grammar.proofs.Rule.{Keeps}
use Rattle.affc_grammar.proofs.Rules.{ix_rule}
use Rattle.affc_grammar.proofs.Texts.{within_length}
use Rattle.affc_schedtext.specs.Outline.{Outline, Scope, Words, these, any, Presence, never, always, maybe, statement_lists, statement_presence, fold_lists}
use Rattle.affc_schedtext.specs.Grammar.{all_seen, FormText, one_form, one_entry, InverseText, without, skipped, LineText, StmtsText, no_stmts, and_stmt, source, time, Text, order, and_fold}
use Rattle.affc_schedtext.specs.Reading.{seen_front, unseen_rest, followed_by, with_seen, read_form, read_forms, read_given, read_free, read_entries, Front, source_word, time_number, stmt_forms, stmt_line, fold_forms, fold_line, read_list, read_fold, next_fold, read_first_fold, read_stmt, next_stmt, stmt_more, part_more, read_parts, read_text}
use Rattle.affc_schedtext.proofs.FormRules.{front_and_rest, opened, inner, form_reader}
use Rattle.affc_schedtext.proofs.TextRules.{form_more_rule, forms_rule, given_rule, entry_more_rule, free_rule, entries_rule, list_rule, part_rule}

-- reading so many tokens, or fewer, never wants more room
pub record Roomy {A : Type 0} (room : ℕ) (p : Reader Symbol A) : Type 0 where
  pub never : (ts : List Symbol) → length ts ≤ room → p ts ≡ Err Deep → ⊥

-- ---- Any readers

roomy_give : {A : Type 0} (room : ℕ) (a : A) → Roomy room (give a)
unfolding give
roomy_give room a = record { never = λ ts le e. cc }

roomy_fail : {A : Type 0} (room : ℕ) → Roomy {A = A} room fail
unfolding fail
roomy_fail room = record { never = λ ts le e. cc }

finished_never : {A : Type 0} (a : A) (ts : List Symbol) → finished a ts ≡ Err Deep → ⊥
unfolding finished
finished_never a [] e = cc
finished_never a (x ∷ ts) e = cc

roomy_finished : {A : Type 0} (room : ℕ) (a : A) → Roomy room (finished a)
roomy_finished room a = record { never = λ ts le e. finished_never a ts e }

deep_then : {A B : Type 0} (r : Read Symbol A) (f : A → Reader Symbol B) → then_read r f ≡ Err Deep → (r ≡ Err Deep) ⊎ ((a : A) × (us : List Symbol) × (r ≡ Ok (a, us)) × (f a us ≡ Err Deep))
deep_then (Ok x) f e = inr (x.0, x.1, refl, e)
deep_then (Err (At ts)) f e = absurd (cc)
deep_then (Err Deep) f e = inl refl

fewer : {A : Type 0} {p : Reader Symbol A} → IsReader p → (ts : List Symbol) (a : A) (us : List Symbol) → p ts ≡ Ok (a, us) → length us ≤ length ts
fewer {A} {p} r ts a us e =
    let m = r.ok_left ts a us e in
    omega (arith, ap length m.1, length-append m.0 us)

roomy_after : {A B : Type 0} (room : ℕ) {p : Reader Symbol A} {f : A → Reader Symbol B} → IsReader p → Roomy room p → ((a : A) → Roomy room (f a)) → Roomy room (after p f)
unfolding after
roomy_after {A} {B} room {p} {f} r h k = record { never = λ ts le e. at ts le (deep_then (p ts) f e) }
  where
    at : (ts : List Symbol) → length ts ≤ room → (p ts ≡ Err Deep) ⊎ ((a : A) × (us : List Symbol) × (p ts ≡ Ok (a, us)) × (f a us ≡ Err Deep)) → ⊥
    at ts le (inl q) = h.never ts le q
    at ts le (inr q) = (k q.0).never q.1 (let few = fewer r ts q.0 q.1 q.2 in omega (arith, few, le)) q.3

either_never : {A K : Type 0} (room : ℕ) (test : Symbol → Option K) (past : K → Reader Symbol A) (other : Reader Symbol A) → ((k : K) → Roomy room (past k)) → Roomy room other → (ts : List Symbol) → length ts ≤ room → either test past other ts ≡ Err Deep → ⊥
unfolding either
either_never room test past other h k [] le e = k.never [] le e
either_never {A} {K} room test past other h k (x ∷ ts) le e = at (test x) e
  where
    at : (o : Option K) → on_some o (λ k. past k ts) (other (x ∷ ts)) ≡ Err Deep → ⊥
    at None q = k.never (x ∷ ts) le q
    at (Some v) q = (h v).never ts (omega (arith, le)) q

roomy_either : {A K : Type 0} (room : ℕ) (test : Symbol → Option K) {past : K → Reader Symbol A} {other : Reader Symbol A} → ((k : K) → Roomy room (past k)) → Roomy room other → Roomy room (either test past other)
roomy_either room test {past} {other} h k = record { never = λ ts le e. either_never room test past other h k ts le e }

roomy_on : {A K : Type 0} (room : ℕ) (test : Symbol → Option K) {past : K → Reader Symbol A} → ((k : K) → Roomy room (past k)) → Roomy room (either test past fail)
roomy_on room test h = roomy_either room test h (roomy_fail room)

roomy_many : {A K : Type 0} (room : ℕ) (test : Symbol → Option K) {turn : K → A → Reader Symbol A} → ((k : K) (a : A) → IsReader (turn k a)) → ((k : K) (a : A) → Roomy room (turn k a)) → (n : ℕ) (a : A) → Roomy room (many test turn n a)
unfolding many
roomy_many room test r h zero a = roomy_give room a
roomy_many room test r h (suc n) a = roomy_either room test (λ k. roomy_after room (r k a) (h k a) (λ b. roomy_many room test r h n b)) (roomy_give room a)

roomy_all : {A K : Type 0} (room : ℕ) (test : Symbol → Option K) {turn : K → A → Reader Symbol A} → ((k : K) (a : A) → IsReader (turn k a)) → ((k : K) (a : A) → Roomy room (turn k a)) → (a : A) → Roomy room (all test turn a)
unfolding all
roomy_all room test r h a = record { never = λ ts le e. (roomy_many room test r h (length ts) a).never ts le e }

roomy_on_turn : {A C : Type 0} (room : ℕ) {again : A → Reader Symbol C} → ((a : A) → Roomy room (again a)) → (s : Turn A C) → Roomy room (and_on again s)
roomy_on_turn room h (going a) = h a
roomy_on_turn room h (done c) = roomy_give room c

roomy_tries : {A C K : Type 0} (room : ℕ) (test : Symbol → Option K) {turn : K → A → Reader Symbol (Turn A C)} → ((k : K) (a : A) → IsReader (turn k a)) → ((k : K) (a : A) → Roomy room (turn k a)) → (n : ℕ) (a : A) → Roomy room (tries test turn n a)
unfolding tries
roomy_tries room test r h zero a = roomy_fail room
roomy_tries room test r h (suc n) a = roomy_on room test (λ k. roomy_after room (r k a) (h k a) (roomy_on_turn room (λ b. roomy_tries room test r h n b)))

roomy_until : {A C K : Type 0} (room : ℕ) (test : Symbol → Option K) {turn : K → A → Reader Symbol (Turn A C)} → ((k : K) (a : A) → IsReader (turn k a)) → ((k : K) (a : A) → Roomy room (turn k a)) → (a : A) → Roomy room (until test turn a)
unfolding until
roomy_until room test r h a = record { never = λ ts le e. (roomy_tries room test r h (length ts) a).never ts le e }

-- ---- Forms

within_wider : (ts : List Symbol) (limit wider n : ℕ) → limit ≤ wider → Within count_open limit n ts → Within count_open wider n ts
within_wider [] limit wider n le w = omega (arith, le, w)
within_wider (t ∷ ts) limit wider n le w = (omega (arith, le, w.0), within_wider ts limit wider (count_open n t) le w.1)

never_deep : {A : Type 0} (next : ℕ → Symbol → ℕ) (limit n : ℕ) (r : Read Symbol A) → Keeps next limit n r → r ≡ Err Deep → ⊥
never_deep next limit n (Ok x) k e = cc
never_deep next limit n (Err (At ts)) k e = cc
never_deep next limit n (Err Deep) k e = k

roomy_ix : (room : ℕ) → Roomy room (read_ix false room)
roomy_ix room = record {
  never = λ ts le e.
      never_deep count_open (0 + room) (0 + 0) (read_ix false room ts) ((ix_rule false room).shallow 0 ts (within_wider ts (length ts) (0 + room) (0 + 0) (omega (arith, le)) (within_length ts))) e;
}

roomy_seen : (room : ℕ) (scope : Scope) (a : IxText false) (o : Option (IsTrue (all_seen scope (ix_symbols a)))) → Roomy room (with_seen scope a o)
roomy_seen room scope a None = roomy_fail room
roomy_seen room scope a (Some h) = roomy_give room (record { written = a; seen = h })

followed_deep : {A : Type 0} (others : List Symbol) (r : Read Symbol A) → followed_by others r ≡ Err Deep → r ≡ Err Deep
followed_deep others (Ok x) e = absurd (cc)
followed_deep others (Err (At ts)) e = absurd (cc)
followed_deep others (Err Deep) e = refl

module _ (room : ℕ) (scope : Scope) where
  roomy_form : Roomy room (read_form room scope)
  roomy_form = record {
    never = λ ts le e.
        let front = seen_front scope ts in
        let few : length front ≤ room = omega (arith, le, ap length (front_and_rest scope ts), length-append front (unseen_rest scope ts)) in
        (roomy_after room (ix_rule false room).reader (roomy_ix room) (λ a. roomy_seen room scope a (holding (all_seen scope (ix_symbols a))))).never front few (followed_deep (unseen_rest scope ts) (inner room scope front) (sym (opened room scope ts) ∙ e));
  }

  form : {A : Type 0} {f : FormText scope → Reader Symbol A} → ((a : FormText scope) → Roomy room (f a)) → Roomy room (after (read_form room scope) f)
  form h = roomy_after room (form_reader room scope) roomy_form h

  roomy_forms : Roomy room (read_forms room scope)
  roomy_forms = form λ a. roomy_all room _ (λ k fs. (form_more_rule room scope k fs).reader) (λ k fs. form λ b. roomy_give room _) (one_form a)

  roomy_given : (w : Name) (ws : List Name) → Roomy room (read_given room scope w ws)
  roomy_given w [] = roomy_on room _ λ _. roomy_on room _ λ _. form λ a. roomy_give room _
  roomy_given w (v ∷ vs) = roomy_on room _ λ _. roomy_on room _ λ _. form λ a. roomy_on room _ λ _. roomy_after room (given_rule room scope v vs).reader (roomy_given v vs) λ g. roomy_give room _

  roomy_free : (w : Name) → Roomy room (read_free room scope w)
  roomy_free w = form λ a. roomy_all room _ (λ k g. (entry_more_rule room scope k g).reader) (λ k g. roomy_on room _ λ v. roomy_on room _ λ _. form λ b. roomy_give room _) (one_entry w a)

  roomy_entries : (words : Words) → Roomy room (read_entries room scope words)
  roomy_entries (these w ws) = roomy_after room (given_rule room scope w ws).reader (roomy_given w ws) λ g. roomy_give room _
  roomy_entries any = roomy_on room _ λ w. roomy_on room _ λ _. roomy_after room (free_rule room scope w).reader (roomy_free w) λ g. roomy_give room _

  roomy_list : Roomy room (read_list room scope)
  roomy_list = roomy_on room _ λ _. roomy_after room (forms_rule room scope).reader roomy_forms λ fs. roomy_on room _ λ _. roomy_give room fs

-- ---- Texts

module _ (o : Outline) (room : ℕ) where
  roomy_fold : (c : Text o) → Roomy room (read_fold o room c)
  roomy_fold c = roomy_on room _ λ w. roomy_on room _ λ _. roomy_after room (list_rule room (fold_lists o w).there).reader (roomy_list room (fold_lists o w).there) λ fs. roomy_give room _

  roomy_next_fold : (c : Text o) → Roomy room (next_fold o room c)
  roomy_next_fold c = roomy_either room _ (λ _. roomy_fold c) (roomy_finished room (done c))

  roomy_first_fold : (c : Text o) (b : Bool) → Roomy room (read_first_fold o room c b)
  roomy_first_fold c true = roomy_fold c
  roomy_first_fold c false = roomy_fail room

  roomy_stmt : (digits : Digits) (ss : StmtsText o (decimal digits)) (w : Name) → Roomy room (read_stmt o room digits ss w)
  roomy_stmt digits ss w = roomy_either room _ (λ _. roomy_after room (list_rule room (statement_lists o (decimal digits) w).there).reader (roomy_list room (statement_lists o (decimal digits) w).there) λ fs. roomy_give room _) (roomy_first_fold (order (time digits ss)) (same w (codes "fold")))

  roomy_next_stmt : (digits : Digits) (ss : StmtsText o (decimal digits)) → Roomy room (next_stmt o room digits ss)
  roomy_next_stmt digits ss = roomy_either room _ (roomy_stmt digits ss) (roomy_finished room _)

  roomy_more : (digits : Digits) (ss : StmtsText o (decimal digits)) (scope : Scope) (words : Words) (presence : Presence) (line : InverseText scope words presence → LineText (statement_lists o (decimal digits)) (statement_presence o)) → Roomy room (stmt_more o room digits ss scope words presence line)
  roomy_more digits ss scope words never line = roomy_next_stmt digits (and_stmt ss (line without))
  roomy_more digits ss scope words always line = roomy_after room (entries_rule room scope words).reader (roomy_entries room scope words) λ e. roomy_give room _
  roomy_more digits ss scope words maybe line =
      roomy_either room _ (λ w. roomy_either room _ (λ _. roomy_after room (free_rule room scope w).reader (roomy_free room scope w) λ g. roomy_give room _) (roomy_stmt digits (and_stmt ss (line skipped)) w)) (roomy_finished room _)

  roomy_part : (k : Unit {0}) (p : Front o) → Roomy room (part_more o room k p)
  roomy_part k source_word = roomy_next_fold (order source)
  roomy_part k (time_number digits) = roomy_next_stmt digits no_stmts
  roomy_part k (stmt_forms digits ss w fs) = roomy_more digits ss (statement_lists o (decimal digits) w).back (statement_lists o (decimal digits) w).words (statement_presence o w) (λ i. record { name = w; forms = fs; inverse = i })
  roomy_part k (stmt_line digits ss l) = roomy_next_stmt digits (and_stmt ss l)
  roomy_part k (fold_forms c w fs) = roomy_after room (entries_rule room (fold_lists o w).back (fold_lists o w).words).reader (roomy_entries room (fold_lists o w).back (fold_lists o w).words) λ e. roomy_give room _
  roomy_part k (fold_line c l) = roomy_next_fold (and_fold c l)

  roomy_parts : (p : Front o) → Roomy room (read_parts o room p)
  roomy_parts p = roomy_until room _ (λ k q. (part_rule o room k q).reader) roomy_part p

  pub roomy_text : Roomy room (read_text o room)
  unfolding read_text
  roomy_text = roomy_either room _ (λ _. roomy_parts source_word) (roomy_on room _ λ _. roomy_on room _ λ digits. roomy_parts (time_number digits))
