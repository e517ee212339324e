-- The drafts of statements that are read are those of the grammar's statements, read by the grammar.
use Rattle.std.proofs.Common.{◌≡◌, ℕ, zero, suc, ◌+◌, ◌-◌, Bool, true, false, ◌&&◌, ◌||◌, codes, ◌≤◌, List, [], ◌∷◌, ◌++◌, length, Option, Some, None, Ok, Err, if◌then◌else◌, refl, sym, ap, ◌∙◌, arith, length-append}
use Rattle.std.specs.Option.{is_some}
use Rattle.affc_lex.specs.Bytes.{same}
use Rattle.affc_ast.specs.declared.tree.Op.{Op}
use Rattle.affc_grammar.specs.Grammar as g
use Rattle.affc_grammar.specs.Grammar.{Symbol, Name, mark, word, IxText, DimsText, CondText, StepText, LocalsText, StmtsText, StmtText, SimpleText, BodyText, ix_symbols, dims_symbols, cond_symbols, step_symbols, locals_symbols, stmts_symbols, simple_symbols, body_symbols}
use Rattle.affc_grammar.specs.Draft as d
use Rattle.affc_grammar.specs.Draft.{StmtDraft, StmtsDraft, no_stmts, WordDraft, word_draft, ix_draft, dims_draft, cond_draft, value_draft, step_draft, bound_rel, head_draft, head_length, locals_draft, stmts_draft, stmt_draft, simple_draft, body_draft}
use Rattle.affc_grammar.specs.Reader.{At, Deep, Read, Reader, then_read, on_some, give, fail, deep, after, either, on, all, Turn, going, done, tries, until, and_on, inside}
use Rattle.affc_grammar.specs.Reading as r
use Rattle.affc_grammar.specs.Reading.{this_mark, this_word, any_word, one, bound_of, assign_of, choose, head_words, First, a_word, a_brace, first_of}
use Rattle.affc_grammar.specs.Reading.{stmts_inside as grammar_stmts, block_inside as grammar_block}
use Rattle.affc_grammar.proofs.Rules.{ix_inside_rule, dims_rule, assign_rule, head_symbols, heads_symbols, before_symbols, closing_symbols, close_symbols, close_one_symbols, opened_symbols, progress_symbols, worded_rule, under_body_rule, closed_symbols, stmt_more_rule, block_symbols, block_more_rule, stmts_inside_rule, block_inside_rule}
use Rattle.affc_grammar.proofs.Rule.{Rule}
use Rattle.affc_grammar.proofs.Closed.{all_is as all_once}
use Rattle.affc_grammar.proofs.Complete.{dims_reader}
use Rattle.affc_grammar.proofs.Tests.{first_symbol}
use Rattle.affc_grammar.specs.Limits.{count_open}
use Rattle.affc_syntax.specs.Ahead.{past}
use Rattle.affc_syntax.specs.Readers.{on_past, closed, mapped, all_more}
use Rattle.affc_syntax.specs.IxReading as ix
use Rattle.affc_syntax.specs.ValueReading.{value}
use Rattle.affc_syntax.specs.draft.Drafts.{stmts_after}
use Rattle.affc_syntax.proofs.Draws.{Draws, Placed, then_is, then_then, either_mapped, past_one, failed, closed_is, all_is}
use Rattle.affc_syntax.proofs.IxExact.{expression_is, inside_is, dims_is}
use Rattle.affc_syntax.proofs.CondExact.{cond_is}
use Rattle.affc_syntax.proofs.ValueExact.{value_is}
use Rattle.affc_text.specs.Parts.{Head, for_head, if_head, else_head, Heads, Closing, closed as closed_stmt, waiting, Block, no_items, with_head, alone, covered, listed, close, under_one}
use Rattle.affc_text.specs.StmtReading.{cond_inside, expression, named, stepped, step, step_closed, tested, for_behind, if_behind, head_behind, assigned, else_behind, closed_behind, assigned_under, worded, body_turn, going_on, tries_more, until_done, under_heads, simple, statement, stmt_more, is_none, local_behind, block_stmt, block_more, stmts_inside, block_inside}
use Rattle.affc_text.proofs.StmtReads.{covered_last, close_last, behind}

-- ---- A token, and what is read behind it

pub on_is : {K A D : Type 0} (test : Symbol → Option K) (f : K → Reader Symbol A) (h : K → Reader Symbol D) (e : A → D) (ts : List Symbol) → ((k : K) (us : List Symbol) → past test ts ≡ Some (k, us) → h k us ≡ mapped e (f k us)) → on_past (past test ts) h (Err (At ts)) ≡ mapped e (on test f ts)
on_is test f h e ts k = either_mapped test f fail h (Err (At ts)) e ts k (failed e ts)

then_on : {K A B : Type 0} (o : Option (K × List Symbol)) (c : K → A) (ts : List Symbol) (h : A → Reader Symbol B) → then_read (on_past o (λ k us. Ok (c k, us)) (Err (At ts))) h ≡ on_past o (λ k us. h (c k) us) (Err (At ts))
then_on None c ts h = refl
then_on (Some p) c ts h = refl

pub past_then : {K A B : Type 0} (o : Option (K × List Symbol)) (f : K → Reader Symbol A) (ts : List Symbol) (h : A → Reader Symbol B) → then_read (on_past o f (Err (At ts))) h ≡ on_past o (λ k us. then_read (f k us) h) (Err (At ts))
past_then None f ts h = refl
past_then (Some p) f ts h = refl

pub then_assoc : {A B C : Type 0} (x : Read Symbol A) (f : A → Reader Symbol B) (h : B → Reader Symbol C) → then_read x (λ a us. then_read (f a us) h) ≡ then_read (then_read x f) h
then_assoc (Ok x) f h = refl
then_assoc (Err (At ts)) f h = refl
then_assoc (Err Deep) f h = refl

pub drawn_then : {K A B D : Type 0} (test : Symbol → Option K) (c : K → A) (f : K → Reader Symbol B) (h : A → Reader Symbol D) (e : B → D) (ts : List Symbol) → ((k : K) (us : List Symbol) → past test ts ≡ Some (k, us) → h (c k) us ≡ mapped e (f k us))
    → then_read (on_past (past test ts) (λ k us. Ok (c k, us)) (Err (At ts))) h ≡ mapped e (on test f ts)
drawn_then test c f h e ts k = then_on (past test ts) c ts h ∙ on_is test f (λ k us. h (c k) us) e ts k

-- ---- Until the whole is read

abbrev pub turned : {A D C E : Type 0} → (A → D) → (C → E) → Turn A C → Turn D E
turned f e (going a) = going (f a)
turned f e (done c) = done (e c)

module _ {A D C E K : Type 0} (test : Symbol → Option K) (turn : K → A → Reader Symbol (Turn A C)) (drawn : K → D → Reader Symbol (Turn D E)) (f : A → D) (e : C → E) (P : A → List Symbol → Type 0)
    (same_turn : (k : K) (left : A) (ts us : List Symbol) → past test ts ≡ Some (k, us) → P left ts → drawn k (f left) us ≡ mapped (turned f e) (turn k left us))
    (keeps : (k : K) (left : A) (ts us : List Symbol) → past test ts ≡ Some (k, us) → P left ts → (b : A) (vs : List Symbol) → turn k left us ≡ Ok (going b, vs) → P b vs) where
  tries_is : (n : ℕ) (left : A) (ts : List Symbol) → P left ts → tries_more test drawn n (f left) ts ≡ mapped e (tries test turn n left ts)
  unfolding tries fail give after
  tries_is zero left ts p = refl
  tries_is (suc n) left ts p =
      on_is test (λ k. after (turn k left) (and_on (tries test turn n))) (λ k us. then_read (drawn k (f left) us) (going_on (tries_more test drawn n))) e ts (λ k us c.
      then_is (drawn k (f left) us) (turn k left us) (turned f e) (and_on (tries test turn n)) (going_on (tries_more test drawn n)) e (same_turn k left ts us c p)
      (λ t vs q. behind t vs (λ b s. tries_is n b vs (keeps k left ts us c p b vs (q ∙ ap (λ x. Ok (x, vs)) s)))))
    where
      behind : (t : Turn A C) (vs : List Symbol) → ((b : A) → t ≡ going b → tries_more test drawn n (f b) vs ≡ mapped e (tries test turn n b vs)) → going_on (tries_more test drawn n) (turned f e t) vs ≡ mapped e (and_on (tries test turn n) t vs)
      behind (going a) vs h = h a refl
      behind (done c) vs h = refl

  pub until_drawn : (left : A) (ts : List Symbol) → P left ts → until_done test drawn (f left) ts ≡ mapped e (until test turn left ts)
  unfolding until until_done
  until_drawn left ts p = tries_is (length ts) left ts p

-- ---- Steps

pub step_is : (end : ℕ) → Draws end step_draft (step end) r.read_step
unfolding give
step_is end ts le =
    let at = end - length ts in
    either_mapped (this_mark (codes "++")) _ _ (λ _ us. named end us) _ (step_draft at) ts
    (λ k us c.
    let first = past_one (this_mark (codes "++")) ts k us c in
    let place : end - length us ≡ at + 1 = omega arith in
    on_is any_word (λ w. give (g.up_then w)) (λ w vs. Ok (word_draft (end - length us) w, vs)) (step_draft at) us (λ w vs o. (λ i. Ok (word_draft (place i) w, vs))))
    (drawn_then any_word (word_draft at) _ stepped (step_draft at) ts (λ w us c.
    either_mapped (this_mark (codes "++")) _ _ (λ _ vs. Ok (word_draft at w, vs)) _ (step_draft at) us (λ k vs o. refl)
    (on_is (this_mark (codes "+=")) _ (λ _ vs. on_past (past one vs) (λ _ ws. Ok (word_draft at w, ws)) (Err (At vs))) (step_draft at) us (λ k vs o.
    on_is one _ (λ _ ws. Ok (word_draft at w, ws)) (step_draft at) vs (λ k ws u. refl)))))

-- the step is read, and joins what stands before it
step_as_read : {A : Type 0} (end : ℕ) (h : WordDraft → A) (ws : List Symbol) → then_read (step_closed end ws) (λ s us. Ok (h s, us))
    ≡ on_past (past (this_mark (codes ";")) ws) (λ _ xs. then_read (step end xs) (λ s ys. closed (codes ")") (h s) ys)) (Err (At ws))
step_as_read {A} end h ws = past_then (past (this_mark (codes ";")) ws) _ ws joins ∙ (λ i. on_past (past (this_mark (codes ";")) ws) (λ _ xs. behind_mark xs i) (Err (At ws)))
  where
    joins : WordDraft → Reader Symbol A
    joins s us = Ok (h s, us)

    behind_mark : (xs : List Symbol) → then_read (then_read (step end xs) (λ s ys. closed (codes ")") s ys)) joins ≡ then_read (step end xs) (λ s ys. closed (codes ")") (h s) ys)
    behind_mark xs = sym (then_assoc (step end xs) _ joins) ∙ (λ i. then_read (step end xs) (λ s ys. past_then (past (this_mark (codes ")")) ys) (λ _ zs. Ok (s, zs)) ys joins i))

-- ---- Heads

abbrev pub head_of : {prelude : Bool} → ℕ → r.Head prelude → Head
head_of at (r.for_head iterator low w strict high s) = for_head (head_draft at iterator low w strict high s)
head_of at (r.if_head c) = if_head at (cond_draft (at + 2) c)
head_of at (r.else_head c body) = else_head at (cond_draft (at + 2) c) (body_draft (at + 2 + length (cond_symbols c) + 1) body)

abbrev pub heads_of : {prelude : Bool} → ℕ → r.Heads prelude → Heads
heads_of at (r.head h) = behind [] (head_of at h)
heads_of at (r.and_head hs h) = behind (listed (heads_of at hs)) (head_of (at + length (heads_symbols hs)) h)

abbrev pub before_of : {prelude : Bool} → ℕ → Option (r.Heads prelude) → List Head
before_of at None = []
before_of at (Some hs) = listed (heads_of at hs)

-- the number behind them
abbrev pub behind_heads : {prelude : Bool} → ℕ → Option (r.Heads prelude) → ℕ
behind_heads at o = at + length (before_symbols o)

abbrev pub closing_of : {prelude : Bool} → ℕ → r.Closing prelude → Closing
closing_of at (r.closed s) = closed_stmt (simple_draft at s)
closing_of at (r.waiting o c body) = waiting (before_of at o) (behind_heads at o) (cond_draft (behind_heads at o + 2) c) (body_draft (behind_heads at o + 2 + length (cond_symbols c) + 1) body)

abbrev pub ended_of : {prelude : Bool} → ℕ → r.Ended prelude → List StmtDraft
ended_of at (r.one_stmt s) = stmt_draft at s ∷ []
ended_of at (r.and_else s t) = simple_draft at s ∷ simple_draft (at + length (simple_symbols s)) t ∷ []

abbrev pub turn_of : {prelude : Bool} → ℕ → Turn (r.Heads prelude) (r.Ended prelude) → Turn Heads (List StmtDraft)
turn_of at = turned (heads_of at) (ended_of at)

-- behind other statements
pub ended_after : {prelude : Bool} (p : ℕ) (ss : StmtsText prelude) (e : r.Ended prelude) → stmts_after (stmts_draft p ss) (ended_of (p + length (stmts_symbols ss)) e) ≡ stmts_draft p (r.and_ended ss e)
ended_after p ss (r.one_stmt s) = refl
ended_after p ss (r.and_else s t) =
    let count = length-append (stmts_symbols ss) (simple_symbols s) in
    let place : p + length (stmts_symbols ss) + length (simple_symbols s) ≡ p + length (stmts_symbols ss ++ simple_symbols s) = omega arith in
    ap (λ n. d.and_stmt (d.and_stmt (stmts_draft p ss) (simple_draft (p + length (stmts_symbols ss)) s)) (simple_draft n t)) place

for_count : {prelude : Bool} (iterator : Name) (low : IxText prelude) (w : Name) (strict : Bool) (high : IxText prelude) (s : StepText) → length (head_symbols (r.for_head iterator low w strict high s)) ≡ head_length low high s
for_count iterator low w strict high s =
    let one = length-append (ix_symbols low) (mark (codes ";") ∷ word w ∷ mark (g.bound_mark strict) ∷ (ix_symbols high ++ mark (codes ";") ∷ (step_symbols s ++ mark (codes ")") ∷ []))) in
    let two = length-append (ix_symbols high) (mark (codes ";") ∷ (step_symbols s ++ mark (codes ")") ∷ [])) in
    let three = length-append (step_symbols s) (mark (codes ")") ∷ []) in
    omega arith

if_count : {prelude : Bool} (at : ℕ) (c : CondText prelude true) → at + 2 + length (cond_symbols c) + 1 ≡ at + length (head_symbols (r.if_head c))
if_count at c = let count = length-append (cond_symbols c) (mark (codes ")") ∷ []) in omega arith

else_count : {prelude : Bool} (at : ℕ) (c : CondText prelude true) (body : BodyText prelude false) → at + 2 + length (cond_symbols c) + 1 + length (body_symbols body) + 1 ≡ at + length (head_symbols (r.else_head c body))
else_count at c body =
    let count = length-append (cond_symbols c) (mark (codes ")") ∷ (body_symbols body ++ word (codes "else") ∷ [])) in
    let first = length-append (body_symbols body) (word (codes "else") ∷ []) in
    omega arith

for_with : {prelude dangles : Bool} (at : ℕ) (iterator : Name) (low : IxText prelude) (w : Name) (strict : Bool) (high : IxText prelude) (s : StepText) (body : BodyText prelude dangles)
    → simple_draft at (g.for_loop iterator low w strict high s body) ≡ d.for_loop (head_draft at iterator low w strict high s) (body_draft (at + length (head_symbols (r.for_head iterator low w strict high s))) body)
for_with at iterator low w strict high s body = ap (λ n. d.for_loop (head_draft at iterator low w strict high s) (body_draft (at + n) body)) (sym (for_count iterator low w strict high s))

if_with : {prelude dangles : Bool} (at : ℕ) (c : CondText prelude true) (body : BodyText prelude dangles) → simple_draft at (g.if_then c body) ≡ d.if_cond at (cond_draft (at + 2) c) (body_draft (at + length (head_symbols (r.if_head c))) body) no_stmts
if_with at c body = ap (λ n. d.if_cond at (cond_draft (at + 2) c) (body_draft n body) no_stmts) (if_count at c)

else_with : {prelude dangles : Bool} (at : ℕ) (c : CondText prelude true) (body : BodyText prelude false) (other : BodyText prelude dangles)
    → simple_draft at (g.if_else c body other) ≡ d.if_cond at (cond_draft (at + 2) c) (body_draft (at + 2 + length (cond_symbols c) + 1) body) (body_draft (at + length (head_symbols (r.else_head c body))) other)
else_with at c body other = ap (λ n. d.if_cond at (cond_draft (at + 2) c) (body_draft (at + 2 + length (cond_symbols c) + 1) body) (body_draft n other)) (else_count at c body)

open_with : {prelude : Bool} (at : ℕ) (h : r.Head prelude) (body : BodyText prelude true) → simple_draft at (r.with_open h body) ≡ with_head (head_of at h) (body_draft (at + length (head_symbols h)) body)
open_with at (r.for_head iterator low w strict high s) body = for_with at iterator low w strict high s body
open_with at (r.if_head c) body = if_with at c body
open_with at (r.else_head c body) other = else_with at c body other

-- behind the heads before another
heads_place : {prelude : Bool} (at : ℕ) (hs : r.Heads prelude) (h : r.Head prelude) → at + length (heads_symbols hs) + length (head_symbols h) ≡ at + length (heads_symbols (r.and_head hs h))
heads_place at hs h = let count = length-append (heads_symbols hs) (head_symbols h) in omega arith

under_is : {prelude : Bool} (at : ℕ) (hs : r.Heads prelude) (body : BodyText prelude true) → simple_draft at (r.under hs body) ≡ covered (heads_of at hs).outer (with_head (heads_of at hs).inner (body_draft (at + length (heads_symbols hs)) body))
under_is at (r.head h) body = open_with at h body
under_is at (r.and_head hs h) body =
    let n = at + length (heads_symbols hs) in
    let m = heads_of at hs in
    under_is at hs (g.bare (r.with_open h body))
    ∙ ap (λ s. covered m.outer (with_head m.inner (alone s))) (open_with n h body ∙ ap (λ k. with_head (head_of n h) (body_draft k body)) (heads_place at hs h))
    ∙ sym (covered_last m.outer m.inner (with_head (head_of n h) (body_draft (at + length (heads_symbols (r.and_head hs h))) body)))

opened_is : {prelude : Bool} (at : ℕ) (o : Option (r.Heads prelude)) (s : SimpleText prelude true) → simple_draft at (r.opened o s) ≡ covered (before_of at o) (simple_draft (behind_heads at o) s)
opened_is at None s = let same : at ≡ at + 0 = omega arith in ap (λ m. simple_draft m s) same
opened_is at (Some hs) s =
    let m = heads_of at hs in
    under_is at hs (g.bare s) ∙ sym (covered_last m.outer m.inner (simple_draft (at + length (heads_symbols hs)) s))

one_is : {prelude : Bool} (at : ℕ) (o : Option (r.Heads prelude)) (h : r.Head prelude) → heads_of at (r.and_one o h) ≡ behind (before_of at o) (head_of (behind_heads at o) h)
one_is at None h = let same : at ≡ at + 0 = omega arith in ap (λ m. behind [] (head_of m h)) same
one_is at (Some hs) h = refl

-- ---- Closed statements under heads

-- the last head over a closed body, under the others
under_last : (hs : Heads) (s t : StmtDraft) (k : Closing) → k ≡ under_one hs.outer hs.inner (alone s) → s ≡ t → k ≡ close (listed hs) t
under_last hs s t k e q = e ∙ ap (λ x. under_one hs.outer hs.inner (alone x)) q ∙ sym (close_last hs.outer hs.inner t)

close_is : {prelude : Bool} (at : ℕ) (hs : r.Heads prelude) (body : BodyText prelude false) → closing_of at (r.close hs body) ≡ under_one (heads_of at hs).outer (heads_of at hs).inner (body_draft (at + length (heads_symbols hs)) body)
close_is at (r.head (r.for_head iterator low w strict high s)) body = ap closed_stmt (for_with at iterator low w strict high s body)
close_is at (r.head (r.if_head c)) body =
    let same : at + 0 ≡ at = omega arith in
    ap (λ m. waiting [] m (cond_draft (m + 2) c) (body_draft (m + 2 + length (cond_symbols c) + 1) body)) same ∙ ap (λ n. waiting [] at (cond_draft (at + 2) c) (body_draft n body)) (if_count at c)
close_is at (r.head (r.else_head c body)) other = ap closed_stmt (else_with at c body other)
close_is at (r.and_head hs (r.for_head iterator low w strict high s)) body =
    let n = at + length (heads_symbols hs) in
    let h = r.for_head iterator low w strict high s in
    under_last (heads_of at hs) _ _ _ (close_is at hs (g.bare (g.for_loop iterator low w strict high s body)))
    (for_with n iterator low w strict high s body ∙ ap (λ k. with_head (head_of n h) (body_draft k body)) (heads_place at hs h))
close_is at (r.and_head hs (r.if_head c)) body =
    let n = at + length (heads_symbols hs) in
    ap (λ k. waiting (listed (heads_of at hs)) n (cond_draft (n + 2) c) (body_draft k body)) (if_count n c ∙ heads_place at hs (r.if_head c))
close_is at (r.and_head hs (r.else_head c body)) other =
    let n = at + length (heads_symbols hs) in
    let h = r.else_head c body in
    under_last (heads_of at hs) _ _ _ (close_is at hs (g.bare (g.if_else c body other)))
    (else_with n c body other ∙ ap (λ k. with_head (head_of n h) (body_draft k other)) (heads_place at hs h))

close_one_is : {prelude : Bool} (at : ℕ) (o : Option (r.Heads prelude)) (s : SimpleText prelude false) → closing_of at (r.close_one o s) ≡ close (before_of at o) (simple_draft (behind_heads at o) s)
close_one_is at None s = let same : at ≡ at + 0 = omega arith in ap (λ m. closed_stmt (simple_draft m s)) same
close_one_is at (Some hs) s = under_last (heads_of at hs) _ _ _ (close_is at hs (g.bare s)) refl

-- ---- `else`, where it is the first of an assignment

on_then : {A B K : Type 0} (test : Symbol → Option K) (f : K → Reader Symbol A) (h : A → Reader Symbol B) (ts : List Symbol) → on test (λ k. after (f k) h) ts ≡ then_read (on test f ts) h
unfolding either fail after
on_then test f h [] = refl
on_then {A} {B} {K} test f h (x ∷ ts) = of_test (test x)
  where
    of_test : (o : Option K) → on_some o (λ k. then_read (f k ts) h) (Err (At (x ∷ ts))) ≡ then_read (on_some o (λ k. f k ts) (Err (At (x ∷ ts)))) h
    of_test None = refl
    of_test (Some k) = refl

module _ (prelude : Bool) (room : ℕ) (s : SimpleText prelude true) (x : Symbol) (ts : List Symbol) where
  abbrev else_then : Read Symbol (SimpleText prelude false) → Read Symbol (Turn (r.Heads prelude) (r.Ended prelude))
  else_then read = then_read read (λ t. give (done (r.and_else s t)))

  abbrev stored_else : DimsText prelude → Reader Symbol (SimpleText prelude false)
  stored_else ds = on assign_of λ op. r.read_stored prelude room (codes "else") ds op

  else_dims : r.read_dims prelude room (x ∷ ts) ≡ on_some (this_mark (codes "[") x) (λ _. r.dims_behind prelude room ts) (Ok (g.no_dims, x ∷ ts))
  unfolding either give
  else_dims = all_once (this_mark (codes "[")) (r.dims_more prelude room) (dims_reader prelude room) g.no_dims (x ∷ ts)

  square_as_read : (u : Unit {0}) → this_mark (codes "[") x ≡ Some u → else_then (r.read_assign prelude room (codes "else") (x ∷ ts)) ≡ after (r.dims_behind prelude room) (λ ds. on assign_of λ op. r.read_two s (r.read_stored prelude room (codes "else") ds op)) ts
  unfolding after
  square_as_read u e =
      ap (λ read. else_then (then_read read stored_else)) (else_dims ∙ ap (λ o. on_some o (λ _. r.dims_behind prelude room ts) (Ok (g.no_dims, x ∷ ts))) e)
      ∙ then_then (r.dims_behind prelude room ts) stored_else (λ t. give (done (r.and_else s t)))
      ∙ (λ i. then_read (r.dims_behind prelude room ts) (λ ds us. sym (on_then assign_of (λ op. r.read_stored prelude room (codes "else") ds op) (λ t. give (done (r.and_else s t))) us) i))

  operator_as_read : (op : Option Op) → this_mark (codes "[") x ≡ None → assign_of x ≡ Some op → else_then (r.read_assign prelude room (codes "else") (x ∷ ts)) ≡ r.read_two s (r.read_stored prelude room (codes "else") g.no_dims op) ts
  unfolding after either
  operator_as_read op e q =
      ap (λ read. else_then (then_read read stored_else)) (else_dims ∙ ap (λ o. on_some o (λ _. r.dims_behind prelude room ts) (Ok (g.no_dims, x ∷ ts))) e)
      ∙ ap (λ o. else_then (on_some o (λ op. r.read_stored prelude room (codes "else") g.no_dims op ts) (fail (x ∷ ts)))) q

-- ---- Statements without a body

cond_inside_is : (prelude : Bool) (end room : ℕ) → Draws end cond_draft (cond_inside prelude end room) (inside (r.read_cond prelude true) room)
unfolding cond_inside inside deep
cond_inside_is prelude end zero ts le = refl
cond_inside_is prelude end (suc room) ts le = cond_is prelude true end room ts le

module _ (prelude : Bool) (end room : ℕ) where
  -- behind the first `;` of a `for`
  abbrev rest_of : Name → IxText prelude → Reader Symbol (r.Head prelude)
  rest_of iterator low =
      on any_word λ w. on bound_of λ strict. after (r.ix_inside prelude room) λ high. on (this_mark (codes ";")) λ _.
      after r.read_step λ s. on (this_mark (codes ")")) λ _. give (r.for_head iterator low w strict high s)

  tested_is : (at : ℕ) (iterator : Name) (low : IxText prelude) (ts : List Symbol) → length ts ≤ end → end - length ts ≡ at + 5 + length (ix_symbols low) + 1 → tested prelude end room at (word_draft (at + 3) iterator) (ix_draft (at + 5) low) ts ≡ mapped (head_of at) (rest_of iterator low ts)
  unfolding after
  tested_is at iterator low ts le e =
      let n = at + 5 + length (ix_symbols low) + 1 in
      drawn_then any_word (word_draft (end - length ts)) _ _ (head_of at) ts (λ w us c.
      let first = past_one any_word ts w us c in
      drawn_then bound_of bound_rel _ _ (head_of at) us (λ strict vs c.
      let second = past_one bound_of us strict vs c in
      let less : length vs ≤ end = omega arith in
      let high_at : end - length vs ≡ n + 2 = omega arith in
      then_is (ix.inside prelude end room vs) (r.ix_inside prelude room vs) (ix_draft (end - length vs)) _ _ (head_of at) (inside_is prelude end room vs less) (λ high ws q.
      let count = ap length ((ix_inside_rule prelude room).sound vs high ws q) ∙ length-append (ix_symbols high) ws in
      step_as_read end (λ s. for_head (record { at = at; iterator = word_draft (at + 3) iterator; low = ix_draft (at + 5) low; tested = word_draft (end - length ts) w; rel = bound_rel strict; high = ix_draft (end - length vs) high; stepped = s })) ws ∙
      on_is (this_mark (codes ";")) _ _ (head_of at) ws (λ k xs c.
      let third = past_one (this_mark (codes ";")) ws k xs c in
      let fewer : length xs ≤ end = omega arith in
      let step_at : end - length xs ≡ n + 2 + length (ix_symbols high) + 1 = omega arith in
      then_is (step end xs) (r.read_step xs) (step_draft (end - length xs)) _ _ (head_of at) (step_is end xs fewer) (λ s ys q.
      closed_is (codes ")") (r.for_head iterator low w strict high s) _ (head_of at) ys
      (λ i. for_head (record { at = at; iterator = word_draft (at + 3) iterator; low = ix_draft (at + 5) low; tested = word_draft (e i) w; rel = bound_rel strict; high = ix_draft (high_at i) high; stepped = step_draft (step_at i) s })))))))

  for_is : (at : ℕ) (ts : List Symbol) → length ts ≤ end → end - length ts ≡ at + 2 → for_behind prelude end room at ts ≡ mapped (head_of at) (r.read_for prelude room ts)
  unfolding after
  for_is at ts le e =
      on_is (this_word (codes "int64_t")) _ _ (head_of at) ts (λ k us c.
      let first = past_one (this_word (codes "int64_t")) ts k us c in
      let name_at : end - length us ≡ at + 3 = omega arith in
      drawn_then any_word (word_draft (end - length us)) _ _ (head_of at) us (λ iterator vs c.
      let second = past_one any_word us iterator vs c in
      on_is (this_mark (codes "=")) _ _ (head_of at) vs (λ k ws c.
      let third = past_one (this_mark (codes "=")) vs k ws c in
      let less : length ws ≤ end = omega arith in
      let low_at : end - length ws ≡ at + 5 = omega arith in
      then_is (ix.inside prelude end room ws) (r.ix_inside prelude room ws) (ix_draft (end - length ws)) _ _ (head_of at) (inside_is prelude end room ws less) (λ low xs q.
      let count = ap length ((ix_inside_rule prelude room).sound ws low xs q) ∙ length-append (ix_symbols low) xs in
      on_is (this_mark (codes ";")) _ _ (head_of at) xs (λ k ys c.
      let fourth = past_one (this_mark (codes ";")) xs k ys c in
      (λ i. tested prelude end room at (word_draft (name_at i) iterator) (ix_draft (low_at i) low) ys)
      ∙ tested_is at iterator low ys (omega arith) (omega arith))))))

  if_is : (at : ℕ) (ts : List Symbol) → length ts ≤ end → end - length ts ≡ at + 2 → if_behind prelude end room at ts ≡ mapped (head_of at) (r.read_if prelude room ts)
  unfolding after
  if_is at ts le e =
      then_is (cond_inside prelude end room ts) (inside (r.read_cond prelude true) room ts) (cond_draft (end - length ts)) _ _ (head_of at) (cond_inside_is prelude end room ts le) (λ c us q.
      closed_is (codes ")") (r.if_head c) _ (head_of at) us (λ i. if_head at (cond_draft (e i) c)))

  head_is : (at : ℕ) (is_for : Bool) (ts : List Symbol) → length ts ≤ end → end - length ts ≡ at + 2 → head_behind prelude end room at is_for ts ≡ mapped (head_of at) (r.read_head prelude room is_for ts)
  head_is at true ts le e = for_is at ts le e
  head_is at false ts le e = if_is at ts le e

  assigned_is : (at : ℕ) (w : Name) (ts : List Symbol) → length ts ≤ end → end - length ts ≡ at + 1 → assigned prelude end room at w ts ≡ mapped (simple_draft at) (r.read_assign prelude room w ts)
  unfolding after
  assigned_is at w ts le e =
      then_is (ix.dims prelude end room ts) (r.read_dims prelude room ts) (dims_draft (end - length ts)) _ _ (simple_draft at) (dims_is prelude end room ts le) (λ ds us q.
      let count = ap length ((dims_rule prelude room).sound ts ds us q) ∙ length-append (dims_symbols ds) us in
      drawn_then assign_of (λ op. op) _ _ (simple_draft at) us (λ op vs c.
      let first = past_one assign_of us op vs c in
      let less : length vs ≤ end = omega arith in
      let place : end - length vs ≡ at + 1 + length (dims_symbols ds) + 1 = omega arith in
      then_is (value prelude end room vs) (r.read_value prelude room vs) (value_draft (end - length vs)) _ _ (simple_draft at) (value_is prelude end room vs less) (λ v ws q.
      closed_is (codes ";") (g.assign w ds op v) _ (simple_draft at) ws (λ i. d.assign (word_draft at w) (dims_draft (e i) ds) op (value_draft (place i) v)))))

  -- an open statement, and behind it an assignment to an array `else`
  two_is : (at : ℕ) (o : Option (r.Heads prelude)) (c : CondText prelude true) (body : BodyText prelude false) (ts : List Symbol) → length ts + 1 ≤ end → end - length ts ≡ at + length (simple_symbols (r.opened o (g.if_then c body))) + 1
      → then_read (assigned prelude end room (end - length ts - 1) (codes "else") ts) (λ t us. Ok (done (covered (before_of at o) (simple_draft (behind_heads at o) (g.if_then c body)) ∷ t ∷ []), us))
      ≡ mapped (turn_of at) (then_read (r.read_assign prelude room (codes "else") ts) (λ t. give (done (r.and_else (r.opened o (g.if_then c body)) t))))
  unfolding give
  two_is at o c body ts le e =
      let n = end - length ts - 1 in
      let s = r.opened o (g.if_then c body) in
      let place : n ≡ at + length (simple_symbols s) = omega arith in
      then_is (assigned prelude end room n (codes "else") ts) (r.read_assign prelude room (codes "else") ts) (simple_draft n) _ _ (turn_of at) (assigned_is n (codes "else") ts (omega arith) (omega arith)) (λ t us q.
      (λ i. Ok (done (sym (opened_is at o (g.if_then c body)) i ∷ simple_draft (place i) t ∷ []), us)))

  else_is : (at : ℕ) (o : Option (r.Heads prelude)) (c : CondText prelude true) (body : BodyText prelude false) (ts : List Symbol) → length ts + 1 ≤ end → end - length ts ≡ at + length (simple_symbols (r.opened o (g.if_then c body))) + 1
      → else_behind prelude end room (before_of at o) (behind_heads at o) (cond_draft (behind_heads at o + 2) c) (body_draft (behind_heads at o + 2 + length (cond_symbols c) + 1) body) ts ≡ mapped (turn_of at) (r.read_else prelude room o c body ts)
  unfolding either give
  else_is at o c body [] le e = ap (λ x. Ok (going x, [])) (sym (one_is at o (r.else_head c body)))
  else_is at o c body (x ∷ ts) le e = of_tests (this_mark (codes "[") x) refl (assign_of x) refl
    where
      of_tests : (u : Option (Unit {0})) → this_mark (codes "[") x ≡ u → (v : Option (Option Op)) → assign_of x ≡ v
          → (if is_some u || is_some v
          then then_read (assigned prelude end room (end - length (x ∷ ts) - 1) (codes "else") (x ∷ ts)) (λ t us. Ok (done (covered (before_of at o) (simple_draft (behind_heads at o) (g.if_then c body)) ∷ t ∷ []), us))
          else Ok (going (behind (before_of at o) (head_of (behind_heads at o) (r.else_head c body))), x ∷ ts))
          ≡ mapped (turn_of at) (on_some u (λ _. after (r.dims_behind prelude room) (λ ds. on assign_of λ op. r.read_two (r.opened o (g.if_then c body)) (r.read_stored prelude room (codes "else") ds op)) ts)
          (on_some v (λ op. r.read_two (r.opened o (g.if_then c body)) (r.read_stored prelude room (codes "else") g.no_dims op) ts) (Ok (going (r.and_one o (r.else_head c body)), x ∷ ts))))
      of_tests (Some u) p v q = two_is at o c body (x ∷ ts) le e ∙ ap (mapped (turn_of at)) (square_as_read prelude room (r.opened o (g.if_then c body)) x ts u p)
      of_tests None p (Some op) q = two_is at o c body (x ∷ ts) le e ∙ ap (mapped (turn_of at)) (operator_as_read prelude room (r.opened o (g.if_then c body)) x ts op p q)
      of_tests None p None q = ap (λ y. Ok (going y, x ∷ ts)) (sym (one_is at o (r.else_head c body)))

  closing_is : (at : ℕ) (k : r.Closing prelude) (ts : List Symbol) → length ts ≤ end → end - length ts ≡ at + length (closing_symbols k) → closed_behind prelude end room (closing_of at k) ts ≡ mapped (turn_of at) (r.read_closing prelude room k ts)
  unfolding give
  closing_is at (r.closed s) ts le e = refl
  closing_is at (r.waiting o c body) ts le e =
      either_mapped (this_word (codes "else")) _ _ (λ _ us. else_behind prelude end room (before_of at o) (behind_heads at o) (cond_draft (behind_heads at o + 2) c) (body_draft (behind_heads at o + 2 + length (cond_symbols c) + 1) body) us) _ (turn_of at) ts
      (λ k us p.
      let first = past_one (this_word (codes "else")) ts k us p in
      let whole = ap length (opened_symbols o (g.if_then c body)) in
      else_is at o c body us (omega arith) (omega arith))
      (ap (λ s. Ok (done (s ∷ []), ts)) (sym (opened_is at o (g.if_then c body))))

  assigned_under_is : (at n : ℕ) (o : Option (r.Heads prelude)) (w : Name) (ts : List Symbol) → n ≡ behind_heads at o → length ts ≤ end → end - length ts ≡ n + 1
      → assigned_under prelude end room (before_of at o) n w ts ≡ mapped (turn_of at) (r.assigned_under prelude room o w ts)
  unfolding after
  assigned_under_is at n o w ts e le place =
      then_is (assigned prelude end room n w ts) (r.read_assign prelude room w ts) (simple_draft n) _ _ (turn_of at) (assigned_is n w ts le place) (λ s us q.
      let count = ap length ((assign_rule prelude room w).sound ts s us q) in
      let back = length-append (simple_symbols s) us in
      let whole = ap length (close_one_symbols o s) in
      let parts = length-append (before_symbols o) (simple_symbols s) in
      ap (λ k. closed_behind prelude end room k us) (ap (λ m. close (before_of at o) (simple_draft m s)) e ∙ sym (close_one_is at o s))
      ∙ closing_is at (r.close_one o s) us (omega arith) (omega arith))

  worded_is : (at n : ℕ) (o : Option (r.Heads prelude)) (w : Name) (b : Option Bool) (ts : List Symbol) → n ≡ behind_heads at o → length ts ≤ end → end - length ts ≡ n + 1
      → worded prelude end room (before_of at o) n w b ts ≡ mapped (turn_of at) (r.read_worded prelude room o w b ts)
  unfolding after give
  worded_is at n o w None ts e le place = assigned_under_is at n o w ts e le place
  worded_is at n o w (Some is_for) ts e le place =
      either_mapped (this_mark (codes "(")) _ _ (λ _ us. then_read (head_behind prelude end room n is_for us) (λ h vs. Ok (going (behind (before_of at o) h), vs))) _ (turn_of at) ts
      (λ k us c.
      let first = past_one (this_mark (codes "(")) ts k us c in
      let less : length us ≤ end = omega arith in
      let place : end - length us ≡ n + 2 = omega arith in
      then_is (head_behind prelude end room n is_for us) (r.read_head prelude room is_for us) (head_of n) _ _ (turn_of at) (head_is n is_for us less place) (λ h vs q.
      ap (λ x. Ok (going x, vs)) (ap (λ m. behind (before_of at o) (head_of m h)) e ∙ sym (one_is at o h))))
      (assigned_under_is at n o w ts e le place)

-- ---- Statements; what stands behind a "{" is read by `body`, and by `inner` where it is a block's

abbrev pub block_of : {prelude : Bool} → ℕ → r.Block prelude → Block
block_of at b = record { locals = locals_draft at b.locals; stmts = stmts_draft (at + length (locals_symbols b.locals)) b.stmts }

never : (b c : Bool) → b && (c && false) ≡ false
never true true = refl
never true false = refl
never false c = refl

-- the local is read, and joins the others
local_as_read : (end room : ℕ) (b : Block) (us : List Symbol) → local_behind end room b us ≡
    then_read (named end us) (λ w vs.
    on_past (past (this_mark (codes "=")) vs) (λ _ ws.
    then_read (expression true end room ws) (λ a xs. closed (codes ";") (record { locals = b.locals ++ record { at = w.at; name = w.name; value = a } ∷ []; stmts = b.stmts }) xs))
    (Err (At vs)))
local_as_read end room b us = sym (then_assoc (named end us) _ joins) ∙ (λ i. then_read (named end us) (λ w vs. behind_name w vs i))
  where
    joins : d.LocalDraft → Reader Symbol Block
    joins l xs = Ok (record { locals = b.locals ++ l ∷ []; stmts = b.stmts }, xs)

    given : WordDraft → d.IxDraft → d.LocalDraft
    given w a = record { at = w.at; name = w.name; value = a }

    behind_mark : (w : WordDraft) (ws : List Symbol) → then_read (then_read (expression true end room ws) (λ a xs. closed (codes ";") (given w a) xs)) joins ≡ then_read (expression true end room ws) (λ a xs. closed (codes ";") (record { locals = b.locals ++ given w a ∷ []; stmts = b.stmts }) xs)
    behind_mark w ws =
        sym (then_assoc (expression true end room ws) _ joins)
        ∙ (λ i. then_read (expression true end room ws) (λ a xs. past_then (past (this_mark (codes ";")) xs) (λ _ ys. Ok (given w a, ys)) xs joins i))

    behind_name : (w : WordDraft) (vs : List Symbol) → then_read (on_past (past (this_mark (codes "=")) vs) (λ _ ws. then_read (expression true end room ws) (λ a xs. closed (codes ";") (given w a) xs)) (Err (At vs))) joins
        ≡ on_past (past (this_mark (codes "=")) vs) (λ _ ws. then_read (expression true end room ws) (λ a xs. closed (codes ";") (record { locals = b.locals ++ given w a ∷ []; stmts = b.stmts }) xs)) (Err (At vs))
    behind_name w vs =
        past_then (past (this_mark (codes "=")) vs) _ vs joins
        ∙ (λ i. on_past (past (this_mark (codes "=")) vs) (λ _ ws. behind_mark w ws i) (Err (At vs)))

-- behind `const int64_t`
local_is : (end room p : ℕ) (ls : LocalsText true) (us : List Symbol) → length us ≤ end → end - length us ≡ p + length (locals_symbols ls) + 2
    → local_behind end room (record { locals = locals_draft p ls; stmts = no_stmts }) us ≡ mapped (block_of p) (r.local_behind room ls us)
unfolding after
local_is end room p ls us le e =
    let next = p + length (locals_symbols ls) in
    local_as_read end room (record { locals = locals_draft p ls; stmts = no_stmts }) us ∙
    drawn_then any_word (word_draft (end - length us)) _ _ (block_of p) us (λ w vs c.
    let first = past_one any_word us w vs c in
    on_is (this_mark (codes "=")) _ _ (block_of p) vs (λ k ws c.
    let second = past_one (this_mark (codes "=")) vs k ws c in
    let less : length ws ≤ end = omega arith in
    let place : end - length ws ≡ next + 4 = omega arith in
    then_is (expression true end room ws) (r.read_ix true room ws) (ix_draft (end - length ws)) _ _ (block_of p) (expression_is end (r.ix_inside true room) (ix.inside true end room) (ix_inside_rule true room) (inside_is true end room) ws less) (λ a xs q.
    closed_is (codes ";") (record { locals = g.and_local refl ls w a; stmts = g.no_stmts }) _ (block_of p) xs
    (λ i. record { locals = locals_draft p ls ++ record { at = e i; name = w; value = ix_draft (place i) a } ∷ []; stmts = no_stmts }))))

module _ (prelude : Bool) (end room : ℕ) (body : Reader Symbol (StmtsText prelude)) (inner : Reader Symbol (StmtText prelude)) (drawn_body : Reader Symbol StmtsDraft) (drawn_inner : Reader Symbol StmtDraft)
    (body_rule : Rule count_open room 1 0 closed_symbols (λ l. l) body) (inner_rule : Rule count_open room 1 0 g.stmt_symbols (λ l. mark (codes "{") ∷ l) inner)
    (h : Draws end stmts_draft drawn_body body) (k : (us : List Symbol) → length us + 1 ≤ end → drawn_inner us ≡ mapped (stmt_draft (end - length us - 1)) (inner us)) where
  turn_is : (at : ℕ) (first : First) (hs : r.Heads prelude) (ts us : List Symbol) → past first_of ts ≡ Some (first, us) → Placed end at (length (heads_symbols hs)) ts
      → body_turn prelude end room drawn_body first (heads_of at hs) us ≡ mapped (turn_of at) (r.read_body prelude room body first hs us)
  unfolding after give
  turn_is at (a_word w) hs ts us c here =
      let n = at + length (heads_symbols hs) in
      let one = past_one first_of ts (a_word w) us c in
      let le = here.within in
      let e = here.place in
      let less : length us ≤ end = omega arith in
      let before : end - length us - 1 ≡ n = omega arith in
      let place : end - length us ≡ n + 1 = omega arith in
      ap (λ m. worded prelude end room (listed (heads_of at hs)) m w (choose head_words w) us) before
      ∙ worded_is prelude end room at n (Some hs) w (choose head_words w) us refl less place
  turn_is at a_brace hs ts us c here =
      let n = at + length (heads_symbols hs) in
      let one = past_one first_of ts a_brace us c in
      let le = here.within in
      let e = here.place in
      let less : length us ≤ end = omega arith in
      let place : end - length us ≡ n + 1 = omega arith in
      then_is (drawn_body us) (body us) (stmts_draft (end - length us)) _ _ (turn_of at) (h us less) (λ ss vs q.
      let count = ap length (body_rule.sound us ss vs q) in
      let back = length-append (closed_symbols ss) vs in
      let whole = ap length (close_symbols hs (g.braces ss)) in
      let parts = length-append (heads_symbols hs) (body_symbols (g.braces ss)) in
      ap (λ k. closed_behind prelude end room k vs) (ap (λ m. under_one (heads_of at hs).outer (heads_of at hs).inner (stmts_draft m ss)) place ∙ sym (close_is at hs (g.braces ss)))
      ∙ closing_is prelude end room at (r.close hs (g.braces ss)) vs (omega arith) (omega arith))

  turn_keeps : (at : ℕ) (first : First) (hs : r.Heads prelude) (ts us : List Symbol) → past first_of ts ≡ Some (first, us) → Placed end at (length (heads_symbols hs)) ts
      → (b : r.Heads prelude) (vs : List Symbol) → r.read_body prelude room body first hs us ≡ Ok (going b, vs) → Placed end at (length (heads_symbols b)) vs
  turn_keeps at first hs ts us c here b vs q =
      let one = past_one first_of ts first us c in
      let le = here.within in
      let e = here.place in
      let count = ap length ((under_body_rule prelude room body_rule inner_rule first hs).sound us (going b) vs q) in
      let front = length-append (heads_symbols hs) (first_symbol first ∷ us) in
      let back = length-append (heads_symbols b) vs in
      record { within = omega arith; place = omega arith }

  on_heads_is : (at : ℕ) (t : Turn (r.Heads prelude) (r.Ended prelude)) (us : List Symbol) → Placed end at (length (progress_symbols t)) us
      → going_on (under_heads prelude end room drawn_body) (turn_of at t) us ≡ mapped (ended_of at) (r.read_under prelude room body t us)
  unfolding give
  on_heads_is at (going hs) us here =
      until_drawn first_of (r.read_body prelude room body) (body_turn prelude end room drawn_body) (heads_of at) (ended_of at) (λ hs ts. Placed end at (length (heads_symbols hs)) ts) (turn_is at) (turn_keeps at) hs us here
  on_heads_is at (done e) us here = refl

  simple_is : (at : ℕ) (w : Name) (us : List Symbol) → length us ≤ end → end - length us ≡ at + 1 → simple prelude end room drawn_body at w us ≡ mapped (ended_of at) (r.read_simple prelude room body w us)
  unfolding after
  simple_is at w us le e =
      then_is (worded prelude end room [] at w (choose head_words w) us) (r.read_worded prelude room None w (choose head_words w) us) (turn_of at) (r.read_under prelude room body) (going_on (under_heads prelude end room drawn_body)) (ended_of at)
      (worded_is prelude end room at at None w (choose head_words w) us (omega arith) le e) (λ t vs q.
      let count = ap length ((worded_rule prelude room None w (choose head_words w) refl).sound us t vs q) in
      let back = length-append (progress_symbols t) vs in
      on_heads_is at t vs (record { within = omega arith; place = omega arith }))

  pub statement_is : (at : ℕ) (first : First) (ts us : List Symbol) → past first_of ts ≡ Some (first, us) → length ts ≤ end → end - length ts ≡ at
      → statement prelude end room drawn_body drawn_inner first us ≡ mapped (ended_of at) (r.read_stmt prelude room body inner first us)
  unfolding after give
  statement_is at (a_word w) ts us c le e =
      let one = past_one first_of ts (a_word w) us c in
      let less : length us ≤ end = omega arith in
      let before : end - length us - 1 ≡ at = omega arith in
      let place : end - length us ≡ at + 1 = omega arith in
      ap (λ m. simple prelude end room drawn_body m w us) before ∙ simple_is at w us less place
  statement_is at a_brace ts us c le e =
      let one = past_one first_of ts a_brace us c in
      let less : length us + 1 ≤ end = omega arith in
      let before : end - length us - 1 ≡ at = omega arith in
      then_is (drawn_inner us) (inner us) (stmt_draft (end - length us - 1)) _ _ (ended_of at) (k us less) (λ s vs q. ap (λ m. Ok (stmt_draft m s ∷ [], vs)) before)

  stmt_more_is : (p : ℕ) (first : First) (left : StmtsText prelude) (ts us : List Symbol) → past first_of ts ≡ Some (first, us) → Placed end p (length (stmts_symbols left)) ts
      → stmt_more prelude end room drawn_body drawn_inner first (stmts_draft p left) us ≡ mapped (stmts_draft p) (r.stmt_more prelude room body inner first left us)
  unfolding after give
  stmt_more_is p first left ts us c here =
      let n = p + length (stmts_symbols left) in
      then_is (statement prelude end room drawn_body drawn_inner first us) (r.read_stmt prelude room body inner first us) (ended_of n) _ _ (stmts_draft p) (statement_is n first ts us c here.within here.place) (λ e vs q. ap (λ x. Ok (x, vs)) (ended_after p left e))

  stmt_more_keeps : (p : ℕ) (first : First) (left : StmtsText prelude) (ts us : List Symbol) → past first_of ts ≡ Some (first, us) → Placed end p (length (stmts_symbols left)) ts
      → (b : StmtsText prelude) (vs : List Symbol) → r.stmt_more prelude room body inner first left us ≡ Ok (b, vs) → Placed end p (length (stmts_symbols b)) vs
  stmt_more_keeps p first left ts us c here b vs q =
      let one = past_one first_of ts first us c in
      let le = here.within in
      let e = here.place in
      let count = ap length ((stmt_more_rule prelude room body_rule inner_rule first left).sound us b vs q) in
      let front = length-append (stmts_symbols left) (first_symbol first ∷ us) in
      let back = length-append (stmts_symbols b) vs in
      record { within = omega arith; place = omega arith }

  pub all_stmts_is : Draws end stmts_draft (all_more first_of (stmt_more prelude end room drawn_body drawn_inner) no_stmts) (all first_of (r.stmt_more prelude room body inner) g.no_stmts)
  all_stmts_is ts le =
      let p = end - length ts in
      all_is first_of (r.stmt_more prelude room body inner) (stmt_more prelude end room drawn_body drawn_inner) (stmts_draft p) (λ left us. Placed end p (length (stmts_symbols left)) us) (stmt_more_is p) (stmt_more_keeps p) g.no_stmts ts (record { within = le; place = omega arith })

  block_stmt_is : (p : ℕ) (first : First) (ls : LocalsText prelude) (ss : StmtsText prelude) (ts us : List Symbol) → past first_of ts ≡ Some (first, us) → length ts ≤ end → end - length ts ≡ p + length (locals_symbols ls) + length (stmts_symbols ss)
      → block_stmt prelude end room drawn_body drawn_inner first (block_of p (record { locals = ls; stmts = ss })) us ≡ mapped (block_of p) (r.block_stmt prelude room body inner ls ss first us)
  unfolding after give
  block_stmt_is p first ls ss ts us c le e =
      let n = p + length (locals_symbols ls) + length (stmts_symbols ss) in
      then_is (statement prelude end room drawn_body drawn_inner first us) (r.read_stmt prelude room body inner first us) (ended_of n) _ _ (block_of p) (statement_is n first ts us c le e) (λ e vs q. (λ i. Ok (record { locals = locals_draft p ls; stmts = ended_after (p + length (locals_symbols ls)) ss e i }, vs)))

-- ---- Blocks

-- a word in a block of a text with the prelude, before which no statement stands
local_or_stmt : (end room : ℕ) (body : Reader Symbol (StmtsText true)) (inner : Reader Symbol (StmtText true)) (drawn_body : Reader Symbol StmtsDraft) (drawn_inner : Reader Symbol StmtDraft) (p : ℕ) (ls : LocalsText true) (w : Name) (b : Bool) (ts us : List Symbol)
    → past first_of ts ≡ Some (a_word w, us) → length ts ≤ end → end - length ts ≡ p + length (locals_symbols ls) + 0
    → block_stmt true end room drawn_body drawn_inner (a_word w) (block_of p (record { locals = ls; stmts = g.no_stmts })) us ≡ mapped (block_of p) (r.block_stmt true room body inner ls g.no_stmts (a_word w) us)
    → (if b then on_past (past (this_word (codes "int64_t")) us) (λ _ vs. local_behind end room (block_of p (record { locals = ls; stmts = g.no_stmts })) vs) (block_stmt true end room drawn_body drawn_inner (a_word w) (block_of p (record { locals = ls; stmts = g.no_stmts })) us)
    else block_stmt true end room drawn_body drawn_inner (a_word w) (block_of p (record { locals = ls; stmts = g.no_stmts })) us)
    ≡ mapped (block_of p) (r.block_word true room body inner ls g.no_stmts w b us)
local_or_stmt end room body inner drawn_body drawn_inner p ls w false ts us c le e other = other
local_or_stmt end room body inner drawn_body drawn_inner p ls w true ts us c le e other =
    let one = past_one first_of ts (a_word w) us c in
    either_mapped (this_word (codes "int64_t")) (λ _. r.local_behind room ls) _ (λ _ vs. local_behind end room (block_of p (record { locals = ls; stmts = g.no_stmts })) vs) _ (block_of p) us
    (λ k vs o.
    let two = past_one (this_word (codes "int64_t")) us k vs o in
    local_is end room p ls vs (omega arith) (omega arith))
    other

block_word_is : (prelude : Bool) (end room : ℕ) (body : Reader Symbol (StmtsText prelude)) (inner : Reader Symbol (StmtText prelude)) (drawn_body : Reader Symbol StmtsDraft) (drawn_inner : Reader Symbol StmtDraft) (p : ℕ) (ls : LocalsText prelude) (ss : StmtsText prelude) (w : Name) (ts us : List Symbol)
    → past first_of ts ≡ Some (a_word w, us) → length ts ≤ end → end - length ts ≡ p + length (locals_symbols ls) + length (stmts_symbols ss)
    → block_stmt prelude end room drawn_body drawn_inner (a_word w) (block_of p (record { locals = ls; stmts = ss })) us ≡ mapped (block_of p) (r.block_stmt prelude room body inner ls ss (a_word w) us)
    → block_more prelude end room drawn_body drawn_inner (a_word w) (block_of p (record { locals = ls; stmts = ss })) us ≡ mapped (block_of p) (r.block_word prelude room body inner ls ss w (same w (codes "const")) us)
block_word_is false end room body inner drawn_body drawn_inner p ls ss w ts us c le e other = other
block_word_is true end room body inner drawn_body drawn_inner p ls g.no_stmts w ts us c le e other = local_or_stmt end room body inner drawn_body drawn_inner p ls w (same w (codes "const")) ts us c le e other
block_word_is true end room body inner drawn_body drawn_inner p ls (g.and_stmt ss s) w ts us c le e other = other

module _ (prelude : Bool) (end room : ℕ) (body : Reader Symbol (StmtsText prelude)) (inner : Reader Symbol (StmtText prelude)) (drawn_body : Reader Symbol StmtsDraft) (drawn_inner : Reader Symbol StmtDraft)
    (body_rule : Rule count_open room 1 0 closed_symbols (λ l. l) body) (inner_rule : Rule count_open room 1 0 g.stmt_symbols (λ l. mark (codes "{") ∷ l) inner)
    (h : Draws end stmts_draft drawn_body body) (k : (us : List Symbol) → length us + 1 ≤ end → drawn_inner us ≡ mapped (stmt_draft (end - length us - 1)) (inner us)) where
  block_more_is : (p : ℕ) (first : First) (left : r.Block prelude) (ts us : List Symbol) → past first_of ts ≡ Some (first, us) → Placed end p (length (block_symbols left)) ts
      → block_more prelude end room drawn_body drawn_inner first (block_of p left) us ≡ mapped (block_of p) (r.block_more prelude room body inner first left us)
  block_more_is p (a_word w) left ts us c here =
      let count = length-append (locals_symbols left.locals) (stmts_symbols left.stmts) in
      let e = here.place in
      let place : end - length ts ≡ p + length (locals_symbols left.locals) + length (stmts_symbols left.stmts) = omega arith in
      block_word_is prelude end room body inner drawn_body drawn_inner p left.locals left.stmts w ts us c here.within place
      (block_stmt_is prelude end room body inner drawn_body drawn_inner body_rule inner_rule h k p (a_word w) left.locals left.stmts ts us c here.within place)
  block_more_is p a_brace left ts us c here =
      let count = length-append (locals_symbols left.locals) (stmts_symbols left.stmts) in
      let e = here.place in
      let place : end - length ts ≡ p + length (locals_symbols left.locals) + length (stmts_symbols left.stmts) = omega arith in
      let b = block_of p left in
      let other = block_stmt prelude end room drawn_body drawn_inner a_brace b us in
      ap (λ t. if t then on_past (past (this_word (codes "int64_t")) us) (λ _ vs. local_behind end room b vs) other else other) (never prelude (is_none b.stmts))
      ∙ block_stmt_is prelude end room body inner drawn_body drawn_inner body_rule inner_rule h k p a_brace left.locals left.stmts ts us c here.within place

  block_more_keeps : (p : ℕ) (first : First) (left : r.Block prelude) (ts us : List Symbol) → past first_of ts ≡ Some (first, us) → Placed end p (length (block_symbols left)) ts
      → (b : r.Block prelude) (vs : List Symbol) → r.block_more prelude room body inner first left us ≡ Ok (b, vs) → Placed end p (length (block_symbols b)) vs
  block_more_keeps p first left ts us c here b vs q =
      let one = past_one first_of ts first us c in
      let le = here.within in
      let e = here.place in
      let count = ap length ((block_more_rule prelude room body_rule inner_rule first left).sound us b vs q) in
      let front = length-append (block_symbols left) (first_symbol first ∷ us) in
      let back = length-append (block_symbols b) vs in
      record { within = omega arith; place = omega arith }

  pub all_items_is : Draws end block_of (all_more first_of (block_more prelude end room drawn_body drawn_inner) no_items) (all first_of (r.block_more prelude room body inner) (record { locals = g.no_locals; stmts = g.no_stmts }))
  all_items_is ts le =
      let p = end - length ts in
      all_is first_of (r.block_more prelude room body inner) (block_more prelude end room drawn_body drawn_inner) (block_of p) (λ left us. Placed end p (length (block_symbols left)) us) (block_more_is p) (block_more_keeps p) (record { locals = g.no_locals; stmts = g.no_stmts }) ts (record { within = le; place = omega arith })

mutual
  unfolding stmts_inside grammar_stmts after deep

  pub stmts_inside_is : (prelude : Bool) (end room : ℕ) → Draws end stmts_draft (stmts_inside prelude end room) (grammar_stmts prelude room)
  stmts_inside_is prelude end zero ts le = refl
  stmts_inside_is prelude end (suc room) ts le =
      let at = end - length ts in
      let body = grammar_stmts prelude room in
      let inner = grammar_block prelude room in
      then_is (all_more first_of (stmt_more prelude end room (stmts_inside prelude end room) (block_inside prelude end room)) no_stmts ts) (all first_of (r.stmt_more prelude room body inner) g.no_stmts ts) (stmts_draft at) _ _ (stmts_draft at)
      (all_stmts_is prelude end room body inner (stmts_inside prelude end room) (block_inside prelude end room) (stmts_inside_rule prelude room) (block_inside_rule prelude room) (stmts_inside_is prelude end room) (block_inside_is prelude end room) ts le)
      (λ ss us q. closed_is (codes "}") ss _ (stmts_draft at) us refl)

  pub block_inside_is : (prelude : Bool) (end room : ℕ) (us : List Symbol) → length us + 1 ≤ end → block_inside prelude end room us ≡ mapped (stmt_draft (end - length us - 1)) (grammar_block prelude room us)
  block_inside_is prelude end zero us le = refl
  block_inside_is prelude end (suc room) us le =
      let at = end - length us - 1 in
      let body = grammar_stmts prelude room in
      let inner = grammar_block prelude room in
      let place : end - length us ≡ at + 1 = omega arith in
      then_is (all_more first_of (block_more prelude end room (stmts_inside prelude end room) (block_inside prelude end room)) no_items us) (all first_of (r.block_more prelude room body inner) (record { locals = g.no_locals; stmts = g.no_stmts }) us) (block_of (end - length us)) _ _ (stmt_draft at)
      (all_items_is prelude end room body inner (stmts_inside prelude end room) (block_inside prelude end room) (stmts_inside_rule prelude room) (block_inside_rule prelude room) (stmts_inside_is prelude end room) (block_inside_is prelude end room) us (omega arith))
      (λ b vs q. closed_is (codes "}") (g.block b.locals b.stmts) _ (stmt_draft at) vs (λ i. d.block (block_of (place i) b).locals (block_of (place i) b).stmts))
