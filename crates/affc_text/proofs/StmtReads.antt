-- The readers of statements leave no more tokens than they were given, and reading until the whole is read, as the code goes on.
use Rattle.std.proofs.Common.{◌≡◌, nat_eq, ℕ, zero, suc, ◌-◌, Bool, true, false, codes, ◌≤◌, ◌<◌, List, [], ◌∷◌, ◌++◌, length, drop, map, Option, Some, None, Ok, Err, if◌then◌else◌, refl, sym, ap, ◌∙◌, arith}
use Rattle.std.proofs.Math.Dec.{eqb-suc-zero}
use Rattle.std.proofs.lemmas.List.{map-append}
use Rattle.affc_grammar.specs.Grammar.{Symbol, Name}
use Rattle.affc_grammar.specs.Draft as d
use Rattle.affc_grammar.specs.Draft.{IxDraft, CondDraft, WordDraft, word_draft, bound_rel}
use Rattle.affc_grammar.specs.Reader.{Stop, At, Deep, Reader, then_read, Turn, going, done}
use Rattle.affc_grammar.specs.Reading.{this_mark, this_word, any_word, one, bound_of, assign_of, choose, head_words, First, a_word, a_brace, first_of}
use Rattle.affc_grammar.proofs.Closed.{then_same}
use Rattle.affc_syntax.specs.declared.draft.draft.StmtDraft.{StmtDraft}
use Rattle.affc_syntax.specs.declared.draft.symbol.Symbol as code
use Rattle.affc_syntax.specs.draft.Symbols.{seen}
use Rattle.affc_syntax.specs.draft.Drafts.{stmt, stmts_after, stmts_of}
use Rattle.affc_syntax.specs.declared.ahead.Stop as stop
use Rattle.affc_syntax.specs.declared.ahead.Stop.TheVariants as s
use Rattle.affc_syntax.specs.Ahead.{past, with_rest}
use Rattle.affc_syntax.specs.Readers.{on_past, Fails}
use Rattle.affc_syntax.specs.IxReading as ix
use Rattle.affc_syntax.specs.CondReading as condition
use Rattle.affc_syntax.specs.ValueReading.{value}
use Rattle.affc_syntax.proofs.Readers.{Left, Shrinks, left_give, left_fail, left_then, on_test, past_shorter, loop_on, loop_end, loop_stop, all_left, closed_left, less_left}
use Rattle.affc_syntax.proofs.IxReads.{inside_left, expression_left, dims_left}
use Rattle.affc_syntax.proofs.CondReads.{whole_left as condition_left}
use Rattle.affc_syntax.proofs.ValueReads.{value_left}
use Rattle.affc_text.specs.declared.statement.Head as code_head
use Rattle.affc_text.specs.Parts.{Head, for_head, if_head, else_head, Heads, Closing, closed, waiting, Block, no_items, head_seen, with_head, alone, covered, listed, over, over_closed, close, under_one, stmts}
use Rattle.affc_text.specs.StmtReading.{cond_inside, expression, compared, assignment, named, stepped, step, step_closed, tested, for_behind, if_behind, head_behind, assigned, is_assigned, else_behind, closed_behind, assigned_under, worded, body_turn, going_on, tries_more, until_done, under_heads, simple, statement, stmt_more, is_none, local, local_behind, block_stmt, may_be_local, block_more, stmts_inside, block_inside, stmts as read_stmts, items}

-- ---- Lists of statements and of heads

after_pushed : (ss : d.StmtsDraft) (xs : List d.StmtDraft) (x : d.StmtDraft) → stmts_after ss (xs ++ x ∷ []) ≡ d.and_stmt (stmts_after ss xs) x
after_pushed ss [] x = refl
after_pushed ss (y ∷ ys) x = after_pushed (d.and_stmt ss y) ys x

pub stmts_pushed : (xs : List StmtDraft) (x : StmtDraft) → stmts_of (map stmt (xs ++ x ∷ [])) ≡ d.and_stmt (stmts_of (map stmt xs)) (stmt x)
stmts_pushed xs x = ap stmts_of (map-append stmt xs (x ∷ [])) ∙ after_pushed d.no_stmts (map stmt xs) (stmt x)

after-append : (ss : d.StmtsDraft) (xs ys : List d.StmtDraft) → stmts_after ss (xs ++ ys) ≡ stmts_after (stmts_after ss xs) ys
after-append ss [] ys = refl
after-append ss (x ∷ xs) ys = after-append (d.and_stmt ss x) xs ys

pub stmts_appended : (xs ys : List StmtDraft) → stmts_of (map stmt (xs ++ ys)) ≡ stmts_after (stmts_of (map stmt xs)) (map stmt ys)
stmts_appended xs ys = ap stmts_of (map-append stmt xs ys) ∙ after-append d.no_stmts (map stmt xs) (map stmt ys)

some_after : (ss : d.StmtsDraft) (x : d.StmtDraft) (xs : List d.StmtDraft) → is_none (stmts_after (d.and_stmt ss x) xs) ≡ false
some_after ss x [] = refl
some_after ss x (y ∷ ys) = some_after (d.and_stmt ss x) y ys

pub is_none_is : (xs : List StmtDraft) → nat_eq (length xs) 0 ≡ is_none (stmts xs)
is_none_is [] = refl
is_none_is (x ∷ xs) = eqb-suc-zero (length xs) ∙ sym (some_after d.no_stmts (stmt x) (map stmt xs))

pub covered_last : (hs : List Head) (h : Head) (s : d.StmtDraft) → covered (hs ++ h ∷ []) s ≡ covered hs (with_head h (alone s))
covered_last [] h s = refl
covered_last (k ∷ hs) h s = ap (λ t. with_head k (alone t)) (covered_last hs h s)

first_under : (h : Head) (s : d.StmtDraft) → over_closed h s ≡ under_one [] h (alone s)
first_under (for_head k) s = refl
first_under (if_head at c) s = refl
first_under (else_head at c body) s = refl

over_under : (k : Head) (hs : List Head) (h : Head) (body : d.StmtsDraft) → over k (under_one hs h body) ≡ under_one (k ∷ hs) h body
over_under k hs (for_head g) body = refl
over_under k hs (if_head at c) body = refl
over_under k hs (else_head at c first) body = refl

pub close_last : (hs : List Head) (h : Head) (s : d.StmtDraft) → close (hs ++ h ∷ []) s ≡ under_one hs h (alone s)
close_last [] h s = first_under h s
close_last (k ∷ hs) h s = ap (over k) (close_last hs h s) ∙ over_under k hs h (alone s)

-- the heads before the last, and the last over what is read
pub close_on : (heads left : List code_head.Head) (h k : code_head.Head) (s : StmtDraft) (body : d.StmtsDraft) → heads ≡ left ++ h ∷ [] → h ≡ k → body ≡ alone (stmt s) → under_one (map head_seen left) (head_seen k) body ≡ close (map head_seen heads) (stmt s)
close_on heads left h k s body e q b =
    (λ i. under_one (map head_seen left) (head_seen (sym q i)) (b i))
    ∙ sym (close_last (map head_seen left) (head_seen h) (stmt s))
    ∙ ap (λ l. close l (stmt s)) (sym (map-append head_seen left (h ∷ [])) ∙ ap (map head_seen) (sym e))

abbrev pub behind : List Head → Head → Heads
behind hs h = record { outer = hs; inner = h }

pub ruleset parts = (map-append, stmts_pushed, stmts_appended)

pub ruleset nones = (is_none_is)

-- ---- Until the whole is read

module _ {A C K : Type 0} (test : Symbol → Option K) (turn : K → A → Reader Symbol (Turn A C)) (h : (k : K) (left : A) → Shrinks (turn k left)) where
  same_try : (m n : ℕ) (ts : List Symbol) → ((a : A) (us : List Symbol) → length us ≤ length ts → tries_more test turn m a us ≡ tries_more test turn n a us) → (r : Turn A C) (us : List Symbol) → length us ≤ length ts → going_on (tries_more test turn m) r us ≡ going_on (tries_more test turn n) r us
  same_try m n ts e (going a) us few = e a us few
  same_try m n ts e (done c) us few = refl

  try_turn : (m n : ℕ) (left : A) (x : Symbol) (ts : List Symbol) → ((a : A) (us : List Symbol) → length us ≤ length ts → tries_more test turn m a us ≡ tries_more test turn n a us) → (o : Option K)
      → on_past (with_rest ts o) (λ k us. then_read (turn k left us) (going_on (tries_more test turn m))) (Err (At (x ∷ ts))) ≡ on_past (with_rest ts o) (λ k us. then_read (turn k left us) (going_on (tries_more test turn n))) (Err (At (x ∷ ts)))
  try_turn m n left x ts e None = refl
  try_turn m n left x ts e (Some k) = then_same (turn k left ts) _ _ (λ r us q. same_try m n ts e r us (h k left ts r us q))

  tries_enough : (m n : ℕ) (left : A) (ts : List Symbol) → length ts ≤ m → length ts ≤ n → tries_more test turn m left ts ≡ tries_more test turn n left ts
  tries_enough zero zero left ts p q = refl
  tries_enough zero (suc n) left [] p q = refl
  tries_enough zero (suc n) left (x ∷ ts) p q = absurd (omega arith)
  tries_enough (suc m) zero left [] p q = refl
  tries_enough (suc m) zero left (x ∷ ts) p q = absurd (omega arith)
  tries_enough (suc m) (suc n) left [] p q = refl
  tries_enough (suc m) (suc n) left (x ∷ ts) p q = try_turn m n left x ts (λ a us few. tries_enough m n a us (omega arith) (omega arith)) (test x)

  pub until_is : (left : A) (ts : List Symbol) → until_done test turn left ts ≡ on_past (past test ts) (λ k us. then_read (turn k left us) (going_on (until_done test turn))) (Err (At ts))
  unfolding until_done
  until_is left [] = refl
  until_is left (x ∷ ts) = first_turn (test x)
    where
      on_turn : (r : Turn A C) (us : List Symbol) → length us ≤ length ts → going_on (tries_more test turn (length ts)) r us ≡ going_on (λ a vs. tries_more test turn (length vs) a vs) r us
      on_turn (going a) us few = tries_enough (length ts) (length us) a us few (omega arith)
      on_turn (done c) us few = refl

      first_turn : (o : Option K) → on_past (with_rest ts o) (λ k us. then_read (turn k left us) (going_on (tries_more test turn (length ts)))) (Err (At (x ∷ ts))) ≡ on_past (with_rest ts o) (λ k us. then_read (turn k left us) (going_on (λ a vs. tries_more test turn (length vs) a vs))) (Err (At (x ∷ ts)))
      first_turn None = refl
      first_turn (Some k) = then_same (turn k left ts) _ _ (λ r us q. on_turn r us (h k left ts r us q))

  until_turn : (left : A) (ts : List Symbol) (k : K) (us : List Symbol) → past test ts ≡ Some (k, us) → until_done test turn left ts ≡ then_read (turn k left us) (going_on (until_done test turn))
  until_turn left ts k us e = until_is left ts ∙ ap (λ o. on_past o (λ k us. then_read (turn k left us) (going_on (until_done test turn))) (Err (At ts))) e

  pub until_on : (left : A) (ts : List Symbol) (k : K) (us : List Symbol) (b : A) (rest : List Symbol) → past test ts ≡ Some (k, us) → turn k left us ≡ Ok (going b, rest) → until_done test turn left ts ≡ until_done test turn b rest
  until_on left ts k us b rest e q = until_turn left ts k us e ∙ ap (λ r. then_read r (going_on (until_done test turn))) q

  pub until_whole : (left : A) (ts : List Symbol) (k : K) (us : List Symbol) (c : C) (rest : List Symbol) → past test ts ≡ Some (k, us) → turn k left us ≡ Ok (done c, rest) → until_done test turn left ts ≡ Ok (c, rest)
  until_whole left ts k us c rest e q = until_turn left ts k us e ∙ ap (λ r. then_read r (going_on (until_done test turn))) q

  pub until_end : (left : A) (ts : List Symbol) → past test ts ≡ None → until_done test turn left ts ≡ Err (At ts)
  until_end left ts e = until_is left ts ∙ ap (λ o. on_past o (λ k us. then_read (turn k left us) (going_on (until_done test turn))) (Err (At ts))) e

  until_err : (left : A) (ts : List Symbol) (k : K) (us : List Symbol) (x : Stop Symbol) → past test ts ≡ Some (k, us) → turn k left us ≡ Err x → until_done test turn left ts ≡ Err x
  until_err left ts k us x e q = until_turn left ts k us e ∙ ap (λ r. then_read r (going_on (until_done test turn))) q ∙ err x
    where
      err : (x : Stop Symbol) → then_read (Err x) (going_on (until_done test turn)) ≡ Err x
      err (At ts) = refl
      err Deep = refl

  pub until_stop : (ss : List Symbol) (left : A) (ts : List Symbol) (k : K) (us : List Symbol) (f : stop.Stop) → past test ts ≡ Some (k, us) → Fails ss f (turn k left us) → Fails ss f (until_done test turn left ts)
  until_stop ss left ts k us s.Memory e q = tt
  until_stop ss left ts k us s.Deep e q = until_err left ts k us Deep e q
  until_stop ss left ts k us (s.At rest) e q = until_err left ts k us _ e q

  behind_turn : (n : ℕ) → ((a : A) → Shrinks (tries_more test turn n a)) → (r : Turn A C) → Shrinks (going_on (tries_more test turn n) r)
  behind_turn n again (going a) = again a
  behind_turn n again (done c) = λ us. left_give c us (length us) (omega arith)

  tries_left : (n : ℕ) (left : A) → Shrinks (tries_more test turn n left)
  tries_left zero left ts = left_fail (At ts) (length ts)
  tries_left (suc n) left ts = on_test test (λ k us. then_read (turn k left us) (going_on (tries_more test turn n))) (Err (At ts)) ts (λ k us. left_then (turn k left us) (going_on (tries_more test turn n)) (length us) (h k left us) (behind_turn n (tries_left n))) (left_fail (At ts) (length ts))

  pub until_left : (left : A) → Shrinks (until_done test turn left)
  unfolding until_done
  until_left left ts = tries_left (length ts) left ts

-- ---- Each reader of statements

pub named_left : (end : ℕ) → Shrinks (named end)
named_left end ts = on_test any_word _ _ ts (λ w us. left_give (word_draft (end - length ts) w) us (length us) (omega arith)) (left_fail (At ts) (length ts))

stepped_left : (w : WordDraft) → Shrinks (stepped w)
stepped_left w ts =
    on_test (this_mark (codes "++")) _ _ ts (λ _ us. left_give w us (length us) (omega arith))
    (on_test (this_mark (codes "+=")) _ _ ts (λ _ us. on_test one _ _ us (λ _ vs. left_give w vs (length vs) (omega arith)) (left_fail (At us) (length us))) (left_fail (At ts) (length ts)))

pub step_left : (end : ℕ) → Shrinks (step end)
step_left end ts = on_test (this_mark (codes "++")) _ _ ts (λ _ us. named_left end us) (left_then (named end ts) stepped (length ts) (named_left end ts) stepped_left)

step_closed_left : (end : ℕ) → Shrinks (step_closed end)
step_closed_left end ts = on_test (this_mark (codes ";")) _ (Err (At ts)) ts (λ _ us. left_then (step end us) _ (length us) (step_left end us) (λ s. closed_left (codes ")") s)) (left_fail (At ts) (length ts))

compared_left : Shrinks compared
compared_left ts = on_test bound_of _ _ ts (λ strict us. left_give (bound_rel strict) us (length us) (omega arith)) (left_fail (At ts) (length ts))

assignment_left : Shrinks assignment
assignment_left ts = on_test assign_of _ _ ts (λ op us. left_give op us (length us) (omega arith)) (left_fail (At ts) (length ts))

local_left : (end room : ℕ) → Shrinks (local end room)
local_left end room ts =
    left_then (named end ts) _ (length ts) (named_left end ts) (λ w us.
    on_test (this_mark (codes "=")) _ (Err (At us)) us (λ _ vs.
    left_then (expression true end room vs) _ (length vs) (expression_left true end (ix.inside true end room) (inside_left true end room) vs) (λ a. closed_left (codes ";") _))
    (left_fail (At us) (length us)))

cond_inside_left : (prelude : Bool) (end room : ℕ) → Shrinks (cond_inside prelude end room)
unfolding cond_inside
cond_inside_left prelude end zero ts = left_fail Deep (length ts)
cond_inside_left prelude end (suc room) ts = condition_left prelude true end room ts

module _ (prelude : Bool) (end room : ℕ) where
  pub whole_left : Shrinks (expression prelude end room)
  whole_left = expression_left prelude end (ix.inside prelude end room) (inside_left prelude end room)

  tested_left : (at : ℕ) (w : WordDraft) (low : IxDraft) → Shrinks (tested prelude end room at w low)
  tested_left at w low ts =
      left_then (named end ts) _ (length ts) (named_left end ts) (λ v us.
      left_then (compared us) _ (length us) (compared_left us) (λ rel vs.
      left_then (ix.inside prelude end room vs) _ (length vs) (inside_left prelude end room vs) (λ high ws.
      left_then (step_closed end ws) _ (length ws) (step_closed_left end ws) (λ n xs. left_give (for_head (record { at = at; iterator = w; low = low; tested = v; rel = rel; high = high; stepped = n })) xs (length xs) (omega arith)))))

  for_left : (at : ℕ) → Shrinks (for_behind prelude end room at)
  for_left at ts =
      on_test (this_word (codes "int64_t")) _ (Err (At ts)) ts (λ _ us.
      left_then (named end us) _ (length us) (named_left end us) (λ w vs.
      on_test (this_mark (codes "=")) _ (Err (At vs)) vs (λ _ ws.
      left_then (ix.inside prelude end room ws) _ (length ws) (inside_left prelude end room ws) (λ low xs.
      on_test (this_mark (codes ";")) _ (Err (At xs)) xs (λ _ ys. tested_left at w low ys) (left_fail (At xs) (length xs))))
      (left_fail (At vs) (length vs))))
      (left_fail (At ts) (length ts))

  if_left : (at : ℕ) → Shrinks (if_behind prelude end room at)
  if_left at ts = left_then (cond_inside prelude end room ts) _ (length ts) (cond_inside_left prelude end room ts) (λ c. closed_left (codes ")") (if_head at c))

  head_left : (at : ℕ) (is_for : Bool) → Shrinks (head_behind prelude end room at is_for)
  head_left at true ts = for_left at ts
  head_left at false ts = if_left at ts

  assigned_left : (at : ℕ) (w : Name) → Shrinks (assigned prelude end room at w)
  assigned_left at w ts =
      left_then (ix.dims prelude end room ts) _ (length ts) (dims_left prelude end room ts) (λ subs us.
      left_then (assignment us) _ (length us) (assignment_left us) (λ op vs.
      left_then (value prelude end room vs) _ (length vs) (value_left prelude end room vs) (λ v. closed_left (codes ";") (d.assign (word_draft at w) subs op v))))

  else_left : (hs : List Head) (at : ℕ) (c : CondDraft) (body : d.StmtsDraft) → Shrinks (else_behind prelude end room hs at c body)
  else_left hs at c body ts = of_test (is_assigned ts)
    where
      of_test : (t : Bool) → Left (if t then then_read (assigned prelude end room (end - length ts - 1) (codes "else") ts) (λ t us. Ok (done (covered hs (d.if_cond at c body d.no_stmts) ∷ t ∷ []), us)) else Ok (going (behind hs (else_head at c body)), ts)) (length ts)
      of_test true = left_then (assigned prelude end room (end - length ts - 1) (codes "else") ts) _ (length ts) (assigned_left (end - length ts - 1) (codes "else") ts) (λ t us. left_give (done (covered hs (d.if_cond at c body d.no_stmts) ∷ t ∷ [])) us (length us) (omega arith))
      of_test false = left_give (going (behind hs (else_head at c body))) ts (length ts) (omega arith)

  closed_behind_left : (k : Closing) → Shrinks (closed_behind prelude end room k)
  closed_behind_left (closed s) ts = left_give (done (s ∷ [])) ts (length ts) (omega arith)
  closed_behind_left (waiting hs at c body) ts =
      on_test (this_word (codes "else")) _ _ ts (λ _ us. else_left hs at c body us) (left_give (done (covered hs (d.if_cond at c body d.no_stmts) ∷ [])) ts (length ts) (omega arith))

  assigned_under_left : (hs : List Head) (at : ℕ) (w : Name) → Shrinks (assigned_under prelude end room hs at w)
  assigned_under_left hs at w ts = left_then (assigned prelude end room at w ts) _ (length ts) (assigned_left at w ts) (λ s us. closed_behind_left (close hs s) us)

  worded_left : (hs : List Head) (at : ℕ) (w : Name) (o : Option Bool) → Shrinks (worded prelude end room hs at w o)
  worded_left hs at w None ts = assigned_under_left hs at w ts
  worded_left hs at w (Some is_for) ts =
      on_test (this_mark (codes "(")) _ _ ts (λ _ us. left_then (head_behind prelude end room at is_for us) _ (length us) (head_left at is_for us) (λ h vs. left_give (going (behind hs h)) vs (length vs) (omega arith)))
      (assigned_under_left hs at w ts)

  module _ (body : Reader Symbol d.StmtsDraft) (inner : Reader Symbol d.StmtDraft) (h : Shrinks body) (k : Shrinks inner) where
    pub body_turn_left : (first : First) (hs : Heads) → Shrinks (body_turn prelude end room body first hs)
    body_turn_left (a_word w) hs us = worded_left (listed hs) (end - length us - 1) w (choose head_words w) us
    body_turn_left a_brace hs us = left_then (body us) _ (length us) (h us) (λ ss vs. closed_behind_left (under_one hs.outer hs.inner ss) vs)

    on_heads : (r : Turn Heads (List d.StmtDraft)) → Shrinks (going_on (under_heads prelude end room body) r)
    on_heads (going hs) = until_left first_of (body_turn prelude end room body) body_turn_left hs
    on_heads (done c) = λ us. left_give c us (length us) (omega arith)

    simple_left : (at : ℕ) (w : Name) → Shrinks (simple prelude end room body at w)
    simple_left at w ts = left_then (worded prelude end room [] at w (choose head_words w) ts) _ (length ts) (worded_left [] at w (choose head_words w) ts) on_heads

    pub statement_left : (first : First) → Shrinks (statement prelude end room body inner first)
    statement_left (a_word w) us = simple_left (end - length us - 1) w us
    statement_left a_brace us = left_then (inner us) _ (length us) (k us) (λ s vs. left_give (s ∷ []) vs (length vs) (omega arith))

    pub stmt_more_left : (first : First) (ss : d.StmtsDraft) → Shrinks (stmt_more prelude end room body inner first ss)
    stmt_more_left first ss us = left_then (statement prelude end room body inner first us) _ (length us) (statement_left first us) (λ read vs. left_give (stmts_after ss read) vs (length vs) (omega arith))

    block_stmt_left : (first : First) (b : Block) → Shrinks (block_stmt prelude end room body inner first b)
    block_stmt_left first b us = left_then (statement prelude end room body inner first us) _ (length us) (statement_left first us) (λ read vs. left_give (record { locals = b.locals; stmts = stmts_after b.stmts read }) vs (length vs) (omega arith))

    pub block_more_left : (first : First) (b : Block) → Shrinks (block_more prelude end room body inner first b)
    block_more_left first b us = of_test (may_be_local prelude first b.stmts)
      where
        behind_left : Shrinks (local_behind end room b)
        behind_left ts = left_then (local end room ts) _ (length ts) (local_left end room ts) (λ l vs. left_give (record { locals = b.locals ++ l ∷ []; stmts = b.stmts }) vs (length vs) (omega arith))

        of_test : (t : Bool) → Left (if t then on_past (past (this_word (codes "int64_t")) us) (λ _ vs. local_behind end room b vs) (block_stmt prelude end room body inner first b us) else block_stmt prelude end room body inner first b us) (length us)
        of_test true = on_test (this_word (codes "int64_t")) _ _ us (λ _ vs. behind_left vs) (block_stmt_left first b us)
        of_test false = block_stmt_left first b us

mutual
  unfolding stmts_inside

  pub stmts_inside_left : (prelude : Bool) (end room : ℕ) → Shrinks (stmts_inside prelude end room)
  stmts_inside_left prelude end zero ts = left_fail Deep (length ts)
  stmts_inside_left prelude end (suc room) ts =
      left_then _ _ (length ts)
      (all_left first_of (stmt_more prelude end room (stmts_inside prelude end room) (block_inside prelude end room)) (stmt_more_left prelude end room (stmts_inside prelude end room) (block_inside prelude end room) (stmts_inside_left prelude end room) (block_inside_left prelude end room)) d.no_stmts ts)
      (λ ss. closed_left (codes "}") ss)

  pub block_inside_left : (prelude : Bool) (end room : ℕ) → Shrinks (block_inside prelude end room)
  block_inside_left prelude end zero ts = left_fail Deep (length ts)
  block_inside_left prelude end (suc room) ts =
      left_then _ _ (length ts)
      (all_left first_of (block_more prelude end room (stmts_inside prelude end room) (block_inside prelude end room)) (block_more_left prelude end room (stmts_inside prelude end room) (block_inside prelude end room) (stmts_inside_left prelude end room) (block_inside_left prelude end room)) no_items ts)
      (λ b. closed_left (codes "}") (d.block b.locals b.stmts))

-- ---- The loops, as the code runs them

module _ (prelude : Bool) (room : ℕ) (symbols : List code.Symbol) (n b : ℕ) (first : First) (e : past first_of (drop n (map seen symbols)) ≡ Some (first, drop b (map seen symbols))) where
  abbrev text_end : ℕ
  text_end = length symbols

  abbrev body : Reader Symbol d.StmtsDraft
  body = stmts_inside prelude text_end room

  abbrev inner : Reader Symbol d.StmtDraft
  inner = block_inside prelude text_end room

  turn_shrinks : (k : First) (hs : Heads) → Shrinks (body_turn prelude text_end room body k hs)
  turn_shrinks = body_turn_left prelude text_end room body inner (stmts_inside_left prelude text_end room) (block_inside_left prelude text_end room)

  more_shrinks : (k : First) (ss : d.StmtsDraft) → Shrinks (stmt_more prelude text_end room body inner k ss)
  more_shrinks = stmt_more_left prelude text_end room body inner (stmts_inside_left prelude text_end room) (block_inside_left prelude text_end room)

  block_shrinks : (k : First) (bl : Block) → Shrinks (block_more prelude text_end room body inner k bl)
  block_shrinks = block_more_left prelude text_end room body inner (stmts_inside_left prelude text_end room) (block_inside_left prelude text_end room)

  pub heads_err : (hs : Heads) (f : stop.Stop) → Fails (map seen symbols) f (body_turn prelude text_end room body first hs (drop b (map seen symbols))) → Fails (map seen symbols) f (under_heads prelude text_end room body hs (drop n (map seen symbols)))
  heads_err hs f q = until_stop first_of (body_turn prelude text_end room body) turn_shrinks (map seen symbols) hs _ first _ f e q

  pub heads_on : (hs x : Heads) (r : ℕ) → body_turn prelude text_end room body first hs (drop b (map seen symbols)) ≡ Ok (going x, drop r (map seen symbols)) → under_heads prelude text_end room body hs (drop n (map seen symbols)) ≡ under_heads prelude text_end room body x (drop r (map seen symbols))
  heads_on hs x r q = until_on first_of (body_turn prelude text_end room body) turn_shrinks hs _ first _ x _ e q

  pub heads_done : (hs : Heads) (c : List d.StmtDraft) (r : ℕ) → body_turn prelude text_end room body first hs (drop b (map seen symbols)) ≡ Ok (done c, drop r (map seen symbols)) → under_heads prelude text_end room body hs (drop n (map seen symbols)) ≡ Ok (c, drop r (map seen symbols))
  heads_done hs c r q = until_whole first_of (body_turn prelude text_end room body) turn_shrinks hs _ first _ c _ e q

  pub heads_less : (hs x : Heads) (r : ℕ) → body_turn prelude text_end room body first hs (drop b (map seen symbols)) ≡ Ok (going x, drop r (map seen symbols)) → length symbols - r < length symbols - n
  heads_less hs x r q = less_left symbols n b r (past_shorter first_of _ first _ e) (turn_shrinks first hs _ (going x) _ q)

  pub stmts_err : (left : d.StmtsDraft) (f : stop.Stop) → Fails (map seen symbols) f (stmt_more prelude text_end room body inner first left (drop b (map seen symbols))) → Fails (map seen symbols) f (read_stmts prelude text_end room left (drop n (map seen symbols)))
  stmts_err left f q = loop_stop first_of (stmt_more prelude text_end room body inner) more_shrinks (map seen symbols) left _ first _ f e q

  pub stmts_on : (left x : d.StmtsDraft) (r : ℕ) → stmt_more prelude text_end room body inner first left (drop b (map seen symbols)) ≡ Ok (x, drop r (map seen symbols)) → read_stmts prelude text_end room left (drop n (map seen symbols)) ≡ read_stmts prelude text_end room x (drop r (map seen symbols))
  stmts_on left x r q = loop_on first_of (stmt_more prelude text_end room body inner) more_shrinks left _ first _ x _ e q

  pub stmts_less : (left x : d.StmtsDraft) (r : ℕ) → stmt_more prelude text_end room body inner first left (drop b (map seen symbols)) ≡ Ok (x, drop r (map seen symbols)) → length symbols - r < length symbols - n
  stmts_less left x r q = less_left symbols n b r (past_shorter first_of _ first _ e) (more_shrinks first left _ x _ q)

  pub items_err : (left : Block) (f : stop.Stop) → Fails (map seen symbols) f (block_more prelude text_end room body inner first left (drop b (map seen symbols))) → Fails (map seen symbols) f (items prelude text_end room left (drop n (map seen symbols)))
  items_err left f q = loop_stop first_of (block_more prelude text_end room body inner) block_shrinks (map seen symbols) left _ first _ f e q

  pub items_on : (left x : Block) (r : ℕ) → block_more prelude text_end room body inner first left (drop b (map seen symbols)) ≡ Ok (x, drop r (map seen symbols)) → items prelude text_end room left (drop n (map seen symbols)) ≡ items prelude text_end room x (drop r (map seen symbols))
  items_on left x r q = loop_on first_of (block_more prelude text_end room body inner) block_shrinks left _ first _ x _ e q

  pub items_less : (left x : Block) (r : ℕ) → block_more prelude text_end room body inner first left (drop b (map seen symbols)) ≡ Ok (x, drop r (map seen symbols)) → length symbols - r < length symbols - n
  items_less left x r q = less_left symbols n b r (past_shorter first_of _ first _ e) (block_shrinks first left _ x _ q)

module _ (prelude : Bool) (room : ℕ) (symbols : List code.Symbol) (n : ℕ) (e : past first_of (drop n (map seen symbols)) ≡ None) where
  pub heads_end : (hs : Heads) → under_heads prelude (length symbols) room (stmts_inside prelude (length symbols) room) hs (drop n (map seen symbols)) ≡ Err (At (drop n (map seen symbols)))
  heads_end hs = until_end first_of (body_turn prelude (length symbols) room (stmts_inside prelude (length symbols) room)) (body_turn_left prelude (length symbols) room (stmts_inside prelude (length symbols) room) (block_inside prelude (length symbols) room) (stmts_inside_left prelude (length symbols) room) (block_inside_left prelude (length symbols) room)) hs _ e

  pub stmts_end : (left : d.StmtsDraft) → read_stmts prelude (length symbols) room left (drop n (map seen symbols)) ≡ Ok (left, drop n (map seen symbols))
  stmts_end left = loop_end first_of (stmt_more prelude (length symbols) room (stmts_inside prelude (length symbols) room) (block_inside prelude (length symbols) room)) (stmt_more_left prelude (length symbols) room (stmts_inside prelude (length symbols) room) (block_inside prelude (length symbols) room) (stmts_inside_left prelude (length symbols) room) (block_inside_left prelude (length symbols) room)) left _ e

  pub items_end : (left : Block) → items prelude (length symbols) room left (drop n (map seen symbols)) ≡ Ok (left, drop n (map seen symbols))
  items_end left = loop_end first_of (block_more prelude (length symbols) room (stmts_inside prelude (length symbols) room) (block_inside prelude (length symbols) room)) (block_more_left prelude (length symbols) room (stmts_inside prelude (length symbols) room) (block_inside prelude (length symbols) room) (stmts_inside_left prelude (length symbols) room) (block_inside_left prelude (length symbols) room)) left _ e

pub cond_inside_on : (prelude : Bool) (end room : ℕ) (ts : List Symbol) → (room ≡ 0 → ⊥) → condition.whole prelude true end (room - 1) ts ≡ cond_inside prelude end room ts
unfolding cond_inside
cond_inside_on prelude end zero ts n = absurd (n refl)
cond_inside_on prelude end (suc room) ts n = let e : suc room - 1 ≡ room = omega arith in ap (λ m. condition.whole prelude true end m ts) e
