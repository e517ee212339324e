-- Reading drafts of statements. Only the crate's private clauses cite it: `end` is the number behind the last token, so that the first of some tokens at
-- the text's end has the number `end - length tokens`.
use Rattle.std.specs.Prelude.{[], ◌∷◌, ◌++◌, ℕ, zero, suc, ◌-◌, Bool, true, false, ◌&&◌, ◌||◌, List, length, codes, Option, Some, None, Ok, Err, if◌then◌else◌}
use Rattle.std.specs.Option.{option_map, is_some}
use Rattle.affc_lex.specs.Bytes.{same}
use Rattle.affc_ast.specs.declared.tree.Op.{Op}
use Rattle.affc_ast.specs.declared.tree.Rel.{Rel}
use Rattle.affc_grammar.specs.Grammar.{Symbol, Name}
use Rattle.affc_grammar.specs.Draft.{IxDraft, CondDraft, LocalDraft, WordDraft, StmtsDraft, no_stmts, and_stmt, StmtDraft, if_cond, assign, block, word_draft, bound_rel}
use Rattle.affc_grammar.specs.Reader.{At, Deep, Reader, then_read, Turn, going, done}
use Rattle.affc_grammar.specs.Reading.{this_mark, this_word, any_word, line_end, one, bound_of, assign_of, choose, head_words, First, a_word, a_brace, first_of}
use Rattle.affc_syntax.specs.draft.Drafts.{stmts_after}
use Rattle.affc_syntax.specs.Ahead.{past}
use Rattle.affc_syntax.specs.Readers.{on_past, closed, all_more}
use Rattle.affc_syntax.specs.IxReading as ix
use Rattle.affc_syntax.specs.CondReading as condition
use Rattle.affc_syntax.specs.ValueReading.{value}
use Rattle.affc_text.specs.Parts.{Head, for_head, if_head, else_head, Heads, Closing, closed as closed_stmt, waiting, Block, no_items, covered, listed, close, under_one}

abbrev pub expression : (prelude : Bool) (end room : ℕ) → Reader Symbol IxDraft
expression prelude end room = ix.expression prelude end (ix.inside prelude end room)

-- behind a bracket that was opened where so many could be
unfoldable pub cond_inside : (prelude : Bool) (end : ℕ) → (room : ℕ) → Reader Symbol CondDraft
cond_inside prelude end zero ts = Err Deep
cond_inside prelude end (suc room) ts = condition.whole prelude true end room ts

-- ---- Single tokens

abbrev pub ends_line : Symbol → Option (Unit {0})
ends_line s = option_map (λ _. tt) (line_end s)

abbrev pub rel_itself : Rel → Rel
rel_itself rel = rel

abbrev pub op_itself : Option Op → Option Op
op_itself op = op

abbrev pub compared : Reader Symbol Rel
compared ts = on_past (past bound_of ts) (λ strict us. Ok (bound_rel strict, us)) (Err (At ts))

abbrev pub assignment : Reader Symbol (Option Op)
assignment ts = on_past (past assign_of ts) (λ op us. Ok (op, us)) (Err (At ts))

abbrev pub is_first_word : First → Name → Bool
is_first_word (a_word w) name = same w name
is_first_word a_brace name = false

abbrev pub named : (end : ℕ) → Reader Symbol WordDraft
named end ts = on_past (past any_word ts) (λ w us. Ok (word_draft (end - length ts) w, us)) (Err (At ts))

-- ---- Heads

abbrev pub stepped : WordDraft → Reader Symbol WordDraft
stepped w ts =
    on_past (past (this_mark (codes "++")) ts) (λ _ us. Ok (w, us))
    (on_past (past (this_mark (codes "+=")) ts) (λ _ us. on_past (past one us) (λ _ vs. Ok (w, vs)) (Err (At us))) (Err (At ts)))

abbrev pub step : (end : ℕ) → Reader Symbol WordDraft
step end ts = on_past (past (this_mark (codes "++")) ts) (λ _ us. named end us) (then_read (named end ts) stepped)

-- behind the bounds of a `for`: its step, up to its `)`
abbrev pub step_closed : (end : ℕ) → Reader Symbol WordDraft
step_closed end ts = on_past (past (this_mark (codes ";")) ts) (λ _ us. then_read (step end us) (λ s vs. closed (codes ")") s vs)) (Err (At ts))

-- behind the first `;` of a `for`
abbrev pub tested : (prelude : Bool) (end room at : ℕ) (iterator : WordDraft) (low : IxDraft) → Reader Symbol Head
tested prelude end room at iterator low ts =
    then_read (named end ts) (λ w us.
    then_read (compared us) (λ rel vs.
    then_read (ix.inside prelude end room vs) (λ high ws.
    then_read (step_closed end ws) (λ s xs. Ok (for_head (record { at = at; iterator = iterator; low = low; tested = w; rel = rel; high = high; stepped = s }), xs)))))

-- behind `for (`
abbrev pub for_behind : (prelude : Bool) (end room at : ℕ) → Reader Symbol Head
for_behind prelude end room at ts =
    on_past (past (this_word (codes "int64_t")) ts) (λ _ us.
    then_read (named end us) (λ w vs.
    on_past (past (this_mark (codes "=")) vs) (λ _ ws.
    then_read (ix.inside prelude end room ws) (λ low xs.
    on_past (past (this_mark (codes ";")) xs) (λ _ ys. tested prelude end room at w low ys) (Err (At xs))))
    (Err (At vs))))
    (Err (At ts))

-- behind `if (`
abbrev pub if_behind : (prelude : Bool) (end room at : ℕ) → Reader Symbol Head
if_behind prelude end room at ts = then_read (cond_inside prelude end room ts) (λ c us. closed (codes ")") (if_head at c) us)

abbrev pub head_behind : (prelude : Bool) (end room at : ℕ) (is_for : Bool) → Reader Symbol Head
head_behind prelude end room at true ts = for_behind prelude end room at ts
head_behind prelude end room at false ts = if_behind prelude end room at ts

-- ---- Statements; `body` and `inner` read what stands behind the "{" of a body and of a block

-- behind the first Word of an assignment
abbrev pub assigned : (prelude : Bool) (end room at : ℕ) → Name → Reader Symbol StmtDraft
assigned prelude end room at w ts =
    then_read (ix.dims prelude end room ts) (λ subs us.
    then_read (assignment us) (λ op vs.
    then_read (value prelude end room vs) (λ v ws. closed (codes ";") (assign (word_draft at w) subs op v) ws)))

-- whether a word before these tokens is the first of an assignment
abbrev pub is_assigned : List Symbol → Bool
is_assigned [] = false
is_assigned (x ∷ ts) = is_some (this_mark (codes "[") x) || is_some (assign_of x)

-- behind `else` after an `if` without one: it is the first of an assignment, or that of the `if`
abbrev pub else_behind : (prelude : Bool) (end room : ℕ) → List Head → (at : ℕ) → CondDraft → StmtsDraft → Reader Symbol (Turn Heads (List StmtDraft))
else_behind prelude end room hs at c body ts =
    if is_assigned ts
    then then_read (assigned prelude end room (end - length ts - 1) (codes "else") ts) (λ t us. Ok (done (covered hs (if_cond at c body no_stmts) ∷ t ∷ []), us))
    else Ok (going (record { outer = hs; inner = else_head at c body }), ts)

-- behind what a body under heads makes
abbrev pub closed_behind : (prelude : Bool) (end room : ℕ) → Closing → Reader Symbol (Turn Heads (List StmtDraft))
closed_behind prelude end room (closed_stmt s) ts = Ok (done (s ∷ []), ts)
closed_behind prelude end room (waiting hs at c body) ts = on_past (past (this_word (codes "else")) ts) (λ _ us. else_behind prelude end room hs at c body us) (Ok (done (covered hs (if_cond at c body no_stmts) ∷ []), ts))

abbrev pub assigned_under : (prelude : Bool) (end room : ℕ) → List Head → (at : ℕ) → Name → Reader Symbol (Turn Heads (List StmtDraft))
assigned_under prelude end room hs at w ts = then_read (assigned prelude end room at w ts) (λ s us. closed_behind prelude end room (close hs s) us)

abbrev pub worded : (prelude : Bool) (end room : ℕ) → List Head → (at : ℕ) → Name → Option Bool → Reader Symbol (Turn Heads (List StmtDraft))
worded prelude end room hs at w None ts = assigned_under prelude end room hs at w ts
worded prelude end room hs at w (Some is_for) ts =
    on_past (past (this_mark (codes "(")) ts) (λ _ us. then_read (head_behind prelude end room at is_for us) (λ h vs. Ok (going (record { outer = hs; inner = h }), vs)))
    (assigned_under prelude end room hs at w ts)

-- the first token of a body behind heads
abbrev pub body_turn : (prelude : Bool) (end room : ℕ) → Reader Symbol StmtsDraft → First → Heads → Reader Symbol (Turn Heads (List StmtDraft))
body_turn prelude end room body (a_word w) hs us = worded prelude end room (listed hs) (end - length us - 1) w (choose head_words w) us
body_turn prelude end room body a_brace hs us = then_read (body us) (λ ss vs. closed_behind prelude end room (under_one hs.outer hs.inner ss) vs)

abbrev pub going_on : {A C : Type 0} → (A → Reader Symbol C) → Turn A C → Reader Symbol C
going_on again (going a) us = again a us
going_on again (done c) us = Ok (c, us)

abbrev pub tries_more : {A C K : Type 0} → (Symbol → Option K) → (K → A → Reader Symbol (Turn A C)) → ℕ → A → Reader Symbol C
tries_more test turn zero left ts = Err (At ts)
tries_more test turn (suc n) left ts = on_past (past test ts) (λ k us. then_read (turn k left us) (going_on (tries_more test turn n))) (Err (At ts))

unfoldable pub until_done : {A C K : Type 0} → (Symbol → Option K) → (K → A → Reader Symbol (Turn A C)) → A → Reader Symbol C
until_done test turn left ts = tries_more test turn (length ts) left ts

abbrev pub under_heads : (prelude : Bool) (end room : ℕ) → Reader Symbol StmtsDraft → Heads → Reader Symbol (List StmtDraft)
under_heads prelude end room body = until_done first_of (body_turn prelude end room body)

abbrev pub simple : (prelude : Bool) (end room : ℕ) → Reader Symbol StmtsDraft → (at : ℕ) → Name → Reader Symbol (List StmtDraft)
simple prelude end room body at w ts = then_read (worded prelude end room [] at w (choose head_words w) ts) (going_on (under_heads prelude end room body))

-- behind the first token of a statement: that statement, and where it is an open one, an assignment to an array `else` behind it
abbrev pub statement : (prelude : Bool) (end room : ℕ) → Reader Symbol StmtsDraft → Reader Symbol StmtDraft → First → Reader Symbol (List StmtDraft)
statement prelude end room body inner (a_word w) us = simple prelude end room body (end - length us - 1) w us
statement prelude end room body inner a_brace us = then_read (inner us) (λ s vs. Ok (s ∷ [], vs))

abbrev pub stmt_more : (prelude : Bool) (end room : ℕ) → Reader Symbol StmtsDraft → Reader Symbol StmtDraft → First → StmtsDraft → Reader Symbol StmtsDraft
stmt_more prelude end room body inner first ss us = then_read (statement prelude end room body inner first us) (λ read vs. Ok (stmts_after ss read, vs))

abbrev pub is_none : StmtsDraft → Bool
is_none no_stmts = true
is_none (and_stmt ss s) = false

-- a local, behind its `const int64_t`
abbrev pub local : (end room : ℕ) → Reader Symbol LocalDraft
local end room ts =
    then_read (named end ts) (λ w us.
    on_past (past (this_mark (codes "=")) us) (λ _ vs.
    then_read (expression true end room vs) (λ a ws. closed (codes ";") (record { at = w.at; name = w.name; value = a }) ws))
    (Err (At us)))

-- behind `const int64_t`
abbrev pub local_behind : (end room : ℕ) → Block → Reader Symbol Block
local_behind end room b ts = then_read (local end room ts) (λ l us. Ok (record { locals = b.locals ++ l ∷ []; stmts = b.stmts }, us))

abbrev pub block_stmt : (prelude : Bool) (end room : ℕ) → Reader Symbol StmtsDraft → Reader Symbol StmtDraft → First → Block → Reader Symbol Block
block_stmt prelude end room body inner first b us = then_read (statement prelude end room body inner first us) (λ read vs. Ok (record { locals = b.locals; stmts = stmts_after b.stmts read }, vs))

-- whether the token begins a local where `int64_t` follows
abbrev pub may_be_local : (prelude : Bool) → First → StmtsDraft → Bool
may_be_local prelude first ss = prelude && (is_none ss && is_first_word first (codes "const"))

abbrev pub block_more : (prelude : Bool) (end room : ℕ) → Reader Symbol StmtsDraft → Reader Symbol StmtDraft → First → Block → Reader Symbol Block
block_more prelude end room body inner first b us =
    if may_be_local prelude first b.stmts
    then on_past (past (this_word (codes "int64_t")) us) (λ _ vs. local_behind end room b vs) (block_stmt prelude end room body inner first b us)
    else block_stmt prelude end room body inner first b us

unfoldable mutual
  -- behind a "{" that was opened where so many brackets could be
  pub stmts_inside : (prelude : Bool) (end : ℕ) → (room : ℕ) → Reader Symbol StmtsDraft
  stmts_inside prelude end zero ts = Err Deep
  stmts_inside prelude end (suc room) ts =
      then_read (all_more first_of (stmt_more prelude end room (stmts_inside prelude end room) (block_inside prelude end room)) no_stmts ts) (λ ss us. closed (codes "}") ss us)

  pub block_inside : (prelude : Bool) (end : ℕ) → (room : ℕ) → Reader Symbol StmtDraft
  block_inside prelude end zero ts = Err Deep
  block_inside prelude end (suc room) ts =
      then_read (all_more first_of (block_more prelude end room (stmts_inside prelude end room) (block_inside prelude end room)) no_items ts) (λ b us. closed (codes "}") (block b.locals b.stmts) us)

abbrev pub stmts : (prelude : Bool) (end room : ℕ) → StmtsDraft → Reader Symbol StmtsDraft
stmts prelude end room = all_more first_of (stmt_more prelude end room (stmts_inside prelude end room) (block_inside prelude end room))

abbrev pub items : (prelude : Bool) (end room : ℕ) → Block → Reader Symbol Block
items prelude end room = all_more first_of (block_more prelude end room (stmts_inside prelude end room) (block_inside prelude end room))
