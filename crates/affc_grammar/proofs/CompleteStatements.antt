-- Statements that are spelled so are read.
use Rattle.std.proofs.Common.{◌≡◌, ℕ, zero, suc, Bool, true, false, List, [], ◌∷◌, ◌++◌, Option, Some, None, if◌then◌else◌, refl, sym, ap, ◌∙◌, subst, codes, append_assoc}
use mathlib.Core.Bool.{Bool-set}
use Rattle.affc_lex.specs.Bytes.{same}
use Rattle.affc_ast.specs.declared.tree.Op.{Op}
use Rattle.affc_ast.specs.declared.tree.Op.TheVariants.{Add, Sub, Mul, And, Or, Xor}
use Rattle.affc_grammar.specs.Grammar as g
use Rattle.affc_grammar.specs.Grammar.{Symbol, Name, word, number, mark, IxText, DimsText, CondText, ValueText, StepText, LocalsText, StmtsText, StmtText, SimpleText, BodyText, ix_symbols, dims_symbols, dim_symbols, cond_symbols, value_symbols, step_symbols, locals_symbols, stmts_symbols, stmt_symbols, simple_symbols, body_symbols, bound_mark, assign_mark}
use Rattle.affc_grammar.specs.Reader.{Reader, give, after, on, all, Turn, going, done, until, IsReader}
use Rattle.affc_grammar.specs.Reading.{this_mark, this_word, choose, read_step, assign_of, for_head, if_head, else_head, Heads, and_one, under, opened, waiting, close, close_one, Ended, one_stmt, and_else, and_ended, dims_more, read_dims, dims_behind, read_for, read_stored, read_assign, read_two, read_else, read_closing, head_words, assigned_under, read_worded, First, a_word, a_brace, first_of, read_body, read_under, read_stmt, stmt_more, Block, Inside, block_stmt, block_word, block_more, stmts_inside, block_inside}
use Rattle.std.proofs.lemmas.Bool.{false≢true}
use Rattle.affc_grammar.proofs.Closed.{all_is}
use Rattle.affc_grammar.proofs.Tests.{same_bytes, bound_test, assign_test, first_symbol, first_test}
use Rattle.affc_grammar.proofs.Rules.{under_body_rule, stmt_more_rule, block_more_rule, stmts_inside_rule, block_inside_rule}
use Rattle.affc_grammar.proofs.Done.{Gets, NotNext, gets_give, gets_deep, gets_after, gets_on, gets_other, gets_same, gets_past, gets_other_then, gets_both, gets_end, gets_turn, gets_until}
use Rattle.affc_grammar.proofs.Complete.{regroup, dims_reader, sum_gets, ix_inside_gets, dims_gets, cond_gets, inside_room}
use Rattle.affc_grammar.proofs.CompleteValues.{value_gets}

step_gets : (s : StepText) (rest : List Symbol) → Gets read_step (step_symbols s ++ rest) s rest
step_gets (g.then_up w) rest = gets_other _ _ refl (gets_on _ _ _ refl (gets_on _ _ _ refl gets_give))
step_gets (g.up_then w) rest = gets_on _ _ _ refl (gets_on _ _ _ refl gets_give)
step_gets (g.up_by_one w) rest = gets_other _ _ refl (gets_on _ _ _ refl (gets_other _ _ refl (gets_on _ _ _ refl (gets_on _ _ _ refl gets_give))))

-- ---- The first token of a statement, and the others

abbrev pub first_word : {calls dangles : Bool} → SimpleText calls dangles → Name
first_word (g.for_loop iterator low tested strict high step body) = codes "for"
first_word (g.if_then c body) = codes "if"
first_word (g.if_else c body other) = codes "if"
first_word (g.assign w ds op v) = w

abbrev pub simple_tail : {calls dangles : Bool} → SimpleText calls dangles → List Symbol
simple_tail (g.for_loop iterator low tested strict high step body) =
    mark (codes "(") ∷ word (codes "int64_t") ∷ word iterator ∷ mark (codes "=") ∷ (ix_symbols low ++ mark (codes ";") ∷ word tested ∷ mark (bound_mark strict) ∷ (ix_symbols high ++ mark (codes ";") ∷ (step_symbols step ++ mark (codes ")") ∷ body_symbols body)))
simple_tail (g.if_then c body) = mark (codes "(") ∷ (cond_symbols c ++ mark (codes ")") ∷ body_symbols body)
simple_tail (g.if_else c body other) = mark (codes "(") ∷ (cond_symbols c ++ mark (codes ")") ∷ (body_symbols body ++ word (codes "else") ∷ body_symbols other))
simple_tail (g.assign w ds op v) = dims_symbols ds ++ mark (assign_mark op) ∷ (value_symbols v ++ mark (codes ";") ∷ [])

simple_split : {calls dangles : Bool} (s : SimpleText calls dangles) → simple_symbols s ≡ word (first_word s) ∷ simple_tail s
simple_split (g.for_loop iterator low tested strict high step body) = refl
simple_split (g.if_then c body) = refl
simple_split (g.if_else c body other) = refl
simple_split (g.assign w ds op v) = refl

abbrev pub stmt_first : {calls : Bool} → StmtText calls → First
stmt_first (g.simple s) = a_word (first_word s)
stmt_first (g.block ls ss) = a_brace

abbrev pub stmt_tail : {calls : Bool} → StmtText calls → List Symbol
stmt_tail (g.simple s) = simple_tail s
stmt_tail (g.block ls ss) = locals_symbols ls ++ (stmts_symbols ss ++ mark (codes "}") ∷ [])

pub stmt_split : {calls : Bool} (s : StmtText calls) → stmt_symbols s ≡ first_symbol (stmt_first s) ∷ stmt_tail s
stmt_split (g.simple s) = simple_split s
stmt_split (g.block ls ss) = refl

-- the first token behind a test, of subscripts and what follows them
dims_first : {calls : Bool} {K : Type 0} (test : Symbol → Option K) → ((us : List Symbol) → NotNext test (mark (codes "[") ∷ us)) → (ds : DimsText calls) (ts : List Symbol) → NotNext test ts → NotNext test (dims_symbols ds ++ ts)
dims_first test open_square g.no_dims ts e = e
dims_first test open_square (g.and_dim ds a) ts e = subst (NotNext test) (sym (append_assoc (dims_symbols ds) (dim_symbols a) ts)) (dims_first test open_square ds (dim_symbols a ++ ts) (open_square ((ix_symbols a ++ mark (codes "]") ∷ []) ++ ts)))

assign_no_square : (op : Option Op) (ts : List Symbol) → NotNext (this_mark (codes "[")) (mark (assign_mark op) ∷ ts)
assign_no_square None ts = refl
assign_no_square (Some Add) ts = refl
assign_no_square (Some Sub) ts = refl
assign_no_square (Some Mul) ts = refl
assign_no_square (Some And) ts = refl
assign_no_square (Some Or) ts = refl
assign_no_square (Some Xor) ts = refl

assign_no_paren : (op : Option Op) (ts : List Symbol) → NotNext (this_mark (codes "(")) (mark (assign_mark op) ∷ ts)
assign_no_paren None ts = refl
assign_no_paren (Some Add) ts = refl
assign_no_paren (Some Sub) ts = refl
assign_no_paren (Some Mul) ts = refl
assign_no_paren (Some And) ts = refl
assign_no_paren (Some Or) ts = refl
assign_no_paren (Some Xor) ts = refl

-- no Word stands behind the first word of a statement
pub tail_no_word : {calls dangles : Bool} {K : Type 0} (test : Symbol → Option K) → ((bytes : List ℕ) (us : List Symbol) → NotNext test (mark bytes ∷ us)) → (s : SimpleText calls dangles) (rest : List Symbol) → NotNext test (simple_tail s ++ rest)
tail_no_word test marks (g.for_loop iterator low tested strict high step body) rest = marks (codes "(") []
tail_no_word test marks (g.if_then c body) rest = marks (codes "(") []
tail_no_word test marks (g.if_else c body other) rest = marks (codes "(") []
tail_no_word test marks (g.assign w ds op v) rest =
    subst (NotNext test) (sym (append_assoc (dims_symbols ds) (mark (assign_mark op) ∷ (value_symbols v ++ mark (codes ";") ∷ [])) rest))
    (dims_first test (marks (codes "[")) ds (mark (assign_mark op) ∷ ((value_symbols v ++ mark (codes ";") ∷ []) ++ rest)) (marks (assign_mark op) []))

-- ---- Assignments and heads

-- behind the operator of an assignment
stored_gets : (calls : Bool) (room : ℕ) (w : Name) (ds : DimsText calls) (op : Option Op) (v : ValueText calls 6) (rest : List Symbol) → Gets (read_stored calls room w ds op) ((value_symbols v ++ mark (codes ";") ∷ []) ++ rest) (g.assign w ds op v) rest
stored_gets calls room w ds op v rest =
    gets_after _ (regroup (value_symbols v) (mark (codes ";") ∷ []) rest (value_gets calls v room (mark (codes ";") ∷ rest) (((((((refl, refl), refl), refl), refl), refl), refl), refl)))
    (gets_on _ _ _ refl gets_give)

assign_gets : (calls : Bool) (room : ℕ) (w : Name) (ds : DimsText calls) (op : Option Op) (v : ValueText calls 6) (rest : List Symbol) → Gets (read_assign calls room w) (simple_tail (g.assign w ds op v) ++ rest) (g.assign w ds op v) rest
assign_gets calls room w ds op v rest =
    gets_after _ (regroup (dims_symbols ds) (mark (assign_mark op) ∷ (value_symbols v ++ mark (codes ";") ∷ [])) rest (dims_gets calls ds room _ (assign_no_square op [])))
    (gets_on _ _ _ (assign_test.passes op) (stored_gets calls room w ds op v rest))

assigned_then : (calls : Bool) (room : ℕ) {C : Type 0} (next : Turn (Heads calls) (Ended calls) → Reader Symbol C) (hs : Option (Heads calls)) (w : Name) (ds : DimsText calls) (op : Option Op) (v : ValueText calls 6) (rest : List Symbol) {c : C} {end : List Symbol}
    → Gets (after (read_closing calls room (close_one hs (g.assign w ds op v))) next) rest c end → Gets (after (assigned_under calls room hs w) next) (simple_tail (g.assign w ds op v) ++ rest) c end
assigned_then calls room next hs w ds op v rest h = gets_both _ _ _ (gets_after _ (assign_gets calls room w ds op v rest) h)

worded_then : (calls : Bool) (room : ℕ) {C : Type 0} (next : Turn (Heads calls) (Ended calls) → Reader Symbol C) (hs : Option (Heads calls)) (w : Name) (o : Option Bool) (ds : DimsText calls) (op : Option Op) (v : ValueText calls 6) (rest : List Symbol) {c : C} {end : List Symbol}
    → Gets (after (read_closing calls room (close_one hs (g.assign w ds op v))) next) rest c end → Gets (after (read_worded calls room hs w o) next) (simple_tail (g.assign w ds op v) ++ rest) c end
worded_then calls room next hs w None ds op v rest h = assigned_then calls room next hs w ds op v rest h
worded_then calls room next hs w (Some is_for) ds op v rest h =
    gets_other_then _ _ _ next (subst (NotNext (this_mark (codes "("))) (sym (append_assoc (dims_symbols ds) (mark (assign_mark op) ∷ (value_symbols v ++ mark (codes ";") ∷ [])) rest))
    (dims_first (this_mark (codes "(")) (λ us. refl) ds (mark (assign_mark op) ∷ ((value_symbols v ++ mark (codes ";") ∷ []) ++ rest)) (assign_no_paren op [])))
    (assigned_then calls room next hs w ds op v rest h)

for_gets : (calls : Bool) (room : ℕ) (iterator : Name) (low : IxText calls) (tested : Name) (strict : Bool) (high : IxText calls) (step : StepText) (behind rest : List Symbol)
    → Gets (read_for calls room) (word (codes "int64_t") ∷ word iterator ∷ mark (codes "=") ∷ ((ix_symbols low ++ mark (codes ";") ∷ word tested ∷ mark (bound_mark strict) ∷ (ix_symbols high ++ mark (codes ";") ∷ (step_symbols step ++ mark (codes ")") ∷ behind))) ++ rest)) (for_head iterator low tested strict high step) (behind ++ rest)
for_gets calls room iterator low tested strict high step behind rest =
    gets_on _ _ _ refl (gets_on _ _ _ refl (gets_on _ _ _ refl (gets_after _ (regroup (ix_symbols low) _ rest (ix_inside_gets calls low room _ (refl, refl, refl)))
    (gets_on _ _ _ refl (gets_on _ _ _ refl (gets_on _ _ _ (bound_test.passes strict) (gets_after _ (regroup (ix_symbols high) _ rest (ix_inside_gets calls high room _ (refl, refl, refl)))
    (gets_on _ _ _ refl (gets_after _ (regroup (step_symbols step) _ rest (step_gets step _)) (gets_on _ _ _ refl gets_give))))))))))

-- ---- What closes and what is open

for_closes : {calls : Bool} (hs : Option (Heads calls)) (iterator : Name) (low : IxText calls) (tested : Name) (strict : Bool) (high : IxText calls) (step : StepText) (body : BodyText calls false)
    → close_one hs (g.for_loop iterator low tested strict high step body) ≡ close (and_one hs (for_head iterator low tested strict high step)) body
for_closes None iterator low tested strict high step body = refl
for_closes (Some hs) iterator low tested strict high step body = refl

for_opens : {calls : Bool} (hs : Option (Heads calls)) (iterator : Name) (low : IxText calls) (tested : Name) (strict : Bool) (high : IxText calls) (step : StepText) (body : BodyText calls true)
    → opened hs (g.for_loop iterator low tested strict high step body) ≡ under (and_one hs (for_head iterator low tested strict high step)) body
for_opens None iterator low tested strict high step body = refl
for_opens (Some hs) iterator low tested strict high step body = refl

if_waits : {calls : Bool} (hs : Option (Heads calls)) (c : CondText calls true) (body : BodyText calls false) → waiting hs c body ≡ close (and_one hs (if_head c)) body
if_waits None c body = refl
if_waits (Some hs) c body = refl

if_opens : {calls : Bool} (hs : Option (Heads calls)) (c : CondText calls true) (body : BodyText calls true) → opened hs (g.if_then c body) ≡ under (and_one hs (if_head c)) body
if_opens None c body = refl
if_opens (Some hs) c body = refl

else_closes : {calls : Bool} (hs : Option (Heads calls)) (c : CondText calls true) (body other : BodyText calls false) → close_one hs (g.if_else c body other) ≡ close (and_one hs (else_head c body)) other
else_closes None c body other = refl
else_closes (Some hs) c body other = refl

else_opens : {calls : Bool} (hs : Option (Heads calls)) (c : CondText calls true) (body : BodyText calls false) (other : BodyText calls true) → opened hs (g.if_else c body other) ≡ under (and_one hs (else_head c body)) other
else_opens None c body other = refl
else_opens (Some hs) c body other = refl

-- what stands behind an open statement: no `else`, or an assignment to an array of that name
pub data Behind (calls : Bool) : Type 0 where
  no_else : (rest : List Symbol) → NotNext (this_word (codes "else")) rest → Behind calls
  an_else : DimsText calls → Option Op → ValueText calls 6 → (rest : List Symbol) → Behind calls

abbrev pub behind_symbols : {calls : Bool} → Behind calls → List Symbol
behind_symbols (no_else rest e) = rest
behind_symbols (an_else ds op v rest) = word (codes "else") ∷ (simple_tail (g.assign (codes "else") ds op v) ++ rest)

abbrev pub behind_ended : {calls : Bool} → SimpleText calls true → Behind calls → Ended calls
behind_ended s (no_else rest e) = one_stmt (g.simple s)
behind_ended s (an_else ds op v rest) = and_else s (g.assign (codes "else") ds op v)

abbrev pub behind_rest : {calls : Bool} → Behind calls → List Symbol
behind_rest (no_else rest e) = rest
behind_rest (an_else ds op v rest) = rest

-- subscripts begin with "["
dims_open_square : {calls : Bool} (ds : DimsText calls) (a : IxText calls) → (us : List Symbol) × (dims_symbols (g.and_dim ds a) ≡ mark (codes "[") ∷ us)
dims_open_square g.no_dims a = (ix_symbols a ++ mark (codes "]") ∷ [], refl)
dims_open_square (g.and_dim ds b) a = let p = dims_open_square ds b in (p.0 ++ dim_symbols a, ap (λ l. l ++ dim_symbols a) p.1)

behind_gets : (calls : Bool) (room : ℕ) (ds : DimsText calls) (us rest : List Symbol) → mark (codes "[") ∷ us ≡ dims_symbols ds ++ rest → NotNext (this_mark (codes "[")) rest → Gets (dims_behind calls room) us ds rest
behind_gets calls room ds us rest e n =
    gets_past (this_mark (codes "[")) (λ k. after (dims_more calls room k g.no_dims) (all (this_mark (codes "[")) (dims_more calls room))) (give g.no_dims) {x = mark (codes "[")} {k = tt} refl
    (gets_same (sym (all_is (this_mark (codes "[")) (dims_more calls room) (dims_reader calls room) g.no_dims (mark (codes "[") ∷ us)))
    (subst (λ l. Gets (read_dims calls room) l ds rest) (sym e) (dims_gets calls ds room rest n)))

two_gets : (calls : Bool) (room : ℕ) (s : SimpleText calls true) (ds : DimsText calls) (op : Option Op) (v : ValueText calls 6) (rest : List Symbol)
    → Gets (read_two s (read_stored calls room (codes "else") ds op)) ((value_symbols v ++ mark (codes ";") ∷ []) ++ rest) (done (and_else s (g.assign (codes "else") ds op v))) rest
two_gets calls room s ds op v rest = gets_after _ (stored_gets calls room (codes "else") ds op v rest) gets_give

else_gets : (calls : Bool) (room : ℕ) (hs : Option (Heads calls)) (c : CondText calls true) (body : BodyText calls false) (ds : DimsText calls) (op : Option Op) (v : ValueText calls 6) (rest : List Symbol)
    → Gets (read_else calls room hs c body) (simple_tail (g.assign (codes "else") ds op v) ++ rest) (done (and_else (opened hs (g.if_then c body)) (g.assign (codes "else") ds op v))) rest
else_gets calls room hs c body g.no_dims op v rest = gets_other _ _ (assign_no_square op []) (gets_on _ _ _ (assign_test.passes op) (two_gets calls room _ g.no_dims op v rest))
else_gets calls room hs c body (g.and_dim ds a) op v rest =
    let others = mark (assign_mark op) ∷ ((value_symbols v ++ mark (codes ";") ∷ []) ++ rest) in
    let p = dims_open_square ds a in
    regroup (dims_symbols (g.and_dim ds a)) (mark (assign_mark op) ∷ (value_symbols v ++ mark (codes ";") ∷ [])) rest
    (subst (λ l. Gets (read_else calls room hs c body) (l ++ others) (done (and_else (opened hs (g.if_then c body)) (g.assign (codes "else") (g.and_dim ds a) op v))) rest) (sym p.1)
    (gets_on _ _ _ refl (gets_after _ (behind_gets calls room (g.and_dim ds a) (p.0 ++ others) others (ap (λ l. l ++ others) (sym p.1)) (assign_no_square op []))
    (gets_on _ _ _ (assign_test.passes op) (two_gets calls room _ (g.and_dim ds a) op v rest)))))

waiting_gets : (calls : Bool) (room : ℕ) (hs : Option (Heads calls)) (c : CondText calls true) (body : BodyText calls false) (b : Behind calls)
    → Gets (read_closing calls room (waiting hs c body)) (behind_symbols b) (done (behind_ended (opened hs (g.if_then c body)) b)) (behind_rest b)
waiting_gets calls room hs c body (no_else rest e) = gets_other _ _ e gets_give
waiting_gets calls room hs c body (an_else ds op v rest) = gets_on _ _ _ refl (else_gets calls room hs c body ds op v rest)

-- a body begins with a Word or a brace
body_first : {calls dangles : Bool} {K : Type 0} (test : Symbol → Option K) → ((w : Name) (us : List Symbol) → NotNext test (word w ∷ us)) → ((us : List Symbol) → NotNext test (mark (codes "{") ∷ us)) → (body : BodyText calls dangles) (rest : List Symbol) → NotNext test (body_symbols body ++ rest)
body_first test words brace (g.braces ss) rest = brace []
body_first test words brace (g.bare s) rest = subst (λ l. NotNext test (l ++ rest)) (sym (simple_split s)) (words (first_word s) [])

-- the `else` of an `if` that waits
going_gets : (calls dangles : Bool) (room : ℕ) (hs : Option (Heads calls)) (c : CondText calls true) (body : BodyText calls false) (other : BodyText calls dangles) (rest : List Symbol)
    → Gets (read_closing calls room (waiting hs c body)) (word (codes "else") ∷ (body_symbols other ++ rest)) (going (and_one hs (else_head c body))) (body_symbols other ++ rest)
going_gets calls dangles room hs c body other rest =
    gets_on _ _ _ refl (gets_other _ _ (body_first (this_mark (codes "[")) (λ w us. refl) (λ us. refl) other rest) (gets_other _ _ (body_first assign_of (λ w us. refl) (λ us. refl) other rest) gets_give))

-- ---- Locals

marks_no_word : (w : Name) (bytes : List ℕ) (us : List Symbol) → NotNext (this_word w) (mark bytes ∷ us)
marks_no_word w bytes us = refl

stmts_reader : (calls : Bool) (room : ℕ) (x : Symbol) (k : First) → first_of x ≡ Some k → (ss : StmtsText calls) → IsReader (stmt_more calls room (stmts_inside calls room) (block_inside calls room) k ss)
stmts_reader calls room x k q ss = (stmt_more_rule calls room (stmts_inside_rule calls room) (block_inside_rule calls room) k ss).reader

block_reader : (calls : Bool) (room : ℕ) (x : Symbol) (k : First) → first_of x ≡ Some k → (b : Block calls) → IsReader (block_more calls room (stmts_inside calls room) (block_inside calls room) k b)
block_reader calls room x k q b = (block_more_rule calls room (stmts_inside_rule calls room) (block_inside_rule calls room) k b).reader

body_reader : (calls : Bool) (room : ℕ) (x : Symbol) (k : First) → first_of x ≡ Some k → (hs : Heads calls) → IsReader (read_body calls room (stmts_inside calls room) k hs)
body_reader calls room x k q hs = (under_body_rule calls room (stmts_inside_rule calls room) (block_inside_rule calls room) k hs).reader

abbrev block_loop : (calls : Bool) (room : ℕ) → Block calls → Reader Symbol (Block calls)
block_loop calls room = all first_of (block_more calls room (stmts_inside calls room) (block_inside calls room))

locals_open : (calls : Bool) (ls : LocalsText calls) (room : ℕ) (rest : List Symbol) (d : Block calls) (end : List Symbol) → Gets (block_loop calls room (record { locals = ls; stmts = g.no_stmts })) rest d end
    → Gets (block_loop calls room (record { locals = g.no_locals; stmts = g.no_stmts })) (locals_symbols ls ++ rest) d end
locals_open calls g.no_locals room rest d end h = h
locals_open true (g.and_local k ls w a) room rest d end h =
    regroup (locals_symbols ls) _ rest
    (locals_open true ls room (word (codes "const") ∷ word (codes "int64_t") ∷ word w ∷ mark (codes "=") ∷ ((ix_symbols a ++ mark (codes ";") ∷ []) ++ rest)) d end
    (gets_turn (block_reader true room) (first_test.passes (a_word (codes "const")))
    (gets_on _ _ _ refl (gets_on _ _ _ refl (gets_on _ _ _ refl (gets_after _ (regroup (ix_symbols a) (mark (codes ";") ∷ []) rest (sum_gets true a room (mark (codes ";") ∷ rest) (refl, refl, refl))) (gets_on _ _ _ refl gets_give)))))
    (subst (λ k. Gets (block_loop true room (record { locals = g.and_local k ls w a; stmts = g.no_stmts })) rest d end) (Bool-set true true k refl) h)))
locals_open false (g.and_local k ls w a) room rest d end h = absurd (cc)

block_word_off : (calls : Bool) (room : ℕ) (ls : LocalsText calls) (ss : StmtsText calls) (w : Name) (c : Bool) (ts rest : List Symbol) (b : Block calls) → NotNext (this_word (codes "int64_t")) ts
    → Gets (block_stmt calls room (stmts_inside calls room) (block_inside calls room) ls ss (a_word w)) ts b rest → Gets (block_word calls room (stmts_inside calls room) (block_inside calls room) ls ss w c) ts b rest
block_word_off true room ls g.no_stmts w true ts rest b e h = gets_other _ _ e h
block_word_off true room ls g.no_stmts w false ts rest b e h = h
block_word_off true room ls (g.and_stmt ss s) w c ts rest b e h = h
block_word_off false room ls ss w c ts rest b e h = h

block_more_off : (calls : Bool) (room : ℕ) (ls : LocalsText calls) (ss : StmtsText calls) (s : StmtText calls) (us rest : List Symbol) (b : Block calls)
    → Gets (block_stmt calls room (stmts_inside calls room) (block_inside calls room) ls ss (stmt_first s)) (stmt_tail s ++ us) b rest → Gets (block_more calls room (stmts_inside calls room) (block_inside calls room) (stmt_first s) (record { locals = ls; stmts = ss })) (stmt_tail s ++ us) b rest
block_more_off calls room ls ss (g.simple s) us rest b h = block_word_off calls room ls ss (first_word s) (same (first_word s) (codes "const")) (simple_tail s ++ us) rest b (tail_no_word (this_word (codes "int64_t")) (marks_no_word (codes "int64_t")) s us) h
block_more_off calls room ls ss (g.block ks ts) us rest b h = h

stmts_room : (calls : Bool) (room : ℕ) {ts rest : List Symbol} {ss : StmtsText calls} → ((r : ℕ) → Gets (after (all first_of (stmt_more calls r (stmts_inside calls r) (block_inside calls r)) g.no_stmts) λ ss. on (this_mark (codes "}")) λ _. give ss) ts ss rest) → Gets (stmts_inside calls room) ts ss rest
unfolding stmts_inside
stmts_room calls zero h = gets_deep
stmts_room calls (suc room) h = h room

block_room : (calls : Bool) (room : ℕ) {ts rest : List Symbol} {s : StmtText calls} → ((r : ℕ) → Gets (after (block_loop calls r (record { locals = g.no_locals; stmts = g.no_stmts })) λ b. on (this_mark (codes "}")) λ _. give (g.block b.locals b.stmts)) ts s rest) → Gets (block_inside calls room) ts s rest
unfolding stmts_inside
block_room calls zero h = gets_deep
block_room calls (suc room) h = h room

-- ---- Statements

-- whether it ends in an `if` without `else`
abbrev pub dangling : {calls dangles : Bool} → SimpleText calls dangles → Bool
dangling {calls} {dangles} s = dangles

abbrev pub is_open : {calls : Bool} → StmtText calls → Bool
is_open (g.simple s) = dangling s
is_open (g.block ls ss) = false

-- whether the last one does
abbrev pub ends_open : {calls : Bool} → StmtsText calls → Bool
ends_open g.no_stmts = false
ends_open (g.and_stmt ss s) = is_open s

-- what stands behind statements: no `else` where the last one is open; or an assignment to `else`, where it is
pub data Follow (calls dangles : Bool) : Type 0 where
  tokens : (rest : List Symbol) → (dangles ≡ true → NotNext (this_word (codes "else")) rest) → Follow calls dangles
  assigns : dangles ≡ true → DimsText calls → Option Op → ValueText calls 6 → (rest : List Symbol) → Follow calls dangles

abbrev pub follow_symbols : {calls dangles : Bool} → Follow calls dangles → List Symbol
follow_symbols (tokens rest n) = rest
follow_symbols (assigns k ds op v rest) = word (codes "else") ∷ (simple_tail (g.assign (codes "else") ds op v) ++ rest)

abbrev pub follow_rest : {calls dangles : Bool} → Follow calls dangles → List Symbol
follow_rest (tokens rest n) = rest
follow_rest (assigns k ds op v rest) = rest

abbrev pub with_follow : {calls dangles : Bool} → StmtsText calls → Follow calls dangles → StmtsText calls
with_follow ss (tokens rest n) = ss
with_follow ss (assigns k ds op v rest) = g.and_stmt ss (g.simple (g.assign (codes "else") ds op v))

abbrev under_now : (calls : Bool) (room : ℕ) → Turn (Heads calls) (Ended calls) → Reader Symbol (Ended calls)
under_now calls room = read_under calls room (stmts_inside calls room)

abbrev worded_now : (calls : Bool) (room : ℕ) → Option (Heads calls) → Name → Reader Symbol (Ended calls)
worded_now calls room hs w = after (read_worded calls room hs w (choose head_words w)) (under_now calls room)

abbrev body_now : (calls : Bool) (room : ℕ) → Heads calls → Reader Symbol (Ended calls)
body_now calls room = until first_of (read_body calls room (stmts_inside calls room))

-- the head of an `if`
if_gets : (calls : Bool) (room : ℕ) (hs : Option (Heads calls)) (c : CondText calls true) (behind rest : List Symbol) {e : Ended calls} {end : List Symbol} → Gets (body_now calls room (and_one hs (if_head c))) (behind ++ rest) e end
    → Gets (worded_now calls room hs (codes "if")) ((mark (codes "(") ∷ (cond_symbols c ++ mark (codes ")") ∷ behind)) ++ rest) e end
if_gets calls room hs c behind rest h =
    gets_after _ (gets_on _ _ _ refl (gets_after _
    (gets_after _ (regroup (cond_symbols c) (mark (codes ")") ∷ behind) rest (inside_room room (λ r. cond_gets calls true c r (mark (codes ")") ∷ (behind ++ rest)) ((refl, refl, refl), refl) refl))) (gets_on _ _ _ refl gets_give)) gets_give)) h

-- where statements stand one after the other
pub data Place : Type 0 where
  in_body : Place
  in_block : Place
  in_function : Place

-- what is read there
abbrev pub ReadAt : (calls : Bool) → Place → Type 0
ReadAt calls in_body = StmtsText calls
ReadAt calls in_block = Block calls
ReadAt calls in_function = Inside calls

-- the loop that reads them
pub record Loop (calls : Bool) (room : ℕ) (place : Place) : Type 0 where
  pub more : First → ReadAt calls place → Reader Symbol (ReadAt calls place)
  pub put : StmtsText calls → ReadAt calls place
  pub reader : (x : Symbol) (k : First) → first_of x ≡ Some k → (a : ReadAt calls place) → IsReader (more k a)
  pub one : (ss : StmtsText calls) (s : StmtText calls) (us rest : List Symbol) (e : Ended calls)
      → Gets (read_stmt calls room (stmts_inside calls room) (block_inside calls room) (stmt_first s)) (stmt_tail s ++ us) e rest → Gets (more (stmt_first s) (put ss)) (stmt_tail s ++ us) (put (and_ended ss e)) rest

abbrev stmts_loop : (calls : Bool) (room : ℕ) → Loop calls room in_body
stmts_loop calls room = record {
  more = stmt_more calls room (stmts_inside calls room) (block_inside calls room);
  put = λ ss. ss;
  reader = stmts_reader calls room;
  one = λ ss s us rest e h. gets_after _ h gets_give;
}

abbrev block_loop_of : (calls : Bool) (room : ℕ) (ls : LocalsText calls) → Loop calls room in_block
block_loop_of calls room ls = record {
  more = block_more calls room (stmts_inside calls room) (block_inside calls room);
  put = λ ss. record { locals = ls; stmts = ss };
  reader = block_reader calls room;
  one = λ ss s us rest e h. block_more_off calls room ls ss s us rest (record { locals = ls; stmts = and_ended ss e }) (gets_after _ h gets_give);
}

abbrev begins_else : {calls : Bool} → StmtText calls → Bool
begins_else (g.simple s) = same (codes "else") (first_word s)
begins_else (g.block ls ss) = false

other_word : (w : Name) → same (codes "else") w ≡ false → this_word (codes "else") (word w) ≡ None
other_word w e = ap (λ (b : Bool). if b then Some tt else None) e

not_else : {calls : Bool} (s : StmtText calls) (rest : List Symbol) → begins_else s ≡ false → NotNext (this_word (codes "else")) (stmt_symbols s ++ rest)
not_else (g.simple s) rest e = subst (λ l. NotNext (this_word (codes "else")) (l ++ rest)) (sym (simple_split s)) (other_word (first_word s) e)
not_else (g.block ls ss) rest e = refl

open_begins : {calls : Bool} (s : SimpleText calls true) → begins_else (g.simple s) ≡ false
open_begins (g.for_loop iterator low tested strict high step body) = refl
open_begins (g.if_then c body) = refl
open_begins (g.if_else c body other) = refl

-- what begins with `else` is an assignment to it
else_assigns : {calls : Bool} (s : StmtText calls) → begins_else s ≡ true → (ds : DimsText calls) × (op : Option Op) × (v : ValueText calls 6) × (s ≡ g.simple (g.assign (codes "else") ds op v))
else_assigns (g.simple (g.for_loop iterator low tested strict high step body)) e = absurd (false≢true e)
else_assigns (g.simple (g.if_then c body)) e = absurd (false≢true e)
else_assigns (g.simple (g.if_else c body other)) e = absurd (false≢true e)
else_assigns (g.simple (g.assign w ds op v)) e = (ds, op, v, ap (λ u. g.simple (g.assign u ds op v)) (sym (same_bytes (codes "else") w e)))
else_assigns (g.block ls ss) e = absurd (false≢true e)

-- a closed statement under heads
abbrev ClosedGets : (calls : Bool) → SimpleText calls false → Type 0
ClosedGets calls s = (room : ℕ) (hs : Option (Heads calls)) (rest : List Symbol) (e : Ended calls) (end : List Symbol)
    → Gets (after (read_closing calls room (close_one hs s)) (under_now calls room)) rest e end → Gets (worded_now calls room hs (first_word s)) (simple_tail s ++ rest) e end

-- an open statement under heads
abbrev OpenGets : (calls : Bool) → SimpleText calls true → Type 0
OpenGets calls s = (room : ℕ) (hs : Option (Heads calls)) (b : Behind calls) → Gets (worded_now calls room hs (first_word s)) (simple_tail s ++ behind_symbols b) (behind_ended (opened hs s) b) (behind_rest b)

abbrev SimpleGets : (calls dangles : Bool) → SimpleText calls dangles → Type 0
SimpleGets calls false s = ClosedGets calls s
SimpleGets calls true s = OpenGets calls s

abbrev ClosedBody : (calls : Bool) → BodyText calls false → Type 0
ClosedBody calls body = (room : ℕ) (hs : Heads calls) (rest : List Symbol) (e : Ended calls) (end : List Symbol)
    → Gets (after (read_closing calls room (close hs body)) (under_now calls room)) rest e end → Gets (body_now calls room hs) (body_symbols body ++ rest) e end

abbrev OpenBody : (calls : Bool) → BodyText calls true → Type 0
OpenBody calls body = (room : ℕ) (hs : Heads calls) (b : Behind calls) → Gets (body_now calls room hs) (body_symbols body ++ behind_symbols b) (behind_ended (under hs body) b) (behind_rest b)

abbrev BodyGets : (calls dangles : Bool) → BodyText calls dangles → Type 0
BodyGets calls false body = ClosedBody calls body
BodyGets calls true body = OpenBody calls body

abbrev StmtGets : (calls : Bool) → StmtText calls → Type 0
StmtGets calls (g.simple s) = SimpleGets calls _ s
StmtGets calls (g.block ls ss) = (room : ℕ) (rest : List Symbol) → Gets (read_stmt calls room (stmts_inside calls room) (block_inside calls room) a_brace) (stmt_tail (g.block ls ss) ++ rest) (one_stmt (g.block ls ss)) rest

-- statements in any loop
abbrev StmtsGets : (calls : Bool) → StmtsText calls → Type 0
StmtsGets calls ss = (room : ℕ) (place : Place) (l : Loop calls room place) (f : Follow calls (ends_open ss)) (d : ReadAt calls place) (end : List Symbol)
    → Gets (all first_of l.more (l.put (with_follow ss f))) (follow_rest f) d end → Gets (all first_of l.more (l.put g.no_stmts)) (stmts_symbols ss ++ follow_symbols f) d end

for_case : (calls dangles : Bool) (iterator : Name) (low : IxText calls) (tested : Name) (strict : Bool) (high : IxText calls) (step : StepText) (body : BodyText calls dangles) → BodyGets calls dangles body → SimpleGets calls dangles (g.for_loop iterator low tested strict high step body)
for_case calls false iterator low tested strict high step body k = λ room hs rest e end h.
    gets_after _ (gets_on _ _ _ refl (gets_after _ (for_gets calls room iterator low tested strict high step (body_symbols body) rest) gets_give))
    (k room (and_one hs (for_head iterator low tested strict high step)) rest e end
    (subst (λ k. Gets (after (read_closing calls room k) (under_now calls room)) rest e end) (for_closes hs iterator low tested strict high step body) h))
for_case calls true iterator low tested strict high step body k = λ room hs b.
    gets_after _ (gets_on _ _ _ refl (gets_after _ (for_gets calls room iterator low tested strict high step (body_symbols body) (behind_symbols b)) gets_give))
    (subst (λ s. Gets (body_now calls room (and_one hs (for_head iterator low tested strict high step))) (body_symbols body ++ behind_symbols b) (behind_ended s b) (behind_rest b)) (sym (for_opens hs iterator low tested strict high step body))
    (k room (and_one hs (for_head iterator low tested strict high step)) b))

-- an `if` without `else`
then_case : (calls dangles : Bool) (c : CondText calls true) (body : BodyText calls dangles) → BodyGets calls dangles body → OpenGets calls (g.if_then c body)
then_case calls false c body k room hs b =
    if_gets calls room hs c (body_symbols body) (behind_symbols b)
    (k room (and_one hs (if_head c)) (behind_symbols b) (behind_ended (opened hs (g.if_then c body)) b) (behind_rest b)
    (subst (λ k. Gets (after (read_closing calls room k) (under_now calls room)) (behind_symbols b) (behind_ended (opened hs (g.if_then c body)) b) (behind_rest b)) (if_waits hs c body)
    (gets_after _ (waiting_gets calls room hs c body b) gets_give)))
then_case calls true c body k room hs b =
    if_gets calls room hs c (body_symbols body) (behind_symbols b)
    (subst (λ s. Gets (body_now calls room (and_one hs (if_head c))) (body_symbols body ++ behind_symbols b) (behind_ended s b) (behind_rest b)) (sym (if_opens hs c body)) (k room (and_one hs (if_head c)) b))

else_case : (calls dangles : Bool) (c : CondText calls true) (body : BodyText calls false) (other : BodyText calls dangles) → ClosedBody calls body → BodyGets calls dangles other → SimpleGets calls dangles (g.if_else c body other)
else_case calls false c body other k m = λ room hs rest e end h.
    if_gets calls room hs c (body_symbols body ++ word (codes "else") ∷ body_symbols other) rest
    (regroup (body_symbols body) (word (codes "else") ∷ body_symbols other) rest
    (k room (and_one hs (if_head c)) (word (codes "else") ∷ (body_symbols other ++ rest)) e end
    (subst (λ k. Gets (after (read_closing calls room k) (under_now calls room)) (word (codes "else") ∷ (body_symbols other ++ rest)) e end) (if_waits hs c body)
    (gets_after _ (going_gets calls false room hs c body other rest) (m room (and_one hs (else_head c body)) rest e end
    (subst (λ k. Gets (after (read_closing calls room k) (under_now calls room)) rest e end) (else_closes hs c body other) h))))))
else_case calls true c body other k m = λ room hs b.
    if_gets calls room hs c (body_symbols body ++ word (codes "else") ∷ body_symbols other) (behind_symbols b)
    (regroup (body_symbols body) (word (codes "else") ∷ body_symbols other) (behind_symbols b)
    (k room (and_one hs (if_head c)) (word (codes "else") ∷ (body_symbols other ++ behind_symbols b)) (behind_ended (opened hs (g.if_else c body other)) b) (behind_rest b)
    (subst (λ k. Gets (after (read_closing calls room k) (under_now calls room)) (word (codes "else") ∷ (body_symbols other ++ behind_symbols b)) (behind_ended (opened hs (g.if_else c body other)) b) (behind_rest b)) (if_waits hs c body)
    (gets_after _ (going_gets calls true room hs c body other (behind_symbols b))
    (subst (λ s. Gets (body_now calls room (and_one hs (else_head c body))) (body_symbols other ++ behind_symbols b) (behind_ended s b) (behind_rest b)) (sym (else_opens hs c body other)) (m room (and_one hs (else_head c body)) b))))))

assign_case : (calls : Bool) (w : Name) (ds : DimsText calls) (op : Option Op) (v : ValueText calls 6) → ClosedGets calls (g.assign w ds op v)
assign_case calls w ds op v room hs rest e end h = worded_then calls room (under_now calls room) hs w (choose head_words w) ds op v rest h

braces_case : (calls : Bool) (ss : StmtsText calls) → StmtsGets calls ss → ClosedBody calls (g.braces ss)
braces_case calls ss k room hs rest e end h =
    gets_until (body_reader calls room) hs (first_test.passes a_brace) (gets_both _ _ _ (gets_after _
    (stmts_room calls room (λ r. gets_after _ (regroup (stmts_symbols ss) (mark (codes "}") ∷ []) rest (k r in_body (stmts_loop calls r) (tokens (mark (codes "}") ∷ rest) (λ k. refl)) ss (mark (codes "}") ∷ rest) (gets_end _ _ refl))) (gets_on _ _ _ refl gets_give))) h))

bare_case : (calls dangles : Bool) (s : SimpleText calls dangles) → SimpleGets calls dangles s → BodyGets calls dangles (g.bare s)
bare_case calls false s k = λ room hs rest e end h.
    subst (λ l. Gets (body_now calls room hs) (l ++ rest) e end) (sym (simple_split s))
    (gets_until (body_reader calls room) hs (first_test.passes (a_word (first_word s))) (k room (Some hs) rest e end h))
bare_case calls true s k = λ room hs b.
    subst (λ l. Gets (body_now calls room hs) (l ++ behind_symbols b) (behind_ended (under hs (g.bare s)) b) (behind_rest b)) (sym (simple_split s))
    (gets_until (body_reader calls room) hs (first_test.passes (a_word (first_word s))) (k room (Some hs) b))

block_case : (calls : Bool) (ls : LocalsText calls) (ss : StmtsText calls) → StmtsGets calls ss → StmtGets calls (g.block ls ss)
block_case calls ls ss k room rest =
    gets_after _ (block_room calls room (λ r. gets_after _
    (regroup (locals_symbols ls) (stmts_symbols ss ++ mark (codes "}") ∷ []) rest (locals_open calls ls r ((stmts_symbols ss ++ mark (codes "}") ∷ []) ++ rest) (record { locals = ls; stmts = ss }) (mark (codes "}") ∷ rest)
    (regroup (stmts_symbols ss) (mark (codes "}") ∷ []) rest (k r in_block (block_loop_of calls r ls) (tokens (mark (codes "}") ∷ rest) (λ k. refl)) (record { locals = ls; stmts = ss }) (mark (codes "}") ∷ rest) (gets_end _ _ refl)))))
    (gets_on _ _ _ refl gets_give))) gets_give

simple_read : (calls dangles : Bool) (s : SimpleText calls dangles) → SimpleGets calls dangles s → (room : ℕ) (rest : List Symbol) → (dangles ≡ true → NotNext (this_word (codes "else")) rest) → Gets (worded_now calls room None (first_word s)) (simple_tail s ++ rest) (one_stmt (g.simple s)) rest
simple_read calls false s k room rest n = k room None rest (one_stmt (g.simple s)) rest (gets_after _ gets_give gets_give)
simple_read calls true s k room rest n = k room None (no_else rest (n refl))

stmt_read : (calls : Bool) (s : StmtText calls) → StmtGets calls s → (room : ℕ) (rest : List Symbol) → (is_open s ≡ true → NotNext (this_word (codes "else")) rest)
    → Gets (read_stmt calls room (stmts_inside calls room) (block_inside calls room) (stmt_first s)) (stmt_tail s ++ rest) (one_stmt s) rest
stmt_read calls (g.simple s) k room rest n = simple_read calls _ s k room rest n
stmt_read calls (g.block ls ss) k room rest n = k room rest

-- one statement more, behind which tokens stand
tokens_case : (calls : Bool) (ss : StmtsText calls) (s : StmtText calls) → StmtsGets calls ss → StmtGets calls s → (room : ℕ) (place : Place) (l : Loop calls room place) (rest : List Symbol) → (is_open s ≡ true → NotNext (this_word (codes "else")) rest) → (d : ReadAt calls place) (end : List Symbol)
    → Gets (all first_of l.more (l.put (g.and_stmt ss s))) rest d end → Gets (all first_of l.more (l.put g.no_stmts)) (stmts_symbols (g.and_stmt ss s) ++ rest) d end
tokens_case calls ss s k m room place l rest n d end h =
    let alone : (ends_open ss ≡ true → NotNext (this_word (codes "else")) (stmt_symbols s ++ rest)) → Gets (all first_of l.more (l.put g.no_stmts)) (stmts_symbols (g.and_stmt ss s) ++ rest) d end
    = λ o. regroup (stmts_symbols ss) (stmt_symbols s) rest
    (k room place l (tokens (stmt_symbols s ++ rest) o) d end
    (subst (λ k. Gets (all first_of l.more (l.put ss)) (k ++ rest) d end) (sym (stmt_split s))
    (gets_turn l.reader (first_test.passes (stmt_first s)) (l.one ss s rest rest (one_stmt s) (stmt_read calls s m room rest n)) h))) in
    elim (begins_else s) as (λ (b : Bool). begins_else s ≡ b → Gets (all first_of l.more (l.put g.no_stmts)) (stmts_symbols (g.and_stmt ss s) ++ rest) d end) [
      | false ↦ λ q. alone (λ o. not_else s rest q)
      | true ↦ λ q. elim (ends_open ss) as (λ (b : Bool). ends_open ss ≡ b → Gets (all first_of l.more (l.put g.no_stmts)) (stmts_symbols (g.and_stmt ss s) ++ rest) d end) [
        | false ↦ λ f. alone (λ o. absurd (false≢true (sym f ∙ o)))
        | true ↦ λ f. let p = else_assigns s q in
            subst (λ s. Gets (all first_of l.more (l.put (g.and_stmt ss s))) rest d end → Gets (all first_of l.more (l.put g.no_stmts)) (stmts_symbols (g.and_stmt ss s) ++ rest) d end) (sym p.3)
            (λ h. regroup (stmts_symbols ss) (stmt_symbols (g.simple (g.assign (codes "else") p.0 p.1 p.2))) rest (k room place l (assigns f p.0 p.1 p.2 rest) d end h)) h
      ] refl
    ] refl

-- an open statement, and an assignment to `else` behind it
assigned_last : (calls : Bool) (ss : StmtsText calls) (dangles : Bool) (t : SimpleText calls dangles) → StmtsGets calls ss → SimpleGets calls dangles t → dangles ≡ true → (room : ℕ) (place : Place) (l : Loop calls room place) (ds : DimsText calls) (op : Option Op) (v : ValueText calls 6) (rest : List Symbol) (d : ReadAt calls place) (end : List Symbol)
    → Gets (all first_of l.more (l.put (g.and_stmt (g.and_stmt ss (g.simple t)) (g.simple (g.assign (codes "else") ds op v))))) rest d end
    → Gets (all first_of l.more (l.put g.no_stmts)) ((stmts_symbols ss ++ simple_symbols t) ++ word (codes "else") ∷ (simple_tail (g.assign (codes "else") ds op v) ++ rest)) d end
assigned_last calls ss false t k m j room place l ds op v rest d end h = absurd (false≢true j)
assigned_last calls ss true t k m j room place l ds op v rest d end h =
    let us = word (codes "else") ∷ (simple_tail (g.assign (codes "else") ds op v) ++ rest) in
    regroup (stmts_symbols ss) (simple_symbols t) us
    (k room place l (tokens (simple_symbols t ++ us) (λ o. not_else (g.simple t) us (open_begins t))) d end
    (subst (λ k. Gets (all first_of l.more (l.put ss)) (k ++ us) d end) (sym (simple_split t))
    (gets_turn l.reader (first_test.passes (a_word (first_word t))) (l.one ss (g.simple t) us rest (and_else t (g.assign (codes "else") ds op v)) (m room None (an_else ds op v rest))) h)))

assigns_case : (calls : Bool) (ss : StmtsText calls) (s : StmtText calls) → StmtsGets calls ss → StmtGets calls s → is_open s ≡ true → (room : ℕ) (place : Place) (l : Loop calls room place) (ds : DimsText calls) (op : Option Op) (v : ValueText calls 6) (rest : List Symbol) (d : ReadAt calls place) (end : List Symbol)
    → Gets (all first_of l.more (l.put (g.and_stmt (g.and_stmt ss s) (g.simple (g.assign (codes "else") ds op v))))) rest d end
    → Gets (all first_of l.more (l.put g.no_stmts)) (stmts_symbols (g.and_stmt ss s) ++ word (codes "else") ∷ (simple_tail (g.assign (codes "else") ds op v) ++ rest)) d end
assigns_case calls ss (g.simple t) k m j room place l ds op v rest d end h = assigned_last calls ss _ t k m j room place l ds op v rest d end h
assigns_case calls ss (g.block ls ts) k m j room place l ds op v rest d end h = absurd (false≢true j)

no_case : (calls : Bool) → StmtsGets calls g.no_stmts
no_case calls room place l (tokens rest n) d end h = h
no_case calls room place l (assigns j ds op v rest) d end h = absurd (false≢true j)

and_case : (calls : Bool) (ss : StmtsText calls) (s : StmtText calls) → StmtsGets calls ss → StmtGets calls s → StmtsGets calls (g.and_stmt ss s)
and_case calls ss s k m room place l (tokens rest n) d end h = tokens_case calls ss s k m room place l rest n d end h
and_case calls ss s k m room place l (assigns j ds op v rest) d end h = assigns_case calls ss s k m j room place l ds op v rest d end h

mutual
  simple_gets : (calls dangles : Bool) (s : SimpleText calls dangles) → SimpleGets calls dangles s
  simple_gets calls dangles (g.for_loop iterator low tested strict high step body) = for_case calls _ iterator low tested strict high step body (body_gets calls _ body)
  simple_gets calls dangles (g.if_then c body) = then_case calls _ c body (body_gets calls _ body)
  simple_gets calls dangles (g.if_else c body other) = else_case calls _ c body other (body_gets calls _ body) (body_gets calls _ other)
  simple_gets calls dangles (g.assign w ds op v) = assign_case calls w ds op v

  body_gets : (calls dangles : Bool) (body : BodyText calls dangles) → BodyGets calls dangles body
  body_gets calls dangles (g.braces ss) = braces_case calls ss (stmts_gets calls ss)
  body_gets calls dangles (g.bare s) = bare_case calls _ s (simple_gets calls _ s)

  stmt_gets : (calls : Bool) (s : StmtText calls) → StmtGets calls s
  stmt_gets calls (g.simple s) = simple_gets calls _ s
  stmt_gets calls (g.block ls ss) = block_case calls ls ss (stmts_gets calls ss)

  stmts_gets : (calls : Bool) (ss : StmtsText calls) → StmtsGets calls ss
  stmts_gets calls g.no_stmts = no_case calls
  stmts_gets calls (g.and_stmt ss s) = and_case calls ss s (stmts_gets calls ss) (stmt_gets calls s)

pub stmts_open : (calls : Bool) (room : ℕ) (place : Place) (l : Loop calls room place) (c : StmtsText calls) (f : Follow calls (ends_open c)) (d : ReadAt calls place) (end : List Symbol) → Gets (all first_of l.more (l.put (with_follow c f))) (follow_rest f) d end
    → Gets (all first_of l.more (l.put g.no_stmts)) (stmts_symbols c ++ follow_symbols f) d end
stmts_open calls room place l c f d end h = stmts_gets calls c room place l f d end h
