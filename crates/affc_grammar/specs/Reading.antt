-- Reading a text of the grammar by one token of foresight. `room` is how many brackets may be open at once.
use Rattle.std.specs.Prelude.{ℕ, zero, suc, Bool, true, false, not, ◌||◌, ◌==◌, List, [], ◌∷◌, codes, IsTrue, refl, Option, Some, None, if◌then◌else◌}
use Rattle.affc_lex.specs.declared.token.Kind.{Kind}
use Rattle.affc_lex.specs.declared.token.Kind.TheVariants.{Number, Value, Header, Prelude}
use Rattle.affc_lex.specs.Bytes.{same}
use Rattle.affc_lex.specs.Lexes.{is_hash, is_line_end}
use Rattle.affc_lex.specs.Pieces.{prelude as prelude_bytes}
use Rattle.affc_ast.specs.declared.tree.Op.{Op}
use Rattle.affc_ast.specs.declared.tree.Op.TheVariants.{Add, Sub, Mul, And, Or, Xor}
use Rattle.affc_ast.specs.declared.tree.Rel.{Rel}
use Rattle.affc_ast.specs.declared.tree.Rel.TheVariants.{Less, LessEqual, Greater, GreaterEqual, Equal, NotEqual}
use Rattle.affc_ast.specs.Joined.{is_ordered}
use Rattle.affc_grammar.specs.Grammar as g
use Rattle.affc_grammar.specs.Grammar.{Symbol, Name, Digits, LineText, line_feed, text_end, Choice, minimum, maximum, remainder, Rounding, down, up, choice_name, rounding_name, is_divisor, is_shift, is_word_kind, is_mark_kind, op_mark, assign_mark, level_of, IxText, TermText, FactorText, AtomText, DimsText, CondText, AllText, PrimText, ValueText, StepText, LocalsText, StmtsText, StmtText, SimpleText, BodyText, ParamText, ParamsText, NamesText, DeclsText, FunctionText, IntText, PragmasText, Text, context_calls}
use Rattle.affc_grammar.specs.Reader.{Reader, give, fail, deep, after, either, on, all, Turn, going, done, until, and_on, inside, finished}

-- ---- Tests of one token

-- what a table has for these bytes
abbrev pub choose : {K : Type 0} → List (List ℕ × K) → List ℕ → Option K
choose [] bytes = None
choose (row ∷ rows) bytes = if same row.0 bytes then Some row.1 else choose rows bytes

abbrev pub the_bytes : List ℕ → List ℕ → Option (Unit {0})
the_bytes bytes = choose ((bytes, tt) ∷ [])

abbrev pub of_kind : {K : Type 0} → (Kind → Bool) → (List ℕ → Option K) → Symbol → Option K
of_kind is_kind f s = if is_kind s.kind then f s.bytes else None

abbrev pub this_mark : List ℕ → Symbol → Option (Unit {0})
this_mark bytes = of_kind is_mark_kind (the_bytes bytes)

abbrev pub this_word : Name → Symbol → Option (Unit {0})
this_word w = of_kind is_word_kind (the_bytes w)

abbrev pub any_word : Symbol → Option Name
any_word = of_kind is_word_kind Some

abbrev pub is_number_kind : Kind → Bool
is_number_kind Number = true
is_number_kind _ = false

abbrev pub is_value_kind : Kind → Bool
is_value_kind Value = true
is_value_kind _ = false

abbrev pub is_header_kind : Kind → Bool
is_header_kind Header = true
is_header_kind _ = false

abbrev pub is_prelude_kind : Kind → Bool
is_prelude_kind Prelude = true
is_prelude_kind _ = false

abbrev pub any_number : Symbol → Option Digits
any_number = of_kind is_number_kind Some

abbrev pub any_value : Symbol → Option (List ℕ)
any_value = of_kind is_value_kind Some

abbrev pub hash : Symbol → Option (Unit {0})
hash = of_kind is_hash (the_bytes (codes "#"))

abbrev pub header : Symbol → Option (Unit {0})
header = of_kind is_header_kind (the_bytes (codes "<stdint.h>"))

abbrev pub the_prelude : Symbol → Option (Unit {0})
the_prelude = of_kind is_prelude_kind (the_bytes prelude_bytes)

abbrev pub line_end : Symbol → Option LineText
line_end = of_kind is_line_end (choose ((codes "\n", line_feed) ∷ ([], text_end) ∷ []))

-- these bytes, where they pass the test
abbrev pub holding : (b : Bool) → Option (IsTrue b)
holding true = Some refl
holding false = None

abbrev pub with_proof : {A : Type 0} {P : A → Type 0} (a : A) → Option (P a) → Option ((a : A) × P a)
with_proof a None = None
with_proof a (Some h) = Some (a, h)

abbrev pub divisor : Symbol → Option ((by : Digits) × IsTrue (is_divisor by))
divisor = of_kind is_number_kind (λ bytes. with_proof bytes (holding (is_divisor bytes)))

abbrev pub shift_number : Symbol → Option ((by : Digits) × IsTrue (is_shift by))
shift_number = of_kind is_number_kind (λ bytes. with_proof bytes (holding (is_shift bytes)))

-- ---- Whole-number expressions; `inner` reads one behind an opened bracket

pub data Callee : Type 0 where
  of_choice : Choice → Callee
  of_rounding : Rounding → Callee

abbrev pub callee_name : Callee → Name
callee_name (of_choice f) = choice_name f
callee_name (of_rounding f) = rounding_name f

abbrev pub callees : List (List ℕ × Callee)
callees =
    (codes "affc_min", of_choice minimum) ∷ (codes "affc_max", of_choice maximum) ∷ (codes "affc_mod", of_choice remainder)
    ∷ (codes "affc_floord", of_rounding down) ∷ (codes "affc_ceild", of_rounding up) ∷ []

-- behind the "(" of a call
abbrev pub read_call : Reader Symbol (IxText true) → Callee → Reader Symbol (AtomText true)
read_call inner (of_choice f) = after inner λ a. on (this_mark (codes ",")) λ _. after inner λ b. on (this_mark (codes ")")) λ _. give (g.chosen refl f a b)
read_call inner (of_rounding f) = after inner λ a. on (this_mark (codes ",")) λ _. on divisor λ by. on (this_mark (codes ")")) λ _. give (g.divided refl f a by.0 by.1)

abbrev pub read_called : Reader Symbol (IxText true) → Name → Option Callee → Reader Symbol (AtomText true)
read_called inner w None = give (g.name w)
read_called inner w (Some f) = either (this_mark (codes "(")) (λ _. read_call inner f) (give (g.name w))

-- behind a Word
abbrev pub read_named : (prelude : Bool) → Reader Symbol (IxText prelude) → Name → Reader Symbol (AtomText prelude)
read_named true inner w = read_called inner w (choose callees w)
read_named false inner w = give (g.name w)

abbrev pub read_atom : (prelude : Bool) → Reader Symbol (IxText prelude) → Reader Symbol (AtomText prelude)
read_atom prelude inner =
    either any_number (λ digits. give (g.literal digits))
    (either any_word (λ w. read_named prelude inner w)
    (on (this_mark (codes "(")) λ _. after inner λ a. on (this_mark (codes ")")) λ _. give (g.grouped a)))

abbrev pub read_factor : (prelude : Bool) → Reader Symbol (IxText prelude) → Reader Symbol (FactorText prelude)
read_factor prelude inner =
    either (this_mark (codes "-")) (λ _. after (read_atom prelude inner) λ a. give (g.negated a))
    (after (read_atom prelude inner) λ a. give (g.atom a))

abbrev pub times_more : (prelude : Bool) → Reader Symbol (IxText prelude) → Unit {0} → TermText prelude → Reader Symbol (TermText prelude)
times_more prelude inner _ a = after (read_factor prelude inner) λ b. give (g.times a b)

-- further factors
abbrev pub read_factors : (prelude : Bool) → Reader Symbol (IxText prelude) → FactorText prelude → Reader Symbol (TermText prelude)
read_factors prelude inner a = all (this_mark (codes "*")) (times_more prelude inner) (g.factor a)

abbrev pub read_term : (prelude : Bool) → Reader Symbol (IxText prelude) → Reader Symbol (TermText prelude)
read_term prelude inner = after (read_factor prelude inner) (read_factors prelude inner)

-- whether it is a "+"
abbrev pub sum_sign : Symbol → Option Bool
sum_sign = of_kind is_mark_kind (choose ((codes "+", true) ∷ (codes "-", false) ∷ []))

abbrev pub joined : {prelude : Bool} → Bool → IxText prelude → TermText prelude → IxText prelude
joined true = g.plus
joined false = g.minus

abbrev pub sum_more : (prelude : Bool) → Reader Symbol (IxText prelude) → Bool → IxText prelude → Reader Symbol (IxText prelude)
sum_more prelude inner is_plus a = after (read_term prelude inner) λ b. give (joined is_plus a b)

-- further terms
abbrev pub read_terms : (prelude : Bool) → Reader Symbol (IxText prelude) → TermText prelude → Reader Symbol (IxText prelude)
read_terms prelude inner a = all sum_sign (sum_more prelude inner) (g.term a)

abbrev pub read_sum : (prelude : Bool) → Reader Symbol (IxText prelude) → Reader Symbol (IxText prelude)
read_sum prelude inner = after (read_term prelude inner) (read_terms prelude inner)

-- behind a bracket that was opened where so many could be
unfoldable pub ix_inside : (prelude : Bool) → (room : ℕ) → Reader Symbol (IxText prelude)
ix_inside prelude zero = deep
ix_inside prelude (suc room) = read_sum prelude (ix_inside prelude room)

abbrev pub read_ix : (prelude : Bool) → (room : ℕ) → Reader Symbol (IxText prelude)
read_ix prelude room = read_sum prelude (ix_inside prelude room)

abbrev pub dims_more : (prelude : Bool) → (room : ℕ) → Unit {0} → DimsText prelude → Reader Symbol (DimsText prelude)
dims_more prelude room _ ds = after (ix_inside prelude room) λ a. on (this_mark (codes "]")) λ _. give (g.and_dim ds a)

abbrev pub read_dims : (prelude : Bool) → (room : ℕ) → Reader Symbol (DimsText prelude)
read_dims prelude room = all (this_mark (codes "[")) (dims_more prelude room) g.no_dims

-- behind the first "["
abbrev pub dims_behind : (prelude : Bool) → (room : ℕ) → Reader Symbol (DimsText prelude)
dims_behind prelude room = after (dims_more prelude room tt g.no_dims) (all (this_mark (codes "[")) (dims_more prelude room))

-- ---- Conditions. What stands in parentheses may be a condition or an expression; what follows tells.

pub data Half (prelude wide : Bool) : Type 0 where
  condition : PrimText prelude wide → Half prelude wide
  expression : IxText prelude → Half prelude wide

pub data Mixed (prelude wide : Bool) : Type 0 where
  conditions : CondText prelude wide → Mixed prelude wide
  index : IxText prelude → Mixed prelude wide

abbrev pub rels : List (List ℕ × Rel)
rels = (codes "<", Less) ∷ (codes "<=", LessEqual) ∷ (codes ">", Greater) ∷ (codes ">=", GreaterEqual) ∷ (codes "==", Equal) ∷ (codes "!=", NotEqual) ∷ []

abbrev pub at_width : (wide : Bool) → Option Rel → Option ((rel : Rel) × IsTrue (wide || is_ordered rel))
at_width wide None = None
at_width wide (Some rel) = with_proof rel (holding (wide || is_ordered rel))

abbrev pub rel_of : (wide : Bool) → Symbol → Option ((rel : Rel) × IsTrue (wide || is_ordered rel))
rel_of wide = of_kind is_mark_kind (λ bytes. at_width wide (choose rels bytes))

-- whether it is "=="
abbrev pub zero_sign : Symbol → Option Bool
zero_sign = of_kind is_mark_kind (choose ((codes "==", true) ∷ (codes "!=", false) ∷ []))

abbrev pub zero_number : Symbol → Option (Unit {0})
zero_number = of_kind is_number_kind (the_bytes (codes "0"))

-- behind the "%" of a remainder
abbrev pub read_remainder : {prelude : Bool} → TermText prelude → Reader Symbol (Half prelude true)
read_remainder t = on divisor λ by. on zero_sign λ so. on zero_number λ _. give (condition (g.divisible refl t by.0 by.1 so))

-- behind an expression that isn't compared: a single term may have a remainder
abbrev pub read_divided : {prelude : Bool} (wide : Bool) → IxText prelude → Reader Symbol (Half prelude wide)
read_divided true (g.term t) = either (this_mark (codes "%")) (λ _. read_remainder t) (give (expression (g.term t)))
read_divided wide a = give (expression a)

-- behind an expression
abbrev pub read_compared : (prelude wide : Bool) → Reader Symbol (IxText prelude) → IxText prelude → Reader Symbol (Half prelude wide)
read_compared prelude wide inner a = either (rel_of wide) (λ rel. after (read_sum prelude inner) λ b. give (condition (g.compared a rel.0 rel.1 b))) (read_divided wide a)

-- behind what stands in parentheses
abbrev pub read_closed : (prelude wide : Bool) → Reader Symbol (IxText prelude) → Mixed prelude wide → Reader Symbol (Half prelude wide)
read_closed prelude wide inner (conditions c) = give (condition (g.enclosed c))
read_closed prelude wide inner (index a) = after (read_factors prelude inner (g.atom (g.grouped a))) λ b. after (read_terms prelude inner b) λ c. read_compared prelude wide inner c

abbrev pub read_half : (prelude wide : Bool) → Reader Symbol (IxText prelude) → Reader Symbol (Mixed prelude wide) → Reader Symbol (Half prelude wide)
read_half prelude wide inner mixed =
    either (this_mark (codes "(")) (λ _. after mixed λ m. on (this_mark (codes ")")) λ _. read_closed prelude wide inner m)
    (after (read_sum prelude inner) λ a. read_compared prelude wide inner a)

abbrev pub only_condition : {prelude wide : Bool} → Half prelude wide → Reader Symbol (PrimText prelude wide)
only_condition (condition q) = give q
only_condition (expression a) = fail

abbrev pub read_prim : (prelude wide : Bool) → Reader Symbol (IxText prelude) → Reader Symbol (Mixed prelude wide) → Reader Symbol (PrimText prelude wide)
read_prim prelude wide inner mixed = after (read_half prelude wide inner mixed) only_condition

abbrev pub and_more : (prelude wide : Bool) → Reader Symbol (IxText prelude) → Reader Symbol (Mixed prelude wide) → Unit {0} → AllText prelude wide → Reader Symbol (AllText prelude wide)
and_more prelude wide inner mixed _ a = after (read_prim prelude wide inner mixed) λ q. give (g.and_prim a q)

-- what further is joined by "&&"
abbrev pub read_ands : (prelude wide : Bool) → Reader Symbol (IxText prelude) → Reader Symbol (Mixed prelude wide) → PrimText prelude wide → Reader Symbol (AllText prelude wide)
read_ands prelude wide inner mixed q = all (this_mark (codes "&&")) (and_more prelude wide inner mixed) (g.prim q)

abbrev pub or_more : (prelude : Bool) → Reader Symbol (IxText prelude) → Reader Symbol (Mixed prelude true) → Unit {0} → CondText prelude true → Reader Symbol (CondText prelude true)
or_more prelude inner mixed _ c = after (read_prim prelude true inner mixed) λ q. after (read_ands prelude true inner mixed q) λ a. give (g.or_all refl c a)

-- what further is joined by "||"
abbrev pub read_ors : (prelude wide : Bool) → Reader Symbol (IxText prelude) → Reader Symbol (Mixed prelude wide) → AllText prelude wide → Reader Symbol (CondText prelude wide)
read_ors prelude true inner mixed a = all (this_mark (codes "||")) (or_more prelude inner mixed) (g.all_of a)
read_ors prelude false inner mixed a = give (g.all_of a)

abbrev pub read_half_more : (prelude wide : Bool) → Reader Symbol (IxText prelude) → Reader Symbol (Mixed prelude wide) → Half prelude wide → Reader Symbol (Mixed prelude wide)
read_half_more prelude wide inner mixed (condition q) = after (read_ands prelude wide inner mixed q) λ a. after (read_ors prelude wide inner mixed a) λ c. give (conditions c)
read_half_more prelude wide inner mixed (expression a) = give (index a)

unfoldable pub mixed_inside : (prelude wide : Bool) → (room : ℕ) → Reader Symbol (Mixed prelude wide)
mixed_inside prelude wide zero = deep
mixed_inside prelude wide (suc room) = after (read_half prelude wide (ix_inside prelude room) (mixed_inside prelude wide room)) (read_half_more prelude wide (ix_inside prelude room) (mixed_inside prelude wide room))

abbrev pub read_cond : (prelude wide : Bool) → (room : ℕ) → Reader Symbol (CondText prelude wide)
read_cond prelude wide room =
    after (read_prim prelude wide (ix_inside prelude room) (mixed_inside prelude wide room)) λ q.
    after (read_ands prelude wide (ix_inside prelude room) (mixed_inside prelude wide room) q) λ a. after (read_ors prelude wide (ix_inside prelude room) (mixed_inside prelude wide room) a) give

-- ---- Values; `inner` reads one behind an opened bracket

-- `uint64_t` alone, with which in parentheses a cast begins
abbrev pub is_type_name : {prelude : Bool} {n : ℕ} → ValueText prelude n → Bool
is_type_name (g.load w g.no_dims) = same w (codes "uint64_t")
is_type_name (g.operand v) = is_type_name v
is_type_name _ = false

-- behind "(" value ")", where the value is `uint64_t` alone or is something else
abbrev pub read_parens : (prelude : Bool) → (room : ℕ) → ValueText prelude 6 → (is_type : Bool) → Reader Symbol (ValueText prelude 0)
read_parens prelude room v true = either (this_mark (codes "(")) (λ _. after (ix_inside prelude room) λ a. on (this_mark (codes ")")) λ _. give (g.cast a)) (give (g.parens v))
read_parens prelude room v false = give (g.parens v)

-- a value without "~" in front
abbrev pub read_plain : (prelude : Bool) → (room : ℕ) → Reader Symbol (ValueText prelude 6) → Reader Symbol (ValueText prelude 0)
read_plain prelude room inner =
    either any_value (λ bytes. give (g.constant bytes))
    (either any_word (λ w. after (read_dims prelude room) λ ds. give (g.load w ds))
    (on (this_mark (codes "(")) λ _. after inner λ v. on (this_mark (codes ")")) λ _. read_parens prelude room v (is_type_name v)))

abbrev pub complements : {prelude : Bool} → ℕ → ValueText prelude 0 → ValueText prelude 0
complements zero v = v
complements (suc n) v = complements n (g.complement v)

-- how many "~" stand here
abbrev pub read_tildes : Reader Symbol ℕ
read_tildes = all (this_mark (codes "~")) (λ _ n. give (suc n)) zero

abbrev pub read_primary : (prelude : Bool) → (room : ℕ) → Reader Symbol (ValueText prelude 6) → Reader Symbol (ValueText prelude 0)
read_primary prelude room inner = after read_tildes λ n. after (read_plain prelude room inner) λ v. give (complements n v)

abbrev pub ops : List (List ℕ × Op)
ops = (codes "*", Mul) ∷ (codes "+", Add) ∷ (codes "-", Sub) ∷ (codes "&", And) ∷ (codes "^", Xor) ∷ (codes "|", Or) ∷ []

-- an operator of level n + 1
abbrev pub at_level : (n : ℕ) → Option Op → Option ((op : Op) × IsTrue (level_of op == suc n))
at_level n None = None
at_level n (Some op) = with_proof op (holding (level_of op == suc n))

abbrev pub op_of : (n : ℕ) → Symbol → Option ((op : Op) × IsTrue (level_of op == suc n))
op_of n = of_kind is_mark_kind (λ bytes. at_level n (choose ops bytes))

abbrev pub op_more : {prelude : Bool} (n : ℕ) → Reader Symbol (ValueText prelude n) → (op : Op) × IsTrue (level_of op == suc n) → ValueText prelude (suc n) → Reader Symbol (ValueText prelude (suc n))
op_more n level op a = after level λ b. give (g.binary a op.0 op.1 b)

-- whether it is to the left
abbrev pub shift_sign : Symbol → Option Bool
shift_sign = of_kind is_mark_kind (choose ((codes "<<", true) ∷ (codes ">>", false) ∷ []))

abbrev pub shift_more : {prelude : Bool} → Bool → ValueText prelude 3 → Reader Symbol (ValueText prelude 3)
shift_more left a = on shift_number λ by. give (g.shift a left by.0 by.1)

-- further operands of level n + 1
abbrev pub read_operands : {prelude : Bool} (n : ℕ) → Reader Symbol (ValueText prelude n) → ValueText prelude n → Reader Symbol (ValueText prelude (suc n))
read_operands (suc (suc zero)) level a = all shift_sign shift_more (g.operand a)
read_operands n level a = all (op_of n) (op_more n level) (g.operand a)

abbrev pub read_level : {prelude : Bool} → Reader Symbol (ValueText prelude 0) → (n : ℕ) → Reader Symbol (ValueText prelude n)
read_level primary zero = primary
read_level primary (suc n) = after (read_level primary n) (read_operands n (read_level primary n))

unfoldable pub value_inside : (prelude : Bool) → (room : ℕ) → Reader Symbol (ValueText prelude 6)
value_inside prelude zero = deep
value_inside prelude (suc room) = read_level (read_primary prelude room (value_inside prelude room)) 6

abbrev pub read_value : (prelude : Bool) → (room : ℕ) → Reader Symbol (ValueText prelude 6)
read_value prelude room = read_level (read_primary prelude room (value_inside prelude room)) 6

-- ---- Statements

abbrev pub one : Symbol → Option (Unit {0})
one = of_kind is_number_kind (the_bytes (codes "1"))

abbrev pub read_step : Reader Symbol StepText
read_step =
    either (this_mark (codes "++")) (λ _. on any_word λ w. give (g.up_then w))
    (on any_word λ w. either (this_mark (codes "++")) (λ _. give (g.then_up w)) (on (this_mark (codes "+=")) λ _. on one λ _. give (g.up_by_one w)))

-- whether it is "<"
abbrev pub bound_of : Symbol → Option Bool
bound_of = of_kind is_mark_kind (choose ((codes "<", true) ∷ (codes "<=", false) ∷ []))

abbrev pub assign_of : Symbol → Option (Option Op)
assign_of = of_kind is_mark_kind (choose ((codes "=", None) ∷ (codes "+=", Some Add) ∷ (codes "-=", Some Sub) ∷ (codes "*=", Some Mul) ∷ (codes "&=", Some And) ∷ (codes "|=", Some Or) ∷ (codes "^=", Some Xor) ∷ []))

-- what stands before a body
pub data Head (prelude : Bool) : Type 0 where
  for_head : (iterator : Name) → (low : IxText prelude) → (tested : Name) → (strict : Bool) → (high : IxText prelude) → StepText → Head prelude
  if_head : CondText prelude true → Head prelude
  -- an `if` with its body and the `else`
  else_head : CondText prelude true → BodyText prelude false → Head prelude

-- one before another, each of them the beginning of the body of the one before
pub data Heads (prelude : Bool) : Type 0 where
  head : Head prelude → Heads prelude
  and_head : Heads prelude → Head prelude → Heads prelude

-- after the heads before it, if there are any
abbrev pub and_one : {prelude : Bool} → Option (Heads prelude) → Head prelude → Heads prelude
and_one None h = head h
and_one (Some hs) h = and_head hs h

-- an open statement under heads
abbrev pub with_open : {prelude : Bool} → Head prelude → BodyText prelude true → SimpleText prelude true
with_open (for_head iterator low tested strict high step) body = g.for_loop iterator low tested strict high step body
with_open (if_head c) body = g.if_then c body
with_open (else_head c body) other = g.if_else c body other

abbrev pub under : {prelude : Bool} → Heads prelude → BodyText prelude true → SimpleText prelude true
under (head h) body = with_open h body
under (and_head hs h) body = under hs (g.bare (with_open h body))

abbrev pub opened : {prelude : Bool} → Option (Heads prelude) → SimpleText prelude true → SimpleText prelude true
opened None s = s
opened (Some hs) s = under hs (g.bare s)

-- what a body under heads makes: a closed statement, or one that waits for an `else`
pub data Closing (prelude : Bool) : Type 0 where
  closed : SimpleText prelude false → Closing prelude
  -- the nearest `if` without `else`, and the heads before it
  waiting : Option (Heads prelude) → CondText prelude true → BodyText prelude false → Closing prelude

abbrev pub close : {prelude : Bool} → Heads prelude → BodyText prelude false → Closing prelude
close (head (for_head iterator low tested strict high step)) body = closed (g.for_loop iterator low tested strict high step body)
close (head (if_head c)) body = waiting None c body
close (head (else_head c body)) other = closed (g.if_else c body other)
close (and_head hs (for_head iterator low tested strict high step)) body = close hs (g.bare (g.for_loop iterator low tested strict high step body))
close (and_head hs (if_head c)) body = waiting (Some hs) c body
close (and_head hs (else_head c body)) other = close hs (g.bare (g.if_else c body other))

abbrev pub close_one : {prelude : Bool} → Option (Heads prelude) → SimpleText prelude false → Closing prelude
close_one None s = closed s
close_one (Some hs) s = close hs (g.bare s)

-- where no `else` follows
abbrev pub settled : {prelude : Bool} → Closing prelude → StmtText prelude
settled (closed s) = g.simple s
settled (waiting hs c body) = g.simple (opened hs (g.if_then c body))

-- what is read of statements: one, or an open one and then an assignment to an array `else`
pub data Ended (prelude : Bool) : Type 0 where
  one_stmt : StmtText prelude → Ended prelude
  and_else : SimpleText prelude true → SimpleText prelude false → Ended prelude

abbrev pub and_ended : {prelude : Bool} → StmtsText prelude → Ended prelude → StmtsText prelude
and_ended ss (one_stmt s) = g.and_stmt ss s
and_ended ss (and_else s t) = g.and_stmt (g.and_stmt ss (g.simple s)) (g.simple t)

-- behind `for (`
abbrev pub read_for : (prelude : Bool) → (room : ℕ) → Reader Symbol (Head prelude)
read_for prelude room =
    on (this_word (codes "int64_t")) λ _. on any_word λ iterator. on (this_mark (codes "=")) λ _. after (ix_inside prelude room) λ low. on (this_mark (codes ";")) λ _.
    on any_word λ tested. on bound_of λ strict. after (ix_inside prelude room) λ high. on (this_mark (codes ";")) λ _.
    after read_step λ step. on (this_mark (codes ")")) λ _. give (for_head iterator low tested strict high step)

-- behind `if (`
abbrev pub read_if : (prelude : Bool) → (room : ℕ) → Reader Symbol (Head prelude)
read_if prelude room = after (inside (read_cond prelude true) room) λ c. on (this_mark (codes ")")) λ _. give (if_head c)

-- behind the operator of an assignment
abbrev pub read_stored : (prelude : Bool) → (room : ℕ) → Name → DimsText prelude → Option Op → Reader Symbol (SimpleText prelude false)
read_stored prelude room w ds op = after (read_value prelude room) λ v. on (this_mark (codes ";")) λ _. give (g.assign w ds op v)

-- behind the first Word of an assignment
abbrev pub read_assign : (prelude : Bool) → (room : ℕ) → Name → Reader Symbol (SimpleText prelude false)
read_assign prelude room w = after (read_dims prelude room) λ ds. on assign_of λ op. read_stored prelude room w ds op

abbrev pub read_two : {prelude : Bool} → SimpleText prelude true → Reader Symbol (SimpleText prelude false) → Reader Symbol (Turn (Heads prelude) (Ended prelude))
read_two s assigned = after assigned λ t. give (done (and_else s t))

-- behind `else` after an open statement: it is an array where "[" or the operator of an assignment follows, else that of the nearest `if`
abbrev pub read_else : (prelude : Bool) → (room : ℕ) → Option (Heads prelude) → CondText prelude true → BodyText prelude false → Reader Symbol (Turn (Heads prelude) (Ended prelude))
read_else prelude room hs c body =
    let s = opened hs (g.if_then c body) in
    either (this_mark (codes "["))
    (λ _. after (dims_behind prelude room) λ ds. on assign_of λ op. read_two s (read_stored prelude room (codes "else") ds op))
    (either assign_of (λ op. read_two s (read_stored prelude room (codes "else") g.no_dims op)) (give (going (and_one hs (else_head c body)))))

abbrev pub read_closing : (prelude : Bool) → (room : ℕ) → Closing prelude → Reader Symbol (Turn (Heads prelude) (Ended prelude))
read_closing prelude room (closed s) = give (done (one_stmt (settled (closed s))))
read_closing prelude room (waiting hs c body) = either (this_word (codes "else")) (λ _. read_else prelude room hs c body) (give (done (one_stmt (settled (waiting hs c body)))))

-- whether it is `for`; else it is `if`
abbrev pub head_words : List (List ℕ × Bool)
head_words = (codes "for", true) ∷ (codes "if", false) ∷ []

abbrev pub read_head : (prelude : Bool) → (room : ℕ) → (is_for : Bool) → Reader Symbol (Head prelude)
read_head prelude room true = read_for prelude room
read_head prelude room false = read_if prelude room

abbrev pub assigned_under : (prelude : Bool) → (room : ℕ) → Option (Heads prelude) → Name → Reader Symbol (Turn (Heads prelude) (Ended prelude))
assigned_under prelude room hs w = after (read_assign prelude room w) λ s. read_closing prelude room (close_one hs s)

-- behind a Word, which is a head's where a "(" follows; else it is the first of an assignment
abbrev pub read_worded : (prelude : Bool) → (room : ℕ) → Option (Heads prelude) → Name → Option Bool → Reader Symbol (Turn (Heads prelude) (Ended prelude))
read_worded prelude room hs w None = assigned_under prelude room hs w
read_worded prelude room hs w (Some is_for) = either (this_mark (codes "(")) (λ _. after (read_head prelude room is_for) λ h. give (going (and_one hs h))) (assigned_under prelude room hs w)

-- the first token of a statement
pub data First : Type 0 where
  a_word : Name → First
  a_brace : First

abbrev pub brace_or_none : Option (Unit {0}) → Option First
brace_or_none None = None
brace_or_none (Some _) = Some a_brace

abbrev pub word_or : Option Name → Option First → Option First
word_or None other = other
word_or (Some w) other = Some (a_word w)

abbrev pub first_of : Symbol → Option First
first_of s = word_or (any_word s) (brace_or_none (this_mark (codes "{") s))

-- the first token of a body behind heads; `body` reads what stands behind its "{"
abbrev pub read_body : (prelude : Bool) → (room : ℕ) → Reader Symbol (StmtsText prelude) → First → Heads prelude → Reader Symbol (Turn (Heads prelude) (Ended prelude))
read_body prelude room body (a_word w) hs = read_worded prelude room (Some hs) w (choose head_words w)
read_body prelude room body a_brace hs = after body λ ss. read_closing prelude room (close hs (g.braces ss))

-- behind heads, or behind a statement
abbrev pub read_under : (prelude : Bool) → (room : ℕ) → Reader Symbol (StmtsText prelude) → Turn (Heads prelude) (Ended prelude) → Reader Symbol (Ended prelude)
read_under prelude room body = and_on (until first_of (read_body prelude room body))

-- behind the first Word of a statement
abbrev pub read_simple : (prelude : Bool) → (room : ℕ) → Reader Symbol (StmtsText prelude) → Name → Reader Symbol (Ended prelude)
read_simple prelude room body w = after (read_worded prelude room None w (choose head_words w)) (read_under prelude room body)

-- behind the first token of a statement; `block` reads what stands behind the "{" of a block
abbrev pub read_stmt : (prelude : Bool) → (room : ℕ) → Reader Symbol (StmtsText prelude) → Reader Symbol (StmtText prelude) → First → Reader Symbol (Ended prelude)
read_stmt prelude room body block (a_word w) = read_simple prelude room body w
read_stmt prelude room body block a_brace = after block λ s. give (one_stmt s)

abbrev pub stmt_more : (prelude : Bool) → (room : ℕ) → Reader Symbol (StmtsText prelude) → Reader Symbol (StmtText prelude) → First → StmtsText prelude → Reader Symbol (StmtsText prelude)
stmt_more prelude room body block first ss = after (read_stmt prelude room body block first) λ e. give (and_ended ss e)

pub record Block (prelude : Bool) : Type 0 where
  pub locals : LocalsText prelude
  pub stmts : StmtsText prelude

abbrev pub local_behind : (room : ℕ) → LocalsText true → Reader Symbol (Block true)
local_behind room ls = on any_word λ w. on (this_mark (codes "=")) λ _. after (read_ix true room) λ a. on (this_mark (codes ";")) λ _. give (record { locals = g.and_local refl ls w a; stmts = g.no_stmts })

abbrev pub block_stmt : (prelude : Bool) → (room : ℕ) → Reader Symbol (StmtsText prelude) → Reader Symbol (StmtText prelude) → LocalsText prelude → StmtsText prelude → First → Reader Symbol (Block prelude)
block_stmt prelude room body block ls ss first = after (read_stmt prelude room body block first) λ e. give (record { locals = ls; stmts = and_ended ss e })

-- behind `const` in a block, which begins a local where no statement stands before and `int64_t` follows
abbrev pub block_word : (prelude : Bool) → (room : ℕ) → Reader Symbol (StmtsText prelude) → Reader Symbol (StmtText prelude) → LocalsText prelude → StmtsText prelude → Name → (is_const : Bool) → Reader Symbol (Block prelude)
block_word true room body block ls g.no_stmts w true = either (this_word (codes "int64_t")) (λ _. local_behind room ls) (block_stmt true room body block ls g.no_stmts (a_word w))
block_word prelude room body block ls ss w _ = block_stmt prelude room body block ls ss (a_word w)

abbrev pub block_more : (prelude : Bool) → (room : ℕ) → Reader Symbol (StmtsText prelude) → Reader Symbol (StmtText prelude) → First → Block prelude → Reader Symbol (Block prelude)
block_more prelude room body block (a_word w) b = block_word prelude room body block b.locals b.stmts w (same w (codes "const"))
block_more prelude room body block a_brace b = block_stmt prelude room body block b.locals b.stmts a_brace

unfoldable mutual
  pub stmts_inside : (prelude : Bool) → (room : ℕ) → Reader Symbol (StmtsText prelude)
  stmts_inside prelude zero = deep
  stmts_inside prelude (suc room) =
      after (all first_of (stmt_more prelude room (stmts_inside prelude room) (block_inside prelude room)) g.no_stmts) λ ss. on (this_mark (codes "}")) λ _. give ss

  pub block_inside : (prelude : Bool) → (room : ℕ) → Reader Symbol (StmtText prelude)
  block_inside prelude zero = deep
  block_inside prelude (suc room) =
      after (all first_of (block_more prelude room (stmts_inside prelude room) (block_inside prelude room)) (record { locals = g.no_locals; stmts = g.no_stmts })) λ b. on (this_mark (codes "}")) λ _. give (g.block b.locals b.stmts)

-- ---- The function

abbrev pub read_array : (prelude : Bool) → (room : ℕ) → (is_const : Bool) → Reader Symbol (ParamText prelude)
read_array prelude room is_const =
    on any_word λ w. on (this_mark (codes "[")) λ _. after (ix_inside prelude room) λ a. on (this_mark (codes "]")) λ _. after (read_dims prelude room) λ ds. give (g.array_param is_const w a ds)

abbrev pub read_param : (prelude : Bool) → (room : ℕ) → Reader Symbol (ParamText prelude)
read_param prelude room =
    either (this_word (codes "int64_t")) (λ _. on any_word λ w. give (g.number_param w))
    (either (this_word (codes "const")) (λ _. on (this_word (codes "uint64_t")) λ _. read_array prelude room true)
    (on (this_word (codes "uint64_t")) λ _. read_array prelude room false))

abbrev pub param_more : (prelude : Bool) → (room : ℕ) → Unit {0} → ParamsText prelude → Reader Symbol (ParamsText prelude)
param_more prelude room _ ps = after (read_param prelude room) λ a. give (g.and_param ps a)

abbrev pub read_params : (prelude : Bool) → (room : ℕ) → Reader Symbol (ParamsText prelude)
read_params prelude room = after (read_param prelude room) λ a. all (this_mark (codes ",")) (param_more prelude room) (g.param a)

abbrev pub name_more : (prelude : Bool) → (room : ℕ) → Unit {0} → NamesText prelude → Reader Symbol (NamesText prelude)
name_more prelude room _ ns = on any_word λ w. after (read_dims prelude room) λ ds. give (g.and_array ns w ds)

-- behind the first Word
abbrev pub read_names : (prelude : Bool) → (room : ℕ) → Name → Reader Symbol (NamesText prelude)
read_names prelude room w = after (read_dims prelude room) λ ds. all (this_mark (codes ",")) (name_more prelude room) (g.one_array w ds)

pub record Inside (prelude : Bool) : Type 0 where
  pub decls : DeclsText prelude
  pub stmts : StmtsText prelude

abbrev pub decl_behind : (prelude : Bool) → (room : ℕ) → DeclsText prelude → Name → Reader Symbol (Inside prelude)
decl_behind prelude room ds w = after (read_names prelude room w) λ ns. on (this_mark (codes ";")) λ _. give (record { decls = g.and_decl ds ns; stmts = g.no_stmts })

abbrev pub inside_stmt : (prelude : Bool) → (room : ℕ) → DeclsText prelude → StmtsText prelude → First → Reader Symbol (Inside prelude)
inside_stmt prelude room ds ss first = after (read_stmt prelude room (stmts_inside prelude room) (block_inside prelude room) first) λ e. give (record { decls = ds; stmts = and_ended ss e })

-- behind `uint64_t`, which begins a declaration where no statement stands before and a Word follows
abbrev pub inside_word : (prelude : Bool) → (room : ℕ) → DeclsText prelude → StmtsText prelude → Name → (is_type : Bool) → Reader Symbol (Inside prelude)
inside_word prelude room ds g.no_stmts w true = either any_word (decl_behind prelude room ds) (inside_stmt prelude room ds g.no_stmts (a_word w))
inside_word prelude room ds ss w _ = inside_stmt prelude room ds ss (a_word w)

abbrev pub inside_more : (prelude : Bool) → (room : ℕ) → First → Inside prelude → Reader Symbol (Inside prelude)
inside_more prelude room (a_word w) i = inside_word prelude room i.decls i.stmts w (same w (codes "uint64_t"))
inside_more prelude room a_brace i = inside_stmt prelude room i.decls i.stmts a_brace

abbrev pub read_inside : (prelude : Bool) → (room : ℕ) → Reader Symbol (Inside prelude)
read_inside prelude room = all first_of (inside_more prelude room) (record { decls = g.no_decls; stmts = g.no_stmts })

abbrev pub read_function : (prelude : Bool) → (room : ℕ) → Reader Symbol (FunctionText prelude)
read_function prelude room =
    on (this_word (codes "void")) λ _. on any_word λ w. on (this_mark (codes "(")) λ _. after (inside (read_params prelude) room) λ ps. on (this_mark (codes ")")) λ _.
    on (this_mark (codes "{")) λ _. after (inside (read_inside prelude) room) λ i. on (this_mark (codes "}")) λ _.
    give (record { name = w; params = ps; decls = i.decls; stmts = i.stmts })

-- ---- The text

abbrev pub read_int : Reader Symbol IntText
read_int =
    either (this_mark (codes "-")) (λ _. on any_number λ digits. give (record { negative = true; digits = digits }))
    (on any_number λ digits. give (record { negative = false; digits = digits }))

abbrev pub pragma_more : (room : ℕ) → Unit {0} → PragmasText → Reader Symbol PragmasText
pragma_more room _ ps =
    on (this_word (codes "pragma")) λ _. on (this_word (codes "affc")) λ _.
    either (this_word (codes "param")) (λ _. on any_word λ w. after read_int λ low. after read_int λ high. on line_end λ line. give (g.and_range ps w low high line))
    (on (this_word (codes "context")) λ _. after (read_cond true false room) λ c. on line_end λ line. give (g.and_context ps c line))

-- a text without the prelude, whose lines have no calls
abbrev pub read_without : (room : ℕ) → LineText → (ps : PragmasText) → Option (IsTrue (not (context_calls ps))) → Reader Symbol Text
read_without room line ps None = fail
read_without room line ps (Some h) = after (read_function false room) λ f. finished (record { line = line; pragmas = ps; has_prelude = false; calls_allowed = h; function = f })

unfoldable pub read_text : (room : ℕ) → Reader Symbol Text
read_text room =
    on hash λ _. on (this_word (codes "include")) λ _. on header λ _. on line_end λ line. after (all hash (pragma_more room) g.no_pragmas) λ ps.
    either the_prelude (λ _. after (read_function true room) λ f. finished (record { line = line; pragmas = ps; has_prelude = true; calls_allowed = refl; function = f }))
    (read_without room line ps (holding (not (context_calls ps))))
