-- The limits of a text, and the rule on products. Each limit gives the numbers of the tokens at which it is passed, of which the first is the fault's.
use Rattle.std.specs.Prelude.{ℕ, ◌+◌, ◌*◌, ◌-◌, ◌^◌, Bool, true, false, not, ◌&&◌, ◌||◌, nat_le, nat_lt, List, [], ◌∷◌, ◌++◌, length, drop, map, codes, filter, flat_map, Option, Some, None, ℤ, pos, ◌+ℤ◌, ◌-ℤ◌, ◌*ℤ◌, neg_ℤ, nat_abs, int_le, if◌then◌else◌}
use Rattle.std.specs.List.{list_any}
use Rattle.affc_lex.specs.Bytes.{same}
use Rattle.affc_lex.specs.Lexes.{is_line_end}
use Rattle.affc_ast.specs.Pieces.{Counts, counts_of_relation, counts_of_all, counts_of_any, single}
use Rattle.affc_grammar.specs.declared.fault.LimitName.{LimitName}
use Rattle.affc_grammar.specs.declared.fault.LimitName.TheVariants.{Tokens, Run, Depth, Items, Parameters, Range, Loops, Statements, Empty, Accesses, Dimensions, Comparisons, Literal, Coefficient, Pieces}
use Rattle.affc_grammar.specs.Grammar.{Symbol, Name, is_word_kind, is_mark_kind}
use Rattle.affc_grammar.specs.Draft.{IxDraft, literal, name, negated, sum, difference, product, grouped, chosen, divided, CompareDraft, CondsDraft, no_conds, and_cond, CondDraft, comparison, divisible, all_of, any_of, ValueDraft, load, constant, cast, complement, binary, shift, StmtsDraft, no_stmts, and_stmt, StmtDraft, for_loop, if_cond, assign, block, DeclDraft, ParamDraft, number_param, array_param, PragmaDraft, range, context, TextDraft}

pub record Limits : Type 0 where
  -- bytes of the text
  pub size : Option ℕ
  pub tokens : ℕ
  -- tokens between two of `;` `{` `}` and line ends
  pub run : ℕ
  -- open `(`, `[` and `{` at once
  pub depth : ℕ
  -- words `for` and `if` together
  pub items : ℕ
  -- loops round an assignment
  pub loops : ℕ
  -- whether each `for` and `if` has to hold an assignment
  pub empty : Bool
  -- comparisons of the `if`s round an assignment
  pub comparisons : Option ℕ
  -- pieces of the conditions round an assignment
  pub pieces : Option ℕ
  pub literal : ℕ
  -- the number of a remainder
  pub divisor : ℕ
  -- whether the forms of affine texts have limits
  pub forms : Bool

-- without the prelude, and with it
abbrev pub plain_limits : Limits
plain_limits = record { size = Some 1048576; tokens = 65536; run = 2048; depth = 64; items = 256; loops = 6; empty = true; comparisons = Some 32; pieces = Some 16; literal = 16777216; divisor = 65536; forms = true }

abbrev pub wide_limits : Limits
wide_limits = record { size = None; tokens = 16777216; run = 65536; depth = 256; items = 4096; loops = 12; empty = false; comparisons = None; pieces = None; literal = 2 ^ 62; divisor = 2 ^ 62; forms = false }

abbrev pub limits_of : (has_prelude : Bool) → Limits
limits_of true = wide_limits
limits_of false = plain_limits

pub record Passed : Type 0 where
  pub at : ℕ
  pub which : LimitName

abbrev pub passed_at : LimitName → List ℕ → List Passed
passed_at which places = map (λ at. record { at = at; which = which }) places

-- the first of two at one place, else the one at the lesser place
abbrev pub nearer : Passed → Option Passed → Option Passed
nearer p None = Some p
nearer p (Some q) = if nat_le p.at q.at then Some p else Some q

-- the one at the least place; of several there, the first of the list
abbrev pub least : List Passed → Option Passed
least [] = None
least (p ∷ ps) = nearer p (least ps)

abbrev pub passes : Option ℕ → ℕ → Bool
passes None n = false
passes (Some limit) n = nat_lt limit n

-- this place, where the test holds
abbrev pub at_if : Bool → ℕ → List ℕ
at_if true at = at ∷ []
at_if false at = []

-- ---- Shape, looked at before the grammar

abbrev pub is_opening : Symbol → Bool
is_opening s = is_mark_kind s.kind && (same s.bytes (codes "(") || same s.bytes (codes "[") || same s.bytes (codes "{"))

abbrev pub is_closing : Symbol → Bool
is_closing s = is_mark_kind s.kind && (same s.bytes (codes ")") || same s.bytes (codes "]") || same s.bytes (codes "}"))

abbrev pub is_separator : Symbol → Bool
is_separator s = is_line_end s.kind || (is_mark_kind s.kind && (same s.bytes (codes ";") || same s.bytes (codes "{") || same s.bytes (codes "}")))

abbrev pub is_item : Symbol → Bool
is_item s = is_word_kind s.kind && (same s.bytes (codes "for") || same s.bytes (codes "if"))

-- What a counter is behind a token.

abbrev pub count_token : ℕ → Symbol → ℕ
count_token n s = n + 1

abbrev pub count_run : ℕ → Symbol → ℕ
count_run n s = if is_separator s then 0 else n + 1

-- a closing mark closes the one that was opened last, of whatever kind; with none open it does nothing
abbrev pub count_open : ℕ → Symbol → ℕ
count_open n s = if is_opening s then n + 1 else (if is_closing s then n - 1 else n)

abbrev pub count_item : ℕ → Symbol → ℕ
count_item n s = if is_item s then n + 1 else n

-- the tokens behind which the counter is above the limit; the first token has the number `at`
abbrev pub tokens_past : (ℕ → Symbol → ℕ) → (limit at count : ℕ) → List Symbol → List ℕ
tokens_past next limit at count [] = []
tokens_past next limit at count (s ∷ ss) = at_if (nat_lt limit (next count s)) at ++ tokens_past next limit (at + 1) (next count s) ss

abbrev pub shape_passed : Limits → List Symbol → List Passed
shape_passed limits symbols =
    passed_at Tokens (tokens_past count_token limits.tokens 0 0 symbols)
    ++ passed_at Run (tokens_past count_run limits.run 0 0 symbols)
    ++ passed_at Depth (tokens_past count_open limits.depth 0 0 symbols)
    ++ passed_at Items (tokens_past count_item limits.items 0 0 symbols)

-- ---- Affine texts: bounds, sides of comparisons, values of remainders, subscripts, extents, casts, values of locals

abbrev pub sides : CompareDraft → List IxDraft
sides c = c.left ∷ c.right ∷ []

abbrev mutual
  pub conds_texts : CondsDraft → List IxDraft
  conds_texts no_conds = []
  conds_texts (and_cond cs c) = conds_texts cs ++ cond_texts c

  pub cond_texts : CondDraft → List IxDraft
  cond_texts (comparison c) = sides c
  cond_texts (divisible a by_at by so) = a ∷ []
  cond_texts (all_of cs) = conds_texts cs
  cond_texts (any_of cs) = conds_texts cs

abbrev pub value_texts : ValueDraft → List IxDraft
value_texts (load at w subs) = subs
value_texts (constant n) = []
value_texts (cast a) = a ∷ []
value_texts (complement v) = value_texts v
value_texts (binary op v w) = value_texts v ++ value_texts w
value_texts (shift left v by) = value_texts v

abbrev mutual
  pub stmts_texts : StmtsDraft → List IxDraft
  stmts_texts no_stmts = []
  stmts_texts (and_stmt ss s) = stmts_texts ss ++ stmt_texts s

  pub stmt_texts : StmtDraft → List IxDraft
  stmt_texts (for_loop h body) = h.low ∷ h.high ∷ stmts_texts body
  stmt_texts (if_cond at c body other) = cond_texts c ++ stmts_texts body ++ stmts_texts other
  stmt_texts (assign w subs op v) = subs ++ value_texts v
  stmt_texts (block ls body) = map (λ l. l.value) ls ++ stmts_texts body

abbrev pub pragma_texts : PragmaDraft → List IxDraft
pragma_texts (range w low_at low high) = []
pragma_texts (context at cs) = flat_map sides cs

abbrev pub param_texts : ParamDraft → List IxDraft
param_texts (number_param w) = []
param_texts (array_param d) = d.extents

-- all of a text, in its order
abbrev pub affine_texts : TextDraft → List IxDraft
affine_texts c = flat_map pragma_texts c.pragmas ++ flat_map param_texts c.params ++ flat_map (λ d. d.extents) c.temps ++ stmts_texts c.body

abbrev pub names_in : IxDraft → List Name
names_in (literal at n) = []
names_in (name at w) = w ∷ []
names_in (negated at a) = names_in a
names_in (sum a b) = names_in a ++ names_in b
names_in (difference a b) = names_in a ++ names_in b
names_in (product at a b) = names_in a ++ names_in b
names_in (grouped at a) = names_in a
names_in (chosen at f a b) = names_in a ++ names_in b
names_in (divided at f a by_at by) = names_in a

abbrev pub holds_names : IxDraft → Bool
holds_names a = nat_lt 0 (length (names_in a))

-- the "*" of each product both of whose sides hold names
abbrev pub products_in : IxDraft → List ℕ
products_in (literal at n) = []
products_in (name at w) = []
products_in (negated at a) = products_in a
products_in (sum a b) = products_in a ++ products_in b
products_in (difference a b) = products_in a ++ products_in b
products_in (product at a b) = products_in a ++ at_if (holds_names a && holds_names b) at ++ products_in b
products_in (grouped at a) = products_in a
products_in (chosen at f a b) = products_in a ++ products_in b
products_in (divided at f a by_at by) = products_in a

abbrev pub products_of_names : TextDraft → List ℕ
products_of_names c = flat_map products_in (affine_texts c)

abbrev pub literals_past : (limit : ℕ) → IxDraft → List ℕ
literals_past limit (literal at n) = at_if (nat_lt limit n) at
literals_past limit (name at w) = []
literals_past limit (negated at a) = literals_past limit a
literals_past limit (sum a b) = literals_past limit a ++ literals_past limit b
literals_past limit (difference a b) = literals_past limit a ++ literals_past limit b
literals_past limit (product at a b) = literals_past limit a ++ literals_past limit b
literals_past limit (grouped at a) = literals_past limit a
literals_past limit (chosen at f a b) = literals_past limit a ++ literals_past limit b
literals_past limit (divided at f a by_at by) = literals_past limit a ++ at_if (nat_lt limit by) by_at

-- The form of a part: its constant and the coefficient of each name, as whole numbers. Forms are asked of texts without calls, in which one side of each product holds no name.

abbrev pub constant_of : IxDraft → ℤ
constant_of (literal at n) = pos n
constant_of (negated at a) = neg_ℤ (constant_of a)
constant_of (sum a b) = constant_of a +ℤ constant_of b
constant_of (difference a b) = constant_of a -ℤ constant_of b
constant_of (product at a b) = constant_of a *ℤ constant_of b
constant_of (grouped at a) = constant_of a
constant_of _ = pos 0

abbrev pub coefficient_of : Name → IxDraft → ℤ
coefficient_of w (name at v) = if same v w then pos 1 else pos 0
coefficient_of w (negated at a) = neg_ℤ (coefficient_of w a)
coefficient_of w (sum a b) = coefficient_of w a +ℤ coefficient_of w b
coefficient_of w (difference a b) = coefficient_of w a -ℤ coefficient_of w b
coefficient_of w (product at a b) = (coefficient_of w a *ℤ constant_of b) +ℤ (constant_of a *ℤ coefficient_of w b)
coefficient_of w (grouped at a) = coefficient_of w a
coefficient_of w _ = pos 0

-- constants up to 2^24 and coefficients up to 2^16 in magnitude
abbrev pub is_large : IxDraft → Bool
is_large a = nat_lt 16777216 (nat_abs (constant_of a)) || list_any (λ w. nat_lt 65536 (nat_abs (coefficient_of w a))) (names_in a)

-- the number of its first token
abbrev pub first_token : IxDraft → ℕ
first_token (literal at n) = at
first_token (name at w) = at
first_token (negated at a) = at
first_token (sum a b) = first_token a
first_token (difference a b) = first_token a
first_token (product at a b) = first_token a
first_token (grouped at a) = at
first_token (chosen at f a b) = at
first_token (divided at f a by_at by) = at

abbrev pub large_here : IxDraft → List ℕ
large_here a = at_if (is_large a) (first_token a)

-- the first token of each part that is large; a text in parentheses is a part too
abbrev pub large_parts : IxDraft → List ℕ
large_parts (literal at n) = large_here (literal at n)
large_parts (name at w) = large_here (name at w)
large_parts (negated at a) = large_here (negated at a) ++ large_parts a
large_parts (sum a b) = large_here (sum a b) ++ large_parts a ++ large_parts b
large_parts (difference a b) = large_here (difference a b) ++ large_parts a ++ large_parts b
large_parts (product at a b) = large_here (product at a b) ++ large_parts a ++ large_parts b
large_parts (grouped at a) = large_here (grouped at a) ++ large_parts a
large_parts (chosen at f a b) = large_parts a ++ large_parts b
large_parts (divided at f a by_at by) = large_parts a

-- ---- Conditions

-- the Numbers of remainders that are above the limit
abbrev mutual
  pub conds_past : (limit : ℕ) → CondsDraft → List ℕ
  conds_past limit no_conds = []
  conds_past limit (and_cond cs c) = conds_past limit cs ++ cond_past limit c

  pub cond_past : (limit : ℕ) → CondDraft → List ℕ
  cond_past limit (comparison c) = []
  cond_past limit (divisible a by_at by so) = at_if (nat_lt limit by) by_at
  cond_past limit (all_of cs) = conds_past limit cs
  cond_past limit (any_of cs) = conds_past limit cs

abbrev mutual
  pub divisors_past : (limit : ℕ) → StmtsDraft → List ℕ
  divisors_past limit no_stmts = []
  divisors_past limit (and_stmt ss s) = divisors_past limit ss ++ divisors_past_in limit s

  pub divisors_past_in : (limit : ℕ) → StmtDraft → List ℕ
  divisors_past_in limit (for_loop h body) = divisors_past limit body
  divisors_past_in limit (if_cond at c body other) = cond_past limit c ++ divisors_past limit body ++ divisors_past limit other
  divisors_past_in limit (assign w subs op v) = []
  divisors_past_in limit (block ls body) = divisors_past limit body

-- how many comparisons and remainders
abbrev mutual
  pub conds_count : CondsDraft → ℕ
  conds_count no_conds = 0
  conds_count (and_cond cs c) = conds_count cs + cond_count c

  pub cond_count : CondDraft → ℕ
  cond_count (comparison c) = 1
  cond_count (divisible a by_at by so) = 1
  cond_count (all_of cs) = conds_count cs
  cond_count (any_of cs) = conds_count cs

-- how many pieces a condition has, and how many its denial has
abbrev mutual
  pub conds_pieces : CondsDraft → List Counts
  conds_pieces no_conds = []
  conds_pieces (and_cond cs c) = conds_pieces cs ++ cond_pieces c ∷ []

  pub cond_pieces : CondDraft → Counts
  cond_pieces (comparison c) = counts_of_relation c.rel
  cond_pieces (divisible a by_at by so) = single
  cond_pieces (all_of cs) = counts_of_all (conds_pieces cs)
  cond_pieces (any_of cs) = counts_of_any (conds_pieces cs)

-- ---- Assignments

-- what stands round: comparisons and remainders of the `if`s, and pieces of their conditions, denied round what follows an `else`
pub record Round : Type 0 where
  pub comparisons : ℕ
  pub pieces : ℕ

abbrev pub no_round : Round
no_round = record { comparisons = 0; pieces = 1 }

abbrev pub under_body : CondDraft → Round → Round
under_body c r = record { comparisons = r.comparisons + cond_count c; pieces = r.pieces * (cond_pieces c).plain }

abbrev pub under_other : CondDraft → Round → Round
under_other c r = record { comparisons = r.comparisons + cond_count c; pieces = r.pieces * (cond_pieces c).denied }

pub record Assigned : Type 0 where
  -- its first word
  pub at : ℕ
  pub accesses : ℕ
  pub round : Round

abbrev pub loads_in : ValueDraft → ℕ
loads_in (load at w subs) = 1
loads_in (constant n) = 0
loads_in (cast a) = 0
loads_in (complement v) = loads_in v
loads_in (binary op v w) = loads_in v + loads_in w
loads_in (shift left v by) = loads_in v

-- the assignments in the order of the text, where this stands round them
abbrev mutual
  pub assigned : Round → StmtsDraft → List Assigned
  assigned r no_stmts = []
  assigned r (and_stmt ss s) = assigned r ss ++ assigned_in r s

  pub assigned_in : Round → StmtDraft → List Assigned
  assigned_in r (for_loop h body) = assigned r body
  assigned_in r (if_cond at c body other) = assigned (under_body c r) body ++ assigned (under_other c r) other
  -- `op=` loads its own element, and each assignment stores
  assigned_in r (assign w subs None v) = record { at = w.at; accesses = loads_in v + 1; round = r } ∷ []
  assigned_in r (assign w subs (Some op) v) = record { at = w.at; accesses = loads_in v + 2; round = r } ∷ []
  assigned_in r (block ls body) = assigned r body

abbrev pub has_assignment : StmtsDraft → Bool
has_assignment body = nat_lt 0 (length (assigned no_round body))

-- the `for`s that are one too many round an assignment, where so many stand round them
abbrev mutual
  pub loops_past : (limit round : ℕ) → StmtsDraft → List ℕ
  loops_past limit n no_stmts = []
  loops_past limit n (and_stmt ss s) = loops_past limit n ss ++ loops_past_in limit n s

  pub loops_past_in : (limit round : ℕ) → StmtDraft → List ℕ
  loops_past_in limit n (for_loop h body) = at_if (nat_le limit n && has_assignment body) h.at ++ loops_past limit (n + 1) body
  loops_past_in limit n (if_cond at c body other) = loops_past limit n body ++ loops_past limit n other
  loops_past_in limit n (assign w subs op v) = []
  loops_past_in limit n (block ls body) = loops_past limit n body

-- the words `for` and `if` without an assignment inside, which may follow the `else`
abbrev mutual
  pub empty_bodies : StmtsDraft → List ℕ
  empty_bodies no_stmts = []
  empty_bodies (and_stmt ss s) = empty_bodies ss ++ empty_bodies_in s

  pub empty_bodies_in : StmtDraft → List ℕ
  empty_bodies_in (for_loop h body) = at_if (not (has_assignment body)) h.at ++ empty_bodies body
  empty_bodies_in (if_cond at c body other) = at_if (not (has_assignment body || has_assignment other)) at ++ empty_bodies body ++ empty_bodies other
  empty_bodies_in (assign w subs op v) = []
  empty_bodies_in (block ls body) = empty_bodies body

-- ---- Declarations and lines

abbrev pub number_words : List ParamDraft → List ℕ
number_words [] = []
number_words (number_param w ∷ ps) = w.at ∷ number_words ps
number_words (array_param d ∷ ps) = number_words ps

abbrev pub param_decls : List ParamDraft → List DeclDraft
param_decls [] = []
param_decls (number_param w ∷ ps) = param_decls ps
param_decls (array_param d ∷ ps) = d ∷ param_decls ps

-- low is at most high, and both are within 2^24 in magnitude
abbrev pub is_range : ℤ → ℤ → Bool
is_range low high = int_le low high && nat_le (nat_abs low) (2 ^ 24) && nat_le (nat_abs high) (2 ^ 24)

abbrev pub ranges_past : List PragmaDraft → List ℕ
ranges_past [] = []
ranges_past (range w low_at low high ∷ ps) = at_if (not (is_range low high)) low_at ++ ranges_past ps
ranges_past (context at cs ∷ ps) = ranges_past ps

-- the `context` lines with which there are more than 16 comparisons, where so many stand before
abbrev pub contexts_past : (before : ℕ) → List PragmaDraft → List ℕ
contexts_past n [] = []
contexts_past n (range w low_at low high ∷ ps) = contexts_past n ps
contexts_past n (context at cs ∷ ps) = at_if (nat_lt 16 (n + length cs)) at ++ contexts_past (n + length cs) ps

-- ---- All limits behind the grammar

abbrev pub passed : Limits → TextDraft → List Passed
passed limits c =
    let assignments = assigned no_round c.body in
    let texts = affine_texts c in
    passed_at Parameters (drop 4 (number_words c.params))
    ++ passed_at Range (ranges_past c.pragmas)
    ++ passed_at Loops (loops_past limits.loops 0 c.body)
    ++ passed_at Statements (drop 64 (map (λ a. a.at) assignments))
    ++ passed_at Empty (if limits.empty then empty_bodies c.body else [])
    ++ passed_at Accesses (map (λ a. a.at) (filter (λ a. nat_lt 16 a.accesses) assignments))
    ++ passed_at Dimensions (map (λ d. d.word.at) (filter (λ d. nat_lt 4 (length d.extents)) (param_decls c.params ++ c.temps)))
    ++ passed_at Comparisons (contexts_past 0 c.pragmas)
    ++ passed_at Comparisons (map (λ a. a.at) (filter (λ a. passes limits.comparisons a.round.comparisons) assignments))
    ++ passed_at Literal (flat_map (literals_past limits.literal) texts)
    ++ passed_at Coefficient (if limits.forms then flat_map large_parts texts else [])
    ++ passed_at Coefficient (divisors_past limits.divisor c.body)
    ++ passed_at Pieces (map (λ a. a.at) (filter (λ a. passes limits.pieces a.round.pieces) assignments))
