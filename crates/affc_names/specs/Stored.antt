-- Numbers that a tree can hold, where a draft may have larger ones: those are cut. A text with such a number passes a limit.
use Rattle.std.specs.Prelude.{ℕ, ◌^◌, ◌-◌, nat_lt, map, ℤ, pos, nat_abs, if◌then◌else◌}
use Rattle.affc_grammar.specs.Draft.{IxDraft, literal, name, negated, sum, difference, product, grouped, chosen, divided, CompareDraft, CondsDraft, no_conds, and_cond, CondDraft, comparison, divisible, all_of, any_of, ValueDraft, load, constant, cast, complement, binary, shift, LocalDraft, HeadDraft, StmtsDraft, no_stmts, and_stmt, StmtDraft, for_loop, if_cond, assign, block, DeclDraft, ParamDraft, number_param, array_param, PragmaDraft, range, context, TextDraft}

abbrev pub number : ℕ → ℕ
number n = if nat_lt n (2 ^ 63) then n else 2 ^ 63 - 1

-- a bound of a range
abbrev pub bound : ℤ → ℤ
bound z = if nat_lt (nat_abs z) (2 ^ 63) then z else pos 0

-- of a shift
abbrev pub bits : ℕ → ℕ
bits n = if nat_lt n 256 then n else 0

abbrev pub ix : IxDraft → IxDraft
ix (literal at n) = literal at (number n)
ix (name at w) = name at w
ix (negated at a) = negated at (ix a)
ix (sum a b) = sum (ix a) (ix b)
ix (difference a b) = difference (ix a) (ix b)
ix (product at a b) = product at (ix a) (ix b)
ix (grouped at a) = grouped at (ix a)
ix (chosen at f a b) = chosen at f (ix a) (ix b)
ix (divided at f a by_at by) = divided at f (ix a) by_at (number by)

abbrev pub compare : CompareDraft → CompareDraft
compare c = record { rel = c.rel; left = ix c.left; right = ix c.right }

abbrev mutual
  pub conds : CondsDraft → CondsDraft
  conds no_conds = no_conds
  conds (and_cond cs c) = and_cond (conds cs) (cond c)

  pub cond : CondDraft → CondDraft
  cond (comparison c) = comparison (compare c)
  cond (divisible a by_at by so) = divisible (ix a) by_at (number by) so
  cond (all_of cs) = all_of (conds cs)
  cond (any_of cs) = any_of (conds cs)

abbrev pub value : ValueDraft → ValueDraft
value (load at w subs) = load at w (map ix subs)
value (constant n) = constant n
value (cast a) = cast (ix a)
value (complement v) = complement (value v)
value (binary op v w) = binary op (value v) (value w)
value (shift left v by) = shift left (value v) (bits by)

abbrev pub local : LocalDraft → LocalDraft
local l = record { at = l.at; name = l.name; value = ix l.value }

abbrev pub head : HeadDraft → HeadDraft
head h = record { at = h.at; iterator = h.iterator; low = ix h.low; tested = h.tested; rel = h.rel; high = ix h.high; stepped = h.stepped }

abbrev mutual
  pub stmts : StmtsDraft → StmtsDraft
  stmts no_stmts = no_stmts
  stmts (and_stmt ss s) = and_stmt (stmts ss) (stmt s)

  pub stmt : StmtDraft → StmtDraft
  stmt (for_loop h body) = for_loop (head h) (stmts body)
  stmt (if_cond at c body other) = if_cond at (cond c) (stmts body) (stmts other)
  stmt (assign w subs op v) = assign w (map ix subs) op (value v)
  stmt (block ls body) = block (map local ls) (stmts body)

abbrev pub decl : DeclDraft → DeclDraft
decl d = record { word = d.word; role = d.role; extents = map ix d.extents }

abbrev pub param : ParamDraft → ParamDraft
param (number_param w) = number_param w
param (array_param d) = array_param (decl d)

abbrev pub pragma : PragmaDraft → PragmaDraft
pragma (range w low_at low high) = range w low_at (bound low) (bound high)
pragma (context at cs) = context at (map compare cs)

abbrev pub text : TextDraft → TextDraft
text c = record { pragmas = map pragma c.pragmas; has_prelude = c.has_prelude; function = c.function; params = map param c.params; temps = map decl c.temps; body = stmts c.body }
