-- How many tokens a tree is printed with, how long its longest run of tokens is between two of `;` `{` `}` and line ends, how many brackets stand open at
-- once, and how many words are `for` or `if`. Numbers past those of 64 bits count as the greatest of them.
use Rattle.std.specs.Prelude.{ℕ, ◌+◌, ◌-◌, ◌^◌, Bool, true, false, ◌&&◌, nat_lt, nat_le, min, List, [], ◌∷◌, length, map, ℤ, pos, int_lt, if◌then◌else◌}
use Rattle.affc_ast.specs.declared.tree.Ix.{Ix}
use Rattle.affc_ast.specs.declared.tree.Ix.TheOpen as ix
use Rattle.affc_ast.specs.declared.tree.Ix.TheOpen.{Ix-F}
use Rattle.affc_ast.specs.declared.tree.Op.{Op}
use Rattle.affc_ast.specs.declared.tree.Compare.{Compare}
use Rattle.affc_ast.specs.declared.tree.Cond.{Cond}
use Rattle.affc_ast.specs.declared.tree.Cond.TheOpen as cond
use Rattle.affc_ast.specs.declared.tree.Cond.TheOpen.{Cond-F}
use Rattle.affc_ast.specs.declared.tree.Local.{Local}
use Rattle.affc_ast.specs.declared.tree.Val.{Val}
use Rattle.affc_ast.specs.declared.tree.Val.TheOpen as val
use Rattle.affc_ast.specs.declared.tree.Val.TheOpen.{Val-F}
use Rattle.affc_ast.specs.declared.tree.Stmt.{Stmt}
use Rattle.affc_ast.specs.declared.tree.Stmt.TheOpen as stmt
use Rattle.affc_ast.specs.declared.tree.Stmt.TheOpen.{Stmt-F}
use Rattle.affc_ast.specs.declared.tree.Role.{Role}
use Rattle.affc_ast.specs.declared.tree.Decl.{Decl}
use Rattle.affc_ast.specs.declared.tree.Param.{Param}
use Rattle.affc_ast.specs.declared.tree.Param.TheVariants.{Number, Array}
use Rattle.affc_ast.specs.declared.tree.Program.{Program}
use Rattle.affc_ast.specs.Recursion.{by_ix, by_val, by_cond, by_stmt}
use Rattle.affc_grammar.specs.Grammar.{level_of}
use Rattle.affc_grammar.specs.Limits.{wide_limits}
use Rattle.affc_grammar.specs.Names.{is_input}
use Rattle.affc_cprint.specs.declared.brackets.Place.{Place}
use Rattle.affc_cprint.specs.declared.brackets.Place.TheVariants.{Whole, RightOfSum, LeftOfProduct, RightOfProduct, UnderMinus}
use Rattle.affc_cprint.specs.Places.{is_inside, is_factor, is_negated, divides}
use Rattle.affc_cprint.specs.declared.brackets.Level.{Level}
use Rattle.affc_cprint.specs.declared.brackets.Level.TheVariants.{Primary, Shifted, Or}
use Rattle.affc_cprint.specs.Levels.{number_of, op_left, op_right}
use Rattle.affc_wellnamed.specs.declared.shape.Extent.{Extent}
use Rattle.affc_wellnamed.specs.declared.shape.Binding.{Binding}
use Rattle.affc_wellnamed.specs.declared.shape.Binding.TheVariants.{Sum, Product, Atom, Call}
use Rattle.affc_wellnamed.specs.declared.shape.IxExtent.{IxExtent}
use Rattle.affc_wellnamed.specs.declared.shape.Joint.{Joint}
use Rattle.affc_wellnamed.specs.declared.shape.Joint.TheVariants.{Alone, All, Any}
use Rattle.affc_wellnamed.specs.declared.shape.CondExtent.{CondExtent}
use Rattle.affc_wellnamed.specs.declared.shape.ValExtent.{ValExtent}
use Rattle.affc_wellnamed.specs.declared.shape.Shape.{Shape}

abbrev pub saturated : ℕ → ℕ
saturated n = min n (2 ^ 64 - 1)

abbrev pub plus : ℕ → ℕ → ℕ
plus a b = saturated (a + b)

abbrev pub larger : ℕ → ℕ → ℕ
larger a b = if nat_lt a b then b else a

-- ---- Tokens in a row, with the brackets that they open

abbrev pub nothing : Extent
nothing = record { tokens = 0; depth = 0 }

abbrev pub beside : Extent → Extent → Extent
beside a b = record { tokens = plus a.tokens b.tokens; depth = larger a.depth b.depth }

abbrev pub and_tokens : ℕ → Extent → Extent
and_tokens n a = record { tokens = plus a.tokens n; depth = a.depth }

abbrev pub bracketed : Extent → Extent
bracketed a = record { tokens = plus a.tokens 2; depth = plus a.depth 1 }

abbrev pub bracketed_if : Bool → Extent → Extent
bracketed_if true a = bracketed a
bracketed_if false a = a

-- ---- Expressions

-- whether an expression that binds so has brackets where it stands
abbrev pub is_looser : Binding → Place → Bool
is_looser Sum place = is_inside place
is_looser Product place = is_factor place
is_looser Atom place = false
is_looser Call place = is_negated place

abbrev pub placed : Place → IxExtent → Extent
placed place e = bracketed_if (is_looser e.binding place) e.extent

abbrev pub one_token : IxExtent
one_token = record { extent = record { tokens = 1; depth = 0 }; binding = Atom }

-- a sum or a product
abbrev pub joined : Binding → Extent → Extent → IxExtent
joined binding a b = record { extent = and_tokens 1 (beside a b); binding = binding }

abbrev pub negated : Extent → IxExtent
negated a = record { extent = and_tokens 1 a; binding = Sum }

abbrev pub called : Bool → Extent → IxExtent
called true inside = record { extent = and_tokens 1 (bracketed inside); binding = Call }
called false inside = one_token

abbrev pub sum : IxExtent → IxExtent → IxExtent
sum a b = joined Sum (placed Whole a) (placed RightOfSum b)

abbrev pub product : IxExtent → IxExtent → IxExtent
product a b = joined Product (placed LeftOfProduct a) (placed RightOfProduct b)

abbrev pub choice : Bool → IxExtent → IxExtent → IxExtent
choice may_stand a b = called may_stand (and_tokens 1 (beside (placed Whole a) (placed Whole b)))

abbrev pub quotient : Bool → IxExtent → IxExtent
quotient may_stand a = called may_stand (and_tokens 2 (placed Whole a))

abbrev pub ix_step : (prelude : Bool) → Ix-F IxExtent → IxExtent
ix_step prelude (ix.Lit n) = one_token
ix_step prelude (ix.Name id) = one_token
ix_step prelude (ix.Neg a) = negated (placed UnderMinus a)
ix_step prelude (ix.Add a b) = sum a b
ix_step prelude (ix.Sub a b) = sum a b
ix_step prelude (ix.Mul a b) = product a b
ix_step prelude (ix.Min a b) = choice prelude a b
ix_step prelude (ix.Max a b) = choice prelude a b
ix_step prelude (ix.Mod a b) = choice prelude a b
ix_step prelude (ix.Floord a by) = quotient (divides prelude by) a
ix_step prelude (ix.Ceild a by) = quotient (divides prelude by) a

abbrev pub ix_extent : (prelude : Bool) → Ix → IxExtent
ix_extent prelude e = by_ix (ix_step prelude) e

-- an expression by itself
abbrev pub whole : (prelude : Bool) → Ix → Extent
whole prelude e = placed Whole (ix_extent prelude e)

-- behind so much, subscripts or extents
abbrev pub dims_behind : (prelude : Bool) → Extent → List Ix → Extent
dims_behind prelude a [] = a
dims_behind prelude a (e ∷ es) = dims_behind prelude (beside a (bracketed (whole prelude e))) es

-- ---- Conditions

abbrev pub sides_extent : (prelude : Bool) → (left right : Ix) → Extent
sides_extent prelude left right = and_tokens 1 (beside (whole prelude left) (whole prelude right))

abbrev pub compare_extent : (prelude : Bool) → Compare → Extent
compare_extent prelude c = sides_extent prelude c.left c.right

abbrev pub compares_behind : (prelude : Bool) → Extent → List Compare → Extent
compares_behind prelude a [] = a
compares_behind prelude a (c ∷ cs) = compares_behind prelude (and_tokens 1 (beside a (compare_extent prelude c))) cs

-- whether a condition has brackets beside "&&", or beside "||"
abbrev pub has_brackets : (all : Bool) → Joint → Bool
has_brackets all Alone = false
has_brackets all All = all
has_brackets all Any = true

abbrev pub beside_mark : (all : Bool) → CondExtent → Extent
beside_mark all c = bracketed_if (has_brackets all c.joint) c.extent

abbrev pub alone : Extent → CondExtent
alone a = record { extent = a; joint = Alone }

abbrev pub no_condition : CondExtent
no_condition = alone (record { tokens = 3; depth = 0 })

abbrev pub joint_of : (all : Bool) → Joint
joint_of true = All
joint_of false = Any

-- behind so much, conditions that are joined, without the marks
abbrev pub entries_behind : (all : Bool) → Extent → List CondExtent → Extent
entries_behind all a [] = a
entries_behind all a (c ∷ cs) = entries_behind all (beside a (beside_mark all c)) cs

abbrev pub joined_extent : (all : Bool) → List CondExtent → CondExtent
joined_extent all [] = no_condition
joined_extent all (c ∷ cs) = record { extent = and_tokens (length cs) (entries_behind all nothing (c ∷ cs)); joint = joint_of all }

-- a term, "%", a number, "==" or "!=", and "0"
abbrev pub remainder_extent : Bool → Extent → CondExtent
remainder_extent true a = alone (and_tokens 4 a)
remainder_extent false a = no_condition

abbrev pub cond_step : (prelude : Bool) → Cond-F CondExtent → CondExtent
cond_step prelude (cond.Compare rel left right) = alone (sides_extent prelude left right)
cond_step prelude (cond.All cs) = joined_extent true cs
cond_step prelude (cond.Any cs) = joined_extent false cs
cond_step prelude (cond.Divides value by so) = remainder_extent (divides true by) (placed RightOfSum (ix_extent prelude value))

abbrev pub cond_extent : (prelude : Bool) → Cond → CondExtent
cond_extent prelude c = by_cond (cond_step prelude) c

-- ---- Values

abbrev pub at_level : Level → ValExtent → Extent
at_level level v = bracketed_if (nat_lt (number_of level) v.level) v.extent

abbrev pub binary : Op → ValExtent → ValExtent → ValExtent
binary op a b = record { extent = and_tokens 1 (beside (at_level (op_left op) a) (at_level (op_right op) b)); level = level_of op }

abbrev pub val_step : (prelude : Bool) → Val-F ValExtent → ValExtent
val_step prelude (val.Load id subs) = record { extent = dims_behind prelude (record { tokens = 1; depth = 0 }) subs; level = 0 }
val_step prelude (val.Const n) = record { extent = record { tokens = 1; depth = 0 }; level = 0 }
val_step prelude (val.Cast e) = record { extent = and_tokens 3 (bracketed (whole prelude e)); level = 0 }
val_step prelude (val.Not a) = record { extent = and_tokens 1 (at_level Primary a); level = 0 }
val_step prelude (val.Bin op a b) = binary op a b
val_step prelude (val.Shift left a by) = record { extent = and_tokens 2 (at_level Shifted a); level = 3 }

abbrev pub val_extent : (prelude : Bool) → Val → ValExtent
val_extent prelude v = by_val (val_step prelude) v

-- ---- Statements

abbrev pub empty : Shape
empty = record { tokens = 0; run = 0; depth = 0; items = 0 }

abbrev pub both : Shape → Shape → Shape
both a b = record { tokens = plus a.tokens b.tokens; run = larger a.run b.run; depth = larger a.depth b.depth; items = plus a.items b.items }

-- such tokens with so many more, before one of `;` `{` `}` or a line end
abbrev pub line : ℕ → Extent → Shape
line more a = record { tokens = plus (plus a.tokens more) 1; run = plus a.tokens more; depth = a.depth; items = 0 }

-- in braces or parentheses, of which the shape holds the tokens
abbrev pub deeper : Shape → Shape
deeper a = record { tokens = a.tokens; run = a.run; depth = plus a.depth 1; items = a.items }

-- with the word `for` or `if` among its tokens
abbrev pub worded : Shape → Shape
worded a = record { tokens = a.tokens; run = a.run; depth = a.depth; items = plus a.items 1 }

abbrev pub all_behind : Shape → List Shape → Shape
all_behind a [] = a
all_behind a (s ∷ ss) = all_behind (both a s) ss

-- a body behind what stands before it, up to the brace that closes it
abbrev pub closed : Shape → Shape
closed a = deeper (both a (line 0 nothing))

abbrev pub locals_behind : (prelude : Bool) → Shape → List Local → Shape
locals_behind true a [] = a
locals_behind true a (l ∷ ls) = locals_behind true (both a (line 4 (whole true l.value))) ls
locals_behind false a ls = a

abbrev pub for_head : (prelude : Bool) → Ix → Ix → Shape
for_head prelude low high = both (both (line 5 (whole prelude low)) (line 2 (whole prelude high))) (line 3 nothing)

abbrev pub if_head : (prelude : Bool) → Cond → Shape
if_head prelude c = line 3 (cond_extent prelude c).extent

-- `}`, and `else {`
abbrev pub else_head : Shape
else_head = both (line 0 nothing) (line 1 nothing)

abbrev pub other_behind : Shape → List Shape → Shape
other_behind a [] = a
other_behind a (s ∷ ss) = all_behind (both a else_head) (s ∷ ss)

abbrev pub assign_line : (prelude : Bool) → List Ix → Val → Shape
assign_line prelude subs v = line 1 (beside (dims_behind prelude (record { tokens = 1; depth = 0 }) subs) (at_level Or (val_extent prelude v)))

abbrev pub block_head : (prelude : Bool) → List Local → Shape
block_head prelude ls = locals_behind prelude (line 0 nothing) ls

abbrev pub stmt_step : (prelude : Bool) → Stmt-F Shape → Shape
stmt_step prelude (stmt.For iter low rel high body) = worded (closed (all_behind (for_head prelude low high) body))
stmt_step prelude (stmt.If c body other) = worded (closed (other_behind (all_behind (if_head prelude c) body) other))
stmt_step prelude (stmt.Assign op id subs v) = assign_line prelude subs v
stmt_step prelude (stmt.Block ls body) = closed (all_behind (block_head prelude ls) body)

abbrev pub stmt_shape : (prelude : Bool) → Stmt → Shape
stmt_shape prelude s = by_stmt (stmt_step prelude) s

abbrev pub stmts_behind : (prelude : Bool) → Shape → List Stmt → Shape
stmts_behind prelude a body = all_behind a (map (stmt_shape prelude) body)

abbrev pub branch_behind : (prelude : Bool) → Shape → List Stmt → Shape
branch_behind prelude a other = other_behind a (map (stmt_shape prelude) other)

-- ---- The program

-- a sign is a token of its own
abbrev pub end_tokens : ℤ → ℕ
end_tokens n = if int_lt n (pos 0) then 2 else 1

abbrev pub range_line : ℤ → ℤ → Shape
range_line low high = line (5 + (end_tokens low + end_tokens high)) nothing

abbrev pub ranges_behind : Shape → List Param → Shape
ranges_behind a [] = a
ranges_behind a (Number w low high ∷ qs) = ranges_behind (both a (range_line low high)) qs
ranges_behind a (Array d ∷ qs) = ranges_behind a qs

abbrev pub context_behind : Shape → List Compare → Shape
context_behind a [] = a
context_behind a (c ∷ cs) = both a (line 4 (compares_behind true (compare_extent true c) cs))

abbrev pub head_tokens : Role → Extent
head_tokens role = record { tokens = (if is_input role then 3 else 2); depth = 0 }

abbrev pub array_extent : (prelude : Bool) → Role → List Ix → Extent
array_extent prelude role [] = beside (head_tokens role) (bracketed (record { tokens = 1; depth = 0 }))
array_extent prelude role (e ∷ es) = dims_behind prelude (head_tokens role) (e ∷ es)

abbrev pub param_extent : (prelude : Bool) → Param → Extent
param_extent prelude (Number w low high) = record { tokens = 2; depth = 0 }
param_extent prelude (Array d) = array_extent prelude d.role d.extents

-- with a comma before each
abbrev pub params_behind : (prelude : Bool) → Extent → List Param → Extent
params_behind prelude a [] = a
params_behind prelude a (q ∷ qs) = params_behind prelude (and_tokens 1 (beside a (param_extent prelude q))) qs

abbrev pub params_extent : (prelude : Bool) → List Param → Extent
params_extent prelude [] = record { tokens = 2; depth = 0 }
params_extent prelude (q ∷ qs) = params_behind prelude (param_extent prelude q) qs

abbrev pub decls_behind : (prelude : Bool) → Shape → List Decl → Shape
decls_behind prelude a [] = a
decls_behind prelude a (d ∷ ds) = decls_behind prelude (both a (line 0 (dims_behind prelude (record { tokens = 2; depth = 0 }) d.extents))) ds

-- the lines before the function; then the function, whose head goes on from the prelude
abbrev pub lines_shape : Program → Shape
lines_shape p = context_behind (ranges_behind (line 3 nothing) p.params) p.context

abbrev pub head_line : (prelude : Bool) → List Param → Shape
head_line prelude qs = line (if prelude then 5 else 4) (params_extent prelude qs)

abbrev pub function_shape : Program → Shape
function_shape p = closed (stmts_behind p.prelude (decls_behind p.prelude (head_line p.prelude p.params) p.temps) p.body)

abbrev pub program_shape : Program → Shape
program_shape p = both (lines_shape p) (function_shape p)

-- what the widest text may have
abbrev pub is_bounded : Shape → Bool
is_bounded s = (nat_le s.tokens wide_limits.tokens && nat_le s.run wide_limits.run) && (nat_le s.depth wide_limits.depth && nat_le s.items wide_limits.items)
