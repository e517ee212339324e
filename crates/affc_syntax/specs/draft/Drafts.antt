-- The grammar's draft that the parser's draft is.
use Rattle.std.specs.Prelude.{List, [], ◌∷◌, map}
use Rattle.affc_grammar.specs.Grammar as g
use Rattle.affc_grammar.specs.Draft as d
use Rattle.affc_syntax.specs.declared.draft.draft.Choice.{Choice}
use Rattle.affc_syntax.specs.declared.draft.draft.Choice.TheVariants.{Minimum, Maximum, Remainder}
use Rattle.affc_syntax.specs.declared.draft.draft.Rounding.{Rounding}
use Rattle.affc_syntax.specs.declared.draft.draft.Rounding.TheVariants.{Down, Up}
use Rattle.affc_syntax.specs.declared.draft.draft.IxDraft.{IxDraft}
use Rattle.affc_syntax.specs.declared.draft.draft.IxDraft.TheVariants as c
use Rattle.affc_syntax.specs.declared.draft.draft.IxDraft.TheBlock.{more_of-IxDraft, end_of-IxDraft}
use Rattle.affc_syntax.specs.declared.draft.draft.IxDraft.TheOpen as layer
use Rattle.affc_syntax.specs.declared.draft.draft.IxDraft.TheOpen.{IxDraft-F}
use Rattle.affc_syntax.specs.declared.draft.draft.CompareDraft.{CompareDraft}
use Rattle.affc_syntax.specs.declared.draft.draft.CondDraft.{CondDraft}
use Rattle.affc_syntax.specs.declared.draft.draft.CondDraft.TheVariants as k
use Rattle.affc_syntax.specs.declared.draft.draft.CondDraft.TheBlock.{Row_of-CondDraft, more_of-CondDraft, end_of-CondDraft}
use Rattle.affc_syntax.specs.declared.draft.draft.CondDraft.TheOpen as layer_k
use Rattle.affc_syntax.specs.declared.draft.draft.CondDraft.TheOpen.{CondDraft-F}
use Rattle.affc_syntax.specs.declared.draft.draft.ValueDraft.{ValueDraft}
use Rattle.affc_syntax.specs.declared.draft.draft.ValueDraft.TheVariants as v
use Rattle.affc_syntax.specs.declared.draft.draft.ValueDraft.TheBlock.{more_of-ValueDraft, end_of-ValueDraft}
use Rattle.affc_syntax.specs.declared.draft.draft.ValueDraft.TheOpen as layer_v
use Rattle.affc_syntax.specs.declared.draft.draft.ValueDraft.TheOpen.{ValueDraft-F}
use Rattle.affc_syntax.specs.declared.draft.draft.WordDraft.{WordDraft}
use Rattle.affc_syntax.specs.declared.draft.draft.LocalDraft.{LocalDraft}
use Rattle.affc_syntax.specs.declared.draft.draft.HeadDraft.{HeadDraft}
use Rattle.affc_syntax.specs.declared.draft.draft.StmtDraft.{StmtDraft}
use Rattle.affc_syntax.specs.declared.draft.draft.StmtDraft.TheVariants as s
use Rattle.affc_syntax.specs.declared.draft.draft.StmtDraft.TheBlock.{Row_of-StmtDraft, more_of-StmtDraft, end_of-StmtDraft}
use Rattle.affc_syntax.specs.declared.draft.draft.StmtDraft.TheOpen as layer_s
use Rattle.affc_syntax.specs.declared.draft.draft.StmtDraft.TheOpen.{StmtDraft-F}
use Rattle.affc_syntax.specs.declared.draft.draft.DeclDraft.{DeclDraft}
use Rattle.affc_syntax.specs.declared.draft.draft.ParamDraft.{ParamDraft}
use Rattle.affc_syntax.specs.declared.draft.draft.ParamDraft.TheVariants.{Number, Array}
use Rattle.affc_syntax.specs.declared.draft.draft.PragmaDraft.{PragmaDraft}
use Rattle.affc_syntax.specs.declared.draft.draft.PragmaDraft.TheVariants.{Range, Context}
use Rattle.affc_syntax.specs.declared.draft.draft.TextDraft.{TextDraft}

abbrev pub choice : Choice → g.Choice
choice Minimum = g.minimum
choice Maximum = g.maximum
choice Remainder = g.remainder

abbrev pub rounding : Rounding → g.Rounding
rounding Down = g.down
rounding Up = g.up

-- a node, given its parts
abbrev pub ix_node : IxDraft-F d.IxDraft → d.IxDraft
ix_node (layer.Literal at n) = d.literal at n
ix_node (layer.Name at w) = d.name at w
ix_node (layer.Negated at a) = d.negated at a
ix_node (layer.Sum a b) = d.sum a b
ix_node (layer.Difference a b) = d.difference a b
ix_node (layer.Product at a b) = d.product at a b
ix_node (layer.Grouped at a) = d.grouped at a
ix_node (layer.Chosen at f a b) = d.chosen at (choice f) a b
ix_node (layer.Divided at f a by_at by) = d.divided at (rounding f) a by_at by

abbrev pub ix : IxDraft → d.IxDraft
ix (c.Literal at n) = ix_node (layer.Literal at n)
ix (c.Name at w) = ix_node (layer.Name at w)
ix (c.Negated' at s (more_of-IxDraft a end_of-IxDraft)) = ix_node (layer.Negated at (ix a))
ix (c.Sum' s (more_of-IxDraft a end_of-IxDraft) t (more_of-IxDraft b end_of-IxDraft)) = ix_node (layer.Sum (ix a) (ix b))
ix (c.Difference' s (more_of-IxDraft a end_of-IxDraft) t (more_of-IxDraft b end_of-IxDraft)) = ix_node (layer.Difference (ix a) (ix b))
ix (c.Product' at s (more_of-IxDraft a end_of-IxDraft) t (more_of-IxDraft b end_of-IxDraft)) = ix_node (layer.Product at (ix a) (ix b))
ix (c.Grouped' at s (more_of-IxDraft a end_of-IxDraft)) = ix_node (layer.Grouped at (ix a))
ix (c.Chosen' at f s (more_of-IxDraft a end_of-IxDraft) t (more_of-IxDraft b end_of-IxDraft)) = ix_node (layer.Chosen at f (ix a) (ix b))
ix (c.Divided' at f s (more_of-IxDraft a end_of-IxDraft) by_at by) = ix_node (layer.Divided at f (ix a) by_at by)

abbrev pub compare : CompareDraft → d.CompareDraft
compare c = record { rel = c.rel; left = ix c.left; right = ix c.right }

-- ---- Conditions

-- behind others
abbrev pub conds_after : d.CondsDraft → List d.CondDraft → d.CondsDraft
conds_after cs [] = cs
conds_after cs (x ∷ xs) = conds_after (d.and_cond cs x) xs

abbrev pub conds_of : List d.CondDraft → d.CondsDraft
conds_of xs = conds_after d.no_conds xs

abbrev pub cond_node : CondDraft-F d.CondDraft → d.CondDraft
cond_node (layer_k.Compare k) = d.comparison (compare k)
cond_node (layer_k.Divides a by_at by so) = d.divisible (ix a) by_at by so
cond_node (layer_k.All cs) = d.all_of (conds_of cs)
cond_node (layer_k.Any cs) = d.any_of (conds_of cs)

abbrev mutual
  pub cond : CondDraft → d.CondDraft
  cond (k.Compare c) = cond_node (layer_k.Compare c)
  cond (k.Divides a by_at by so) = cond_node (layer_k.Divides a by_at by so)
  cond (k.All' shape entries) = cond_node (layer_k.All (each_cond entries))
  cond (k.Any' shape entries) = cond_node (layer_k.Any (each_cond entries))

  pub each_cond : {n : _} → Row_of-CondDraft n → List d.CondDraft
  each_cond end_of-CondDraft = []
  each_cond (more_of-CondDraft x rest) = cond x ∷ each_cond rest

-- ---- Values

abbrev pub value_node : ValueDraft-F d.ValueDraft → d.ValueDraft
value_node (layer_v.Load at w subs) = d.load at w (map ix subs)
value_node (layer_v.Constant n) = d.constant n
value_node (layer_v.Cast a) = d.cast (ix a)
value_node (layer_v.Complement a) = d.complement a
value_node (layer_v.Binary op a b) = d.binary op a b
value_node (layer_v.Shift left a by) = d.shift left a by

abbrev pub value : ValueDraft → d.ValueDraft
value (v.Load at w subs) = value_node (layer_v.Load at w subs)
value (v.Constant n) = value_node (layer_v.Constant n)
value (v.Cast a) = value_node (layer_v.Cast a)
value (v.Complement' s (more_of-ValueDraft a end_of-ValueDraft)) = value_node (layer_v.Complement (value a))
value (v.Binary' op s (more_of-ValueDraft a end_of-ValueDraft) t (more_of-ValueDraft b end_of-ValueDraft)) = value_node (layer_v.Binary op (value a) (value b))
value (v.Shift' left s (more_of-ValueDraft a end_of-ValueDraft) by) = value_node (layer_v.Shift left (value a) by)

-- ---- Statements

abbrev pub word : WordDraft → d.WordDraft
word w = record { at = w.at; name = w.name }

abbrev pub local : LocalDraft → d.LocalDraft
local l = record { at = l.at; name = l.name; value = ix l.value }

abbrev pub head : HeadDraft → d.HeadDraft
head h = record { at = h.at; iterator = word h.iterator; low = ix h.low; tested = word h.tested; rel = h.rel; high = ix h.high; stepped = word h.stepped }

-- behind other statements
abbrev pub stmts_after : d.StmtsDraft → List d.StmtDraft → d.StmtsDraft
stmts_after ss [] = ss
stmts_after ss (x ∷ xs) = stmts_after (d.and_stmt ss x) xs

abbrev pub stmts_of : List d.StmtDraft → d.StmtsDraft
stmts_of xs = stmts_after d.no_stmts xs

abbrev pub stmt_node : StmtDraft-F d.StmtDraft → d.StmtDraft
stmt_node (layer_s.For h body) = d.for_loop (head h) (stmts_of body)
stmt_node (layer_s.If at c body other) = d.if_cond at (cond c) (stmts_of body) (stmts_of other)
stmt_node (layer_s.Assign w subs op a) = d.assign (word w) (map ix subs) op (value a)
stmt_node (layer_s.Block locals body) = d.block (map local locals) (stmts_of body)

abbrev mutual
  pub stmt : StmtDraft → d.StmtDraft
  stmt (s.For' h shape body) = stmt_node (layer_s.For h (each_stmt body))
  stmt (s.If' at c shape body shape' other) = stmt_node (layer_s.If at c (each_stmt body) (each_stmt other))
  stmt (s.Assign w subs op a) = stmt_node (layer_s.Assign w subs op a)
  stmt (s.Block' locals shape body) = stmt_node (layer_s.Block locals (each_stmt body))

  pub each_stmt : {n : _} → Row_of-StmtDraft n → List d.StmtDraft
  each_stmt end_of-StmtDraft = []
  each_stmt (more_of-StmtDraft x rest) = stmt x ∷ each_stmt rest

-- ---- The text

abbrev pub decl : DeclDraft → d.DeclDraft
decl k = record { word = word k.word; role = k.role; extents = map ix k.extents }

abbrev pub param : ParamDraft → d.ParamDraft
param (Number w) = d.number_param (word w)
param (Array k) = d.array_param (decl k)

abbrev pub pragma : PragmaDraft → d.PragmaDraft
pragma (Range w low_at low high) = d.range (word w) low_at low high
pragma (Context at conds) = d.context at (map compare conds)

abbrev pub text : TextDraft → d.TextDraft
text k = record { pragmas = map pragma k.pragmas; has_prelude = k.has_prelude; function = word k.function; params = map param k.params; temps = map decl k.temps; body = stmts_of (map stmt k.body) }
