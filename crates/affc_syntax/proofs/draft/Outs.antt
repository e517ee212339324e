-- What the grammar sees of a draft, by one step: the lemmas that `search` and `grind` take.
use Rattle.std.proofs.Common.{◌≡◌, ℕ, [], ◌∷◌, ◌++◌, map, refl, sym, ap, ◌∙◌, List}
use Rattle.std.proofs.lemmas.List.{map-append}
use denote.Hole.Carrier.{out, shown}
use Rattle.affc_grammar.specs.Draft as d
use Rattle.affc_syntax.specs.declared.draft.draft.IxDraft.{IxDraft, out-IxDraft, map-IxDraft, the_lemmas as ix_lemmas}
use Rattle.affc_syntax.specs.declared.draft.draft.IxDraft.TheVariants as c
use Rattle.affc_syntax.specs.declared.draft.draft.IxDraft.TheBlock.{more_of-IxDraft, end_of-IxDraft, shown-the_row-IxDraft-0}
use Rattle.affc_syntax.specs.declared.draft.draft.IxDraft.TheOpen.{IxDraft-F}
use Rattle.affc_syntax.specs.declared.draft.draft.Choice.{Choice}
use Rattle.affc_syntax.specs.declared.draft.draft.Rounding.{Rounding}
use Rattle.affc_syntax.specs.declared.draft.draft.ValueDraft.{ValueDraft, out-ValueDraft, map-ValueDraft, the_lemmas as value_lemmas}
use Rattle.affc_syntax.specs.declared.draft.draft.ValueDraft.TheVariants as v
use Rattle.affc_syntax.specs.declared.draft.draft.ValueDraft.TheBlock.{more_of-ValueDraft, end_of-ValueDraft, shown-the_row-ValueDraft-0}
use Rattle.affc_syntax.specs.declared.draft.draft.StmtDraft.{StmtDraft, out-StmtDraft, map-StmtDraft, the_lemmas as stmt_lemmas}
use Rattle.affc_syntax.specs.declared.draft.draft.StmtDraft.TheVariants as s
use Rattle.affc_syntax.specs.declared.draft.draft.StmtDraft.TheOpen as layer_s
use Rattle.affc_syntax.specs.declared.draft.draft.StmtDraft.TheOpen.{StmtDraft-F}
use Rattle.affc_syntax.specs.declared.draft.draft.HeadDraft.{HeadDraft}
use Rattle.affc_syntax.specs.declared.draft.draft.CondDraft.{CondDraft, out-CondDraft, map-CondDraft, the_lemmas as cond_lemmas}
use Rattle.affc_syntax.specs.declared.draft.draft.CondDraft.TheVariants as k
use Rattle.affc_syntax.specs.declared.draft.draft.CondDraft.TheOpen as layer_k
use Rattle.affc_syntax.specs.declared.draft.draft.CondDraft.TheOpen.{CondDraft-F}
use Rattle.affc_syntax.specs.declared.draft.draft.CondDraft.TheBlock.{Row_of-CondDraft, more_of-CondDraft, end_of-CondDraft, items-the_row-CondDraft, items_shown-the_row-CondDraft-0}
use Rattle.affc_syntax.specs.declared.draft.draft.LocalDraft.{LocalDraft}
use Rattle.affc_syntax.specs.declared.draft.draft.StmtDraft.TheBlock.{Row_of-StmtDraft, more_of-StmtDraft, end_of-StmtDraft, items-the_row-StmtDraft, items_shown-the_row-StmtDraft-0}
use Rattle.affc_syntax.specs.draft.Drafts.{ix, ix_node, choice, rounding, conds_after, conds_of, cond, each_cond, cond_node, value, value_node, stmt, each_stmt, stmt_node, head, local, stmts_of}

pub ix_out : (e : IxDraft) → ix e ≡ ix_node (map-IxDraft IxDraft d.IxDraft ix (out-IxDraft e))
unfolding out-IxDraft out shown-the_row-IxDraft-0 shown
ix_out (c.Literal at n) = refl
ix_out (c.Name at w) = refl
ix_out (c.Negated' at s (more_of-IxDraft a end_of-IxDraft)) = refl
ix_out (c.Sum' s (more_of-IxDraft a end_of-IxDraft) t (more_of-IxDraft b end_of-IxDraft)) = refl
ix_out (c.Difference' s (more_of-IxDraft a end_of-IxDraft) t (more_of-IxDraft b end_of-IxDraft)) = refl
ix_out (c.Product' at s (more_of-IxDraft a end_of-IxDraft) t (more_of-IxDraft b end_of-IxDraft)) = refl
ix_out (c.Grouped' at s (more_of-IxDraft a end_of-IxDraft)) = refl
ix_out (c.Chosen' at f s (more_of-IxDraft a end_of-IxDraft) t (more_of-IxDraft b end_of-IxDraft)) = refl
ix_out (c.Divided' at f s (more_of-IxDraft a end_of-IxDraft) by_at by) = refl

pub ruleset ix_outs = (ix_lemmas, ix_out)

-- At a node as code makes it.

abbrev node_of : IxDraft-F IxDraft → d.IxDraft
node_of l = ix_node (map-IxDraft IxDraft d.IxDraft ix l)

pub ix-Negated : (at : ℕ) (a : IxDraft) → ix (c.Negated at a) ≡ d.negated at (ix a)
ix-Negated at a = ix_out (c.Negated at a) ∙ ap node_of (c.outs-Negated at a)

pub ix-Sum : (a b : IxDraft) → ix (c.Sum a b) ≡ d.sum (ix a) (ix b)
ix-Sum a b = ix_out (c.Sum a b) ∙ ap node_of (c.outs-Sum a b)

pub ix-Difference : (a b : IxDraft) → ix (c.Difference a b) ≡ d.difference (ix a) (ix b)
ix-Difference a b = ix_out (c.Difference a b) ∙ ap node_of (c.outs-Difference a b)

pub ix-Product : (at : ℕ) (a b : IxDraft) → ix (c.Product at a b) ≡ d.product at (ix a) (ix b)
ix-Product at a b = ix_out (c.Product at a b) ∙ ap node_of (c.outs-Product at a b)

pub ix-Grouped : (at : ℕ) (a : IxDraft) → ix (c.Grouped at a) ≡ d.grouped at (ix a)
ix-Grouped at a = ix_out (c.Grouped at a) ∙ ap node_of (c.outs-Grouped at a)

pub ix-Chosen : (at : ℕ) (f : Choice) (a b : IxDraft) → ix (c.Chosen at f a b) ≡ d.chosen at (choice f) (ix a) (ix b)
ix-Chosen at f a b = ix_out (c.Chosen at f a b) ∙ ap node_of (c.outs-Chosen at f a b)

pub ix-Divided : (at : ℕ) (f : Rounding) (a : IxDraft) (by_at by : ℕ) → ix (c.Divided at f a by_at by) ≡ d.divided at (rounding f) (ix a) by_at by
ix-Divided at f a by_at by = ix_out (c.Divided at f a by_at by) ∙ ap node_of (c.outs-Divided at f a by_at by)

pub ruleset ix_made = (ix-Negated, ix-Sum, ix-Difference, ix-Product, ix-Grouped, ix-Chosen, ix-Divided)

-- ---- Conditions

entries_are : {n : _} (entries : Row_of-CondDraft n) → each_cond entries ≡ map cond (items-the_row-CondDraft n entries)
entries_are end_of-CondDraft = refl
entries_are (more_of-CondDraft x rest) = ap (λ l. cond x ∷ l) (entries_are rest)

pub cond_out : (x : CondDraft) → cond x ≡ cond_node (map-CondDraft CondDraft d.CondDraft cond (out-CondDraft x))
unfolding out-CondDraft out
cond_out (k.Compare c) = refl
cond_out (k.Divides a by_at by so) = refl
cond_out (k.All' shape entries) = ap (λ l. cond_node (layer_k.All l)) (entries_are entries ∙ ap (map cond) (sym (items_shown-the_row-CondDraft-0 shape entries)))
cond_out (k.Any' shape entries) = ap (λ l. cond_node (layer_k.Any l)) (entries_are entries ∙ ap (map cond) (sym (items_shown-the_row-CondDraft-0 shape entries)))

pub ruleset cond_outs = (cond_lemmas, cond_out)

abbrev cond_of : CondDraft-F CondDraft → d.CondDraft
cond_of l = cond_node (map-CondDraft CondDraft d.CondDraft cond l)

pub cond-All : (cs : List CondDraft) → cond (k.All cs) ≡ d.all_of (conds_of (map cond cs))
cond-All cs = cond_out (k.All cs) ∙ ap cond_of (k.outs-All cs)

pub cond-Any : (cs : List CondDraft) → cond (k.Any cs) ≡ d.any_of (conds_of (map cond cs))
cond-Any cs = cond_out (k.Any cs) ∙ ap cond_of (k.outs-Any cs)

pub ruleset cond_made = (cond-All, cond-Any)

conds_after-append : (cs : d.CondsDraft) (xs ys : List d.CondDraft) → conds_after cs (xs ++ ys) ≡ conds_after (conds_after cs xs) ys
conds_after-append cs [] ys = refl
conds_after-append cs (x ∷ xs) ys = conds_after-append (d.and_cond cs x) xs ys

conds_behind : (cs ds : d.CondsDraft) (xs : List d.CondDraft) → conds_after (d.and_conds cs ds) xs ≡ d.and_conds cs (conds_after ds xs)
conds_behind cs ds [] = refl
conds_behind cs ds (x ∷ xs) = conds_behind cs (d.and_cond ds x) xs

pub conds_of-append : (xs ys : List d.CondDraft) → conds_of (xs ++ ys) ≡ d.and_conds (conds_of xs) (conds_of ys)
conds_of-append xs ys = conds_after-append d.no_conds xs ys ∙ conds_behind (conds_of xs) d.no_conds ys

pub ruleset cond_joined = (cond-All, cond-Any, conds_of-append, map-append)

-- ---- Values and statements

pub value_out : (e : ValueDraft) → value e ≡ value_node (map-ValueDraft ValueDraft d.ValueDraft value (out-ValueDraft e))
unfolding out-ValueDraft out shown-the_row-ValueDraft-0 shown
value_out (v.Load at w subs) = refl
value_out (v.Constant n) = refl
value_out (v.Cast a) = refl
value_out (v.Complement' s (more_of-ValueDraft a end_of-ValueDraft)) = refl
value_out (v.Binary' op s (more_of-ValueDraft a end_of-ValueDraft) t (more_of-ValueDraft b end_of-ValueDraft)) = refl
value_out (v.Shift' left s (more_of-ValueDraft a end_of-ValueDraft) by) = refl

pub ruleset value_outs = (value_lemmas, value_out)

each_is : {n : _} (body : Row_of-StmtDraft n) → each_stmt body ≡ map stmt (items-the_row-StmtDraft n body)
each_is end_of-StmtDraft = refl
each_is (more_of-StmtDraft x rest) = ap (λ l. stmt x ∷ l) (each_is rest)

pub stmt_out : (x : StmtDraft) → stmt x ≡ stmt_node (map-StmtDraft StmtDraft d.StmtDraft stmt (out-StmtDraft x))
unfolding out-StmtDraft out
stmt_out (s.For' h shape body) = ap (λ l. stmt_node (layer_s.For h l)) (each_is body ∙ ap (map stmt) (sym (items_shown-the_row-StmtDraft-0 shape body)))
stmt_out (s.If' at k shape body shape' other) = λ i.
    stmt_node (layer_s.If at k ((each_is body ∙ ap (map stmt) (sym (items_shown-the_row-StmtDraft-0 shape body))) i) ((each_is other ∙ ap (map stmt) (sym (items_shown-the_row-StmtDraft-0 shape' other))) i))
stmt_out (s.Assign w subs op a) = refl
stmt_out (s.Block' locals shape body) = ap (λ l. stmt_node (layer_s.Block locals l)) (each_is body ∙ ap (map stmt) (sym (items_shown-the_row-StmtDraft-0 shape body)))

pub ruleset stmt_outs = (stmt_lemmas, stmt_out)

abbrev stmt_of : StmtDraft-F StmtDraft → d.StmtDraft
stmt_of l = stmt_node (map-StmtDraft StmtDraft d.StmtDraft stmt l)

pub stmt-For : (h : HeadDraft) (body : List StmtDraft) → stmt (s.For h body) ≡ d.for_loop (head h) (stmts_of (map stmt body))
stmt-For h body = stmt_out (s.For h body) ∙ ap stmt_of (s.outs-For h body)

pub stmt-If : (at : ℕ) (k : CondDraft) (body other : List StmtDraft) → stmt (s.If at k body other) ≡ d.if_cond at (cond k) (stmts_of (map stmt body)) (stmts_of (map stmt other))
stmt-If at k body other = stmt_out (s.If at k body other) ∙ ap stmt_of (s.outs-If at k body other)

pub stmt-Block : (locals : List LocalDraft) (body : List StmtDraft) → stmt (s.Block locals body) ≡ d.block (map local locals) (stmts_of (map stmt body))
stmt-Block locals body = stmt_out (s.Block locals body) ∙ ap stmt_of (s.outs-Block locals body)

pub ruleset stmt_made = (stmt-For, stmt-If, stmt-Block)
