-- A function by one step, at what a tree is seen as: the lemmas that `search` and `grind` take.
use Rattle.std.proofs.Common.{◌≡◌, List, ◌∷◌, map, refl, sym, ap, ◌∙◌}
use denote.Hole.Carrier.{out, shown}
use Rattle.affc_ast.specs.declared.tree.Ix.{Ix, out-Ix, map-Ix, the_lemmas as ix_lemmas}
use Rattle.affc_ast.specs.declared.tree.Ix.TheVariants as c
use Rattle.affc_ast.specs.declared.tree.Ix.TheBlock.{more_of-Ix, end_of-Ix, shown-the_row-Ix-0}
use Rattle.affc_ast.specs.declared.tree.Ix.TheOpen.{Ix-F}
use Rattle.affc_ast.specs.declared.tree.Val.{Val, out-Val, map-Val, the_lemmas as val_lemmas}
use Rattle.affc_ast.specs.declared.tree.Val.TheVariants as v
use Rattle.affc_ast.specs.declared.tree.Val.TheBlock.{more_of-Val, end_of-Val, shown-the_row-Val-0}
use Rattle.affc_ast.specs.declared.tree.Val.TheOpen.{Val-F}
use Rattle.affc_ast.specs.declared.tree.Cond.{Cond, out-Cond, map-Cond, the_lemmas as cond_lemmas}
use Rattle.affc_ast.specs.declared.tree.Cond.TheVariants as d
use Rattle.affc_ast.specs.declared.tree.Cond.TheBlock.{Row_of-Cond, more_of-Cond, end_of-Cond, items-the_row-Cond, items_shown-the_row-Cond-0}
use Rattle.affc_ast.specs.declared.tree.Cond.TheOpen as layer_d
use Rattle.affc_ast.specs.declared.tree.Cond.TheOpen.{Cond-F}
use Rattle.affc_ast.specs.declared.tree.Stmt.{Stmt, out-Stmt, map-Stmt, the_lemmas as stmt_lemmas}
use Rattle.affc_ast.specs.declared.tree.Stmt.TheVariants as s
use Rattle.affc_ast.specs.declared.tree.Stmt.TheBlock.{Row_of-Stmt, more_of-Stmt, end_of-Stmt, items-the_row-Stmt, items_shown-the_row-Stmt-0}
use Rattle.affc_ast.specs.declared.tree.Stmt.TheOpen as layer_s
use Rattle.affc_ast.specs.declared.tree.Stmt.TheOpen.{Stmt-F}
use Rattle.affc_ast.specs.Recursion.{by_ix, by_val, by_cond, by_entries, by_stmt, by_each}

pub by_ix_out : {A : Type 0} (f : Ix-F A → A) (e : Ix) → by_ix f e ≡ f (map-Ix Ix A (by_ix f) (out-Ix e))
unfolding out-Ix out shown-the_row-Ix-0 shown
by_ix_out f (c.Lit n) = refl
by_ix_out f (c.Name x) = refl
by_ix_out f (c.Neg' s (more_of-Ix a end_of-Ix)) = refl
by_ix_out f (c.Floord' s (more_of-Ix a end_of-Ix) n) = refl
by_ix_out f (c.Ceild' s (more_of-Ix a end_of-Ix) n) = refl
by_ix_out f (c.Add' s (more_of-Ix a end_of-Ix) t (more_of-Ix b end_of-Ix)) = refl
by_ix_out f (c.Sub' s (more_of-Ix a end_of-Ix) t (more_of-Ix b end_of-Ix)) = refl
by_ix_out f (c.Mul' s (more_of-Ix a end_of-Ix) t (more_of-Ix b end_of-Ix)) = refl
by_ix_out f (c.Min' s (more_of-Ix a end_of-Ix) t (more_of-Ix b end_of-Ix)) = refl
by_ix_out f (c.Max' s (more_of-Ix a end_of-Ix) t (more_of-Ix b end_of-Ix)) = refl
by_ix_out f (c.Mod' s (more_of-Ix a end_of-Ix) t (more_of-Ix b end_of-Ix)) = refl

pub by_val_out : {A : Type 0} (f : Val-F A → A) (e : Val) → by_val f e ≡ f (map-Val Val A (by_val f) (out-Val e))
unfolding out-Val out shown-the_row-Val-0 shown
by_val_out f (v.Load array subs) = refl
by_val_out f (v.Const n) = refl
by_val_out f (v.Cast e) = refl
by_val_out f (v.Not' s (more_of-Val a end_of-Val)) = refl
by_val_out f (v.Bin' op s (more_of-Val a end_of-Val) t (more_of-Val b end_of-Val)) = refl
by_val_out f (v.Shift' left s (more_of-Val a end_of-Val) by) = refl

by_entries_is : {A : Type 0} {n : _} (f : Cond-F A → A) (entries : Row_of-Cond n) → by_entries f entries ≡ map (by_cond f) (items-the_row-Cond n entries)
by_entries_is f end_of-Cond = refl
by_entries_is f (more_of-Cond x rest) = ap (λ l. by_cond f x ∷ l) (by_entries_is f rest)

pub by_cond_out : {A : Type 0} (f : Cond-F A → A) (x : Cond) → by_cond f x ≡ f (map-Cond Cond A (by_cond f) (out-Cond x))
unfolding out-Cond out
by_cond_out f (d.Compare rel left right) = refl
by_cond_out f (d.All' shape entries) = ap (λ l. f (layer_d.All l)) (by_entries_is f entries ∙ ap (map (by_cond f)) (sym (items_shown-the_row-Cond-0 shape entries)))
by_cond_out f (d.Any' shape entries) = ap (λ l. f (layer_d.Any l)) (by_entries_is f entries ∙ ap (map (by_cond f)) (sym (items_shown-the_row-Cond-0 shape entries)))
by_cond_out f (d.Divides value by so) = refl

-- a row is a list
by_each_is : {A : Type 0} {n : _} (f : Stmt-F A → A) (body : Row_of-Stmt n) → by_each f body ≡ map (by_stmt f) (items-the_row-Stmt n body)
by_each_is f end_of-Stmt = refl
by_each_is f (more_of-Stmt x rest) = ap (λ l. by_stmt f x ∷ l) (by_each_is f rest)

if_both : {A : Type 0} (f : Stmt-F A → A) (cond : Cond) (as' bs cs ds : List A) → as' ≡ bs → cs ≡ ds → f (layer_s.If cond as' cs) ≡ f (layer_s.If cond bs ds)
if_both f cond as' bs cs ds e g = λ i. f (layer_s.If cond (e i) (g i))

pub by_stmt_out : {A : Type 0} (f : Stmt-F A → A) (x : Stmt) → by_stmt f x ≡ f (map-Stmt Stmt A (by_stmt f) (out-Stmt x))
unfolding out-Stmt out
by_stmt_out f (s.For' iter low rel high shape body) =
    ap (λ l. f (layer_s.For iter low rel high l)) (by_each_is f body ∙ ap (map (by_stmt f)) (sym (items_shown-the_row-Stmt-0 shape body)))
by_stmt_out f (s.If' cond shape body shape' other) =
    if_both f cond _ _ _ _ (by_each_is f body ∙ ap (map (by_stmt f)) (sym (items_shown-the_row-Stmt-0 shape body))) (by_each_is f other ∙ ap (map (by_stmt f)) (sym (items_shown-the_row-Stmt-0 shape' other)))
by_stmt_out f (s.Assign op array subs value) = refl
by_stmt_out f (s.Block' locals shape body) = ap (λ l. f (layer_s.Block locals l)) (by_each_is f body ∙ ap (map (by_stmt f)) (sym (items_shown-the_row-Stmt-0 shape body)))

pub ruleset ix_outs = (ix_lemmas, by_ix_out)

pub ruleset val_outs = (val_lemmas, by_val_out)

pub ruleset cond_outs = (cond_lemmas, by_cond_out)

pub ruleset stmt_outs = (stmt_lemmas, by_stmt_out)
