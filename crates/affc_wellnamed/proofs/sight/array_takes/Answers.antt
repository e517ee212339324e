use Rattle.std.proofs.Common.{◌≡◌, ◌≤◌, ◌++◌, ℕ, Bool, List, length, drop, slice_get, sym, ap, ◌∙◌, arith}
use Rattle.std.proofs.lemmas.List.{drop_all}
use Rattle.affc_ast.specs.declared.tree.Param.{Param}
use Rattle.affc_ast.specs.declared.tree.Decl.{Decl}
use Rattle.affc_wellnamed.specs.Known.{param_arrays, takes}
use Rattle.affc_wellnamed.proofs.sight.array_takes.Goals as goal

-- behind all parameters the temporaries are left
behind : (is_store : Bool) (count i left id : ℕ) (qs : List Param) (ds : List Decl) (r : Bool) → length qs ≤ i
    → takes is_store count (slice_get (param_arrays (drop i qs) ++ ds) left) ≡ takes is_store count (slice_get (param_arrays qs ++ ds) id)
    → r ≡ takes is_store count (slice_get ds left) → r ≡ takes is_store count (slice_get (param_arrays qs ++ ds) id)
behind is_store count i left id qs ds r past kept e =
    e ∙ ap (λ l. takes is_store count (slice_get (param_arrays l ++ ds) left)) (sym (drop_all i qs past)) ∙ kept

pub returns : goal.returns
returns c = behind c.args.is_store c.args.count c.loop-param.param-index c.loop-param.left c.args.id c.args.params.now c.args.temps.now c.one_takes.result (omega arith) c.loop-param.invariant c.one_takes.ensures
