use Rattle.std.proofs.Common.{◌+◌, ◌-◌, length, take, drop, refl, sym, ap, ◌∙◌, Ok, arith, rules, to_z-of_z, FitsSigned, w64}
use Rattle.affc_ast.specs.Index.{nodes_of_ix, index_values}
use Rattle.affc_interp.specs.Layout.{place_from}
use Rattle.affc_interp.specs.Seen.{read_then}
use Rattle.affc_interp.proofs.Lists.{first_and_rest, first_sum}
use Rattle.affc_interp.proofs.Reached.{on_place}
use Rattle.affc_interp.proofs.memory.+place_on.Goals as goal

pub overflow_add-node : goal.overflow_add-node
overflow_add-node t c =
    let s = first_sum nodes_of_ix c.args.subs.now c.e-item.result c.in-len1-up.len_at_least c.e-item.is in
    omega (arith, s)

pub place_on-requires : goal.place_on-requires
place_on-requires t c =
    let s = first_sum nodes_of_ix c.args.subs.now c.e-item.result c.in-len1-up.len_at_least c.e-item.is in
    omega (arith, s)

pub node_count-requires : goal.node_count-requires
node_count-requires t c =
    let s = first_sum nodes_of_ix c.args.subs.now c.e-item.result c.in-len1-up.len_at_least c.e-item.is in
    omega (arith, s)

pub eval-requires : goal.eval-requires
eval-requires t c =
    let s = first_sum nodes_of_ix c.args.subs.now c.e-item.result c.in-len1-up.len_at_least c.e-item.is in
    omega (arith, s)

pub returns-in_ok-x-in-len1-up : goal.returns-in_ok-x-in-len1-up
returns-in_ok-x-in-len1-up t c =
    let subs = c.args.subs.now in
    let rest = take (length subs - 1) (drop 1 subs) in
    let fits : FitsSigned w64 c.in_ok-x-in-len1-up.x = search rules in
    c.place_on.ensures
    ∙ ap (λ k. read_then (index_values rest (c.args.node + k) c.args.names.now) (λ xs. Ok (place_from c.args.size c.one_on-next.result.0 xs c.one_on-next.result.1.now))) c.node_count.ensures
    ∙ on_place c.e-item.result rest c.args.node c.args.names.now _ _ (λ xs. place_from c.args.size c.args.place xs c.args.extents.now) (sym c.in_ok-x-in-len1-up.ensures ∙ ap Ok (sym (to_z-of_z fits))) c.one_on-next.ensures
    ∙ ap (λ l. read_then (index_values l c.args.node c.args.names.now) (λ xs. Ok (place_from c.args.size c.args.place xs c.args.extents.now))) (sym (first_and_rest subs c.e-item.result c.e-item.result c.in-len1-up.len_at_least c.e-item.is refl))
