use Rattle.std.proofs.Common.{◌≡◌, ◌+◌, ◌∙◌, ap, []}
use Rattle.std.specs.Prelude.{sum_by}
use Rattle.affc_ast.specs.Index.{nodes_of_compare}
use Rattle.affc_ast.specs.Meaning.{arrays_of, nodes_of_decls}
use Rattle.affc_interp.specs.Arrays.{values_in}
use Rattle.affc_ast.specs.Counted.{temps_node}
use Rattle.affc_interp.proofs.RunIs.{begins_ok}
use Rattle.affc_interp.proofs.run.begin.Goals as goal

pub returns : goal.returns
returns c =
    let names = c.in_ok-names.ensures.items ∙ c.as_slice.ensures.value in
    let counted : c.param_nodes.result + c.compare_sum.result ≡ nodes_of_decls (arrays_of c.as_slice-params.result.now) + sum_by nodes_of_compare c.as_slice-4.result.now = λ i. c.param_nodes.ensures i + c.compare_sum.ensures i in
    let start : c.param_nodes.result + c.compare_sum.result ≡ temps_node c.args.program.now = counted ∙ (λ i. nodes_of_decls (arrays_of (c.as_slice-params.ensures i)) + sum_by nodes_of_compare (c.as_slice-4.ensures i)) in
    begins_ok c.args.program.now c.args.feed.now.params.items (values_in c.args.feed.now.arrays.items) c.args.limit c.as_slice-params.result.now c.as_slice-5.result.now c.as_slice-2.result.now c.as_slice-6.result.now (values_in c.as_slice-3.result.now)
    c.array_params.result (c.param_nodes.result + c.compare_sum.result) (c.param_nodes.result + c.compare_sum.result + c.decl_nodes.result) c.new-memory.result c.declare_params.new.self c.declare_temps.new.self c.fresh-machine.result
    c.as_slice-params.ensures c.as_slice-5.ensures (c.as_slice-2.ensures.value ∙ names) (c.as_slice-6.ensures.value ∙ names) (ap values_in c.as_slice-3.ensures.value) c.array_params.ensures start
    (λ i. start i + (c.decl_nodes.ensures ∙ ap nodes_of_decls c.as_slice-7.ensures) i) c.new-memory.ensures c.in_ok-declare_params.ensures c.in_ok-declare_temps.ensures
    (c.fresh-machine.ensures.scope ∙ ap (λ n. record { names = n; iterators = []; extents = c.declare_temps.new.self.extents }) names) c.fresh-machine.ensures.store c.fresh-machine.ensures.steps c.fresh-machine.ensures.limit
