use Rattle.std.proofs.Common.{◌≡◌, ◌+◌, ◌^◌, ◌<◌, ◌∙◌, ap, sym, map, Ok, arith}
use Rattle.affc_ast.specs.Meaning.{nodes_in, assigns_in, denotation_of}
use Rattle.affc_interp.specs.Arrays.{values_in}
use Rattle.affc_interp.specs.Budget.{exec_of, nodes_among, assigns_among, all_within}
use Rattle.affc_ast.specs.Counted.{body_node}
use Rattle.affc_interp.proofs.Agrees.{run_nodes, run_assigns}
use Rattle.affc_interp.proofs.Counting.{body_within_is}
use Rattle.affc_interp.proofs.RunIs.{ended, stopped, unbegun, arrays_there}
use Rattle.affc_interp.proofs.run.run.Goals as goal

pub returns-in-Err : goal.returns-in-Err
returns-in-Err c = unbegun c.args.steps c.args.program.now c.args.feed.now.params.items (values_in c.args.feed.now.arrays.items) c.in-Err.halt c.no_instance.result c.fault_at.result c.in-Err.ensures c.fault_at.ensures

pub exec_all-requires-clause-nodes : goal.exec_all-requires-clause-nodes
exec_all-requires-clause-nodes c =
    let n : c.in-Ok.begun.1 ≡ body_node c.args.program.now = c.in-Ok.ensures.8 in
    let s : nodes_among (map exec_of c.as_slice.result.now) ≡ nodes_in (map denotation_of c.args.program.now.body) = ap (λ b. nodes_among (map exec_of b)) c.as_slice.ensures ∙ run_nodes c.args.program.now.body in
    let t : body_node c.args.program.now + nodes_in (map denotation_of c.args.program.now.body) < 2 ^ 32 = c.requires.nodes in
    omega arith

pub exec_all-requires-clause-assigns : goal.exec_all-requires-clause-assigns
exec_all-requires-clause-assigns c =
    let s : assigns_among (map exec_of c.as_slice.result.now) ≡ assigns_in (map denotation_of c.args.program.now.body) = ap (λ b. assigns_among (map exec_of b)) c.as_slice.ensures ∙ run_assigns c.args.program.now.body in
    let t : assigns_in (map denotation_of c.args.program.now.body) < 2 ^ 32 = c.requires.assigns in
    omega arith

pub exec_all-requires-clause-within : goal.exec_all-requires-clause-within
exec_all-requires-clause-within c =
    let n = arrays_there c.args.program.now c.args.feed.now.params.items (values_in c.args.feed.now.arrays.items) c.args.steps c.in-Ok.begun.0 c.in-Ok.begun.1 c.in-Ok.ensures in
    (λ i. all_within (map exec_of (c.as_slice.ensures i)) (n i)) ∙ body_within_is _ c.args.program.now.body ∙ c.requires.own_arrays

pub returns-in-Ok-exec_all : goal.returns-in-Ok-exec_all
returns-in-Ok-exec_all c =
    let r = ended c.args.steps c.args.program.now c.args.feed.now.params.items (values_in c.args.feed.now.arrays.items) c.in-Ok.begun.0 c.exec_all.new.self c.in-Ok.begun.1 c.as_slice.result.now c.as_slice.ensures c.in-Ok.ensures c.in-Ok-exec_all.ensures in
    (r.0, r.1 ∙ ap (λ s. Ok (s, r.0)) (sym c.stored.ensures))

pub returns-in-Err-exec_all : goal.returns-in-Err-exec_all
returns-in-Err-exec_all c =
    stopped c.args.steps c.args.program.now c.args.feed.now.params.items (values_in c.args.feed.now.arrays.items) c.in-Ok.begun.0 c.exec_all.new.self c.in-Ok.begun.1 c.in-Err-exec_all.halt c.stopped.result c.as_slice.result.now c.as_slice.ensures c.in-Ok.ensures
    c.in-Err-exec_all.ensures c.stopped.ensures
