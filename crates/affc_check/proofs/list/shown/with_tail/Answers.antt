use Rattle.std.proofs.Common.{◌++◌, ap, ◌∙◌}
use Rattle.affc_check.proofs.list.ShownLemmas.{tail_fits}
use Rattle.affc_check.proofs.list.shown.with_tail.Goals as goal

pub returns-clause-rows : goal.returns-clause-rows
returns-clause-rows c =
    let base = c.args.found.now.product.now.base in
    tail_fits base.system.columns c.columns-columns.result c.rows.result.now c.args.found.now.rows c.args.tail.now c.in_ok-rows.rows c.add_copies.new.out c.add_copies-2.new.out c.new.result
    c.columns-columns.ensures.value c.rows.ensures.fit c.requires.found c.requires.tail c.in_ok-rows.ensures (c.in_ok-add_copies.ensures ∙ ap (λ z. c.in_ok-rows.rows ++ z) c.as_slice.ensures) c.in_ok-add_copies-2.ensures c.new.ensures
