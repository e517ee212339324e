use Rattle.std.proofs.Common.{sym, ◌∙◌}
use Rattle.affc_check.proofs.list.StopLemmas.{stop_is}
use Rattle.affc_check.proofs.fold_looks.look_numbered.Goals as goal

pub returns-in-Err-clause-past : goal.returns-in-Err-clause-past
returns-in-Err-clause-past c = λ n e.
    let k = stop_is c.in-Err.stop c.args.number n (sym c.at_part.ensures ∙ e) in
    (k.0, c.in-Err.ensures.past k.1)
