use Rattle.std.proofs.lemmas.Result.{err_from_is_err_and}
use Rattle.affc_accept.proofs.accepting.accept_text.Goals as goal

pub returns-in_err-cert-clause-err : goal.returns-in_err-cert-clause-err
returns-in_err-cert-clause-err c =
    let p = err_from_is_err_and c.from_residual-in_err-cert.result c.from_residual-in_err-cert.ensures.1 in
    rw (p.1, p.2) (c.in_err-cert.ensures.err c.args.nest.now c.args.plan.now c.in_ok-layout.ensures)

pub returns-in_err-with_bases-clause-err : goal.returns-in_err-with_bases-clause-err
returns-in_err-with_bases-clause-err c =
    let p = err_from_is_err_and c.from_residual-in_err-with_bases.result c.from_residual-in_err-with_bases.ensures.1 in
    rw (p.1, p.2) (c.in_err-with_bases.ensures.err c.args.text.now (c.in_ok-cert.ensures.read c.args.nest.now c.in_ok-layout.ensures))
