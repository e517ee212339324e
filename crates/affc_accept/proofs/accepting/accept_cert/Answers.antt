use Rattle.std.proofs.Common.{refl, sym, subst}
use Rattle.std.proofs.lemmas.Result.{err_from_is_err_and}
use Rattle.affc_accept.specs.Accepted.{IsRead}
use Rattle.affc_accept.proofs.accepting.accept_cert.Goals as goal

pub returns-in_err-text-clause-err : goal.returns-in_err-text-clause-err
returns-in_err-text-clause-err c =
    let p = err_from_is_err_and c.from_residual-in_err-text.result c.from_residual-in_err-text.ensures.1 in
    rw (p.1, p.2) (λ text read. c.in_err-text.ensures.err c.args.nest.now c.args.plan.now text c.in_ok-layout.ensures read)

pub returns-in_err-with_bases-clause-err : goal.returns-in_err-with_bases-clause-err
returns-in_err-with_bases-clause-err c =
    let p = err_from_is_err_and c.from_residual-in_err-with_bases.result c.from_residual-in_err-with_bases.ensures.1 in
    rw (p.1, p.2) (λ text read. c.in_err-with_bases.ensures.err text (subst (IsRead c.args.nest.now text) (sym c.in_ok-text.ensures.same) read))

pub returns-in_err-checked-clause-err : goal.returns-in_err-checked-clause-err
returns-in_err-checked-clause-err c =
    let p = err_from_is_err_and c.from_residual-in_err-checked.result c.from_residual-in_err-checked.ensures.1 in
    rw (p.1, p.2) (λ text read. c.in_err-checked.ensures.err text (subst (IsRead c.args.nest.now text) (sym c.in_ok-text.ensures.same) read))

pub returns-clause-ok : goal.returns-clause-ok
returns-clause-ok c = record {
  cert = c.in_ok-text.cert;
  read = c.in_ok-text.ensures.read c.args.nest.now c.in_ok-layout.ensures;
  bases = c.in_ok-with_bases.ensures.kept;
  checked = c.in_ok-checked.checked;
  is_checked = c.in_ok-checked.ensures.ok;
  are = refl;
}

pub returns-clause-spare : goal.returns-clause-spare
unfolding returns-clause-ok
returns-clause-spare c = record { accepted = returns-clause-ok c; proofs = refl }
