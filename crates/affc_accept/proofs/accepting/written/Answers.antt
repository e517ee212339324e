use Rattle.std.proofs.Common.{◌∙◌, sym, subst}
use Rattle.affc_accept.specs.Refusals.{AcceptRefuses}
use Rattle.affc_accept.proofs.Written.{written_reads, written_within, unwritten}
use Rattle.affc_accept.proofs.accepting.written.Goals as goal

pub returns-in-Ok-clause-read : goal.returns-in-Ok-clause-read
returns-in-Ok-clause-read c nest is =
    written_reads nest c.args.layout.now c.in-Ok.text.items c.args.cert c.in_ok-cert.cert c.with_flow.result is (c.with_flow.ensures ∙ c.in_ok-cert.ensures.same) c.in_ok-cert.ensures.turned c.in-Ok.ensures.reads c.in-Ok.ensures.right

pub returns-in-Ok-clause-within : goal.returns-in-Ok-clause-within
returns-in-Ok-clause-within c nest is =
    written_within nest c.args.layout.now c.in-Ok.text.items c.args.cert c.in_ok-cert.cert c.with_flow.result is (c.with_flow.ensures ∙ c.in_ok-cert.ensures.same) c.in_ok-cert.ensures.turned c.in-Ok.ensures.reads c.in-Ok.ensures.right

pub returns-in-Err-clause-err : goal.returns-in-Err-clause-err
returns-in-Err-clause-err c nest plan text is read =
    subst (AcceptRefuses nest plan text) (sym c.of_text.ensures.cause)
    (unwritten nest c.args.layout.now plan text c.args.cert c.in_ok-cert.cert c.in-Err.fault is c.in_ok-cert.ensures.turned c.in-Err.ensures.err read)
