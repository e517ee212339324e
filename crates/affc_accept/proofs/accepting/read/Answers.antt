use Rattle.std.proofs.Common.{sym, subst}
use Rattle.affc_cert.specs.Certificates.{seen}
use Rattle.affc_accept.specs.Refusals.{AcceptRefuses}
use Rattle.affc_accept.proofs.Refused.{is_read, is_cert_within, text_refused}
use Rattle.affc_accept.proofs.accepting.read.Goals as goal

pub returns-in-Ok-from_text-clause-read : goal.returns-in-Ok-from_text-clause-read
returns-in-Ok-from_text-clause-read c nest is =
    is_read nest c.args.layout.now c.args.text.now (seen c.in-Ok.cert) c.in-Ok-from_text.cert is c.in-Ok-from_text.ensures c.in-Ok.ensures.ok.0 c.in-Ok.ensures.ok.1

pub returns-in-Ok-from_text-clause-within : goal.returns-in-Ok-from_text-clause-within
returns-in-Ok-from_text-clause-within c nest is =
    is_cert_within nest c.args.layout.now c.args.text.now (seen c.in-Ok.cert) c.in-Ok-from_text.cert is c.in-Ok-from_text.ensures c.in-Ok.ensures.ok.0 c.in-Ok.ensures.ok.1

pub returns-in-Err-clause-err : goal.returns-in-Err-clause-err
returns-in-Err-clause-err c nest plan is =
    subst (AcceptRefuses nest plan c.args.text.now) (sym c.of_text.ensures.cause)
    (text_refused nest c.args.layout.now plan c.args.text.now c.in-Err.fault is c.in-Err.ensures.json c.in-Err.ensures.err)
