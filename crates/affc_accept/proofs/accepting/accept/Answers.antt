use Rattle.std.proofs.Common.{refl}
use Rattle.std.proofs.lemmas.Result.{IfOk-weaker, IfErr-weaker}
use Rattle.affc_accept.proofs.accepting.accept.Goals as goal

pub returns-clause-ok : goal.returns-clause-ok
returns-clause-ok c =
    IfOk-weaker c.accept_items.result _ _
    (λ checked is. record {
      cert = c.in_ok-cert.cert;
      read = c.in_ok-cert.ensures.read;
      bases = c.in_ok-cert.ensures.bases;
      checked = checked;
      is_checked = is;
      are = refl;
    })
    c.accept_items.ensures.ok

pub returns-clause-err : goal.returns-clause-err
returns-clause-err c = IfErr-weaker c.accept_items.result _ _ (λ e refuses. refuses c.args.text.now c.in_ok-cert.ensures.read) c.accept_items.ensures.err
