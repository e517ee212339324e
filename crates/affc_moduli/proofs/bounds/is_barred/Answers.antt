use Rattle.std.proofs.Common.{IsTrue, subst}
use Rattle.affc_moduli.proofs.Opposite.{barred_at}
use Rattle.affc_moduli.proofs.bounds.is_barred.Goals as goal

pub returns : goal.returns
returns c = λ yes z inside holds.
    barred_at c.args.region.now.system.rows c.args.row.now c.barring_by_key.result z c.barring_by_key.ensures (subst IsTrue c.is_some.ensures yes) inside.meets.meets holds
