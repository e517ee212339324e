use Rattle.std.proofs.Common.{subst}
use Rattle.affc_replay.proofs.Decided.{decided_by}
use Rattle.affc_replay.specs.Scalars.{HasScalars}
use Rattle.affc_replay.proofs.replaying.folds_of.Goals as goal

pub returns-clause-decided : goal.returns-clause-decided
returns-clause-decided c =
    decided_by c.args.replaying.now.program.now c.args.replaying.now.nest.now c.args.replaying.now.plan.now c.args.replaying.now.certificate.now c.in_ok-checked.checked.folds.items c.add_scalars.new.out.items c.requires.replaying.plain c.requires.replaying.near c.requires.replaying.arrays c.requires.replaying.temporaries c.requires.replaying.is
    c.requires.replaying.fits c.in_ok-checked.ensures.ok (subst (λ as'. HasScalars 0 as' c.in_ok-checked.checked.folds.items c.add_scalars.new.out.items) c.as_slice.ensures c.in_ok-add_scalars.ensures)

pub accepted-requires : goal.accepted-requires
accepted-requires c = record { replaying = c.requires.replaying; read = c.requires.read; within = c.requires.within; bases = c.requires.bases }
