use Rattle.std.proofs.Common.{sym, subst}
use Rattle.std.proofs.lemmas.Result.{IfErr-weaker}
use Rattle.affc_replay.specs.Made.{IsDecided}
use Rattle.affc_replay.proofs.Refused.{memory_refuses}
use Rattle.affc_replay.proofs.replaying.replay_by.Goals as goal

pub written-requires-clause-decided : goal.written-requires-clause-decided
written-requires-clause-decided c = subst (IsDecided c.args.program.now c.args.plan.now c.args.certificate.now) (sym c.as_slice.ensures.value) c.in_ok-folds.ensures.decided

pub returns-clause-err : goal.returns-clause-err
returns-clause-err c =
    IfErr-weaker c.written.result _ _ (λ refusal is schedule planned text reads bare. memory_refuses text schedule c.args.certificate.now refusal is) c.written.ensures.err

pub folds_of-requires : goal.folds_of-requires
folds_of-requires c = record {
  replaying = record {
    plain = c.requires.plain;
    arrays = c.requires.arrays;
    temporaries = c.requires.temporaries;
    near = c.in_ok-in_range.ensures.near;
    is = c.in_ok-nest.ensures.nest;
    fits = c.requires.fits;
    slight = c.requires.slight;
  };
  read = c.in_ok-cert.ensures.read;
  within = c.in_ok-cert.ensures.within;
  bases = c.in_ok-cert.ensures.bases;
}

pub written-requires-clause-replaying : goal.written-requires-clause-replaying
written-requires-clause-replaying c = record {
  plain = c.requires.plain;
  arrays = c.requires.arrays;
  temporaries = c.requires.temporaries;
  near = c.in_ok-in_range.ensures.near;
  is = c.in_ok-nest.ensures.nest;
  fits = c.requires.fits;
  slight = c.requires.slight;
}
