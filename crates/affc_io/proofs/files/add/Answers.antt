use Rattle.std.proofs.Common.{refl}
use Rattle.affc_io.proofs.Held.{pushed}
use Rattle.affc_io.proofs.files.add.Goals as goal

pub returns-clause-ok : goal.returns-clause-ok
returns-clause-ok c =
    (pushed _ c.args.files.now.items _ _ _ _ _ refl c.in_ok-push.ensures.items c.requires c.in_ok-name.ensures.ok c.in_ok-bytes.ensures.items).at_name

pub returns-clause-others : goal.returns-clause-others
returns-clause-others c =
    (pushed _ c.args.files.now.items _ _ _ _ _ refl c.in_ok-push.ensures.items c.requires c.in_ok-name.ensures.ok c.in_ok-bytes.ensures.items).others

pub returns-clause-order : goal.returns-clause-order
returns-clause-order c =
    (pushed _ c.args.files.now.items _ _ _ _ _ refl c.in_ok-push.ensures.items c.requires c.in_ok-name.ensures.ok c.in_ok-bytes.ensures.items).order
