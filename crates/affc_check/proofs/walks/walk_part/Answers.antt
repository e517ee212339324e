use Rattle.std.proofs.Common.{sym, ap, subst}
use Rattle.affc_check.specs.Walked.{Walked, walk_in}
use Rattle.affc_check.specs.list.Loads.{part_clashes}
use Rattle.affc_check.proofs.WalkedLemmas.{walked_none}
use Rattle.affc_check.proofs.walks.walk_part.Goals as goal

pub returns-in-None-clause-ok : goal.returns-in-None-clause-ok
returns-in-None-clause-ok c =
    let a = c.args.asked.now in
    subst (Walked a.along c.args.carried c.args.carried) (ap (part_clashes a.nest.now (walk_in a)) (sym c.in-None.is)) (walked_none a.along c.args.carried)
