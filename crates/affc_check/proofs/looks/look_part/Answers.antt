use Rattle.std.proofs.Common.{ap, sym, subst}
use Rattle.std.proofs.lemmas.Result.{IfOk-weaker, IfErr-weaker}
use Rattle.affc_check.specs.Looked.{AreLooked}
use Rattle.affc_check.specs.list.Limits.{AnyPasses}
use Rattle.affc_check.specs.list.Loads.{part_said, IsPart}
use Rattle.affc_check.proofs.LookLemmas.{none_looked}
use Rattle.affc_check.proofs.looks.look_part.Goals as goal

pub look_load-requires-clause-loaded : goal.look_load-requires-clause-loaded
look_load-requires-clause-loaded c = subst (IsPart c.args.nest.now) c.in-Some.is c.requires.part

pub returns-in-None-clause-ok : goal.returns-in-None-clause-ok
returns-in-None-clause-ok c = subst (AreLooked c.args.looked c.args.looked) (ap (part_said c.args.nest.now) (sym c.in-None.is)) (none_looked c.args.looked)

pub returns-in-Some-clause-ok : goal.returns-in-Some-clause-ok
returns-in-Some-clause-ok c =
    IfOk-weaker c.look_load.result _ _ (λ new h. subst (AreLooked c.args.looked new) (ap (part_said c.args.nest.now) (sym c.in-Some.is)) h) c.look_load.ensures.ok

pub returns-in-Some-clause-past : goal.returns-in-Some-clause-past
returns-in-Some-clause-past c =
    IfErr-weaker c.look_load.result _ _ (λ e h l. subst AnyPasses (ap (part_said c.args.nest.now) (sym c.in-Some.is)) (h l)) c.look_load.ensures.past
