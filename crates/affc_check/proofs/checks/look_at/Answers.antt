use Rattle.std.proofs.Common.{subst}
use Rattle.std.proofs.lemmas.Result.{IfOk-weaker}
use Rattle.affc_check.specs.Looked.{Stands}
use Rattle.affc_check.specs.list.Held.{listed_said}
use Rattle.affc_check.proofs.LookLemmas.{unproved_at, unmet_at}
use Rattle.affc_check.proofs.checks.look_at.Goals as goal

pub returns-in-Holding : goal.returns-in-Holding
returns-in-Holding c = IfOk-weaker c.look_on.result _ _ (λ new h before proofs s. let t = subst (λ l. Stands l before proofs) c.in-Holding.is s in h before proofs t.0 t.1) c.look_on.ensures

pub returns-in-Unproved : goal.returns-in-Unproved
returns-in-Unproved c = unproved_at c.args.looked _ (listed_said c.args.listed.now) c.in-Unproved.is

pub returns-in-Unmet : goal.returns-in-Unmet
returns-in-Unmet c = unmet_at c.args.looked _ (listed_said c.args.listed.now) c.in-Unmet.is
