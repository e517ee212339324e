use Rattle.std.proofs.Common.{map, sym, subst}
use Rattle.std.proofs.lemmas.Result.{IfOk-weaker, IfErr-weaker}
use Rattle.affc_life.specs.Clashes.{clash_of}
use Rattle.affc_check.specs.Looked.{AreLooked}
use Rattle.affc_check.specs.Walked.{along_items, AreAlong}
use Rattle.affc_check.specs.list.Limits.{AnyPasses}
use Rattle.affc_check.specs.list.Walks.{clash_systems}
use Rattle.affc_check.proofs.LookLemmas.{none_looked}
use Rattle.affc_check.proofs.walks.look_distances.Goals as goal

pub returns-in-None-clause-ok : goal.returns-in-None-clause-ok
returns-in-None-clause-ok c =
    let cs = map clash_of (clash_systems c.args.products.now) in
    subst (λ o. AreLooked c.args.looked c.args.looked (along_items o cs)) (sym c.in-None.is) (none_looked c.args.looked)

pub look_along-requires : goal.look_along-requires
look_along-requires c = subst (λ o. AreAlong o (map clash_of (clash_systems c.args.products.now))) c.in-Some.is c.requires

pub returns-in-Some-clause-ok : goal.returns-in-Some-clause-ok
returns-in-Some-clause-ok c =
    let cs = map clash_of (clash_systems c.args.products.now) in
    IfOk-weaker c.look_along.result _ _ (λ new h. subst (λ o. AreLooked c.args.looked new (along_items o cs)) (sym c.in-Some.is) h) c.look_along.ensures.ok

pub returns-in-Some-clause-past : goal.returns-in-Some-clause-past
returns-in-Some-clause-past c =
    let cs = map clash_of (clash_systems c.args.products.now) in
    IfErr-weaker c.look_along.result _ _ (λ e h l. subst (λ o. AnyPasses (along_items o cs)) (sym c.in-Some.is) (h l)) c.look_along.ensures.past
