use Rattle.std.proofs.Common.{◌∷◌, [], ◌-◌, length, map, take, drop, ap, subst, ◌∙◌}
use Rattle.std.proofs.lemmas.List.{map-append}
use Rattle.std.proofs.lemmas.Result.{on_ok_weaker}
use Rattle.affc_domain.proofs.Lists.{first_and_rest}
use Rattle.affc_sched.specs.Touched.{Each}
use Rattle.affc_quast.specs.Seen.{trees_of}
use Rattle.affc_life.specs.Clashes.{clash_of}
use Rattle.affc_check.specs.list.Walks.{clash_systems, IsFoldAsked}
use Rattle.affc_check.proofs.list.ListingLemmas.{large_ends, one_added}
use Rattle.affc_check.proofs.list.all.+add_systems.Goals as goal

pub clash_products-requires-clause-trees : goal.clash_products-requires-clause-trees
clash_products-requires-clause-trees t c =
    let cs = c.args.folds.now in
    let is = first_and_rest cs c.fold-item.result c.in-len1-up.len_at_least c.fold-item.is in
    (subst (Each (IsFoldAsked c.args.nest.now (trees_of c.args.flow.now))) is c.requires.folds).0.limits

pub returns-in_ok-push-in-Ok : goal.returns-in_ok-push-in-Ok
returns-in_ok-push-in-Ok t c =
    let cs = c.args.folds.now in
    let f = c.fold-item.result in
    let is = first_and_rest cs f c.in-len1-up.len_at_least c.fold-item.is in
    on_ok_weaker c.add_systems.result
    (one_added c.args.nest.now c.args.schedule.now (trees_of c.args.flow.now) cs (take (length cs - 1) (drop 1 cs)) f is (clash_systems c.from_vec.result) (map clash_systems c.args.out.now) (map clash_systems c.push.new.self) (map clash_systems c.add_systems.new.out)
    (ap (λ ps. map clash_of (clash_systems ps)) c.from_vec.ensures ∙ c.in-Ok.ensures.ok) c.in-Ok.ensures.fits (ap (map clash_systems) c.in_ok-push-in-Ok.ensures.ok ∙ map-append clash_systems c.args.out.now (c.from_vec.result ∷ [])))
    c.add_systems.ensures

pub returns-in-Err-Large : goal.returns-in-Err-Large
returns-in-Err-Large t c =
    let cs = c.args.folds.now in
    let f = c.fold-item.result in
    let is = first_and_rest cs f c.in-len1-up.len_at_least c.fold-item.is in
    large_ends c.args.nest.now c.args.schedule.now (trees_of c.args.flow.now) cs (take (length cs - 1) (drop 1 cs)) f is (map clash_systems c.args.out.now) (c.in-Err-Large.ensures.large c.in-Err-Large.field-0-is)
