use Rattle.std.proofs.Common.{map, sym, subst}
use Rattle.std.proofs.lemmas.Result.{IfOk-weaker}
use Rattle.affc_life.specs.Clashes.{clash_of}
use Rattle.affc_check.specs.Walked.{Seeks}
use Rattle.affc_check.specs.declared.walks.Sought.TheVariants.{Here, Nowhere}
use Rattle.affc_check.specs.list.Walks.{clash_systems}
use Rattle.affc_check.proofs.WalkedLemmas.{here_stays}
use Rattle.affc_check.proofs.walks.seek_on.Goals as goal

pub returns-in-Ahead : goal.returns-in-Ahead
returns-in-Ahead c =
    let cs = map clash_of (clash_systems c.args.products.items) in
    IfOk-weaker c.seek_among.result _ _ (λ new h. subst (λ s. Seeks s new cs) (sym c.in-Ahead.is) h) c.seek_among.ensures

pub returns-in-Here : goal.returns-in-Here
returns-in-Here c =
    let cs = map clash_of (clash_systems c.args.products.items) in
    let found = c.in-Here.found in
    subst (λ s. Seeks s (Here found c.in-Here.number) cs) (sym c.in-Here.is) (λ before z h. here_stays found.items c.in-Here.number before cs z h)

pub returns-in-Nowhere : goal.returns-in-Nowhere
returns-in-Nowhere c =
    let cs = map clash_of (clash_systems c.args.products.items) in
    subst (λ s. Seeks s Nowhere cs) (sym c.in-Nowhere.is) (λ before z h. h)
