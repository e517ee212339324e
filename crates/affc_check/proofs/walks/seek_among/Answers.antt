use Rattle.std.proofs.Common.{List, Some, None, subst}
use Rattle.affc_life.specs.declared.clash.ClashProduct.{ClashProduct}
use Rattle.affc_check.specs.Walked.{IsFurther}
use Rattle.affc_check.specs.list.Walks.{clash_systems}
use Rattle.affc_check.proofs.WalkedLemmas.{found_here, found_past}
use Rattle.affc_check.proofs.walks.seek_among.Goals as goal

pub returns-in-Some : goal.returns-in-Some
returns-in-Some c =
    let products = c.args.products.items in
    let h = subst (IsFurther (clash_systems c.as_slice.result.now) c.args.number) c.in-Some.is c.in_ok-left.ensures in
    λ before z s. found_past products c.args.number c.in-Some.left before z (subst (λ (ps : List ClashProduct). IsFurther (clash_systems ps) c.args.number (Some c.in-Some.left)) c.as_slice.ensures.value h) s

pub returns-in-None : goal.returns-in-None
returns-in-None c =
    let products = c.args.products.items in
    let h = subst (IsFurther (clash_systems c.as_slice.result.now) c.args.number) c.in-None.is c.in_ok-left.ensures in
    let found = subst (λ (ps : List ClashProduct). IsFurther (clash_systems ps) c.args.number None) c.as_slice.ensures.value h in
    λ before z s. found_here products c.args.number found.0 before z found.1 s
