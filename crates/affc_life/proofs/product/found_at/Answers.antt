use Rattle.std.proofs.Common.{flat_map, subst, arith}
use Rattle.std.proofs.lemmas.Option.{slice_get_past}
use Rattle.affc_life.specs.Products.{systems_in}
use Rattle.affc_life.specs.Sought.{IsPlace}
use Rattle.affc_life.proofs.product.found_at.Goals as goal

pub returns-in-Here-clause-some : goal.returns-in-Here-clause-some
returns-in-Here-clause-some c = (subst (IsPlace c.args.products.now c.args.number) c.in-Here.is c.in_ok-found.ensures).0

pub returns-in-Here-clause-fit : goal.returns-in-Here-clause-fit
returns-in-Here-clause-fit c = (subst (IsPlace c.args.products.now c.args.number) c.in-Here.is c.in_ok-found.ensures).1

pub returns-in-Past-clause-none : goal.returns-in-Past-clause-none
returns-in-Past-clause-none c =
    let h = subst (IsPlace c.args.products.now c.args.number) c.in-Past.is c.in_ok-found.ensures in
    slice_get_past (flat_map systems_in c.args.products.now) c.args.number (omega (arith, h))
