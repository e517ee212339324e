use Rattle.std.proofs.Common.{subst}
use Rattle.affc_life.specs.Products.{found_system}
use Rattle.affc_life.specs.Sought.{IsPlace}
use Rattle.affc_check.proofs.walks.further.Goals as goal

pub returns-in-Here : goal.returns-in-Here
returns-in-Here c = (found_system c.in-Here._found, (subst (IsPlace c.args.products.now c.args.number) c.in-Here.is c.in_ok-_found.ensures).0)

pub returns-in-Past : goal.returns-in-Past
returns-in-Past c = subst (IsPlace c.args.products.now c.args.number) c.in-Past.is c.in_ok-_found.ensures
