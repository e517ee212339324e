use Rattle.std.proofs.Common.{rules}
use Rattle.std.specs.Cmp.Rules.{signed_items}
use Rattle.affc_plan.proofs.maps.same.Goals as goal

pub returns : goal.returns
returns c = grind (rules, signed_items c.args.a.now c.args.b.now)
