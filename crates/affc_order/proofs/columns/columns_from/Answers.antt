use Rattle.std.proofs.Common.{◌≡◌, arith, length, sym, ap, subst, ◌∙◌}
use Rattle.std.specs.List.{All}
use Rattle.affc_nest.specs.Sides.{IsSide}
use Rattle.affc_order.proofs.CodeLemmas.{columns_sides}
use Rattle.affc_order.proofs.ColumnLemmas.{from_long}
use Rattle.affc_order.proofs.columns.columns_from.Goals as goal

pub returns-clause-long : goal.returns-clause-long
returns-clause-long c =
    let e : c.loop-i.i ≡ c.args.n = omega arith in
    ap length c.loop-i.invariant ∙ from_long c.args.columns c.args.first c.loop-i.i ∙ e

pub returns-clause-sides : goal.returns-clause-sides
returns-clause-sides c = subst (All (IsSide c.args.columns)) (sym c.loop-i.invariant) (columns_sides c.args.columns c.args.first c.loop-i.i)
