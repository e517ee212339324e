use Rattle.std.proofs.Common.{List, length, map, sym, ap, subst, ◌∙◌}
use Rattle.affc_nest.specs.declared.nest.Nest.{Nest}
use Rattle.affc_loops.specs.Ends.{ends_from}
use Rattle.affc_loops.specs.Loops.{times_of}
use Rattle.affc_loopends.specs.declared.bounds.Bounds.{Bounds}
use Rattle.affc_loopends.specs.scanned.Scanned.{sides_of}
use Rattle.affc_scan.specs.EndRows.{HaveEndRows}
use Rattle.affc_scan.specs.Alive.{numbered, as_scheduled}
use Rattle.affc_scan.proofs.Gathering.{bounds_rows, own_long}
use Rattle.affc_scan.proofs.gathered.gather_one.Goals as goal

pub own_ends-requires-clause-rows : goal.own_ends-requires-clause-rows
own_ends-requires-clause-rows c =
    let bounds : List Bounds = c.in_ok-bounds.bounds.items in
    subst (HaveEndRows c.args.first) (sym c.as_slice.ensures.value)
    (subst (λ k. HaveEndRows k bounds) (sym c.requires.first) (bounds_rows _ (length c.args.nest.now.params) c.args.ranges.now bounds c.in_ok-bounds.ensures.each))

pub returns-clause-long : goal.returns-clause-long
returns-clause-long c =
    let nest : Nest = c.args.nest.now in
    own_long nest c.args.ranges.now c.args.first (numbered c.args.alive.now) c.in_ok-bounds.bounds.items c.in_ok-ends.ends c.requires.alive c.in_ok-bounds.ensures.all
    (c.in_ok-ends.ensures ∙ ap (λ bs. ends_from c.args.first c.args.first (map sides_of bs) (times_of nest.params (as_scheduled c.args.alive.now))) c.as_slice.ensures.value)
