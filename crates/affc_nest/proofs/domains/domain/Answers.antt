use Rattle.std.proofs.Common.{length, ap}
use Rattle.affc_nest.specs.Frames.{all_seen}
use Rattle.affc_nest.proofs.RowLemmas.{domain_made}
use Rattle.affc_nest.proofs.domains.domain.Goals as goal

pub returns : goal.returns
returns c =
    domain_made c.args.params.now c.ranges-3.result.now c.args.context.now c.args.ranges.now c.ranges-4.result.now (all_seen c.args.frames.now)
    c.new-system.result c.add_box.new.system c.add_tests.new.system c.add_loops.new.system c.add_conditions.new.system (length c.ranges-2.result.now) c.count_loops-loops.result
    c.new-system.ensures c.in_ok-add_box.ensures.value c.in_ok-add_tests.ensures.value c.in_ok-add_loops.ensures.value c.in_ok-add_conditions.ensures
    (ap length c.ranges-2.ensures.ranges) c.count_loops-loops.ensures c.ranges-3.ensures.ranges c.ranges-4.ensures.ranges
