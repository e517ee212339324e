use Rattle.std.proofs.Common.{ap, arith}
use Rattle.affc_interp.specs.Arrays.{values_in}
use Rattle.affc_interp.proofs.Feeds.{refused_so, not_whole}
use Rattle.affc_interp.proofs.feed.read_feed.Goals as goal

pub returns-in-Ok-false : goal.returns-in-Ok-false
returns-in-Ok-false c =
    not_whole c.args.text.now c.args.program.now c.as_slice-params.result.now c.in-Ok.rest c.new-numbers.result.items c.read_lines.new.numbers.items c.as_slice-in-Ok.result.now (values_in c.new-arrays.result.items) (values_in c.read_lines.new.arrays.items) c.as_slice.result.now c.in-Ok-false.field-0
    c.as_slice-params.ensures c.in-Ok.ensures c.new-numbers.ensures.items (ap values_in c.new-arrays.ensures.items) c.as_slice-in-Ok.ensures.value c.as_slice.ensures c.in-Ok-false.ensures.says c.in-Some.past c.in-Ok-false.field-0-test (omega (arith, c.in-Some.ensures))

pub returns-in-Err : goal.returns-in-Err
returns-in-Err c = refused_so c.args.text.now c.args.program.now c.in-Err.fault c.as_slice-params.result.now c.new-numbers.result.items c.read_lines.new.numbers.items (values_in c.new-arrays.result.items) (values_in c.read_lines.new.arrays.items) c.as_slice-params.ensures c.new-numbers.ensures.items (ap values_in c.new-arrays.ensures.items) c.in-Err.ensures
