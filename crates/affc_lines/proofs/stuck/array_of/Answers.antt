use Rattle.std.proofs.Common.{◌≡◌, map}
use Rattle.affc_ast.specs.Trace.{assignments}
use Rattle.affc_interp.specs.Arrays.{values_in}
use Rattle.affc_lines.specs.Stuck.{arrays_accessed}
use Rattle.affc_lines.proofs.Accesses.{all_accessed, no_statement, no_access, access_at}
use Rattle.affc_lines.proofs.stuck.array_of.Goals as goal

pub returns-in_default : goal.returns-in_default
returns-in_default c =
    let h = c.in_default.ensures.lookup in
    let all : values_in c.deref.result.now ≡ map arrays_accessed (assignments c.args.program.now) =
    all_accessed c.args.program.now c.as_slice.result.now c.new-each.result.items c.add_each_accessed.new.each.items c.deref.result.now c.new-each.ensures.items c.as_slice.ensures c.in_ok-add_each_accessed.ensures c.deref.ensures.value in
    no_statement c.args.program.now c.args.statement c.args.access c.deref.result.now all h.3

pub returns-in-Some-get : goal.returns-in-Some-get
returns-in-Some-get c =
    let h = c.in-Some.ensures.lookup in
    let k = c.in-Some-get.ensures.lookup in
    let all : values_in c.deref.result.now ≡ map arrays_accessed (assignments c.args.program.now) =
    all_accessed c.args.program.now c.as_slice.result.now c.new-each.result.items c.add_each_accessed.new.each.items c.deref.result.now c.new-each.ensures.items c.as_slice.ensures c.in_ok-add_each_accessed.ensures c.deref.ensures.value in
    access_at c.args.program.now c.args.statement c.args.access c.in-Some-get.array.now c.deref.result.now c.in-Some.arrays.now c.deref-2.result.now all h.3.0 h.1 c.deref-2.ensures.value (k.3.1 0)

pub returns : goal.returns
returns c =
    let h = c.in-Some.ensures.lookup in
    let k = c.in-None.ensures.lookup in
    let all : values_in c.deref.result.now ≡ map arrays_accessed (assignments c.args.program.now) =
    all_accessed c.args.program.now c.as_slice.result.now c.new-each.result.items c.add_each_accessed.new.each.items c.deref.result.now c.new-each.ensures.items c.as_slice.ensures c.in_ok-add_each_accessed.ensures c.deref.ensures.value in
    no_access c.args.program.now c.args.statement c.args.access c.deref.result.now c.in-Some.arrays.now c.deref-2.result.now all h.3.0 h.1 c.deref-2.ensures.value k.3
