use Rattle.std.proofs.Common.{◌∙◌, Some, None, length, refl}
use Rattle.std.proofs.lemmas.Option.{slice_get_read, slice_get_past}
use Rattle.affc_lines.proofs.Named.{temporary_name}
use Rattle.affc_lines.proofs.stuck.array_name.Goals as goal

pub returns-in-Some : goal.returns-in-Some
returns-in-Some c =
    let h = c.in-Some.ensures.lookup in
    c.as_str-in-Some.ensures
    ∙ temporary_name c.args.program.now c.as_slice-param-items.result.now c.loop-param.param-index c.loop-param.left c.args.array c.as_slice.result.now (Some c.in-Some.decl.now)
    c.loop-param-test.false c.loop-param.invariant c.as_slice.ensures
    (slice_get_read c.as_slice.result.now (length c.as_slice.result.now) c.loop-param.left c.in-Some.decl.now refl h.3.0 h.1)

pub returns-in-None : goal.returns-in-None
returns-in-None c =
    let h = c.in-None.ensures.lookup in
    temporary_name c.args.program.now c.as_slice-param-items.result.now c.loop-param.param-index c.loop-param.left c.args.array c.as_slice.result.now None
    c.loop-param-test.false c.loop-param.invariant c.as_slice.ensures (slice_get_past c.as_slice.result.now c.loop-param.left h.3)
