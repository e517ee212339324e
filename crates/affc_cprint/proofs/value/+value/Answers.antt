use Rattle.std.proofs.Common.{◌≡◌, ◌+◌, ap, arith}
use Rattle.affc_ast.specs.Recursion.{by_val}
use Rattle.affc_ast.specs.Values as values
use Rattle.affc_grammar.specs.Printed.{value_step}
use Rattle.affc_cprint.specs.Seen.{seen}
use Rattle.affc_cprint.proofs.Writes.{told}
use Rattle.affc_cprint.proofs.Nodes.{not_is, bin_is, shift_is}
use Rattle.affc_cprint.proofs.Levels.{load_pieces, const_text, cast_text, not_text, binary_text, shift_text}
use Rattle.affc_cprint.proofs.value.+value.Goals as goal

pub value-returns-in-Load : goal.value-returns-in-Load
value-returns-in-Load t c =
    told c.load.result _ _ _ _ c.load.ensures
    (load_pieces c.args.prelude (seen c.args.names.now) c.args.level c.args.v.now c.in-Load.id c.in-Load.subs c.as_slice.result.now c.in-Load.is c.as_slice.ensures)

pub value-returns-in-Const : goal.value-returns-in-Const
value-returns-in-Const t c = told c.constant.result _ _ _ _ c.constant.ensures (const_text c.args.prelude (seen c.args.names.now) c.args.level c.args.v.now c.in-Const.n c.in-Const.is)

pub value-returns-in-Cast : goal.value-returns-in-Cast
value-returns-in-Cast t c = told c.cast.result _ _ _ _ c.cast.ensures (cast_text c.args.prelude (seen c.args.names.now) c.args.level c.args.v.now c.in-Cast.e c.in-Cast.is)

pub value-returns-in-Not : goal.value-returns-in-Not
value-returns-in-Not t c =
    told c.complement.result _ _ _ _ c.complement.ensures
    (not_text c.args.level (by_val (value_step c.args.prelude (seen c.args.names.now)) c.args.v.now) (by_val (value_step c.args.prelude (seen c.args.names.now)) c.get.result.now) (not_is (value_step c.args.prelude (seen c.args.names.now)) c.args.v.now c.in-Not.a c.get.result.now c.in-Not.is c.get.ensures))

pub value-returns-in-Bin : goal.value-returns-in-Bin
value-returns-in-Bin t c =
    told c.binary.result _ _ _ _ c.binary.ensures
    (binary_text c.args.level (by_val (value_step c.args.prelude (seen c.args.names.now)) c.args.v.now) c.in-Bin.op (by_val (value_step c.args.prelude (seen c.args.names.now)) c.get-in-Bin.result.now) (by_val (value_step c.args.prelude (seen c.args.names.now)) c.get-in-Bin-2.result.now) (bin_is (value_step c.args.prelude (seen c.args.names.now)) c.args.v.now c.in-Bin.op c.in-Bin.left c.in-Bin.right c.get-in-Bin.result.now c.get-in-Bin-2.result.now c.in-Bin.is c.get-in-Bin.ensures c.get-in-Bin-2.ensures))

pub value-returns-in-Shift : goal.value-returns-in-Shift
value-returns-in-Shift t c =
    told c.shifted.result _ _ _ _ c.shifted.ensures
    (shift_text c.args.level (by_val (value_step c.args.prelude (seen c.args.names.now)) c.args.v.now) c.in-Shift.left (by_val (value_step c.args.prelude (seen c.args.names.now)) c.get-in-Shift.result.now) c.in-Shift.by (shift_is (value_step c.args.prelude (seen c.args.names.now)) c.args.v.now c.in-Shift.left c.in-Shift.a c.get-in-Shift.result.now c.in-Shift.by c.in-Shift.is c.get-in-Shift.ensures))

pub value-complement-requires : goal.value-complement-requires
value-complement-requires t c =
    let n : (values.value_of c.args.v.now).nodes ≡ 1 + (values.value_of c.get.result.now).nodes = ap (λ i. i.nodes) (not_is values.value_step c.args.v.now c.in-Not.a c.get.result.now c.in-Not.is c.get.ensures) in
    omega (arith, n)

pub value-binary-requires : goal.value-binary-requires
value-binary-requires t c =
    let n : (values.value_of c.args.v.now).nodes ≡ 1 + (values.value_of c.get-in-Bin.result.now).nodes + (values.value_of c.get-in-Bin-2.result.now).nodes =
    ap (λ i. i.nodes) (bin_is values.value_step c.args.v.now c.in-Bin.op c.in-Bin.left c.in-Bin.right c.get-in-Bin.result.now c.get-in-Bin-2.result.now c.in-Bin.is c.get-in-Bin.ensures c.get-in-Bin-2.ensures) in
    omega (arith, n)

pub value-shifted-requires : goal.value-shifted-requires
value-shifted-requires t c =
    let n : (values.value_of c.args.v.now).nodes ≡ 1 + (values.value_of c.get-in-Shift.result.now).nodes = ap (λ i. i.nodes) (shift_is values.value_step c.args.v.now c.in-Shift.left c.in-Shift.a c.get-in-Shift.result.now c.in-Shift.by c.in-Shift.is c.get-in-Shift.ensures) in
    omega (arith, n)

pub complement-value-requires : goal.complement-value-requires
complement-value-requires t c = omega arith

pub binary-value-requires : goal.binary-value-requires
binary-value-requires t c = omega arith

pub binary-value-requires-2 : goal.binary-value-requires-2
binary-value-requires-2 t c = omega arith

pub shifted-value-requires : goal.shifted-value-requires
shifted-value-requires t c = omega arith
