use Rattle.std.proofs.Common.{◌≡◌, rules}
use Rattle.affc_ast.specs.declared.tree.Val.TheVariants as v
use Rattle.affc_ast.proofs.Outs.{val_outs}
use Rattle.affc_rewrite.proofs.ValueArms.{not_plain, bin_plain, shift_plain}
use Rattle.affc_rewrite.proofs.statements.+value.Goals as goal

pub value-requires : goal.value-requires
value-requires t c =
    let g : c.args.e.now ≡ v.Not c.get.result.now = first_of (cc (c.in-Not.is, c.get.ensures), search (rules, c.in-Not.is, c.get.ensures)) in
    (first_of (search rules, search (rules, val_outs)), (c.requires.walk, not_plain c.args.names c.args.e.now c.requires.plain c.get.result.now g))

pub value-requires-in-Bin : goal.value-requires-in-Bin
value-requires-in-Bin t c =
    let g : c.args.e.now ≡ v.Bin c.in-Bin.op c.get-in-Bin.result.now c.in-Bin.right = first_of (cc (c.in-Bin.is, c.get-in-Bin.ensures), search (rules, c.in-Bin.is, c.get-in-Bin.ensures)) in
    (first_of (search rules, search (rules, val_outs)), (c.requires.walk, (bin_plain c.args.names c.args.e.now c.requires.plain c.in-Bin.op c.get-in-Bin.result.now c.in-Bin.right g).0))

pub value-requires-in-Bin-2 : goal.value-requires-in-Bin-2
value-requires-in-Bin-2 t c =
    let g : c.args.e.now ≡ v.Bin c.in-Bin.op c.in-Bin.left c.get-in-Bin-2.result.now = first_of (cc (c.in-Bin.is, c.get-in-Bin-2.ensures), search (rules, c.in-Bin.is, c.get-in-Bin-2.ensures)) in
    (first_of (search rules, search (rules, val_outs)), (c.requires.walk, (bin_plain c.args.names c.args.e.now c.requires.plain c.in-Bin.op c.in-Bin.left c.get-in-Bin-2.result.now g).1))

pub value-requires-in-Shift : goal.value-requires-in-Shift
value-requires-in-Shift t c =
    let g : c.args.e.now ≡ v.Shift c.in-Shift.left c.get-in-Shift.result.now c.in-Shift.by = first_of (cc (c.in-Shift.is, c.get-in-Shift.ensures), search (rules, c.in-Shift.is, c.get-in-Shift.ensures)) in
    (first_of (search rules, search (rules, val_outs)), (c.requires.walk, shift_plain c.args.names c.args.e.now c.requires.plain c.in-Shift.left c.get-in-Shift.result.now c.in-Shift.by g))
