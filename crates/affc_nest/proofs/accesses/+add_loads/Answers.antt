use Rattle.std.proofs.Common.{◌≡◌, ◌++◌, sym, ap, ◌∙◌}
use Rattle.affc_ast.specs.declared.tree.Op.{Op}
use Rattle.affc_ast.specs.declared.tree.Val.{Val}
use Rattle.affc_ast.specs.declared.tree.Val.TheVariants as v
use Rattle.affc_ast.proofs.Outs.{val_outs}
use Rattle.affc_domain.specs.Accesses.{accesses_in}
use Rattle.affc_nest.specs.Touches.{all_touched}
use Rattle.affc_nest.proofs.RowLemmas.{added_twice}
use Rattle.affc_nest.proofs.accesses.+add_loads.Goals as goal

of_both : (op : Op) (a b : Val) → accesses_in (v.Bin op a b) ≡ accesses_in a ++ accesses_in b
of_both op a b = simp val_outs

pub returns-in_ok-add_loads-in-Bin-2 : goal.returns-in_ok-add_loads-in-Bin-2
returns-in_ok-add_loads-in-Bin-2 t c =
    let h = added_twice (all_touched c.args.out.now.items) (all_touched c.add_loads-in-Bin.new.out.items) (all_touched c.add_loads-in-Bin-2.new.out.items) (accesses_in c.get-in-Bin.result.now) (accesses_in c.get-in-Bin-2.result.now)
    c.in_ok-add_loads-in-Bin.ensures c.in_ok-add_loads-in-Bin-2.ensures in
    let l : c.get-in-Bin.result.now ≡ c.in-Bin.left = c.get-in-Bin.ensures in
    let r : c.get-in-Bin-2.result.now ≡ c.in-Bin.right = c.get-in-Bin-2.ensures in
    let e : accesses_in c.args.value.now ≡ accesses_in c.in-Bin.left ++ accesses_in c.in-Bin.right = ap accesses_in c.in-Bin.is ∙ of_both c.in-Bin.op c.in-Bin.left c.in-Bin.right in
    let f : accesses_in c.get-in-Bin.result.now ++ accesses_in c.get-in-Bin-2.result.now ≡ accesses_in c.args.value.now =
    ap (λ (x : Val). accesses_in x ++ accesses_in c.get-in-Bin-2.result.now) l ∙ ap (λ (x : Val). accesses_in c.in-Bin.left ++ accesses_in x) r ∙ sym e in
    h ∙ ap (λ zs. all_touched c.args.out.now.items ++ zs) f
