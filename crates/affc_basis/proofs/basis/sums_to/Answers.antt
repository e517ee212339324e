use Rattle.std.proofs.Common.{rules, ◌∙◌, arith, get_or, pos, FitsSigned}
use Rattle.std.specs.Int.{w128}
use Rattle.std.proofs.lemmas.Int.{to_z-of_z}
use Rattle.affc_rows.proofs.FormLemmas.{dot_step}
use Rattle.affc_basis.specs.Bases.{entries_of}
use Rattle.affc_basis.proofs.Products.{length-entries_of, entries_of-at}
use Rattle.affc_basis.proofs.basis.sums_to.Goals as goal

pub loop-i-preserved : goal.loop-i-preserved
loop-i-preserved c =
    let f : FitsSigned w128 (get_or c.args.coefs.now c.loop-i.i (pos 0)) = search rules in
    let g : FitsSigned w128 c.entry.result = search rules in
    let value = simp to_z-of_z at c.plus-sum.ensures.value in
    let entries = entries_of c.args.column c.args.forms.now in
    let long = length-entries_of c.args.column c.args.forms.now in
    let read = c.entry.ensures ∙ entries_of-at c.args.column c.loop-i.i c.args.forms.now c.index-forms-i.result (omega arith) c.index-forms-i.is in
    record {
      sum = dot_step c.loop-i.i c.args.coefs.now entries c.entry.result _ _ _ (omega arith) (omega (arith, long)) read value c.loop-i.invariant.sum;
      terms = omega (arith, c.plus-sum.ensures.terms, c.loop-i.invariant.terms);
    }
