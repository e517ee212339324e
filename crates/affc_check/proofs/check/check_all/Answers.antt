use Rattle.std.proofs.Common.{sym, subst}
use Rattle.affc_order.proofs.CodeLemmas.{is_nest}
use Rattle.affc_sched.specs.Touched.{Each}
use Rattle.affc_quast.specs.Seen.{trees_of}
use Rattle.affc_check.specs.Made.{AreMade, FoldFits}
use Rattle.affc_check.specs.list.Loads.{AreTreeParts}
use Rattle.affc_check.proofs.list.ListingLemmas.{folds_asked}
use Rattle.affc_check.proofs.MadeLemmas.{all_made}
use Rattle.affc_check.proofs.Words.{folds_fit}
use Rattle.affc_check.proofs.check.check_all.Goals as goal

pub tree_parts-requires-clause-nested : goal.tree_parts-requires-clause-nested
tree_parts-requires-clause-nested c = is_nest c.args.nest.now c.args.schedule.now c.requires.asked.scheduled

pub check_items-requires-clause-setting : goal.check_items-requires-clause-setting
check_items-requires-clause-setting c = record {
  asked = c.requires.asked;
  parts = subst (AreTreeParts c.args.nest.now (trees_of c.args.cert.now.flow)) (sym c.as_slice.ensures) c.in_ok-parts.ensures;
}

pub add_made-requires-clause-setting : goal.add_made-requires-clause-setting
add_made-requires-clause-setting c = record {
  asked = c.requires.asked;
  parts = subst (AreTreeParts c.args.nest.now (trees_of c.args.cert.now.flow)) (sym c.as_slice.ensures) c.in_ok-parts.ensures;
}

pub add_made-requires-clause-asked : goal.add_made-requires-clause-asked
add_made-requires-clause-asked c = folds_asked c.args.nest.now c.args.cert.now c.as_slice-2.result.now c.requires.certificate c.as_slice-2.ensures

pub add_made-requires-clause-fit : goal.add_made-requires-clause-fit
add_made-requires-clause-fit c =
    let cert = c.args.cert.now in
    let proved = c.in_ok-spare.ensures.ok in
    subst (Each (FoldFits c.args.nest.now c.args.schedule.now (trees_of cert.flow))) (sym c.as_slice-2.ensures)
    (folds_fit c.args.nest.now c.args.schedule.now cert proved.items c.requires.asked c.requires.certificate proved.are proved.within proved.valid)

pub returns-clause-ok : goal.returns-clause-ok
returns-clause-ok c =
    let cert = c.args.cert.now in
    let proved = c.in_ok-spare.ensures.ok in
    let trees = trees_of cert.flow in
    let made = subst (λ z. AreMade c.args.nest.now c.args.schedule.now trees z c.new-folds.result.items c.add_made.new.out.items) c.as_slice-2.ensures c.in_ok-add_made.ensures in
    record {
      items = proved.items;
      are = proved.are;
      valid = proved.valid;
      folds = all_made c.args.nest.now c.args.schedule.now trees cert.folds proved.are.folds c.new-folds.result.items c.add_made.new.out.items c.new-folds.ensures.items proved.are.said made;
      proofs = proved.proofs;
    }
