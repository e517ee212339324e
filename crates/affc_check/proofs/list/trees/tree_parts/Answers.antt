use Rattle.std.proofs.Common.{map, flat_map, ◌++◌, sym, ap, subst, ◌∙◌}
use Rattle.affc_quast.specs.Seen.{seen, trees_of}
use Rattle.affc_life.specs.Asked.{KeepLimits}
use Rattle.affc_life.specs.Clashes.{clashes_of_entry}
use Rattle.affc_sched.specs.Touched.{Each}
use Rattle.affc_check.specs.list.Loads.{part_said, part_clashes, IsPart}
use Rattle.affc_check.specs.list.Passes.{items_by_entry}
use Rattle.affc_check.proofs.list.ListLemmas.{each_there}
use Rattle.affc_check.proofs.list.trees.tree_parts.Goals as goal

pub add_readers-requires-clause-limits : goal.add_readers-requires-clause-limits
add_readers-requires-clause-limits c = subst (KeepLimits c.args.nest.now) (ap (map seen) (sym c.as_slice-trees.ensures)) c.requires.limits

pub add_readers-requires-clause-readers : goal.add_readers-requires-clause-readers
add_readers-requires-clause-readers c = each_there c.as_slice.result.now c.args.nest.now.entries c.as_slice.ensures

pub returns : goal.returns
returns c =
    let nest = c.args.nest.now in
    let put = c.in_ok-add_readers.ensures in
    record {
      said = put.said ∙ ap (λ ps. map (part_said nest) ps ++ flat_map (items_by_entry nest (map seen c.as_slice-trees.result.now)) c.as_slice.result.now) c.new-parts.ensures
          ∙ ap (λ ts. flat_map (items_by_entry nest (map seen ts)) c.as_slice.result.now) c.as_slice-trees.ensures ∙ ap (flat_map (items_by_entry nest (trees_of c.args.flow.now))) c.as_slice.ensures;
      clashing = λ walk. put.clashing walk ∙ ap (λ ps. flat_map (part_clashes nest walk) ps ++ flat_map (clashes_of_entry nest walk (map seen c.as_slice-trees.result.now)) c.as_slice.result.now) c.new-parts.ensures
          ∙ ap (λ ts. flat_map (clashes_of_entry nest walk (map seen ts)) c.as_slice.result.now) c.as_slice-trees.ensures ∙ ap (flat_map (clashes_of_entry nest walk (trees_of c.args.flow.now))) c.as_slice.ensures;
      each = put.each (subst (Each (IsPart nest)) (sym c.new-parts.ensures) tt);
    }
