use Rattle.std.proofs.Common.{◌≡◌, ◌-◌, ◌++◌, length, map, flat_map, take, drop, subst}
use Rattle.std.proofs.lemmas.Result.{on_ok_weaker}
use Rattle.affc_domain.proofs.Lists.{first_and_rest}
use Rattle.affc_nest.specs.Questions.{extent_question}
use Rattle.affc_nest.specs.declared.nest.ArrayInfo.{ArrayInfo}
use Rattle.affc_check.specs.list.Held.{listed_said}
use Rattle.affc_check.specs.list.Items.{Question}
use Rattle.affc_check.proofs.list.ListLemmas.{next_listed, each_extent, first_in}
use Rattle.affc_check.proofs.list.bounds.+add_arrays.Goals as goal

pub add_extents-requires-clause-extents : goal.add_extents-requires-clause-extents
add_extents-requires-clause-extents t c =
    let xs = c.args.arrays.now in
    each_extent c.args.nest.now c.array-item.result c.as_slice.result.now
    (first_in xs (take (length xs - 1) (drop 1 xs)) c.array-item.result c.args.nest.now.arrays (first_and_rest xs c.array-item.result c.in-len1-up.len_at_least c.array-item.is) c.requires.arrays) c.as_slice.ensures

pub returns-in_ok-add_extents-in-len1-up : goal.returns-in_ok-add_extents-in-len1-up
returns-in_ok-add_extents-in-len1-up t c =
    let as' = c.args.arrays.now in
    on_ok_weaker c.add_arrays.result
    (λ e. next_listed Question (λ (a : ArrayInfo). map (extent_question c.args.nest.now) a.extents) as' (take (length as' - 1) (drop 1 as')) c.array-item.result
    (flat_map listed_said c.args.out.now.items) (flat_map listed_said c.add_extents.new.out.items) (flat_map listed_said c.add_arrays.new.out.items)
    (first_and_rest as' c.array-item.result c.in-len1-up.len_at_least c.array-item.is)
    (subst (λ es. flat_map listed_said c.add_extents.new.out.items ≡ flat_map listed_said c.args.out.now.items ++ map Question (map (extent_question c.args.nest.now) es)) c.as_slice.ensures c.in_ok-add_extents-in-len1-up.ensures)
    e) c.add_arrays.ensures
