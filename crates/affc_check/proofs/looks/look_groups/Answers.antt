use Rattle.std.proofs.Common.{flat_map, ◌++◌, ap, ◌∙◌}
use Rattle.affc_check.specs.list.Groups.{part_items}
use Rattle.affc_check.specs.list.Held.{listed_said}
use Rattle.affc_check.proofs.LookLemmas.{looks_same}
use Rattle.affc_check.proofs.looks.look_groups.Goals as goal

pub returns-clause-ok : goal.returns-clause-ok
returns-clause-ok c =
    let items = part_items c.args.groups.now in
    let listed = c.in_ok-add_groups.ensures.ok in
    record {
      looks = looks_same c.args.looked c.in_ok-after.after (flat_map listed_said c.as_slice.result.now) items
          (ap (flat_map listed_said) c.as_slice.ensures.value ∙ listed.put ∙ ap (λ xs. flat_map listed_said xs ++ items) c.new-listed.ensures.items) c.in_ok-after.ensures;
      within = listed.within;
    }
