use Rattle.std.proofs.Common.{flat_map, map, ◌++◌, ap, sym, subst, ◌∙◌}
use Rattle.std.specs.List.{All}
use Rattle.std.proofs.lemmas.Result.{IfOk-weaker}
use Rattle.affc_products.specs.Groups.{group_systems}
use Rattle.affc_products.specs.Parts.{IsWithin}
use Rattle.affc_sched.specs.Questions.{legality_questions}
use Rattle.affc_check.specs.list.Groups.{part_items}
use Rattle.affc_check.specs.list.Held.{listed_said}
use Rattle.affc_check.specs.list.Items.{Question}
use Rattle.affc_check.proofs.LookLemmas.{looks_same}
use Rattle.affc_check.proofs.list.ListLemmas.{by_systems}
use Rattle.affc_check.proofs.looks.look_schedule.Goals as goal

pub add_kept-requires : goal.add_kept-requires
add_kept-requires c = subst (λ gs. All IsWithin (flat_map group_systems gs)) (sym c.as_slice.ensures.value) c.in_ok-groups.ensures.within

pub returns : goal.returns
returns c =
    let groups = c.as_slice.result.now in
    let is = ap (flat_map listed_said) c.as_slice-2.ensures.value ∙ c.in_ok-add_kept.ensures ∙ ap (λ xs. flat_map listed_said xs ++ part_items groups) c.new-listed.ensures.items
    ∙ ap part_items c.as_slice.ensures.value ∙ ap (map Question) c.in_ok-groups.ensures.value ∙ by_systems (legality_questions c.args.nest.now c.args.schedule.now) in
    IfOk-weaker c.look_all.result _ _ (λ new h. looks_same c.args.looked new (flat_map listed_said c.as_slice-2.result.now) _ is h) c.look_all.ensures
