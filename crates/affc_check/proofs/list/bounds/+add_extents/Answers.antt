use Rattle.std.proofs.Common.{◌≡◌, ◌-◌, ◌∷◌, ◌++◌, [], length, flat_map, take, drop, subst}
use Rattle.std.proofs.lemmas.Result.{on_ok_weaker}
use Rattle.affc_domain.proofs.Lists.{first_and_rest}
use Rattle.affc_nest.specs.Questions.{extent_question}
use Rattle.affc_check.specs.list.Held.{listed_said}
use Rattle.affc_check.specs.list.Items.{Question}
use Rattle.affc_check.proofs.list.ListLemmas.{next_mapped}
use Rattle.affc_check.proofs.list.bounds.+add_extents.Goals as goal

pub returns-in_ok-add_question-in-len1-up : goal.returns-in_ok-add_question-in-len1-up
returns-in_ok-add_question-in-len1-up t c =
    let es = c.args.extents.now in
    on_ok_weaker c.add_extents.result
    (λ e. next_mapped Question (extent_question c.args.nest.now) es (take (length es - 1) (drop 1 es)) c.extent-item.result
    (flat_map listed_said c.args.out.now.items) (flat_map listed_said c.add_question.new.out.items) (flat_map listed_said c.add_extents.new.out.items)
    (first_and_rest es c.extent-item.result c.in-len1-up.len_at_least c.extent-item.is)
    (subst (λ s. flat_map listed_said c.add_question.new.out.items ≡ flat_map listed_said c.args.out.now.items ++ Question s ∷ []) c.in_ok-system-in-len1-up.ensures c.in_ok-add_question-in-len1-up.ensures)
    e) c.add_extents.ensures
