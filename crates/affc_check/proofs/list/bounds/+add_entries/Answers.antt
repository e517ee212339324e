use Rattle.std.proofs.Common.{◌-◌, length, flat_map, take, drop}
use Rattle.std.proofs.lemmas.Result.{on_ok_weaker}
use Rattle.affc_domain.proofs.Lists.{first_and_rest}
use Rattle.affc_nest.specs.Questions.{entry_questions}
use Rattle.affc_check.specs.list.Held.{listed_said}
use Rattle.affc_check.specs.list.Items.{Question}
use Rattle.affc_check.proofs.list.ListLemmas.{next_listed}
use Rattle.affc_check.proofs.list.bounds.+add_entries.Goals as goal

pub returns-in_ok-add_entry-in-len1-up : goal.returns-in_ok-add_entry-in-len1-up
returns-in_ok-add_entry-in-len1-up t c =
    let es = c.args.entries.now in
    on_ok_weaker c.add_entries.result
    (λ e. next_listed Question (entry_questions c.args.nest.now) es (take (length es - 1) (drop 1 es)) c.entry-item.result
    (flat_map listed_said c.args.out.now.items) (flat_map listed_said c.add_entry.new.out.items) (flat_map listed_said c.add_entries.new.out.items)
    (first_and_rest es c.entry-item.result c.in-len1-up.len_at_least c.entry-item.is)
    c.in_ok-add_entry-in-len1-up.ensures e) c.add_entries.ensures
