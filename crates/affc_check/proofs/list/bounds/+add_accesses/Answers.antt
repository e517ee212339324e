use Rattle.std.proofs.Common.{◌-◌, ◌++◌, length, map, flat_map, take, drop, ap, ◌∙◌}
use Rattle.std.proofs.lemmas.Result.{on_ok_weaker}
use Rattle.affc_domain.proofs.Lists.{first_and_rest}
use Rattle.affc_nest.specs.Questions.{extents_of_access, questions_of}
use Rattle.affc_nest.specs.declared.nest.Access.{Access}
use Rattle.affc_check.specs.list.Held.{listed_said}
use Rattle.affc_check.specs.list.Items.{Question}
use Rattle.affc_check.proofs.list.ListLemmas.{next_listed, each_subscript, first_in}
use Rattle.affc_check.proofs.list.bounds.+add_accesses.Goals as goal

pub add_dimensions-requires-clause-subs : goal.add_dimensions-requires-clause-subs
add_dimensions-requires-clause-subs t c =
    let xs = c.args.accesses.now in
    each_subscript c.args.entry.now c.access-item.result c.as_slice-subs.result.now
    (first_in xs (take (length xs - 1) (drop 1 xs)) c.access-item.result c.args.entry.now.accesses (first_and_rest xs c.access-item.result c.in-len1-up.len_at_least c.access-item.is) c.requires.accesses) c.as_slice-subs.ensures

pub returns-in_ok-add_dimensions-in-len1-up : goal.returns-in_ok-add_dimensions-in-len1-up
returns-in_ok-add_dimensions-in-len1-up t c =
    let xs = c.args.accesses.now in
    let entry = c.args.entry.now in
    on_ok_weaker c.add_accesses.result
    (λ e. next_listed Question (λ (x : Access). questions_of entry.domain (length entry.loops) x.subs (extents_of_access c.args.nest.now x)) xs (take (length xs - 1) (drop 1 xs)) c.access-item.result
    (flat_map listed_said c.args.out.now.items) (flat_map listed_said c.add_dimensions.new.out.items) (flat_map listed_said c.add_accesses.new.out.items)
    (first_and_rest xs c.access-item.result c.in-len1-up.len_at_least c.access-item.is)
    (c.in_ok-add_dimensions-in-len1-up.ensures
    ∙ ap (λ ss. flat_map listed_said c.args.out.now.items ++ map Question (questions_of entry.domain (length entry.loops) ss c.extents_of-extents.result.now)) c.as_slice-subs.ensures
    ∙ ap (λ es. flat_map listed_said c.args.out.now.items ++ map Question (questions_of entry.domain (length entry.loops) c.access-item.result.subs es)) c.extents_of-extents.ensures.value)
    e) c.add_accesses.ensures
