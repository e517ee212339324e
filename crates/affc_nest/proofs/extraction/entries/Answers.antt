use Rattle.std.proofs.Common.{ap, ◌∙◌}
use Rattle.affc_nest.specs.Sites.{places}
use Rattle.affc_nest.proofs.PlaceProofs.{near_params, plain_sites, few_sites, entries_made, wide_there}
use Rattle.affc_nest.proofs.extraction.entries.Goals as goal

pub add_entries-requires-clause-near_params : goal.add_entries-requires-clause-near_params
add_entries-requires-clause-near_params c = near_params c.args.params.now c.args.program.now c.requires.params c.requires.plain

pub add_entries-requires-clause-plain : goal.add_entries-requires-clause-plain
add_entries-requires-clause-plain c =
    plain_sites c.args.params.now c.args.program.now (places c.as_slice-2.result.now) c.requires.params c.requires.plain (ap places c.as_slice-2.ensures.value ∙ c.in_ok-sites.ensures)

pub add_entries-requires-clause-few : goal.add_entries-requires-clause-few
add_entries-requires-clause-few c = few_sites c.as_slice-2.result.now c.args.program.now c.requires.plain (ap places c.as_slice-2.ensures.value ∙ c.in_ok-sites.ensures)

pub returns-clause-value : goal.returns-clause-value
returns-clause-value c =
    entries_made c.args.params.now c.as_slice.result.now _ c.args.program.now (places c.as_slice-2.result.now) c.add_entries.new.out c.new-entries.result
    c.in_ok-wide.ensures.value c.new-entries.ensures c.as_slice.ensures (ap places c.as_slice-2.ensures.value ∙ c.in_ok-sites.ensures)

pub returns-clause-wide : goal.returns-clause-wide
returns-clause-wide c =
    c.in_ok-wide.ensures.wide ∙ wide_there c.args.params.now c.args.program.now (places c.as_slice-2.result.now) c.requires.params (ap places c.as_slice-2.ensures.value ∙ c.in_ok-sites.ensures)
