use Rattle.affc_trace.proofs.ExampleProofs as x
use Rattle.affc_trace.proofs.examples.unrivalled.Goals as goal

pub returns : goal.returns
returns c = record { own_store_comes_after = x.own_store_comes_after; handed_in_is_no_source = x.handed_in_is_no_source }
