use Rattle.affc_farkas.proofs.ExampleProofs as x
use Rattle.affc_farkas.proofs.examples.eliminations.Goals as goal

pub returns : goal.returns
returns c = record {
  one_pair_cancels = x.one_pair_cancels;
  no_pair_twice = x.no_pair_twice;
  first_is_positive = x.first_is_positive;
  added_rows_are_next = x.added_rows_are_next;
  cancelled_stays_cancelled = x.cancelled_stays_cancelled;
}
