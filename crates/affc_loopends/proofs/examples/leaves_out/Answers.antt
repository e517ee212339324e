use Rattle.affc_loopends.proofs.ForwardProofs as x
use Rattle.affc_loopends.proofs.examples.leaves_out.Goals as goal

pub returns : goal.returns
returns c = record {
  range_is_a_row = x.range_is_a_row;
  range_may_go = x.range_may_go;
  range_is_too_little = x.range_is_too_little;
  beside_the_parameter = x.beside_the_parameter;
  not_by_itself = x.not_by_itself;
  bound_stays = x.bound_stays;
}
