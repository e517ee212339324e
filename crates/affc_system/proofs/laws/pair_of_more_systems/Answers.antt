use Rattle.affc_system.proofs.PairLemmas.{pair_of_some, pair_of_all, pair_either, pair_of_none}
use Rattle.affc_system.proofs.laws.pair_of_more_systems.Goals as goal

pub returns : goal.returns
returns c = record {
  some = λ first second p x y. (pair_of_some first second p x y, pair_of_all first second p x y);
  either = pair_either;
  none = pair_of_none;
}
