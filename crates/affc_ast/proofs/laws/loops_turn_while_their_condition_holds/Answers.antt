use Rattle.affc_ast.proofs.TurnProofs.{one_turn_below, no_turn_below, one_turn_up_to, no_turn_up_to}
use Rattle.affc_ast.proofs.laws.loops_turn_while_their_condition_holds.Goals as goal

pub returns : goal.returns
returns c = record { below = one_turn_below; end_below = no_turn_below; up_to = one_turn_up_to; end_up_to = no_turn_up_to }
