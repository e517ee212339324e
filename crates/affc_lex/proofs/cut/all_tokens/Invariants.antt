use Rattle.std.proofs.Common.{◌-◌, length}
use Rattle.affc_lex.proofs.Cuts.{Cut}
use Rattle.affc_lex.proofs.cut.all_tokens.Given as goal

abbrev pub invariant-loop-at : goal.invariant-loop-at
invariant-loop-at l = Cut l.text l.at l.spot l.tokens.items

abbrev pub decreases-loop-at : goal.decreases-loop-at
decreases-loop-at l = length l.text - l.at
