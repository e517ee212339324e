use Rattle.affc_split.proofs.maximum.Laters.{then_later}
use Rattle.affc_moduli.proofs.forms.first_suited.Goals as goal

pub returns-then-branch-clause-later : goal.returns-then-branch-clause-later
returns-then-branch-clause-later c = then_later c.args.budget.now c.loop-proposal.budget c.suits.new.budget c.loop-proposal.invariant c.suits.ensures.later
