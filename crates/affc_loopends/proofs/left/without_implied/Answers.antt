use Rattle.affc_loopends.proofs.Remaining.{all_left, one_left_out}
use Rattle.affc_loopends.proofs.left.without_implied.Goals as goal

pub returns-then-not-goes_on-clause-left : goal.returns-then-not-goes_on-clause-left
returns-then-not-goes_on-clause-left c = all_left c.args.columns c.args.beside.now c.args.left.rows.items

pub returns-in-Implied-clause-left : goal.returns-in-Implied-clause-left
returns-in-Implied-clause-left c =
    one_left_out c.args.columns c.args.beside.now c.args.left.rows.items c.as_slice.result.now c.remove.new.self.items c.args.place c.requires.place c.as_slice.ensures.value c.remove.ensures.items
    (c.in_ok-judge.ensures c.in-Implied.is)

pub returns-in-Stays-clause-left : goal.returns-in-Stays-clause-left
returns-in-Stays-clause-left c = all_left c.args.columns c.args.beside.now c.args.left.rows.items

pub returns-in-Open-clause-left : goal.returns-in-Open-clause-left
returns-in-Open-clause-left c = all_left c.args.columns c.args.beside.now c.args.left.rows.items
