use Rattle.affc_scan.proofs.EndSteps.{both_made}
use Rattle.affc_scan.proofs.ends.+both_ends.Goals as goal

pub returns : goal.returns
returns t c =
    both_made c.args.ends c.args.others c.pop.new.self c.pop-2.new.self c.in_ok-made.made c.push.new.self c.in-Some.last c.in-Some-pop.other c.in_ok-both.both
    c.requires c.in-Some.ensures c.in-Some-pop.ensures c.in_ok-both.ensures c.in_ok-made.ensures c.in_ok-push.ensures.ok
