use Rattle.affc_scan.proofs.MovedParts.{made_of_one, made_of_two}
use Rattle.affc_scan.proofs.trees.+moved_ix.Goals as goal

pub returns-in_ok-a-in-One : goal.returns-in_ok-a-in-One
returns-in_ok-a-in-One t c =
    made_of_one c.args.first c.args.more c.args.e.now c.in-One.operator c.in-One.a.now c.in-One.ensures c.in_ok-a-in-One.a c.in_ok-a-in-One.ensures c.with_one.result c.with_one.ensures

pub returns-in_ok-b-in-Two : goal.returns-in_ok-b-in-Two
returns-in_ok-b-in-Two t c =
    made_of_two c.args.first c.args.more c.args.e.now c.in-Two.operator c.in-Two.a.now c.in-Two.b.now c.in-Two.ensures c.in_ok-a-in-Two.a c.in_ok-b-in-Two.b c.in_ok-a-in-Two.ensures c.in_ok-b-in-Two.ensures c.with_two.result c.with_two.ensures
