use Rattle.affc_scan.proofs.ScanSteps.{body_last}
use Rattle.std.proofs.lemmas.Result.{IfOk-weaker}
use Rattle.affc_scan.proofs.target.body.Goals as goal

pub returns-in_ok-blocks-in-len1-up : goal.returns-in_ok-blocks-in-len1-up
returns-in_ok-blocks-in-len1-up c =
    IfOk-weaker c.loops_between.result _ _
    (λ made e. body_last c.args.first c.len-more.result c.args.ends c.args.statements.now c.new-none.result c.in_ok-blocks-in-len1-up.blocks made
    c.in-len1-up.len_at_least c.len-more.ensures c.new-none.ensures c.in_ok-blocks-in-len1-up.ensures e) c.loops_between.ensures
