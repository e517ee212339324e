use Rattle.std.proofs.lemmas.Result.{IfOk-weaker}
use Rattle.affc_certify.proofs.ShownLemmas.{not_first, shown_whole}
use Rattle.affc_certify.proofs.shown.is_shown.Goals as goal

-- src/shown.rt:161:1
pub returns-else-of-array : goal.returns-else-of-array
returns-else-of-array c =
    let none = not_first c.args.array.0 c.args.folds.now c.index-folds-0.result c.in-len1-up.len_at_least c.requires c.if-of-array.false in
    IfOk-weaker c.is_whole-else-of-array.result _ _
    (λ is whole t. shown_whole c.args.nest.now c.args.array.0 c.args.folds.now c.args.shown.now none (whole t)) c.is_whole-else-of-array.ensures
