use Rattle.std.proofs.Common.{◌-◌, List, length, take, drop, ap, ◌∙◌, rules, FitsSigned, w64}
use Rattle.std.proofs.lemmas.Result.{IfOk-weaker}
use Rattle.std.proofs.lemmas.Int.{to_z-of_z}
use Rattle.affc_rows.specs.Forms.{Affine}
use Rattle.affc_domain.proofs.Lists.{first_and_rest}
use Rattle.affc_loops.specs.Trees.{number}
use Rattle.affc_scan.proofs.EndSteps.{upper_last}
use Rattle.affc_scan.proofs.ends.upper_end.Goals as goal

pub returns-in_ok-made-in-len1-up-2 : goal.returns-in_ok-made-in-len1-up-2
returns-in_ok-made-in-len1-up-2 c =
    let fits : FitsSigned w64 c.args.high = search rules in
    let rows : List Affine = c.args.rows.now in
    IfOk-weaker c.min.result _ _
    (λ end e. upper_last c.args.first c.args.column rows (take (length rows - 1) (drop 1 rows)) c.row-item.result c.args.high c.in_ok-made-in-len1-up.made c.in_ok-made-in-len1-up-2.made c.in_ok-last.last end
    (first_and_rest rows c.row-item.result c.in-len1-up.len_at_least c.row-item.is) (c.in_ok-last.ensures ∙ ap number (to_z-of_z w64 c.args.high fits)) c.in_ok-made-in-len1-up.ensures c.in_ok-made-in-len1-up-2.ensures e) c.min.ensures
