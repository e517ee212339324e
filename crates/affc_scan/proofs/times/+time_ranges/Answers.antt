use Rattle.std.proofs.Common.{◌≡◌, ◌-◌, ℤ, List, length, take, drop}
use Rattle.std.proofs.lemmas.Result.{IfOk-weaker}
use Rattle.affc_domain.proofs.Lists.{first_and_rest}
use Rattle.affc_scan.specs.declared.alive.Alive.{Alive}
use Rattle.affc_scan.proofs.ScanSteps.{ranges_last}
use Rattle.affc_scan.proofs.times.+time_ranges.Goals as goal

pub returns-in_ok-others-in-len1-up-rest : goal.returns-in_ok-others-in-len1-up-rest
returns-in_ok-others-in-len1-up-rest t c =
    let ps : List Alive = c.args.statements.now in
    let a : List (ℤ × ℤ) = c.as_slice.result.now in
    let b : List (ℤ × ℤ) = c.as_slice-in-len1-up-rest.result.now in
    let own : List (ℤ × ℤ) = c.in_ok-own-in-len1-up.own in
    let others : List (ℤ × ℤ) = c.in_ok-others-in-len1-up-rest.others in
    let first : a ≡ own = c.as_slice.ensures in
    let second : b ≡ others = c.as_slice-in-len1-up-rest.ensures in
    IfOk-weaker c.add_hulls.result _ _
    (λ hulls e. ranges_last c.args.params.now ps (take (length ps - 1) (drop 1 ps)) c.alive-item.result own others a b c.new-made.result hulls
    (first_and_rest ps c.alive-item.result c.in-len1-up.len_at_least c.alive-item.is) c.in-len1-up-rest.len_at_least c.in_ok-own-in-len1-up.ensures.value c.in_ok-others-in-len1-up-rest.ensures first second c.new-made.ensures e) c.add_hulls.ensures
