use Rattle.std.proofs.Common.{◌≡◌, ◌+◌, ◌-◌, length, take, drop, arith}
use Rattle.std.proofs.lemmas.Result.{on_ok_weaker}
use Rattle.affc_domain.proofs.Lists.{first_and_rest}
use Rattle.affc_check.proofs.list.ListingLemmas.{none_below}
use Rattle.affc_replay.proofs.Empty.{no_scalars, scalars_more}
use Rattle.affc_replay.proofs.scalars.+add_scalars.Goals as goal

pub returns-in-empty : goal.returns-in-empty
returns-in-empty t c = no_scalars c.args.first c.args.arrays.now c.args.out.now.items (none_below c.args.arrays.now c.in-empty.len_below)

pub returns-in-Some : goal.returns-in-Some
returns-in-Some t c =
    let as' = c.args.arrays.now in
    let next : c.in-Some.next ≡ c.args.first + 1 = omega (arith, c.in-Some.ensures) in
    on_ok_weaker c.add_scalars.result
    (scalars_more c.args.first c.in-Some.next as' (take (length as' - 1) (drop 1 as')) c.info-item.result c.empty_fold-fold.result c.args.out.now.items c.add_scalar.new.out.items c.add_scalars.new.out.items
    (first_and_rest as' c.info-item.result c.in-len1-up.len_at_least c.info-item.is) next c.empty_fold-fold.ensures c.in_ok-add_scalar-in-len1-up.ensures) c.add_scalars.ensures
