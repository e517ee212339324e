use Rattle.std.proofs.Common.{flat_map, ◌≡◌, ◌+◌, ◌-◌, suc, length, take, drop, arith}
use Rattle.std.proofs.lemmas.Result.{err_from_is_err_and, on_ok_weaker, IfErr-weaker}
use Rattle.affc_domain.proofs.Lists.{first_and_rest}
use Rattle.affc_check.specs.list.Held.{listed_said}
use Rattle.affc_check.specs.list.Walks.{clash_systems}
use Rattle.affc_check.proofs.list.FoldLemmas.{rows_listed, row_first, row_later}
use Rattle.affc_check.proofs.list.folds.+add_rows.Goals as goal

pub returns-in_err-add_row-in-len1-up-moduli-clause-past : goal.returns-in_err-add_row-in-len1-up-moduli-clause-past
returns-in_err-add_row-in-len1-up-moduli-clause-past t c =
    let more = c.args.more.now in
    let others = take (length more - 1) (drop 1 more) in
    let ms = c.args.moduli.now in
    let rest = take (length ms - 1) (drop 1 ms) in
    let is = first_and_rest more c.row-item.result c.in-len1-up.len_at_least c.row-item.is in
    let js = first_and_rest ms c.modulus-item.result c.in-len1-up-moduli.len_at_least c.modulus-item.is in
    let next : c.args.k + 1 ≡ suc c.args.k = omega arith in
    let p = err_from_is_err_and c.from_residual.result c.from_residual.ensures.1 in
    rw (p.1, p.2) (λ l. row_first c.args.nest.now (clash_systems c.args.systems.now) c.args.rows.now c.args.k (c.args.k + 1) next more others c.row-item.result ms rest c.modulus-item.result is js (c.in_err-add_row-in-len1-up-moduli.ensures.past l))

pub returns-in_ok-add_row-in-len1-up-moduli-clause-ok : goal.returns-in_ok-add_row-in-len1-up-moduli-clause-ok
returns-in_ok-add_row-in-len1-up-moduli-clause-ok t c =
    let more = c.args.more.now in
    let others = take (length more - 1) (drop 1 more) in
    let ms = c.args.moduli.now in
    let rest = take (length ms - 1) (drop 1 ms) in
    let is = first_and_rest more c.row-item.result c.in-len1-up.len_at_least c.row-item.is in
    let js = first_and_rest ms c.modulus-item.result c.in-len1-up-moduli.len_at_least c.modulus-item.is in
    let next : c.args.k + 1 ≡ suc c.args.k = omega arith in
    on_ok_weaker c.add_rows.result
    (rows_listed c.args.nest.now (clash_systems c.args.systems.now) c.args.rows.now c.args.k (c.args.k + 1) next more others c.row-item.result ms rest c.modulus-item.result is js (flat_map listed_said c.args.out.now.items) (flat_map listed_said c.add_row.new.out.items) (flat_map listed_said c.add_rows.new.out.items) c.in_ok-add_row-in-len1-up-moduli.ensures.ok) c.add_rows.ensures.ok

pub returns-in_ok-add_row-in-len1-up-moduli-clause-past : goal.returns-in_ok-add_row-in-len1-up-moduli-clause-past
returns-in_ok-add_row-in-len1-up-moduli-clause-past t c =
    let more = c.args.more.now in
    let others = take (length more - 1) (drop 1 more) in
    let ms = c.args.moduli.now in
    let rest = take (length ms - 1) (drop 1 ms) in
    let is = first_and_rest more c.row-item.result c.in-len1-up.len_at_least c.row-item.is in
    let js = first_and_rest ms c.modulus-item.result c.in-len1-up-moduli.len_at_least c.modulus-item.is in
    let next : c.args.k + 1 ≡ suc c.args.k = omega arith in
    IfErr-weaker c.add_rows.result _ _ (λ e h l. row_later c.args.nest.now (clash_systems c.args.systems.now) c.args.rows.now c.args.k (c.args.k + 1) next more others c.row-item.result ms rest c.modulus-item.result is js (h l)) c.add_rows.ensures.past
