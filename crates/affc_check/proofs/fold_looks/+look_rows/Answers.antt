use Rattle.std.proofs.Common.{◌≡◌, ℕ, ◌+◌, ◌-◌, ◌≤◌, suc, length, map, take, drop, ap, arith}
use Rattle.std.proofs.lemmas.Result.{err_from_is_err_and, IfOk-weaker, IfErr-weaker}
use Rattle.affc_domain.proofs.Lists.{first_and_rest}
use Rattle.affc_check.specs.Walked.{clashes_in}
use Rattle.affc_check.specs.list.Certs.{modulus_said}
use Rattle.affc_check.proofs.FoldLookLemmas.{no_rows_looked, no_rows, no_moduli, row_along, rows_looked}
use Rattle.affc_check.proofs.list.FoldLemmas.{row_first, row_later}
use Rattle.affc_check.proofs.list.ListingLemmas.{none_below}
use Rattle.affc_check.proofs.fold_looks.+look_rows.Goals as goal

pub returns-in-empty-clause-ok : goal.returns-in-empty-clause-ok
returns-in-empty-clause-ok t c = λ ss e.
    let nest = c.args.of.now.nest.now in
    let ms = map modulus_said c.args.moduli.now in
    no_rows_looked nest ss c.args.rows.now c.args.k c.args.more.now ms c.args.looked (no_rows nest ss c.args.rows.now c.args.k c.args.more.now ms (none_below c.args.more.now c.in-empty.len_below))

pub returns-in-empty-moduli-clause-ok : goal.returns-in-empty-moduli-clause-ok
returns-in-empty-moduli-clause-ok t c = λ ss e.
    let nest = c.args.of.now.nest.now in
    let more = c.args.more.now in
    let ms = map modulus_said c.args.moduli.now in
    let is = first_and_rest more c.row-item.result c.in-len1-up.len_at_least c.row-item.is in
    no_rows_looked nest ss c.args.rows.now c.args.k more ms c.args.looked
    (no_moduli nest ss c.args.rows.now c.args.k more (take (length more - 1) (drop 1 more)) c.row-item.result ms is (ap (map modulus_said) (none_below c.args.moduli.now c.in-empty-moduli.len_below)))

pub look_row-requires-clause-along : goal.look_row-requires-clause-along
look_row-requires-clause-along t c =
    let more = c.args.more.now in
    let others = take (length more - 1) (drop 1 more) in
    let ms = c.args.moduli.now in
    let rest = take (length ms - 1) (drop 1 ms) in
    let is = first_and_rest more c.row-item.result c.in-len1-up.len_at_least c.row-item.is in
    let js = first_and_rest ms c.modulus-item.result c.in-len1-up-moduli.len_at_least c.modulus-item.is in
    (row_along c.args.of.now.nest.now (clashes_in c.args.of.now c.args.array) c.args.rows.now more others c.row-item.result ms rest c.modulus-item.result is js c.requires.asked).0

pub look_row-requires-clause-modulus : goal.look_row-requires-clause-modulus
look_row-requires-clause-modulus t c =
    let more = c.args.more.now in
    let others = take (length more - 1) (drop 1 more) in
    let ms = c.args.moduli.now in
    let rest = take (length ms - 1) (drop 1 ms) in
    let is = first_and_rest more c.row-item.result c.in-len1-up.len_at_least c.row-item.is in
    let js = first_and_rest ms c.modulus-item.result c.in-len1-up-moduli.len_at_least c.modulus-item.is in
    (row_along c.args.of.now.nest.now (clashes_in c.args.of.now c.args.array) c.args.rows.now more others c.row-item.result ms rest c.modulus-item.result is js c.requires.asked).1

pub look_row-requires-clause-mark : goal.look_row-requires-clause-mark
look_row-requires-clause-mark t c =
    let more = c.args.more.now in
    let others = take (length more - 1) (drop 1 more) in
    let ms = c.args.moduli.now in
    let rest = take (length ms - 1) (drop 1 ms) in
    let is = first_and_rest more c.row-item.result c.in-len1-up.len_at_least c.row-item.is in
    let js = first_and_rest ms c.modulus-item.result c.in-len1-up-moduli.len_at_least c.modulus-item.is in
    (row_along c.args.of.now.nest.now (clashes_in c.args.of.now c.args.array) c.args.rows.now more others c.row-item.result ms rest c.modulus-item.result is js c.requires.asked).2

fewer : (k m r : ℕ) → k + m ≤ 4 → m ≡ suc r → (k + 1) + r ≤ 4
fewer k m r h e = omega (arith, h, e)

pub look_rows-requires : goal.look_rows-requires
look_rows-requires t c =
    let more = c.args.more.now in
    let others = take (length more - 1) (drop 1 more) in
    let ms = c.args.moduli.now in
    let rest = take (length ms - 1) (drop 1 ms) in
    let is = first_and_rest more c.row-item.result c.in-len1-up.len_at_least c.row-item.is in
    let js = first_and_rest ms c.modulus-item.result c.in-len1-up-moduli.len_at_least c.modulus-item.is in
    let l = ap length is in (
      omega (arith, c.decreases, l),
      (
        c.requires.setting,
        (
          c.requires.fits,
          (
            fewer c.args.k (length more) (length others) c.requires.few l,
            (row_along c.args.of.now.nest.now (clashes_in c.args.of.now c.args.array) c.args.rows.now more others c.row-item.result ms rest c.modulus-item.result is js c.requires.asked).3,
          ),
        ),
      ),
    )

pub returns-in_err-after-in-len1-up-moduli-clause-past : goal.returns-in_err-after-in-len1-up-moduli-clause-past
returns-in_err-after-in-len1-up-moduli-clause-past t c =
    let more = c.args.more.now in
    let others = take (length more - 1) (drop 1 more) in
    let ms = c.args.moduli.now in
    let rest = take (length ms - 1) (drop 1 ms) in
    let is = first_and_rest more c.row-item.result c.in-len1-up.len_at_least c.row-item.is in
    let js = first_and_rest ms c.modulus-item.result c.in-len1-up-moduli.len_at_least c.modulus-item.is in
    let next : c.args.k + 1 ≡ suc c.args.k = omega arith in
    let p = err_from_is_err_and c.from_residual.result c.from_residual.ensures.1 in
    rw (p.1, p.2)
    (λ l ss e. row_first c.args.of.now.nest.now ss c.args.rows.now c.args.k (c.args.k + 1) next more others c.row-item.result ms rest c.modulus-item.result is js (c.in_err-after-in-len1-up-moduli.ensures.past l ss e))

pub returns-in_ok-after-in-len1-up-moduli-clause-ok : goal.returns-in_ok-after-in-len1-up-moduli-clause-ok
returns-in_ok-after-in-len1-up-moduli-clause-ok t c =
    let more = c.args.more.now in
    let others = take (length more - 1) (drop 1 more) in
    let ms = c.args.moduli.now in
    let rest = take (length ms - 1) (drop 1 ms) in
    let is = first_and_rest more c.row-item.result c.in-len1-up.len_at_least c.row-item.is in
    let js = first_and_rest ms c.modulus-item.result c.in-len1-up-moduli.len_at_least c.modulus-item.is in
    let next : c.args.k + 1 ≡ suc c.args.k = omega arith in
    let after = c.in_ok-after-in-len1-up-moduli in
    IfOk-weaker c.look_rows.result _ _
    (λ new h ss e. rows_looked c.args.of.now.nest.now ss c.args.rows.now c.args.k (c.args.k + 1) next more others c.row-item.result ms rest c.modulus-item.result is js c.args.looked after.after new (after.ensures.ok ss e) (h ss e))
    c.look_rows.ensures.ok

pub returns-in_ok-after-in-len1-up-moduli-clause-past : goal.returns-in_ok-after-in-len1-up-moduli-clause-past
returns-in_ok-after-in-len1-up-moduli-clause-past t c =
    let more = c.args.more.now in
    let others = take (length more - 1) (drop 1 more) in
    let ms = c.args.moduli.now in
    let rest = take (length ms - 1) (drop 1 ms) in
    let is = first_and_rest more c.row-item.result c.in-len1-up.len_at_least c.row-item.is in
    let js = first_and_rest ms c.modulus-item.result c.in-len1-up-moduli.len_at_least c.modulus-item.is in
    let next : c.args.k + 1 ≡ suc c.args.k = omega arith in
    IfErr-weaker c.look_rows.result _ _
    (λ x h l ss e. row_later c.args.of.now.nest.now ss c.args.rows.now c.args.k (c.args.k + 1) next more others c.row-item.result ms rest c.modulus-item.result is js (h l ss e)) c.look_rows.ensures.past
