use Rattle.std.proofs.Common.{◌-◌, length, map, take, drop, ap, arith}
use Rattle.std.proofs.lemmas.Result.{on_ok_weaker}
use Rattle.affc_domain.proofs.Lists.{first_and_rest}
use Rattle.affc_check.specs.Walked.{clashes_in}
use Rattle.affc_check.specs.list.Certs.{modulus_said}
use Rattle.affc_check.proofs.FoldLookLemmas.{row_along}
use Rattle.affc_check.proofs.MadeLemmas.{next_modulus, no_rows_made, no_moduli_made, first_fits, others_fit}
use Rattle.affc_check.proofs.list.ListingLemmas.{none_below}
use Rattle.affc_check.proofs.made.+add_moduli.Goals as goal

pub returns-in-empty : goal.returns-in-empty
returns-in-empty t c = λ ss e. no_rows_made ss c.args.more.now (map modulus_said c.args.moduli.now) c.args.out.now (none_below c.args.more.now c.in-empty.len_below)

pub returns-in-empty-moduli : goal.returns-in-empty-moduli
returns-in-empty-moduli t c = λ ss e.
    let more = c.args.more.now in
    no_moduli_made ss more (take (length more - 1) (drop 1 more)) c.row-item.result (map modulus_said c.args.moduli.now) c.args.out.now (first_and_rest more c.row-item.result c.in-len1-up.len_at_least c.row-item.is)
    (ap (map modulus_said) (none_below c.args.moduli.now c.in-empty-moduli.len_below))

pub mark_said-requires-clause-along : goal.mark_said-requires-clause-along
mark_said-requires-clause-along t c =
    let more = c.args.more.now in
    let ms = c.args.moduli.now in
    let is = first_and_rest more c.row-item.result c.in-len1-up.len_at_least c.row-item.is in
    let js = first_and_rest ms c.modulus-item.result c.in-len1-up-moduli.len_at_least c.modulus-item.is in
    (row_along c.args.of.now.nest.now (clashes_in c.args.of.now c.args.array) c.args.rows.now more (take (length more - 1) (drop 1 more)) c.row-item.result ms (take (length ms - 1) (drop 1 ms)) c.modulus-item.result is js c.requires.asked).0

pub mark_said-requires-clause-fit : goal.mark_said-requires-clause-fit
mark_said-requires-clause-fit t c =
    let more = c.args.more.now in
    let ms = c.args.moduli.now in
    let is = first_and_rest more c.row-item.result c.in-len1-up.len_at_least c.row-item.is in
    let js = first_and_rest ms c.modulus-item.result c.in-len1-up-moduli.len_at_least c.modulus-item.is in
    first_fits (clashes_in c.args.of.now c.args.array) more (take (length more - 1) (drop 1 more)) c.row-item.result ms (take (length ms - 1) (drop 1 ms)) c.modulus-item.result is js c.requires.fit

pub add_moduli-requires : goal.add_moduli-requires
add_moduli-requires t c =
    let more = c.args.more.now in
    let ms = c.args.moduli.now in
    let others = take (length more - 1) (drop 1 more) in
    let rest = take (length ms - 1) (drop 1 ms) in
    let cs = clashes_in c.args.of.now c.args.array in
    let is = first_and_rest more c.row-item.result c.in-len1-up.len_at_least c.row-item.is in
    let js = first_and_rest ms c.modulus-item.result c.in-len1-up-moduli.len_at_least c.modulus-item.is in
    let l = ap length is in (
      omega (arith, c.decreases, l),
      (
        c.requires.setting,
        (
          c.requires.fits,
          (
            (row_along c.args.of.now.nest.now cs c.args.rows.now more others c.row-item.result ms rest c.modulus-item.result is js c.requires.asked).3,
            others_fit cs more others c.row-item.result ms rest c.modulus-item.result is js c.requires.fit,
          ),
        ),
      ),
    )

pub returns-in_ok-push-in-len1-up-moduli : goal.returns-in_ok-push-in-len1-up-moduli
returns-in_ok-push-in-len1-up-moduli t c =
    let more = c.args.more.now in
    let ms = c.args.moduli.now in
    on_ok_weaker c.add_moduli.result
    (λ h ss e. next_modulus ss more (take (length more - 1) (drop 1 more)) c.row-item.result ms (take (length ms - 1) (drop 1 ms)) c.modulus-item.result
    c.in_ok-mark-in-len1-up-moduli.mark c.in_ok-form-in-len1-up-moduli.form c.args.out.now c.push.new.self c.add_moduli.new.out
    (first_and_rest more c.row-item.result c.in-len1-up.len_at_least c.row-item.is) (first_and_rest ms c.modulus-item.result c.in-len1-up-moduli.len_at_least c.modulus-item.is)
    c.in_ok-form-in-len1-up-moduli.ensures.cases (c.in_ok-mark-in-len1-up-moduli.ensures ss e) c.in_ok-push-in-len1-up-moduli.ensures.ok (h ss e)) c.add_moduli.ensures
