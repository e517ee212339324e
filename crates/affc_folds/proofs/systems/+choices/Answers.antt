use Rattle.std.proofs.Common.{◌-◌, ◌++◌, ◌∷◌, length, take, drop, sym, ap, subst, arith, OnOk}
use Rattle.std.specs.List.{All}
use Rattle.std.proofs.lemmas.List.Elements.{All-head, All-tail}
use Rattle.std.proofs.lemmas.Result.{IfOk-weaker}
use Rattle.affc_system.specs.Systems.{IsRow}
use Rattle.affc_products.specs.Products.{tallest}
use Rattle.affc_moduli.proofs.Ties.{not_true}
use Rattle.affc_folds.specs.Systems.{Adds, choices_behind}
use Rattle.affc_folds.proofs.KeptLemmas.{all_passed, both_added}
use Rattle.affc_folds.proofs.ChoiceLemmas.{first_rest, weight_is, choices_more, void_over}
use Rattle.affc_folds.proofs.systems.+choices.Goals.{add_behind-then-branch+in_ok-add_factors, add_behind-else-branch}
use Rattle.affc_folds.proofs.systems.+choices.Goals as goal

pub add_behind-returns-clause-kept : goal.add_behind-returns-clause-kept
add_behind-returns-clause-kept t c =
    let base = c.args.wanted.now.base.now in
    let rows = c.args.chosen.now.region.system.rows ++ c.args.rows.now in
    elim c.if-branch.branch [
      | add_behind-then-branch+in_ok-add_factors w ↦ subst (λ o. Adds (choices_behind base rows c.args.later.now) c.args.out.now.items o.items) (sym w.out-is)
          (subst (λ s. Adds (choices_behind base s.rows c.args.later.now) c.args.out.now.items w.add_factors.new.out.items) (c.in_ok-add.ensures.all w.if-branch.true) w.in_ok-add_factors.ensures.kept)
      | add_behind-else-branch w ↦ subst (λ o. Adds (choices_behind base rows c.args.later.now) c.args.out.now.items o.items) (sym w.out-is)
          (all_passed (choices_behind base rows c.args.later.now) c.args.out.now.items
          (void_over base c.args.chosen.now.region c.args.rows.now c.args.later.now c.requires.over (c.in_ok-add.ensures.none (not_true c.in_ok-add.field-0 w.if-branch.false))))
    ]

pub add_each-returns-in_ok-add_behind-in-len1-up-clause-kept :
    goal.add_each-returns-in_ok-add_behind-in-len1-up-clause-kept
add_each-returns-in_ok-add_behind-in-len1-up-clause-kept t c =
    let base = c.args.wanted.now.base.now in
    let rows = c.args.chosen.now.region.system.rows in
    let others = take (length c.args.first.now - 1) (drop 1 c.args.first.now) in
    let here = c.as_slice-rows.result.now in
    let behind = c.in_ok-add_behind-in-len1-up.ensures.kept in
    let is = first_rest c.args.first.now c.rows-item.result here c.in-len1-up.len_at_least c.rows-item.is c.as_slice-rows.ensures in
    IfOk-weaker c.add_each.result _ _
    (λ _ h. both_added (choices_behind base (rows ++ here) c.args.later.now) (choices_behind base rows (others ∷ c.args.later.now)) (choices_behind base rows (c.args.first.now ∷ c.args.later.now))
    c.args.out.now.items c.add_behind.new.out.items c.add_each.new.out.items (choices_more base rows c.args.first.now here others c.args.later.now is) behind
    (subst (λ s. Adds (choices_behind base s.rows (others ∷ c.args.later.now)) c.add_behind.new.out.items c.add_each.new.out.items) c.in_ok-add_behind-in-len1-up.ensures.same h))
    c.add_each.ensures.kept

pub add_factors-add_each-requires : goal.add_factors-add_each-requires
add_factors-add_each-requires t c =
    let columns = c.args.wanted.now.base.now.system.columns in
    let later = take (length c.args.factors.now - 1) (drop 1 c.args.factors.now) in
    let first = c.as_slice-first.result.now in
    let is = first_rest c.args.factors.now c.first-item.result first c.in-len1-up.len_at_least c.first-item.is c.as_slice-first.ensures in
    let fit = subst (All (All (All (IsRow columns)))) is c.requires.factors in (
      omega (arith, weight_is c.args.factors.now first later is, c.decreases),
      (
        c.requires.over,
        (
          All-head (All (All (IsRow columns))) first later fit,
          (All-tail (All (All (IsRow columns))) first later fit, omega (arith, ap tallest is, c.requires.room)),
        ),
      ),
    )

pub add_factors-returns-in-len1-up-clause-kept : goal.add_factors-returns-in-len1-up-clause-kept
add_factors-returns-in-len1-up-clause-kept t c =
    let is = first_rest c.args.factors.now c.first-item.result c.as_slice-first.result.now c.in-len1-up.len_at_least c.first-item.is c.as_slice-first.ensures in
    subst (λ fs. OnOk c.add_each.result (Adds (choices_behind c.args.wanted.now.base.now c.args.chosen.now.region.system.rows fs) c.args.out.now.items c.add_each.new.out.items)) (sym is) c.add_each.ensures.kept
