use Rattle.std.proofs.Common.{flat_map, map, ap, sym, subst, arith, ◌∙◌}
use Rattle.std.proofs.lemmas.Result.{err_from_is_err_and, on_ok_weaker, IfErr-weaker}
use Rattle.affc_conflicts.specs.Questions.{distance_questions}
use Rattle.affc_trace.proofs.LastStores.{append_nil}
use Rattle.affc_life.specs.Products.{systems_in}
use Rattle.affc_life.proofs.LimitLemmas.{only_entry}
use Rattle.affc_life.proofs.WalkLemmas.{each_front, each_back}
use Rattle.affc_questions.specs.Asked.{IsAlong}
use Rattle.affc_check.specs.list.Held.{listed_said}
use Rattle.affc_check.specs.list.Items.{Question}
use Rattle.affc_check.specs.list.Limits.{AnyPasses}
use Rattle.affc_check.specs.list.Walks.{clash_systems}
use Rattle.affc_check.specs.list.Listed.{AreListed}
use Rattle.affc_check.proofs.list.FoldLemmas.{products_both}
use Rattle.affc_check.proofs.list.PartLemmas.{half_first, half_others, both_halves}
use Rattle.affc_check.proofs.list.folds.+add_distances.Goals as goal

pub returns-in-len1-clause-ok : goal.returns-in-len1-clause-ok
returns-in-len1-clause-ok t c =
    let a = c.args.along.now in
    let only = only_entry c.args.systems.now c.product-item.result c.in-len1.len_at_least c.in-len1.len_below c.product-item.is in
    let is = ap (λ ss. map Question (distance_questions a.rows.now a.k a.row.now a.modulus.now ss)) (sym (append_nil (systems_in c.product-item.result)))
    ∙ ap (λ ps. map Question (distance_questions a.rows.now a.k a.row.now a.modulus.now (clash_systems ps))) (sym only) in
    on_ok_weaker c.add_distance.result (λ h. subst (AreListed (flat_map listed_said c.args.out.now.items) (flat_map listed_said c.add_distance.new.out.items)) is h) c.add_distance.ensures.ok

pub returns-in-len1-clause-past : goal.returns-in-len1-clause-past
returns-in-len1-clause-past t c =
    let a = c.args.along.now in
    let only = only_entry c.args.systems.now c.product-item.result c.in-len1.len_at_least c.in-len1.len_below c.product-item.is in
    let is = ap (λ ss. map Question (distance_questions a.rows.now a.k a.row.now a.modulus.now ss)) (sym (append_nil (systems_in c.product-item.result)))
    ∙ ap (λ ps. map Question (distance_questions a.rows.now a.k a.row.now a.modulus.now (clash_systems ps))) (sym only) in
    IfErr-weaker c.add_distance.result _ _ (λ e h l. subst AnyPasses is (h l)) c.add_distance.ensures.past

pub add_distances-requires : goal.add_distances-requires
add_distances-requires t c =
    let a = c.args.along.now in
    let first = c.split_at.result.0.now in
    let others = c.split_at.result.1.now in
    let is = c.split_at.ensures.by_index.0 in
    let f = c.split_at.ensures.front_len in
    let h = c.split_at.ensures.back_len in
    let l = c.in_default.len_at_least in
    (omega (arith, f, h, l), each_front (λ p. IsAlong a.rows.now a.row.now a.modulus.now p.base) first others c.args.systems.now is c.requires)

pub add_distances-requires-in_default : goal.add_distances-requires-in_default
add_distances-requires-in_default t c =
    let a = c.args.along.now in
    let first = c.split_at.result.0.now in
    let others = c.split_at.result.1.now in
    let is = c.split_at.ensures.by_index.0 in
    let f = c.split_at.ensures.front_len in
    let h = c.split_at.ensures.back_len in
    let l = c.in_default.len_at_least in
    (omega (arith, f, h, l), each_back (λ p. IsAlong a.rows.now a.row.now a.modulus.now p.base) first others c.args.systems.now is c.requires)

pub returns-in_err-add_distances-in_default-clause-past : goal.returns-in_err-add_distances-in_default-clause-past
returns-in_err-add_distances-in_default-clause-past t c =
    let a = c.args.along.now in
    let first = c.split_at.result.0.now in
    let others = c.split_at.result.1.now in
    let is = c.split_at.ensures.by_index.0 in
    let p = err_from_is_err_and c.from_residual.result c.from_residual.ensures.1 in
    rw (p.1, p.2) (λ l. half_first (λ ps. map Question (distance_questions a.rows.now a.k a.row.now a.modulus.now (clash_systems ps))) (products_both a.rows.now a.k a.row.now a.modulus.now) c.args.systems.now first others is (c.in_err-add_distances-in_default.ensures.past l))

pub returns-in_ok-add_distances-in_default-clause-ok : goal.returns-in_ok-add_distances-in_default-clause-ok
returns-in_ok-add_distances-in_default-clause-ok t c =
    let a = c.args.along.now in
    let first = c.split_at.result.0.now in
    let others = c.split_at.result.1.now in
    let is = c.split_at.ensures.by_index.0 in
    on_ok_weaker c.add_distances-in_default.result
    (both_halves (λ ps. map Question (distance_questions a.rows.now a.k a.row.now a.modulus.now (clash_systems ps))) (products_both a.rows.now a.k a.row.now a.modulus.now) c.args.systems.now first others is (flat_map listed_said c.args.out.now.items) (flat_map listed_said c.add_distances.new.out.items) (flat_map listed_said c.add_distances-in_default.new.out.items) c.in_ok-add_distances-in_default.ensures.ok)
    c.add_distances-in_default.ensures.ok

pub returns-in_ok-add_distances-in_default-clause-past : goal.returns-in_ok-add_distances-in_default-clause-past
returns-in_ok-add_distances-in_default-clause-past t c =
    let a = c.args.along.now in
    let first = c.split_at.result.0.now in
    let others = c.split_at.result.1.now in
    let is = c.split_at.ensures.by_index.0 in
    IfErr-weaker c.add_distances-in_default.result _ _ (λ e h l. half_others (λ ps. map Question (distance_questions a.rows.now a.k a.row.now a.modulus.now (clash_systems ps))) (products_both a.rows.now a.k a.row.now a.modulus.now) c.args.systems.now first others is (h l)) c.add_distances-in_default.ensures.past
