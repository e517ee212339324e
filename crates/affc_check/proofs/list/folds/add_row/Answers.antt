use Rattle.std.proofs.Common.{flat_map, ◌∷◌, [], subst}
use Rattle.std.proofs.lemmas.Result.{err_from_is_err_and, on_ok_weaker, IfErr-weaker}
use Rattle.affc_check.specs.list.Certs.{modulus_said}
use Rattle.affc_check.specs.list.Held.{listed_said}
use Rattle.affc_check.specs.list.Items.{Question}
use Rattle.affc_check.specs.list.Limits.{AnyPasses}
use Rattle.affc_check.specs.list.Listed.{AreListed}
use Rattle.affc_check.specs.list.Walks.{clash_systems}
use Rattle.affc_check.proofs.list.FoldLemmas.{row_listed, positive_passes, distance_passes, mark_passes}
use Rattle.affc_check.proofs.list.ProductLemmas.{bases_along}
use Rattle.affc_check.proofs.list.folds.add_row.Goals as goal

pub returns-in_err-add_long-clause-past : goal.returns-in_err-add_long-clause-past
returns-in_err-add_long-clause-past c =
    let p = err_from_is_err_and c.from_residual-in_err-add_long.result c.from_residual-in_err-add_long.ensures.1 in
    rw (p.1, p.2) (λ l. positive_passes c.args.nest.now (clash_systems c.args.systems.now) c.args.rows.now c.args.k c.args.row.now (modulus_said c.args.modulus.now) (subst (λ q. AnyPasses (Question q ∷ [])) c.in_ok-positive.ensures (c.in_err-add_long.ensures.past l)))

pub returns-in_err-add_distances-clause-past : goal.returns-in_err-add_distances-clause-past
returns-in_err-add_distances-clause-past c =
    let p = err_from_is_err_and c.from_residual-in_err-add_distances.result c.from_residual-in_err-add_distances.ensures.1 in
    rw (p.1, p.2) (λ l. distance_passes c.args.nest.now (clash_systems c.args.systems.now) c.args.rows.now c.args.k c.args.row.now (modulus_said c.args.modulus.now) (c.in_err-add_distances.ensures.past l))

pub returns-clause-ok : goal.returns-clause-ok
returns-clause-ok c =
    on_ok_weaker c.add_mark.result
    (row_listed c.args.nest.now (clash_systems c.args.systems.now) c.args.rows.now c.args.k c.args.row.now (modulus_said c.args.modulus.now) (flat_map listed_said c.args.out.now.items) (flat_map listed_said c.add_long.new.out.items) (flat_map listed_said c.add_distances.new.out.items) (flat_map listed_said c.add_mark.new.out.items)
    (subst (λ q. AreListed (flat_map listed_said c.args.out.now.items) (flat_map listed_said c.add_long.new.out.items) (Question q ∷ [])) c.in_ok-positive.ensures c.in_ok-add_long.ensures.ok) c.in_ok-add_distances.ensures.ok)
    c.add_mark.ensures.ok

pub returns-clause-past : goal.returns-clause-past
returns-clause-past c = IfErr-weaker c.add_mark.result _ _ (λ e h l. mark_passes c.args.nest.now (clash_systems c.args.systems.now) c.args.rows.now c.args.k c.args.row.now (modulus_said c.args.modulus.now) (h l)) c.add_mark.ensures.past

pub add_distances-requires : goal.add_distances-requires
add_distances-requires c = bases_along c.args.rows.now c.args.row.now c.args.modulus.now.form c.args.systems.now c.requires.along
