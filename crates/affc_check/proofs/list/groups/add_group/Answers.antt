use Rattle.std.proofs.Common.{flat_map, map, subst}
use Rattle.std.proofs.lemmas.Result.{on_ok_weaker, IfErr-weaker}
use Rattle.affc_products.proofs.ProductLemmas.{untailed}
use Rattle.affc_check.specs.list.Held.{listed_said}
use Rattle.affc_check.specs.list.Items.{Question}
use Rattle.affc_check.specs.list.Limits.{AnyPasses}
use Rattle.affc_check.specs.list.Listed.{AreListed}
use Rattle.affc_check.proofs.list.groups.add_group.Goals as goal

pub returns-clause-ok : goal.returns-clause-ok
returns-clause-ok c =
    let is = untailed c.args.group.now c.as_slice-front.result.now c.as_slice-factors.result.now c.in_ok-tails.tails c.as_slice-front.ensures c.as_slice-factors.ensures c.in_ok-tails.ensures in
    on_ok_weaker c.add_product.result (λ h. subst (λ qs. AreListed (flat_map listed_said c.args.out.now.items) (flat_map listed_said c.add_product.new.out.items) (map Question qs)) is h) c.add_product.ensures.ok

pub returns-clause-past : goal.returns-clause-past
returns-clause-past c =
    let is = untailed c.args.group.now c.as_slice-front.result.now c.as_slice-factors.result.now c.in_ok-tails.tails c.as_slice-front.ensures c.as_slice-factors.ensures c.in_ok-tails.ensures in
    IfErr-weaker c.add_product.result _ _ (λ e h l. subst (λ qs. AnyPasses (map Question qs)) is (h l)) c.add_product.ensures.past
