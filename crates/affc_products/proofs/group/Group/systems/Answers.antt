use Rattle.std.proofs.Common.{sym, subst, ◌∙◌}
use Rattle.std.proofs.lemmas.Result.{IfOk-weaker}
use Rattle.std.specs.List.{All}
use Rattle.affc_products.specs.Parts.{IsWithin}
use Rattle.affc_products.proofs.ProductLemmas.{untailed, none_past}
use Rattle.affc_products.proofs.group.Group.systems.Goals as goal

pub unreachable-requires : goal.unreachable-requires
unreachable-requires c =
    let is = untailed c.args.self.now c.as_slice-front.result.now c.as_slice-factors.result.now c.in_ok-tails.tails c.as_slice-front.ensures c.as_slice-factors.ensures c.in_ok-tails.ensures in
    none_past _ (subst (All IsWithin) (sym is) c.requires) c.in_default.ensures.past

pub returns : goal.returns
returns c =
    let is = untailed c.args.self.now c.as_slice-front.result.now c.as_slice-factors.result.now c.in_ok-tails.tails c.as_slice-front.ensures c.as_slice-factors.ensures c.in_ok-tails.ensures in
    IfOk-weaker c.systems.result _ _ (λ v e. e ∙ c.in-Some.ensures.same ∙ is) c.systems.ensures
