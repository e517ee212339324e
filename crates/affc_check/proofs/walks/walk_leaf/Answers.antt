use Rattle.std.proofs.Common.{sym, subst}
use Rattle.std.proofs.lemmas.Result.{IfOk-weaker, IfErr-weaker}
use Rattle.affc_life.specs.Sizes.{AnyLarge}
use Rattle.affc_check.specs.Walked.{AreAlong, Walked, Breaks}
use Rattle.affc_check.proofs.walks.walk_leaf.Goals as goal

pub take_products-requires-clause-along : goal.take_products-requires-clause-along
take_products-requires-clause-along c = subst (AreAlong c.args.asked.now.along) (sym c.in-Ok.ensures.ok) c.requires.leaf.along

pub take_products-requires-clause-fits : goal.take_products-requires-clause-fits
take_products-requires-clause-fits c = λ h. c.in-Ok.ensures.fits (subst AnyLarge c.in-Ok.ensures.ok h)

pub returns-in-Ok-clause-ok : goal.returns-in-Ok-clause-ok
returns-in-Ok-clause-ok c =
    let a = c.args.asked.now in
    IfOk-weaker c.take_products.result _ _ (λ new h. subst (Walked a.along c.args.carried new) c.in-Ok.ensures.ok h) c.take_products.ensures.ok

pub returns-in-Ok-clause-past : goal.returns-in-Ok-clause-past
returns-in-Ok-clause-past c =
    let a = c.args.asked.now in
    IfErr-weaker c.take_products.result _ _ (λ e h l. subst (Breaks a.along) c.in-Ok.ensures.ok (h l)) c.take_products.ensures.past
