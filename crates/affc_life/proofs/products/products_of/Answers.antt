use Rattle.std.proofs.Common.{flat_map, length, rules, sym, ap, subst, ◌∙◌}
use Rattle.std.proofs.lemmas.Iterator.Adapters.{YieldsList-from_vec}
use Rattle.std.proofs.lemmas.Iterator.Consumers.{YieldsList-turn, YieldsList-end}
use Rattle.std.proofs.lemmas.List.{map-id}
use Rattle.std.proofs.lemmas.Result.{err_from_is_err_and}
use Rattle.affc_life.specs.Drafts.{drafted}
use Rattle.affc_life.specs.Sizes.{AnyLarge}
use Rattle.affc_life.proofs.KeptLemmas.{paired_at, large_at, next_product, next_fits}
use Rattle.affc_life.proofs.products.products_of.Goals as goal

pub add_product-requires : goal.add_product-requires
add_product-requires c =
    let t = YieldsList-turn (YieldsList-from_vec {s = c.into_iter-draft-iterator.result} c.args.drafts.items (search rules) (search rules)) c.loop-draft.yielded c.loop-draft.draft-iterator c.loop-draft.yielded_by c.next.result c.next.new.self c.in-Some.draft c.in-Some.is c.next.ensures.steps in
    paired_at c.args.drafts.items (length c.loop-draft.yielded) c.in-Some.draft t.0 t.1 c.requires

pub returns-in_err-add_product-clause-large : goal.returns-in_err-add_product-clause-large
returns-in_err-add_product-clause-large c =
    let t = YieldsList-turn (YieldsList-from_vec {s = c.into_iter-draft-iterator.result} c.args.drafts.items (search rules) (search rules)) c.loop-draft.yielded c.loop-draft.draft-iterator c.loop-draft.yielded_by c.next.result c.next.new.self c.in-Some.draft c.in-Some.is c.next.ensures.steps in
    let p = err_from_is_err_and c.from_residual.result c.from_residual.ensures.1 in
    rw (p.1, p.2) (λ l. large_at c.args.drafts.items (length c.loop-draft.yielded) c.in-Some.draft t.0 t.1 (c.in_err-add_product.ensures.large l))

pub loop-draft-preserved : goal.loop-draft-preserved
loop-draft-preserved c = (
  next_product c.loop-draft.out.items c.add_product.new.out.items c.loop-draft.yielded c.in-Some.draft c.loop-draft.invariant.0 c.in_ok-add_product.ensures.ok,
  next_fits c.loop-draft.yielded c.in-Some.draft c.loop-draft.invariant.1 c.in_ok-add_product.ensures.fits,
)

pub returns-clause-ok : goal.returns-clause-ok
returns-clause-ok c =
    let t = YieldsList-end (YieldsList-from_vec {s = c.into_iter-draft-iterator.result} c.args.drafts.items (search rules) (search rules)) c.loop-draft.yielded c.loop-draft.draft-iterator c.loop-draft.yielded_by c.next.result c.next.new.self c.in-None.is c.next.ensures.steps in
    let all = sym (map-id c.loop-draft.yielded) ∙ t.0 in
    c.loop-draft.invariant.0 ∙ ap (flat_map drafted) all

pub returns-clause-fits : goal.returns-clause-fits
returns-clause-fits c =
    let t = YieldsList-end (YieldsList-from_vec {s = c.into_iter-draft-iterator.result} c.args.drafts.items (search rules) (search rules)) c.loop-draft.yielded c.loop-draft.draft-iterator c.loop-draft.yielded_by c.next.result c.next.new.self c.in-None.is c.next.ensures.steps in
    let all = sym (map-id c.loop-draft.yielded) ∙ t.0 in
    subst (λ ds. AnyLarge (flat_map drafted ds) → ⊥) all c.loop-draft.invariant.1
