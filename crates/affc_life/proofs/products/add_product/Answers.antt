use Rattle.std.proofs.Common.{◌≡◌, [], map, flat_map, sym, ap, ◌∙◌}
use Rattle.affc_products.specs.Blocks.{choices}
use Rattle.affc_life.specs.Clashes.{clash_of}
use Rattle.affc_life.specs.Drafts.{drafted, draft_by}
use Rattle.affc_life.specs.Products.{systems_in}
use Rattle.affc_life.proofs.KeptLemmas.{no_choice}
use Rattle.affc_life.proofs.WalkLemmas.{none_more}
use Rattle.affc_life.proofs.products.add_product.Goals as goal

pub returns-then-not-has_choice-clause-ok : goal.returns-then-not-has_choice-clause-ok
returns-then-not-has_choice-clause-ok c =
    let none : choices c.as_slice.result.now ≡ [] = no_choice (choices c.as_slice.result.now) (λ n. absurd (cc (c.has_choice.ensures.1 n))) in
    none_more (map clash_of (flat_map systems_in c.args.out.now.items)) (drafted c.args.draft) (ap (λ fs. map (draft_by c.args.draft) (choices fs)) (sym c.as_slice.ensures) ∙ ap (map (draft_by c.args.draft)) none)
