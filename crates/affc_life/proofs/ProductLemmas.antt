-- The rows of clash systems as a product.
use Rattle.std.proofs.Common.{◌≡◌, Bool, true, false, List, [], ◌∷◌, ◌++◌, map, flat_map, append_assoc, refl, sym, ap, ◌∙◌}
use Rattle.std.proofs.lemmas.List.{append-nil}
use Rattle.affc_rows.specs.Forms.{Affine}
use Rattle.affc_ast.specs.declared.tree.Rel.TheVariants.{Less, Greater, Equal}
use Rattle.affc_nest.specs.Domains.{compare_rows}
use Rattle.affc_products.specs.Blocks.{choices}
use Rattle.affc_products.proofs.ProductLemmas.{choices_of_one, flat_same}
use Rattle.affc_life.specs.declared.draft.Draft.{Draft}
use Rattle.affc_life.specs.Clashes.{apart_rows, differing}
use Rattle.affc_life.specs.Drafts.{drafted, draft_by}
use Rattle.affc_life.proofs.ChoiceLemmas.{flat_one, map_twice, first_factor}
use Rattle.affc_life.proofs.SeatedLemmas.{clash_by}

-- ---- Elements that differ

-- rows in front of all
pub apart_behind : (fs gs front rows : List Affine) → apart_rows fs gs (front ++ rows) ≡ map (λ c. front ++ c) (apart_rows fs gs rows)
apart_behind [] gs front rows = refl
apart_behind (f ∷ fs) [] front rows = refl
apart_behind (f ∷ fs) (g ∷ gs) front rows =
    ap (λ r. r ∷ (((front ++ rows) ++ compare_rows Greater f g) ∷ apart_rows fs gs ((front ++ rows) ++ compare_rows Equal f g))) (append_assoc front rows (compare_rows Less f g))
    ∙ ap (λ r. (front ++ (rows ++ compare_rows Less f g)) ∷ (r ∷ apart_rows fs gs ((front ++ rows) ++ compare_rows Equal f g))) (append_assoc front rows (compare_rows Greater f g))
    ∙ ap (λ r. (front ++ (rows ++ compare_rows Less f g)) ∷ ((front ++ (rows ++ compare_rows Greater f g)) ∷ apart_rows fs gs r)) (append_assoc front rows (compare_rows Equal f g))
    ∙ ap (λ rs. (front ++ (rows ++ compare_rows Less f g)) ∷ ((front ++ (rows ++ compare_rows Greater f g)) ∷ rs)) (apart_behind fs gs front (rows ++ compare_rows Equal f g))

all_apart : (differ : Bool) (fs gs front : List Affine) → differing differ fs gs front ≡ map (λ c. front ++ c) (choices (differing differ fs gs [] ∷ []))
all_apart true fs gs front = ap (apart_rows fs gs) (sym (append-nil front)) ∙ apart_behind fs gs front [] ∙ ap (map (λ c. front ++ c)) (sym (choices_of_one (apart_rows fs gs [])))
all_apart false fs gs front = ap (λ rows. rows ∷ []) (sym (append-nil front))

pub between_lists : (differ : Bool) (front fs gs : List Affine) (os us : List (List Affine))
    → flat_map (λ o. flat_map (λ u. differing differ fs gs (front ++ (o ++ u))) us) os ≡ map (λ c. front ++ c) (choices (os ∷ us ∷ differing differ fs gs [] ∷ []))
between_lists differ front fs gs os us =
    let last : List (List (List Affine)) = differing differ fs gs [] ∷ [] in
    flat_same (λ o. flat_map (λ u. differing differ fs gs (front ++ (o ++ u))) us) (λ o. map (λ c. (front ++ o) ++ c) (choices (us ∷ last)))
    (λ o. flat_same (λ u. differing differ fs gs (front ++ (o ++ u))) (λ u. map (λ c. ((front ++ o) ++ u) ++ c) (choices last))
    (λ u. ap (differing differ fs gs) (sym (append_assoc front o u)) ∙ all_apart differ fs gs ((front ++ o) ++ u)) us ∙ sym (first_factor (front ++ o) us last)) os
    ∙ sym (first_factor front os (us ∷ last))

-- ---- Drafts

-- the systems of a draft between two orders
pub drafted_between : (differ : Bool) (d : Draft) (after before : List (List Affine)) → d.factors ≡ after ∷ before ∷ differing differ d.x.items d.y.items [] ∷ []
    → drafted d ≡ map (clash_by d.columns d.ranges d.x.items d.y.items) (flat_map (λ o. flat_map (λ u. differing differ d.x.items d.y.items (d.front.items ++ (o ++ u))) before) after)
drafted_between differ d after before e =
    ap (λ fs. map (draft_by d) (choices fs)) e
    ∙ sym (map_twice (clash_by d.columns d.ranges d.x.items d.y.items) (λ c. d.front.items ++ c) (choices (after ∷ before ∷ differing differ d.x.items d.y.items [] ∷ [])))
    ∙ ap (map (clash_by d.columns d.ranges d.x.items d.y.items)) (sym (between_lists differ d.front.items d.x.items d.y.items after before))

-- one draft more
pub draft_more : (differ : Bool) (old new : List Draft) (d : Draft) → new ≡ old ++ d ∷ [] → (after before : List (List Affine)) → d.factors ≡ after ∷ before ∷ differing differ d.x.items d.y.items [] ∷ []
    → flat_map drafted new ≡ flat_map drafted old ++ map (clash_by d.columns d.ranges d.x.items d.y.items) (flat_map (λ o. flat_map (λ u. differing differ d.x.items d.y.items (d.front.items ++ (o ++ u))) before) after)
draft_more differ old new d e after before f = ap (flat_map drafted) e ∙ flat_one drafted old d ∙ ap (λ cs. flat_map drafted old ++ cs) (drafted_between differ d after before f)
