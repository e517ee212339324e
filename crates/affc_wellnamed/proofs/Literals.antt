-- Products of names and literals past the limit: a text has one where the tree that it is read as has one.
use Rattle.std.proofs.Common.{◌≡◌, ℕ, ◌&&◌, Bool, true, false, List, [], ◌∷◌, ◌++◌, Ok, refl, sym, ap, ◌∙◌}
use Rattle.std.specs.List.{flat_map}
use Rattle.affc_ast.specs.declared.tree.Ix.{Ix}
use Rattle.affc_ast.specs.declared.tree.Program.{Program}
use Rattle.affc_grammar.specs.Draft.{IxDraft, TextDraft}
use Rattle.affc_grammar.specs.Names.{Scope, ix_tree, program_tree}
use Rattle.affc_grammar.specs.Limits.{affine_texts, products_in, products_of_names, literals_past, wide_limits}
use Rattle.affc_cprint.specs.Forms.{is_none, form, program_passes}
use Rattle.affc_cprint.proofs.Products.{none_append, large, ix_same, program_same}
use Rattle.affc_wellnamed.specs.Plain.{is_plain}

abbrev refused : IxDraft → List ℕ
refused d = products_in d ++ large d

plain_same : (scope : Scope) (d : IxDraft) (e : Ix) → ix_tree scope d ≡ Ok e → is_none (refused d) ≡ is_plain e
plain_same scope d e h =
    let s = ix_same scope d e h in
    none_append (products_in d) (large d) ∙ ap (λ b. b && is_none (large d)) s.affine ∙ ap (λ b. (form e).affine && b) s.small

shuffled : (a b c d : Bool) → ((a && b) && (c && d)) ≡ ((a && c) && (b && d))
shuffled true true c d = refl
shuffled true false true d = refl
shuffled true false false d = refl
shuffled false b c d = refl

none_both : (f g : IxDraft → List ℕ) (ds : List IxDraft) → is_none (flat_map (λ d. f d ++ g d) ds) ≡ (is_none (flat_map f ds) && is_none (flat_map g ds))
none_both f g [] = refl
none_both f g (d ∷ ds) =
    none_append (f d ++ g d) (flat_map (λ x. f x ++ g x) ds) ∙ ap (λ b. b && is_none (flat_map (λ x. f x ++ g x) ds)) (none_append (f d) (g d)) ∙ ap (λ b. (is_none (f d) && is_none (g d)) && b) (none_both f g ds)
    ∙ shuffled (is_none (f d)) (is_none (g d)) (is_none (flat_map f ds)) (is_none (flat_map g ds))
    ∙ ap (λ b. b && (is_none (g d) && is_none (flat_map g ds))) (sym (none_append (f d) (flat_map f ds))) ∙ ap (λ b. is_none (flat_map f (d ∷ ds)) && b) (sym (none_append (g d) (flat_map g ds)))

pub plain_is : (d : TextDraft) (p : Program) → program_tree d ≡ Ok p → program_passes is_plain p ≡ (is_none (products_of_names d) && is_none (flat_map (literals_past wide_limits.literal) (affine_texts d)))
plain_is d p e = sym (program_same refused is_plain plain_same d p e) ∙ none_both products_in large (affine_texts d)
