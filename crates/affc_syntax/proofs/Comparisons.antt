-- The comparisons of conditions that are taken from the last.
use Rattle.std.proofs.Common.{◌≡◌, [], ◌∷◌, ◌++◌, List, map, reverse, refl, sym, ap, ◌∙◌}
use Rattle.std.proofs.lemmas.List.{map-append, append_assoc, append-nil, reverse-append}
use Rattle.affc_grammar.specs.Draft as d
use Rattle.affc_syntax.specs.declared.draft.draft.CompareDraft.{CompareDraft}
use Rattle.affc_syntax.specs.declared.draft.draft.CondDraft.{CondDraft}
use Rattle.affc_syntax.specs.draft.Drafts.{compare, cond, conds_of}
use Rattle.affc_syntax.proofs.draft.Outs.{conds_of-append}

abbrev pub taken : List CondDraft → List d.CompareDraft
taken xs = d.comparisons_of (conds_of (map cond xs))

pub taken_last : (xs : List CondDraft) (x : CondDraft) → taken (xs ++ x ∷ []) ≡ taken xs ++ d.comparison_in (cond x)
taken_last xs x = ap (λ l. d.comparisons_of (conds_of l)) (map-append cond xs (x ∷ [])) ∙ ap d.comparisons_of (conds_of-append (map cond xs) (cond x ∷ []))

-- at most one
few_turned : (x : d.CondDraft) → reverse (d.comparison_in x) ≡ d.comparison_in x
few_turned (d.comparison c) = refl
few_turned (d.divisible a by_at by so) = refl
few_turned (d.all_of cs) = refl
few_turned (d.any_of cs) = refl

pub all_taken : (conds : List CondDraft) → taken conds ++ reverse (map compare []) ≡ taken conds
all_taken conds = append-nil (taken conds)

pub turn_taken : (conds left : List CondDraft) (x : CondDraft) (back more : List CompareDraft) (all : List d.CompareDraft) → conds ≡ left ++ x ∷ [] → map compare more ≡ map compare back ++ d.comparison_in (cond x)
    → taken conds ++ reverse (map compare back) ≡ all → taken left ++ reverse (map compare more) ≡ all
turn_taken conds left x back more all e q h =
    ap (λ l. taken left ++ reverse l) q
    ∙ ap (λ l. taken left ++ l) (reverse-append (map compare back) (d.comparison_in (cond x)) ∙ ap (λ l. l ++ reverse (map compare back)) (few_turned (cond x)))
    ∙ sym (append_assoc (taken left) (d.comparison_in (cond x)) (reverse (map compare back)))
    ∙ ap (λ l. l ++ reverse (map compare back)) (sym (taken_last left x) ∙ ap taken (sym e))
    ∙ h

pub turn_back : (back left : List CompareDraft) (c : CompareDraft) (done more : List CompareDraft) (all : List d.CompareDraft) → back ≡ left ++ c ∷ [] → more ≡ done ++ c ∷ []
    → map compare done ++ reverse (map compare back) ≡ all → map compare more ++ reverse (map compare left) ≡ all
turn_back back left c done more all e q h =
    ap (λ l. map compare l ++ reverse (map compare left)) q
    ∙ ap (λ l. l ++ reverse (map compare left)) (map-append compare done (c ∷ []))
    ∙ append_assoc (map compare done) (compare c ∷ []) (reverse (map compare left))
    ∙ ap (λ l. map compare done ++ l) (sym (reverse-append (map compare left) (compare c ∷ [])) ∙ ap reverse (sym (map-append compare left (c ∷ []))) ∙ ap (λ l. reverse (map compare l)) (sym e))
    ∙ h
