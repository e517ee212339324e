-- What the steps of a term find is what is found of its expression.
use Rattle.std.proofs.Common.{◌≡◌, List, [], ◌∷◌, map, refl, ap, ◌∙◌}
use Rattle.affc_grammar.specs.Draft.{IxDraft}
use Rattle.affc_grammar.specs.Limits.{first_token}
use Rattle.affc_schedtext.specs.declared.terms.Step.{Step}
use Rattle.affc_schedtext.specs.declared.terms.Step.TheVariants as s
use Rattle.affc_schedtext.specs.Rules.{Columns}
use Rattle.affc_schedtext.specs.Terms as t
use Rattle.affc_schedtext.specs.Terms.{made, made_all}
use Rattle.affc_plan.specs.Operands.{operand_of, top, below, found, found_all}
use Rattle.affc_plan.specs.Firsts as f

-- ---- Operands

module _ (c : Columns) where
  top_is : (es : List IxDraft) → top (map (operand_of c) es) ≡ operand_of c (t.top es)
  top_is [] = refl
  top_is (e ∷ es) = refl

  below_is : (es : List IxDraft) → below (map (operand_of c) es) ≡ map (operand_of c) (t.below es)
  below_is [] = refl
  below_is (e ∷ es) = refl

  second_is : (es : List IxDraft) → top (below (map (operand_of c) es)) ≡ operand_of c (t.top (t.below es))
  second_is [] = refl
  second_is (e ∷ es) = top_is es

  others_are : (es : List IxDraft) → below (below (map (operand_of c) es)) ≡ map (operand_of c) (t.below (t.below es))
  others_are [] = refl
  others_are (e ∷ es) = below_is es

  found_is : (x : Step) (es : List IxDraft) → found c x (map (operand_of c) es) ≡ map (operand_of c) (made x es)
  found_is (s.Literal at n) es = refl
  found_is (s.Name at w) es = refl
  found_is (s.Negated at) [] = refl
  found_is (s.Negated at) (e ∷ es) = refl
  found_is s.Sum [] = refl
  found_is s.Sum (e ∷ []) = refl
  found_is s.Sum (e ∷ (d ∷ es)) = refl
  found_is s.Difference [] = refl
  found_is s.Difference (e ∷ []) = refl
  found_is s.Difference (e ∷ (d ∷ es)) = refl
  found_is (s.Product at) [] = refl
  found_is (s.Product at) (e ∷ []) = refl
  found_is (s.Product at) (e ∷ (d ∷ es)) = refl
  found_is (s.Grouped at) [] = refl
  found_is (s.Grouped at) (e ∷ es) = refl

  all_found : (xs : List Step) (es : List IxDraft) → found_all c xs (map (operand_of c) es) ≡ map (operand_of c) (made_all xs es)
  all_found [] es = refl
  all_found (x ∷ xs) es = ap (found_all c xs) (found_is x es) ∙ all_found xs (made x es)

pub operand_found : (c : Columns) (xs : List Step) → top (found_all c xs []) ≡ operand_of c (t.top (made_all xs []))
operand_found c xs = ap top (all_found c xs []) ∙ top_is c (made_all xs [])

-- ---- First tokens

first_is : (x : Step) (es : List IxDraft) → f.found x (map first_token es) ≡ map first_token (made x es)
first_is (s.Literal at n) es = refl
first_is (s.Name at w) es = refl
first_is (s.Negated at) [] = refl
first_is (s.Negated at) (e ∷ es) = refl
first_is s.Sum [] = refl
first_is s.Sum (e ∷ []) = refl
first_is s.Sum (e ∷ (d ∷ es)) = refl
first_is s.Difference [] = refl
first_is s.Difference (e ∷ []) = refl
first_is s.Difference (e ∷ (d ∷ es)) = refl
first_is (s.Product at) [] = refl
first_is (s.Product at) (e ∷ []) = refl
first_is (s.Product at) (e ∷ (d ∷ es)) = refl
first_is (s.Grouped at) [] = refl
first_is (s.Grouped at) (e ∷ es) = refl

all_first : (xs : List Step) (es : List IxDraft) → f.found_all xs (map first_token es) ≡ map first_token (made_all xs es)
all_first [] es = refl
all_first (x ∷ xs) es = ap (f.found_all xs) (first_is x es) ∙ all_first xs (made x es)

first_top : (es : List IxDraft) → f.top (map first_token es) ≡ first_token (t.top es)
first_top [] = refl
first_top (e ∷ es) = refl

pub first_found : (xs : List Step) → f.top (f.found_all xs []) ≡ first_token (t.top (made_all xs []))
first_found xs = ap f.top (all_first xs []) ∙ first_top (made_all xs [])

pub ruleset walks = (operand_found, first_found)
