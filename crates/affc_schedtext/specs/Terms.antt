-- The expression of a term: each of its steps takes what the steps before it left on a stack.
use Rattle.std.specs.Prelude.{List, [], ◌∷◌}
use Rattle.affc_grammar.specs.Grammar.{minimum}
use Rattle.affc_grammar.specs.Draft.{IxDraft, literal, name, negated, sum, difference, product, grouped, chosen}
use Rattle.affc_schedtext.specs.declared.terms.Step.{Step}
use Rattle.affc_schedtext.specs.declared.terms.Step.TheVariants as s
use Rattle.affc_schedtext.specs.declared.terms.Term.{Term}

-- no expression of a schedule, where none is left
abbrev pub none_left : IxDraft
none_left = chosen 0 minimum (literal 0 0) (literal 0 0)

abbrev pub top : List IxDraft → IxDraft
top [] = none_left
top (e ∷ es) = e

abbrev pub below : List IxDraft → List IxDraft
below [] = []
below (e ∷ es) = es

abbrev pub made : Step → List IxDraft → List IxDraft
made (s.Literal at n) es = literal at n ∷ es
made (s.Name at w) es = name at w ∷ es
made (s.Negated at) es = negated at (top es) ∷ below es
made s.Sum es = sum (top (below es)) (top es) ∷ below (below es)
made s.Difference es = difference (top (below es)) (top es) ∷ below (below es)
made (s.Product at) es = product at (top (below es)) (top es) ∷ below (below es)
made (s.Grouped at) es = grouped at (top es) ∷ below es

abbrev pub made_all : List Step → List IxDraft → List IxDraft
made_all [] es = es
made_all (s ∷ ss) es = made_all ss (made s es)

abbrev pub term : Term → IxDraft
term t = top (made_all t.steps [])
