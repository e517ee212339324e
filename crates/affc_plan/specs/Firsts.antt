-- Steps, with the numbers of the first tokens of the operands that are left for them, the last one first.
use Rattle.std.specs.Prelude.{ℕ, List, [], ◌∷◌}
use Rattle.affc_schedtext.specs.declared.terms.Step.{Step}
use Rattle.affc_schedtext.specs.declared.terms.Step.TheVariants as s

abbrev pub top : List ℕ → ℕ
top [] = 0
top (n ∷ ns) = n

abbrev pub below : List ℕ → List ℕ
below [] = []
below (n ∷ ns) = ns

-- the first token of a sum, a difference and a product is that of the left side
abbrev pub found : Step → List ℕ → List ℕ
found (s.Literal at n) ns = at ∷ ns
found (s.Name at w) ns = at ∷ ns
found (s.Negated at) ns = at ∷ below ns
found s.Sum ns = top (below ns) ∷ below (below ns)
found s.Difference ns = top (below ns) ∷ below (below ns)
found (s.Product at) ns = top (below ns) ∷ below (below ns)
found (s.Grouped at) ns = at ∷ below ns

abbrev pub found_all : List Step → List ℕ → List ℕ
found_all [] ns = ns
found_all (s ∷ ss) ns = found_all ss (found s ns)
