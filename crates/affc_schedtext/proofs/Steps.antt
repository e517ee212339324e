-- Operands that a step behind others makes.
use Rattle.std.proofs.Common.{◌≡◌, List, [], ◌∷◌, ◌++◌, refl}
use Rattle.affc_grammar.specs.Draft.{IxDraft}
use Rattle.affc_schedtext.specs.declared.terms.Step.{Step}
use Rattle.affc_schedtext.specs.Terms.{made, made_all}

pub one_more : (ss : List Step) (s : Step) (es : List IxDraft) → made_all (ss ++ s ∷ []) es ≡ made s (made_all ss es)
one_more [] s es = refl
one_more (x ∷ xs) s es = one_more xs s (made x es)

pub ruleset steps = (one_more)
