-- The components of statements' times that have no ends, as text, each with why.
use Rattle.std.specs.Prelude.{ℕ, List, [], ◌∷◌, ◌++◌, codes, decimal}
use Rattle.affc_loopends.specs.declared.bounds.Why.{Why}
use Rattle.affc_loopends.specs.declared.bounds.Why.TheVariants.{Made, Wide, Large, Nine}
use Rattle.affc_loopends.specs.declared.scanned.scanned.Loose.{Loose}

abbrev pub why_text : Why → List ℕ
why_text (Made asked made) = codes "made"
why_text (Wide asked made next) = codes "wide"
why_text (Large row) = codes "large"
why_text (Nine rows) = codes "nine"

-- `loose S1 component 0 wide`
abbrev pub loose_text : Loose → List ℕ
loose_text l = codes "loose S" ++ decimal l.statement ++ codes " component " ++ decimal l.component ++ codes " " ++ why_text l.why ++ codes "\n"

abbrev pub all_loose_text : List Loose → List ℕ
all_loose_text [] = []
all_loose_text (l ∷ ls) = loose_text l ++ all_loose_text ls
