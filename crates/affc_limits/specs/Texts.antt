-- What is looked for in whole-number expressions: the first product of names, or the least place at which a limit is passed.
use Rattle.std.specs.Prelude.{ℕ, Bool, true, false, List, flat_map, Option}
use Rattle.affc_grammar.specs.Draft as d
use Rattle.affc_grammar.specs.Limits.{products_in, literals_past, large_parts}
use Rattle.affc_limits.specs.declared.texts.Rule.{Rule}
use Rattle.affc_limits.specs.declared.texts.Rule.TheVariants.{Products, Literals, Coefficients}
use Rattle.affc_limits.specs.Places.{first, first_of, least, lesser}

abbrev pub places_in : Rule → d.IxDraft → List ℕ
places_in Products e = products_in e
places_in (Literals limit) e = literals_past limit e
places_in (Coefficients alloc) e = large_parts e

abbrev pub place_by : Rule → List ℕ → Option ℕ
place_by Products ns = first ns
place_by (Literals limit) ns = least ns
place_by (Coefficients alloc) ns = least ns

-- of two places, the first of which was found before
abbrev pub pick : Rule → Option ℕ → Option ℕ → Option ℕ
pick Products a b = first_of a b
pick (Literals limit) a b = lesser a b
pick (Coefficients alloc) a b = lesser a b

-- what is found in expressions
abbrev pub found : Rule → List d.IxDraft → Option ℕ
found rule es = place_by rule (flat_map (places_in rule) es)

-- what is found in expressions, with what was found before
abbrev pub with_found : Rule → (before : Option ℕ) → List d.IxDraft → Option ℕ
with_found rule before es = pick rule before (found rule es)

-- what is found with the expressions of one thing more
abbrev pub step : {B : Type 0} → Rule → (B → List d.IxDraft) → Option ℕ → B → Option ℕ
step rule texts a b = with_found rule a (texts b)

-- whether the answer takes no memory
abbrev pub takes_none : Rule → Bool
takes_none Products = true
takes_none (Literals limit) = true
takes_none (Coefficients alloc) = false
