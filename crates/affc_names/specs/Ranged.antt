-- Names that lines before the function give a range.
use Rattle.std.specs.Prelude.{Bool, true, false, [], ◌∷◌, Option, Some, None}
use Rattle.affc_grammar.specs.declared.fault.NameWhy.{NameWhy}
use Rattle.affc_grammar.specs.declared.fault.NameWhy.TheVariants.{Unknown, Twice, Reserved, Kind}
use Rattle.affc_grammar.specs.Grammar.{Name}
use Rattle.affc_grammar.specs.Names.{Scope, Thing, function, number, array, first_reason, is_refused_word}

-- why such a name is refused, where it is or isn't among those that were given one before
abbrev pub why_ranged : Scope → (is_earlier : Bool) → Name → Option Thing → Option NameWhy
why_ranged scope is_earlier w None = Some Unknown
why_ranged scope is_earlier w (Some function) = first_reason ((is_earlier, Twice) ∷ (is_refused_word scope false w, Reserved) ∷ (true, Kind) ∷ [])
why_ranged scope is_earlier w (Some (number id it)) = first_reason ((is_earlier, Twice) ∷ (is_refused_word scope it w, Reserved) ∷ [])
why_ranged scope is_earlier w (Some (array id role n)) = first_reason ((is_earlier, Twice) ∷ (is_refused_word scope false w, Reserved) ∷ (true, Kind) ∷ [])
