-- The numbers that names have.
use Rattle.std.specs.Prelude.{ℤ}
use Rattle.affc_grammar.specs.Grammar.{Name}
use Rattle.affc_limits.specs.declared.terms.Coefficients.{Coefficients}
use Rattle.affc_limits.specs.Terms.{coefficient, scaled}

abbrev pub number_of : Coefficients → Name → ℤ
number_of c w = scaled c.scale (coefficient w c.terms)
