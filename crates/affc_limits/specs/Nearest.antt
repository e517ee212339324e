-- Several limits, by the least place at which each is passed.
use Rattle.std.specs.Prelude.{ℕ, Bool, Option, Some, None, if◌then◌else◌}
use Rattle.std.specs.Option.{option_map}
use Rattle.affc_grammar.specs.declared.fault.LimitName.{LimitName}
use Rattle.affc_grammar.specs.Limits.{Passed, nearer}

abbrev pub at_place : LimitName → Option ℕ → Option Passed
at_place which place = option_map (λ at. record { at = at; which = which }) place

-- the first of two at one place, else the one at the lesser place
abbrev pub nearest : Option Passed → Option Passed → Option Passed
nearest None other = other
nearest (Some p) other = nearer p other

-- with one limit more, which stands behind the others in the list of limits
abbrev pub with_limit : Option Passed → LimitName → Option ℕ → Option Passed
with_limit found which place = nearest found (at_place which place)

abbrev pub unless : Bool → Option ℕ → Option ℕ
unless skipped place = if skipped then None else place
