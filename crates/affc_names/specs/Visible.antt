-- Scopes with fewer names.
use Rattle.std.specs.Prelude.{ℕ, drop, Option, Some, None}
use Rattle.affc_grammar.specs.Names.{Thing, Visible, Scope}

-- without the names that were declared last, so many
abbrev pub without : ℕ → Scope → Scope
without count scope = record scope { visible = drop count scope.visible }

abbrev pub thing_in : Option Visible → Option Thing
thing_in o = elim o [ None ↦ None | Some v ↦ Some v.thing ]
