-- The list of visible things that a table of names shows.
use Rattle.std.specs.Prelude.{◌≡◌, List, [], ◌∷◌, ◌++◌, None}
use Rattle.std.specs.List.{find}
use Rattle.std.specs.String.{string_bytes}
use Rattle.std.specs.declared.string.String.{String}
use Rattle.affc_lex.specs.Bytes.{same}
use Rattle.affc_grammar.specs.Names.{Visible}
use Rattle.affc_names.specs.declared.scope.Thing.{Thing}
use Rattle.affc_names.specs.Things.{thing_seen}

abbrev pub visible_of : {A : Type 0} → String A × Thing → Visible
visible_of e = record { name = string_bytes e.0; thing = thing_seen e.1 }

-- from the latest to the first
abbrev pub latest_first : {A : Type 0} → List (String A × Thing) → List Visible
latest_first [] = []
latest_first (e ∷ es) = latest_first es ++ visible_of e ∷ []

abbrev pub AreApart : List Visible → Type 0
AreApart [] = Unit {0}
AreApart (v ∷ vs) = (find (λ u. same u.name v.name) vs ≡ None) × AreApart vs
