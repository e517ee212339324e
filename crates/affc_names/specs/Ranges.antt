-- Lines before the function, one by one, and the ranges that they give.
use Rattle.std.specs.Prelude.{◌≡◌, List, [], ◌∷◌, map, Ok, ℤ}
use Rattle.std.specs.String.{string_bytes}
use Rattle.std.specs.declared.string.String.{String}
use Rattle.affc_ast.specs.declared.tree.Compare.{Compare}
use Rattle.affc_grammar.specs.Grammar.{Name}
use Rattle.affc_grammar.specs.Draft.{PragmaDraft, range, context}
use Rattle.affc_grammar.specs.Names.{Checked, Scope, allowed, why_ranged, thing_of, each, compare_tree, range_of}

-- a table of ranges as lines that give these
abbrev pub lines_of : {A : Type 0} → List (String A × (ℤ × ℤ)) → List PragmaDraft
lines_of es = map (λ e. range (record { at = 0; name = string_bytes e.0 }) 0 e.1.0 e.1.1) es

abbrev pub texts : {A : Type 0} → List (String A) → List Name
texts words = map string_bytes words

-- each name has the same range by both
abbrev pub GiveSameRanges : List PragmaDraft → List PragmaDraft → Type 0
GiveSameRanges ps qs = (w : Name) → range_of w ps ≡ range_of w qs

-- the conditions of a line, where the name that it ranges isn't refused
abbrev pub line_tree : Scope → (earlier : List Name) → PragmaDraft → Checked (List Compare)
line_tree scope earlier (range w low_at low high) = allowed (why_ranged scope earlier w.name (thing_of scope w.name)) w.at (Ok [])
line_tree scope earlier (context at cs) = each (compare_tree scope) cs

abbrev pub ranged_by : PragmaDraft → List Name
ranged_by (range w low_at low high) = w.name ∷ []
ranged_by (context at cs) = []
