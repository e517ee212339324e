-- The output lines, by the arrays' cells.
use Rattle.std.specs.Prelude.{ℕ, List, [], ◌∷◌, ◌++◌, get_or, drop, map, Option, Some, None, if◌then◌else◌}
use Rattle.affc_ast.specs.declared.tree.Decl.{Decl}
use Rattle.affc_ast.specs.Fits.{is_output_role}
use Rattle.affc_interp.specs.declared.memory.Buffer.{Buffer}
use Rattle.affc_interp.specs.DataText.{array_line}

-- the values of the cells that have one
abbrev pub values_held : List (Option ℕ) → List ℕ
values_held [] = []
values_held (Some v ∷ cs) = v ∷ values_held cs
values_held (None ∷ cs) = values_held cs

abbrev pub cells_of : List Buffer → List (List (Option ℕ))
cells_of bs = map (λ b. b.cells.items) bs

abbrev pub line_held : Decl → List (Option ℕ) → List ℕ
line_held d cs = if is_output_role d.role then array_line d.name (values_held cs) (10 ∷ []) else []

abbrev pub lines_held : List Decl → List (List (Option ℕ)) → List ℕ
lines_held [] css = []
lines_held (d ∷ ds) css = line_held d (get_or css 0 []) ++ lines_held ds (drop 1 css)
