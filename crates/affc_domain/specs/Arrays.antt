-- The arrays of a program, and their extents at p.
use Rattle.std.specs.Prelude.{ℤ, List, ◌++◌, map}
use Rattle.affc_ast.specs.declared.tree.Decl.{Decl}
use Rattle.affc_ast.specs.declared.tree.Program.{Program}
use Rattle.affc_ast.specs.Fits.{whole}
use Rattle.affc_ast.specs.Meaning.{arrays_of}

-- all arrays, by their numbers: the array parameters, and then the temporaries
abbrev pub declared_arrays : Program → List Decl
declared_arrays program = arrays_of program.params ++ program.temps

-- the extents of each array, from the outermost dimension
abbrev pub extents_at : List Decl → (p : List ℤ) → List (List ℤ)
extents_at ds p = map (λ d. map (λ e. whole e p) d.extents) ds
