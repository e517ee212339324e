-- The name of the array of a number.
use Rattle.std.proofs.Common.{◌≡◌, ℕ, ◌≤◌, List, ◌++◌, length, drop, slice_get, Option, sym, ap, ◌∙◌}
use Rattle.std.proofs.lemmas.List.{drop_all}
use Rattle.affc_ast.specs.declared.tree.Decl.{Decl}
use Rattle.affc_ast.specs.declared.tree.Param.{Param}
use Rattle.affc_ast.specs.declared.tree.Program.{Program}
use Rattle.affc_ast.specs.Meaning.{arrays_of}
use Rattle.affc_lines.specs.Stuck.{name_of, array_name}

-- it is that of a temporary, once all parameters are passed
pub temporary_name : (program : Program) (params : List Param) (i left array : ℕ) (temps : List Decl) (found : Option Decl) → length params ≤ i
    → slice_get (arrays_of (drop i params) ++ program.temps) left ≡ slice_get (arrays_of program.params ++ program.temps) array
    → temps ≡ program.temps → slice_get temps left ≡ found → name_of found ≡ array_name program array
temporary_name program params i left array temps found passed same is at =
    ap name_of (sym at ∙ ap (λ l. slice_get l left) is
    ∙ sym (ap (λ l. slice_get (arrays_of l ++ program.temps) left) (drop_all i params passed)) ∙ same)
