-- What the lines before the function, its parameters and its declarations add to the text, one behind the other.
use Rattle.std.specs.Prelude.{ℕ, Bool, List, [], ◌∷◌, codes}
use Rattle.affc_ast.specs.declared.tree.Compare.{Compare}
use Rattle.affc_ast.specs.declared.tree.Decl.{Decl}
use Rattle.affc_ast.specs.declared.tree.Param.{Param}
use Rattle.affc_ast.specs.declared.tree.Param.TheVariants.{Number, Array}
use Rattle.affc_ast.specs.declared.tree.Program.{Program}
use Rattle.std.specs.List.{flat_map}
use Rattle.affc_grammar.specs.Grammar.{Name}
use Rattle.affc_grammar.specs.Printed.{Names, param_text, and_param_name, and_array_name, int_text, params_text, no_names}
use Rattle.affc_cprint.specs.Layout.{◌then◌, param_layout, params_layout, int_layout}
use Rattle.affc_cprint.specs.Statements.{dim_added, tests_added, line_added}

-- the line of a parameter that is a number
abbrev pub range_added : Param → List ℕ
range_added (Number w low high) = codes "#pragma affc param " then w then codes " " then int_layout (int_text low) then codes " " then int_layout (int_text high) then codes "\n"
range_added (Array d) = []

-- the line of all conditions, if there are any
abbrev pub context_added : Names → List Compare → List ℕ
context_added names [] = []
context_added names (c ∷ cs) = codes "#pragma affc context " then tests_added names (c ∷ cs) then codes "\n"

-- parameters behind the first; each sees those before it
abbrev pub params_added : (prelude : Bool) → Names → List Param → List ℕ
params_added prelude names [] = []
params_added prelude names (q ∷ qs) = codes ", " then param_layout (param_text prelude names q) then params_added prelude (and_param_name names q) qs

abbrev pub with_param_names : Names → List Param → Names
with_param_names names [] = names
with_param_names names (q ∷ qs) = with_param_names (and_param_name names q) qs

-- each declaration sees those before it
abbrev pub decls_added : (prelude : Bool) → Names → List Decl → List ℕ
decls_added prelude names [] = []
decls_added prelude names (d ∷ ds) =
    codes "  uint64_t " then d.name then flat_map (dim_added prelude names) d.extents then codes ";\n" then decls_added prelude (and_array_name names d.name) ds

abbrev pub with_array_names : Names → List Decl → Names
with_array_names names [] = names
with_array_names names (d ∷ ds) = with_array_names (and_array_name names d.name) ds

-- void NAME(PARAMETERS) {
abbrev pub function_head : (prelude : Bool) → Name → List Param → List ℕ
function_head prelude name qs = codes "void " then name then codes "(" then params_layout (params_text prelude qs).0 then codes ") {\n"

-- the function, in the pieces in which it is written
abbrev pub function_added : (prelude : Bool) → Program → List ℕ
function_added prelude p =
    let outside = with_param_names no_names p.params in
    let inside = with_array_names outside p.temps in
    function_head prelude p.name p.params then decls_added prelude outside p.temps then flat_map (line_added prelude 1 inside) p.body then codes "}\n"
