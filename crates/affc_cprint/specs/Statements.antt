-- What statements, conditions and locals add to the text, one behind the other.
use Rattle.std.specs.Prelude.{ℕ, Bool, true, false, List, [], ◌∷◌, ◌++◌, take, codes, Option}
use Rattle.std.specs.List.{flat_map}
use Rattle.affc_ast.specs.declared.tree.Ix.{Ix}
use Rattle.affc_ast.specs.declared.tree.Compare.{Compare}
use Rattle.affc_ast.specs.declared.tree.Cond.{Cond}
use Rattle.affc_ast.specs.declared.tree.Local.{Local}
use Rattle.affc_ast.specs.declared.tree.ArrayId.{ArrayId}
use Rattle.affc_ast.specs.declared.tree.Op.{Op}
use Rattle.affc_ast.specs.declared.tree.Rel.{Rel}
use Rattle.affc_ast.specs.declared.tree.Stmt.{Stmt}
use Rattle.affc_ast.specs.declared.tree.Val.{Val}
use Rattle.affc_grammar.specs.Grammar.{Name, StmtText, bound_mark, assign_mark}
use Rattle.affc_grammar.specs.Printed.{Names, ix_text, cond_text, test_text, tests_text, value_text, stmt_text, array_name, is_less, and_number}
use Rattle.affc_cprint.specs.Layout.{◌then◌, ix_layout, value_layout, cond_layout, prim_layout, indent, stmt_layout}

-- a subscript or an extent
abbrev pub dim_added : (prelude : Bool) → Names → Ix → List ℕ
dim_added prelude names e = codes "[" then ix_layout (ix_text prelude names e) then codes "]"

-- a condition of a `context` line behind another
abbrev pub test_added : Names → Compare → List ℕ
test_added names c = codes " && " then prim_layout (test_text names c)

-- all conditions of a `context` line
abbrev pub tests_added : Names → List Compare → List ℕ
tests_added names [] = []
tests_added names (c ∷ cs) = cond_layout (tests_text names c cs)

-- locals are written with the prelude only
abbrev pub local_added : (prelude : Bool) → (level : ℕ) → Names → Local → List ℕ
local_added true level names l = indent level then codes "const int64_t " then l.name then codes " = " then ix_layout (ix_text true names l.value) then codes ";\n"
local_added false level names l = []

-- each local sees those before it
abbrev pub locals_added : (prelude : Bool) → (level : ℕ) → Names → List Local → List ℕ
locals_added prelude level names [] = []
locals_added prelude level names (l ∷ more) = local_added prelude level names l then locals_added prelude level (and_number names l.name) more

abbrev pub with_locals : Names → List Local → Names
with_locals names [] = names
with_locals names (l ∷ more) = with_locals (and_number names l.name) more

-- a statement in a line of its own
abbrev pub stmt_added : {prelude : Bool} → (level : ℕ) → Names → (Names → StmtText prelude) → List ℕ
stmt_added level names s = indent level then stmt_layout level (s names)

abbrev pub stmts_added : {prelude : Bool} → (level : ℕ) → Names → List (Names → StmtText prelude) → List ℕ
stmts_added level names ss = flat_map (stmt_added level names) ss

-- for (int64_t i = LOW; i < HIGH; i++) {
abbrev pub head_layout : (prelude : Bool) → Names → Name → Ix → Rel → Ix → List ℕ
head_layout prelude names i low rel high =
    codes "for (int64_t " then i then codes " = " then ix_layout (ix_text prelude names low) then codes "; " then i then codes " " then bound_mark (is_less rel) then codes " "
    then ix_layout (ix_text prelude names high) then codes "; " then i then codes "++) {\n"

-- if (CONDITION) {
abbrev pub if_layout : (prelude : Bool) → Names → Cond → List ℕ
if_layout prelude names c = codes "if (" ++ (cond_layout (cond_text prelude names c) ++ codes ") {\n")

-- an assignment
abbrev pub assign_layout : (prelude : Bool) → Names → Option Op → ArrayId → List Ix → Val → List ℕ
assign_layout prelude names op id subs v =
    array_name names id then flat_map (dim_added prelude names) subs then codes " " then assign_mark op then codes " " then value_layout (value_text prelude names v) then codes ";\n"

-- a statement of a body, in a line of its own
abbrev pub line_added : (prelude : Bool) → (level : ℕ) → Names → Stmt → List ℕ
line_added prelude level names s = indent level then stmt_layout level (stmt_text prelude s names)

-- the first so many numbers, and the arrays
abbrev pub first_numbers : ℕ → Names → Names
first_numbers n names = record names { numbers = take n names.numbers }
