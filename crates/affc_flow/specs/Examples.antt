-- The questions on small trees. Each row was found by hand from the rules.
use Rattle.std.specs.Prelude.{◌≡◌, ℕ, ℤ, pos, negsuc, true, List, [], ◌∷◌, map}
use Rattle.affc_rows.specs.Forms.{Affine}
use Rattle.affc_system.specs.Systems.{Rows}
use Rattle.affc_ast.specs.declared.tree.Role.{Role}
use Rattle.affc_ast.specs.declared.tree.Role.TheVariants as role
use Rattle.affc_nest.specs.declared.nest.Access.{Access}
use Rattle.affc_nest.specs.declared.nest.ArrayInfo.{ArrayInfo}
use Rattle.affc_nest.specs.declared.nest.Entry.{Entry}
use Rattle.affc_nest.specs.declared.nest.Nest.{Nest}
use Rattle.affc_quast.specs.Trees.{Source, Input}
use Rattle.affc_flow.specs.Questions.{Question, tree_questions, flow_questions}

abbrev form : List ℤ → ℤ → Affine
form cs k = record { coefs = cs; constant = k }

abbrev access : (array : ℕ) → Access
access array = record { array = record { 0 = array }; subs = form (pos 0 ∷ pos 1 ∷ []) (pos 0) ∷ [] }

abbrev array : Role → ArrayInfo
array role = record { role = role; extents = form (pos 1 ∷ []) (pos 0) ∷ [] }

-- N from 1 to 9, and i at least 0
abbrev domain : Rows
domain = record { columns = 2; rows = form (pos 1 ∷ pos 0 ∷ []) (negsuc 0) ∷ form (negsuc 0 ∷ pos 0 ∷ []) (pos 9) ∷ form (pos 0 ∷ pos 1 ∷ []) (pos 0) ∷ [] }

abbrev entry : (statement loop : ℕ) → List Access → Entry
entry statement loop accesses = record { part = statement; statement = statement; alive = true; loops = loop ∷ []; domain = domain; ranges = (pos 0, pos 8) ∷ []; accesses = accesses }

-- for (i ..) t[i] = in[i];
abbrev fills : Entry
fills = entry 0 0 (access 0 ∷ access 2 ∷ [])

-- for (i ..) out[i] = t[i];
abbrev reads : Entry
reads = entry 1 1 (access 2 ∷ access 1 ∷ [])

-- for (i ..) out[i] = out[i];
abbrev again : Entry
again = entry 2 2 (access 1 ∷ access 1 ∷ [])

abbrev nest : Nest
nest = record {
  params = (pos 1, pos 9) ∷ [];
  context = record { columns = 1; rows = [] };
  arrays = array role.Input ∷ array role.Output ∷ array role.Temp ∷ [];
  entries = fills ∷ reads ∷ again ∷ [];
}

abbrev box : List (ℤ × ℤ)
box = (pos 1, pos 9) ∷ (pos 0, pos 8) ∷ []

abbrev rows_of : List Question → List (List Affine)
rows_of questions = map (λ q. q.system.rows) questions

-- the path, and rows more
abbrev path : List Affine → List Affine
path rows = form (pos 1 ∷ pos 0 ∷ []) (negsuc 0) ∷ form (negsuc 0 ∷ pos 0 ∷ []) (pos 9) ∷ form (pos 0 ∷ pos 1 ∷ []) (pos 0) ∷ rows

-- the path over N, i, i', the other store's own row, equal subscripts, and rows more
abbrev path_beside : List Affine → List Affine
path_beside rows =
    form (pos 1 ∷ pos 0 ∷ pos 0 ∷ []) (negsuc 0) ∷ form (negsuc 0 ∷ pos 0 ∷ pos 0 ∷ []) (pos 9) ∷ form (pos 0 ∷ pos 1 ∷ pos 0 ∷ []) (pos 0)
    ∷ form (pos 0 ∷ pos 0 ∷ pos 1 ∷ []) (pos 0)
    ∷ form (pos 0 ∷ pos 1 ∷ negsuc 0 ∷ []) (pos 0) ∷ form (pos 0 ∷ negsuc 0 ∷ pos 1 ∷ []) (pos 0) ∷ rows

-- S1 reads t[i] of S0(i): each row of its domain negated; its subscript greater and less than i; a later store i' of S0
abbrev pub RowsOfAStore : Type 0
RowsOfAStore = rows_of (tree_questions nest reads (access 2) box (Source 0 (form (pos 0 ∷ pos 1 ∷ []) (pos 0) ∷ [])))
    ≡ path (form (negsuc 0 ∷ pos 0 ∷ []) (pos 0) ∷ [])
    ∷ path (form (pos 1 ∷ pos 0 ∷ []) (negsuc 9) ∷ [])
    ∷ path (form (pos 0 ∷ negsuc 0 ∷ []) (negsuc 0) ∷ [])
    ∷ path (form (pos 0 ∷ pos 0 ∷ []) (negsuc 0) ∷ [])
    ∷ path (form (pos 0 ∷ pos 0 ∷ []) (negsuc 0) ∷ [])
    ∷ path_beside (form (pos 0 ∷ negsuc 0 ∷ pos 1 ∷ []) (negsuc 0) ∷ [])
    ∷ []

-- S2 reads out[i] of S2(i): it is the load's own instance where i is i, and S2(i) isn't earlier than itself
abbrev pub OwnStoreIsLater : Type 0
OwnStoreIsLater = rows_of (tree_questions nest again (access 1) box (Source 2 (form (pos 0 ∷ pos 1 ∷ []) (pos 0) ∷ [])))
    ≡ path (form (negsuc 0 ∷ pos 0 ∷ []) (pos 0) ∷ [])
    ∷ path (form (pos 1 ∷ pos 0 ∷ []) (negsuc 9) ∷ [])
    ∷ path (form (pos 0 ∷ negsuc 0 ∷ []) (negsuc 0) ∷ [])
    ∷ path (form (pos 0 ∷ pos 0 ∷ []) (negsuc 0) ∷ [])
    ∷ path (form (pos 0 ∷ pos 0 ∷ []) (negsuc 0) ∷ [])
    ∷ path (form (pos 0 ∷ pos 0 ∷ []) (negsuc 0) ∷ [])
    ∷ path (form (pos 0 ∷ pos 0 ∷ []) (pos 0) ∷ form (pos 0 ∷ pos 0 ∷ []) (pos 0) ∷ [])
    ∷ path_beside (form (pos 0 ∷ negsuc 0 ∷ pos 1 ∷ []) (negsuc 0) ∷ form (pos 0 ∷ pos 1 ∷ negsuc 0 ∷ []) (negsuc 0) ∷ [])
    ∷ []

-- an instance of a part that doesn't store the array, or with too few coordinates: the path alone
abbrev pub NoSuchStore : Type 0
NoSuchStore = (rows_of (tree_questions nest reads (access 2) box (Source 1 (form (pos 0 ∷ pos 1 ∷ []) (pos 0) ∷ []))) ≡ path [] ∷ [])
    × (rows_of (tree_questions nest reads (access 2) box (Source 0 [])) ≡ path [] ∷ [])

-- no store: of a temporary the path alone, of an array that nothing stores nothing, else each store before
abbrev pub NoStore : Type 0
NoStore = (rows_of (tree_questions nest reads (access 2) box Input) ≡ path [] ∷ [])
    × (rows_of (tree_questions nest fills (access 0) box Input) ≡ [])
    × (rows_of (tree_questions nest again (access 1) box Input) ≡ path_beside [] ∷ path_beside (form (pos 0 ∷ pos 1 ∷ negsuc 0 ∷ []) (negsuc 0) ∷ []) ∷ [])

-- the trees of S0, S1 and S2 in order
abbrev pub LoadsInOrder : Type 0
LoadsInOrder = rows_of (flow_questions nest (Input ∷ Input ∷ Input ∷ [])) ≡ path [] ∷ path_beside [] ∷ path_beside (form (pos 0 ∷ pos 1 ∷ negsuc 0 ∷ []) (negsuc 0) ∷ []) ∷ []
