-- Last-write trees as text: each load's name, and its tree in preorder.
use Rattle.std.specs.Prelude.{ℕ, zero, suc, ℤ, List, [], ◌∷◌, ◌++◌, length, take, drop, codes, decimal, Option, Some, None, slice_get, unwrap_or}
use Rattle.std.specs.Fmt.{signed_decimal}
use Rattle.std.specs.List.{join_by}
use Rattle.affc_rows.specs.Forms.{Affine}
use Rattle.affc_grammar.specs.Grammar.{Name}
use Rattle.affc_nest.specs.declared.nest.Access.{Access}
use Rattle.affc_nest.specs.declared.nest.Entry.{Entry}
use Rattle.affc_nest.specs.declared.nest.Nest.{Nest}
use Rattle.affc_quast.specs.Trees.{Tree, Test, Div, Source, Input}
use Rattle.affc_quast.specs.Sources.{loads_in}
use Rattle.affc_schedtext.specs.Outline.{numbered_names}
use Rattle.affc_schedtext.specs.declared.outline.ArrayOutline.{ArrayOutline}
use Rattle.affc_schedtext.specs.declared.outline.Outline.{Outline}
use Rattle.affc_report.specs.Forms.{Term, terms_of, form_text}

-- ---- Forms of trees, over the parameters, the iterators and the quotients above

-- the iterators' terms come first, then the parameters', then those of the quotients q0, q1, .. from the outermost on
abbrev pub tree_terms : (parameters iterators : List Name) → List ℤ → List Term
tree_terms ps is cs =
    let behind = drop (length ps) cs in
    terms_of (take (length is) behind) is
    ++ terms_of (take (length ps) cs) ps
    ++ terms_of (drop (length is) behind) (numbered_names (codes "q") 0 (length (drop (length is) behind)))

abbrev pub tree_form : (parameters iterators : List Name) → Affine → List ℕ
tree_form ps is f = form_text (tree_terms ps is f.coefs) f.constant

-- ---- Trees

-- two spaces for each level
abbrev pub indent : ℕ → List ℕ
indent zero = []
indent (suc level) = codes "  " ++ indent level

-- in preorder: the part in which a test is met comes before the other
abbrev pub tree_text : (parameters iterators : List Name) → (level divisions : ℕ) → Tree → List ℕ
tree_text ps is level q (Test f on off) =
    indent level ++ codes "test " ++ tree_form ps is f ++ codes " >= 0\n"
    ++ tree_text ps is (suc level) q on ++ tree_text ps is (suc level) q off
tree_text ps is level q (Div f by rest) =
    indent level ++ codes "div q" ++ decimal q ++ codes " = floor((" ++ tree_form ps is f ++ codes ") / " ++ signed_decimal by ++ codes ")\n"
    ++ tree_text ps is (suc level) (suc q) rest
tree_text ps is level q (Source s fs) = indent level ++ codes "source S" ++ decimal s ++ codes "(" ++ join_by (tree_form ps is) (codes ", ") fs ++ codes ")\n"
tree_text ps is level q Input = indent level ++ codes "input\n"

-- ---- Loads

abbrev pub name_in : Option ArrayOutline → Name
name_in None = []
name_in (Some a) = a.name

abbrev pub array_name : Outline → (array : ℕ) → Name
array_name o array = name_in (slice_get o.arrays array)

abbrev pub iterators_round : Outline → (statement : ℕ) → List Name
iterators_round o statement = unwrap_or (slice_get o.statements statement) []

-- `S1 load 0 t`, and the tree
abbrev pub load_text : Outline → (statement load array : ℕ) → Tree → List ℕ
load_text o s j array tree =
    codes "S" ++ decimal s ++ codes " load " ++ decimal j ++ codes " " ++ array_name o array ++ codes "\n"
    ++ tree_text o.parameters (iterators_round o s) 1 0 tree

-- the loads of a statement from this number on
abbrev pub loads_text : Outline → (statement load : ℕ) → List Access → List Tree → List ℕ
loads_text o s j (x ∷ xs) (tree ∷ trees) = load_text o s j x.array.0 tree ++ loads_text o s (suc j) xs trees
loads_text o s j _ _ = []

-- those of the statements from this number on; the last access of each is its store
abbrev pub statements_text : Outline → (statement : ℕ) → List Entry → List Tree → List ℕ
statements_text o s [] trees = []
statements_text o s (e ∷ es) trees = loads_text o s 0 (take (loads_in e) e.accesses) trees ++ statements_text o (suc s) es (drop (loads_in e) trees)

-- the trees of all loads, statements and loads in order
abbrev pub flow_text : Outline → Nest → List Tree → List ℕ
flow_text o nest trees = statements_text o 0 nest.entries trees
