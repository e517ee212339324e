-- What is wrong with a value that stands for a source tree.
use Rattle.affc_cert.specs.declared.tree.kind.Place.{Place}
use Rattle.affc_cert.specs.declared.tree.kind.TreeKind.{TreeKind}
use Rattle.affc_cert.specs.declared.tree.kind.TreeKind.TheVariants.{Test, Div, Source, Input, Other}
use Rattle.affc_cert.specs.declared.tree.layout.Load.{Load}
use Rattle.affc_cert.specs.declared.tree.layout.Store.{Store}
use Rattle.affc_certvalue.specs.Verdicts.{worse, whole, all_of, list, many, exactly, form_over, behind_tag}
use Rattle.affc_certvalue.specs.declared.verdict.Verdict.{Verdict}
use Rattle.affc_certvalue.specs.declared.verdict.Verdict.TheVariants.{Shape, Number, Fine}
use Rattle.serde_json.specs.Data.{Num, Data, Items, no_items, item}
use Rattle.serde_json.specs.Find.{as_number, as_i64, as_array, as_str}
use Rattle.std.specs.Prelude.{ℕ, ◌+◌, ◌==◌, ℤ, pos, negsuc, List, [], ◌∷◌, nat_lt, if◌then◌else◌, Option, Some, None, codes, bytes_eq}

-- a form over so many columns
abbrev pub tree_form : ℕ → Items → Verdict
tree_form columns = form_over columns (pos 16777216) (pos 1125899906842624)

abbrev pub forms : ℕ → Items → Verdict
forms columns = all_of (list (tree_form columns))

-- the loops round a statement, by its number; statements that may be named are listed by number
abbrev pub loops_at : ℕ → List Store → Option ℕ
loops_at n [] = None
loops_at n (s ∷ ss) = if n == s.statement then Some s.loops else loops_at n ss

abbrev pub loops_of : ℤ → List Store → Option ℕ
loops_of (pos n) statements = loops_at n statements
loops_of (negsuc n) statements = None

abbrev pub source_at : Option ℕ → ℕ → Data → Verdict
source_at None columns forms_value = Shape
source_at (Some loops) columns forms_value = list (many loops (list (tree_form columns))) forms_value

-- the statement's number may be wrong as a number: then the count of the forms isn't looked at
abbrev pub source_by : List Store → ℕ → Option ℤ → Data → Verdict
source_by statements columns None forms_value = worse Number (list (forms columns) forms_value)
source_by statements columns (Some z) forms_value = source_at (loops_of z statements) columns forms_value

abbrev pub source_number : List Store → ℕ → Option Num → Data → Verdict
source_number statements columns None forms_value = Shape
source_number statements columns (Some n) forms_value = source_by statements columns (as_i64 n) forms_value

abbrev pub source_parts : List Store → ℕ → Items → Verdict
source_parts statements columns no_items = Shape
source_parts statements columns (item d no_items) = Shape
source_parts statements columns (item d (item e no_items)) = source_number statements columns (as_number d) e
source_parts statements columns (item d (item e (item f ds))) = Shape

-- at most 400 inner nodes on a path
abbrev pub path : ℕ → Verdict
path inner = if nat_lt inner 400 then Fine else Number

abbrev pub tree_kind_of_tag : Option (List ℕ) → TreeKind
tree_kind_of_tag None = Other
tree_kind_of_tag (Some s) = if bytes_eq s (codes "t") then Test else (if bytes_eq s (codes "d") then Div else (if bytes_eq s (codes "w") then Source else (if bytes_eq s (codes "i") then Input else Other)))

abbrev pub tree_kind_of : Items → TreeKind
tree_kind_of no_items = Other
tree_kind_of (item d ds) = tree_kind_of_tag (as_str d)

-- a node below so many columns and so many inner nodes
abbrev pub tree_parts : List Store → Place → TreeKind → Items → Verdict
tree_parts statements place Test ds = worse (path place.inner) (exactly (list (tree_form place.columns) ∷ []) ds)
tree_parts statements place Div ds = worse (path place.inner) (exactly (list (tree_form place.columns) ∷ whole (pos 1) (pos 16777216) ∷ []) ds)
tree_parts statements place Source ds = source_parts statements place.columns ds
tree_parts statements place Input ds = exactly [] ds
tree_parts statements place Other ds = Shape

abbrev pub tree_node : List Store → Place → Items → Verdict
tree_node statements place ds = tree_parts statements place (tree_kind_of ds) (behind_tag ds)

-- a place below one more inner node
abbrev pub deeper : ℕ → Place → Place
deeper more place = record { columns = place.columns + more; inner = place.inner + 1 }

-- the places that are open behind a node, with those that were open behind it
abbrev pub opened : Place → TreeKind → List Place → List Place
opened place Test places = deeper 0 place ∷ deeper 0 place ∷ places
opened place Div places = deeper 1 place ∷ places
opened place Source places = places
opened place Input places = places
opened place Other places = places

abbrev pub kind_in : Option Items → TreeKind
kind_in None = Other
kind_in (Some ds) = tree_kind_of ds

-- the nodes of a tree in preorder, at the places that are open: each has its columns and the inner nodes above it
abbrev pub tree_nodes : List Store → List Place → Items → Verdict
tree_nodes statements [] no_items = Fine
tree_nodes statements [] (item d ds) = Shape
tree_nodes statements (place ∷ places) no_items = Shape
tree_nodes statements (place ∷ places) (item d ds) = worse (list (tree_node statements place) d) (tree_nodes statements (opened place (kind_in (as_array d)) places) ds)

-- the tree of a load
abbrev pub tree : Load → Data → Verdict
tree load = list (tree_nodes load.stores (record { columns = load.columns; inner = 0 } ∷ []))
