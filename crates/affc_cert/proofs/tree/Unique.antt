-- Two trees with one JSON value are one.
use Rattle.affc_cert.specs.tree.Trees.{kind_in}
use Rattle.affc_cert.specs.tree.Values.{tree_nodes_of, tree_value}
use Rattle.affc_cert.specs.declared.tree.kind.TreeKind.{TreeKind}
use Rattle.affc_certvalue.proofs.Unique.{head_same, tail_same, list_same, whole_same, form_same, forms_same, natural_same, two_same, three_same}
use Rattle.affc_quast.specs.Trees.{Tree, Test, Div, Source, Input}
use Rattle.serde_json.specs.Data.{Data}
use Rattle.serde_json.specs.Find.{as_array}
use Rattle.std.proofs.Common.{◌≡◌, List, [], ◌∷◌, ◌++◌, refl, sym, ap, ◌∙◌, append-nil, append_assoc}

-- ---- Trees

abbrev first_tree_kind : List Data → TreeKind
first_tree_kind [] = TreeKind.Other
first_tree_kind (d ∷ ds) = kind_in (as_array d)

abbrev TreesOne : (p q : Tree) → (xs ys : List Data) → Type 0
TreesOne p q xs ys = (p ≡ q) × (xs ≡ ys)

tree_begins : (p q : Tree) (xs ys : List Data) → tree_nodes_of p ++ xs ≡ tree_nodes_of q ++ ys → TreesOne p q xs ys
tree_begins (Test f a b) (Test g c d) xs ys e =
    let form = form_same f g (two_same _ _ _ _ (head_same _ _ _ _ e)) in
    let behind = sym (append_assoc (tree_nodes_of a) (tree_nodes_of b) xs) ∙ tail_same _ _ _ _ e ∙ append_assoc (tree_nodes_of c) (tree_nodes_of d) ys in
    let first = tree_begins a c (tree_nodes_of b ++ xs) (tree_nodes_of d ++ ys) behind in
    let second = tree_begins b d xs ys first.1 in
    (rw (form, first.0, second.0) refl, second.1)
tree_begins (Test f a b) (Div g by c) xs ys e = let other : TreeKind.Test ≡ TreeKind.Div = ap first_tree_kind e in absurd (cc)
tree_begins (Test f a b) (Source s gs) xs ys e = let other : TreeKind.Test ≡ TreeKind.Source = ap first_tree_kind e in absurd (cc)
tree_begins (Test f a b) Input xs ys e = let other : TreeKind.Test ≡ TreeKind.Input = ap first_tree_kind e in absurd (cc)
tree_begins (Div f by a) (Test g c d) xs ys e = let other : TreeKind.Div ≡ TreeKind.Test = ap first_tree_kind e in absurd (cc)
tree_begins (Div f by a) (Div g by' c) xs ys e =
    let same = three_same _ _ _ _ _ _ (head_same _ _ _ _ e) in
    let below = tree_begins a c xs ys (tail_same _ _ _ _ e) in
    (rw (form_same f g same.0, whole_same by by' same.1, below.0) refl, below.1)
tree_begins (Div f by a) (Source s gs) xs ys e = let other : TreeKind.Div ≡ TreeKind.Source = ap first_tree_kind e in absurd (cc)
tree_begins (Div f by a) Input xs ys e = let other : TreeKind.Div ≡ TreeKind.Input = ap first_tree_kind e in absurd (cc)
tree_begins (Source s fs) (Test g c d) xs ys e = let other : TreeKind.Source ≡ TreeKind.Test = ap first_tree_kind e in absurd (cc)
tree_begins (Source s fs) (Div g by' c) xs ys e = let other : TreeKind.Source ≡ TreeKind.Div = ap first_tree_kind e in absurd (cc)
tree_begins (Source s fs) (Source s' gs) xs ys e =
    let same = three_same _ _ _ _ _ _ (head_same _ _ _ _ e) in
    (rw (natural_same s s' same.0, forms_same fs gs same.1) refl, tail_same _ _ _ _ e)
tree_begins (Source s fs) Input xs ys e = let other : TreeKind.Source ≡ TreeKind.Input = ap first_tree_kind e in absurd (cc)
tree_begins Input (Test g c d) xs ys e = let other : TreeKind.Input ≡ TreeKind.Test = ap first_tree_kind e in absurd (cc)
tree_begins Input (Div g by' c) xs ys e = let other : TreeKind.Input ≡ TreeKind.Div = ap first_tree_kind e in absurd (cc)
tree_begins Input (Source s' gs) xs ys e = let other : TreeKind.Input ≡ TreeKind.Source = ap first_tree_kind e in absurd (cc)
tree_begins Input Input xs ys e = (refl, tail_same _ _ _ _ e)

pub tree_same : (p q : Tree) → tree_value p ≡ tree_value q → p ≡ q
tree_same p q e = (tree_begins p q [] [] (append-nil (tree_nodes_of p) ∙ list_same (tree_nodes_of p) (tree_nodes_of q) e ∙ sym (append-nil (tree_nodes_of q)))).0
