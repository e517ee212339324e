-- The columns of trees in a certificate's text: there the iterators stand first, and then the parameters.
use Rattle.std.specs.Prelude.{◌≡◌, ℕ, ◌-◌, List, [], ◌∷◌, ◌++◌, map, take, drop}
use Rattle.affc_rows.specs.Forms.{Affine}
use Rattle.affc_quast.specs.Trees.{Tree, Test, Div, Source, Input}
use Rattle.affc_cert.specs.Certificates.{Certificate}
use Rattle.affc_cert.specs.Within.{IsWithin}
use Rattle.affc_cert.specs.declared.layout.Layout.{Layout}
use Rattle.affc_cert.specs.declared.tree.layout.Load.{Load}

-- so many elements at the head, behind so many that follow them
abbrev pub exchanged : {A : Type 0} → (first second : ℕ) → List A → List A
exchanged first second xs = take second (drop first xs) ++ (take first xs ++ drop second (drop first xs))

abbrev pub form_exchanged : (first second : ℕ) → Affine → Affine
form_exchanged first second f = record f { coefs = exchanged first second f.coefs }

-- the tree with its forms' columns exchanged so; the quotients stay behind them
abbrev pub tree_exchanged : (first second : ℕ) → Tree → Tree
tree_exchanged first second (Test f on off) = Test (form_exchanged first second f) (tree_exchanged first second on) (tree_exchanged first second off)
tree_exchanged first second (Div f by rest) = Div (form_exchanged first second f) by (tree_exchanged first second rest)
tree_exchanged first second (Source s forms) = Source s (map (form_exchanged first second) forms)
tree_exchanged first second Input = Input

-- the coordinates of a load's part, where there are so many parameters
abbrev pub iterators_of : (parameters : ℕ) → Load → ℕ
iterators_of parameters load = load.columns - parameters

-- the trees of these loads as the text has them
abbrev pub trees_in_text : (parameters : ℕ) → List Load → List Tree → List Tree
trees_in_text parameters [] trees = trees
trees_in_text parameters (load ∷ loads) [] = []
trees_in_text parameters (load ∷ loads) (tree ∷ trees) = tree_exchanged parameters (iterators_of parameters load) tree ∷ trees_in_text parameters loads trees

-- and the other way
abbrev pub trees_from_text : (parameters : ℕ) → List Load → List Tree → List Tree
trees_from_text parameters [] trees = trees
trees_from_text parameters (load ∷ loads) [] = []
trees_from_text parameters (load ∷ loads) (tree ∷ trees) = tree_exchanged (iterators_of parameters load) parameters tree ∷ trees_from_text parameters loads trees

-- the certificate as its text has it, and the one that a text has so
abbrev pub in_text : Layout → Certificate → Certificate
in_text layout c = record c { trees = trees_in_text layout.parameters layout.loads c.trees }

abbrev pub from_text : Layout → Certificate → Certificate
from_text layout c = record c { trees = trees_from_text layout.parameters layout.loads c.trees }

-- Of certificates within the limits each undoes the other.
abbrev pub ColumnsComeBack : Type 0
ColumnsComeBack = (layout : Layout) (c : Certificate) → IsWithin layout c → (in_text layout (from_text layout c) ≡ c) × (from_text layout (in_text layout c) ≡ c)
