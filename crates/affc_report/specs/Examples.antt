-- Forms, trees and folds as text, each written by hand.
use Rattle.std.specs.Prelude.{◌≡◌, ℕ, ◌^◌, ℤ, pos, negsuc, Bool, true, false, ◌∷◌, [], codes, List, Option, Some, None, Vec}
use Rattle.std.specs.declared.alloc.Global.{Global}
use Rattle.affc_rows.specs.Forms.{Affine}
use Rattle.affc_system.specs.Systems.{Rows}
use Rattle.affc_farkas.specs.declared.pair.Pair.{Pair}
use Rattle.affc_loopends.specs.declared.bounds.Why.TheVariants.{Made, Wide, Large, Nine}
use Rattle.affc_ast.specs.declared.tree.ArrayId.{ArrayId}
use Rattle.affc_basis.specs.declared.fold.Mark.TheVariants.{Least, Bound}
use Rattle.affc_basis.specs.declared.fold.Modulus.{Modulus}
use Rattle.affc_basis.specs.declared.fold.Fold.{Fold}
use Rattle.affc_basis.specs.Listed.{shape_of, columns, square}
use Rattle.affc_grammar.specs.Grammar.{Name}
use Rattle.affc_nest.specs.declared.nest.Access.{Access}
use Rattle.affc_nest.specs.declared.nest.Entry.{Entry}
use Rattle.affc_nest.specs.declared.nest.Nest.{Nest}
use Rattle.affc_quast.specs.Trees.{Tree, Test, Div, Source, Input}
use Rattle.affc_schedtext.specs.declared.outline.ArrayOutline.{ArrayOutline}
use Rattle.affc_schedtext.specs.declared.outline.Outline.{Outline}
use Rattle.affc_report.specs.Forms.{form_text, named_form}
use Rattle.affc_report.specs.Trees.{tree_text, flow_text}
use Rattle.affc_weigh.specs.declared.choice.Choice.{Choice}
use Rattle.affc_weigh.specs.declared.choice.Price.{Price}
use Rattle.affc_report.specs.Loose.{all_loose_text}
use Rattle.affc_report.specs.Folds.{mark_text, moduli_text, basis_text, choice_text, fold_report}

abbrev form : List ℤ → ℤ → Affine
form cs k = record { coefs = cs; constant = k }

abbrev pub FormsAreWritten : Type 0
FormsAreWritten = (form_text [] (pos 0) ≡ codes "0")
    × (form_text ((pos 0, codes "i") ∷ []) (negsuc 2) ≡ codes "-3")
    × (form_text ((pos 1, codes "i") ∷ (negsuc 0, codes "N") ∷ []) (pos 1) ≡ codes "i - N + 1")
    × (form_text ((negsuc 0, codes "i") ∷ (pos 0, codes "j") ∷ (pos 3, codes "N") ∷ []) (negsuc 0) ≡ codes "-i + 3 * N - 1")
    × (form_text ((pos 0, codes "i") ∷ (negsuc 1, codes "j") ∷ (negsuc 4, codes "N") ∷ []) (pos 0) ≡ codes "-(2 * j) - 5 * N")

-- a column without a name is left out
abbrev pub NamesAreWritten : Type 0
NamesAreWritten = named_form (codes "N" ∷ codes "M" ∷ []) (form (pos 1 ∷ pos 2 ∷ pos 3 ∷ []) (pos 4)) ≡ codes "N + 2 * M + 4"

-- over N, i: S0(i - 1) where i is at least 1, and else S1 at the half of i + N + 1
abbrev tree : Tree
tree =
    Test (form (pos 0 ∷ pos 1 ∷ []) (negsuc 0))
    (Source 0 (form (pos 0 ∷ pos 1 ∷ []) (negsuc 0) ∷ []))
    (Div (form (pos 1 ∷ pos 1 ∷ []) (pos 1)) (pos 2) (Source 1 (form (pos 1 ∷ pos 2 ∷ pos 1 ∷ []) (pos 0) ∷ form (pos 0 ∷ pos 0 ∷ pos 0 ∷ []) (pos 0) ∷ [])))

abbrev pub TreesAreWritten : Type 0
TreesAreWritten = (tree_text (codes "N" ∷ []) (codes "i" ∷ []) 1 0 tree
    ≡ codes "  test i - 1 >= 0\n    source S0(i - 1)\n    div q0 = floor((i + N + 1) / 2)\n      source S1(2 * i + N + q0, 0)\n")
    × (tree_text [] [] 1 0 Input ≡ codes "  input\n")
    × (tree_text [] [] 1 0 (Source 3 []) ≡ codes "  source S3()\n")

-- ---- Loads

abbrev array : (is_temporary : Bool) → (dimensions : ℕ) → Name → ArrayOutline
array is_temporary dimensions name = record { name = name; dimensions = dimensions; is_temporary = is_temporary }

-- over N, two statements with an iterator each
abbrev outline : Outline
outline = record { parameters = codes "N" ∷ []; statements = (codes "i" ∷ []) ∷ (codes "j" ∷ []) ∷ []; arrays = array false 1 (codes "in") ∷ array true 1 (codes "t") ∷ [] }

abbrev access : ℕ → Access
access array = record { array = record { 0 = array }; subs = [] }

abbrev entry : (statement : ℕ) → List Access → Entry
entry statement accesses = record { part = statement; statement = statement; alive = true; loops = []; domain = record { columns = 0; rows = [] }; ranges = []; accesses = accesses }

-- t = in; and t = t + in;
abbrev nest : Nest
nest = record { params = []; context = record { columns = 0; rows = [] }; arrays = []; entries = entry 0 (access 0 ∷ access 1 ∷ []) ∷ entry 1 (access 1 ∷ access 0 ∷ access 1 ∷ []) ∷ [] }

abbrev pub LoadsAreWritten : Type 0
LoadsAreWritten = flow_text outline nest (Input ∷ Source 0 (form (pos 0 ∷ pos 1 ∷ []) (pos 0) ∷ []) ∷ Input ∷ [])
    ≡ codes "S0 load 0 in\n  input\nS1 load 0 t\n  source S0(j)\nS1 load 1 in\n  input\n"

-- ---- Folds

abbrev n_and_m : List Name
n_and_m = codes "N" ∷ codes "M" ∷ []

abbrev pair : Option (List ℤ × List ℤ)
pair = Some (pos 0 ∷ negsuc 0 ∷ [], pos 2 ∷ pos 3 ∷ [])

abbrev pub MarksAreWritten : Type 0
MarksAreWritten = (mark_text n_and_m (Least (pos 4 ∷ negsuc 6 ∷ []) pair) ≡ codes " least at N=4 M=-7 pair (0, -1) (2, 3)")
    × (mark_text [] (Least [] (Some (pos 0 ∷ [], pos 2 ∷ []))) ≡ codes " least pair (0) (2)")
    × (mark_text (codes "N" ∷ []) (Least (pos 4 ∷ []) None) ≡ codes " least at N=4 no pair")
    × (mark_text [] (Least [] None) ≡ codes " least no pair")
    × (mark_text n_and_m Bound ≡ codes " bound")
    × (mark_text n_and_m (Least (pos 4 ∷ []) None) ≡ codes " least at N=4 no pair")
    × (mark_text (codes "N" ∷ []) (Least (pos 4 ∷ pos 7 ∷ []) None) ≡ codes " least at N=4 no pair")

-- N - 3 M + 1, and 1
abbrev moduli : List Modulus
moduli = record { form = form (pos 1 ∷ negsuc 2 ∷ []) (pos 1); mark = Least (pos 4 ∷ pos 7 ∷ []) pair } ∷ record { form = form (pos 0 ∷ pos 0 ∷ []) (pos 1); mark = Bound } ∷ []

abbrev pub ModuliAreWritten : Type 0
ModuliAreWritten = moduli_text n_and_m 0 moduli ≡ codes "  modulus 0: N - 3 * M + 1 least at N=4 M=7 pair (0, -1) (2, 3)\n  modulus 1: 1 bound\n"

abbrev pub BasesAreWritten : Type 0
BasesAreWritten = (basis_text (form (pos 1 ∷ negsuc 1 ∷ []) (pos 0) ∷ form (pos 0 ∷ pos 1 ∷ []) (pos 0) ∷ []) ≡ codes "  basis (x0 - 2 * x1, x1)\n")
    × (basis_text (form (pos 0 ∷ negsuc 0 ∷ pos 1 ∷ []) (pos 0) ∷ []) ≡ codes "  basis (-x1 + x2)\n")
    × (basis_text [] ≡ codes "  basis ()\n")

-- two parameters' arrays, a temporary of two dimensions, one of one and one of none
abbrev folded : Outline
folded = record {
  parameters = n_and_m;
  statements = [];
  arrays = array false 2 (codes "in") ∷ array false 2 (codes "out") ∷ array true 2 (codes "t") ∷ array true 1 (codes "u") ∷ array true 0 (codes "s") ∷ [];
}

abbrev fold_at : ℕ → Fold → ArrayId × Fold
fold_at array fold = (record { 0 = array }, fold)

abbrev choice_at : ℕ → Choice → ArrayId × Choice
choice_at array choice = (record { 0 = array }, choice)

abbrev price : List ℕ → ℕ → Option Price
price values cost = Some (record { values = values; cost = cost })

-- a cost that 64 bits don't hold, the first and the third of four bases, and no other bases
abbrev pub ChoicesAreWritten : Type 0
ChoicesAreWritten = (choice_text (Some (record { cost = 2 ^ 64; number = 3; prices = price (2 ∷ 100 ∷ []) 200 ∷ None ∷ price [] 1 ∷ None ∷ [] }))
    ≡ codes "  cost 18446744073709551616\n  rival 0: 2 100 cost 200\n  rival 1: budget\n  rival 2: cost 1\n")
    × (choice_text (Some (record { cost = 7; number = 0; prices = [] })) ≡ codes "  cost 7\n")
    × (choice_text None ≡ [])

-- a line for each cause, in the order of the list
abbrev pub LooseAreWritten : Type 0
LooseAreWritten = (asked : Option Rows) (made : Vec Pair Global) (next : Pair) (row : Affine) (rows : Vec Affine Global)
    → all_loose_text
    (record { statement = 0; component = 11; why = Made asked made }
    ∷ record { statement = 2; component = 0; why = Wide asked made next }
    ∷ record { statement = 2; component = 1; why = Large row }
    ∷ record { statement = 63; component = 0; why = Nine rows }
    ∷ [])
    ≡ codes "loose S0 component 11 made\nloose S2 component 0 wide\nloose S2 component 1 large\nloose S63 component 0 nine\n"

-- The first has a fold over the listed basis (x0 + x1, x1), the last one without rows, and the other none. No other array is told
-- of. Of the costs only that of the first is known. One component is loose.
abbrev pub FoldsAreWritten : Type 0
FoldsAreWritten = (skewed empty : Fold) (rows : Vec Affine Global) → shape_of skewed.basis ≡ square (pos 1) (pos 1) (pos 0) (pos 1) (pos 1) (negsuc 0) (pos 0) (pos 1) → skewed.moduli ≡ moduli
    → shape_of empty.basis ≡ columns [] → empty.moduli ≡ []
    → fold_report folded (fold_at 4 empty ∷ fold_at 1 empty ∷ fold_at 2 skewed ∷ []) (choice_at 3 (record { cost = 8; number = 0; prices = [] }) ∷ choice_at 2 (record { cost = 5; number = 1; prices = price (9 ∷ []) 9 ∷ price [] 5 ∷ [] }) ∷ [])
    (record { statement = 1; component = 0; why = Nine rows } ∷ [])
    ≡ codes "array t\n  basis (x0 + x1, x1)\n  modulus 0: N - 3 * M + 1 least at N=4 M=7 pair (0, -1) (2, 3)\n  modulus 1: 1 bound\n  cost 5\n  rival 0: 9 cost 9\narray u\n  whole budget\narray s\n  basis ()\nloose S1 component 0 nine\n"
