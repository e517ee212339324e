-- Folds of temporaries as text: each temporary's name, the rows of its basis, its moduli with what is known of them, and what
-- its fold and the other bases cost. Then the components of times that have no ends, and why.
use Rattle.std.specs.Prelude.{ℕ, suc, ℤ, nat_eq, if◌then◌else◌, List, [], ◌∷◌, ◌++◌, codes, decimal, Option, Some, None}
use Rattle.std.specs.Fmt.{signed_decimal}
use Rattle.std.specs.List.{join_by}
use Rattle.affc_rows.specs.Forms.{Affine}
use Rattle.affc_ast.specs.declared.tree.ArrayId.{ArrayId}
use Rattle.affc_basis.specs.declared.fold.Mark.{Mark}
use Rattle.affc_basis.specs.declared.fold.Mark.TheVariants.{Least, Bound}
use Rattle.affc_basis.specs.declared.fold.Modulus.{Modulus}
use Rattle.affc_basis.specs.declared.fold.Fold.{Fold}
use Rattle.affc_basis.specs.Folds.{fold_of}
use Rattle.affc_loopends.specs.declared.scanned.scanned.Loose.{Loose}
use Rattle.affc_weigh.specs.declared.choice.Choice.{Choice}
use Rattle.affc_weigh.specs.declared.choice.Price.{Price}
use Rattle.affc_weigh.specs.Choices.{choice_of}
use Rattle.affc_grammar.specs.Grammar.{Name}
use Rattle.affc_schedtext.specs.declared.outline.ArrayOutline.{ArrayOutline}
use Rattle.affc_schedtext.specs.declared.outline.Outline.{Outline}
use Rattle.affc_report.specs.Forms.{named_form, row_text}
use Rattle.affc_report.specs.Loose.{all_loose_text}

-- ---- What is known of a modulus

-- ` N=4 M=7`
abbrev pub values_text : (parameters : List Name) → (p : List ℤ) → List ℕ
values_text (w ∷ ws) (v ∷ vs) = codes " " ++ w ++ codes "=" ++ signed_decimal v ++ values_text ws vs
values_text _ _ = []

-- ` at N=4 M=7`, and nothing where there are no parameters
abbrev pub at_text : (parameters : List Name) → (p : List ℤ) → List ℕ
at_text [] p = []
at_text (w ∷ ws) p = codes " at" ++ values_text (w ∷ ws) p

-- `(0, 1)`
abbrev pub element_text : List ℤ → List ℕ
element_text x = codes "(" ++ join_by signed_decimal (codes ", ") x ++ codes ")"

abbrev pub pair_text : Option (List ℤ × List ℤ) → List ℕ
pair_text None = codes " no pair"
pair_text (Some pair) = codes " pair " ++ element_text pair.0 ++ codes " " ++ element_text pair.1

abbrev pub mark_text : (parameters : List Name) → Mark → List ℕ
mark_text ps (Least p pair) = codes " least" ++ at_text ps p ++ pair_text pair
mark_text ps Bound = codes " bound"

-- ---- Folds

-- `  modulus 0: N + 2 bound`; its form is over the parameters
abbrev pub modulus_text : (parameters : List Name) → (number : ℕ) → Modulus → List ℕ
modulus_text ps k m = codes "  modulus " ++ decimal k ++ codes ": " ++ named_form ps m.form ++ mark_text ps m.mark ++ codes "\n"

-- with numbers from this one on
abbrev pub moduli_text : (parameters : List Name) → (number : ℕ) → List Modulus → List ℕ
moduli_text ps k [] = []
moduli_text ps k (m ∷ ms) = modulus_text ps k m ++ moduli_text ps (suc k) ms

-- `  basis (x0, x0 + x1)`
abbrev pub basis_text : (rows : List Affine) → List ℕ
basis_text rows = codes "  basis (" ++ join_by row_text (codes ", ") rows ++ codes ")\n"

-- ---- Costs

-- each number behind a space
abbrev pub numbers_text : List ℕ → List ℕ
numbers_text [] = []
numbers_text (n ∷ ns) = codes " " ++ decimal n ++ numbers_text ns

-- ` 2 100 cost 200`
abbrev pub price_text : Option Price → List ℕ
price_text None = codes " budget"
price_text (Some price) = numbers_text price.values ++ codes " cost " ++ decimal price.cost

-- `  rival 0: 2 100 cost 200`
abbrev pub rival_text : (number : ℕ) → Option Price → List ℕ
rival_text j price = codes "  rival " ++ decimal j ++ codes ":" ++ price_text price ++ codes "\n"

-- the prices from this number on, but for that of the chosen basis
abbrev pub rivals_text : (chosen number : ℕ) → List (Option Price) → List ℕ
rivals_text chosen j [] = []
rivals_text chosen j (price ∷ prices) = (if nat_eq j chosen then [] else rival_text j price) ++ rivals_text chosen (suc j) prices

-- `  cost 101`, and what the other listed bases come to; nothing where nothing is known of costs
abbrev pub choice_text : Option Choice → List ℕ
choice_text None = []
choice_text (Some choice) = codes "  cost " ++ decimal choice.cost ++ codes "\n" ++ rivals_text choice.number 0 choice.prices

-- ---- Temporaries

abbrev pub whole_text : List ℕ
whole_text = codes "  whole budget\n"

-- the lines below a temporary's name; it is left whole where it has no fold
abbrev pub fold_text : (parameters : List Name) → Option Fold → Option Choice → List ℕ
fold_text ps None choice = whole_text
fold_text ps (Some fold) choice = basis_text fold.basis.rows ++ moduli_text ps 0 fold.moduli ++ choice_text choice

abbrev pub temporary_text : (parameters : List Name) → Name → Option Fold → Option Choice → List ℕ
temporary_text ps name fold choice = codes "array " ++ name ++ codes "\n" ++ fold_text ps fold choice

-- the temporaries among these arrays, which have the numbers from this one on
abbrev pub temporaries_text : (parameters : List Name) → List (ArrayId × Fold) → List (ArrayId × Choice) → (number : ℕ) → List ArrayOutline → List ℕ
temporaries_text ps folds choices n [] = []
temporaries_text ps folds choices n (a ∷ arrays) =
    (if a.is_temporary then temporary_text ps a.name (fold_of folds n) (choice_of choices n) else []) ++ temporaries_text ps folds choices (suc n) arrays

-- ---- The report

-- of each temporary, in order of declaration, and then of each component that is loose
abbrev pub fold_report : Outline → List (ArrayId × Fold) → List (ArrayId × Choice) → List Loose → List ℕ
fold_report o folds choices loose = temporaries_text o.parameters folds choices 0 o.arrays ++ all_loose_text loose
