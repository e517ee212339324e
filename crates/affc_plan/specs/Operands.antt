-- The operands of an expression as forms, where each is slight.
use Rattle.std.specs.Prelude.{◌≡◌, ℕ, ℤ, pos, negsuc, Bool, true, false, ◌||◌, if◌then◌else◌, List, [], ◌∷◌, length, replicate, Option, Some, None}
use Rattle.affc_rows.specs.Forms.{Affine, mixed_form}
use Rattle.affc_trace.specs.Target.{all_slight}
use Rattle.affc_domain.specs.Affine.{unit_of, product_form}
use Rattle.affc_grammar.specs.Draft.{IxDraft, literal, name, negated, sum, difference, product, grouped, chosen, divided}
use Rattle.affc_schedtext.specs.Rules.{Columns, column_named}
use Rattle.affc_schedtext.specs.declared.terms.Step.{Step}
use Rattle.affc_schedtext.specs.declared.terms.Step.TheVariants as s
use Rattle.affc_plan.specs.declared.operands.Operand.{Operand}

abbrev pub is_slight : Affine → Bool
is_slight f = all_slight (f ∷ [])

-- a form, if it is slight, and whether names stand in it
abbrev pub kept : Bool → Affine → Option Operand
kept named form = if is_slight form then Some (record { named = named; form = form }) else None

abbrev pub mixture : ℤ → Option Operand → ℤ → Option Operand → Option Operand
mixture s None t b = None
mixture s (Some a) t None = None
mixture s (Some a) t (Some b) = kept (a.named || b.named) (mixed_form s a.form t b.form)

abbrev pub multiple : Option Operand → Option Operand → Option Operand
multiple None b = None
multiple (Some a) None = None
multiple (Some a) (Some b) = kept (a.named || b.named) (product_form a.named a.form b.form)

-- an expression over these columns; nothing where an operand isn't slight
abbrev pub operand_of : Columns → IxDraft → Option Operand
operand_of c (literal at n) = kept false (record { coefs = replicate c.count (pos 0); constant = pos n })
operand_of c (name at w) = kept true (record { coefs = unit_of c.count (column_named (c.scope w)); constant = pos 0 })
operand_of c (negated at a) = mixture (negsuc 0) (operand_of c a) (pos 0) (operand_of c a)
operand_of c (sum a b) = mixture (pos 1) (operand_of c a) (pos 1) (operand_of c b)
operand_of c (difference a b) = mixture (pos 1) (operand_of c a) (negsuc 0) (operand_of c b)
operand_of c (product at a b) = multiple (operand_of c a) (operand_of c b)
operand_of c (grouped at a) = operand_of c a
operand_of c (chosen at f a b) = None
operand_of c (divided at f a by_at by) = None

-- an operand has a slight form over so many columns
abbrev pub IsOperandOver : ℕ → Option Operand → Type 0
IsOperandOver n None = Unit {0}
IsOperandOver n (Some a) = (is_slight a.form ≡ true) × (length a.form.coefs ≡ n)

-- ---- Steps, with what is found of the operands that are left for them, the last one first

abbrev pub top : List (Option Operand) → Option Operand
top [] = None
top (a ∷ rest) = a

abbrev pub below : List (Option Operand) → List (Option Operand)
below [] = []
below (a ∷ rest) = rest

abbrev pub opposite_last : List (Option Operand) → List (Option Operand)
opposite_last rest = mixture (negsuc 0) (top rest) (pos 0) (top rest) ∷ below rest

abbrev pub sum_last : ℤ → List (Option Operand) → List (Option Operand)
sum_last t rest = mixture (pos 1) (top (below rest)) t (top rest) ∷ below (below rest)

abbrev pub product_last : List (Option Operand) → List (Option Operand)
product_last rest = multiple (top (below rest)) (top rest) ∷ below (below rest)

abbrev pub found : Columns → Step → List (Option Operand) → List (Option Operand)
found c (s.Literal at n) rest = operand_of c (literal at n) ∷ rest
found c (s.Name at w) rest = operand_of c (name at w) ∷ rest
found c (s.Negated at) rest = opposite_last rest
found c s.Sum rest = sum_last (pos 1) rest
found c s.Difference rest = sum_last (negsuc 0) rest
found c (s.Product at) rest = product_last rest
found c (s.Grouped at) rest = top rest ∷ below rest

abbrev pub found_all : Columns → List Step → List (Option Operand) → List (Option Operand)
found_all c [] rest = rest
found_all c (s ∷ ss) rest = found_all c ss (found c s rest)
