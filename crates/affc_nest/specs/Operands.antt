-- The operands of an index expression as forms, where each is affine and small.
use Rattle.std.specs.Prelude.{◌≡◌, ℕ, ℤ, pos, negsuc, Bool, true, false, ◌&&◌, ◌||◌, IsTrue, if◌then◌else◌, length, replicate, Option, Some, None}
use Rattle.affc_rows.specs.Forms.{Affine, mixed_form}
use Rattle.affc_ast.specs.declared.tree.Ix.{Ix}
use Rattle.affc_ast.specs.declared.tree.Ix.TheOpen.{Ix-F, Lit, Name, Neg, Add, Sub, Mul, Min, Max, Floord, Ceild, Mod}
use Rattle.affc_ast.specs.Recursion.{by_ix}
use Rattle.affc_domain.specs.Affine.{unit_of, is_small, product_form}
use Rattle.affc_nest.specs.declared.forms.Operand.{Operand}

-- a form, if it is small
abbrev pub kept : Bool → Affine → Option Operand
kept named form = if is_small form then Some (record { named = named; form = form }) else None

abbrev pub mixture : ℤ → Option Operand → ℤ → Option Operand → Option Operand
mixture s None t b = None
mixture s (Some a) t None = None
mixture s (Some a) t (Some b) = kept (a.named || b.named) (mixed_form s a.form t b.form)

abbrev pub multiple : Option Operand → Option Operand → Option Operand
multiple None b = None
multiple (Some a) None = None
multiple (Some a) (Some b) = if a.named && b.named then None else kept (a.named || b.named) (product_form a.named a.form b.form)

abbrev pub operand_step : (names : ℕ) → Ix-F (Option Operand) → Option Operand
operand_step names (Lit n) = kept false (record { coefs = replicate names (pos 0); constant = n })
operand_step names (Name x) = kept true (record { coefs = unit_of names x.0; constant = pos 0 })
operand_step names (Neg a) = mixture (negsuc 0) a (pos 0) a
operand_step names (Add a b) = mixture (pos 1) a (pos 1) b
operand_step names (Sub a b) = mixture (pos 1) a (negsuc 0) b
operand_step names (Mul a b) = multiple a b
operand_step names (Min a b) = None
operand_step names (Max a b) = None
operand_step names (Floord a n) = None
operand_step names (Ceild a n) = None
operand_step names (Mod a b) = None

-- an expression over so many names in sight: its form, and whether it holds names; nothing where an operand isn't affine or isn't small
abbrev pub operand_of : (names : ℕ) → Ix → Option Operand
operand_of names = by_ix (operand_step names)

-- an operand has a small form over so many columns
abbrev pub IsOperandOver : ℕ → Option Operand → Type 0
IsOperandOver n None = Unit {0}
IsOperandOver n (Some a) = IsTrue (is_small a.form) × (length a.form.coefs ≡ n)
