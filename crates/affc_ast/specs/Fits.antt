-- Which data a program takes, and what it gives back.
use Rattle.std.specs.Prelude.{◌≡◌, ℕ, ◌^◌, ◌<◌, ℤ, pos, ◌+ℤ◌, ◌-ℤ◌, ◌*ℤ◌, neg_ℤ, Bool, true, false, ◌&&◌, ◌||◌, IsTrue, int_le, is_some, List, [], ◌∷◌, get_or, Option, Some, None, Ok, Err, Result, slice_get, filter}
use Rattle.std.specs.Int.{int_max, int_min}
use Rattle.std.specs.FinMap.Entries.{is_sorted}
use Rattle.affc_ast.specs.declared.tree.Compare.{Compare}
use Rattle.affc_ast.specs.declared.tree.Cond.{Cond}
use Rattle.affc_ast.specs.declared.tree.Cond.TheOpen as cond
use Rattle.affc_ast.specs.declared.tree.Cond.TheOpen.{Cond-F}
use Rattle.affc_ast.specs.declared.tree.Decl.{Decl}
use Rattle.affc_ast.specs.declared.tree.Ix.{Ix}
use Rattle.affc_ast.specs.declared.tree.Ix.TheOpen.{Ix-F, Lit, Name, Neg, Add, Sub, Mul, Min, Max, Floord, Ceild, Mod}
use Rattle.affc_ast.specs.declared.tree.Param.{Param}
use Rattle.affc_ast.specs.declared.tree.Param.TheVariants.{Number, Array}
use Rattle.affc_ast.specs.declared.tree.Program.{Program}
use Rattle.affc_ast.specs.declared.tree.Role.{Role}
use Rattle.affc_ast.specs.declared.tree.Role.TheVariants.{Output}
use Rattle.affc_ast.specs.Cause.{Cause}
use Rattle.affc_ast.specs.Index.{floor_of, ceiling_of, remainder_of, compares}
use Rattle.affc_ast.specs.Meaning.{extents_of, arrays_of}
use Rattle.affc_ast.specs.Conditions.{divides, is_so}
use Rattle.affc_ast.specs.Recursion.{by_ix, by_cond}
use Rattle.affc_ast.specs.Store.{Element, Store, element_cmp, at}
use Rattle.affc_ast.specs.Values.{is_within}

-- ---- Expressions read as whole numbers without limit

-- an expression's value, and whether it has one: each divisor in it is at least 1
pub record Whole : Type 0 where
  pub value : ℤ
  pub defined : Bool

abbrev pub whole_on_one : (ℤ → ℤ) → Whole → Whole
whole_on_one f a = record { value = f a.value; defined = a.defined }

abbrev pub whole_on_both : (ℤ → ℤ → ℤ) → Whole → Whole → Whole
whole_on_both f a b = record { value = f a.value b.value; defined = a.defined && b.defined }

abbrev pub is_divisor : ℤ → Bool
is_divisor n = int_le (pos 1) n

abbrev pub whole_step : Ix-F (List ℤ → Whole) → List ℤ → Whole
whole_step (Lit n) names = record { value = n; defined = true }
whole_step (Name x) names = record { value = get_or names x.0 (pos 0); defined = true }
whole_step (Neg a) names = whole_on_one neg_ℤ (a names)
whole_step (Add a b) names = whole_on_both ◌+ℤ◌ (a names) (b names)
whole_step (Sub a b) names = whole_on_both ◌-ℤ◌ (a names) (b names)
whole_step (Mul a b) names = whole_on_both ◌*ℤ◌ (a names) (b names)
whole_step (Min a b) names = whole_on_both int_min (a names) (b names)
whole_step (Max a b) names = whole_on_both int_max (a names) (b names)
whole_step (Floord a n) names = record { value = floor_of (a names).value n; defined = (a names).defined && is_divisor n }
whole_step (Ceild a n) names = record { value = ceiling_of (a names).value n; defined = (a names).defined && is_divisor n }
whole_step (Mod a b) names = record {
  value = remainder_of (a names).value (b names).value;
  defined = (a names).defined && (b names).defined && is_divisor (b names).value;
}

abbrev pub whole_of : Ix → (names : List ℤ) → Whole
whole_of = by_ix whole_step

abbrev pub whole : Ix → (names : List ℤ) → ℤ
whole e names = (whole_of e names).value

abbrev pub holds : Compare → (names : List ℤ) → Bool
holds c names = compares c.rel (whole c.left names) (whole c.right names)

abbrev pub all_hold : List Compare → (names : List ℤ) → Bool
all_hold [] names = true
all_hold (c ∷ cs) names = holds c names && all_hold cs names

-- ---- Conditions

abbrev pub all_true : List Bool → Bool
all_true [] = true
all_true (b ∷ bs) = b && all_true bs

abbrev pub some_true : List Bool → Bool
some_true [] = false
some_true (b ∷ bs) = b || some_true bs

abbrev pub truth_step : (names : List ℤ) → Cond-F Bool → Bool
truth_step names (cond.Compare rel left right) = compares rel (whole left names) (whole right names)
truth_step names (cond.All bs) = all_true bs
truth_step names (cond.Any bs) = some_true bs
truth_step names (cond.Divides value by so) = is_so so (divides by (whole value names))

-- whether a condition is true
abbrev pub is_true_at : Cond → (names : List ℤ) → Bool
is_true_at c names = by_cond (truth_step names) c

-- ---- Data that fit

-- each condition's sides have a value, and it holds
abbrev pub meets : List Compare → (p : List ℤ) → Bool
meets [] p = true
meets (c ∷ cs) p = (whole_of c.left p).defined && (whole_of c.right p).defined && holds c p && meets cs p

-- one number for each number parameter, within its range
abbrev pub within_ranges : List Param → (p : List ℤ) → Bool
within_ranges [] [] = true
within_ranges (Number name low high ∷ ps) (x ∷ xs) = int_le low x && int_le x high && within_ranges ps xs
within_ranges (Array decl ∷ ps) xs = within_ranges ps xs
within_ranges _ _ = false

-- An array has an element where each subscript lies within its extent. With an extent that is below 1, or that
-- can't be read in `int64_t`, it has no elements.
abbrev pub lies_in : (subscripts : List ℤ) → Result (List ℤ) Cause → Bool
lies_in subscripts (Ok extents) = is_within subscripts extents
lies_in subscripts (Err cause) = false

abbrev pub has_element : Option Decl → Element → (p : List ℤ) → Bool
has_element None x p = false
has_element (Some d) x p = lies_in x.1 (extents_of x.0 d.extents 0 p)

-- p lies in the declared ranges and meets the context, and the store has exactly the elements of the array
-- parameters, each with a value of `uint64_t`.
pub record Fits (program : Program) (p : List ℤ) (store : Store) : Type 0 where
  pub ranges : IsTrue (within_ranges program.params p)
  pub context : IsTrue (meets program.context p)
  pub ordered : IsTrue (is_sorted element_cmp store)
  pub exactly : (x : Element) → is_some (at store x) ≡ has_element (slice_get (arrays_of program.params) x.0) x p
  pub values : (x : Element) (v : ℕ) → at store x ≡ Some v → v < 2 ^ 64

-- ---- Outputs

abbrev pub is_output_role : Role → Bool
is_output_role Output = true
is_output_role _ = false

abbrev pub is_output : Option Decl → Bool
is_output (Some d) = is_output_role d.role
is_output None = false

-- what the arrays of role `Output` hold
abbrev pub outputs : Program → Store → Store
outputs program store = filter (λ e. is_output (slice_get (arrays_of program.params) e.0.0)) store
