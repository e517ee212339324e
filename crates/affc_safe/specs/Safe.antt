-- What a run that ends comes to, as facts of the instances: extents, accesses and sources.
use Rattle.std.specs.Prelude.{◌≡◌, ◌≤◌, nat_lt, ℤ, pos, ◌≤ℤ◌, int_le, Bool, true, ◌||◌, is_some, List, [], length, get_or, Some}
use Rattle.std.specs.List.{list_all}
use Rattle.affc_ast.specs.declared.tree.Decl.{Decl}
use Rattle.affc_ast.specs.declared.tree.Instance.{Instance}
use Rattle.affc_ast.specs.declared.tree.Ix.{Ix}
use Rattle.affc_ast.specs.declared.tree.Program.{Program}
use Rattle.affc_ast.specs.Fits.{whole}
use Rattle.affc_ast.specs.Meaning.{arrays_of}
use Rattle.affc_ast.specs.Store.{Element}
use Rattle.affc_ast.specs.Trace.{trace, events, loads_of}
use Rattle.affc_ast.specs.Values.{is_within}
use Rattle.affc_trace.specs.Law.{IsIn}
use Rattle.affc_trace.specs.Orders.{Touches}
use Rattle.affc_trace.specs.Effects.{effect}
use Rattle.affc_trace.specs.Dataflow.{IsSource, source}
use Rattle.affc_domain.specs.Arrays.{declared_arrays, extents_at}

-- The element lies within the extents of its array. An element without subscripts also does where no array has its number.
abbrev pub LiesWithin : Program → (p : List ℤ) → Element → Type 0
LiesWithin program p x = is_within x.1 (get_or (extents_at (declared_arrays program) p) x.0 []) ≡ true

-- each extent is at least 1
abbrev pub HasExtents : Program → (p : List ℤ) → Type 0
HasExtents program p = (d : Decl) (e : Ix) → IsIn d (declared_arrays program) → IsIn e d.extents → pos 1 ≤ℤ whole e p

-- each instance touches elements within the extents
abbrev pub KeepsWithin : Program → (p : List ℤ) → Type 0
KeepsWithin program p = (b : Instance) (x : Element) → IsIn b (trace program p) → Touches (effect program p) b x → LiesWithin program p x

-- each load of an array that isn't handed in has a source
abbrev pub LoadsWritten : Program → (p : List ℤ) → Type 0
LoadsWritten program p = (b : Instance) (x : Element) → IsIn b (trace program p) → IsIn x (effect program p b).loads → length (arrays_of program.params) ≤ x.0
    → (w : Instance) × IsSource program p b x (Some w)

-- a program that can run at p: nothing in it is a reason to be stuck
pub record IsSafe (program : Program) (p : List ℤ) : Type 0 where
  pub extents : HasExtents program p
  pub within : KeepsWithin program p
  pub written : LoadsWritten program p

-- ---- The same by enumeration

abbrev pub extents_hold : Program → (p : List ℤ) → Bool
extents_hold program p = list_all (λ d. list_all (λ e. int_le (pos 1) (whole e p)) d.extents) (declared_arrays program)

abbrev pub accesses_hold : Program → (p : List ℤ) → Bool
accesses_hold program p = list_all (λ b. list_all (λ x. is_within x.1 (get_or (extents_at (declared_arrays program) p) x.0 [])) (events program p b)) (trace program p)

abbrev pub loads_hold : Program → (p : List ℤ) → Bool
loads_hold program p = list_all (λ b. list_all (λ x. nat_lt x.0 (length (arrays_of program.params)) || is_some (source program p b x)) (loads_of program p b)) (trace program p)
