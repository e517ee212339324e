-- What the loops and conditions of a text say of its instances.
use Rattle.std.specs.Prelude.{◌≡◌, ◌↔◌, ◌<◌, ℕ, ℤ, IsTrue, List, ◌++◌, length, Some, slice_get}
use Rattle.affc_rows.specs.Forms.{value}
use Rattle.affc_ast.specs.declared.tree.Instance.{Instance}
use Rattle.affc_ast.specs.declared.tree.Ix.{Ix}
use Rattle.affc_ast.specs.declared.tree.Program.{Program}
use Rattle.affc_ast.specs.Fits.{whole, within_ranges}
use Rattle.affc_ast.specs.Trace.{trace}
use Rattle.affc_trace.specs.Law.{IsIn}
use Rattle.affc_trace.specs.Orders.{Earlier}
use Rattle.affc_domain.specs.Affine.{form_of, is_affine}
use Rattle.affc_domain.specs.Loops.{loop_numbers, shared, IsBefore}
use Rattle.affc_domain.specs.Plain.{IsPlain}
use Rattle.affc_domain.specs.Ranges.{AreWithin, number_ranges, ranges_of}
use Rattle.affc_domain.specs.Rounds.{Round, rounds, turns}

-- An instance is in the trace exactly where its iterators turn under the loops and conditions round its statement.
abbrev pub InstancesTurn : Type 0
InstancesTurn = (program : Program) (p : List ℤ) (b : Instance)
    → IsIn b (trace program p) ↔ ((rs : List Round) × (slice_get (rounds program) b.statement ≡ Some rs) × IsTrue (turns rs p b.iterators))

-- One instance is earlier than another exactly where its iterator is less at the first common loop at which they differ,
-- or where they differ at none and its assignment stands earlier in the text.
abbrev pub OrderOfTheText : Type 0
OrderOfTheText = (program : Program) (p : List ℤ) (a b : Instance) (ls ms : List ℕ)
    → IsIn a (trace program p) → IsIn b (trace program p)
    → slice_get (loop_numbers program) a.statement ≡ Some ls → slice_get (loop_numbers program) b.statement ≡ Some ms
    → Earlier (trace program p) a b ↔ IsBefore (shared ls ms) a.iterators b.iterators (a.statement < b.statement)

-- The form of an affine expression has its value, whatever the further columns hold.
abbrev pub FormsHaveTheValue : Type 0
FormsHaveTheValue = (names more : List ℤ) (e : Ix) → IsTrue (is_affine e) → value (form_of (length names) (length more) e) (names ++ more) ≡ whole e names

-- The iterators of an instance lie in the ranges that the interval rule gives them.
abbrev pub IteratorsKeepRanges : Type 0
IteratorsKeepRanges = (program : Program) (p : List ℤ) (b : Instance) (rs : List Round)
    → IsPlain program → IsTrue (within_ranges program.params p) → IsIn b (trace program p) → slice_get (rounds program) b.statement ≡ Some rs
    → AreWithin (ranges_of (number_ranges program.params) rs) b.iterators
