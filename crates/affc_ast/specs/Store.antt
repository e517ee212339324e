-- What the arrays hold.
use Rattle.std.specs.Prelude.{ℕ, ℤ, List, Option}
use Rattle.std.specs.declared.cmp.Ordering.{Ordering}
use Rattle.std.specs.Ordering.{nat_cmp, int_cmp, ordering_then}
use Rattle.std.specs.Cmp.Lexicographic.{slice_cmp}
use Rattle.std.specs.FinMap.Entries.{find, put}

-- an array's number, and one subscript for each of its dimensions
abbrev pub Element : Type 0
Element = ℕ × List ℤ

-- by the arrays' numbers and then by the subscripts from the left
abbrev pub element_cmp : Element → Element → Ordering
element_cmp x y = ordering_then (nat_cmp x.0 y.0) (slice_cmp int_cmp x.1 y.1)

-- A finite map from elements to numbers: the elements that have a value, in their order, each with its value.
abbrev pub Store : Type 0
Store = List (Element × ℕ)

-- the value of an element, if it has one
abbrev pub at : Store → Element → Option ℕ
at store x = find element_cmp x store

-- the store in which the element has this value and all others have theirs
abbrev pub with_value : Store → Element → ℕ → Store
with_value store x v = put element_cmp x v store
