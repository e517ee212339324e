-- Why a run is stuck. Where ISO/IEC 9899:2011 leaves the behaviour undefined, a run of this language is stuck.
use Rattle.std.specs.Prelude.{ℕ, Result, Ok, Err}
use Rattle.affc_ast.specs.declared.tree.Instance.{Instance}

-- `Extent`: an array has an extent below 1 (6.7.6.2: the size of a variable length array is greater than zero).
-- `Overflow`: a number of `int64_t` leaves its range, or a divisor is below 1, at the node of this number (6.5; 6.5.5).
-- `OutOfBounds`: an access lies outside the extents of its array (6.5.6).
-- `Unwritten`: a load is of an element that has no value yet (6.7.9: indeterminate).
-- The accesses of an instance are its loads in the order of the text, numbered from 0, and then its store.
pub data Cause : Type 0 where
  Extent : (array : ℕ) → Cause
  Overflow : (node : ℕ) → Cause
  OutOfBounds : (instance : Instance) (access : ℕ) → Cause
  Unwritten : (instance : Instance) (access : ℕ) → Cause

-- reads first the one and then, with what it gave, the other
infixl 10 ◌>>=◌
abbrev pub ◌>>=◌ : {A B : Type 0} → Result A Cause → (A → Result B Cause) → Result B Cause
(Ok x) >>= f = f x
(Err cause) >>= f = Err cause
