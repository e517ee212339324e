-- What the definitions give of small statements. Each value was found by hand from the rules.
use Rattle.std.specs.Prelude.{◌≡◌, ℕ, ℤ, pos, negsuc, List, [], ◌∷◌}
use Rattle.std.specs.List.{Contains}
use Rattle.affc_rows.specs.Forms.{Affine}
use Rattle.affc_ast.specs.declared.tree.Cond.TheVariants as cond
use Rattle.affc_ast.specs.declared.tree.Ix.{Ix}
use Rattle.affc_ast.specs.declared.tree.Ix.TheVariants.{Lit, Name, Add}
use Rattle.affc_ast.specs.declared.tree.Rel.TheVariants.{Less, LessEqual, Equal}
use Rattle.affc_domain.specs.Rounds.{Loop, Test}
use Rattle.affc_loopends.specs.TimeSets.{Timed, IsTimePoint}
use Rattle.affc_loopends.specs.TimeRows.{system_of}
use Rattle.affc_loopends.specs.Ends.{AreEnds}
use Rattle.affc_loopends.specs.Steps.{AreLeft}

abbrev lit : ℕ → Ix
lit k = Lit (pos k)

abbrev name : ℕ → Ix
name k = Name (record { 0 = k })

abbrev pub row : List ℤ → ℤ → Affine
row cs k = record { coefs = cs; constant = k }

-- ---- for N from 1 to 9: for (i = 0; i < N; i++) for (j = 0; j <= i; j++) at the time (i + j, i), so that i = t1 and j = t0 - t1

abbrev pub triangle : Timed
triangle = record {
  params = (pos 1, pos 9) ∷ [];
  context = [];
  around = Loop [] (lit 0) Less (name 0) ∷ Loop [] (lit 0) LessEqual (name 1) ∷ [];
  ranges = (pos 0, pos 8) ∷ (pos 0, pos 8) ∷ [];
  times = row (pos 0 ∷ pos 1 ∷ pos 1 ∷ []) (pos 0) ∷ row (pos 0 ∷ pos 1 ∷ pos 0 ∷ []) (pos 0) ∷ [];
  inverse = row (pos 0 ∷ pos 0 ∷ pos 1 ∷ []) (pos 0) ∷ row (pos 0 ∷ pos 1 ∷ negsuc 0 ∷ []) (pos 0) ∷ [];
}

-- over N, t0, t1: N from 1 to 9; 0 <= t1 < N, t1 from 0 to 8; 0 <= t0 - t1 <= t1, t0 - t1 from 0 to 8; each component is its form, which it is anywhere
abbrev pub TriangleRows : Type 0
TriangleRows = (system_of triangle).rows
    ≡ row (pos 1 ∷ pos 0 ∷ pos 0 ∷ []) (negsuc 0) ∷ row (negsuc 0 ∷ pos 0 ∷ pos 0 ∷ []) (pos 9)
    ∷ row (pos 0 ∷ pos 0 ∷ pos 1 ∷ []) (pos 0) ∷ row (pos 1 ∷ pos 0 ∷ negsuc 0 ∷ []) (negsuc 0)
    ∷ row (pos 0 ∷ pos 0 ∷ pos 1 ∷ []) (pos 0) ∷ row (pos 0 ∷ pos 0 ∷ negsuc 0 ∷ []) (pos 8)
    ∷ row (pos 0 ∷ pos 1 ∷ negsuc 0 ∷ []) (pos 0) ∷ row (pos 0 ∷ negsuc 0 ∷ pos 2 ∷ []) (pos 0)
    ∷ row (pos 0 ∷ pos 1 ∷ negsuc 0 ∷ []) (pos 0) ∷ row (pos 0 ∷ negsuc 0 ∷ pos 1 ∷ []) (pos 8)
    ∷ row (pos 0 ∷ pos 0 ∷ pos 0 ∷ []) (pos 0) ∷ row (pos 0 ∷ pos 0 ∷ pos 0 ∷ []) (pos 0)
    ∷ row (pos 0 ∷ pos 0 ∷ pos 0 ∷ []) (pos 0) ∷ row (pos 0 ∷ pos 0 ∷ pos 0 ∷ []) (pos 0) ∷ []

-- at N = 3 the instance i = 1, j = 1 has the time (2, 1)
abbrev pub OneOneHasATime : Type 0
OneOneHasATime = IsTimePoint triangle (pos 3 ∷ pos 2 ∷ pos 1 ∷ []) (pos 1)

-- i = 1/2, j = 0 at the time (1/2, 1/2)
abbrev pub HalvesAreTimePoints : Type 0
HalvesAreTimePoints = IsTimePoint triangle (pos 6 ∷ pos 1 ∷ pos 1 ∷ []) (pos 2)

-- the numbers of that instance over 4 are N = 3/4, and over 0 they are none
abbrev pub TheDivisorCounts : Type 0
TheDivisorCounts = (IsTimePoint triangle (pos 3 ∷ pos 2 ∷ pos 1 ∷ []) (pos 4) → ⊥) × (IsTimePoint triangle (pos 0 ∷ pos 0 ∷ pos 0 ∷ []) (pos 0) → ⊥)

-- i = 1, j = 2
abbrev pub NotAboveTheDiagonal : Type 0
NotAboveTheDiagonal = IsTimePoint triangle (pos 3 ∷ pos 3 ∷ pos 1 ∷ []) (pos 1) → ⊥

-- i = 5/2 isn't below N = 3, which asks for a difference of 1
abbrev pub BelowIsOneLess : Type 0
BelowIsOneLess = IsTimePoint triangle (pos 6 ∷ pos 5 ∷ pos 5 ∷ []) (pos 2) → ⊥

-- over N, t0, t1: t1, and 2 t1 - t0, from below; t0 - t1, from above
abbrev pub from_zero : Affine
from_zero = row (pos 0 ∷ pos 0 ∷ pos 1 ∷ []) (pos 0)

abbrev pub from_half : Affine
from_half = row (pos 0 ∷ negsuc 0 ∷ pos 2 ∷ []) (pos 0)

abbrev pub up_to_sum : Affine
up_to_sum = row (pos 0 ∷ pos 1 ∷ negsuc 0 ∷ []) (pos 0)

-- beside the upper row the first lower one follows from the second
abbrev pub BesideTheOtherEnd : Type 0
BesideTheOtherEnd = AreLeft 3 (up_to_sum ∷ []) (from_zero ∷ from_half ∷ []) (from_half ∷ [])

-- at t0 = -2 and t1 = -1 it doesn't
abbrev pub NotByOneEnd : Type 0
NotByOneEnd = AreLeft 3 [] (from_zero ∷ from_half ∷ []) (from_half ∷ []) → ⊥

-- ---- for N from 1 to 9: for (i = 0; i < N; i++) at the time -i

abbrev pub reversed : Timed
reversed = record {
  params = (pos 1, pos 9) ∷ [];
  context = [];
  around = Loop [] (lit 0) Less (name 0) ∷ [];
  ranges = (pos 0, pos 8) ∷ [];
  times = row (pos 0 ∷ negsuc 0 ∷ []) (pos 0) ∷ [];
  inverse = row (pos 0 ∷ negsuc 0 ∷ []) (pos 0) ∷ [];
}

-- over N and t: N - 1 + t, and -t
abbrev pub from : Affine
from = row (pos 1 ∷ pos 1 ∷ []) (negsuc 0)

abbrev pub up_to : Affine
up_to = row (pos 0 ∷ negsuc 0 ∷ []) (pos 0)

-- t from -N + 1 to 0
abbrev pub ReversedEnds : Type 0
ReversedEnds = AreEnds (system_of reversed) 1 (from ∷ []) (up_to ∷ [])

-- without its lower end -5 would be a turn at N = 3
abbrev pub OneEndIsTooFew : Type 0
OneEndIsTooFew = AreEnds (system_of reversed) 1 [] (up_to ∷ []) → ⊥

-- a row that bounds from below is no upper end
abbrev pub EachAtItsEnd : Type 0
EachAtItsEnd = AreEnds (system_of reversed) 1 (from ∷ []) (from ∷ []) → ⊥

-- rounded inwards, N - 2 + t is no row of an elimination
abbrev pub NoOtherRow : Type 0
NoOtherRow = AreEnds (system_of reversed) 1 (row (pos 1 ∷ pos 1 ∷ []) (negsuc 1) ∷ []) (up_to ∷ []) → ⊥

-- ---- for N from 1 to 4: for (i = 0; i < N; i++) at the time i

abbrev pub forward : Timed
forward = record {
  params = (pos 1, pos 4) ∷ [];
  context = [];
  around = Loop [] (lit 0) Less (name 0) ∷ [];
  ranges = (pos 0, pos 3) ∷ [];
  times = row (pos 0 ∷ pos 1 ∷ []) (pos 0) ∷ [];
  inverse = row (pos 0 ∷ pos 1 ∷ []) (pos 0) ∷ [];
}

-- over N and t: t, and N - 1 - t; 3 - t, by the range of i; 4 - N, by that of N
abbrev pub start : Affine
start = row (pos 0 ∷ pos 1 ∷ []) (pos 0)

abbrev pub bound : Affine
bound = row (pos 1 ∷ negsuc 0 ∷ []) (negsuc 0)

abbrev pub greatest : Affine
greatest = row (pos 0 ∷ negsuc 0 ∷ []) (pos 3)

abbrev pub at_most_four : Affine
at_most_four = row (negsuc 0 ∷ pos 0 ∷ []) (pos 4)

-- 3 - t is a row of the system, over no column but t
abbrev pub RangeIsARow : Type 0
RangeIsARow = Contains (system_of forward).rows greatest

-- the ends are whole without it
abbrev pub RangeMayGo : Type 0
RangeMayGo = AreEnds (system_of forward) 1 (start ∷ []) (bound ∷ [])

-- by it alone 3 would be a turn at N = 1
abbrev pub RangeIsTooLittle : Type 0
RangeIsTooLittle = AreEnds (system_of forward) 1 (start ∷ []) (greatest ∷ []) → ⊥

-- beside 4 - N it follows from N - 1 - t
abbrev pub BesideTheParameter : Type 0
BesideTheParameter = AreLeft 2 (at_most_four ∷ []) (bound ∷ greatest ∷ []) (bound ∷ [])

-- at N = 9 it doesn't
abbrev pub NotByItself : Type 0
NotByItself = AreLeft 2 [] (bound ∷ greatest ∷ []) (bound ∷ []) → ⊥

-- nor does N - 1 - t follow from it
abbrev pub BoundStays : Type 0
BoundStays = AreLeft 2 (at_most_four ∷ []) (bound ∷ greatest ∷ []) (greatest ∷ []) → ⊥

-- ---- for N from 1 to 9: for (i = 0; i <= 9; i++) if (i + i == N) at the time i

abbrev pub half : Timed
half = record {
  params = (pos 1, pos 9) ∷ [];
  context = [];
  around = Loop [] (lit 0) LessEqual (lit 9) ∷ Test (cond.Compare Equal (Add (name 1) (name 1)) (name 0)) ∷ [];
  ranges = (pos 0, pos 9) ∷ [];
  times = row (pos 0 ∷ pos 1 ∷ []) (pos 0) ∷ [];
  inverse = row (pos 0 ∷ pos 1 ∷ []) (pos 0) ∷ [];
}

-- at N = 3 the time set has the point 3/2, and no whole one
abbrev pub OneAndAHalfIsATimePoint : Type 0
OneAndAHalfIsATimePoint = IsTimePoint half (pos 6 ∷ pos 3 ∷ []) (pos 2)

abbrev pub NoneIsWhole : Type 0
NoneIsWhole = (t : ℤ) → IsTimePoint half (pos 3 ∷ t ∷ []) (pos 1) → ⊥
