-- Ends of loops by rows. A row of a component is a form over the parameters and the components up to this one that is at least 0
-- at the times of a statement, and so bounds the component from below or from above.
use Rattle.std.specs.Prelude.{◌≡◌, ℕ, zero, suc, ◌+◌, ◌^◌, ◌≤◌, ℤ, pos, neg_ℤ, ◌<ℤ◌, unsigned_abs, List, [], ◌∷◌, ◌++◌, length, get_or, map, take}
use Rattle.std.specs.List.{All}
use Rattle.affc_rows.specs.Forms.{Affine}
use Rattle.affc_system.specs.Boxes.{box_magnitude}
use Rattle.affc_system.specs.Systems.{Meets}
use Rattle.affc_ast.specs.declared.tree.Instance.{Instance}
use Rattle.affc_ast.specs.declared.tree.Ix.{Ix}
use Rattle.affc_ast.specs.declared.tree.Ix.TheVariants.{Min, Max, Floord, Ceild}
use Rattle.affc_ast.specs.declared.tree.Program.{Program}
use Rattle.affc_ast.specs.Trace.{trace}
use Rattle.affc_trace.specs.declared.schedule.TimeMap.{TimeMap}
use Rattle.affc_trace.specs.Law.{IsIn}
use Rattle.affc_trace.specs.Target.{numbers_in, time_of}
use Rattle.affc_domain.specs.Ranges.{number_ranges}
use Rattle.affc_loops.specs.Loops.{Scheduled, scheduled, times_of}
use Rattle.affc_loops.specs.Trees.{number, form_tree}
pub use Rattle.affc_rows.specs.Vocabulary.{opposite}

-- ---- The number at which a row is 0

-- the row without its last column
abbrev pub rest_of : (column : ℕ) → Affine → Affine
rest_of column row = record { coefs = take column row.coefs; constant = row.constant }

abbrev pub last_of : (column : ℕ) → Affine → ℤ
last_of column row = get_or row.coefs column (pos 0)

-- a quotient, rounded up or down; by 1 it is the number itself
abbrev pub rounded_up : Ix → (by : ℤ) → Ix
rounded_up e (pos (suc zero)) = e
rounded_up e by = Ceild e by

abbrev pub rounded_down : Ix → (by : ℤ) → Ix
rounded_down e (pos (suc zero)) = e
rounded_down e by = Floord e by

-- The least number at which FORM + c t is not below 0, and the greatest at which FORM - c t isn't; so many parameters are the first names.
abbrev pub least_by : (first column : ℕ) → Affine → Ix
least_by first column row = rounded_up (form_tree first first (opposite (rest_of column row))) (last_of column row)

abbrev pub greatest_by : (first column : ℕ) → Affine → Ix
greatest_by first column row = rounded_down (form_tree first first (rest_of column row)) (neg_ℤ (last_of column row))

-- ---- The ends of one statement

-- nested to the left
abbrev pub joined : {A : Type 0} → (A → A → A) → A → List A → A
joined both x [] = x
joined both x (y ∷ ys) = joined both (both x y) ys

abbrev pub joined_with : {A : Type 0} → (A → A → A) → List A → (last : A) → A
joined_with both [] last = last
joined_with both (x ∷ xs) last = joined both x (xs ++ last ∷ [])

abbrev pub lower_end : (first column : ℕ) → (rows : List Affine) → (low : ℤ) → Ix
lower_end first column rows low = joined_with Max (map (least_by first column) rows) (number low)

abbrev pub upper_end : (first column : ℕ) → (rows : List Affine) → (high : ℤ) → Ix
upper_end first column rows high = joined_with Min (map (greatest_by first column) rows) (number high)

-- the rows that bound a component from below, and those that bound it from above
abbrev pub Sides : Type 0
Sides = List Affine × List Affine

-- from this column on, each component also within its range
abbrev pub ends_from : (first column : ℕ) → List Sides → (ranges : List (ℤ × ℤ)) → List (Ix × Ix)
ends_from first column (s ∷ ss) (r ∷ rs) = (lower_end first column s.0 r.0, upper_end first column s.1 r.1) ∷ ends_from first (suc column) ss rs
ends_from first column _ _ = []

-- ---- The ends of all statements

-- the lesser lower end and the greater upper end of each component
abbrev pub both_ends : List (Ix × Ix) → List (Ix × Ix) → List (Ix × Ix)
both_ends (a ∷ as') (b ∷ bs) = (Min a.0 b.0, Max a.1 b.1) ∷ both_ends as' bs
both_ends _ _ = []

-- of each statement, within the ranges of its own times
abbrev pub each_ends : (first : ℕ) → (params : List (ℤ × ℤ)) → List Scheduled → (rows : List (List Sides)) → List (List (Ix × Ix))
each_ends first params (e ∷ es) (ss ∷ sss) = ends_from first first ss (times_of params e) ∷ each_ends first params es sss
each_ends first params _ _ = []

abbrev pub all_ends : List (List (Ix × Ix)) → List (Ix × Ix)
all_ends [] = []
all_ends (x ∷ xs) = joined both_ends x xs

-- the ends of a program's loops, with the rows of each statement that can have instances
abbrev pub ends_of : Program → List TimeMap → (rows : List (List Sides)) → List (Ix × Ix)
ends_of program maps rows = all_ends (each_ends (numbers_in program.params) (number_ranges program.params) (scheduled program maps) rows)

-- ---- What is asked of rows

-- over the columns up to this one, whose terms sum to at most 2^62 over the ranges of all columns
pub record IsRow (column : ℕ) (ranges : List (ℤ × ℤ)) (row : Affine) : Type 0 where
  pub width : length row.coefs ≡ suc column
  pub small : box_magnitude row.coefs ranges + unsigned_abs row.constant ≤ 2 ^ 62

abbrev pub BoundsBelow : (column : ℕ) → Affine → Type 0
BoundsBelow column row = pos 0 <ℤ last_of column row

abbrev pub BoundsAbove : (column : ℕ) → Affine → Type 0
BoundsAbove column row = last_of column row <ℤ pos 0

pub record AreSides (column : ℕ) (ranges : List (ℤ × ℤ)) (sides : Sides) : Type 0 where
  pub lower : All (IsRow column ranges) sides.0
  pub upper : All (IsRow column ranges) sides.1
  pub below : All (BoundsBelow column) sides.0
  pub above : All (BoundsAbove column) sides.1

-- of one column after the other
abbrev pub AreSidesFrom : (column : ℕ) → (ranges : List (ℤ × ℤ)) → List Sides → Type 0
AreSidesFrom column ranges [] = Unit {0}
AreSidesFrom column ranges (s ∷ ss) = AreSides column ranges s × AreSidesFrom (suc column) ranges ss

-- each row is at least 0 where the columns up to its own have the point's first numbers
abbrev pub HoldFrom : (column : ℕ) → List Sides → (point : List ℤ) → Type 0
HoldFrom column [] point = Unit {0}
HoldFrom column (s ∷ ss) point = All (Meets (take (suc column) point)) s.0 × All (Meets (take (suc column) point)) s.1 × HoldFrom (suc column) ss point

-- after these numbers each of the next ones meets the rows of its column
abbrev pub MeetAlong : List Sides → (before components : List ℤ) → Type 0
MeetAlong ss before [] = Unit {0}
MeetAlong [] before (x ∷ xs) = ⊥
MeetAlong (s ∷ ss) before (x ∷ xs) = All (Meets (before ++ x ∷ [])) s.0 × All (Meets (before ++ x ∷ [])) s.1 × MeetAlong ss (before ++ x ∷ []) xs

-- rows of a statement for each component, where these are the ranges of all times, which hold at the times of its instances at p
pub record AreRowsOf (program : Program) (maps : List TimeMap) (ranges : List (ℤ × ℤ)) (p : List ℤ) (e : Scheduled) (rows : List Sides) : Type 0 where
  pub one_each : length rows ≡ length ranges
  pub are_sides : AreSidesFrom (length p) (number_ranges program.params ++ ranges) rows
  pub hold : (a : Instance) → IsIn a (trace program p) → a.statement ≡ e.statement → HoldFrom (length p) rows (p ++ time_of maps p a)

-- for each statement
abbrev pub AreRowsOfEach : Program → List TimeMap → (ranges : List (ℤ × ℤ)) → (p : List ℤ) → List Scheduled → (rows : List (List Sides)) → Type 0
AreRowsOfEach program maps ranges p [] [] = Unit {0}
AreRowsOfEach program maps ranges p [] (ss ∷ sss) = ⊥
AreRowsOfEach program maps ranges p (e ∷ es) [] = ⊥
AreRowsOfEach program maps ranges p (e ∷ es) (ss ∷ sss) = AreRowsOf program maps ranges p e ss × AreRowsOfEach program maps ranges p es sss
