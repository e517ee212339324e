-- What a nest says of its program.
use Rattle.std.specs.Prelude.{◌≡◌, ◌↔◌, ◌⊎◌, ℕ, ◌+◌, ◌^◌, ◌≤◌, ℤ, pos, negsuc, ◌≤ℤ◌, unsigned_abs, false, ◌&&◌, IsTrue, List, [], ◌∷◌, ◌++◌, length, map, get_or, Some, None, slice_get}
use Rattle.affc_rows.specs.Forms.{Affine, value, values_of}
use Rattle.affc_system.specs.Boxes.{InBox}
use Rattle.affc_system.specs.Systems.{Rows, Met, IsPoint, HasNoPoint}
use Rattle.affc_ast.specs.declared.tree.Decl.{Decl}
use Rattle.affc_ast.specs.declared.tree.Instance.{Instance}
use Rattle.affc_ast.specs.declared.tree.Ix.{Ix}
use Rattle.affc_ast.specs.declared.tree.Program.{Program}
use Rattle.affc_ast.specs.Fits.{whole}
use Rattle.affc_ast.specs.Index.{floor_of}
use Rattle.affc_ast.specs.Store.{Element}
use Rattle.affc_ast.specs.Trace.{Assignment, assignments, trace, events}
use Rattle.affc_ast.specs.Values.{is_within}
use Rattle.affc_trace.specs.Law.{IsIn}
use Rattle.affc_trace.specs.Laws.{IsInContext}
use Rattle.affc_domain.specs.Accesses as said
use Rattle.affc_domain.specs.Accesses.{accesses_of}
use Rattle.affc_domain.specs.Arrays.{declared_arrays, extents_at}
use Rattle.affc_domain.specs.Plain.{IsPlain}
use Rattle.affc_domain.specs.Ranges.{is_near, first_wide, number_ranges}
use Rattle.affc_nest.specs.declared.nest.Access.{Access}
use Rattle.affc_nest.specs.declared.nest.Entry.{Entry}
use Rattle.affc_nest.specs.Divisions.{division_rows, quotient_range}
use Rattle.affc_nest.specs.Nests.{nest_of}
use Rattle.affc_nest.specs.Parts.{coordinates}
use Rattle.affc_nest.specs.Questions.{extent_at, extent_question, extent_questions, extents_of_access, low_question, high_question, bound_questions}

-- a program that has a nest: it is plain, and no loop that is entered passes 2^31
pub record HasNest (program : Program) : Type 0 where
  pub plain : IsPlain program
  pub near : first_wide program ≡ None

-- this entry stands for the part with this number
abbrev pub IsEntry : Program → (part : ℕ) → Entry → Type 0
IsEntry program part e = slice_get (nest_of program).entries part ≡ Some e

-- ---- Domains

-- Each assignment is one part and has its entry under its number, over a column for each parameter and each coordinate.
pub record Stands (program : Program) (part : ℕ) (e : Entry) : Type 0 where
  pub number : e.part ≡ part
  pub statement : e.statement ≡ part
  pub columns : e.domain.columns ≡ length (number_ranges program.params) + coordinates e

abbrev pub EntriesStand : Type 0
EntriesStand = (program : Program) → HasNest program
    → (length (nest_of program).entries ≡ length (assignments program)) × ((part : ℕ) (e : Entry) → IsEntry program part e → Stands program part e)

-- The integer points of a domain are the p of the context with the iterators of the instances there.
abbrev pub PointsAreInstances : Type 0
PointsAreInstances = (program : Program) (p : List ℤ) (b : Instance) (e : Entry)
    → HasNest program → IsEntry program b.statement e → IsTrue e.alive → length p ≡ length (number_ranges program.params)
    → IsPoint e.domain (p ++ b.iterators) ↔ (IsInContext program p × IsIn b (trace program p))

-- A statement that isn't alive has no instances, and its domain no point.
abbrev pub NoneWhereNotAlive : Type 0
NoneWhereNotAlive = (program : Program) (e : Entry) (b : Instance)
    → HasNest program → IsEntry program b.statement e → e.alive ≡ false
    → HasNoPoint e.domain × ((p : List ℤ) → IsInContext program p → ¬ (IsIn b (trace program p)))

-- ---- Ranges

-- Where a part is alive there is a range for each coordinate, its ends in order and within 2^31, and all iterators lie in them.
pub record AreRanges (program : Program) (part : ℕ) (e : Entry) : Type 0 where
  pub each : length e.ranges ≡ coordinates e
  pub near : (r : ℤ × ℤ) → IsIn r e.ranges → (r.0 ≤ℤ r.1) × IsTrue (is_near r.0 && is_near r.1)
  pub hold : (p : List ℤ) (b : Instance) → b.statement ≡ part → IsInContext program p → IsIn b (trace program p) → InBox e.ranges b.iterators

abbrev pub RangesHold : Type 0
RangesHold = (program : Program) (part : ℕ) (e : Entry)
    → HasNest program → IsEntry program part e → IsTrue e.alive → AreRanges program part e

-- ---- Accesses, context, extents

-- the element at which an access's forms point
abbrev pub element_at : (point : List ℤ) → Access → Element
element_at point x = (x.array.0, values_of x.subs point)

-- The accesses of an instance are its events: the elements that it loads, in order, and then the one that it stores.
abbrev pub AccessesAreEvents : Type 0
AccessesAreEvents = (program : Program) (p : List ℤ) (b : Instance) (e : Entry)
    → HasNest program → IsEntry program b.statement e → length (p ++ b.iterators) ≡ e.domain.columns
    → map (element_at (p ++ b.iterators)) e.accesses ≡ events program p b

-- p is in the context exactly where it lies in the parameters' box and is a point of the context's system.
abbrev pub ContextIsTheContext : Type 0
ContextIsTheContext = (program : Program) (p : List ℤ) → IsPlain program
    → IsInContext program p ↔ (InBox (nest_of program).params p × IsPoint (nest_of program).context p)

-- The extents have the program's values.
abbrev pub ExtentsAreExtents : Type 0
ExtentsAreExtents = (program : Program) (p : List ℤ) → IsPlain program → length p ≡ length (number_ranges program.params)
    → map (λ a. values_of a.extents p) (nest_of program).arrays ≡ extents_at (declared_arrays program) p

-- ---- Questions

-- Each access names an array, and has a subscript for each of its dimensions, as in any program that a text gives.
abbrev pub NamesArrays : Program → Type 0
NamesArrays program = (a : Assignment) (x : said.Access) → IsIn a (assignments program) → IsIn x (accesses_of a)
    → (d : Decl) × (slice_get (declared_arrays program) x.0.0 ≡ Some d) × (length x.1 ≡ length d.extents)

-- At p each extent is at least 1, and each element that an instance touches lies within its array.
pub record StaysWithin (program : Program) (p : List ℤ) : Type 0 where
  pub extents : (d : Decl) (extent : Ix) → IsIn d (declared_arrays program) → IsIn extent d.extents → pos 1 ≤ℤ whole extent p
  pub accesses : (b : Instance) (x : Element) → IsIn b (trace program p) → IsIn x (events program p b)
      → IsTrue (is_within x.1 (get_or (extents_at (declared_arrays program) p) x.0 []))

abbrev pub NoneHasAPoint : List Rows → Type 0
NoneHasAPoint questions = (q : Rows) → IsIn q questions → HasNoPoint q

-- No question has a point exactly where, throughout the context, each extent is at least 1 and each access lies within its array.
abbrev pub QuestionsDecide : Type 0
QuestionsDecide = (program : Program) → HasNest program → NamesArrays program
    → (NoneHasAPoint (extent_questions (nest_of program)) × NoneHasAPoint (bound_questions (nest_of program)))
    ↔ ((p : List ℤ) → IsInContext program p → StaysWithin program p)

-- A point of a question on an extent is a p of the context at which that extent is below 1.
abbrev pub ExtentPoint : Type 0
ExtentPoint = (program : Program) (p : List ℤ) (array dimension : ℕ) (form : Affine)
    → HasNest program → extent_at (nest_of program) array dimension ≡ Some form → IsPoint (extent_question (nest_of program) form) p
    → IsInContext program p
    × ((extent : ℤ) × (slice_get (get_or (extents_at (declared_arrays program) p) array []) dimension ≡ Some extent) × (extent ≤ℤ pos 0))

-- This access of an instance at p of the context lies outside its array in this dimension.
pub record LiesOutside (program : Program) (p : List ℤ) (here : Instance) (access dimension : ℕ) : Type 0 where
  pub context : IsInContext program p
  pub runs : IsIn here (trace program p)
  pub element : Element
  pub touched : slice_get (events program p here) access ≡ Some element
  pub subscript : ℤ
  pub is_subscript : slice_get element.1 dimension ≡ Some subscript
  pub extent : ℤ
  pub is_extent : slice_get (get_or (extents_at (declared_arrays program) p) element.0 []) dimension ≡ Some extent
  pub outside : (subscript ≤ℤ negsuc 0) ⊎ (extent ≤ℤ subscript)

-- A point of a question on an access is an instance, at p of the context, whose access lies outside in that dimension.
abbrev pub AccessPoint : Type 0
AccessPoint = (program : Program) (p : List ℤ) (here : Instance) (e : Entry) (access dimension : ℕ) (x : Access) (sub extent : Affine)
    → HasNest program → IsEntry program here.statement e → IsTrue e.alive
    → slice_get e.accesses access ≡ Some x → slice_get x.subs dimension ≡ Some sub → slice_get (extents_of_access (nest_of program) x) dimension ≡ Some extent
    → length p ≡ length (number_ranges program.params)
    → IsPoint (low_question e.domain sub) (p ++ here.iterators) ⊎ IsPoint (high_question e.domain (coordinates e) sub extent) (p ++ here.iterators)
    → LiesOutside program p here access dimension

-- ---- Quotients

-- A column behind a point meets the rows of a division exactly where it is the quotient of the form there, rounded down.
abbrev pub DivisionsAreQuotients : Type 0
DivisionsAreQuotients = (form : Affine) (by q : ℤ) (xs : List ℤ)
    → length form.coefs ≡ length xs → pos 1 ≤ℤ by
    → Met (xs ++ q ∷ []) (division_rows (length xs) form by) ↔ (q ≡ floor_of (value form xs) by)

-- Where a point lies in these ranges and the quotient there is within 2^60, it lies in its range.
abbrev pub QuotientsKeepRanges : Type 0
QuotientsKeepRanges = (ranges : List (ℤ × ℤ)) (form : Affine) (by : ℤ) (xs : List ℤ)
    → length form.coefs ≡ length ranges → pos 1 ≤ℤ by → InBox ranges xs → unsigned_abs (floor_of (value form xs) by) ≤ 2 ^ 60
    → ((quotient_range ranges form by).0 ≤ℤ floor_of (value form xs) by) × (floor_of (value form xs) by ≤ℤ (quotient_range ranges form by).1)
