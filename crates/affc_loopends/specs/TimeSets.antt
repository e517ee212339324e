-- The time set of a statement under a schedule: the rational points of the parameters and the components of its time at which the
-- iterators that the inverse gives lie in its domain and have this time. A rational point is a list of whole numbers with one divisor.
use Rattle.std.specs.Prelude.{◌≡◌, ℕ, ◌+◌, ◌<◌, List, [], ◌∷◌, ◌++◌, length, map, take, drop, slice_index_or, ℤ, pos, ◌+ℤ◌, ◌*ℤ◌, ◌≤ℤ◌}
use Rattle.affc_rows.specs.Forms.{Affine, HaveColumns}
use Rattle.affc_farkas.specs.Rational.{scaled_value}
use Rattle.affc_ast.specs.declared.tree.Compare.{Compare}
use Rattle.affc_ast.specs.declared.tree.Ix.{Ix}
use Rattle.affc_ast.specs.declared.tree.Program.{Program}
use Rattle.affc_ast.specs.declared.tree.Rel.{Rel}
use Rattle.affc_ast.specs.declared.tree.Rel.TheVariants.{Less, LessEqual, Greater, GreaterEqual, Equal, NotEqual}
use Rattle.affc_ast.specs.Joined.{tests_of}
use Rattle.affc_trace.specs.declared.schedule.TimeMap.{TimeMap}
use Rattle.affc_domain.specs.Affine.{form_of}
use Rattle.affc_domain.specs.Ranges.{number_ranges}
use Rattle.affc_domain.specs.Rounds.{Round, Loop, Test, loops_in}

-- ---- Where the names in sight have the values names / d

-- d times the value of an expression
abbrev pub scaled_at : (names : List ℤ) (d : ℤ) → Ix → ℤ
scaled_at names d e = scaled_value (form_of (length names) 0 e) names d

-- a / d and b / d are so related; "<" asks for a difference of 1, as it does of whole numbers, and "!=", which no half-spaces say, asks for nothing
abbrev pub AreRelated : (d : ℤ) → Rel → (a b : ℤ) → Type 0
AreRelated d Less a b = (a +ℤ d) ≤ℤ b
AreRelated d LessEqual a b = a ≤ℤ b
AreRelated d Greater a b = (b +ℤ d) ≤ℤ a
AreRelated d GreaterEqual a b = b ≤ℤ a
AreRelated d Equal a b = a ≡ b
AreRelated d NotEqual a b = Unit {0}

-- the comparisons hold
abbrev pub HoldAll : (names : List ℤ) (d : ℤ) → List Compare → Type 0
HoldAll names d [] = Unit {0}
HoldAll names d (c ∷ cs) = AreRelated d c.rel (scaled_at names d c.left) (scaled_at names d c.right) × HoldAll names d cs

-- there is a number for each range, and over d it lies there
abbrev pub LieWithin : (d : ℤ) → List (ℤ × ℤ) → List ℤ → Type 0
LieWithin d [] [] = Unit {0}
LieWithin d [] (x ∷ xs) = ⊥
LieWithin d (r ∷ rs) [] = ⊥
LieWithin d (r ∷ rs) (x ∷ xs) = ((d *ℤ r.0) ≤ℤ x) × (x ≤ℤ (d *ℤ r.1)) × LieWithin d rs xs

-- there is an iterator for each loop, over d it lies within the loop's bounds, and the comparisons that are joined in the conditions hold
abbrev pub Turn : (d : ℤ) → List Round → (names iterators : List ℤ) → Type 0
Turn d [] names [] = Unit {0}
Turn d [] names (x ∷ xs) = ⊥
Turn d (Loop iter low rel high ∷ rs) names [] = ⊥
Turn d (Loop iter low rel high ∷ rs) names (x ∷ xs) = (scaled_at names d low ≤ℤ x) × AreRelated d rel x (scaled_at names d high) × Turn d rs (names ++ x ∷ []) xs
Turn d (Test cond ∷ rs) names xs = HoldAll names d (tests_of cond) × Turn d rs names xs

-- ---- Time points

-- a statement with its times: the ranges of the parameters, the context, what stands round the statement, the ranges of its iterators,
-- the components of its time over the parameters and iterators, and the iterators over the parameters and components
pub record Timed : Type 0 where
  pub params : List (ℤ × ℤ)
  pub context : List Compare
  pub around : List Round
  pub ranges : List (ℤ × ℤ)
  pub times : List Affine
  pub inverse : List Affine

-- each form has a column for each parameter, and then for each iterator, or for each component
pub record IsShaped (s : Timed) : Type 0 where
  pub ranges : length s.ranges ≡ loops_in s.around
  pub iterators : length s.inverse ≡ loops_in s.around
  pub times : HaveColumns (length s.params + loops_in s.around) s.times
  pub inverse : HaveColumns (length s.params + length s.times) s.inverse

abbrev pub parameters_at : Timed → (x : List ℤ) → List ℤ
parameters_at s x = take (length s.params) x

abbrev pub components_at : Timed → (x : List ℤ) → List ℤ
components_at s x = drop (length s.params) x

-- the iterators by the inverse
abbrev pub iterators_at : Timed → (x : List ℤ) (d : ℤ) → List ℤ
iterators_at s x d = map (λ g. scaled_value g x d) s.inverse

-- a rational point x / d of the time set: the parameters, and then the components
pub record IsTimePoint (s : Timed) (x : List ℤ) (d : ℤ) : Type 0 where
  pub width : length x ≡ length s.params + length s.times
  pub divisor : pos 1 ≤ℤ d
  pub parameters : LieWithin d s.params (parameters_at s x)
  pub context : HoldAll (parameters_at s x) d s.context
  pub turn : Turn d s.around (parameters_at s x) (iterators_at s x d)
  pub within : LieWithin d s.ranges (iterators_at s x d)
  pub times : map (λ f. scaled_value f (parameters_at s x ++ iterators_at s x d) d) s.times ≡ components_at s x

-- whole numbers that some time point begins with
pub record ExtendsToTimePoint (s : Timed) (whole : List ℤ) : Type 0 where
  pub x : List ℤ
  pub d : ℤ
  pub is_time_point : IsTimePoint s x d
  pub begins : (j : ℕ) → j < length whole → slice_index_or x j (pos 0) ≡ d *ℤ slice_index_or whole j (pos 0)

-- a statement of a program, where these loops and conditions stand round it, its iterators have these ranges, and these are its times
abbrev pub timed_in : Program → List Round → (ranges : List (ℤ × ℤ)) → TimeMap → Timed
timed_in program rs ranges m = record {
  params = number_ranges program.params;
  context = program.context;
  around = rs;
  ranges = ranges;
  times = m.forms;
  inverse = m.inverse;
}
