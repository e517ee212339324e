-- Whether a schedule is legal, as questions: systems that have no integer point exactly where no dependence is turned round.
use Rattle.std.specs.Prelude.{ℕ, ℤ, ◌+◌, ◌*◌, nat_eq, Bool, true, false, ◌&&◌, ◌||◌, if◌then◌else◌, List, [], ◌∷◌, ◌++◌, map, flat_map, length, drop}
use Rattle.affc_rows.specs.Forms.{Affine}
use Rattle.affc_system.specs.Systems.{Rows}
use Rattle.affc_ast.specs.declared.tree.Rel.TheVariants.{Equal}
use Rattle.affc_trace.specs.declared.schedule.Schedule.{Schedule}
use Rattle.affc_trace.specs.declared.schedule.Schedule.TheVariants.{Source, Time}
use Rattle.affc_nest.specs.Domains.{compare_rows}
use Rattle.affc_nest.specs.declared.nest.Access.{Access}
use Rattle.affc_nest.specs.declared.nest.Entry.{Entry}
use Rattle.affc_nest.specs.declared.nest.Nest.{Nest}
use Rattle.affc_nest.specs.Parts.{coordinates}
use Rattle.affc_order.specs.Spread.{spread}
use Rattle.affc_order.specs.Systems.{pair_columns, source_systems, turned_systems}

-- Two parts, a system over the parameters, the first's coordinates and the second's, and the ranges of these columns. At its
-- integer points an instance of the second depends on one of the first that the schedule runs later.
pub record Question : Type 0 where
  pub first : ℕ
  pub second : ℕ
  pub system : Rows
  pub ranges : List (ℤ × ℤ)

-- ---- Accesses

-- an access, and whether it is a store
abbrev pub Touch : Type 0
Touch = Access × Bool

abbrev pub is_last : List Access → Bool
is_last [] = true
is_last (x ∷ xs) = false

-- an assignment's accesses, of which the last one is its store
abbrev pub touches : List Access → List Touch
touches [] = []
touches (x ∷ xs) = (x, is_last xs) ∷ touches xs

-- both name one array, and at least one of them is a store
abbrev pub may_depend : Touch → Touch → Bool
may_depend x y = nat_eq x.0.array.0 y.0.array.0 && (x.1 || y.1)

-- ---- Rows

-- the forms are equal in turn
abbrev pub equal_rows : (fs gs : List Affine) → List Affine
equal_rows [] gs = []
equal_rows (f ∷ fs) [] = []
equal_rows (f ∷ fs) (g ∷ gs) = compare_rows Equal f g ++ equal_rows fs gs

-- how many rows of a domain are those of the parameters and of the context
abbrev pub context_count : Nest → ℕ
context_count nest = 2 * length nest.params + length nest.context.rows

module _ (nest : Nest) (a b : Entry) where
  -- a form of the first part, and one of the second
  abbrev pub of_first : Affine → Affine
  of_first = spread (length nest.params) 0 (coordinates b)

  abbrev pub of_second : Affine → Affine
  of_second = spread (length nest.params) (coordinates a) 0

  -- both domains; the rows of the parameters and of the context stand once
  abbrev pub pair_domain : List Affine
  pair_domain = map of_first a.domain.rows ++ map of_second (drop (context_count nest) b.domain.rows)

  -- both instances, and equal subscripts
  abbrev pub pair_rows : (x y : Access) → List Affine
  pair_rows x y = pair_domain ++ equal_rows (map of_first x.subs) (map of_second y.subs)

  abbrev pub question : (rows : List Affine) → (earlier later : Rows) → Question
  question rows earlier later = record {
    first = a.part;
    second = b.part;
    system = record { columns = pair_columns nest a.part b.part; rows = rows ++ (earlier.rows ++ later.rows) };
    ranges = nest.params ++ (a.ranges ++ b.ranges);
  }

  -- the first is earlier in the source, and the second in the target
  abbrev pub pair_questions : Schedule → (x y : Access) → List Question
  pair_questions schedule x y =
      flat_map (λ earlier. map (question (pair_rows x y) earlier) (turned_systems nest a.part b.part schedule)) (source_systems nest a.part b.part)

-- ---- All questions: per part and access, and then per part and access of the other

-- an access of a part
abbrev pub Use : Type 0
Use = Entry × Touch

abbrev pub uses_of : Entry → List Use
uses_of e = if e.alive then map (λ x. (e, x)) (touches e.accesses) else []

abbrev pub uses : Nest → List Use
uses nest = flat_map uses_of nest.entries

-- both, if the second may depend on the first
abbrev pub pair_of : (x y : Use) → List (Use × Use)
pair_of x y = if may_depend x.1 y.1 then (x, y) ∷ [] else []

abbrev pub pairs : Nest → List (Use × Use)
pairs nest = flat_map (λ x. flat_map (pair_of x) (uses nest)) (uses nest)

abbrev pub questions_on : Nest → Schedule → Use × Use → List Question
questions_on nest schedule p = pair_questions nest p.0.0 p.1.0 schedule p.0.1.0 p.1.1.0

-- the order of the source is legal
abbrev pub legality_questions : Nest → Schedule → List Question
legality_questions nest Source = []
legality_questions nest (Time components maps) = flat_map (questions_on nest (Time components maps)) (pairs nest)
