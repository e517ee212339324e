-- Pairs of accesses as code lists them, and their questions in groups.
use Rattle.std.specs.Prelude.{◌≡◌, List, [], ◌++◌, map, flat_map, Option, Some, None}
use Rattle.std.specs.List.{All}
use Rattle.affc_trace.specs.declared.schedule.Schedule.{Schedule}
use Rattle.affc_nest.specs.declared.nest.Nest.{Nest}
use Rattle.affc_products.specs.Groups.{group_systems}
use Rattle.affc_products.specs.Parts.{IsWithin}
use Rattle.affc_products.specs.declared.group.Group.{Group}
use Rattle.affc_sched.specs.declared.pairs.Pair.{Pair}
use Rattle.affc_sched.specs.declared.pairs.Place.{Place}
use Rattle.affc_sched.specs.Questions.{Question, Use, questions_on}
use Rattle.affc_sched.specs.Touched.{IsTouched}

abbrev pub use_at : Place → Use
use_at p = (p.entry.now, (p.access.now, p.stores))

abbrev pub uses_at : Pair → Use × Use
uses_at p = (use_at p.from, use_at p.to)

-- the questions on two accesses
abbrev pub asked_of : Nest → Schedule → Pair → List Question
asked_of nest schedule p = questions_on nest schedule (uses_at p)

-- both are accesses of living statements
pub record IsPair (nest : Nest) (p : Pair) : Type 0 where
  pub from : IsTouched nest p.from.entry.now p.from.access.now
  pub to : IsTouched nest p.to.entry.now p.to.access.now

-- ---- Groups

-- the systems of these questions are put behind, and each of them keeps the limits of a system
pub record AreAdded (old new : List Group) (questions : List Question) : Type 0 where
  pub put : flat_map group_systems new ≡ flat_map group_systems old ++ map (λ q. q.system) questions
  pub within : All IsWithin (map (λ q. q.system) questions)

-- the group of these questions, each of which keeps the limits of a system, if there are any
abbrev pub IsGroupOf : Option Group → List Question → Type 0
IsGroupOf None questions = questions ≡ []
IsGroupOf (Some g) questions = (group_systems g ≡ map (λ q. q.system) questions) × All IsWithin (group_systems g)
