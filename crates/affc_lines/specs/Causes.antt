-- When a text is refused, by itself or with a schedule.
use Rattle.std.specs.Prelude.{ℕ, List, Option}
use Rattle.affc_driver.specs.Refusals.{IsSourceFault}
use Rattle.affc_driver.specs.declared.unread.Unread.{Unread}
use Rattle.affc_driver.specs.declared.unread.Unread.TheVariants as unread
use Rattle.affc_lines.specs.Meaning.{IsMeantLine, IsRangeLine}
use Rattle.affc_lines.specs.Schedule.{IsSchedLine, IsIllegalLine}
use Rattle.affc_lines.specs.declared.refusal.Refusal.{Refusal}
use Rattle.affc_lines.specs.declared.refusal.Refusal.TheVariants.{Source, Printed, Schedule, Meaning, Illegal, Memory}

-- When a text is refused as no program, so.
abbrev pub UnreadCause : List ℕ → Refusal → Type 0
UnreadCause text (Source fault) = IsSourceFault text fault
UnreadCause text Memory = Unit {0}
UnreadCause text _ = ⊥

-- the refusal of a source that is read as no program so
abbrev pub refusal_of : Unread → Refusal
refusal_of (unread.Source fault) = Source fault
refusal_of (unread.Printed place) = Printed place
refusal_of unread.Memory = Memory

-- When a text is refused as a program that has something wrong with it, so.
abbrev pub MeantCause : (source : List ℕ) → (schedule : Option (List ℕ)) → Refusal → Type 0
MeantCause source schedule (Meaning line) = IsMeantLine source schedule line
MeantCause source schedule Memory = Unit {0}
MeantCause source schedule _ = ⊥

-- When a schedule is refused as no plan of a text's program, so.
abbrev pub PlanCause : (source : List ℕ) → (schedule : Option (List ℕ)) → Refusal → Type 0
PlanCause source schedule (Schedule line) = IsSchedLine source schedule line
PlanCause source schedule Memory = Unit {0}
PlanCause source schedule _ = ⊥

-- When a schedule is refused as one that turns a dependence of a text's program round, so.
abbrev pub TurnedCause : (source : List ℕ) → (schedule : Option (List ℕ)) → Refusal → Type 0
TurnedCause source schedule (Illegal line) = IsIllegalLine source schedule line
TurnedCause source schedule Memory = Unit {0}
TurnedCause source schedule _ = ⊥

-- When a program in which the range of an iterator is too wide is refused so.
abbrev pub RangeCause : (source : List ℕ) → (schedule : Option (List ℕ)) → Refusal → Type 0
RangeCause source schedule (Meaning line) = IsRangeLine source schedule line
RangeCause source schedule Memory = Unit {0}
RangeCause source schedule _ = ⊥
