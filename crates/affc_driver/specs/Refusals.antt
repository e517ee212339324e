-- Why a source with a schedule isn't compiled.
use Rattle.std.specs.Prelude.{◌≡◌, ◌≢◌, ◌⊎◌, ◌||◌, ℕ, ℤ, Bool, true, false, if◌then◌else◌, List, [], ◌∷◌, length, codes, Option, Some, None, Err, slice_get}
use Rattle.affc_lex.specs.Bytes.{same}
use Rattle.affc_lex.specs.declared.token.Kind.TheVariants.{Prelude}
use Rattle.affc_lex.specs.Lexes.{Lexeme, Lexes}
use Rattle.affc_ast.specs.declared.tree.Instance.{Instance}
use Rattle.affc_ast.specs.declared.tree.Program.{Program}
use Rattle.affc_ast.specs.Joined.{has_joined_tests}
use Rattle.affc_grammar.specs.Reads.{Reads}
use Rattle.affc_plain.specs.Laws.{IsBare}
use Rattle.affc_parse.specs.Answers.{Answers}
use Rattle.affc_parse.specs.declared.fault.ParseFault.{ParseFault}
use Rattle.affc_parse.specs.declared.fault.ParseFault.TheVariants as parse
use Rattle.affc_schedtext.specs.declared.plan.Plan.{Plan}
use Rattle.affc_schedtext.specs.declared.plan.SchedFault.{SchedFault}
use Rattle.affc_schedtext.specs.declared.plan.SchedFault.TheVariants as sched
use Rattle.affc_schedtext.specs.Answers as plans
use Rattle.affc_bounds.specs.Faults.{StaysWithin, IsMeaningFault}
use Rattle.affc_bounds.specs.declared.fault.MeaningFault.{MeaningFault}
use Rattle.affc_legal.specs.Violations.{IsFirstViolation}
use Rattle.affc_dataflow.specs.Unwritten.{LoadsUnwritten}
use Rattle.affc_driver.specs.Plans.{HasPlan, WrittenThroughout}
use Rattle.affc_driver.specs.declared.refusal.Refusal.{Refusal}
use Rattle.affc_driver.specs.declared.refusal.Refusal.TheVariants.{Source, Printed, Schedule, Meaning, Unwritten, Illegal, Budget, Memory}
use Rattle.affc_driver.specs.declared.unread.Unread.{Unread}
use Rattle.affc_driver.specs.declared.unread.Unread.TheVariants as unread

-- no program reads as the source, for this reason
pub record IsSourceFault (source : List ℕ) (fault : ParseFault) : Type 0 where
  pub answers : Answers source (Err fault)
  pub is_fault : fault ≢ parse.Memory

-- whether a token is `else`, "||", "!=" or "%"
abbrev pub is_wide_mark : List ℕ → Bool
is_wide_mark bytes = same bytes (codes "else") || (same bytes (codes "||") || (same bytes (codes "!=") || same bytes (codes "%")))

-- the place of the first such token, or the text's end where there is none
abbrev pub first_wide_mark : List ℕ → List Lexeme → ℕ
first_wide_mark text [] = length text
first_wide_mark text (t ∷ ts) = if is_wide_mark t.bytes then t.start else first_wide_mark text ts

-- the source reads as a program without the prelude that isn't compiled, since it has an `else`, or a condition that isn't comparisons
-- joined by "&&"
pub record ReadsWide (source : List ℕ) : Type 0 where
  pub tree : Program
  pub reads : Reads source tree
  pub plain : tree.prelude ≡ false
  pub tests : has_joined_tests tree ≡ false

-- and it is refused at the first of its tokens that such a program may have and another needn't
pub record IsWide (source : List ℕ) (fault : ParseFault) : Type 0 where
  pub is : ReadsWide source
  pub tokens : List Lexeme
  pub lexes : Lexes source tokens
  pub told : fault ≡ parse.Syntax (first_wide_mark source tokens)

abbrev pub IsSourceRefused : (source : List ℕ) → ParseFault → Type 0
IsSourceRefused source fault = IsSourceFault source fault ⊎ IsWide source fault

-- the source reads as a program with the prelude, as printed texts may, and the prelude stands at the place
pub record IsPrinted (source : List ℕ) (place : ℕ) : Type 0 where
  pub tree : Program
  pub reads : Reads source tree
  pub with_prelude : tree.prelude ≡ true
  pub tokens : List Lexeme
  pub lexes : Lexes source tokens
  pub number : ℕ
  pub token : Lexeme
  pub is_in : slice_get tokens number ≡ Some token
  pub kind : token.kind ≡ Prelude
  pub its_place : place ≡ token.start

-- When a source is read as no program so. Want of memory may come at any time.
abbrev pub UnreadSays : (source : List ℕ) → Unread → Type 0
UnreadSays source (unread.Source fault) = IsSourceRefused source fault
UnreadSays source (unread.Printed place) = IsPrinted source place
UnreadSays source unread.Memory = Unit {0}

-- the refusal of a compilation for it
abbrev pub refusal_of : Unread → Refusal
refusal_of (unread.Source fault) = Source fault
refusal_of (unread.Printed place) = Printed place
refusal_of unread.Memory = Memory

-- the source reads as a program without the prelude, and the schedule as no plan of it, for this reason
pub record HasSchedFault (source : List ℕ) (schedule : Option (List ℕ)) (fault : SchedFault) : Type 0 where
  pub tree : Program
  pub reads : Reads source tree
  pub plain : IsBare tree
  pub text : List ℕ
  pub given : schedule ≡ Some text
  pub answers : plans.Answers text tree (Err fault)
  pub is_fault : fault ≢ sched.Memory

-- the source reads as a program without the prelude, of which this is a plan of the schedule
pub record IsPlanned (source : List ℕ) (schedule : Option (List ℕ)) : Type 0 where
  pub tree : Program
  pub reads : Reads source tree
  pub plain : IsBare tree
  pub plan : Plan
  pub planned : HasPlan tree schedule plan

-- the program has this wrong with it
pub record HasMeaningFault (source : List ℕ) (schedule : Option (List ℕ)) (fault : MeaningFault) : Type 0 where
  pub of : IsPlanned source schedule
  pub is_fault : IsMeaningFault of.tree fault

-- The program keeps to its arrays, and at p of its context this load of an instance is of an element of a temporary, of this
-- number, that no instance before stores.
pub record HasUnwritten (source : List ℕ) (schedule : Option (List ℕ)) (array access : ℕ) (p : List ℤ) (instance : Instance) : Type 0 where
  pub of : IsPlanned source schedule
  pub within : StaysWithin of.tree
  pub loads : LoadsUnwritten of.tree array access p instance

-- the program has nothing wrong with it, and at p this is the first dependence that the plan's schedule turns round
pub record IsIllegal (source : List ℕ) (schedule : Option (List ℕ)) (p : List ℤ) (a b : Instance) : Type 0 where
  pub of : IsPlanned source schedule
  pub within : StaysWithin of.tree
  pub written : WrittenThroughout of.tree
  pub first : IsFirstViolation of.tree of.plan.schedule p a b

-- When a source with a schedule is refused so. Want of memory may come at any time, and the end of the budget where it is spent.
abbrev pub RefusalSays : (source : List ℕ) (schedule : Option (List ℕ)) → Refusal → Type 0
RefusalSays source schedule (Source fault) = IsSourceRefused source fault
RefusalSays source schedule (Printed place) = IsPrinted source place
RefusalSays source schedule (Schedule fault) = HasSchedFault source schedule fault
RefusalSays source schedule (Meaning fault) = HasMeaningFault source schedule fault
RefusalSays source schedule (Unwritten array access p instance) = HasUnwritten source schedule array.0 access p instance
RefusalSays source schedule (Illegal p a b) = IsIllegal source schedule p a b
RefusalSays source schedule Budget = Unit {0}
RefusalSays source schedule Memory = Unit {0}

-- When the trees of a source are refused so: as its compilation is, up to its dataflow.
abbrev pub FlowRefusalSays : (source : List ℕ) → Refusal → Type 0
FlowRefusalSays source (Source fault) = IsSourceRefused source fault
FlowRefusalSays source (Printed place) = IsPrinted source place
FlowRefusalSays source (Schedule fault) = ⊥
FlowRefusalSays source (Meaning fault) = HasMeaningFault source None fault
FlowRefusalSays source (Unwritten array access p instance) = HasUnwritten source None array.0 access p instance
FlowRefusalSays source (Illegal p a b) = ⊥
FlowRefusalSays source Budget = Unit {0}
FlowRefusalSays source Memory = Unit {0}

-- The same of a source and a schedule, of what is wrong with a program by itself.
abbrev pub MeaningSays : (source : List ℕ) (schedule : Option (List ℕ)) → Refusal → Type 0
MeaningSays source schedule (Meaning fault) = HasMeaningFault source schedule fault
MeaningSays source schedule (Unwritten array access p instance) = HasUnwritten source schedule array.0 access p instance
MeaningSays source schedule Budget = Unit {0}
MeaningSays source schedule Memory = Unit {0}
MeaningSays source schedule _ = ⊥
