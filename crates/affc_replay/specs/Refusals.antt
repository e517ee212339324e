-- Why a source with its schedule and a certificate isn't replayed.
use Rattle.std.specs.Prelude.{◌≡◌, ℕ, List, Some, None}
use Rattle.affc_ast.specs.declared.tree.Program.{Program}
use Rattle.affc_domain.specs.Ranges.{first_wide}
use Rattle.affc_nest.specs.Nests.{nest_of}
use Rattle.affc_bounds.specs.declared.fault.MeaningFault.TheVariants as meaning
use Rattle.affc_cert.specs.declared.cert.Cert.{Cert}
use Rattle.affc_accept.specs.Accepted.{IsRead}
use Rattle.affc_accept.specs.Bases.{KeepBases}
use Rattle.affc_accept.specs.Refusals.{AcceptRefuses}
use Rattle.affc_accept.specs.declared.fault.AcceptFault.{AcceptFault}
use Rattle.affc_accept.specs.declared.fault.AcceptFault.TheVariants as accept
use Rattle.affc_driver.specs.declared.unread.Unread.{Unread}
use Rattle.affc_driver.specs.declared.unread.Unread.TheVariants as unread
use Rattle.affc_driver.specs.Refusals.{IsSourceRefused, IsPrinted, HasSchedFault, HasMeaningFault, IsPlanned}
use Rattle.affc_replay.specs.declared.refusal.Refusal.{Refusal}
use Rattle.affc_replay.specs.declared.refusal.Refusal.TheVariants.{Source, Printed, Schedule, IteratorRange, Certificate, Check, Memory}

-- the refusal where a source is read as no program so
abbrev pub refusal_of : Unread → Refusal
refusal_of (unread.Source fault) = Source fault
refusal_of (unread.Printed place) = Printed place
refusal_of unread.Memory = Memory

-- the refusal where a certificate isn't accepted for this reason
abbrev pub accept_refusal : AcceptFault → Refusal
accept_refusal (accept.Certificate fault) = Certificate fault
accept_refusal (accept.Check fault) = Check fault
accept_refusal accept.Memory = Memory

-- the program is within the interval rule where a certificate's items are looked at
abbrev pub IsNearFor : AcceptFault → Program → Type 0
IsNearFor (accept.Certificate fault) program = Unit {0}
IsNearFor (accept.Check fault) program = first_wide program ≡ None
IsNearFor accept.Memory program = Unit {0}

-- The source reads as a program without the prelude, of which this is a plan of the schedule, and the certificate isn't one of them
-- for this reason. Its text is looked at before the ranges of the program's loops, and its items behind them.
pub record HasAcceptFault (source schedule certificate : List ℕ) (fault : AcceptFault) : Type 0 where
  pub of : IsPlanned source (Some schedule)
  pub near : IsNearFor fault of.tree
  pub refuses : AcceptRefuses (nest_of of.tree) of.plan certificate fault

-- the certificate's text has nothing wrong with it: it reads as a certificate with the plan's bases
pub record HasRightText (source schedule certificate : List ℕ) : Type 0 where
  pub of : IsPlanned source (Some schedule)
  pub cert : Cert
  pub read : IsRead (nest_of of.tree) certificate cert
  pub bases : KeepBases (nest_of of.tree) of.plan.folds cert.folds

-- When they are refused so. Want of memory may come at any time.
abbrev pub ReplayRefuses : (source schedule certificate : List ℕ) → Refusal → Type 0
ReplayRefuses source schedule certificate (Source fault) = IsSourceRefused source fault
ReplayRefuses source schedule certificate (Printed place) = IsPrinted source place
ReplayRefuses source schedule certificate (Schedule fault) = HasSchedFault source (Some schedule) fault
ReplayRefuses source schedule certificate (IteratorRange statement loop) = HasMeaningFault source (Some schedule) (meaning.IteratorRange statement loop) × HasRightText source schedule certificate
ReplayRefuses source schedule certificate (Certificate fault) = HasAcceptFault source schedule certificate (accept.Certificate fault)
ReplayRefuses source schedule certificate (Check fault) = HasAcceptFault source schedule certificate (accept.Check fault)
ReplayRefuses source schedule certificate Memory = Unit {0}
