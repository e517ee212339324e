-- When a source, a schedule and a certificate are refused.
use Rattle.std.specs.Prelude.{ℕ, List, Some}
use Rattle.affc_accept.specs.declared.fault.AcceptFault.TheVariants as accept
use Rattle.affc_driver.specs.Refusals.{IsSourceRefused, IsPrinted}
use Rattle.affc_replay.specs.Refusals.{HasAcceptFault, HasRightText}
use Rattle.affc_lines.specs.Meaning.{IsRangeLine}
use Rattle.affc_lines.specs.Schedule.{IsSchedLine}
use Rattle.affc_lines.specs.declared.refusal.Refusal.{Refusal}
use Rattle.affc_lines.specs.declared.refusal.Refusal.TheVariants.{Source, Printed, Schedule, Meaning, Certificate, Check, Memory}

-- When they are refused so. Of what is wrong with a program only the range of an iterator is told, where the certificate's text is right;
-- the certificate shows the rest.
-- Want of memory may come at any time.
abbrev pub ReplayTextCause : (source schedule certificate : List ℕ) → Refusal → Type 0
ReplayTextCause source schedule certificate (Source fault) = IsSourceRefused source fault
ReplayTextCause source schedule certificate (Printed place) = IsPrinted source place
ReplayTextCause source schedule certificate (Schedule line) = IsSchedLine source (Some schedule) line
ReplayTextCause source schedule certificate (Meaning line) = IsRangeLine source (Some schedule) line × HasRightText source schedule certificate
ReplayTextCause source schedule certificate (Certificate fault) = HasAcceptFault source schedule certificate (accept.Certificate fault)
ReplayTextCause source schedule certificate (Check fault) = HasAcceptFault source schedule certificate (accept.Check fault)
ReplayTextCause source schedule certificate Memory = Unit {0}
ReplayTextCause source schedule certificate _ = ⊥
