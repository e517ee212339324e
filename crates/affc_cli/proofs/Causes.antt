-- What is told of a program is a cause for a text that reads as it.
use Rattle.std.proofs.Common.{ℕ, List, Option, Some, None}
use Rattle.affc_words.specs.declared.words.Settings.{Settings}
use Rattle.affc_lines.specs.Causes.{MeantCause, RangeCause}
use Rattle.affc_lines.specs.declared.refusal.Refusal.{Refusal}
use Rattle.affc_lines.specs.declared.refusal.Refusal.TheVariants.{Words, Unread, Source, Printed, Schedule, Meaning, Stuck, Illegal, Budget, Memory, Certificate, Check, Steps, Data}
use Rattle.affc_replay.specs.Refusals.{HasRightText}
use Rattle.affc_cli.specs.Refusal.{TextCause, FlowTextCause}
use Rattle.affc_cli.specs.Replay.{ReplayTextCause}

pub meant_fold : (source : List ℕ) (schedule : Option (List ℕ)) (settings : Settings) (refusal : Refusal) → MeantCause source schedule refusal → TextCause source schedule settings refusal
meant_fold source schedule settings Words m = absurd m
meant_fold source schedule settings (Unread file why) m = absurd m
meant_fold source schedule settings (Source fault) m = absurd m
meant_fold source schedule settings (Printed place) m = absurd m
meant_fold source schedule settings (Schedule line) m = absurd m
meant_fold source schedule settings (Meaning line) m = m
meant_fold source schedule settings (Stuck line) m = absurd m
meant_fold source schedule settings (Illegal line) m = absurd m
meant_fold source schedule settings Budget m = absurd m
meant_fold source schedule settings Memory m = tt
meant_fold source schedule settings (Certificate fault) m = absurd m
meant_fold source schedule settings (Check fault) m = absurd m
meant_fold source schedule settings Steps m = absurd m
meant_fold source schedule settings (Data line) m = absurd m

pub meant_flow : (source : List ℕ) (refusal : Refusal) → MeantCause source None refusal → FlowTextCause source refusal
meant_flow source Words m = absurd m
meant_flow source (Unread file why) m = absurd m
meant_flow source (Source fault) m = absurd m
meant_flow source (Printed place) m = absurd m
meant_flow source (Schedule line) m = absurd m
meant_flow source (Meaning line) m = m
meant_flow source (Stuck line) m = absurd m
meant_flow source (Illegal line) m = absurd m
meant_flow source Budget m = absurd m
meant_flow source Memory m = tt
meant_flow source (Certificate fault) m = absurd m
meant_flow source (Check fault) m = absurd m
meant_flow source Steps m = absurd m
meant_flow source (Data line) m = absurd m

pub meant_replay : (source schedule certificate : List ℕ) (refusal : Refusal) → RangeCause source (Some schedule) refusal → HasRightText source schedule certificate → ReplayTextCause source schedule certificate refusal
meant_replay source schedule certificate Words m right = absurd m
meant_replay source schedule certificate (Unread file why) m right = absurd m
meant_replay source schedule certificate (Source fault) m right = absurd m
meant_replay source schedule certificate (Printed place) m right = absurd m
meant_replay source schedule certificate (Schedule line) m right = absurd m
meant_replay source schedule certificate (Meaning line) m right = (m, right)
meant_replay source schedule certificate (Stuck line) m right = absurd m
meant_replay source schedule certificate (Illegal line) m right = absurd m
meant_replay source schedule certificate Budget m right = absurd m
meant_replay source schedule certificate Memory m right = tt
meant_replay source schedule certificate (Certificate fault) m right = absurd m
meant_replay source schedule certificate (Check fault) m right = absurd m
meant_replay source schedule certificate Steps m right = absurd m
meant_replay source schedule certificate (Data line) m right = absurd m
