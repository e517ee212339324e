-- `replay SRC SCHED CERT`: its clap command against the definition.
use Rattle.std.proofs.Common.{◌≡◌, ◌∙◌, ◌≤◌, Bool, cond, true, false, true≢false, List, [], ◌∷◌, ◌++◌, length, Option, Some, None, refl, sym, ap, ap₂, arith, codes}
use Rattle.std.specs.Prelude.{option_and_then}
use Rattle.std.specs.Option.{is_some}
use Rattle.clap.specs.Walk.{Row, Rule, first_of, nothing_held}
use Rattle.clap.specs.Takes.{is_given as is_given_row}
use Rattle.clap.specs.Simple.{built, matches_of}
use Rattle.clap.specs.Faults.{check_fault, defaults_fault, fault_of}
use Rattle.clap.specs.Matches.{first_value, found_of}
use Rattle.clap.specs.declared.parser.matches.ArgMatches.{ArgMatches}
use Rattle.clap.specs.declared.parser.matches.Found.{Found}
use Rattle.clap.proofs.FaultLemmas.{leaf_fault}
use Rattle.affc_words.specs.Command.{Replay, Parts, answer, are_options, form_of, parts_of, replay_of, value_of}
use Rattle.affc_words.specs.Parsed.{Parses, is_clean, replay_app}
use Rattle.affc_words.proofs.Clap.Uses.{Text, Uses, paired}
use Rattle.affc_words.proofs.Clap.Plain.{plain_rule, or_else-first}
use Rattle.affc_words.proofs.Clap.Turns.{faults, ended, form_shape}
use Rattle.affc_words.proofs.Clap.Stands.{HasOptions, Stands}
use Rattle.affc_words.proofs.Clap.Verdicts.{Verdict, both, neither}
use Rattle.affc_words.proofs.Clap.Levels.{first, not_value, no_default, no_default_fault, HasNoDefaults, level, level_fault-is, level-faultless, read, found, is_found}
use Rattle.affc_words.proofs.Forms.Shared.{text_at, no_text, some_text}

abbrev pub replay_rules : List Rule
replay_rules = plain_rule (codes "source") None (Some 1) true ∷ plain_rule (codes "schedule") None (Some 2) true ∷ plain_rule (codes "certificate") None (Some 3) true ∷ []

abbrev replay_ids : List Text
replay_ids = codes "source" ∷ codes "schedule" ∷ codes "certificate" ∷ []

abbrev replay_names : List Text
replay_names = []

replay_options : HasOptions replay_rules replay_names
replay_options = record { these = λ n has. absurd (true≢false (sym has)); no_other = λ n none. refl }

replay_stands : Stands replay_rules replay_names [] replay_ids replay_names 1
replay_stands = record {
  follow = (
    record { long = None; index = Some 1; required = true; by_index = refl; by_id = refl },
    (
      record { long = None; index = Some 2; required = true; by_index = refl; by_id = refl },
      (record { long = None; index = Some 3; required = true; by_index = refl; by_id = refl }, refl),
    ),
  );
  distinct = refl;
  apart = λ x has. absurd (true≢false (sym has));
  left = λ x. refl;
  fresh = λ x has. refl;
}

-- ---- No argument has a default

replay_defaults : HasNoDefaults (codes "replay") replay_rules
unfolding defaults_fault
replay_defaults rows =
    let source_kept = no_default (codes "source") None (Some 1) true rows in
    let schedule_kept = no_default (codes "schedule") None (Some 2) true rows in (
      rw (
        no_default_fault (codes "source") None (Some 1) true rows,
        source_kept,
        no_default_fault (codes "schedule") None (Some 2) true rows,
        schedule_kept,
        no_default_fault (codes "certificate") None (Some 3) true rows,
      ) refl,
      rw (source_kept, schedule_kept, no_default (codes "certificate") None (Some 3) true rows) refl,
    )

-- ---- What is wanted

replay_met : (rows : List Row) → is_given_row (codes "source") rows ≡ true → is_given_row (codes "schedule") rows ≡ true → is_given_row (codes "certificate") rows ≡ true
    → check_fault (form_shape (codes "replay") replay_rules) rows false ≡ []
replay_met rows e f g = rw (e, f, g) refl

replay_wants_source : (rows : List Row) → is_given_row (codes "source") rows ≡ false → check_fault (form_shape (codes "replay") replay_rules) rows false ≡ [] → ⊥
replay_wants_source rows e none = let bad = rw e at none in cc

replay_wants_schedule : (rows : List Row) → is_given_row (codes "source") rows ≡ true → is_given_row (codes "schedule") rows ≡ false
    → check_fault (form_shape (codes "replay") replay_rules) rows false ≡ [] → ⊥
replay_wants_schedule rows e f none = let bad = rw (e, f) at none in cc

replay_wants_certificate : (rows : List Row) → is_given_row (codes "source") rows ≡ true → is_given_row (codes "schedule") rows ≡ true → is_given_row (codes "certificate") rows ≡ false
    → check_fault (form_shape (codes "replay") replay_rules) rows false ≡ [] → ⊥
replay_wants_certificate rows e f g none = let bad = rw (e, f, g) at none in cc

-- ---- Its clap command, against the definition

pub data ReplayReads (ws : List Text) : Type 0 where
  replay_taken : (source schedule certificate : Text) → fault_of replay_app ws ≡ [] → first_of (codes "source") (matches_of replay_app ws) ≡ Some source
      → first_of (codes "schedule") (matches_of replay_app ws) ≡ Some schedule → first_of (codes "certificate") (matches_of replay_app ws) ≡ Some certificate
      → answer (codes "replay") ws ≡ Some (Replay source schedule certificate) → ReplayReads ws
  replay_refused : (fault_of replay_app ws ≡ [] → ⊥) → answer (codes "replay") ws ≡ None → ReplayReads ws

abbrev replay_rows : List Text → List Row
replay_rows ws = ended (codes "replay") replay_rules first ws

replay_fault : (ws : List Text) → fault_of replay_app ws ≡ level (codes "replay") replay_rules ws
replay_fault ws = leaf_fault (built replay_app) nothing_held ws refl ∙ level_fault-is (codes "replay") replay_rules replay_defaults ws

replay_matches : (ws : List Text) → matches_of replay_app ws ≡ replay_rows ws
replay_matches ws = (replay_defaults (replay_rows ws)).1

module _ (ws : List Text) (faultless : faults (codes "replay") replay_rules first ws ≡ []) where
  -- the faults are those of what is wanted
  wanted : fault_of replay_app ws ≡ [] → check_fault (form_shape (codes "replay") replay_rules) (replay_rows ws) false ≡ []
  wanted e = sym (level-faultless (codes "replay") replay_rules ws faultless) ∙ (sym (replay_fault ws) ∙ e)

  replay_operands : (operands : List Text) (options : Uses) → parts_of None ws ≡ Some (record { operands = operands; options = options }) → length operands ≤ 3 → are_options replay_names options ≡ true
      → ((x : Text) → first_of x (replay_rows ws) ≡ value_of x (paired replay_ids operands ++ options))
      → ((x : Text) → is_given_row x (replay_rows ws) ≡ is_some (value_of x (paired replay_ids operands ++ options)))
      → ReplayReads ws
  replay_operands [] options is short fit found is_found =
      let none = not_value (codes "source") replay_names options fit refl in
      replay_refused (λ e. replay_wants_source (replay_rows ws) (is_found (codes "source") ∙ ap is_some none) (wanted e)) (rw is refl)
  replay_operands (source ∷ []) options is short fit found is_found =
      let none = not_value (codes "schedule") replay_names options fit refl in
      replay_refused (λ e. replay_wants_schedule (replay_rows ws) (is_found (codes "source")) (is_found (codes "schedule") ∙ ap is_some none) (wanted e)) (rw is refl)
  replay_operands (source ∷ schedule ∷ []) options is short fit found is_found =
      let none = not_value (codes "certificate") replay_names options fit refl in
      replay_refused (λ e. replay_wants_certificate (replay_rows ws) (is_found (codes "source")) (is_found (codes "schedule")) (is_found (codes "certificate") ∙ ap is_some none) (wanted e)) (rw is refl)
  replay_operands (source ∷ schedule ∷ certificate ∷ []) options is short fit found is_found =
      replay_taken source schedule certificate
      (replay_fault ws ∙ level-faultless (codes "replay") replay_rules ws faultless
      ∙ replay_met (replay_rows ws) (is_found (codes "source")) (is_found (codes "schedule")) (is_found (codes "certificate")))
      (ap (first_of (codes "source")) (replay_matches ws) ∙ found (codes "source"))
      (ap (first_of (codes "schedule")) (replay_matches ws) ∙ found (codes "schedule"))
      (ap (first_of (codes "certificate")) (replay_matches ws) ∙ found (codes "certificate"))
      (rw (is, fit) refl)
  replay_operands (source ∷ schedule ∷ certificate ∷ more ∷ operands) options is short fit found is_found = absurd (omega arith)

pub replay_reads : (ws : List Text) → is_clean ws ≡ true → ReplayReads ws
replay_reads ws clean = go (read (codes "replay") replay_rules replay_ids replay_names ws replay_options replay_stands clean)
  where
    with_options : (source schedule certificate : Text) (b : Bool) → (b ≡ true → ⊥) → cond b (Some (Replay source schedule certificate)) None ≡ None
    with_options source schedule certificate true bad = absurd (bad refl)
    with_options source schedule certificate false bad = refl

    unfit : (operands : List Text) (options : Uses) → (length operands ≤ 3 → are_options replay_names options ≡ true → ⊥) → replay_of operands options ≡ None
    unfit [] options bad = refl
    unfit (source ∷ []) options bad = refl
    unfit (source ∷ schedule ∷ []) options bad = refl
    unfit (source ∷ schedule ∷ certificate ∷ []) options bad = with_options source schedule certificate (are_options replay_names options) (bad (omega arith))
    unfit (source ∷ schedule ∷ certificate ∷ more ∷ operands) options bad = refl

    none : (o : Option Parts) → ((q : Parts) → o ≡ Some q → length q.operands ≤ 3 → are_options replay_names q.options ≡ true → ⊥) → option_and_then (form_of (codes "replay")) o ≡ None
    none None bad = refl
    none (Some q) bad = unfit q.operands q.options (bad q refl)

    go : Verdict [] replay_ids replay_names (parts_of None ws) (faults (codes "replay") replay_rules first ws) (replay_rows ws) → ReplayReads ws
    go (both b) =
        replay_operands ws b.faultless b.parts.operands b.parts.options b.is b.short b.options
        (found (codes "replay") replay_rules replay_ids replay_names ws b) (is_found (codes "replay") replay_rules replay_ids replay_names ws b)
    go (neither n) = replay_refused (λ e. n.faulty (or_else-first _ _ (sym (replay_fault ws) ∙ e))) (none (parts_of None ws) n.unfit)

-- ---- What the code finds in the matches

pub replay_none : (ws : List Text) → is_clean ws ≡ true → Parses replay_app ws None → answer (codes "replay") ws ≡ None
replay_none ws clean fails = go (replay_reads ws clean)
  where
    go : ReplayReads ws → answer (codes "replay") ws ≡ None
    go (replay_taken source schedule certificate fault is_source is_schedule is_certificate is) = absurd (fails fault)
    go (replay_refused fault is) = is

pub record ReplayFinds (ws : List Text) (f : Found) : Type 0 where
  pub source : Text
  pub schedule : Text
  pub certificate : Text
  pub is_source : first_value f (codes "source") ≡ Some source
  pub is_schedule : first_value f (codes "schedule") ≡ Some schedule
  pub is_certificate : first_value f (codes "certificate") ≡ Some certificate
  pub is : answer (codes "replay") ws ≡ Some (Replay source schedule certificate)

pub replay_some : (ws : List Text) (m : ArgMatches) → is_clean ws ≡ true → Parses replay_app ws (Some m) → ReplayFinds ws (found_of m)
replay_some ws m clean parses = go (replay_reads ws clean)
  where
    go : ReplayReads ws → ReplayFinds ws (found_of m)
    go (replay_taken source schedule certificate fault is_source is_schedule is_certificate is) = record {
      source = source;
      schedule = schedule;
      certificate = certificate;
      is_source = text_at (found_of m) replay_app ws (codes "source") (Some source) parses.1 is_source;
      is_schedule = text_at (found_of m) replay_app ws (codes "schedule") (Some schedule) parses.1 is_schedule;
      is_certificate = text_at (found_of m) replay_app ws (codes "certificate") (Some certificate) parses.1 is_certificate;
      is = is;
    }
    go (replay_refused fault is) = absurd (fault parses.0)

module _ (ws : List Text) (f : Found) where
  pub replay_no_source : ReplayFinds ws f → None ≡ first_value f (codes "source") → None ≡ answer (codes "replay") ws
  replay_no_source finds none = absurd (no_text finds.source (none ∙ finds.is_source))

  pub replay_no_schedule : ReplayFinds ws f → None ≡ first_value f (codes "schedule") → None ≡ answer (codes "replay") ws
  replay_no_schedule finds none = absurd (no_text finds.schedule (none ∙ finds.is_schedule))

  pub replay_no_certificate : ReplayFinds ws f → None ≡ first_value f (codes "certificate") → None ≡ answer (codes "replay") ws
  replay_no_certificate finds none = absurd (no_text finds.certificate (none ∙ finds.is_certificate))

  pub replay_answer : (source schedule certificate : Text) → ReplayFinds ws f → Some source ≡ first_value f (codes "source") → Some schedule ≡ first_value f (codes "schedule")
      → Some certificate ≡ first_value f (codes "certificate") → Some (Replay source schedule certificate) ≡ answer (codes "replay") ws
  replay_answer source schedule certificate finds is_source is_schedule is_certificate =
      ap₂ (λ s t. Some (Replay s t certificate)) (some_text (is_source ∙ finds.is_source)) (some_text (is_schedule ∙ finds.is_schedule))
      ∙ ap (λ c. Some (Replay finds.source finds.schedule c)) (some_text (is_certificate ∙ finds.is_certificate)) ∙ sym finds.is
