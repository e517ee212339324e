-- `fold SRC [SCHED] [--budget N] [--cost NAME] [--cert FILE]`: its clap command against the definition.
use Rattle.std.proofs.Common.{◌≡◌, ◌∙◌, ◌≤◌, Bool, cond, true, false, List, [], ◌∷◌, ◌++◌, length, Option, Some, None, refl, sym, ap, ap₂, arith, codes}
use Rattle.std.specs.Prelude.{option_and_then}
use Rattle.std.specs.Option.{is_some}
use Rattle.clap.specs.Walk.{Row, Rule, first_of, nothing_held}
use Rattle.clap.specs.Takes.{is_given as is_given_row}
use Rattle.clap.specs.Simple.{built, matches_of}
use Rattle.clap.specs.Faults.{check_fault, defaults_fault, fault_of}
use Rattle.clap.specs.Matches.{first_value, found_of}
use Rattle.clap.specs.declared.parser.matches.ArgMatches.{ArgMatches}
use Rattle.clap.specs.declared.parser.matches.Found.{Found}
use Rattle.clap.proofs.FaultLemmas.{leaf_fault}
use Rattle.affc_words.specs.declared.words.Settings.{Settings}
use Rattle.affc_words.specs.Command.{Parts, among, answer, are_options, fold_by, fold_of, form_of, parts_of, settings_of, value_of}
use Rattle.affc_words.specs.Parsed.{Parses, fold_app, is_clean}
use Rattle.affc_words.proofs.Clap.Uses.{Text, Uses, paired}
use Rattle.affc_words.proofs.Clap.Plain.{plain_rule, or_else-first}
use Rattle.affc_words.proofs.Clap.Turns.{faults, ended, form_shape}
use Rattle.affc_words.proofs.Clap.Stands.{HasOptions, IsOption, Stands}
use Rattle.affc_words.proofs.Clap.Verdicts.{Verdict, both, neither}
use Rattle.affc_words.proofs.Clap.Levels.{first, not_value, no_default, no_default_fault, HasNoDefaults, level, level_fault-is, level-faultless, read, found, is_found}
use Rattle.affc_words.proofs.Forms.Shared.{and_true, one_of_three, none_of_three, text_at, no_text, some_text}

abbrev pub fold_rules : List Rule
fold_rules = plain_rule (codes "source") None (Some 1) true ∷ plain_rule (codes "schedule") None (Some 2) false ∷ plain_rule (codes "budget") (Some (codes "budget")) None false ∷ plain_rule (codes "cost") (Some (codes "cost")) None false ∷ plain_rule (codes "cert") (Some (codes "cert")) None false ∷ []

abbrev fold_ids : List Text
fold_ids = codes "source" ∷ codes "schedule" ∷ []

abbrev fold_names : List Text
fold_names = codes "budget" ∷ codes "cost" ∷ codes "cert" ∷ []

fold_options : HasOptions fold_rules fold_names
fold_options = record {
  these = λ n has. one_of_three (λ (x : Text). IsOption fold_rules x) (codes "budget") (codes "cost") (codes "cert") n
      (record { long = Some (codes "budget"); index = None; required = false; by_long = refl; by_id = refl })
      (record { long = Some (codes "cost"); index = None; required = false; by_long = refl; by_id = refl })
      (record { long = Some (codes "cert"); index = None; required = false; by_long = refl; by_id = refl }) has;
  no_other = λ n none. let e = none_of_three (codes "budget") (codes "cost") (codes "cert") n none in rw (e.0, e.1, e.2) refl;
}

fold_stands : Stands fold_rules fold_names [] fold_ids fold_names 1
fold_stands = record {
  follow = (
    record { long = None; index = Some 1; required = true; by_index = refl; by_id = refl },
    (record { long = None; index = Some 2; required = false; by_index = refl; by_id = refl }, refl),
  );
  distinct = refl;
  apart = λ x has. one_of_three (λ (n : Text). among n fold_ids ≡ false) (codes "budget") (codes "cost") (codes "cert") x refl refl refl has;
  left = λ x. sym (and_true (among x fold_names));
  fresh = λ x has. refl;
}

-- ---- No argument has a default

fold_defaults : HasNoDefaults (codes "fold") fold_rules
unfolding defaults_fault
fold_defaults rows =
    let source_kept = no_default (codes "source") None (Some 1) true rows in
    let schedule_kept = no_default (codes "schedule") None (Some 2) false rows in
    let budget_kept = no_default (codes "budget") (Some (codes "budget")) None false rows in
    let cost_kept = no_default (codes "cost") (Some (codes "cost")) None false rows in (
      rw (
        no_default_fault (codes "source") None (Some 1) true rows,
        source_kept,
        no_default_fault (codes "schedule") None (Some 2) false rows,
        schedule_kept,
        no_default_fault (codes "budget") (Some (codes "budget")) None false rows,
        budget_kept,
        no_default_fault (codes "cost") (Some (codes "cost")) None false rows,
        cost_kept,
        no_default_fault (codes "cert") (Some (codes "cert")) None false rows,
      ) refl,
      rw (source_kept, schedule_kept, budget_kept, cost_kept, no_default (codes "cert") (Some (codes "cert")) None false rows) refl,
    )

-- ---- What is wanted

fold_met : (rows : List Row) → is_given_row (codes "source") rows ≡ true → check_fault (form_shape (codes "fold") fold_rules) rows false ≡ []
fold_met rows e = rw e refl

fold_wants : (rows : List Row) → is_given_row (codes "source") rows ≡ false → check_fault (form_shape (codes "fold") fold_rules) rows false ≡ [] → ⊥
fold_wants rows e none = let bad = rw e at none in cc

-- ---- Its clap command, against the definition

pub data FoldReads (ws : List Text) : Type 0 where
  fold_taken : (source : Text) (schedule budget cost certificate : Option Text) → fault_of fold_app ws ≡ [] → first_of (codes "source") (matches_of fold_app ws) ≡ Some source
      → first_of (codes "schedule") (matches_of fold_app ws) ≡ schedule → first_of (codes "budget") (matches_of fold_app ws) ≡ budget
      → first_of (codes "cost") (matches_of fold_app ws) ≡ cost → first_of (codes "cert") (matches_of fold_app ws) ≡ certificate
      → answer (codes "fold") ws ≡ fold_by source schedule (settings_of budget cost) certificate → FoldReads ws
  fold_refused : (fault_of fold_app ws ≡ [] → ⊥) → answer (codes "fold") ws ≡ None → FoldReads ws

abbrev fold_rows : List Text → List Row
fold_rows ws = ended (codes "fold") fold_rules first ws

fold_fault : (ws : List Text) → fault_of fold_app ws ≡ level (codes "fold") fold_rules ws
fold_fault ws = leaf_fault (built fold_app) nothing_held ws refl ∙ level_fault-is (codes "fold") fold_rules fold_defaults ws

fold_matches : (ws : List Text) → matches_of fold_app ws ≡ fold_rows ws
fold_matches ws = (fold_defaults (fold_rows ws)).1

module _ (ws : List Text) (faultless : faults (codes "fold") fold_rules first ws ≡ []) where
  fold_operands : (operands : List Text) (options : Uses) → parts_of None ws ≡ Some (record { operands = operands; options = options }) → length operands ≤ 2 → are_options fold_names options ≡ true
      → ((x : Text) → first_of x (fold_rows ws) ≡ value_of x (paired fold_ids operands ++ options))
      → ((x : Text) → is_given_row x (fold_rows ws) ≡ is_some (value_of x (paired fold_ids operands ++ options)))
      → FoldReads ws
  fold_operands [] options is short fit found is_found =
      let none = not_value (codes "source") fold_names options fit refl in
      fold_refused (λ e. fold_wants (fold_rows ws) (is_found (codes "source") ∙ ap is_some none) (sym (level-faultless (codes "fold") fold_rules ws faultless) ∙ (sym (fold_fault ws) ∙ e))) (rw is refl)
  fold_operands (source ∷ []) options is short fit found is_found =
      let none = not_value (codes "schedule") fold_names options fit refl in
      fold_taken source None (value_of (codes "budget") options) (value_of (codes "cost") options) (value_of (codes "cert") options)
      (fold_fault ws ∙ level-faultless (codes "fold") fold_rules ws faultless ∙ fold_met (fold_rows ws) (is_found (codes "source")))
      (ap (first_of (codes "source")) (fold_matches ws) ∙ found (codes "source"))
      (ap (first_of (codes "schedule")) (fold_matches ws) ∙ found (codes "schedule") ∙ none)
      (ap (first_of (codes "budget")) (fold_matches ws) ∙ found (codes "budget"))
      (ap (first_of (codes "cost")) (fold_matches ws) ∙ found (codes "cost"))
      (ap (first_of (codes "cert")) (fold_matches ws) ∙ found (codes "cert"))
      (rw (is, fit) refl)
  fold_operands (source ∷ schedule ∷ []) options is short fit found is_found =
      fold_taken source (Some schedule) (value_of (codes "budget") options) (value_of (codes "cost") options) (value_of (codes "cert") options)
      (fold_fault ws ∙ level-faultless (codes "fold") fold_rules ws faultless ∙ fold_met (fold_rows ws) (is_found (codes "source")))
      (ap (first_of (codes "source")) (fold_matches ws) ∙ found (codes "source"))
      (ap (first_of (codes "schedule")) (fold_matches ws) ∙ found (codes "schedule"))
      (ap (first_of (codes "budget")) (fold_matches ws) ∙ found (codes "budget"))
      (ap (first_of (codes "cost")) (fold_matches ws) ∙ found (codes "cost"))
      (ap (first_of (codes "cert")) (fold_matches ws) ∙ found (codes "cert"))
      (rw (is, fit) refl)
  fold_operands (source ∷ schedule ∷ more ∷ operands) options is short fit found is_found = absurd (omega arith)

pub fold_reads : (ws : List Text) → is_clean ws ≡ true → FoldReads ws
fold_reads ws clean = go (read (codes "fold") fold_rules fold_ids fold_names ws fold_options fold_stands clean)
  where
    with_options : (source : Text) (schedule : Option Text) (options : Uses) (b : Bool) → (b ≡ true → ⊥)
        → cond b (fold_by source schedule (settings_of (value_of (codes "budget") options) (value_of (codes "cost") options)) (value_of (codes "cert") options)) None ≡ None
    with_options source schedule options true bad = absurd (bad refl)
    with_options source schedule options false bad = refl

    unfit : (operands : List Text) (options : Uses) → (length operands ≤ 2 → are_options fold_names options ≡ true → ⊥) → fold_of operands options ≡ None
    unfit [] options bad = refl
    unfit (source ∷ []) options bad = with_options source None options (are_options fold_names options) (bad (omega arith))
    unfit (source ∷ schedule ∷ []) options bad = with_options source (Some schedule) options (are_options fold_names options) (bad (omega arith))
    unfit (source ∷ schedule ∷ more ∷ operands) options bad = refl

    none : (o : Option Parts) → ((q : Parts) → o ≡ Some q → length q.operands ≤ 2 → are_options fold_names q.options ≡ true → ⊥) → option_and_then (form_of (codes "fold")) o ≡ None
    none None bad = refl
    none (Some q) bad = unfit q.operands q.options (bad q refl)

    go : Verdict [] fold_ids fold_names (parts_of None ws) (faults (codes "fold") fold_rules first ws) (fold_rows ws) → FoldReads ws
    go (both b) =
        fold_operands ws b.faultless b.parts.operands b.parts.options b.is b.short b.options
        (found (codes "fold") fold_rules fold_ids fold_names ws b) (is_found (codes "fold") fold_rules fold_ids fold_names ws b)
    go (neither n) = fold_refused (λ e. n.faulty (or_else-first _ _ (sym (fold_fault ws) ∙ e))) (none (parts_of None ws) n.unfit)

-- ---- What the code finds in the matches

pub fold_none : (ws : List Text) → is_clean ws ≡ true → Parses fold_app ws None → answer (codes "fold") ws ≡ None
fold_none ws clean fails = go (fold_reads ws clean)
  where
    go : FoldReads ws → answer (codes "fold") ws ≡ None
    go (fold_taken source schedule budget cost certificate fault is_source is_schedule is_budget is_cost is_certificate is) = absurd (fails fault)
    go (fold_refused fault is) = is

pub record FoldFinds (ws : List Text) (f : Found) : Type 0 where
  pub source : Text
  pub is_source : first_value f (codes "source") ≡ Some source
  pub is : answer (codes "fold") ws ≡ fold_by source (first_value f (codes "schedule")) (settings_of (first_value f (codes "budget")) (first_value f (codes "cost"))) (first_value f (codes "cert"))

pub fold_some : (ws : List Text) (m : ArgMatches) → is_clean ws ≡ true → Parses fold_app ws (Some m) → FoldFinds ws (found_of m)
fold_some ws m clean parses = go (fold_reads ws clean)
  where
    go : FoldReads ws → FoldFinds ws (found_of m)
    go (fold_taken source schedule budget cost certificate fault is_source is_schedule is_budget is_cost is_certificate is) = record {
      source = source;
      is_source = text_at (found_of m) fold_app ws (codes "source") (Some source) parses.1 is_source;
      is = is ∙ ap₂ (λ s o. fold_by source s (settings_of o cost) certificate)
          (sym (text_at (found_of m) fold_app ws (codes "schedule") schedule parses.1 is_schedule))
          (sym (text_at (found_of m) fold_app ws (codes "budget") budget parses.1 is_budget))
          ∙ ap₂ (λ o c. fold_by source (first_value (found_of m) (codes "schedule")) (settings_of (first_value (found_of m) (codes "budget")) o) c)
          (sym (text_at (found_of m) fold_app ws (codes "cost") cost parses.1 is_cost))
          (sym (text_at (found_of m) fold_app ws (codes "cert") certificate parses.1 is_certificate));
    }
    go (fold_refused fault is) = absurd (fault parses.0)

module _ (ws : List Text) (f : Found) where
  pub fold_missing : FoldFinds ws f → None ≡ first_value f (codes "source") → None ≡ answer (codes "fold") ws
  fold_missing finds none = absurd (no_text finds.source (none ∙ finds.is_source))

  pub fold_answer : (source : Text) (schedule : Option Text) (settings : Option Settings) (certificate : Option Text) → FoldFinds ws f → Some source ≡ first_value f (codes "source")
      → schedule ≡ first_value f (codes "schedule") → settings ≡ settings_of (first_value f (codes "budget")) (first_value f (codes "cost"))
      → certificate ≡ first_value f (codes "cert") → fold_by source schedule settings certificate ≡ answer (codes "fold") ws
  fold_answer source schedule settings certificate finds is_source is_schedule are_settings is_certificate =
      ap₂ (λ s o. fold_by s o settings certificate) (some_text (is_source ∙ finds.is_source)) is_schedule
      ∙ ap₂ (fold_by finds.source (first_value f (codes "schedule"))) are_settings is_certificate ∙ sym finds.is
