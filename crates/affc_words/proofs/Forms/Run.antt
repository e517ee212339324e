-- `run SRC DATA [--steps N]`: its clap command against the definition.
use Rattle.std.proofs.Common.{◌≡◌, ◌∙◌, ◌≤◌, ℕ, Bool, cond, true, false, List, [], ◌∷◌, ◌++◌, length, Option, Some, None, refl, sym, ap, ap₂, subst, arith, codes}
use Rattle.std.specs.Prelude.{option_and_then, option_map}
use Rattle.std.specs.Option.{is_some}
use Rattle.clap.specs.Walk.{Row, Rule, first_of, nothing_held}
use Rattle.clap.specs.Takes.{is_given as is_given_row}
use Rattle.clap.specs.Simple.{built, matches_of}
use Rattle.clap.specs.Faults.{check_fault, defaults_fault, fault_of}
use Rattle.clap.specs.Matches.{first_value, found_of}
use Rattle.clap.specs.declared.parser.matches.ArgMatches.{ArgMatches}
use Rattle.clap.specs.declared.parser.matches.Found.{Found}
use Rattle.clap.proofs.FaultLemmas.{leaf_fault}
use Rattle.affc_words.specs.Command.{Run, Parts, among, answer, are_options, form_of, parts_of, run_of, steps_of, value_of}
use Rattle.affc_words.specs.Parsed.{Parses, is_clean, run_app}
use Rattle.affc_words.proofs.Clap.Uses.{Text, Uses, paired}
use Rattle.affc_words.proofs.Clap.Plain.{plain_rule, or_else-first}
use Rattle.affc_words.proofs.Clap.Turns.{faults, ended, form_shape}
use Rattle.affc_words.proofs.Clap.Stands.{HasOptions, IsOption, Stands}
use Rattle.affc_words.proofs.Clap.Verdicts.{Verdict, both, neither}
use Rattle.affc_words.proofs.Clap.Levels.{first, not_value, no_default, no_default_fault, HasNoDefaults, level, level_fault-is, level-faultless, read, found, is_found}
use Rattle.affc_words.proofs.Forms.Shared.{and_true, only, text_at, no_text, some_text}

abbrev pub run_rules : List Rule
run_rules = plain_rule (codes "source") None (Some 1) true ∷ plain_rule (codes "data") None (Some 2) true ∷ plain_rule (codes "steps") (Some (codes "steps")) None false ∷ []

abbrev run_ids : List Text
run_ids = codes "source" ∷ codes "data" ∷ []

abbrev run_names : List Text
run_names = codes "steps" ∷ []

run_options : HasOptions run_rules run_names
run_options = record {
  these = λ n has. subst (λ (x : Text). IsOption run_rules x) (only (codes "steps") n has)
      (record { long = Some (codes "steps"); index = None; required = false; by_long = refl; by_id = refl });
  no_other = λ n none. rw none refl;
}

run_stands : Stands run_rules run_names [] run_ids run_names 1
run_stands = record {
  follow = (
    record { long = None; index = Some 1; required = true; by_index = refl; by_id = refl },
    (record { long = None; index = Some 2; required = true; by_index = refl; by_id = refl }, refl),
  );
  distinct = refl;
  apart = λ x has. subst (λ (n : Text). among n run_ids ≡ false) (only (codes "steps") x has) refl;
  left = λ x. sym (and_true (among x run_names));
  fresh = λ x has. refl;
}

-- ---- No argument has a default

run_defaults : HasNoDefaults (codes "run") run_rules
unfolding defaults_fault
run_defaults rows =
    let first_kept = no_default (codes "source") None (Some 1) true rows in
    let second_kept = no_default (codes "data") None (Some 2) true rows in (
      rw (
        no_default_fault (codes "source") None (Some 1) true rows,
        first_kept,
        no_default_fault (codes "data") None (Some 2) true rows,
        second_kept,
        no_default_fault (codes "steps") (Some (codes "steps")) None false rows,
      ) refl,
      rw (first_kept, second_kept, no_default (codes "steps") (Some (codes "steps")) None false rows) refl,
    )

-- ---- What is wanted

run_met : (rows : List Row) → is_given_row (codes "source") rows ≡ true → is_given_row (codes "data") rows ≡ true → check_fault (form_shape (codes "run") run_rules) rows false ≡ []
run_met rows e f = rw (e, f) refl

run_wants_source : (rows : List Row) → is_given_row (codes "source") rows ≡ false → check_fault (form_shape (codes "run") run_rules) rows false ≡ [] → ⊥
run_wants_source rows e none = let bad = rw e at none in cc

run_wants_data : (rows : List Row) → is_given_row (codes "source") rows ≡ true → is_given_row (codes "data") rows ≡ false → check_fault (form_shape (codes "run") run_rules) rows false ≡ [] → ⊥
run_wants_data rows e f none = let bad = rw (e, f) at none in cc

-- ---- Its clap command, against the definition

pub data RunReads (ws : List Text) : Type 0 where
  run_taken : (source feed : Text) (steps : Option Text) → fault_of run_app ws ≡ [] → first_of (codes "source") (matches_of run_app ws) ≡ Some source
      → first_of (codes "data") (matches_of run_app ws) ≡ Some feed → first_of (codes "steps") (matches_of run_app ws) ≡ steps
      → answer (codes "run") ws ≡ option_map (Run source feed) (steps_of steps) → RunReads ws
  run_refused : (fault_of run_app ws ≡ [] → ⊥) → answer (codes "run") ws ≡ None → RunReads ws

abbrev run_rows : List Text → List Row
run_rows ws = ended (codes "run") run_rules first ws

run_fault : (ws : List Text) → fault_of run_app ws ≡ level (codes "run") run_rules ws
run_fault ws = leaf_fault (built run_app) nothing_held ws refl ∙ level_fault-is (codes "run") run_rules run_defaults ws

run_matches : (ws : List Text) → matches_of run_app ws ≡ run_rows ws
run_matches ws = (run_defaults (run_rows ws)).1

module _ (ws : List Text) (faultless : faults (codes "run") run_rules first ws ≡ []) where
  run_by : (operands : List Text) (options : Uses) → parts_of None ws ≡ Some (record { operands = operands; options = options }) → length operands ≤ 2 → are_options run_names options ≡ true
      → ((x : Text) → first_of x (run_rows ws) ≡ value_of x (paired run_ids operands ++ options))
      → ((x : Text) → is_given_row x (run_rows ws) ≡ is_some (value_of x (paired run_ids operands ++ options)))
      → RunReads ws
  run_by [] options is short fit found is_found =
      let none = not_value (codes "source") run_names options fit refl in
      run_refused (λ e. run_wants_source (run_rows ws) (is_found (codes "source") ∙ ap is_some none) (sym (level-faultless (codes "run") run_rules ws faultless) ∙ (sym (run_fault ws) ∙ e))) (rw is refl)
  run_by (source ∷ []) options is short fit found is_found =
      let none = not_value (codes "data") run_names options fit refl in
      run_refused (λ e. run_wants_data (run_rows ws) (is_found (codes "source")) (is_found (codes "data") ∙ ap is_some none) (sym (level-faultless (codes "run") run_rules ws faultless) ∙ (sym (run_fault ws) ∙ e))) (rw is refl)
  run_by (source ∷ feed ∷ []) options is short fit found is_found =
      run_taken source feed (value_of (codes "steps") options)
      (run_fault ws ∙ level-faultless (codes "run") run_rules ws faultless ∙ run_met (run_rows ws) (is_found (codes "source")) (is_found (codes "data")))
      (ap (first_of (codes "source")) (run_matches ws) ∙ found (codes "source"))
      (ap (first_of (codes "data")) (run_matches ws) ∙ found (codes "data"))
      (ap (first_of (codes "steps")) (run_matches ws) ∙ found (codes "steps"))
      (rw (is, fit) refl)
  run_by (source ∷ feed ∷ more ∷ operands) options is short fit found is_found = absurd (omega arith)

pub run_reads : (ws : List Text) → is_clean ws ≡ true → RunReads ws
run_reads ws clean = go (read (codes "run") run_rules run_ids run_names ws run_options run_stands clean)
  where
    unfit : (operands : List Text) (options : Uses) → (length operands ≤ 2 → are_options run_names options ≡ true → ⊥) → run_of operands options ≡ None
    unfit [] options bad = refl
    unfit (source ∷ []) options bad = refl
    unfit (source ∷ feed ∷ []) options bad = go (are_options run_names options) (bad (omega arith))
      where
        go : (b : Bool) → (b ≡ true → ⊥) → cond b (option_map (Run source feed) (steps_of (value_of (codes "steps") options))) None ≡ None
        go true bad = absurd (bad refl)
        go false bad = refl
    unfit (source ∷ feed ∷ more ∷ operands) options bad = refl

    none : (o : Option Parts) → ((q : Parts) → o ≡ Some q → length q.operands ≤ 2 → are_options run_names q.options ≡ true → ⊥) → option_and_then (form_of (codes "run")) o ≡ None
    none None bad = refl
    none (Some q) bad = unfit q.operands q.options (bad q refl)

    go : Verdict [] run_ids run_names (parts_of None ws) (faults (codes "run") run_rules first ws) (run_rows ws) → RunReads ws
    go (both b) = run_by ws b.faultless b.parts.operands b.parts.options b.is b.short b.options (found (codes "run") run_rules run_ids run_names ws b) (is_found (codes "run") run_rules run_ids run_names ws b)
    go (neither n) = run_refused (λ e. n.faulty (or_else-first _ _ (sym (run_fault ws) ∙ e))) (none (parts_of None ws) n.unfit)

-- ---- What the code finds in the matches

pub run_none : (ws : List Text) → is_clean ws ≡ true → Parses run_app ws None → answer (codes "run") ws ≡ None
run_none ws clean fails = go (run_reads ws clean)
  where
    go : RunReads ws → answer (codes "run") ws ≡ None
    go (run_taken source feed steps fault is_source is_feed is_steps is) = absurd (fails fault)
    go (run_refused fault is) = is

pub record RunFinds (ws : List Text) (f : Found) : Type 0 where
  pub source : Text
  pub feed : Text
  pub is_source : first_value f (codes "source") ≡ Some source
  pub is_feed : first_value f (codes "data") ≡ Some feed
  pub is : answer (codes "run") ws ≡ option_map (Run source feed) (steps_of (first_value f (codes "steps")))

pub run_some : (ws : List Text) (m : ArgMatches) → is_clean ws ≡ true → Parses run_app ws (Some m) → RunFinds ws (found_of m)
run_some ws m clean parses = go (run_reads ws clean)
  where
    go : RunReads ws → RunFinds ws (found_of m)
    go (run_taken source feed steps fault is_source is_feed is_steps is) = record {
      source = source;
      feed = feed;
      is_source = text_at (found_of m) run_app ws (codes "source") (Some source) parses.1 is_source;
      is_feed = text_at (found_of m) run_app ws (codes "data") (Some feed) parses.1 is_feed;
      is = is ∙ ap (λ o. option_map (Run source feed) (steps_of o)) (sym (text_at (found_of m) run_app ws (codes "steps") steps parses.1 is_steps));
    }
    go (run_refused fault is) = absurd (fault parses.0)

module _ (ws : List Text) (f : Found) where
  pub run_no_source : RunFinds ws f → None ≡ first_value f (codes "source") → None ≡ answer (codes "run") ws
  run_no_source finds none = absurd (no_text finds.source (none ∙ finds.is_source))

  pub run_no_feed : RunFinds ws f → None ≡ first_value f (codes "data") → None ≡ answer (codes "run") ws
  run_no_feed finds none = absurd (no_text finds.feed (none ∙ finds.is_feed))

  run_answer_is : (source feed : Text) (steps : Option ℕ) → RunFinds ws f → Some source ≡ first_value f (codes "source") → Some feed ≡ first_value f (codes "data")
      → steps ≡ steps_of (first_value f (codes "steps")) → option_map (Run source feed) steps ≡ answer (codes "run") ws
  run_answer_is source feed steps finds is_source is_feed is_steps =
      ap₂ (λ s v. option_map (Run s v) steps) (some_text (is_source ∙ finds.is_source)) (some_text (is_feed ∙ finds.is_feed))
      ∙ ap (option_map (Run finds.source finds.feed)) is_steps ∙ sym finds.is

  pub run_no_steps : (source feed : Text) → RunFinds ws f → Some source ≡ first_value f (codes "source") → Some feed ≡ first_value f (codes "data")
      → None ≡ steps_of (first_value f (codes "steps")) → None ≡ answer (codes "run") ws
  run_no_steps source feed = run_answer_is source feed None

  pub run_answer : (source feed : Text) (steps : ℕ) → RunFinds ws f → Some source ≡ first_value f (codes "source") → Some feed ≡ first_value f (codes "data")
      → Some steps ≡ steps_of (first_value f (codes "steps")) → Some (Run source feed steps) ≡ answer (codes "run") ws
  run_answer source feed steps = run_answer_is source feed (Some steps)
