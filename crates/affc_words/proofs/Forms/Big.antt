-- `big N`: its clap command against the definition.
use Rattle.std.proofs.Common.{◌≡◌, ◌∙◌, ◌≤◌, ℕ, Bool, cond, true, false, true≢false, List, [], ◌∷◌, ◌++◌, length, Option, Some, None, refl, sym, ap, arith, codes}
use Rattle.std.specs.Prelude.{option_and_then, option_map}
use Rattle.std.specs.Option.{is_some}
use Rattle.clap.specs.Walk.{Row, Rule, first_of, nothing_held}
use Rattle.clap.specs.Takes.{is_given as is_given_row}
use Rattle.clap.specs.Simple.{built, matches_of}
use Rattle.clap.specs.Faults.{check_fault, defaults_fault, fault_of}
use Rattle.clap.specs.Matches.{first_value, found_of}
use Rattle.clap.specs.declared.parser.matches.ArgMatches.{ArgMatches}
use Rattle.clap.specs.declared.parser.matches.Found.{Found}
use Rattle.clap.proofs.FaultLemmas.{leaf_fault}
use Rattle.affc_words.specs.Command.{Big, Parts, answer, are_options, big_of, form_of, parts_of, stages_of, value_of}
use Rattle.affc_words.specs.Parsed.{Parses, big_app, is_clean}
use Rattle.affc_words.proofs.Clap.Uses.{Text, Uses, paired}
use Rattle.affc_words.proofs.Clap.Plain.{plain_rule, or_else-first}
use Rattle.affc_words.proofs.Clap.Turns.{faults, ended, form_shape}
use Rattle.affc_words.proofs.Clap.Stands.{HasOptions, Stands}
use Rattle.affc_words.proofs.Clap.Verdicts.{Verdict, both, neither}
use Rattle.affc_words.proofs.Clap.Levels.{first, not_value, no_default, no_default_fault, HasNoDefaults, level, level_fault-is, level-faultless, read, found, is_found}
use Rattle.affc_words.proofs.Forms.Shared.{text_at, no_text, some_text}

abbrev pub big_rules : List Rule
big_rules = plain_rule (codes "stages") None (Some 1) true ∷ []

abbrev big_ids : List Text
big_ids = codes "stages" ∷ []

abbrev big_names : List Text
big_names = []

big_options : HasOptions big_rules big_names
big_options = record { these = λ n has. absurd (true≢false (sym has)); no_other = λ n none. refl }

big_stands : Stands big_rules big_names [] big_ids big_names 1
big_stands = record {
  follow = (record { long = None; index = Some 1; required = true; by_index = refl; by_id = refl }, refl);
  distinct = refl;
  apart = λ x has. absurd (true≢false (sym has));
  left = λ x. refl;
  fresh = λ x has. refl;
}

-- ---- No argument has a default

big_defaults : HasNoDefaults (codes "big") big_rules
unfolding defaults_fault
big_defaults rows = (
  rw (no_default_fault (codes "stages") None (Some 1) true rows) refl,
  rw (no_default (codes "stages") None (Some 1) true rows) refl,
)

-- ---- What is wanted

big_met : (rows : List Row) → is_given_row (codes "stages") rows ≡ true → check_fault (form_shape (codes "big") big_rules) rows false ≡ []
big_met rows e = rw e refl

big_wants : (rows : List Row) → is_given_row (codes "stages") rows ≡ false → check_fault (form_shape (codes "big") big_rules) rows false ≡ [] → ⊥
big_wants rows e none = let bad = rw e at none in cc

-- ---- Its clap command, against the definition

pub data BigReads (ws : List Text) : Type 0 where
  big_taken : (stages : Text) → fault_of big_app ws ≡ [] → first_of (codes "stages") (matches_of big_app ws) ≡ Some stages → answer (codes "big") ws ≡ option_map Big (stages_of stages) → BigReads ws
  big_refused : (fault_of big_app ws ≡ [] → ⊥) → answer (codes "big") ws ≡ None → BigReads ws

abbrev big_rows : List Text → List Row
big_rows ws = ended (codes "big") big_rules first ws

big_fault : (ws : List Text) → fault_of big_app ws ≡ level (codes "big") big_rules ws
big_fault ws = leaf_fault (built big_app) nothing_held ws refl ∙ level_fault-is (codes "big") big_rules big_defaults ws

big_matches : (ws : List Text) → matches_of big_app ws ≡ big_rows ws
big_matches ws = (big_defaults (big_rows ws)).1

module _ (ws : List Text) (faultless : faults (codes "big") big_rules first ws ≡ []) where
  big_by : (operands : List Text) (options : Uses) → parts_of None ws ≡ Some (record { operands = operands; options = options }) → length operands ≤ 1 → are_options big_names options ≡ true
      → ((x : Text) → first_of x (big_rows ws) ≡ value_of x (paired big_ids operands ++ options))
      → ((x : Text) → is_given_row x (big_rows ws) ≡ is_some (value_of x (paired big_ids operands ++ options)))
      → BigReads ws
  big_by [] options is short fit found is_found =
      let none = not_value (codes "stages") big_names options fit refl in
      big_refused (λ e. big_wants (big_rows ws) (is_found (codes "stages") ∙ ap is_some none) (sym (level-faultless (codes "big") big_rules ws faultless) ∙ (sym (big_fault ws) ∙ e))) (rw is refl)
  big_by (stages ∷ []) options is short fit found is_found =
      big_taken stages
      (big_fault ws ∙ level-faultless (codes "big") big_rules ws faultless ∙ big_met (big_rows ws) (is_found (codes "stages")))
      (ap (first_of (codes "stages")) (big_matches ws) ∙ found (codes "stages"))
      (rw (is, fit) refl)
  big_by (stages ∷ more ∷ operands) options is short fit found is_found = absurd (omega arith)

pub big_reads : (ws : List Text) → is_clean ws ≡ true → BigReads ws
big_reads ws clean = go (read (codes "big") big_rules big_ids big_names ws big_options big_stands clean)
  where
    with_options : (stages : Text) (b : Bool) → (b ≡ true → ⊥) → cond b (option_map Big (stages_of stages)) None ≡ None
    with_options stages true bad = absurd (bad refl)
    with_options stages false bad = refl

    unfit : (operands : List Text) (options : Uses) → (length operands ≤ 1 → are_options big_names options ≡ true → ⊥) → big_of operands options ≡ None
    unfit [] options bad = refl
    unfit (stages ∷ []) options bad = with_options stages (are_options big_names options) (bad (omega arith))
    unfit (stages ∷ more ∷ operands) options bad = refl

    none : (o : Option Parts) → ((q : Parts) → o ≡ Some q → length q.operands ≤ 1 → are_options big_names q.options ≡ true → ⊥) → option_and_then (form_of (codes "big")) o ≡ None
    none None bad = refl
    none (Some q) bad = unfit q.operands q.options (bad q refl)

    go : Verdict [] big_ids big_names (parts_of None ws) (faults (codes "big") big_rules first ws) (big_rows ws) → BigReads ws
    go (both b) =
        big_by ws b.faultless b.parts.operands b.parts.options b.is b.short b.options
        (found (codes "big") big_rules big_ids big_names ws b) (is_found (codes "big") big_rules big_ids big_names ws b)
    go (neither n) = big_refused (λ e. n.faulty (or_else-first _ _ (sym (big_fault ws) ∙ e))) (none (parts_of None ws) n.unfit)

-- ---- What the code finds in the matches

pub big_none : (ws : List Text) → is_clean ws ≡ true → Parses big_app ws None → answer (codes "big") ws ≡ None
big_none ws clean fails = go (big_reads ws clean)
  where
    go : BigReads ws → answer (codes "big") ws ≡ None
    go (big_taken stages fault is_stages is) = absurd (fails fault)
    go (big_refused fault is) = is

pub record BigFinds (ws : List Text) (f : Found) : Type 0 where
  pub stages : Text
  pub is_stages : first_value f (codes "stages") ≡ Some stages
  pub is : answer (codes "big") ws ≡ option_map Big (stages_of stages)

pub big_some : (ws : List Text) (m : ArgMatches) → is_clean ws ≡ true → Parses big_app ws (Some m) → BigFinds ws (found_of m)
big_some ws m clean parses = go (big_reads ws clean)
  where
    go : BigReads ws → BigFinds ws (found_of m)
    go (big_taken stages fault is_stages is) = record {
      stages = stages;
      is_stages = text_at (found_of m) big_app ws (codes "stages") (Some stages) parses.1 is_stages;
      is = is;
    }
    go (big_refused fault is) = absurd (fault parses.0)

module _ (ws : List Text) (f : Found) where
  pub big_missing : BigFinds ws f → None ≡ first_value f (codes "stages") → None ≡ answer (codes "big") ws
  big_missing finds none = absurd (no_text finds.stages (none ∙ finds.is_stages))

  big_answer_is : (text : Text) (stages : Option ℕ) → BigFinds ws f → Some text ≡ first_value f (codes "stages") → stages ≡ stages_of text
      → option_map Big stages ≡ answer (codes "big") ws
  big_answer_is text stages finds is_stages is = ap (option_map Big) (is ∙ ap stages_of (some_text (is_stages ∙ finds.is_stages))) ∙ sym finds.is

  pub big_no_number : (text : Text) → BigFinds ws f → Some text ≡ first_value f (codes "stages") → None ≡ stages_of text → None ≡ answer (codes "big") ws
  big_no_number text = big_answer_is text None

  pub big_answer : (text : Text) (stages : ℕ) → BigFinds ws f → Some text ≡ first_value f (codes "stages") → Some stages ≡ stages_of text → Some (Big stages) ≡ answer (codes "big") ws
  big_answer text stages = big_answer_is text (Some stages)
