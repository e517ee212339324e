-- `flow SRC`: its clap command against the definition.
use Rattle.std.proofs.Common.{◌≡◌, ◌∙◌, ◌≤◌, Bool, cond, true, false, true≢false, List, [], ◌∷◌, ◌++◌, length, Option, Some, None, refl, sym, ap, arith, codes}
use Rattle.std.specs.Prelude.{option_and_then}
use Rattle.std.specs.Option.{is_some}
use Rattle.clap.specs.Walk.{Row, Rule, first_of, nothing_held}
use Rattle.clap.specs.Takes.{is_given as is_given_row}
use Rattle.clap.specs.Simple.{built, matches_of}
use Rattle.clap.specs.Faults.{check_fault, defaults_fault, fault_of}
use Rattle.clap.specs.Matches.{first_value, found_of}
use Rattle.clap.specs.declared.parser.matches.ArgMatches.{ArgMatches}
use Rattle.clap.specs.declared.parser.matches.Found.{Found}
use Rattle.clap.proofs.FaultLemmas.{leaf_fault}
use Rattle.affc_words.specs.Command.{Flow, Parts, answer, are_options, flow_of, form_of, parts_of, value_of}
use Rattle.affc_words.specs.Parsed.{Parses, flow_app, is_clean}
use Rattle.affc_words.proofs.Clap.Uses.{Text, Uses, paired}
use Rattle.affc_words.proofs.Clap.Plain.{plain_rule, or_else-first}
use Rattle.affc_words.proofs.Clap.Turns.{faults, ended, form_shape}
use Rattle.affc_words.proofs.Clap.Stands.{HasOptions, Stands}
use Rattle.affc_words.proofs.Clap.Verdicts.{Verdict, both, neither}
use Rattle.affc_words.proofs.Clap.Levels.{first, not_value, no_default, no_default_fault, HasNoDefaults, level, level_fault-is, level-faultless, read, found, is_found}
use Rattle.affc_words.proofs.Forms.Shared.{text_at, no_text, some_text}

abbrev pub flow_rules : List Rule
flow_rules = plain_rule (codes "source") None (Some 1) true ∷ []

abbrev flow_ids : List Text
flow_ids = codes "source" ∷ []

abbrev flow_names : List Text
flow_names = []

flow_options : HasOptions flow_rules flow_names
flow_options = record { these = λ n has. absurd (true≢false (sym has)); no_other = λ n none. refl }

flow_stands : Stands flow_rules flow_names [] flow_ids flow_names 1
flow_stands = record {
  follow = (record { long = None; index = Some 1; required = true; by_index = refl; by_id = refl }, refl);
  distinct = refl;
  apart = λ x has. absurd (true≢false (sym has));
  left = λ x. refl;
  fresh = λ x has. refl;
}

-- ---- No argument has a default

flow_defaults : HasNoDefaults (codes "flow") flow_rules
unfolding defaults_fault
flow_defaults rows = (
  rw (no_default_fault (codes "source") None (Some 1) true rows) refl,
  rw (no_default (codes "source") None (Some 1) true rows) refl,
)

-- ---- What is wanted

flow_met : (rows : List Row) → is_given_row (codes "source") rows ≡ true → check_fault (form_shape (codes "flow") flow_rules) rows false ≡ []
flow_met rows e = rw e refl

flow_wants : (rows : List Row) → is_given_row (codes "source") rows ≡ false → check_fault (form_shape (codes "flow") flow_rules) rows false ≡ [] → ⊥
flow_wants rows e none = let bad = rw e at none in cc

-- ---- Its clap command, against the definition

pub data FlowReads (ws : List Text) : Type 0 where
  flow_taken : (source : Text) → fault_of flow_app ws ≡ [] → first_of (codes "source") (matches_of flow_app ws) ≡ Some source → answer (codes "flow") ws ≡ Some (Flow source) → FlowReads ws
  flow_refused : (fault_of flow_app ws ≡ [] → ⊥) → answer (codes "flow") ws ≡ None → FlowReads ws

abbrev flow_rows : List Text → List Row
flow_rows ws = ended (codes "flow") flow_rules first ws

flow_fault : (ws : List Text) → fault_of flow_app ws ≡ level (codes "flow") flow_rules ws
flow_fault ws = leaf_fault (built flow_app) nothing_held ws refl ∙ level_fault-is (codes "flow") flow_rules flow_defaults ws

flow_matches : (ws : List Text) → matches_of flow_app ws ≡ flow_rows ws
flow_matches ws = (flow_defaults (flow_rows ws)).1

module _ (ws : List Text) (faultless : faults (codes "flow") flow_rules first ws ≡ []) where
  flow_by : (operands : List Text) (options : Uses) → parts_of None ws ≡ Some (record { operands = operands; options = options }) → length operands ≤ 1 → are_options flow_names options ≡ true
      → ((x : Text) → first_of x (flow_rows ws) ≡ value_of x (paired flow_ids operands ++ options))
      → ((x : Text) → is_given_row x (flow_rows ws) ≡ is_some (value_of x (paired flow_ids operands ++ options)))
      → FlowReads ws
  flow_by [] options is short fit found is_found =
      let none = not_value (codes "source") flow_names options fit refl in
      flow_refused (λ e. flow_wants (flow_rows ws) (is_found (codes "source") ∙ ap is_some none) (sym (level-faultless (codes "flow") flow_rules ws faultless) ∙ (sym (flow_fault ws) ∙ e))) (rw is refl)
  flow_by (source ∷ []) options is short fit found is_found =
      flow_taken source
      (flow_fault ws ∙ level-faultless (codes "flow") flow_rules ws faultless ∙ flow_met (flow_rows ws) (is_found (codes "source")))
      (ap (first_of (codes "source")) (flow_matches ws) ∙ found (codes "source"))
      (rw (is, fit) refl)
  flow_by (source ∷ more ∷ operands) options is short fit found is_found = absurd (omega arith)

pub flow_reads : (ws : List Text) → is_clean ws ≡ true → FlowReads ws
flow_reads ws clean = go (read (codes "flow") flow_rules flow_ids flow_names ws flow_options flow_stands clean)
  where
    with_options : (source : Text) (b : Bool) → (b ≡ true → ⊥) → cond b (Some (Flow source)) None ≡ None
    with_options source true bad = absurd (bad refl)
    with_options source false bad = refl

    unfit : (operands : List Text) (options : Uses) → (length operands ≤ 1 → are_options flow_names options ≡ true → ⊥) → flow_of operands options ≡ None
    unfit [] options bad = refl
    unfit (source ∷ []) options bad = with_options source (are_options flow_names options) (bad (omega arith))
    unfit (source ∷ more ∷ operands) options bad = refl

    none : (o : Option Parts) → ((q : Parts) → o ≡ Some q → length q.operands ≤ 1 → are_options flow_names q.options ≡ true → ⊥) → option_and_then (form_of (codes "flow")) o ≡ None
    none None bad = refl
    none (Some q) bad = unfit q.operands q.options (bad q refl)

    go : Verdict [] flow_ids flow_names (parts_of None ws) (faults (codes "flow") flow_rules first ws) (flow_rows ws) → FlowReads ws
    go (both b) =
        flow_by ws b.faultless b.parts.operands b.parts.options b.is b.short b.options
        (found (codes "flow") flow_rules flow_ids flow_names ws b) (is_found (codes "flow") flow_rules flow_ids flow_names ws b)
    go (neither n) = flow_refused (λ e. n.faulty (or_else-first _ _ (sym (flow_fault ws) ∙ e))) (none (parts_of None ws) n.unfit)

-- ---- What the code finds in the matches

pub flow_none : (ws : List Text) → is_clean ws ≡ true → Parses flow_app ws None → answer (codes "flow") ws ≡ None
flow_none ws clean fails = go (flow_reads ws clean)
  where
    go : FlowReads ws → answer (codes "flow") ws ≡ None
    go (flow_taken source fault is_source is) = absurd (fails fault)
    go (flow_refused fault is) = is

pub record FlowFinds (ws : List Text) (f : Found) : Type 0 where
  pub source : Text
  pub is_source : first_value f (codes "source") ≡ Some source
  pub is : answer (codes "flow") ws ≡ Some (Flow source)

pub flow_some : (ws : List Text) (m : ArgMatches) → is_clean ws ≡ true → Parses flow_app ws (Some m) → FlowFinds ws (found_of m)
flow_some ws m clean parses = go (flow_reads ws clean)
  where
    go : FlowReads ws → FlowFinds ws (found_of m)
    go (flow_taken source fault is_source is) = record {
      source = source;
      is_source = text_at (found_of m) flow_app ws (codes "source") (Some source) parses.1 is_source;
      is = is;
    }
    go (flow_refused fault is) = absurd (fault parses.0)

module _ (ws : List Text) (f : Found) where
  pub flow_missing : FlowFinds ws f → None ≡ first_value f (codes "source") → None ≡ answer (codes "flow") ws
  flow_missing finds none = absurd (no_text finds.source (none ∙ finds.is_source))

  pub flow_answer : (source : Text) → FlowFinds ws f → Some source ≡ first_value f (codes "source") → Some (Flow source) ≡ answer (codes "flow") ws
  flow_answer source finds is_source = ap (λ s. Some (Flow s)) (some_text (is_source ∙ finds.is_source)) ∙ sym finds.is
