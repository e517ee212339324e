-- What a form's words come to behind clap's walk: the arguments that are wanted, and what is found.
use Rattle.std.proofs.Common.{◌≡◌, ◌∙◌, ◌&&◌, ◌||◌, ℕ, Bool, cond, true, false, not, List, [], ◌∷◌, ◌++◌, length, Option, None, refl, ap, arith}
use Rattle.std.specs.Prelude.{fold}
use Rattle.std.specs.Option.{is_some}
use Rattle.std.specs.Str.{bytes_eq}
use Rattle.std.proofs.lemmas.Bool.{and_parts}
use Rattle.clap.specs.Walk.{Row, Rule, Walk, first_of, has_row, idle, nothing_held, walk_from, walked, with_default}
use Rattle.clap.specs.Takes.{is_given as is_given_row}
use Rattle.clap.specs.Kinds.{Kinds, or_else}
use Rattle.clap.specs.Faults.{check_fault, default_fault, defaults_fault, level_fault, settle_fault, walk_fault}
use Rattle.affc_words.specs.Command.{among, are_options, parts_of, value_of, without}
use Rattle.affc_words.specs.Parsed.{is_clean}
use Rattle.affc_words.proofs.Clap.Uses.{Text, Uses, among-without, names_differ, not_same, paired}
use Rattle.affc_words.proofs.Clap.Plain.{plain_rule, first_of-rows_for, is_given-rows_for}
use Rattle.affc_words.proofs.Clap.Turns.{between, faults, ended, form_shape}
use Rattle.affc_words.proofs.Clap.Stands.{HasOptions, Stands}
use Rattle.affc_words.proofs.Clap.Verdicts.{Both, Verdict}
use Rattle.affc_words.proofs.Clap.Walks.{walks}

-- where the walk begins
abbrev pub first : Walk
first = between nothing_held idle 1 false

-- a name that no option has
pub not_value : (x : Text) (names : List Text) (options : Uses) → are_options names options ≡ true → among x names ≡ false → value_of x options ≡ None
not_value x names [] e none = refl
not_value x names (o ∷ options) e none =
    let parts = and_parts (among o.0 names) (are_options (without o.0 names) options) e in
    let less : among x (without o.0 names) ≡ false = among-without x o.0 names ∙ ap (λ b. b && not (bytes_eq o.0 x)) none in
    let miss : bytes_eq o.0 x ≡ false = not_same o.0 x (names_differ o.0 x names parts.0 none) in
    rw miss (not_value x (without o.0 names) options parts.1 less)

-- ---- No argument has a default

module _ (id : Text) (long : Option Text) (index : Option ℕ) (required : Bool) (rows : List Row) where
  pub no_default : with_default rows (plain_rule id long index required) ≡ rows
  no_default = go (has_row id rows)
    where
      go : (b : Bool) → cond b rows rows ≡ rows
      go true = refl
      go false = refl

  pub no_default_fault : default_fault rows (plain_rule id long index required) ≡ []
  no_default_fault = go (has_row id rows) _
    where
      go : (b : Bool) (kinds : Kinds) → cond (b || true) [] kinds ≡ []
      go true kinds = refl
      go false kinds = refl

or_else-assoc : (a b c : Kinds) → or_else a (or_else b c) ≡ or_else (or_else a b) c
or_else-assoc [] b c = refl
or_else-assoc (k ∷ a) b c = refl

module _ (name : Text) (c : List Rule) where
  abbrev pub HasNoDefaults : Type 0
  HasNoDefaults = (rows : List Row) → (defaults_fault rows c ≡ []) × (fold with_default rows c ≡ rows)

  -- the faults of the words, and of what is wanted behind them
  abbrev pub level : List Text → Kinds
  level ws = or_else (faults name c first ws) (check_fault (form_shape name c) (ended name c first ws) false)

  pub level_fault-is : HasNoDefaults → (ws : List Text) → level_fault (form_shape name c) [] nothing_held ws false [] ≡ level ws
  level_fault-is none ws =
      let rows = ended name c first ws in
      let end = (fold (walked c []) first ws).held in
      rw ((none rows).0, (none rows).1)
      (or_else-assoc (walk_fault (form_shape name c) [] (walk_from nothing_held) ws) (settle_fault c false end) (check_fault (form_shape name c) rows false))

  -- words without fault fail only for what is wanted
  pub level-faultless : (ws : List Text) → faults name c first ws ≡ [] → level ws ≡ check_fault (form_shape name c) (ended name c first ws) false
  level-faultless ws none = ap (λ k. or_else k (check_fault (form_shape name c) (ended name c first ws) false)) none

  module _ (ids names : List Text) where
    pub read : (ws : List Text) → HasOptions c names → Stands c names [] ids names 1 → is_clean ws ≡ true
        → Verdict [] ids names (parts_of None ws) (faults name c first ws) (ended name c first ws)
    read ws options start clean =
        walks name c names options (length ws) ws [] ids names nothing_held 1 (omega arith) clean (record { fault = refl; rows = refl }) start

    module _ (ws : List Text) (b : Both [] ids names (parts_of None ws) (faults name c first ws) (ended name c first ws)) where
      abbrev uses : Uses
      uses = paired ids b.parts.operands ++ b.parts.options

      pub found : (x : Text) → first_of x (ended name c first ws) ≡ value_of x uses
      found x = ap (first_of x) b.rows_are ∙ first_of-rows_for x b.final ∙ b.values x

      pub is_found : (x : Text) → is_given_row x (ended name c first ws) ≡ is_some (value_of x uses)
      is_found x = ap (is_given_row x) b.rows_are ∙ is_given-rows_for x b.final ∙ ap is_some (b.values x)
