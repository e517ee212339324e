-- What a use of a plain argument does: one with a value, and with no rule on others.
use Rattle.std.proofs.Common.{◌≡◌, ◌∙◌, ◌||◌, ℕ, Bool, true, false, List, [], ◌∷◌, ◌++◌, map, Option, Some, None, refl, ap, append-nil}
use Rattle.std.proofs.lemmas.Bool.{or_parts}
use Rattle.std.specs.Option.{is_some}
use Rattle.std.specs.Str.{bytes_eq}
use Rattle.clap.specs.Walk.{Row, Rule, at_row, first_of, has_row, more_values, used}
use Rattle.clap.specs.Takes.{is_given as is_given_row}
use Rattle.clap.specs.Kinds.{Kinds, or_else}
use Rattle.clap.specs.Faults.{use_fault}
use Rattle.clap.specs.Values.{reading_of}
use Rattle.clap.specs.declared.builder.action.ArgAction.TheVariants.{Set}
use Rattle.clap.specs.declared.builder.value_parser.ValueParser.TheVariants as vp
use Rattle.clap.specs.declared.parser.matches.ValueSource.TheVariants.{CommandLine}
use Rattle.affc_words.specs.Command.{value_of}
use Rattle.affc_words.proofs.Clap.Uses.{Text, Uses, given}

-- an argument with one value, as building leaves it
abbrev pub plain_rule : (id : Text) (long : Option Text) (index : Option ℕ) (required : Bool) → Rule
plain_rule id long index required = record {
  id = id;
  long = long;
  aliases = [];
  short = None;
  short_aliases = [];
  index = index;
  action = Some Set;
  range = Some (record { start_inclusive = 1; end_inclusive = 1 });
  value_names = 0;
  defaults = [];
  missing = [];
  trailing_var_arg = false;
  parser = Some vp.String;
  ignore_case = false;
  required = required;
  is_simple = true;
  is_free = true;
}

abbrev pub row_for : Text × Text → Row
row_for u = record { id = u.0; values = u.1 ∷ []; count = None; source = Some CommandLine; reading = reading_of vp.String }

abbrev pub rows_for : Uses → List Row
rows_for uses = map row_for uses

pub has_row-rows_for : (x : Text) (uses : Uses) → has_row x (rows_for uses) ≡ given x uses
has_row-rows_for x [] = refl
has_row-rows_for x (u ∷ uses) = ap (λ b. bytes_eq u.0 x || b) (has_row-rows_for x uses)

pub first_of-rows_for : (x : Text) (uses : Uses) → first_of x (rows_for uses) ≡ value_of x uses
first_of-rows_for x [] = refl
first_of-rows_for x (u ∷ uses) = go (bytes_eq u.0 x) refl (first_of-rows_for x uses)
  where
    go : (t : Bool) → bytes_eq u.0 x ≡ t → first_of x (rows_for uses) ≡ value_of x uses → first_of x (rows_for (u ∷ uses)) ≡ value_of x (u ∷ uses)
    go true e rest = rw e refl
    go false e rest = rw e rest

pub is_given-rows_for : (x : Text) (uses : Uses) → is_given_row x (rows_for uses) ≡ is_some (value_of x uses)
is_given-rows_for x [] = refl
is_given-rows_for x (u ∷ uses) = go (bytes_eq u.0 x) refl (is_given-rows_for x uses)
  where
    go : (t : Bool) → bytes_eq u.0 x ≡ t → is_given_row x (rows_for uses) ≡ is_some (value_of x uses) → is_given_row x (rows_for (u ∷ uses)) ≡ is_some (value_of x (u ∷ uses))
    go true e rest = rw e refl
    go false e rest = rw e rest

at_row-missing : (id : Text) (change : Row → List Row) (missing rows : List Row) → has_row id rows ≡ false → at_row id change missing rows ≡ rows ++ missing
at_row-missing id change missing [] e = refl
at_row-missing id change missing (r ∷ rows) e =
    let parts = or_parts (bytes_eq r.id id) (has_row id rows) e in
    rw parts.0 (ap (λ rs. r ∷ rs) (at_row-missing id change missing rows parts.1))

module _ (id : Text) (long : Option Text) (index : Option ℕ) (required : Bool) where
  -- a first use leaves its row behind the others
  pub used-fresh : (value : Text) (rows : List Row) → has_row id rows ≡ false → used (plain_rule id long index required) (value ∷ []) rows ≡ rows ++ row_for (id, value) ∷ []
  used-fresh value rows e =
      let kept : at_row id (λ _. []) [] rows ≡ rows = at_row-missing id (λ _. []) [] rows e ∙ append-nil rows in
      rw kept (at_row-missing id (more_values CommandLine (value ∷ [])) (row_for (id, value) ∷ []) rows e)

  pub use_fault-fresh : (value : Text) (rows : List Row) → has_row id rows ≡ false → use_fault false (plain_rule id long index required) (value ∷ []) rows ≡ []
  use_fault-fresh value rows e = rw e refl

  pub use_fault-again : (value : Text) (rows : List Row) → has_row id rows ≡ true → use_fault false (plain_rule id long index required) (value ∷ []) rows ≡ [] → ⊥
  use_fault-again value rows e none = let bad = rw e at none in cc

  -- a use with no value
  pub use_fault-none : (rows : List Row) → use_fault false (plain_rule id long index required) [] rows ≡ [] → ⊥
  use_fault-none rows none = cc

pub or_else-nil : (kinds : Kinds) → or_else kinds [] ≡ kinds
or_else-nil [] = refl
or_else-nil (k ∷ kinds) = refl

pub or_else-first : (a b : Kinds) → or_else a b ≡ [] → a ≡ []
or_else-first [] b e = refl
or_else-first (k ∷ a) b e = e

pub or_else-second : (a b : Kinds) → or_else a b ≡ [] → b ≡ []
or_else-second [] b e = e
or_else-second (k ∷ a) b e = absurd bad
  where
    bad : ⊥
    bad = cc
