-- Scopes in which the same names are refused.
use Rattle.std.specs.Prelude.{◌≡◌, false, length, Option, Some, None, if◌then◌else◌}
use Rattle.std.specs.Option.{option_or}
use Rattle.affc_lex.specs.Bytes.{same}
use Rattle.affc_grammar.specs.Draft.{ParamDraft, number_param, array_param}
use Rattle.affc_grammar.specs.Grammar.{Name}
use Rattle.affc_grammar.specs.Names.{Thing, function, number, array, Scope, thing_of}

-- what a name stands for, without its number
abbrev pub kind_of : Option Thing → Option Thing
kind_of None = None
kind_of (Some function) = Some function
kind_of (Some (number id it)) = Some (number 0 it)
kind_of (Some (array id role n)) = Some (array 0 role n)

pub record AreAlike (a b : Scope) : Type 0 where
  pub has_prelude : a.has_prelude ≡ b.has_prelude
  pub kinds : (w : Name) → kind_of (thing_of a w) ≡ kind_of (thing_of b w)

abbrev pub param_kind : ParamDraft → Name → Option Thing
param_kind (number_param v) w = if same v.name w then Some (number 0 false) else None
param_kind (array_param k) w = if same k.word.name w then Some (array 0 k.role (length k.extents)) else None

-- the parameter is visible where nothing else of its name is
pub record IsBeneath (q : ParamDraft) (old new : Scope) : Type 0 where
  pub has_prelude : new.has_prelude ≡ old.has_prelude
  pub kinds : (w : Name) → kind_of (thing_of new w) ≡ option_or (kind_of (thing_of old w)) (param_kind q w)

pub record NamesFunction (name : Name) (old new : Scope) : Type 0 where
  pub has_prelude : new.has_prelude ≡ old.has_prelude
  pub kinds : (w : Name) → kind_of (thing_of new w) ≡ option_or (kind_of (thing_of old w)) (if same name w then Some function else None)
