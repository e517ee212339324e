-- What was declared stays visible.
use Rattle.std.proofs.Common.{◌≡◌, Bool, true, false, Option, Some, None, is_some, refl, sym, ap, ◌∙◌, if◌then◌else◌}
use Rattle.std.specs.List.{find}
use Rattle.affc_lex.specs.Bytes.{same}
use Rattle.affc_grammar.specs.Grammar.{Name}
use Rattle.affc_grammar.specs.Names.{Thing, Scope, thing_of, why_declared, with_thing}
use Rattle.affc_cprint.proofs.Spelled.{not_true, never}
use Rattle.affc_cprint.proofs.Sees.{same_is, same_self, declared_none}

abbrev pub IsVisible : Scope → Name → Type 0
IsVisible scope w = is_some (thing_of scope w) ≡ true

-- a thing of another name changes nothing
pub other_thing : (scope : Scope) (v w : Name) (thing : Thing) → same v w ≡ false → thing_of (with_thing scope v thing) w ≡ thing_of scope w
other_thing scope v w thing h = ap (λ b. elim (if b then Some (record { name = v; thing = thing }) else find (λ x. same x.name w) scope.visible) as (λ x. Option Thing) [ None ↦ None | Some x ↦ Some x.thing ]) h

pub some_true : {A : Type 0} (o : Option A) (a : A) → o ≡ Some a → is_some o ≡ true
some_true o a e = ap is_some e

pub new_is_seen : (scope : Scope) (v : Name) (thing : Thing) → thing_of (with_thing scope v thing) v ≡ Some thing
new_is_seen scope v thing = ap (λ b. elim (if b then Some (record { name = v; thing = thing }) else find (λ x. same x.name v) scope.visible) as (λ x. Option Thing) [ None ↦ None | Some x ↦ Some x.thing ]) (same_self v)

pub still_visible : (scope : Scope) (v w : Name) (thing : Thing) → IsVisible scope w → IsVisible (with_thing scope v thing) w
still_visible scope v w thing h = of (same v w) refl
  where
    of : (b : Bool) → same v w ≡ b → IsVisible (with_thing scope v thing) w
    of true e = ap (λ x. is_some (thing_of (with_thing scope v thing) x)) (sym (same_is v w e)) ∙ ap is_some (new_is_seen scope v thing)
    of false e = ap is_some (other_thing scope v w thing e) ∙ h

-- a name that is visible isn't one that may be declared
pub declared_apart : (scope : Scope) (it : Bool) (v w : Name) → why_declared scope it v ≡ None → IsVisible scope w → (same v w ≡ false) × (same w v ≡ false)
declared_apart scope it v w declared visible =
    let none = (declared_none scope it v declared).0 in (
      not_true (same v w) (λ e. never visible (ap (λ x. is_some (thing_of scope x)) (sym (same_is v w e)) ∙ none)),
      not_true (same w v) (λ e. never visible (ap (λ x. is_some (thing_of scope x)) (same_is w v e) ∙ none)),
    )
