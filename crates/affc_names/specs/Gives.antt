-- What a function answers, where memory is enough.
use Rattle.std.specs.Prelude.{◌≡◌, ℕ, Option, Some, None, Result, Ok, Err}
use Rattle.affc_grammar.specs.declared.fault.NameWhy.{NameWhy}
use Rattle.affc_grammar.specs.Names.{Checked, Scope}
use Rattle.affc_names.specs.declared.fault.NameFault.{NameFault}
use Rattle.affc_names.specs.declared.fault.NameFault.TheVariants.{Memory, Refused}

abbrev pub Fails : {A : Type 0} → NameFault → Checked A → Type 0
Fails Memory checked = Unit {0}
Fails (Refused at why) checked = checked ≡ Err (record { at = at; why = why })

abbrev pub Gives : {A : Type 0} → Result A NameFault → Checked A → Type 0
Gives (Ok a) checked = checked ≡ Ok a
Gives (Err f) checked = Fails f checked

-- and what is visible from then on
abbrev pub GivesWith : {A : Type 0} → Result A NameFault → Scope → Checked (A × Scope) → Type 0
GivesWith (Ok a) scope checked = checked ≡ Ok (a, scope)
GivesWith (Err f) scope checked = Fails f checked

-- the name of the token of this number is refused, where there is a reason
abbrev pub Allows : Result (Unit {0}) NameFault → Option NameWhy → ℕ → Type 0
Allows (Ok u) why at = why ≡ None
Allows (Err Memory) why at = ⊥
Allows (Err (Refused n w)) why at = (why ≡ Some w) × (n ≡ at)
