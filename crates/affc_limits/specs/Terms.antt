-- Terms: names with numbers, and the coefficients that they write.
use Rattle.std.specs.Prelude.{◌≡◌, ℕ, ◌*◌, ◌<◌, Bool, true, not, ◌&&◌, nat_lt, List, [], ◌∷◌, length, get_or, Option, Some, None, ℤ, pos, ◌+ℤ◌, ◌*ℤ◌, nat_abs, if◌then◌else◌}
use Rattle.std.specs.List.{list_any}
use Rattle.affc_lex.specs.Bytes.{same}
use Rattle.affc_grammar.specs.Grammar.{Name}
use Rattle.affc_limits.specs.declared.terms.Term.{Term}
use Rattle.affc_limits.specs.Digits.{capped}

-- whether a name has a term
abbrev pub has : Name → List Term → Bool
has w ts = list_any (λ t. same t.name w) ts

-- a term of the name stands there
abbrev pub IsAt : Name → List Term → ℕ → Type 0
IsAt w ts i = (i < length ts) × ((d : Term) → (get_or ts i d).name ≡ w)

-- no name has two terms
abbrev pub are_apart : List Term → Bool
are_apart [] = true
are_apart (t ∷ ts) = not (has t.name ts) && are_apart ts

abbrev pub AreApart : List Term → Type 0
AreApart ts = are_apart ts ≡ true

-- what a number at one name is at another
abbrev pub at_name : (own : Name) → ℤ → Name → ℤ
at_name own z w = if same own w then z else pos 0

abbrev pub coefficient : Name → List Term → ℤ
coefficient w [] = pos 0
coefficient w (t ∷ ts) = at_name t.name t.number w +ℤ coefficient w ts

-- times the scale, which is 1 where there is none
abbrev pub scaled : Option ℤ → ℤ → ℤ
scaled None z = z
scaled (Some s) z = z *ℤ s

-- whether a number times the scale is above 2^16 in magnitude
abbrev pub is_large : Option ℤ → ℤ → Bool
is_large s z = nat_lt 65536 (nat_abs (scaled s z))

abbrev pub any_large : Option ℤ → List Term → Bool
any_large s ts = list_any (λ t. is_large s t.number) ts

-- the same by numbers that are cut off at 2^32

abbrev pub size_of : Option ℤ → ℕ
size_of None = 1
size_of (Some s) = nat_abs (capped s)

abbrev pub is_large_by : (size : ℕ) → ℤ → Bool
is_large_by size z = nat_lt 65536 (nat_abs (capped z) * size)

abbrev pub any_large_by : (size : ℕ) → List Term → Bool
any_large_by size ts = list_any (λ t. is_large_by size t.number) ts
