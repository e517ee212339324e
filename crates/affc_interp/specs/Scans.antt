-- What the parts of a line of data are, for the clauses of the parts.
use Rattle.std.specs.Prelude.{◌≡◌, ℕ, ◌^◌, ◌<◌, Vec, ℤ, Bool, true, false, not, ◌==◌, List, [], ◌∷◌, ◌++◌, decimal, Result, Ok, Err}
use Rattle.std.specs.declared.alloc.Global.{Global}
use Rattle.std.specs.Fmt.{signed_decimal}
use denote.Ref.{Bor}
use Rattle.affc_ast.specs.Index.{is_int64}
use Rattle.std.specs.Prelude.{IsTrue, pos, int_lt, if◌then◌else◌, ◌*◌}
use Rattle.affc_ast.specs.Meaning.{at_least_zero}
use Rattle.affc_lex.specs.Bytes.{is_digit, next_is}
use Rattle.affc_interp.specs.declared.feed.Stop.{Stop}
use Rattle.affc_interp.specs.declared.feed.Stop.TheVariants as stop
use Rattle.affc_interp.specs.DataText.{NumberLine, ArrayLine}

-- no digit goes on here
abbrev pub NoDigit : List ℕ → Type 0
NoDigit rest = next_is is_digit rest ≡ false

-- digits, of which none leads for nothing
abbrev pub is_plain : List ℕ → Bool
is_plain [] = false
is_plain (d ∷ []) = true
is_plain (d ∷ e ∷ more) = not (d == 48)

abbrev pub IsNatural : (text : List ℕ) → ℕ → (rest : List ℕ) → Type 0
IsNatural text v rest = (v < 2 ^ 64) × NoDigit rest × (text ≡ decimal v ++ rest)

abbrev pub NoNatural : (text : List ℕ) → Type 0
NoNatural text = (v : ℕ) (rest : List ℕ) → IsNatural text v rest → ⊥

abbrev pub IsInteger : (text : List ℕ) → ℤ → (rest : List ℕ) → Type 0
IsInteger text z rest = IsTrue (is_int64 z) × NoDigit rest × (text ≡ signed_decimal z ++ rest)

abbrev pub NoInteger : (text : List ℕ) → Type 0
NoInteger text = (z : ℤ) (rest : List ℕ) → IsInteger text z rest → ⊥

abbrev pub IsSpaced : (text : List ℕ) → ℕ → (rest : List ℕ) → Type 0
IsSpaced text v rest = (v < 2 ^ 64) × NoDigit rest × (text ≡ 32 ∷ (decimal v ++ rest))

abbrev pub NoSpaced : (text : List ℕ) → Type 0
NoSpaced text = (v : ℕ) (rest : List ℕ) → IsSpaced text v rest → ⊥

abbrev pub SpacedTo : (text : List ℕ) → List ℕ → (rest : List ℕ) → Type 0
SpacedTo text [] rest = text ≡ rest
SpacedTo text (v ∷ vs) rest = (next : List ℕ) × IsSpaced text v next × SpacedTo next vs rest

-- all of them that there are
abbrev pub IsSpacedList : (text : List ℕ) → List ℕ → (rest : List ℕ) → Type 0
IsSpacedList text vs rest = SpacedTo text vs rest × NoSpaced rest

-- a number's line, and no other is there
abbrev pub OneNumberLine : (name : List ℕ) → (low high : ℤ) → (text : List ℕ) → ℤ → (rest : List ℕ) → Type 0
OneNumberLine name low high text z rest = NumberLine name low high text z rest × ((y : ℤ) (more : List ℕ) → NumberLine name low high text y more → (z ≡ y) × (rest ≡ more))

abbrev pub AnswersLine : Result (Vec ℕ Global × Bor (List ℕ)) Stop → (name : List ℕ) → (count : ℕ) → (text : List ℕ) → Type 0
AnswersLine (Ok x) name count text = ArrayLine name count text x.0.items x.1.now
AnswersLine (Err stop.Wrong) name count text = (vs rest : List ℕ) → ArrayLine name count text vs rest → ⊥
AnswersLine (Err stop.Memory) name count text = Unit {0}

-- so many times m, where an extent is at least 1
abbrev pub counted : ℤ → (m : ℕ) → ℕ
counted n m = if int_lt n (pos 1) then 0 else at_least_zero n * m
