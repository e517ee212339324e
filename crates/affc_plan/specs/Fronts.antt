-- What is found of a beginning of a text.
use Rattle.std.specs.Prelude.{ℕ, ◌<◌, ◌≤◌, All, List, take}
use Rattle.affc_lex.specs.Lexes.{IsIn, Lexeme, Lexes, lexemes}
use Rattle.affc_plan.specs.declared.front.Tried.{Tried}
use Rattle.affc_plan.specs.declared.front.Tried.TheVariants.{Tokens, Shorter}

-- its tokens, or that none of the beginnings behind the place and up to its end have tokens
abbrev pub IsTried : (text : List ℕ) (to : ℕ) → Tried → Type 0
IsTried text to (Tokens v) = Lexes (take to text) (lexemes (take to text) v.items) × All (IsIn to) v.items
IsTried text to (Shorter at) = (at < to) × ((n : ℕ) (ts : List Lexeme) → at < n → n ≤ to → Lexes (take n text) ts → ⊥)
