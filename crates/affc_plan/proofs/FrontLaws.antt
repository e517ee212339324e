-- Beginnings of a text that have tokens.
use Rattle.std.proofs.Common.{◌≡◌, ℕ, ◌-◌, ◌<◌, ◌≤◌, Bool, true, false, nat_lt, List, take, Option, Some, None, refl, subst, arith}
use Rattle.std.specs.Prelude.{MatchOption}
use Rattle.std.proofs.lemmas.Bool.{ltb-true, ltb-false}
use Rattle.affc_lex.specs.declared.token.LexFault.TheVariants.{BadByte, LongNumber, Memory}
use Rattle.affc_lex.specs.Lexes.{Lexeme, Lexes}

pub no_byte : (at : ℕ) → BadByte at ≡ Memory → ⊥
no_byte at e = cc

pub no_number : (at : ℕ) → LongNumber at ≡ Memory → ⊥
no_number at e = cc

pub none_of : {V : Type 0} (Q : Type 0) (P : V → Type 0) (o : Option V) → o ≡ None → MatchOption o Q P → Q
none_of Q P None e h = h
none_of Q P (Some v) e h = absurd (cc)

-- a beginning that has none, where nothing is known of shorter ones
pub one_less : (text : List ℕ) (to : ℕ) → 0 < to → ((ts : List Lexeme) → Lexes (take to text) ts → ⊥) → (to - 1 < to) × ((n : ℕ) (ts : List Lexeme) → to - 1 < n → n ≤ to → Lexes (take n text) ts → ⊥)
one_less text to some none = (omega (arith, some), λ n ts lt le x. none ts (subst (λ m. Lexes (take m text) ts) (let same : n ≡ to = omega (arith, lt, le, some) in same) x))

-- beginnings that have none, behind others
pub none_more : (text : List ℕ) (at to place : ℕ) → ((n : ℕ) (ts : List Lexeme) → at < n → n ≤ to → Lexes (take n text) ts → ⊥)
    → ((n : ℕ) (ts : List Lexeme) → to < n → n ≤ place → Lexes (take n text) ts → ⊥) → (n : ℕ) (ts : List Lexeme) → at < n → n ≤ place → Lexes (take n text) ts → ⊥
none_more text at to place here h n ts lt le x = by (nat_lt to n) refl
  where
    by : (b : Bool) → nat_lt to n ≡ b → ⊥
    by true e = h n ts (ltb-true to n e) le x
    by false e = here n ts lt (ltb-false to n e) x
