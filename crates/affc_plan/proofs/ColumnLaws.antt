-- Columns of names.
use Rattle.std.proofs.Common.{◌≡◌, ℕ, ◌<◌, Bool, true, false, not, ◌&&◌, nat_lt, cond, List, length, drop, Some, None, refl, arith}
use Rattle.std.specs.List.{prefix_len}
use Rattle.std.proofs.lemmas.Bool.Decides.{nat_tests}
use Rattle.affc_lex.specs.Bytes.{begins, decimal, same}
use Rattle.affc_lex.specs.Pieces.{is_number}
use Rattle.affc_grammar.specs.Grammar.{Name}
use Rattle.affc_schedtext.specs.Outline.{numbered, position}

-- a number that is answered where it is less
below_if : (n m j : ℕ) → cond (nat_lt n m) (Some n) None ≡ Some j → j < m
below_if n m j e = grind (arith, nat_tests)

pub position_within : (w : Name) (vs : List Name) (j : ℕ) → position w vs ≡ Some j → j < length vs
position_within w vs j e = below_if (prefix_len (λ v. not (same v w)) vs) (length vs) j e

pub numbered_within : (letter : List ℕ) (count : ℕ) (w : Name) (j : ℕ) → numbered letter count w ≡ Some j → j < count
numbered_within letter count w j e = by (begins letter w && is_number (drop 1 w)) (nat_lt (decimal (drop 1 w)) count) refl e
  where
    by : (a b : Bool) → nat_lt (decimal (drop 1 w)) count ≡ b → cond (a && b) (Some (decimal (drop 1 w))) None ≡ Some j → j < count
    by true true q h = grind (arith, nat_tests)
    by true false q h = absurd (cc)
    by false b q h = absurd (cc)

pub ruleset names = (position_within, numbered_within)
