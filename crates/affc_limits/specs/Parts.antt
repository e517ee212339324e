-- Parts of expressions that are large, by their constants and coefficients.
use Rattle.std.specs.Prelude.{◌≡◌, ℕ, ◌+◌, ◌*◌, ◌≤◌, min, nat_le, Bool, false, Option, Some, None, IfSome, ℤ, if◌then◌else◌}
use Rattle.affc_grammar.specs.Grammar.{Name}
use Rattle.affc_grammar.specs.Draft as d
use Rattle.affc_grammar.specs.Limits.{constant_of, coefficient_of, first_token, large_parts}
use Rattle.affc_limits.specs.declared.parts.Form.{Form}
use Rattle.affc_limits.specs.Coefficients.{number_of}
use Rattle.affc_limits.specs.Places.{least}

-- A bound on the constant of an expression and on each of its coefficients, where it and that of each part are at most 2^16.

abbrev pub IsSmall : Option ℕ → Type 0
IsSmall size = IfSome size (λ n. n ≤ 65536)

abbrev pub small : ℕ → Option ℕ
small n = if nat_le n 65536 then Some n else None

abbrev pub size_of_sum : Option ℕ → Option ℕ → Option ℕ
size_of_sum None b = None
size_of_sum (Some n) None = None
size_of_sum (Some n) (Some m) = small (n + m)

abbrev pub size_of_product : Option ℕ → Option ℕ → Option ℕ
size_of_product None b = None
size_of_product (Some n) None = None
size_of_product (Some n) (Some m) = small (n * m)

abbrev pub size_of_choice : Option ℕ → Option ℕ → Option ℕ
size_of_choice None b = None
size_of_choice (Some n) None = None
size_of_choice (Some n) (Some m) = Some 0

abbrev pub size : d.IxDraft → Option ℕ
size (d.literal at n) = small n
size (d.name at w) = Some 1
size (d.negated at a) = size a
size (d.sum a b) = size_of_sum (size a) (size b)
size (d.difference a b) = size_of_sum (size a) (size b)
size (d.product at a b) = size_of_product (size a) (size b)
size (d.grouped at a) = size a
size (d.chosen at f a b) = size_of_choice (size a) (size b)
size (d.divided at f a by_at by) = size_of_choice (size a) (Some 0)

-- An expression, as it is seen in one pass.

pub record HasForm (e : d.IxDraft) (first : ℕ) (constant : ℤ) (coefficients : Name → ℤ) : Type 0 where
  pub first_is : first ≡ first_token e
  pub constant_is : constant ≡ constant_of e
  pub coefficients_are : (w : Name) → coefficients w ≡ coefficient_of w e

pub record IsForm (e : d.IxDraft) (f : Form) : Type 0 where
  pub has : HasForm e f.first f.constant (number_of f.coefficients)
  pub past : f.past ≡ least (large_parts e)

-- the least number of a token with which a part begins
abbrev pub least_token : d.IxDraft → ℕ
least_token (d.literal at n) = at
least_token (d.name at w) = at
least_token (d.negated at a) = min at (least_token a)
least_token (d.sum a b) = min (least_token a) (least_token b)
least_token (d.difference a b) = min (least_token a) (least_token b)
least_token (d.product at a b) = min (least_token a) (least_token b)
least_token (d.grouped at a) = min at (least_token a)
least_token (d.chosen at f a b) = min at (min (least_token a) (least_token b))
least_token (d.divided at f a by_at by) = min at (least_token a)

abbrev pub is_found_by : (before : Option ℕ) → (at : ℕ) → Bool
is_found_by None at = false
is_found_by (Some found) at = nat_le found at
