-- Affine forms as text: `i`, `-i + 2 * N - 1`, `-(2 * i) + 3`, `0`.
use Rattle.std.specs.Prelude.{ℕ, ℤ, pos, nat_abs, nat_lt, int_lt, Bool, if◌then◌else◌, List, [], ◌∷◌, ◌++◌, length, codes, decimal}
use Rattle.std.specs.Fmt.{signed_decimal}
use Rattle.affc_rows.specs.Forms.{Affine}
use Rattle.affc_grammar.specs.Grammar.{Name}
use Rattle.affc_schedtext.specs.Outline.{numbered_names}

-- a coefficient of a name
abbrev pub Term : Type 0
Term = ℤ × Name

-- so many times the name
abbrev pub times_text : ℕ → Name → List ℕ
times_text n w = if nat_lt 1 n then decimal n ++ codes " * " ++ w else w

abbrev pub negated_text : ℕ → Name → List ℕ
negated_text n w = if nat_lt 1 n then codes "-(" ++ times_text n w ++ codes ")" else codes "-" ++ w

-- a term that leads, and one behind others
abbrev pub leading : ℤ → Name → List ℕ
leading c w = if int_lt c (pos 0) then negated_text (nat_abs c) w else times_text (nat_abs c) w

abbrev pub sign_behind : ℤ → List ℕ
sign_behind c = if int_lt c (pos 0) then codes " - " else codes " + "

abbrev pub following : ℤ → Name → List ℕ
following c w = sign_behind c ++ times_text (nat_abs c) w

-- what is 0 is left out
abbrev pub is_there : ℤ → Bool
is_there c = nat_lt 0 (nat_abs c)

abbrev pub constant_behind : ℤ → List ℕ
constant_behind c = if is_there c then sign_behind c ++ decimal (nat_abs c) else []

-- behind a term that is written
abbrev pub more_text : List Term → (constant : ℤ) → List ℕ
more_text [] constant = constant_behind constant
more_text ((c, w) ∷ ts) constant = (if is_there c then following c w else []) ++ more_text ts constant

-- The terms in order, and the constant last. It stands alone where no term is written.
abbrev pub form_text : List Term → (constant : ℤ) → List ℕ
form_text [] constant = signed_decimal constant
form_text ((c, w) ∷ ts) constant = if is_there c then leading c w ++ more_text ts constant else form_text ts constant

-- a coefficient for each of these names
abbrev pub terms_of : List ℤ → List Name → List Term
terms_of (c ∷ cs) (w ∷ ws) = (c, w) ∷ terms_of cs ws
terms_of _ _ = []

-- a form over columns of these names
abbrev pub named_form : List Name → Affine → List ℕ
named_form ws f = form_text (terms_of f.coefs ws) f.constant

-- a form over the subscripts x0, x1, ..
abbrev pub row_text : Affine → List ℕ
row_text f = named_form (numbered_names (codes "x") 0 (length f.coefs)) f
